-- A code segment that is kept from one fetch to the next.
use Rattle.std.specs.Prelude.{◌≡◌, ℕ, true, Some}
use Rattle.bn_base.specs.Programs.{Program, Part, is_in, part_at}

-- an executable part of a program: the one part that its addresses are in
pub record IsCode (i : Program) (p : Part) : Type 0 where
  pub executable : p.executable ≡ true
  pub own : (a : ℕ) → is_in p a ≡ true → part_at i.parts a ≡ Some p
