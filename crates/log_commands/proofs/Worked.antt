-- The saves of small logs, worked out.
use Rattle.log_commands.proofs.Common.{◌≡◌, ◌∷◌, ◌++◌, [], List, ap, ◌∙◌, sym, refl, arith, Call, FileCall, Saves, SavesTold, saves_of, noted_after, no_names, Log, Book}
use Rattle.log_commands.specs.Examples.{by_size, a_log, a_recording}

pub saves_are : saves_of a_recording ≡ Saves Log (7 ∷ 8 ∷ []) ∷ Saves Book (0 ∷ []) ∷ []
saves_are = refl

pub sizes_are : noted_after by_size no_names 0 (saves_of a_recording) ≡ 5
sizes_are = refl

-- the calls that were made are none, or the one save
front : (made left : List FileCall) → saves_of a_log ≡ made ++ left → 1 ≡ noted_after by_size no_names 0 made → ⊥
front [] left parts noted = omega (arith, noted)
front (c ∷ []) left parts noted =
    let first : Saves Log (7 ∷ 8 ∷ []) ≡ c = cc in
    omega (arith, noted ∙ sym (ap (λ (x : FileCall). noted_after by_size no_names 0 (x ∷ [])) first))
front (c ∷ d ∷ made) left parts noted = absurd cc

pub empty_is_none : (k : Call) → SavesTold no_names (saves_of a_log) 9 by_size 0 1 k → ⊥
empty_is_none k s = front s.made s.left s.parts s.noted
