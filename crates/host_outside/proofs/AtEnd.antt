-- What one read tells of the end.
use Rattle.std.proofs.Common.{◌≡◌, ◌≤◌, ◌<◌, ℕ, List, ◌++◌, length, take, Option, Some, None, ap, ◌∙◌, sym, arith, length-append}
use Rattle.std.proofs.lemmas.List.{length-take-le}
use Rattle.std.specs.Io.KnownBytes.{Consumes, IsAtEnd}
use Rattle.bn_outside.specs.Streams.{EndsExactly}

-- a read that answers 0 only at the end answers it exactly there, since no byte of none can be moved
pub ends_exactly : (old new : Option (List ℕ)) (n : ℕ) (buffer : List ℕ) → n ≤ length buffer → Consumes old new (take n buffer) → (n ≡ 0 → 0 < length buffer → IsAtEnd new) → EndsExactly old n buffer
ends_exactly None new n buffer bound p e = tt
ends_exactly (Some left) None n buffer bound p e = absurd p
ends_exactly (Some left) (Some rest) n buffer bound p e = λ room. (
  λ zero. p ∙ (ap (λ m. m ++ rest) (ap (λ k. take k buffer) zero) ∙ e zero room),
  λ none. omega (arith, length-take-le n buffer bound, ap length (sym none ∙ p), length-append (take n buffer) rest),
)
