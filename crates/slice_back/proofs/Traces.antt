-- A replay that is gone through to its end.
use Rattle.slice_back.proofs.Common.{◌≡◌, ◌≤◌, ℕ, length, List, Replayed, noted, up_to}
use Rattle.slice_back.specs.declared.error.SliceError.TheVariants as ends
use Rattle.slice_back.specs.Tracing.{Tracing, reached}

-- what is noted so far, with what the rows that are left add, is what the whole replay gives
pub record TracedSoFar (ic : ℕ) (loads : List (ℕ × ℕ)) (whole left : Replayed) (t : Tracing) : Type 0 where
  pub outcome : left.outcome ≡ whole.outcome
  pub noted : reached t left.rows ≡ up_to ic (noted loads whole.rows)
  pub rest : length left.rows ≤ length whole.rows
