-- Sums over the last marks of harts.
use Rattle.bugnet.proofs.Common.{◌≡◌, ℕ, ◌+◌, ◌*◌, ◌^◌, ◌≤◌, List, drop, Option, EndMark, instructions_of}

-- the counts of the first k marks sum to this, and each is below 2 ^ 64
pub record Summing (marks : List (Option EndMark)) (k sum : ℕ) : Type 0 where
  pub so_far : sum + instructions_of (drop k marks) ≡ instructions_of marks
  pub bound : sum ≤ k * 2 ^ 64
