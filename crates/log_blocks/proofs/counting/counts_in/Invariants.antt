use Rattle.log_blocks.proofs.Common.{◌≡◌, ℕ, ◌+◌, ◌≤◌, List, drop, Record, total, header_count}
use Rattle.log_blocks.proofs.counting.counts_in.Given as goal

-- the first k records are counted
pub record CountedTo (rs : List Record) (k intervals bytes : ℕ) : Type 0 where
  pub intervals_are : intervals + header_count (drop k rs) ≡ header_count rs
  pub bytes_are : bytes + total (drop k rs) ≡ total rs
  pub few : intervals ≤ k

abbrev pub invariant-loop-place : goal.invariant-loop-place
invariant-loop-place l = CountedTo l.records l.place l.intervals l.bytes
