-- Laws of the records of an interval, by their names: a proof elsewhere takes them under these.
use Rattle.std.specs.Prelude.{◌≡◌, ℕ, ◌+◌, List}
use Rattle.hart_replay.specs.Replay.{logged}
use Rattle.hart_replay.specs.Scans.{due, met, IsWaiting}

-- the first load of a place is the one that is due there; after it the places are counted from the one that was met
pub record AreMetByPlace : Type 0 where
  pub here : (skipped : ℕ) (rs : List (ℕ × ℕ)) → IsWaiting skipped rs → logged rs skipped ≡ due skipped rs
  pub behind : (skipped : ℕ) (rs : List (ℕ × ℕ)) (k : ℕ) → logged rs (skipped + 1 + k) ≡ logged (met skipped rs).loads ((met skipped rs).skipped + k)
