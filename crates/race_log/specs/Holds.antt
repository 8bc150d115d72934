-- Counts that represent a set of points.
use Rattle.std.specs.Prelude.{◌≡◌, ℕ, suc, ◌<◌, ◌⊎◌, List, slice_get, Some, true}
use Rattle.race_log.specs.Points.{Point}
use Rattle.race_log.specs.Netzer.{Before}
use Rattle.race_log.specs.Merges.{is_of_hart}

-- place m is place k or before it
abbrev pub UpTo : List Point → ℕ → ℕ → Type 0
UpTo run m k = (m ≡ k) ⊎ Before run m k

-- place m is, or is before, a place of the hart's points
abbrev pub OwnUpTo : List Point → ℕ → ℕ → Type 0
OwnUpTo run hart m = (q : ℕ) × (is_of_hart hart (slice_get run q) ≡ true) × UpTo run m q

-- of each hart the points in the set are those below its count, which is no higher than it has to be
pub record CountsOf (run : List Point) (S : ℕ → Type 0) (counts : ℕ → ℕ) : Type 0 where
  pub covers : (m : ℕ) (p : Point) → slice_get run m ≡ Some p → p.count < counts p.hart → S m
  pub covered : (m : ℕ) (p : Point) → slice_get run m ≡ Some p → S m → p.count < counts p.hart
  pub exact : (hart : ℕ) → (counts hart ≡ 0)
      ⊎ ((m : ℕ) × (p : Point) × (slice_get run m ≡ Some p) × S m × (p.hart ≡ hart) × (counts hart ≡ suc p.count))

-- for each hart the number of its points that are place n's or before it
abbrev pub TimesOf : List Point → ℕ → (ℕ → ℕ) → Type 0
TimesOf run n counts = CountsOf run (λ m. UpTo run m n) counts
