-- How many accesses are kept, and which of them a sweep gives up.
use Rattle.std.specs.Prelude.{◌≡◌, ℕ, zero, suc, ◌+◌, ◌-◌, ◌*◌, ◌^◌, ◌==◌, min, nat_lt, Bool, true, not, ◌&&◌, List, length, filter, Option, Some, None, if◌then◌else◌}
use Rattle.std.specs.Int.{bit_at}
use Rattle.std.specs.List.{list_any}
use Rattle.vector_time.specs.declared.times.Times.{Times}
use Rattle.vector_time.specs.Times.{count_of}
use Rattle.race_log.specs.Points.{Point}
use Rattle.race_log.specs.Tests.{touches}
use Rattle.race_log.specs.Kept.{Kept}

-- whether a set of harts, a number with one bit for each, has the hart
abbrev pub has_bit : ℕ → ℕ → Bool
has_bit set hart = bit_at set hart == 1

-- whether all numbers below n pass
unfoldable pub all_below : (ℕ → Bool) → ℕ → Bool
all_below test zero = true
all_below test (suc n) = all_below test n && test n

-- whether the times cover the hart's point at the count; if there are none, each point is covered
abbrev pub is_covered : Option Times → (hart count : ℕ) → Bool
is_covered None hart count = true
is_covered (Some times) hart count = nat_lt count (count_of times hart)

-- the kept accesses whose points the times don't cover
abbrev pub uncovered : Option Times → List Kept → List Kept
uncovered times ks = filter (λ k. not (is_covered times k.hart k.ic)) ks

-- of what was kept, what the times cover was given up: so many accesses
pub record GivesUp (times : Option Times) (count : ℕ) (old new : List Kept) : Type 0 where
  pub left : new ≡ uncovered times old
  pub gone : count + length new ≡ length old

-- the sum of what the numbers below n give
unfoldable pub sum_below : (ℕ → ℕ) → ℕ → ℕ
sum_below f zero = 0
sum_below f (suc n) = sum_below f n + f n

-- how many accesses are kept of the first n words
abbrev pub held_below : (ℕ → List Kept) → ℕ → ℕ
held_below kept n = sum_below (λ i. length (kept (4 * i))) n

-- how many of the first n words some point of the run accesses
abbrev pub accessed_below : List Point → ℕ → ℕ
accessed_below run n = sum_below (λ i. if list_any (touches (4 * i)) run then 1 else 0) n

-- one access more since the last sweep; at the greatest number of 64 bits the count stays
abbrev pub one_more : ℕ → ℕ
one_more n = min (n + 1) (2 ^ 64 - 1)
