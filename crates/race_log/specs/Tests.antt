-- Netzer's rule by tests that compute.
use Rattle.std.specs.Prelude.{ℕ, zero, suc, Bool, false, not, ◌&&◌, ◌||◌, List, [], ◌∷◌, ◌++◌, ◌==◌, nat_lt, slice_get, Option, Some, None, length, cond, map}
use Rattle.std.specs.List.{list_any}
use Rattle.race_log.specs.Points.{Point, Access}

-- whether the point reads or writes the word
abbrev pub touches : ℕ → Point → Bool
touches word p = list_any (λ x. x.word == word) p.accesses

-- whether the point writes the word
abbrev pub writes_word : ℕ → Point → Bool
writes_word word p = list_any (λ x. (x.word == word) && x.writes) p.accesses

-- whether two accesses are to one word, and one of them writes it
abbrev pub clashes : Access → Access → Bool
clashes x y = (x.word == y.word) && (x.writes || y.writes)

-- whether two points conflict
abbrev pub is_conflict : Point → Point → Bool
is_conflict p q = not (p.hart == q.hart) && list_any (λ x. list_any (clashes x) q.accesses) p.accesses

-- whether two points are of one hart
abbrev pub is_same_hart : Point → Point → Bool
is_same_hart p q = p.hart == q.hart

-- whether there are both points, and they pass
abbrev pub of_both : (Point → Point → Bool) → Option Point → Option Point → Bool
of_both test None q = false
of_both test (Some p) None = false
of_both test (Some p) (Some q) = test p q

-- whether place m is before place n, and the points that stand there pass
unfoldable pub at_places : (Point → Point → Bool) → List Point → ℕ → ℕ → Bool
at_places test run m n = nat_lt m n && of_both test (slice_get run m) (slice_get run n)

-- whether n's point is a later one of m's hart
abbrev pub program_order : List Point → ℕ → ℕ → Bool
program_order run = at_places is_same_hart run

-- whether n's point is a later one that conflicts with m's
abbrev pub conflict : List Point → ℕ → ℕ → Bool
conflict run = at_places is_conflict run

-- whether it is a step of the one kind or of the other
abbrev pub either : (ℕ → ℕ → Bool) → (ℕ → ℕ → Bool) → ℕ → ℕ → Bool
either first second m n = first m n || second m n

-- whether a chain leads from m to n by way of places below k alone: its last step comes from one of these,
-- which is m or which a chain leads to
unfoldable pub leads : (ℕ → ℕ → Bool) → ℕ → ℕ → ℕ → Bool
leads step m zero n = false
leads step m (suc k) n = (step k n && ((m == k) || leads step m k k)) || leads step m k n

-- whether a number below n passes
unfoldable pub any_below : (ℕ → Bool) → ℕ → Bool
any_below test zero = false
any_below test (suc n) = test n || any_below test n

-- whether a chain of program order and conflicts leads from m to n
unfoldable pub before : List Point → ℕ → ℕ → Bool
before run m n = leads (either (program_order run) (conflict run)) m n n

-- whether m and n conflict, with no third point after m and before n
unfoldable pub edge : List Point → ℕ → ℕ → Bool
edge run m n = conflict run m n && not (any_below (λ k. before run m k && before run k n) n)

-- the numbers below n that pass, the greatest first
unfoldable pub greatest_first : (ℕ → Bool) → ℕ → List ℕ
greatest_first test zero = []
greatest_first test (suc n) = cond (test n) (n ∷ greatest_first test n) (greatest_first test n)

-- the sources of the edges into place n, the latest first
unfoldable pub edges_into : List Point → ℕ → List ℕ
edges_into run n = greatest_first (λ m. edge run m n) n

-- the hart and count of the point, if there is one
abbrev pub name_of : Option Point → ℕ × ℕ
name_of None = (0, 0)
name_of (Some p) = (p.hart, p.count)

-- the points, by hart and count, that the edges into place n come from, the latest first
abbrev pub sources_into : List Point → ℕ → List (ℕ × ℕ)
sources_into run n = map (λ m. name_of (slice_get run m)) (edges_into run n)

-- the edges into the first n points, each as the point that it leads to and the one that it comes from
unfoldable pub edges_of_first : List Point → ℕ → List ((ℕ × ℕ) × (ℕ × ℕ))
edges_of_first run zero = []
edges_of_first run (suc n) = edges_of_first run n ++ map (λ source. (name_of (slice_get run n), source)) (sources_into run n)

-- all edges of the run, in the order of the points that they lead to, and of those into one point the latest source first
abbrev pub all_edges : List Point → List ((ℕ × ℕ) × (ℕ × ℕ))
all_edges run = edges_of_first run (length run)
