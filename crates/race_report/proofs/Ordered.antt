-- Counts tell which points are ordered before a point, and the words that two points share.
use Rattle.race_report.proofs.Common.{◌≡◌, ◌≢◌, ◌↔◌, inl, inr, ℕ, nat_lt, Bool, true, false, IsTrue, cond, refl, ap, List, [], ◌∷◌, map, filter, slice_get, Some, list_any, Point, Access, Before, before, clashes, IsInOrder, Leads, IsTimesOf, IsUpTo, shared, both_ways, lt-ltb, ltb-true}

abbrev pub TestsDecide : Type 0
TestsDecide = (run : List Point) (m n : ℕ) → IsTrue (before run m n) ↔ Before run m n

abbrev pub PlacesStandForCounts : Type 0
PlacesStandForCounts = (run : List Point) → IsInOrder run → (m n : ℕ) (p q : Point) → slice_get run m ≡ Some p → slice_get run n ≡ Some q → Before run m n ↔ Leads run p.hart p.count q.hart q.count

pub ordered_is : TestsDecide → PlacesStandForCounts → (run : List Point) (k n : ℕ) (p q : Point) (counts : ℕ → ℕ) → IsInOrder run → slice_get run k ≡ Some p → slice_get run n ≡ Some q → IsTimesOf run q counts
    → p.hart ≢ q.hart → before run k n ≡ nat_lt p.count (counts p.hart)
ordered_is tests places run k n p q counts order at_k at_n times apart =
    both_ways (before run k n) (nat_lt p.count (counts p.hart))
    (λ e. lt-ltb p.count (counts p.hart) ((times p.hart p.count).1 (inr ((places run order k n p q at_k at_n).0 ((tests run k n).0 e)))))
    (λ e. (tests run k n).1 (by ((times p.hart p.count).0 (ltb-true p.count (counts p.hart) e))))
  where
    by : IsUpTo run p.hart p.count q → Before run k n
    by (inl same) = absurd (apart same.0)
    by (inr leads) = (places run order k n p q at_k at_n).1 leads

pub shared_is : (first : List Access) (writes : Bool) (ws : List ℕ)
    → shared first (map (λ w. record { word = w; writes = writes }) ws) ≡ filter (λ w. list_any (λ y. clashes y (record { word = w; writes = writes })) first) ws
shared_is first writes [] = refl
shared_is first writes (w ∷ ws) = by (list_any (λ y. clashes y (record { word = w; writes = writes })) first) (shared_is first writes ws)
  where
    access : ℕ → Access
    access v = record { word = v; writes = writes }

    by : (b : Bool) → shared first (map access ws) ≡ filter (λ v. list_any (λ y. clashes y (record { word = v; writes = writes })) first) ws
        → map (λ (x : Access). x.word) (cond b (access w ∷ filter (λ x. list_any (λ y. clashes y x) first) (map access ws)) (filter (λ x. list_any (λ y. clashes y x) first) (map access ws)))
        ≡ cond b (w ∷ filter (λ v. list_any (λ y. clashes y (record { word = v; writes = writes })) first) ws) (filter (λ v. list_any (λ y. clashes y (record { word = v; writes = writes })) first) ws)
    by true rest = ap (λ (us : List ℕ). w ∷ us) rest
    by false rest = rest
