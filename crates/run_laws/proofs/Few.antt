-- A point has at most one Edge from each hart.
use Rattle.run_laws.proofs.Common.{◌≡◌, ℕ, zero, suc, ◌<◌, Bool, true, false, ◌||◌, Option, Some, List, [], ◌∷◌, ◌++◌, length, map, refl, sym, ◌∙◌, ap, subst, arith, inl, inr, ◌==◌, ◌↔◌, slice_get, Contains, AllPairs, eqb_tells, Point, after, edges_into, name_of, ArePointsOf, EdgesAreFew}
use Rattle.std.specs.List.{AllByRecursion, IsDistinct, list_any}
use Rattle.std.proofs.lemmas.List.{length-map}
use Rattle.std.proofs.lemmas.Map.Steps.{length-le_from_distinct_below}
use Rattle.race_log.specs.Netzer.{IsEdge, ProgramOrder, one}

-- the laws of listed edges that are used here
abbrev pub ListedEdges : Type 0
ListedEdges = (run : List Point) (m n : ℕ) → Contains (edges_into run n) m ↔ IsEdge run m n

abbrev pub EdgesFall : Type 0
EdgesFall = (run : List Point) (n : ℕ) → AllPairs (λ a b. b < a) (edges_into run n)

-- the hart of the point at a place
abbrev hart_at : List Point → ℕ → ℕ
hart_at run m = (name_of (slice_get run m)).0

named : (q : Point) (o : Option Point) → o ≡ Some q → (name_of o).0 ≡ q.hart
named q o e = ap (λ (x : Option Point). (name_of x).0) e

-- an Edge from an earlier place of the same hart isn't one
two_harts : (run : List Point) (x m n : ℕ) → IsEdge run x n → IsEdge run m n → x < m → (hart_at run m == hart_at run x) ≡ false
two_harts run x m n e f low = elim (eqb_tells (hart_at run m) (hart_at run x)) [
  | inl p ↦
      let same : e.conflicts.first.hart ≡ f.conflicts.first.hart = sym (named e.conflicts.first (slice_get run x) e.conflicts.first_at) ∙ (sym p.1 ∙ named f.conflicts.first (slice_get run m) f.conflicts.first_at) in
      let onward : ProgramOrder run x m = record { earlier = low; first = e.conflicts.first; second = f.conflicts.first; first_at = e.conflicts.first_at; second_at = f.conflicts.first_at; related = same } in
      absurd (e.no_third m (one (inl onward)) (one (inr f.conflicts)))
  | inr p ↦ p.0
]

-- ---- lists that fall

pub all_contained : (P : ℕ → Type 0) (ms : List ℕ) → ((m : ℕ) → Contains ms m → P m) → AllByRecursion P ms
all_contained P [] each = tt
all_contained P (m ∷ ms) each = (each m (0, omega arith, refl), all_contained P ms (λ n has. each n (suc has.0, omega (arith, has.1), has.2)))

falls_first : (m : ℕ) (ms : List ℕ) → AllPairs (λ a b. b < a) (m ∷ ms) → (x : ℕ) → Contains ms x → x < m
falls_first m ms fall x has = subst (λ (y : ℕ). y < m) has.2 (fall 0 (suc has.0) x (omega arith) (omega (arith, has.1)))

falls_rest : (m : ℕ) (ms : List ℕ) → AllPairs (λ a b. b < a) (m ∷ ms) → AllPairs (λ a b. b < a) ms
falls_rest m ms fall i j d before within = fall (suc i) (suc j) d (omega (arith, before)) (omega (arith, within))

mapped : (P : ℕ → Type 0) (f : ℕ → ℕ) (ms : List ℕ) → AllByRecursion (λ m. P (f m)) ms → AllByRecursion P (map f ms)
mapped P f [] a = tt
mapped P f (m ∷ ms) a = (a.0, mapped P f ms a.1)

both_all : {X : Type 0} (P Q R : X → Type 0) (xs : List X) → ((x : X) → P x → Q x → R x) → AllByRecursion P xs → AllByRecursion Q xs → AllByRecursion R xs
both_all P Q R [] f a b = tt
both_all P Q R (x ∷ xs) f a b = (f x a.0 b.0, both_all P Q R xs f a.1 b.1)

-- the harts of falling edges are distinct
distinct : (run : List Point) (n : ℕ) (ms : List ℕ) → AllByRecursion (λ m. IsEdge run m n) ms → AllPairs (λ a b. b < a) ms → IsDistinct ◌==◌ (map (hart_at run) ms)
unfolding IsDistinct
distinct run n [] edges fall = tt
distinct run n (m ∷ ms) edges fall =
    let below = all_contained (λ x. x < m) ms (falls_first m ms fall) in (
      mapped (λ y. (hart_at run m == y) ≡ false) (hart_at run) ms (both_all (λ x. IsEdge run x n) (λ x. x < m) (λ x. (hart_at run m == hart_at run x) ≡ false) ms (λ x e low. two_harts run x m n e edges.0 low) edges.1 below),
      distinct run n ms edges.1 (falls_rest m ms fall),
    )

-- ---- how many

any_below : (n : ℕ) (xs : List ℕ) → AllByRecursion (λ x. x < n) xs → (q : ℕ) → list_any (λ x. q == x) xs ≡ true → q < n
any_below n [] a q e = cc
any_below n (x ∷ xs) a q e = elim (eqb_tells q x) [
  | inl p ↦ omega (arith, p.1, a.0)
  | inr p ↦ any_below n xs a.1 q (later (q == x) (list_any (λ y. q == y) xs) e p.0)
]
  where
    later : (b c : Bool) → (b || c) ≡ true → b ≡ false → c ≡ true
    later false c e f = e
    later true c e f = cc

front_get : (xs ys : List Point) (m : ℕ) → m < length xs → slice_get (xs ++ ys) m ≡ slice_get xs m
front_get [] ys m h = absurd (omega (arith, h))
front_get (x ∷ xs) ys zero h = refl
front_get (x ∷ xs) ys (suc m) h = front_get xs ys m (omega (arith, h))

one_below : (points : List Point) (p : Point) (n m : ℕ) → ArePointsOf n points → IsEdge (after points p) m (length points) → hart_at (after points p) m < n
one_below points p n m are e =
    let q = e.conflicts.first in
    let low = are m q (sym (front_get points (p ∷ []) m e.conflicts.earlier) ∙ e.conflicts.first_at) in
    omega (arith, low, named q (slice_get (after points p) m) e.conflicts.first_at)

pub few : ListedEdges → EdgesFall → EdgesAreFew
few listed fall points p n are =
    let run = after points p in
    let last = length points in
    let ms = edges_into run last in
    let edges = all_contained (λ m. IsEdge run m last) ms (λ m has. (listed run m last).0 has) in
    let apart = distinct run last ms edges (fall run last) in
    let low = mapped (λ x. x < n) (hart_at run) ms (all_contained (λ m. hart_at run m < n) ms (λ m has. one_below points p n m are ((listed run m last).0 has))) in
    let some = length-le_from_distinct_below (map (hart_at run) ms) n apart (any_below n (map (hart_at run) ms) low) in
    omega (arith, some, length-map ms (hart_at run), length-map ms (λ m. name_of (slice_get run m)))
