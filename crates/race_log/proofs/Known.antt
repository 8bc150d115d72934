-- What a shadow's answers and times mean by hart and count.
use Rattle.race_log.proofs.Common.{◌≡◌, ◌≢◌, ℕ, ◌<◌, Bool, true, ◌↔◌, refl, inl, inr, arith, sym, ap, ◌∙◌, List, [], ◌∷◌, length, slice_get, Option, Some, None, map, subst, All, Contains, Shadow, Point, one, edge, edges_into, sources_into, name_of, is_of_hart, IsInOrder, IsPointAt, IsEdgeBetween, IsLatestPoint, IsTimesOf, UpTo, OwnUpTo, after, In, RepresentsAccesses, harts_of, times_of}
use Rattle.race_log.proofs.BoolFacts.{same_number}
use Rattle.race_log.proofs.EdgeLaws.{edge_is, is_edge}
use Rattle.race_log.proofs.MergeLaws.{is_in, of_hart_at}
use Rattle.race_log.proofs.CountLaws.{less_or, ordered, before_up, edge_between, between_edge, times_of as times_are}
use Rattle.race_log.proofs.Listed.{in_contains, contains_in, listed_passes, passes_listed}
use Rattle.race_log.proofs.Next.{get_old, old_at, get_new}
use Rattle.race_log.proofs.AfterLemmas.{holds_map}
use Rattle.race_log.proofs.Steps.{all_at}

in_map : (f : ℕ → ℕ × ℕ) (js : List ℕ) (x : ℕ × ℕ) → In (map f js) x → (j : ℕ) × In js j × (f j ≡ x)
in_map f [] x h = absurd h
in_map f (j ∷ js) x (inl e) = (j, inl refl, e)
in_map f (j ∷ js) x (inr h) = let r = in_map f js x h in (r.0, inr r.1, r.2)

map_in : (f : ℕ → ℕ × ℕ) (js : List ℕ) (j : ℕ) → In js j → In (map f js) (f j)
map_in f [] j h = absurd h
map_in f (i ∷ js) j (inl e) = inl (ap f e)
map_in f (i ∷ js) j (inr h) = inr (map_in f js j h)

-- the sources listed are those of the edges into the new point, by hart and count
module _ (run : List Point) (b : Point) (up : IsInOrder (after run b)) where
  listed_edge : (h i j : ℕ) → In (edges_into (after run b) (length run)) j → name_of (slice_get (after run b) j) ≡ (h, i)
      → (p : Point) × IsPointAt run h i p × IsEdgeBetween (after run b) p b
  unfolding edges_into
  listed_edge h i j has e =
      let edge_j = edge_is (after run b) j (length run) (listed_passes (λ m. edge (after run b) m (length run)) (length run) j has) in
      let low = edge_j.conflicts.earlier in
      let p = edge_j.conflicts.first in
      let at : slice_get (after run b) j ≡ Some p = edge_j.conflicts.first_at in
      let name : (p.hart, p.count) ≡ (h, i) = sym (ap name_of at) ∙ e in (
        p,
        record { place = j; at = sym (get_old run b j low) ∙ at; hart_is = ap (λ x. x.0) name; count_is = ap (λ x. x.1) name },
        edge_between (after run b) up j (length run) p b at (get_new run b) edge_j,
      )

  edge_listed : (h i : ℕ) (p : Point) → IsPointAt run h i p → IsEdgeBetween (after run b) p b → In (sources_into (after run b) (length run)) (h, i)
  unfolding edges_into
  edge_listed h i p at between =
      let at_p = old_at run b at.place p at.at in
      let edge_m = between_edge (after run b) up at.place (length run) p b at_p (get_new run b) between in
      let has = passes_listed (λ m. edge (after run b) m (length run)) (length run) at.place edge_m.conflicts.earlier
      (is_edge (after run b) at.place (length run) edge_m) in
      let name : name_of (slice_get (after run b) at.place) ≡ (h, i) = ap name_of at_p ∙ (λ k. (at.hart_is k, at.count_is k)) in
      subst (In (sources_into (after run b) (length run))) name
      (map_in (λ m. name_of (slice_get (after run b) m)) (edges_into (after run b) (length run)) at.place has)

  pub listed_exactly : (h i : ℕ) → Contains (sources_into (after run b) (length run)) (h, i)
      ↔ ((p : Point) × IsPointAt run h i p × IsEdgeBetween (after run b) p b)
  listed_exactly h i = (
    λ c.
        let r = in_map (λ m. name_of (slice_get (after run b) m)) (edges_into (after run b) (length run)) (h, i)
        (contains_in (sources_into (after run b) (length run)) (h, i) c) in
        listed_edge h i r.0 r.1 r.2,
    λ q. in_contains (sources_into (after run b) (length run)) (h, i) (edge_listed h i q.0 q.1 q.2),
  )

-- what a hart knows of is what is its latest point or before it
pub latest_times : (run : List Point) (live : ℕ → Bool) (s : Shadow) (hart : ℕ) → RepresentsAccesses run live s → hart < harts_of s
    → (p : Point) → IsLatestPoint run hart p → IsTimesOf run p (times_of s hart)
latest_times run live s hart stands low p l =
    times_are run stands.in_order l.place p (times_of s hart) l.at
    (holds_map run (OwnUpTo run hart) (λ m. UpTo run m l.place) (times_of s hart)
    (λ m o. to_last m o.0 o.1 o.2) (λ m u. (l.place, of_hart_at run hart l.place p l.at l.hart_is, u)) (stands.own hart low))
  where
    to_last : (m q : ℕ) → is_of_hart hart (slice_get run q) ≡ true → UpTo run m q → UpTo run m l.place
    to_last m q o u = go (slice_get run q) refl o
      where
        join : UpTo run q l.place → UpTo run m q → UpTo run m l.place
        join (inl e) v = rw e at v
        join (inr c) (inl e) = inr (rw e c)
        join (inr c) (inr d) = inr (before_up d (inr c))

        go : (x : Option Point) → slice_get run q ≡ x → is_of_hart hart x ≡ true → UpTo run m l.place
        go None e k = cc
        go (Some x) e k =
            let same = same_number x.hart hart k in
            elim (less_or q l.place) [
              | inl less ↦ join (inr (one (inl (ordered run q l.place x p e l.at less (same ∙ sym l.hart_is))))) u
              | inr most ↦ (let least = l.no_later q x e same in join (inl (omega arith)) u)
            ]

-- a hart without a point knows of none
pub no_times : (run : List Point) (live : ℕ → Bool) (s : Shadow) (hart : ℕ) → RepresentsAccesses run live s → hart < harts_of s
    → All (λ p. p.hart ≢ hart) run → (h : ℕ) → times_of s hart h ≡ 0
no_times run live s hart stands low none h = elim ((stands.own hart low).exact h) [
  | inl z ↦ z
  | inr t ↦ absurd (missing t.3.0 t.3.1)
]
  where
    missing : (q : ℕ) → is_of_hart hart (slice_get run q) ≡ true → ⊥
    missing q o = go (slice_get run q) refl o
      where
        go : (x : Option Point) → slice_get run q ≡ x → is_of_hart hart x ≡ true → ⊥
        go None e k = cc
        go (Some x) e k = all_at (λ p. p.hart ≢ hart) run q x none e (is_in run q x e) (same_number x.hart hart k)
