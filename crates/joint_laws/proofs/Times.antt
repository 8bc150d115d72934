-- The Edges of a recording follow its times.
use Rattle.joint_laws.proofs.Common.{◌≡◌, ℕ, zero, suc, ◌<◌, ◌≤◌, Bool, true, false, ◌&&◌, ◌==◌, inl, inr, refl, sym, ap, ◌∙◌, subst, arith, List, [], ◌∷◌, length, slice_get, Option, Some, None, Contains, Result, Ok, Err, nat_le, slice_get_within, Record, Edge, ReplayError, Point, IsInOrder, name_of, IsEndOf, OfLists, HasOrder, KeepsEdgesAlone, edge_record, Readiness, Lane, Item, lane_step, Joining, Walk, begun, longer, fresh, readiness, next_step, move, ready_step, walk_on, HasEdge, HaveTimes, NeverStuck, Recording, points_of, recorded, OfBeginnings, GoesOn, pair_at}
use Rattle.joint_replay.specs.declared.kinds.Readiness.TheVariants as is
use Rattle.joint_laws.proofs.ByCount.{of_edge}
use Rattle.joint_laws.proofs.Moves.{some_is}

-- the place of the first point of hart h with count k or more
abbrev time : List Point → ℕ → ℕ → ℕ
time [] h k = 0
time (p ∷ ps) h k = elim (p.hart == h && nat_le k p.count) [ true ↦ 0 | false ↦ suc (time ps h k) ]

test_true : (a h k c : ℕ) → a ≡ h → k ≤ c → (a == h && nat_le k c) ≡ true
test_true a h k c e low = grind arith

test_mono : (a h j k c : ℕ) → j ≤ k → (a == h && nat_le k c) ≡ true → (a == h && nat_le j c) ≡ true
test_mono a h j k c low e = grind arith

test_tells : (a h k c : ℕ) → (a == h && nat_le k c) ≡ true → (a ≡ h) × (k ≤ c)
test_tells a h k c e = (same a h k c e, low a h k c e)
  where
    same : (a h k c : ℕ) → (a == h && nat_le k c) ≡ true → a ≡ h
    same a h k c e = grind arith

    low : (a h k c : ℕ) → (a == h && nat_le k c) ≡ true → k ≤ c
    low a h k c e = grind arith

onward : (ps : List Point) (h j k : ℕ) → j ≤ k → time ps h j ≤ time ps h k
onward [] h j k low = omega arith
onward (p ∷ ps) h j k low = by (p.hart == h && nat_le j p.count) refl (p.hart == h && nat_le k p.count) refl (onward ps h j k low)
  where
    by : (b : Bool) → (p.hart == h && nat_le j p.count) ≡ b → (c : Bool) → (p.hart == h && nat_le k p.count) ≡ c → time ps h j ≤ time ps h k
        → elim b as (λ x. ℕ) [ true ↦ 0 | false ↦ suc (time ps h j) ] ≤ elim c as (λ x. ℕ) [ true ↦ 0 | false ↦ suc (time ps h k) ]
    by true e c f rest = omega arith
    by false e true f rest = let g : true ≡ false = sym (test_mono p.hart h j k p.count low f) ∙ e in absurd cc
    by false e false f rest = omega (arith, rest)

upper : (ps : List Point) (m h k : ℕ) (p : Point) → slice_get ps m ≡ Some p → p.hart ≡ h → k ≤ p.count → time ps h k ≤ m
upper [] m h k p e same low = cc
upper (q ∷ ps) zero h k p e same low =
    let is : q ≡ p = some_is q p (Some q) refl e in
    let it : (q.hart == h && nat_le k q.count) ≡ true = ap (λ (x : Point). x.hart == h && nat_le k x.count) is ∙ test_true p.hart h k p.count same low in
    subst (λ b. elim b as (λ x. ℕ) [ true ↦ 0 | false ↦ suc (time ps h k) ] ≤ 0) (sym it) (omega arith)
upper (q ∷ ps) (suc m) h k p e same low = by (q.hart == h && nat_le k q.count) (upper ps m h k p e same low)
  where
    by : (b : Bool) → time ps h k ≤ m → elim b as (λ x. ℕ) [ true ↦ 0 | false ↦ suc (time ps h k) ] ≤ suc m
    by true rest = omega arith
    by false rest = omega (arith, rest)

least : (ps : List Point) (n h k : ℕ) → n ≤ length ps → ((l : ℕ) (q : Point) → l < n → slice_get ps l ≡ Some q → q.hart ≡ h → q.count < k) → n ≤ time ps h k
least ps zero h k low all = omega arith
least [] (suc n) h k low all = absurd (omega (arith, low))
least (q ∷ ps) (suc n) h k low all = by (q.hart == h && nat_le k q.count) refl (least ps n h k (omega (arith, low)) (λ l p up e same. all (suc l) p (omega (arith, up)) e same))
  where
    by : (b : Bool) → (q.hart == h && nat_le k q.count) ≡ b → n ≤ time ps h k → suc n ≤ elim b as (λ x. ℕ) [ true ↦ 0 | false ↦ suc (time ps h k) ]
    by true e rest = let t = test_tells q.hart h k q.count e in let less = all 0 q (omega arith) refl t.0 in let up = t.1 in absurd (omega (arith, less, up))
    by false e rest = omega (arith, rest)

contains_edge : (rs : List Record) (h ic s j : ℕ) → HasEdge rs h ic s j → Contains rs (Edge h ic s j)
contains_edge [] h ic s j e = absurd e
contains_edge (Edge a n b c ∷ rs) h ic s j (inl e) =
    (0, omega arith, ap (λ x. Edge x n b c) e.0 ∙ (ap (λ x. Edge h x b c) e.1 ∙ (ap (λ x. Edge h ic x c) e.2 ∙ ap (λ x. Edge h ic s x) e.3)))
contains_edge (Edge a n b c ∷ rs) h ic s j (inr e) = let r = contains_edge rs h ic s j e in (suc r.0, (let low = r.1 in omega (arith, low)), r.2)
contains_edge (entry ∷ rs) h ic s j e = let r = contains_edge rs h ic s j e in (suc r.0, (let low = r.1 in omega (arith, low)), r.2)

-- ---- a walk keeps its records

abbrev SameIf : Joining → Option (Item × Joining) → Type 0
SameIf now None = Unit {0}
SameIf now (Some x) = x.1.records ≡ now.records

module _ (now : Joining) (h : ℕ) where
  abbrev only_ok : Option (Result (Item × Joining) ReplayError) → Option (Item × Joining)
  only_ok o = elim o [ None ↦ None | Some r ↦ elim r [ Err e ↦ None | Ok x ↦ Some x ] ]

  by_move : (o : Option (Result (Item × Lane) ReplayError)) → SameIf now (only_ok (move now h o))
  by_move (Some (Ok x)) = refl
  by_move o = tt

  by_lane : (o : Option Lane) → SameIf now (only_ok (elim o as (λ x. Option (Result (Item × Joining) ReplayError)) [ None ↦ None | Some lane ↦ move now h (lane_step now.program lane) ]))
  by_lane None = tt
  by_lane (Some lane) = by_move (lane_step now.program lane)

  by_refused : (o : Option ReplayError) → SameIf now (only_ok (elim o as (λ x. Option (Result (Item × Joining) ReplayError)) [ Some e ↦ Some (Err e) | None ↦ elim (slice_get now.lanes h) as (λ x. Option (Result (Item × Joining) ReplayError)) [ None ↦ None | Some lane ↦ move now h (lane_step now.program lane) ] ]))
  by_refused (Some e) = tt
  by_refused None = by_lane (slice_get now.lanes h)

  by_ready : (r : Readiness) → SameIf now (elim r as (λ x. Option (Item × Joining)) [ is.Ready ↦ only_ok (next_step now h) | is.Waits s ic ↦ None | is.Done ↦ None ])
  by_ready is.Ready = by_refused now.refused
  by_ready r = tt

abbrev WalkSame : List Record → Option Walk → Type 0
WalkSame records None = Unit {0}
WalkSame records (Some w) = w.now.records ≡ records

walk_same : (w : Walk) (order : List ℕ) → WalkSame w.now.records (walk_on w order)
walk_same w [] = refl
walk_same w (h ∷ hs) = by (ready_step w.now h) (by_ready w.now h (readiness w.now h)) (λ x. walk_same (longer w h x) hs)
  where
    by : (o : Option (Item × Joining)) → SameIf w.now o → ((x : Item × Joining) → WalkSame x.1.records (walk_on (longer w h x) hs)) → WalkSame w.now.records (elim o as (λ x. Option Walk) [ None ↦ None | Some x ↦ walk_on (longer w h x) hs ])
    by None e rest = tt
    by (Some x) e rest = subst (λ rs. WalkSame rs (walk_on (longer w h x) hs)) e (rest x)

-- ---- times

module _ (r : Recording) (records : List Record) (end : IsEndOf (recorded r).stream records) (order : IsInOrder (points_of r)) (alone : KeepsEdgesAlone r.settings (recorded r)) where
  across : (h ic s j : ℕ) → HasEdge records h ic s j → time (points_of r) s j < time (points_of r) h ic
  across h ic s j edge =
      let a = alone records end h ic s j (contains_edge records h ic s j edge) in
      let c = a.2.edge.conflicts in
      let is : ◌≡◌ {A = Record} (Edge c.second.hart c.second.count c.first.hart c.first.count) (Edge h ic s j) =
      sym (ap (λ o. edge_record (name_of o, name_of (slice_get (points_of r) a.0))) c.second_at ∙ ap (λ o. edge_record ((c.second.hart, c.second.count), name_of o)) c.first_at) ∙ a.3 in
      let hart : c.second.hart ≡ h = ap (of_edge (λ x y z w. x)) is in
      let count : c.second.count ≡ ic = ap (of_edge (λ x y z w. y)) is in
      let source : c.first.hart ≡ s = ap (of_edge (λ x y z w. z)) is in
      let from : c.first.count ≡ j = ap (of_edge (λ x y z w. w)) is in
      let up : time (points_of r) s j ≤ a.0 = upper (points_of r) a.0 s j c.first c.first_at source (omega (arith, from)) in
      let within = slice_get_within (points_of r) a.1 c.second c.second_at in
      let low : a.1 ≤ time (points_of r) h ic = least (points_of r) a.1 h ic (omega (arith, within))
      (λ l q less e same. let below = pair_at (λ x y. x.hart ≡ y.hart → x.count < y.count) (points_of r) l a.1 q c.second order.counts less e c.second_at (same ∙ sym hart) in omega (arith, below, count)) in
      let earlier = c.earlier in
      omega (arith, up, low, earlier)

  have_times : HaveTimes records (time (points_of r))
  have_times = record { onward = λ h j k low. onward (points_of r) h j k low; across = across }

pub goes_on : NeverStuck → OfLists HasOrder → OfLists KeepsEdgesAlone → OfBeginnings GoesOn
goes_on never in_order alone r records order w log b stuck =
    let same : w.now.records ≡ records = subst (WalkSame records) b.allowed (walk_same (begun (fresh r.program r.settings.harts records)) order) in
    never w.now (time (points_of r))
    (subst (λ rs. HaveTimes rs (time (points_of r))) (sym same)
    (have_times r records log.end (in_order r.settings r.program r.input r.turns log.recording.setting log.recording.legal) (alone r.settings r.program r.input r.turns log.recording.setting log.recording.legal)))
    stuck
