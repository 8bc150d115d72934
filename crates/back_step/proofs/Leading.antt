-- Steps that lead from one joint replay to another.
use Rattle.back_step.proofs.Common.{◌≡◌, ℕ, zero, suc, ◌+◌, ◌<◌, refl, sym, ap, ◌∙◌, subst, arith, List, [], ◌∷◌, ◌++◌, length, take, drop, slice_get, slice_index_or, append_assoc, Option, Some, None, Result, Ok, Err, append-nil, drop_more, take_more, ReplayError, Readiness, Lane, Item, Passing, Doing, Ending, lane_step, Joining, Walk, begun, longer, readiness, next_step, move, ready_step, walk_on, Entry, entry_of, entries_of, harts_of, state_after, Took, LeadsBy, CanTake, same_Some}
use Rattle.joint_replay.specs.declared.kinds.Readiness.TheVariants as is

-- ---- a step of a ready hart

-- by a hart's readiness, and what its next step is
abbrev step_if : Readiness → Option (Result (Item × Joining) ReplayError) → Option (Item × Joining)
step_if r o = elim r [
  | is.Ready ↦ elim o [ None ↦ None | Some s ↦ elim s [ Err e ↦ None | Ok x ↦ Some x ] ]
  | is.Waits s ic ↦ None
  | is.Done ↦ None
]

is_ready : (r : Readiness) (o : Option (Result (Item × Joining) ReplayError)) (x : Item × Joining) → step_if r o ≡ Some x → (r ≡ is.Ready) × (o ≡ Some (Ok x))
is_ready is.Ready None x e = absurd cc
is_ready is.Ready (Some (Err g)) x e = absurd cc
is_ready is.Ready (Some (Ok y)) x e = (refl, ap (λ (z : Item × Joining). Some (Ok z)) (same_Some y x e))
is_ready (is.Waits s ic) o x e = absurd cc
is_ready is.Done o x e = absurd cc

pub next_is : (j : Joining) (h : ℕ) (x : Item × Joining) → ready_step j h ≡ Some x → next_step j h ≡ Some (Ok x)
next_is j h x e = (is_ready (readiness j h) (next_step j h) x e).1

pub step_there : (j : Joining) (h : ℕ) (x : Item × Joining) → readiness j h ≡ is.Ready → next_step j h ≡ Some (Ok x) → ready_step j h ≡ Some x
step_there j h x ready next = ap (λ (r : Readiness). step_if r (next_step j h)) ready ∙ ap (step_if is.Ready) next

-- a step is done only if no refusal is repeated, and leaves none
abbrev IsCalm : Option ReplayError → Option (Result (Item × Joining) ReplayError) → Type 0
IsCalm before None = Unit {0}
IsCalm before (Some (Err e)) = Unit {0}
IsCalm before (Some (Ok x)) = (before ≡ None) × (x.1.refused ≡ None)

by_move : (j : Joining) (h : ℕ) (o : Option (Result (Item × Lane) ReplayError)) → j.refused ≡ None → IsCalm j.refused (move j h o)
by_move j h None e = tt
by_move j h (Some (Err g)) e = tt
by_move j h (Some (Ok x)) e = (e, e)

by_lane : (j : Joining) (h : ℕ) (o : Option Lane) → j.refused ≡ None → IsCalm j.refused (elim o as (λ x. Option (Result (Item × Joining) ReplayError)) [ None ↦ None | Some lane ↦ move j h (lane_step j.program lane) ])
by_lane j h None e = tt
by_lane j h (Some lane) e = by_move j h (lane_step j.program lane) e

calm_by : (j : Joining) (h : ℕ) (o : Option ReplayError) → j.refused ≡ o → IsCalm j.refused (elim o as (λ x. Option (Result (Item × Joining) ReplayError)) [
  | Some e ↦ Some (Err e)
  | None ↦ elim (slice_get j.lanes h) as (λ x. Option (Result (Item × Joining) ReplayError)) [ None ↦ None | Some lane ↦ move j h (lane_step j.program lane) ]
])
calm_by j h (Some e) f = tt
calm_by j h None f = by_lane j h (slice_get j.lanes h) f

pub step_calm : (j : Joining) (h : ℕ) (x : Item × Joining) → next_step j h ≡ Some (Ok x) → (j.refused ≡ None) × (x.1.refused ≡ None)
step_calm j h x e = subst (λ (o : Option (Result (Item × Joining) ReplayError)). IsCalm j.refused o) e (calm_by j h j.refused refl)

-- ---- steps one after another

pub leads_append : (j k l : Joining) (es fs : List Entry) → LeadsBy j es k → LeadsBy k fs l → LeadsBy j (es ++ fs) l
leads_append j k l [] fs a b = subst (λ (x : Joining). LeadsBy x fs l) a b
leads_append j k l (e ∷ es) fs a b = (a.0, a.1, a.2, leads_append a.0.1 k l es fs a.3 b)

pub leads_split : (j l : Joining) (es fs : List Entry) → LeadsBy j (es ++ fs) l → (k : Joining) × LeadsBy j es k × LeadsBy k fs l
leads_split j l [] fs a = (j, refl, a)
leads_split j l (e ∷ es) fs a = let r = leads_split a.0.1 l es fs a.3 in (r.0, (a.0, a.1, a.2, r.1), r.2)

pub one_end : (j k l : Joining) (es : List Entry) → LeadsBy j es k → LeadsBy j es l → k ≡ l
one_end j k l [] a b = a ∙ sym b
one_end j k l (e ∷ es) a b =
    let same : a.0 ≡ b.0 = same_Some a.0 b.0 (sym a.1 ∙ b.1) in
    one_end b.0.1 k l es (subst (λ (x : Item × Joining). LeadsBy x.1 es k) same a.3) b.3

-- one more
pub one_longer : (h : ℕ) (x : Item × Joining) (j : Joining) → ready_step j h ≡ Some x → LeadsBy j (entry_of h x.0 ∷ []) x.1
one_longer h x j e = (x, hart_same x.0 e, same_entry x.0, refl)
  where
    hart_same : (item : Item) → ready_step j h ≡ Some x → ready_step j (entry_of h item).hart ≡ Some x
    hart_same (Passing ic) e = e
    hart_same (Doing before row) e = e
    hart_same (Ending n mark) e = e

    same_entry : (item : Item) → entry_of h item ≡ entry_of (entry_of h item).hart item
    same_entry (Passing ic) = refl
    same_entry (Doing before row) = refl
    same_entry (Ending n mark) = refl

-- what they leave has no refusal
pub calm_after : (j k : Joining) (es : List Entry) → j.refused ≡ None → LeadsBy j es k → k.refused ≡ None
calm_after j k [] calm a = ap (λ (i : Joining). i.refused) a ∙ calm
calm_after j k (e ∷ es) calm a = calm_after a.0.1 k es (step_calm j e.hart a.0 (next_is j e.hart a.0 a.1)).1 a.3

-- their harts are an order of which this is the walk
pub leads_walk : (w : Walk) (k : Joining) (es : List Entry) → LeadsBy w.now es k → (v : Walk) × (walk_on w (harts_of es) ≡ Some v) × (v.now ≡ k) × (entries_of v.taken ≡ entries_of w.taken ++ es)
leads_walk w k [] a = (w, refl, sym a, sym (append-nil (entries_of w.taken)))
leads_walk w k (e ∷ es) a =
    let r = leads_walk (longer w e.hart a.0) k es a.3 in (
      r.0,
      ap (λ (o : Option (Item × Joining)). elim o as (λ y. Option Walk) [ None ↦ None | Some x ↦ walk_on (longer w e.hart x) (harts_of es) ]) a.1 ∙ r.1,
      r.2,
      r.3 ∙ append_assoc (entries_of w.taken) (entry_of e.hart a.0.0 ∷ []) es ∙ ap (λ (y : Entry). entries_of w.taken ++ y ∷ es) (sym a.2),
    )

pub state_is : (start k : Joining) (es : List Entry) → LeadsBy start es k → state_after start (harts_of es) ≡ k
state_is start k es a =
    let r = leads_walk (begun start) k es a in
    ap (λ (o : Option Walk). elim o as (λ y. Joining) [ None ↦ start | Some w ↦ w.now ]) r.1 ∙ r.2

-- ---- steps that are taken again

-- an element of a list, whatever the default
pub element : (es : List Entry) (i : ℕ) (d : Entry) → i < length es → slice_index_or es i d ≡ slice_index_or es i (slice_index_or es i d)
element [] i d low = absurd (omega (arith, low))
element (e ∷ es) zero d low = refl
element (e ∷ es) (suc i) d low = element es i d (omega (arith, low)) ∙ same es i d (slice_index_or (e ∷ es) (suc i) d) (omega (arith, low))
  where
    same : (es : List Entry) (i : ℕ) (d f : Entry) → i < length es → slice_index_or es i (slice_index_or es i d) ≡ slice_index_or es i f
    same [] i d f low = absurd (omega (arith, low))
    same (e ∷ es) zero d f low = refl
    same (e ∷ es) (suc i) d f low = same es i d f (omega (arith, low))

module _ (first j : Joining) (steps : List Entry) (at : ℕ) (e : Entry) (low : at < length steps) (here : e ≡ slice_index_or steps at e) (rest : CanTake j (drop at steps)) where
  opened : CanTake j (e ∷ drop (at + 1) steps)
  opened = subst (CanTake j) (drop_more steps at e low ∙ ap (λ (y : Entry). y ∷ drop (at + 1) steps) (sym here)) rest

  module _ (k : Joining) (took : Took j e.hart k) where
    same : opened.1.0 ≡ (took.0, k)
    same = same_Some opened.1.0 (took.0, k) (sym opened.1.1 ∙ took.1)

    pub rest_after : CanTake k (drop (at + 1) steps)
    rest_after = (opened.0, subst (λ (x : Item × Joining). LeadsBy x.1 (drop (at + 1) steps) opened.0) same opened.1.3)

    one_taken : LeadsBy j (e ∷ []) k
    one_taken = ((took.0, k), took.1, opened.1.2 ∙ ap (λ (x : Item × Joining). entry_of e.hart x.0) same, refl)

    pub led_after : LeadsBy first (take at steps) j → LeadsBy first (take (at + 1) steps) k
    led_after led =
        subst (λ (es : List Entry). LeadsBy first es k) (sym (take_more steps at e low ∙ ap (λ (y : Entry). take at steps ++ y ∷ []) (sym here)))
        (leads_append first j k (take at steps) (e ∷ []) led one_taken)
