-- Walks and the merges of the harts' lists.
use Rattle.joint_replay.proofs.Common.{◌≡◌, ℕ, zero, suc, ◌+◌, ◌<◌, Bool, true, false, ◌==◌, ◌⊎◌, inl, inr, refl, sym, ap, ◌∙◌, arith, List, [], ◌∷◌, ◌++◌, length, slice_get, slice_set, Option, Some, None, Result, Ok, Err, Record, ReplayError, Coming, Readiness, sources_into, Lane, Item, coming_of, point_of, lane_step, memory_after, Next, Hart, AllDone, Joining, Taken, is_passed, first_waited, waits_for, readiness_of, readiness, choice_from, next_step, move, ready_step, HasEdge, own, Stands, none-some, slice_get_within, true≢false}
use Rattle.joint_replay.specs.declared.kinds.Readiness.TheVariants as is
use Rattle.joint_replay.proofs.Soundness.{some_is}
use Rattle.joint_replay.proofs.Descent.{Waited, waited}

-- ---- places

pub get_more : {X : Type 0} (xs ys : List X) (x : ℕ) (u : X) → slice_get xs x ≡ Some u → slice_get (xs ++ ys) x ≡ Some u
get_more [] ys x u e = cc
get_more (y ∷ xs) ys zero u e = e
get_more (y ∷ xs) ys (suc x) u e = get_more xs ys x u e

pub get_back : {X : Type 0} (xs ys : List X) (x : ℕ) → x < length xs → slice_get (xs ++ ys) x ≡ slice_get xs x
get_back [] ys x low = absurd (omega (arith, low))
get_back (y ∷ xs) ys zero low = refl
get_back (y ∷ xs) ys (suc x) low = get_back xs ys x (omega (arith, low))

pub get_next : {X : Type 0} (xs : List X) (y : X) (ys : List X) → slice_get (xs ++ y ∷ ys) (length xs) ≡ Some y
get_next [] y ys = refl
get_next (x ∷ xs) y ys = get_next xs y ys

-- a place is among the first ones, or right after them
pub get_last : {X : Type 0} (xs : List X) (y : X) (x : ℕ) (u : X) → slice_get (xs ++ y ∷ []) x ≡ Some u → (slice_get xs x ≡ Some u) ⊎ ((x ≡ length xs) × (y ≡ u))
get_last [] y zero u e = inr (refl, some_is y u (Some y) refl e)
get_last [] y (suc x) u e = cc
get_last (z ∷ xs) y zero u e = inl e
get_last (z ∷ xs) y (suc x) u e = elim (get_last xs y x u e) [ inl f ↦ inl f | inr p ↦ inr (ap suc p.0, p.1) ]

pub stands_low : (ts : List Taken) (x s j : ℕ) → Stands ts x s j → x < length ts
stands_low ts x s j d = slice_get_within ts x d.step d.at

pub stands_more : (ts us : List Taken) (x s j : ℕ) → Stands ts x s j → Stands (ts ++ us) x s j
stands_more ts us x s j d = record { step = d.step; at = get_more ts us x d.step d.at; hart_is = d.hart_is; item = d.item }

pub stands_back : (ts us : List Taken) (x s j : ℕ) → x < length ts → Stands (ts ++ us) x s j → Stands ts x s j
stands_back ts us x s j low d = record { step = d.step; at = sym (get_back ts us x low) ∙ d.at; hart_is = d.hart_is; item = d.item }

-- ---- a hart's own items

pub own_append : (h : ℕ) (ts us : List Taken) → own h (ts ++ us) ≡ own h ts ++ own h us
own_append h [] us = refl
own_append h (t ∷ ts) us = by (t.hart == h) (own_append h ts us)
  where
    by : (b : Bool) → own h (ts ++ us) ≡ own h ts ++ own h us
        → elim b as (λ x. List Item) [ true ↦ t.item ∷ own h (ts ++ us) | false ↦ own h (ts ++ us) ] ≡ elim b as (λ x. List Item) [ true ↦ t.item ∷ own h ts | false ↦ own h ts ] ++ own h us
    by true e = ap (λ (xs : List Item). t.item ∷ xs) e
    by false e = e

pub own_first : (h : ℕ) (t : Taken) (ts : List Taken) → (t.hart == h) ≡ true → own h (t ∷ ts) ≡ t.item ∷ own h ts
own_first h t ts e = ap (λ (b : Bool). elim b as (λ x. List Item) [ true ↦ t.item ∷ own h ts | false ↦ own h ts ]) e

pub own_other : (h : ℕ) (t : Taken) (ts : List Taken) → (t.hart == h) ≡ false → own h (t ∷ ts) ≡ own h ts
own_other h t ts e = ap (λ (b : Bool). elim b as (λ x. List Item) [ true ↦ t.item ∷ own h ts | false ↦ own h ts ]) e

pub cancel : (xs ys zs : List Item) → xs ++ ys ≡ xs ++ zs → ys ≡ zs
cancel [] ys zs e = e
cancel (x ∷ xs) ys zs e = cancel xs ys zs (rest_is x (xs ++ ys) (xs ++ zs) e)
  where
    rest_is : (x : Item) (ys zs : List Item) → ◌≡◌ {A = List Item} (x ∷ ys) (x ∷ zs) → ys ≡ zs
    rest_is x ys zs e = cc

pub heads : (x y : Item) (xs ys : List Item) → ◌≡◌ {A = List Item} (x ∷ xs) (y ∷ ys) → x ≡ y
heads x y xs ys e = cc

pub no_items : (x : Item) (xs ys : List Item) → ys ≡ [] → ys ≡ x ∷ xs → ⊥
no_items x xs ys e f = let g : ◌≡◌ {A = List Item} [] (x ∷ xs) = sym e ∙ f in cc

-- ---- readiness

-- a hart whose point has all sources passed is ready
module _ (records : List Record) (lanes : List Lane) (h : ℕ) (lane : Lane) where
  abbrev ready_by : Option Coming → Option ℕ → Readiness
  ready_by d q = elim d as (λ x. Readiness) [ None ↦ is.Done | Some c ↦ elim q as (λ x. Readiness) [ None ↦ is.Ready | Some ic ↦ waits_for (first_waited lanes (sources_into records h ic)) ] ]

  none_waited : (ic : ℕ) → ((s j : ℕ) → HasEdge records h ic s j → is_passed (slice_get lanes s) j ≡ true) → (o : Option (ℕ × ℕ)) → Waited records lanes h ic o → waits_for o ≡ is.Ready
  none_waited ic all None w = refl
  none_waited ic all (Some p) w = absurd (true≢false (sym (all p.0 p.1 w.0) ∙ w.1))

  by_point : (q : Option ℕ) → ((ic : ℕ) → q ≡ Some ic → (s j : ℕ) → HasEdge records h ic s j → is_passed (slice_get lanes s) j ≡ true) → (c : Coming) → ready_by (Some c) q ≡ is.Ready
  by_point None all c = refl
  by_point (Some ic) all c = none_waited ic (all ic refl) (first_waited lanes (sources_into records h ic)) (waited records lanes h ic)

  pub ready_if : (c : Coming) → coming_of lane ≡ Some c → ((ic : ℕ) → point_of lane ≡ Some ic → (s j : ℕ) → HasEdge records h ic s j → is_passed (slice_get lanes s) j ≡ true)
      → readiness_of records lanes h lane ≡ is.Ready
  ready_if c e all = ap (λ (d : Option Coming). ready_by d (point_of lane)) e ∙ by_point (point_of lane) all c

  -- a ready hart has something to come
  pub ready_comes : readiness_of records lanes h lane ≡ is.Ready → (c : Coming) × (coming_of lane ≡ Some c)
  ready_comes e = by (coming_of lane) refl e
    where
      apart : (r : Readiness) → r ≡ is.Done → r ≡ is.Ready → ⊥
      apart r e f = let g : is.Done ≡ is.Ready = sym e ∙ f in cc

      by : (d : Option Coming) → coming_of lane ≡ d → ready_by d (point_of lane) ≡ is.Ready → (c : Coming) × (coming_of lane ≡ Some c)
      by None i f = absurd (apart is.Done refl f)
      by (Some c) i f = (c, i)

-- ---- all harts are done

module _ (records : List Record) (lanes : List Lane) where
  waiting_stays : (h : ℕ) (ls : List Lane) → choice_from records lanes h ls true ≡ AllDone → ⊥
  waiting_stays h [] e = cc
  waiting_stays h (l ∷ ls) e = by (readiness_of records lanes h l) e (waiting_stays (h + 1) ls)
    where
      by : (r : Readiness) → elim r as (λ x. Next) [ is.Ready ↦ Hart h | is.Waits s ic ↦ choice_from records lanes (h + 1) ls true | is.Done ↦ choice_from records lanes (h + 1) ls true ] ≡ AllDone
          → (choice_from records lanes (h + 1) ls true ≡ AllDone → ⊥) → ⊥
      by is.Ready e rest = cc
      by (is.Waits s ic) e rest = rest e
      by is.Done e rest = rest e

  is_done : (h : ℕ) (lane : Lane) → readiness_of records lanes h lane ≡ is.Done → coming_of lane ≡ None
  is_done h lane e = by (coming_of lane) (point_of lane) e
    where
      waited_for : (o : Option (ℕ × ℕ)) → waits_for o ≡ is.Done → ⊥
      waited_for None e = cc
      waited_for (Some p) e = cc

      by : (d : Option Coming) (q : Option ℕ) → elim d as (λ x. Readiness) [ None ↦ is.Done | Some c ↦ elim q as (λ x. Readiness) [ None ↦ is.Ready | Some ic ↦ waits_for (first_waited lanes (sources_into records h ic)) ] ] ≡ is.Done → d ≡ None
      by None q e = refl
      by (Some c) None e = cc
      by (Some c) (Some ic) e = absurd (waited_for (first_waited lanes (sources_into records h ic)) e)

  pub chosen_none : (h : ℕ) (ls : List Lane) → choice_from records lanes h ls false ≡ AllDone → (k : ℕ) (lane : Lane) → slice_get ls k ≡ Some lane → coming_of lane ≡ None
  chosen_none h [] e k lane at = cc
  chosen_none h (l ∷ ls) e k lane at = by (readiness_of records lanes h l) refl e (λ f n at. chosen_none (h + 1) ls f n lane at)
    where
      at_place : (k : ℕ) → slice_get (l ∷ ls) k ≡ Some lane → readiness_of records lanes h l ≡ is.Done → ((n : ℕ) → slice_get ls n ≡ Some lane → coming_of lane ≡ None) → coming_of lane ≡ None
      at_place zero at i rest = ap coming_of (sym (some_is l lane (Some l) refl at)) ∙ is_done h l i
      at_place (suc k) at i rest = rest k at

      by : (r : Readiness) → readiness_of records lanes h l ≡ r
          → elim r as (λ x. Next) [ is.Ready ↦ Hart h | is.Waits s ic ↦ choice_from records lanes (h + 1) ls true | is.Done ↦ choice_from records lanes (h + 1) ls false ] ≡ AllDone
          → (choice_from records lanes (h + 1) ls false ≡ AllDone → (n : ℕ) → slice_get ls n ≡ Some lane → coming_of lane ≡ None) → coming_of lane ≡ None
      by is.Ready i e rest = cc
      by (is.Waits s ic) i e rest = absurd (waiting_stays (h + 1) ls e)
      by is.Done i e rest = at_place k at i (rest e)

  abbrev next_by : ℕ → List Lane → Readiness → Next
  next_by h ls r = elim r as (λ x. Next) [ is.Ready ↦ Hart h | is.Waits s ic ↦ choice_from records lanes (h + 1) ls true | is.Done ↦ choice_from records lanes (h + 1) ls false ]

  pub none_chosen : (h : ℕ) (ls : List Lane) → ((k : ℕ) (lane : Lane) → slice_get ls k ≡ Some lane → coming_of lane ≡ None) → choice_from records lanes h ls false ≡ AllDone
  none_chosen h [] none = refl
  none_chosen h (l ∷ ls) none =
      ap (λ (d : Option Coming). next_by h ls (ready_by records lanes h l d (point_of l))) (none 0 l refl) ∙ none_chosen (h + 1) ls (λ k lane at. none (suc k) lane at)

-- ---- the lowest ready hart

module _ (records : List Record) (lanes : List Lane) where
  pub lower_waits : (b : ℕ) (ls : List Lane) (waiting : Bool) (h : ℕ) → choice_from records lanes b ls waiting ≡ Hart h
      → (k n : ℕ) (lane : Lane) → n ≡ b + k → n < h → slice_get ls k ≡ Some lane → readiness_of records lanes n lane ≡ is.Ready → ⊥
  lower_waits b [] waiting h e k n lane same low at ready = absurd cc
  lower_waits b (l ∷ ls) waiting h e k n lane same low at ready = by (readiness_of records lanes b l) refl e (λ w f m up. lower_waits (b + 1) ls w h f m n lane up low)
    where
      same_hart : (a c : ℕ) → Hart a ≡ Hart c → a ≡ c
      same_hart a c e = cc

      no_wait : (s ic : ℕ) → is.Waits s ic ≡ is.Ready → ⊥
      no_wait s ic e = cc

      no_done : is.Done ≡ is.Ready → ⊥
      no_done e = cc

      -- it isn't the first of them, so it is a later one
      later : (w : Bool) (m : ℕ) → n ≡ b + m → slice_get (l ∷ ls) m ≡ Some lane → (readiness_of records lanes b l ≡ is.Ready → ⊥) → choice_from records lanes (b + 1) ls w ≡ Hart h
          → ((v : Bool) → choice_from records lanes (b + 1) ls v ≡ Hart h → (m : ℕ) → n ≡ b + 1 + m → slice_get ls m ≡ Some lane → readiness_of records lanes n lane ≡ is.Ready → ⊥) → ⊥
      later w zero up got not f rest =
          let here : n ≡ b = omega (arith, up) in
          not (ap (λ (x : Lane). readiness_of records lanes b x) (some_is l lane (Some l) refl got) ∙ ap (λ (m : ℕ). readiness_of records lanes m lane) (sym here) ∙ ready)
      later w (suc m) up got not f rest = rest w f m (omega (arith, up)) got ready

      by : (r : Readiness) → readiness_of records lanes b l ≡ r
          → elim r as (λ x. Next) [ is.Ready ↦ Hart b | is.Waits s ic ↦ choice_from records lanes (b + 1) ls true | is.Done ↦ choice_from records lanes (b + 1) ls waiting ] ≡ Hart h
          → ((v : Bool) → choice_from records lanes (b + 1) ls v ≡ Hart h → (m : ℕ) → n ≡ b + 1 + m → slice_get ls m ≡ Some lane → readiness_of records lanes n lane ≡ is.Ready → ⊥) → ⊥
      by is.Ready i f rest = let is_h = same_hart b h f in omega (arith, is_h, same, low)
      by (is.Waits s ic) i f rest = later true k same at (λ r. no_wait s ic (sym i ∙ r)) f rest
      by is.Done i f rest = later waiting k same at (λ r. no_done (sym i ∙ r)) f rest

-- ---- a step of a joint replay by its parts

abbrev pub stepped : Joining → ℕ → Item → Lane → Joining
stepped now h item next = record now { lanes = slice_set now.lanes h next; memory = memory_after item now.memory }

-- the hart is there and ready, and its step gives this item
pub record Steps (now : Joining) (h : ℕ) : Type 0 where
  pub lane : Lane
  pub at : slice_get now.lanes h ≡ Some lane
  pub ready : readiness_of now.records now.lanes h lane ≡ is.Ready
  pub item : Item
  pub next : Lane
  pub step : lane_step now.program lane ≡ Some (Ok (item, next))

abbrev only_ok : Option (Result (Item × Joining) ReplayError) → Option (Item × Joining)
only_ok o = elim o [ None ↦ None | Some r ↦ elim r [ Err e ↦ None | Ok x ↦ Some x ] ]

abbrev if_ready : Readiness → Option (Item × Joining) → Option (Item × Joining)
if_ready r o = elim r [ is.Ready ↦ o | is.Waits s ic ↦ None | is.Done ↦ None ]

abbrev unrefused : Option ReplayError → Option (Result (Item × Joining) ReplayError) → Option (Result (Item × Joining) ReplayError)
unrefused refused o = elim refused [ Some e ↦ Some (Err e) | None ↦ o ]

abbrev readiness_by : Joining → ℕ → Option Lane → Readiness
readiness_by now h o = elim o as (λ x. Readiness) [ None ↦ is.Done | Some lane ↦ readiness_of now.records now.lanes h lane ]

abbrev step_by : Joining → ℕ → Option Lane → Option (Result (Item × Joining) ReplayError)
step_by now h o = elim o as (λ x. Option (Result (Item × Joining) ReplayError)) [ None ↦ None | Some lane ↦ move now h (lane_step now.program lane) ]

module _ (now : Joining) (h : ℕ) (x : Item × Joining) where
  abbrev Gives : Type 0
  Gives = (s : Steps now h) × (x ≡ (s.item, stepped now h s.item s.next))

  by_move : (lane : Lane) → slice_get now.lanes h ≡ Some lane → readiness_of now.records now.lanes h lane ≡ is.Ready → (o : Option (Result (Item × Lane) ReplayError)) → lane_step now.program lane ≡ o
      → only_ok (move now h o) ≡ Some x → Gives
  by_move lane at ready None e f = absurd (none-some x f)
  by_move lane at ready (Some (Err g)) e f = absurd (none-some x f)
  by_move lane at ready (Some (Ok y)) e f = (
    record { lane = lane; at = at; ready = ready; item = y.0; next = y.1; step = e },
    sym (some_is (y.0, stepped now h y.0 y.1) x (Some (y.0, stepped now h y.0 y.1)) refl f),
  )

  by_refused : (lane : Lane) → slice_get now.lanes h ≡ Some lane → readiness_of now.records now.lanes h lane ≡ is.Ready → (r : Option ReplayError)
      → only_ok (unrefused r (move now h (lane_step now.program lane))) ≡ Some x → Gives
  by_refused lane at ready (Some e) f = absurd (none-some x f)
  by_refused lane at ready None f = by_move lane at ready (lane_step now.program lane) refl f

  by_readiness : (lane : Lane) → slice_get now.lanes h ≡ Some lane → (r : Readiness) → readiness_of now.records now.lanes h lane ≡ r
      → if_ready r (only_ok (unrefused now.refused (move now h (lane_step now.program lane)))) ≡ Some x → Gives
  by_readiness lane at is.Ready e f = by_refused lane at e now.refused f
  by_readiness lane at (is.Waits s ic) e f = absurd (none-some x f)
  by_readiness lane at is.Done e f = absurd (none-some x f)

  by_hart : (o : Option Lane) → slice_get now.lanes h ≡ o → if_ready (readiness_by now h o) (only_ok (unrefused now.refused (step_by now h o))) ≡ Some x → Gives
  by_hart None e f = absurd (none-some x f)
  by_hart (Some lane) e f = by_readiness lane e (readiness_of now.records now.lanes h lane) refl f

  pub steps_by : ready_step now h ≡ Some x → (s : Steps now h) × (x ≡ (s.item, stepped now h s.item s.next))
  steps_by e = by_hart (slice_get now.lanes h) refl e

-- and such a hart steps so, if no replay was refused
pub readied : (now : Joining) (h : ℕ) (lane : Lane) → slice_get now.lanes h ≡ Some lane → readiness_of now.records now.lanes h lane ≡ is.Ready → readiness now h ≡ is.Ready
readied now h lane at ready = ap (readiness_by now h) at ∙ ready

pub next_is : (now : Joining) (h : ℕ) (lane : Lane) (o : Option (Result (Item × Lane) ReplayError)) → now.refused ≡ None → slice_get now.lanes h ≡ Some lane → lane_step now.program lane ≡ o → next_step now h ≡ move now h o
next_is now h lane o none at e =
    ap (λ (r : Option ReplayError). unrefused r (step_by now h (slice_get now.lanes h))) none ∙ ap (step_by now h) at ∙ ap (move now h) e

pub steps_so : (now : Joining) (h : ℕ) (s : Steps now h) → now.refused ≡ None → ready_step now h ≡ Some (s.item, stepped now h s.item s.next)
steps_so now h s none =
    ap (λ (r : Readiness). if_ready r (only_ok (next_step now h))) (readied now h s.lane s.at s.ready)
    ∙ ap only_ok (next_is now h s.lane (Some (Ok (s.item, s.next))) none s.at s.step)
