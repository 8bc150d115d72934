-- The steps of a joint replay.
use Rattle.joint_replay.proofs.Common.{◌≡◌, ℕ, zero, suc, ◌+◌, true, refl, sym, ap, ◌∙◌, subst, arith, List, [], ◌∷◌, ◌++◌, length, map, slice_get, slice_set, is_some, Option, Some, None, Result, Ok, Err, option_map, Program, Record, Content, ReplayError, Coming, Readiness, Lane, Item, lane_step, coming_of, point_of, sources_into, Bytes, memory_after, bytes_at, Joining, Walk, begun, longer, fresh, is_passed, readiness, readiness_of, first_waited, waits_for, next_step, move, with_step, ready_step, walk_on, HartLane, bare, IsReached, StepUnrefused, range_of, LaneUnrefused, lanes_of, joining, AreHarts, IsTogether, IsSound, Passes, PassesIf, same_Some}
use Rattle.hart_replay.specs.declared.error.ReplayError.TheVariants as replay
use Rattle.joint_replay.specs.declared.kinds.Readiness.TheVariants as is
use Rattle.joint_replay.proofs.LaneSteps.{steps_pass}
use Rattle.joint_replay.proofs.Soundness.{stays}

-- ---- one hart among the others

pub lanes_set : (hs : List HartLane) (h : ℕ) (l : HartLane) → lanes_of (slice_set hs h l) ≡ slice_set (lanes_of hs) h l.lane
lanes_set [] h l = refl
lanes_set (x ∷ hs) zero l = refl
lanes_set (x ∷ hs) (suc h) l = ap (λ (ls : List Lane). x.lane ∷ ls) (lanes_set hs h l)

pub length_set : (hs : List HartLane) (h : ℕ) (l : HartLane) → length (slice_set hs h l) ≡ length hs
length_set [] h l = refl
length_set (x ∷ hs) zero l = refl
length_set (x ∷ hs) (suc h) l = ap suc (length_set hs h l)

lane_got : (hs : List HartLane) (h : ℕ) (l : HartLane) → slice_get hs h ≡ Some l → slice_get (lanes_of hs) h ≡ Some l.lane
lane_got [] h l e = absurd cc
lane_got (x ∷ hs) zero l e = ap (λ (o : Option HartLane). option_map (λ (y : HartLane). y.lane) o) e
lane_got (x ∷ hs) (suc h) l e = lane_got hs h l e

-- the hart of this number has the program and the records
pub own_at : (i : Program) (records : List Record) (n h : ℕ) (hs : List HartLane) (l : HartLane) → AreHarts i records n hs → slice_get hs h ≡ Some l → (l.program ≡ i) × (l.records ≡ records) × (l.hart ≡ n + h)
own_at i records n h [] l own e = absurd cc
own_at i records n zero (x ∷ hs) l own e = let same = same_Some x l e in (sym (ap (λ (y : HartLane). y.program) same) ∙ own.0, sym (ap (λ (y : HartLane). y.records) same) ∙ own.1, sym (ap (λ (y : HartLane). y.hart) same) ∙ own.2 ∙ omega arith)
own_at i records n (suc h) (x ∷ hs) l own e = let rest = own_at i records (n + 1) h hs l own.3 e in let at : n + 1 + h ≡ n + suc h = omega arith in (rest.0, rest.1, rest.2 ∙ at)

own_set : (i : Program) (records : List Record) (n h : ℕ) (hs : List HartLane) (l new : HartLane) → AreHarts i records n hs → slice_get hs h ≡ Some l → new ≡ record l { lane = new.lane } → AreHarts i records n (slice_set hs h new)
own_set i records n h [] l new own e f = tt
own_set i records n zero (x ∷ hs) l new own e f = let same = same_Some x l e in
    (ap (λ (y : HartLane). y.program) f ∙ sym (ap (λ (y : HartLane). y.program) same) ∙ own.0, ap (λ (y : HartLane). y.records) f ∙ sym (ap (λ (y : HartLane). y.records) same) ∙ own.1, ap (λ (y : HartLane). y.hart) f ∙ sym (ap (λ (y : HartLane). y.hart) same) ∙ own.2, own.3)
own_set i records n (suc h) (x ∷ hs) l new own e f = (own.0, own.1, own.2, own_set i records (n + 1) h hs l new own.3 e f)

pub bare_set : (hs : List HartLane) (h : ℕ) (l new : HartLane) → slice_get hs h ≡ Some l → bare new.lane ≡ bare l.lane → map bare (lanes_of (slice_set hs h new)) ≡ map bare (lanes_of hs)
bare_set [] h l new e f = refl
bare_set (x ∷ hs) zero l new e f = ap (λ (y : Lane). y ∷ map bare (lanes_of hs)) (f ∙ ap (λ (y : HartLane). bare y.lane) (sym (same_Some x l e)))
bare_set (x ∷ hs) (suc h) l new e f = ap (λ (ls : List Lane). bare x.lane ∷ ls) (bare_set hs h l new e f)

-- a hart that stays as it was
pub lane_kept : (hs : List HartLane) (h : ℕ) (l new : HartLane) → slice_get hs h ≡ Some l → new.lane ≡ l.lane → lanes_of (slice_set hs h new) ≡ lanes_of hs
lane_kept [] h l new e f = refl
lane_kept (x ∷ hs) zero l new e f = ap (λ (y : Lane). y ∷ lanes_of hs) (f ∙ ap (λ (y : HartLane). y.lane) (sym (same_Some x l e)))
lane_kept (x ∷ hs) (suc h) l new e f = ap (λ (ls : List Lane). x.lane ∷ ls) (lane_kept hs h l new e f)

-- ---- an order that is longer by one

walk_added : (w v : Walk) (order : List ℕ) (h : ℕ) (x : Item × Joining) → walk_on w order ≡ Some v → ready_step v.now h ≡ Some x → walk_on w (order ++ h ∷ []) ≡ Some (longer v h x)
walk_added w v [] h x e f =
    ap (λ (a : Walk). walk_on a (h ∷ [])) (same w v e) ∙ ap (λ (o : Option (Item × Joining)). elim o as (λ y. Option Walk) [ None ↦ None | Some y ↦ Some (longer v h y) ]) f
  where
    same : (a b : Walk) → ◌≡◌ {A = Option Walk} (Some a) (Some b) → a ≡ b
    same a b g = cc
walk_added w v (k ∷ order) h x e f = by (ready_step w.now k) (λ y g. walk_added (longer w k y) v order h x g f) e
  where
    by : (o : Option (Item × Joining)) → ((y : Item × Joining) → walk_on (longer w k y) order ≡ Some v → walk_on (longer w k y) (order ++ h ∷ []) ≡ Some (longer v h x))
        → (elim o as (λ y. Option Walk) [ None ↦ None | Some y ↦ walk_on (longer w k y) order ]) ≡ Some v
        → (elim o as (λ y. Option Walk) [ None ↦ None | Some y ↦ walk_on (longer w k y) (order ++ h ∷ []) ]) ≡ Some (longer v h x)
    by None rest g = absurd cc
    by (Some y) rest g = rest y g

-- the bytes that were filled
pub same_range : (o : Option Bytes) → option_map bytes_at (option_map range_of o) ≡ o
same_range None = refl
same_range (Some b) = refl

-- ---- what a step makes of a joint replay

module _ (i : Program) (log : Content) (count : ℕ) (hs : List HartLane) (memory : List (ℕ × ℕ)) (h : ℕ) (l : HartLane) (at : slice_get hs h ≡ Some l) (t : IsTogether i log count hs memory None)
    (ready : readiness (joining i log.records hs memory None) h ≡ is.Ready) where
  abbrev old : Joining
  old = joining i log.records hs memory None

  -- the hart has a step
  pub has_step : is_some (coming_of l.lane) ≡ true
  has_step = by (coming_of l.lane) refl
    where
      by : (o : Option Coming) → coming_of l.lane ≡ o → is_some o ≡ true
      by (Some c) e = refl
      by None e = absurd (done (sym (ap (λ (x : Option Lane). elim x as (λ y. Readiness) [ None ↦ is.Done | Some lane ↦ readiness_of log.records (lanes_of hs) h lane ]) (lane_got hs h l at)
          ∙ ap (λ (x : Option Coming). elim x as (λ y. Readiness) [ None ↦ is.Done | Some c ↦ elim (point_of l.lane) as (λ y. Readiness) [ None ↦ is.Ready | Some ic ↦ waits_for (first_waited (lanes_of hs) (sources_into log.records h ic)) ] ]) e) ∙ ready))
        where
          done : is.Done ≡ is.Ready → ⊥
          done e = cc

  -- the definition's step, by the hart's
  pub step_is : (r : Result (Item × Lane) ReplayError) → lane_step l.program l.lane ≡ Some r → next_step old h ≡ Some (with_step old h r)
  step_is r e =
      ap (λ (o : Option Lane). elim o as (λ y. Option (Result (Item × Joining) ReplayError)) [ None ↦ None | Some lane ↦ move old h (lane_step i lane) ]) (lane_got hs h l at)
      ∙ ap (λ (p : Program). move old h (lane_step p l.lane)) (sym (own_at i log.records 0 h hs l t.own at).0) ∙ ap (move old h) e

  -- a hart that isn't refused its step isn't so in the joint replay
  pub unrefused : LaneUnrefused l → StepUnrefused old h
  unrefused on r e = by (lane_step l.program l.lane) refl
    where
      same : (a b : ReplayError) → ◌≡◌ {A = Option (Result (Item × Joining) ReplayError)} (Some (Err a)) (Some (Err b)) → a ≡ b
      same a b f = cc

      taken : (x : Item × Lane) → lane_step l.program l.lane ≡ Some (Ok x) → r ≡ replay.OutOfMemory
      taken x f = let both : ◌≡◌ {A = Option (Result (Item × Joining) ReplayError)} (Some (with_step old h (Ok x))) (Some (Err r)) = sym (step_is (Ok x) f) ∙ e in absurd cc

      by : (o : Option (Result (Item × Lane) ReplayError)) → lane_step l.program l.lane ≡ o → r ≡ replay.OutOfMemory
      by None f =
          let none : next_step old h ≡ None =
          ap (λ (o : Option Lane). elim o as (λ y. Option (Result (Item × Joining) ReplayError)) [ None ↦ None | Some lane ↦ move old h (lane_step i lane) ]) (lane_got hs h l at)
          ∙ ap (λ (p : Program). move old h (lane_step p l.lane)) (sym (own_at i log.records 0 h hs l t.own at).0) ∙ ap (move old h) f in
          let both : ◌≡◌ {A = Option (Result (Item × Joining) ReplayError)} None (Some (Err r)) = sym none ∙ e in absurd cc
      by (Some (Ok x)) f = taken x f
      by (Some (Err a)) f = let is : a ≡ r = same a r (sym (step_is (Err a) f) ∙ e) in sym is ∙ on a f

  -- the joint replay after the hart's item
  pub after_step : (new : HartLane) (item : Item) (words : List (ℕ × ℕ)) → lane_step l.program l.lane ≡ Some (Ok (item, new.lane)) → words ≡ memory_after item memory
      → next_step old h ≡ Some (Ok (item, joining i log.records (slice_set hs h new) words None))
  after_step new item words e f =
      step_is (Ok (item, new.lane)) e
      ∙ ap (λ (ls : List Lane). Some (made ls (memory_after item memory))) (sym (lanes_set hs h new)) ∙ ap (λ (ms : List (ℕ × ℕ)). Some (made (lanes_of (slice_set hs h new)) ms)) (sym f)
    where
      made : List Lane → List (ℕ × ℕ) → Result (Item × Joining) ReplayError
      made ls ms = Ok (item, record { program = i; records = log.records; lanes = ls; memory = ms; refused = None })

  pub together_after : (new : HartLane) (item : Item) (words : List (ℕ × ℕ)) → lane_step l.program l.lane ≡ Some (Ok (item, new.lane)) → words ≡ memory_after item memory → new ≡ record l { lane = new.lane }
      → IsTogether i log count (slice_set hs h new) words None
  together_after new item words e f same =
      let next : Joining = joining i log.records (slice_set hs h new) words None in
      let stepped : ready_step old h ≡ Some (item, next) =
      ap (λ (r : Readiness). elim r as (λ y. Option (Item × Joining)) [ is.Ready ↦ elim (next_step old h) as (λ y. Option (Item × Joining)) [ None ↦ None | Some x ↦ elim x as (λ y. Option (Item × Joining)) [ Err g ↦ None | Ok y ↦ Some y ] ] | is.Waits s ic ↦ None | is.Done ↦ None ]) ready
      ∙ ap (λ (o : Option (Result (Item × Joining) ReplayError)). elim o as (λ y. Option (Item × Joining)) [ None ↦ None | Some x ↦ elim x as (λ y. Option (Item × Joining)) [ Err g ↦ None | Ok y ↦ Some y ] ]) (after_step new item words e f) in
      let now : t.reached.walk.now ≡ old = t.reached.whole refl in
      record {
        count_is = t.count_is ∙ sym (length_set hs h new);
        number = t.number;
        own = own_set i log.records 0 h hs l new t.own at same;
        reached = subst (λ n. IsReached n next) (sym (length_set hs h new)) (record {
          order = t.reached.order ++ h ∷ [];
          walk = longer t.reached.walk h (item, next);
          begun = record { allowed = walk_added (begun (fresh i (length hs) log.records)) t.reached.walk t.reached.order h (item, next) t.reached.begun.allowed (ap (λ (j : Joining). ready_step j h) now ∙ stepped) };
          lanes = refl;
          memory = refl;
          whole = λ none. refl;
        });
      }

  -- what is passed stays so
  pub passed_after : IsSound old → (new : HartLane) (item : Item) → lane_step l.program l.lane ≡ Some (Ok (item, new.lane))
      → (s j : ℕ) → is_passed (slice_get (lanes_of hs) s) j ≡ true → is_passed (slice_get (lanes_of (slice_set hs h new)) s) j ≡ true
  passed_after sound new item e s j p =
      let there : slice_get (lanes_of hs) h ≡ Some l.lane = lane_got hs h l at in
      let ready_then : readiness_of log.records (lanes_of hs) h l.lane ≡ is.Ready =
      sym (ap (λ (x : Option Lane). elim x as (λ y. Readiness) [ None ↦ is.Done | Some lane ↦ readiness_of log.records (lanes_of hs) h lane ]) there) ∙ ready in
      let passes : Passes i l.lane item new.lane =
      subst (PassesIf i l.lane) (ap (λ (q : Program). lane_step q l.lane) (sym (own_at i log.records 0 h hs l t.own at).0) ∙ e) (steps_pass i l.lane (sound.lanes h l.lane there)) in
      subst (λ (ls : List Lane). is_passed (slice_get ls s) j ≡ true) (sym (lanes_set hs h new)) (stays old h sound l.lane there ready_then new.lane item passes s j p)

-- a refusal, or an allocation that failed, leaves all but what the refused replay has left
pub together_refused : (i : Program) (log : Content) (count : ℕ) (hs : List HartLane) (memory : List (ℕ × ℕ)) (h : ℕ) (l new : HartLane) (e : ReplayError) → slice_get hs h ≡ Some l → IsTogether i log count hs memory None
    → new ≡ record l { lane = new.lane } → bare new.lane ≡ bare l.lane → IsTogether i log count (slice_set hs h new) memory (Some e)
together_refused i log count hs memory h l new e at t same b = record {
  count_is = t.count_is ∙ sym (length_set hs h new);
  number = t.number;
  own = own_set i log.records 0 h hs l new t.own at same;
  reached = subst (λ n. IsReached n (joining i log.records (slice_set hs h new) memory (Some e))) (sym (length_set hs h new)) (record {
    order = t.reached.order;
    walk = t.reached.walk;
    begun = t.reached.begun;
    lanes = t.reached.lanes ∙ sym (bare_set hs h l new at b);
    memory = t.reached.memory;
    whole = λ none. absurd cc;
  });
}
