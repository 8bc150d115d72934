-- A replay that was begun never ends because its interval isn't there, nor does a joint replay.
use Rattle.bugnet.proofs.Common.{◌≡◌, ℕ, zero, suc, ◌+◌, ◌-◌, List, [], ◌∷◌, Option, Some, None, subst, sym, refl, true, false, Bool, slice_get, slice_set, ◌||◌, slice_index, fault_number, Program, Row, Step, Quiet, Asks, step, absorbed, Ask, Want, Load, Store, LoadReserved, StoreConditional, Amo, System, Faulted, Record, Outcome, Done, Refused, Replayed, Interval, Position, On, slot, taken_from, word_for, after_ask, after_sc, missing, call_reason, found, system_step, ask_step, one_step, left_over, finish, fault_end, steps, first, interval_of, replayed_in, replayed, ReplayError, NoInterval, ScMissing, RecordsLeft, EndDiffers, JointError, Replay, Stuck, Next as Choice, Cursor, Lane, Item, with_cursor, cursors_of, cursor_step, lane_step, Joining, Walk, Ran, lanes_from, fresh, begun, longer, positions_from, choice, move, next_step, error_of, ran, run_for, run_all, steps_left, Result, Ok, Err, ◌==◌, ◌&&◌, not, nat_lt, length}
use Rattle.rv_meaning.specs.Access.{stored_word, amo_result}
use Rattle.rv_meaning.specs.Rows.{row_of, call_row, fault_row}
use Rattle.rv_meaning.specs.declared.asks.Reply.TheVariants.{Word, Stored, Answer, Over}
use Rattle.hart_replay.specs.Replay.{Next, Stop, ended}
use Rattle.hart_replay.specs.declared.error.ReplayError.TheVariants.{OutOfMemory}
use Rattle.joint_replay.specs.declared.kinds.Next.TheVariants.{Hart, AllDone, NoneReady}
use Rattle.joint_replay.specs.Points.{intervals_in}

-- ---- one interval

-- any error but that the interval isn't there
abbrev pub is_found : ReplayError → Bool
is_found (NoInterval h c) = false
is_found other = true

abbrev pub is_begun_end : Outcome → Bool
is_begun_end Done = true
is_begun_end (Refused e) = is_found e

abbrev pub IsBegunEnd : Replayed → Type 0
IsBegunEnd r = is_begun_end r.outcome ≡ true

abbrev pub IsBegunStep : Next → Type 0
IsBegunStep (On p) = Unit {0}
IsBegunStep (Stop o) = is_begun_end o ≡ true

-- by a test
by_test : (A : Type 0) (P : A → Type 0) (b : Bool) (x y : A) → P x → P y → P (elim b as (λ z. A) [ true ↦ x | false ↦ y ])
by_test A P true x y p q = p
by_test A P false x y p q = q

-- by a word that may not be known
by_word : (h : ℕ) (p : Position) (a : ℕ) (o : Option ℕ) (go : ℕ → Next) → ((x : ℕ) → IsBegunStep (go x)) → IsBegunStep (elim o as (λ z. Next) [ None ↦ missing h p a | Some x ↦ go x ])
by_word h p a None go each = refl
by_word h p a (Some x) go each = each x

by_slot : (o : Option Bool) (stop : Next) (go : Bool → Next) → IsBegunStep stop → ((b : Bool) → IsBegunStep (go b)) → IsBegunStep (elim o as (λ z. Next) [ None ↦ stop | Some b ↦ go b ])
by_slot None stop go s each = s
by_slot (Some b) stop go s each = each b

module _ (i : Program) (h : ℕ) (v : Interval) where
  call_begun : (p : Position) (ask : Ask) (n a0 : ℕ) → IsBegunStep (system_step i h v p ask n a0)
  call_begun p ask n a0 =
      let reason : ℕ = call_reason n in
      let value : ℕ = elim (reason == 2) as (λ z. ℕ) [ true ↦ 0 | false ↦ a0 ] in
      let more : Next = On (record { state = absorbed ask (Answer v.mark.value); loads = p.loads; conditionals = p.conditionals; rows = call_row h i p.state (Some (10, v.mark.value)) ∷ p.rows; called = true }) in
      let last : Next = On (record { state = absorbed ask Over; loads = p.loads; conditionals = p.conditionals; rows = call_row h i p.state None ∷ p.rows; called = true }) in
      by_test Next IsBegunStep (p.state.ic + 1 == v.mark.ic && (reason == v.mark.reason) && ((reason == 2) || (value == v.mark.value)))
      (elim (reason == 2) as (λ z. Next) [ true ↦ more | false ↦ last ]) (Stop (Refused (EndDiffers h v.mark (found (p.state.ic + 1) reason value))))
      (by_test Next IsBegunStep (reason == 2) more last tt tt) refl

  asks_begun : (p : Position) (k : Want) → IsBegunStep (ask_step i h v p k)
  asks_begun p (Load a w s rd) = by_word h p a (word_for v p a) (λ x. after_ask i h p (record { state = p.state; want = Load a w s rd }) (Word x) 1 (Some (a, x)) None) (λ x. tt)
  asks_begun p (LoadReserved a rd) = by_word h p a (word_for v p a) (λ x. after_ask i h p (record { state = p.state; want = LoadReserved a rd }) (Word x) 1 (Some (a, x)) None) (λ x. tt)
  asks_begun p (Amo a o rd y) = by_word h p a (word_for v p a) (λ x. after_ask i h p (record { state = p.state; want = Amo a o rd y }) (Word x) 1 (Some (a, x)) (Some (a, amo_result o x y))) (λ x. tt)
  asks_begun p (Store a w y) =
      let ask : Ask = record { state = p.state; want = Store a w y } in
      let go : ℕ → Next = λ x. after_ask i h p ask Stored 1 None (Some (a, stored_word a w y x)) in
      by_test Next IsBegunStep (w == 4) (after_ask i h p ask Stored 0 None (Some (a, y))) (elim (word_for v p a) as (λ z. Next) [ None ↦ missing h p a | Some x ↦ go x ]) tt
      (by_word h p a (word_for v p a) go (λ x. tt))
  asks_begun p (StoreConditional a rd y) = by_slot (slot v.conditionals p.conditionals) (Stop (Refused (ScMissing h p.state.ic))) (λ b. after_sc i h p (record { state = p.state; want = StoreConditional a rd y }) b a y) refl (λ b. tt)
  asks_begun p (System n args) = call_begun p (record { state = p.state; want = System n args }) n (slice_index args 0)
  asks_begun p k = refl

  step_begun : (p : Position) (s : Step) → IsBegunStep (elim s as (λ z. Next) [ Quiet t ↦ On (record { state = t; loads = p.loads; conditionals = p.conditionals; rows = row_of h i p.state t None None ∷ p.rows; called = false }) | Asks k ↦ ask_step i h v p k ])
  step_begun p (Quiet t) = tt
  step_begun p (Asks k) = asks_begun p k

  left_begun : (p : Position) → is_begun_end (left_over h v p) ≡ true
  left_begun p =
      let n : ℕ = (length v.loads - taken_from 0 v.loads p.loads) + (length v.conditionals - p.conditionals) in
      by_test Outcome (λ o. is_begun_end o ≡ true) (n == 0) Done (Refused (RecordsLeft h n)) refl refl

  fault_begun : (p : Position) (k : Want) → IsBegunEnd (fault_end i h v p k)
  fault_begun p (Faulted f y) =
      by_test Replayed IsBegunEnd (16 + fault_number f == v.mark.reason && (y == v.mark.value))
      (finish (fault_row h i p.state f y ∷ p.rows) (left_over h v p)) (finish p.rows (Refused (EndDiffers h v.mark (found p.state.ic (16 + fault_number f) y)))) (left_begun p) refl
  fault_begun p k = refl

  asked_begun : (p : Position) (s : Step) (quiet : Replayed) → IsBegunEnd quiet → IsBegunEnd (elim s as (λ z. Replayed) [ Quiet t ↦ quiet | Asks k ↦ fault_end i h v p k ])
  asked_begun p (Quiet t) quiet q = q
  asked_begun p (Asks k) quiet q = fault_begun p k

  ended_begun : (p : Position) → IsBegunEnd (ended i h v p)
  ended_begun p =
      let differs : Replayed = finish p.rows (Refused (EndDiffers h v.mark (found p.state.ic 1 0))) in
      let calls : Bool = (v.mark.reason == 2 || (v.mark.reason == 3) || (v.mark.reason == 4)) && not p.called in
      by_test Replayed IsBegunEnd (nat_lt 16 v.mark.reason)
      (elim (step i p.state) as (λ z. Replayed) [ Quiet t ↦ differs | Asks k ↦ fault_end i h v p k ])
      (elim calls as (λ z. Replayed) [ true ↦ differs | false ↦ finish p.rows (left_over h v p) ])
      (asked_begun p (step i p.state) differs refl)
      (by_test Replayed IsBegunEnd calls differs (finish p.rows (left_over h v p)) refl (left_begun p))

  next_begun : (rows : List Row) (go : Position → Replayed) (x : Next) → IsBegunStep x → ((q : Position) → IsBegunEnd (go q)) → IsBegunEnd (elim x as (λ z. Replayed) [ On q ↦ go q | Stop o ↦ finish rows o ])
  next_begun rows go (On q) e each = each q
  next_begun rows go (Stop o) e each = e

  steps_begun : (n : ℕ) (p : Position) → IsBegunEnd (steps i h v n p)
  steps_begun zero p = ended_begun p
  steps_begun (suc n) p = next_begun p.rows (λ q. steps i h v n q) (one_step i h v p) (step_begun p (step i p.state)) (λ q. steps_begun n q)

-- the replay of an interval that a log has
pub replays_begin : (i : Program) (records : List Record) (h c : ℕ) (v : Interval) → interval_of h c records ≡ Some v → IsBegunEnd (replayed i records h c)
replays_begin i records h c v e = subst (λ (o : Option Interval). IsBegunEnd (replayed_in i h c o)) (sym e) (steps_begun i h v (v.mark.ic - v.start.ic) (first v))

-- ---- all harts

abbrev pub CursorsBegun : List Cursor → Type 0
CursorsBegun [] = Unit {0}
CursorsBegun (c ∷ cs) = IsBegunEnd c.left × CursorsBegun cs

abbrev pub LanesBegun : List Lane → Type 0
LanesBegun [] = Unit {0}
LanesBegun (l ∷ ls) = CursorsBegun l.cursors × LanesBegun ls

abbrev pub NotAbsent : Option ReplayError → Type 0
NotAbsent None = Unit {0}
NotAbsent (Some e) = is_found e ≡ true

-- what is left of each hart, and a refusal
abbrev pub JoiningBegun : Joining → Type 0
JoiningBegun j = LanesBegun j.lanes × NotAbsent j.refused

-- ---- the first point

with_begun : (o : Option Interval) (n : ℕ) (left : Replayed) (cs : List Cursor) → ((v : Interval) → o ≡ Some v → IsBegunEnd left) → CursorsBegun cs → CursorsBegun (with_cursor o n left cs)
with_begun None n left cs begins rest = rest
with_begun (Some v) n left cs begins rest = (begins v refl, rest)

cursors_begun : (i : Program) (records : List Record) (h : ℕ) (ns : List ℕ) → CursorsBegun (cursors_of i records h ns)
cursors_begun i records h [] = tt
cursors_begun i records h (n ∷ ns) = with_begun (interval_of h n records) n (replayed i records h n) (cursors_of i records h ns) (replays_begin i records h n) (cursors_begun i records h ns)

lanes_begun : (i : Program) (records : List Record) (h n : ℕ) → LanesBegun (lanes_from i records h n)
lanes_begun i records h zero = tt
lanes_begun i records h (suc n) = (cursors_begun i records h (intervals_in h records), lanes_begun i records (h + 1) n)

-- ---- a step

abbrev pub LaneGoesOn : Result (Item × Lane) ReplayError → Type 0
LaneGoesOn (Ok x) = CursorsBegun x.1.cursors
LaneGoesOn (Err e) = is_found e ≡ true

abbrev pub GoesOn : Result (Item × Joining) ReplayError → Type 0
GoesOn (Ok x) = JoiningBegun x.1
GoesOn (Err e) = is_found e ≡ true

over_begun : (i : Program) (c : Cursor) (cs : List Cursor) (rows : List Row) (o : Outcome) → is_begun_end o ≡ true → CursorsBegun cs
    → LaneGoesOn (cursor_step i (record c { left = record { rows = rows; outcome = o } }) cs)
over_begun i c cs (r ∷ rs) o e rest = (e, rest)
over_begun i c cs [] Done e rest = rest
over_begun i c cs [] (Refused error) e rest = e

abbrev pub IfLaneGoes : Option (Result (Item × Lane) ReplayError) → Type 0
IfLaneGoes None = Unit {0}
IfLaneGoes (Some r) = LaneGoesOn r

lane_goes : (i : Program) (points : List ℕ) (cursors : List Cursor) → CursorsBegun cursors → IfLaneGoes (lane_step i (record { points = points; cursors = cursors }))
lane_goes i (p ∷ ps) cursors rest = rest
lane_goes i [] [] rest = tt
lane_goes i [] (c ∷ cs) rest = over_begun i c cs c.left.rows c.left.outcome rest.0 rest.1

got_begun : (ls : List Lane) (h : ℕ) (lane : Lane) → slice_get ls h ≡ Some lane → LanesBegun ls → CursorsBegun lane.cursors
got_begun [] h lane e all = absurd cc
got_begun (l ∷ ls) zero lane e all = subst (λ (o : Lane). CursorsBegun o.cursors) (let same : l ≡ lane = cc in same) all.0
got_begun (l ∷ ls) (suc h) lane e all = got_begun ls h lane e all.1

set_begun : (ls : List Lane) (h : ℕ) (lane : Lane) → LanesBegun ls → CursorsBegun lane.cursors → LanesBegun (slice_set ls h lane)
set_begun [] h lane all new = all
set_begun (l ∷ ls) zero lane all new = (new, all.1)
set_begun (l ∷ ls) (suc h) lane all new = (all.0, set_begun ls h lane all.1 new)

abbrev pub IfGoes : Option (Result (Item × Joining) ReplayError) → Type 0
IfGoes None = Unit {0}
IfGoes (Some r) = GoesOn r

move_begun : (j : Joining) (h : ℕ) (o : Option (Result (Item × Lane) ReplayError)) → JoiningBegun j → IfLaneGoes o → IfGoes (move j h o)
move_begun j h None all goes = tt
move_begun j h (Some (Ok x)) all goes = (set_begun j.lanes h x.1 all.0 goes, all.1)
move_begun j h (Some (Err e)) all goes = goes

at_lane : (j : Joining) (h : ℕ) (o : Option Lane) → slice_get j.lanes h ≡ o → JoiningBegun j
    → IfGoes (elim o as (λ z. Option (Result (Item × Joining) ReplayError)) [ None ↦ None | Some lane ↦ move j h (lane_step j.program lane) ])
at_lane j h None e all = tt
at_lane j h (Some lane) e all = move_begun j h (lane_step j.program lane) all (lane_goes j.program lane.points lane.cursors (got_begun j.lanes h lane e all.0))

at_refusal : (j : Joining) (h : ℕ) (o : Option ReplayError) → NotAbsent o → JoiningBegun j
    → IfGoes (elim o as (λ z. Option (Result (Item × Joining) ReplayError)) [ Some e ↦ Some (Err e) | None ↦ elim (slice_get j.lanes h) [ None ↦ None | Some lane ↦ move j h (lane_step j.program lane) ] ])
at_refusal j h None e all = at_lane j h (slice_get j.lanes h) refl all
at_refusal j h (Some error) e all = e

pub next_goes : (j : Joining) (h : ℕ) → JoiningBegun j → IfGoes (next_step j h)
next_goes j h all = at_refusal j h j.refused all.1 all

-- ---- a run

-- it stops for another cause
abbrev pub StopsBegun : Option JointError → Type 0
StopsBegun (Some (Replay e)) = is_found e ≡ true
StopsBegun other = Unit {0}

pub told_begun : (e : ReplayError) → is_found e ≡ true → StopsBegun (Some (error_of e))
told_begun OutOfMemory f = tt
told_begun e f = f

abbrev pub step_then : Walk → (Walk → Ran) → ℕ → Option (Result (Item × Joining) ReplayError) → Ran
step_then w go h o = elim o as (λ z. Ran) [
  | None ↦ ran w None
  | Some r ↦ elim r as (λ z. Ran) [ Err e ↦ ran (record w { now = record w.now { refused = Some e } }) (Some (error_of e)) | Ok x ↦ go (longer w h x) ]
]

step_stops : (w : Walk) (go : Walk → Ran) (h : ℕ) (o : Option (Result (Item × Joining) ReplayError)) → IfGoes o → ((v : Walk) → JoiningBegun v.now → StopsBegun (go v).stopped)
    → StopsBegun (step_then w go h o).stopped
step_stops w go h None goes each = tt
step_stops w go h (Some (Ok x)) goes each = each (longer w h x) goes
step_stops w go h (Some (Err e)) goes each = told_begun e goes

choice_stops : (w : Walk) (go : Walk → Ran) (c : Choice) → JoiningBegun w.now → ((v : Walk) → JoiningBegun v.now → StopsBegun (go v).stopped)
    → StopsBegun (elim c as (λ z. Ran) [
      | AllDone ↦ ran w None
      | NoneReady ↦ ran w (Some (Stuck (positions_from 0 w.now.lanes)))
      | Hart h ↦ step_then w go h (next_step w.now h)
    ]).stopped
choice_stops w go (Hart h) all each = step_stops w go h (next_step w.now h) (next_goes w.now h all) each
choice_stops w go other all each = tt

refusal_stops : (w : Walk) (go : Walk → Ran) (o : Option ReplayError) → NotAbsent o → JoiningBegun w.now → ((v : Walk) → JoiningBegun v.now → StopsBegun (go v).stopped)
    → StopsBegun (elim o as (λ z. Ran) [
      | Some e ↦ ran w (Some (error_of e))
      | None ↦ elim (choice w.now) as (λ z. Ran) [
        | AllDone ↦ ran w None
        | NoneReady ↦ ran w (Some (Stuck (positions_from 0 w.now.lanes)))
        | Hart h ↦ step_then w go h (next_step w.now h)
      ]
    ]).stopped
refusal_stops w go None e all each = choice_stops w go (choice w.now) all each
refusal_stops w go (Some error) e all each = told_begun error e

run_stops : (n : ℕ) (w : Walk) → JoiningBegun w.now → StopsBegun (run_for n w).stopped
run_stops zero w all = tt
run_stops (suc n) w all = refusal_stops w (λ v. run_for n v) w.now.refused all.1 all (λ v. run_stops n v)

pub joining_begins : (i : Program) (harts : ℕ) (records : List Record) → JoiningBegun (fresh i harts records)
joining_begins i harts records = (lanes_begun i records 0 harts, tt)

-- a run from the first step on
pub joint_replays_begin : (i : Program) (harts : ℕ) (records : List Record) → StopsBegun (run_all (fresh i harts records)).stopped
joint_replays_begin i harts records =
    let j = fresh i harts records in
    run_stops (steps_left j.lanes + 1) (begun j) (joining_begins i harts records)
