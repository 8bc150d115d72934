-- The row of each point is its hart's.
use Rattle.race_report.proofs.Common.{◌≡◌, ℕ, zero, suc, ◌+◌, ◌-◌, ◌==◌, nat_lt, Bool, true, false, not, ◌&&◌, ◌||◌, refl, sym, ap, ◌∙◌, subst, arith, List, [], ◌∷◌, ◌++◌, slice_get, slice_set, slice_index, Option, Some, None, Result, Ok, Err, append-nil, Program, Row, Record, ReplayError, Outcome, Done, Refused, Replayed, Interval, Position, On, Stop, interval_of, word_for, missing, slot, after_ask, after_sc, call_reason, found, system_step, ask_step, one_step, left_over, onto, finish, fault_end, ended, steps, first, replayed_in, replayed, Cursor, Lane, Item, Passing, Doing, Ending, row_given, with_cursor, cursors_of, lane_of, lane_step, cursor_step, Joining, fresh, lanes_from, next_step, steps_left, Touch, Accessing, accessing, touch_of, point_in, points_of, HaveOwnRows, PointsHaveOwnRows, eqb-true, same_Some, eqb-false}
use Rattle.bn_base.specs.Faults.{fault_number}
use Rattle.rv_meaning.specs.Access.{stored_word, amo_result}
use Rattle.rv_meaning.specs.Execute.{Step, Quiet, Asks, step, absorbed}
use Rattle.rv_meaning.specs.Rows.{row_of, call_row, fault_row}
use Rattle.rv_meaning.specs.declared.asks.Want.{Want}
use Rattle.rv_meaning.specs.declared.asks.Want.TheVariants.{Load, Store, LoadReserved, StoreConditional, Amo, System, Cut, Faulted}
use Rattle.rv_meaning.specs.declared.asks.Reply.TheVariants.{Word, Stored, Answer, Over}
use Rattle.hart_replay.specs.declared.error.ReplayError.TheVariants.{EndDiffers, ScMissing}
use Rattle.hart_replay.specs.Replay.{Next}
use Rattle.joint_replay.specs.Points.{intervals_in}
use Rattle.race_report.proofs.Counted.{step_lane, run_keeps}
use Rattle.joint_replay.proofs.Soundness.{get_same, get_other}

-- ---- the rows of a replay

-- all rows are of the hart
abbrev AreOf : ℕ → List Row → Type 0
AreOf h [] = Unit {0}
AreOf h (r ∷ rs) = (r.hart ≡ h) × AreOf h rs

onto_own : (h : ℕ) (rs more : List Row) → AreOf h rs → AreOf h more → AreOf h (onto rs more)
onto_own h [] more a b = b
onto_own h (r ∷ rs) more a b = onto_own h rs (r ∷ more) a.1 (a.0, b)

finished : (h : ℕ) (rows : List Row) (o : Outcome) → AreOf h rows → AreOf h (finish rows o).rows
finished h rows o a = onto_own h rows [] a tt

abbrev OnOwn : ℕ → Next → Type 0
OnOwn h (On q) = AreOf h q.rows
OnOwn h (Stop o) = Unit {0}

module _ (i : Program) (h : ℕ) (v : Interval) (p : Position) (own : AreOf h p.rows) where
  loaded : (o : Option ℕ) (a : ℕ) (go : ℕ → Next) → ((x : ℕ) → OnOwn h (go x)) → OnOwn h (elim o as (λ y. Next) [ None ↦ missing h p a | Some x ↦ go x ])
  loaded None a go g = tt
  loaded (Some x) a go g = g x

  asked : (k : Want) → OnOwn h (ask_step i h v p k)
  asked (Load a w s rd) = loaded (word_for v p a) a (λ x. after_ask i h p (record { state = p.state; want = Load a w s rd }) (Word x) 1 (Some (a, x)) None) (λ x. (refl, own))
  asked (LoadReserved a rd) = loaded (word_for v p a) a (λ x. after_ask i h p (record { state = p.state; want = LoadReserved a rd }) (Word x) 1 (Some (a, x)) None) (λ x. (refl, own))
  asked (Amo a o rd y) = loaded (word_for v p a) a (λ x. after_ask i h p (record { state = p.state; want = Amo a o rd y }) (Word x) 1 (Some (a, x)) (Some (a, amo_result o x y))) (λ x. (refl, own))
  asked (Store a w y) = by (w == 4)
    where
      by : (b : Bool) → OnOwn h (elim b as (λ z. Next) [
        | true ↦ after_ask i h p (record { state = p.state; want = Store a w y }) Stored 0 None (Some (a, y))
        | false ↦ elim (word_for v p a) as (λ z. Next) [ None ↦ missing h p a | Some x ↦ after_ask i h p (record { state = p.state; want = Store a w y }) Stored 1 None (Some (a, stored_word a w y x)) ]
      ])
      by true = (refl, own)
      by false = loaded (word_for v p a) a (λ x. after_ask i h p (record { state = p.state; want = Store a w y }) Stored 1 None (Some (a, stored_word a w y x))) (λ x. (refl, own))
  asked (StoreConditional a rd y) = by (slot v.conditionals p.conditionals)
    where
      by : (o : Option Bool) → OnOwn h (elim o as (λ z. Next) [ None ↦ Stop (Refused (ScMissing h p.state.ic)) | Some b ↦ after_sc i h p (record { state = p.state; want = StoreConditional a rd y }) b a y ])
      by None = tt
      by (Some b) = (refl, own)
  asked (System n args) = called n (slice_index args 0)
    where
      called : (n a0 : ℕ) → OnOwn h (system_step i h v p (record { state = p.state; want = System n args }) n a0)
      called n a0 = by (p.state.ic + 1 == v.mark.ic && (call_reason n == v.mark.reason) && ((call_reason n == 2) || (value == v.mark.value))) (call_reason n == 2)
        where
          value : ℕ
          value = elim (call_reason n == 2) [ true ↦ 0 | false ↦ a0 ]

          by : (is_end goes_on : Bool) → OnOwn h (elim is_end as (λ y. Next) [
            | true ↦ elim goes_on as (λ y. Next) [
              | true ↦ On (record { state = absorbed (record { state = p.state; want = System n args }) (Answer v.mark.value); loads = p.loads; conditionals = p.conditionals; rows = call_row h i p.state (Some (10, v.mark.value)) ∷ p.rows; called = true })
              | false ↦ On (record { state = absorbed (record { state = p.state; want = System n args }) Over; loads = p.loads; conditionals = p.conditionals; rows = call_row h i p.state None ∷ p.rows; called = true })
            ]
            | false ↦ Stop (Refused (EndDiffers h v.mark (found (p.state.ic + 1) (call_reason n) value)))
          ])
          by true true = (refl, own)
          by true false = (refl, own)
          by false goes_on = tt
  asked Cut = tt
  asked (Faulted f y) = tt

  stepped : OnOwn h (one_step i h v p)
  stepped = by (step i p.state)
    where
      by : (s : Step) → OnOwn h (elim s as (λ y. Next) [
        | Quiet t ↦ On (record { state = t; loads = p.loads; conditionals = p.conditionals; rows = row_of h i p.state t None None ∷ p.rows; called = false })
        | Asks k ↦ ask_step i h v p k
      ])
      by (Quiet t) = (refl, own)
      by (Asks k) = asked k

  faulted : (k : Want) → AreOf h (fault_end i h v p k).rows
  faulted (Faulted f y) = by (16 + fault_number f == v.mark.reason && (y == v.mark.value))
    where
      by : (b : Bool) → AreOf h (elim b as (λ z. Replayed) [
        | true ↦ finish (fault_row h i p.state f y ∷ p.rows) (left_over h v p)
        | false ↦ finish p.rows (Refused (EndDiffers h v.mark (found p.state.ic (16 + fault_number f) y)))
      ]).rows
      by true = finished h (fault_row h i p.state f y ∷ p.rows) (left_over h v p) (refl, own)
      by false = finished h p.rows (Refused (EndDiffers h v.mark (found p.state.ic (16 + fault_number f) y))) own
  faulted (Load a w s rd) = finished h p.rows (Refused (EndDiffers h v.mark (found p.state.ic 1 0))) own
  faulted (LoadReserved a rd) = finished h p.rows (Refused (EndDiffers h v.mark (found p.state.ic 1 0))) own
  faulted (Amo a o rd y) = finished h p.rows (Refused (EndDiffers h v.mark (found p.state.ic 1 0))) own
  faulted (Store a w y) = finished h p.rows (Refused (EndDiffers h v.mark (found p.state.ic 1 0))) own
  faulted (StoreConditional a rd y) = finished h p.rows (Refused (EndDiffers h v.mark (found p.state.ic 1 0))) own
  faulted (System n args) = finished h p.rows (Refused (EndDiffers h v.mark (found p.state.ic 1 0))) own
  faulted Cut = finished h p.rows (Refused (EndDiffers h v.mark (found p.state.ic 1 0))) own

  at_end : AreOf h (ended i h v p).rows
  at_end = by (nat_lt 16 v.mark.reason)
    where
      fault : (s : Step) → AreOf h (elim s as (λ y. Replayed) [ Quiet t ↦ finish p.rows (Refused (EndDiffers h v.mark (found p.state.ic 1 0))) | Asks k ↦ fault_end i h v p k ]).rows
      fault (Quiet t) = finished h p.rows (Refused (EndDiffers h v.mark (found p.state.ic 1 0))) own
      fault (Asks k) = faulted k

      other : (b : Bool) → AreOf h (elim b as (λ y. Replayed) [ true ↦ finish p.rows (Refused (EndDiffers h v.mark (found p.state.ic 1 0))) | false ↦ finish p.rows (left_over h v p) ]).rows
      other true = finished h p.rows (Refused (EndDiffers h v.mark (found p.state.ic 1 0))) own
      other false = finished h p.rows (left_over h v p) own

      by : (b : Bool) → AreOf h (elim b as (λ y. Replayed) [
        | true ↦ elim (step i p.state) as (λ y. Replayed) [ Quiet t ↦ finish p.rows (Refused (EndDiffers h v.mark (found p.state.ic 1 0))) | Asks k ↦ fault_end i h v p k ]
        | false ↦ elim ((v.mark.reason == 2 || (v.mark.reason == 3) || (v.mark.reason == 4)) && not p.called) as (λ y. Replayed) [
          | true ↦ finish p.rows (Refused (EndDiffers h v.mark (found p.state.ic 1 0)))
          | false ↦ finish p.rows (left_over h v p)
        ]
      ]).rows
      by true = fault (step i p.state)
      by false = other ((v.mark.reason == 2 || (v.mark.reason == 3) || (v.mark.reason == 4)) && not p.called)

all_steps : (i : Program) (h : ℕ) (v : Interval) (n : ℕ) (p : Position) → AreOf h p.rows → AreOf h (steps i h v n p).rows
all_steps i h v zero p own = at_end i h v p own
all_steps i h v (suc n) p own = by (one_step i h v p) (stepped i h v p own) (λ q a. all_steps i h v n q a)
  where
    by : (x : Next) → OnOwn h x → ((q : Position) → AreOf h q.rows → AreOf h (steps i h v n q).rows) → AreOf h (elim x as (λ y. Replayed) [ On q ↦ steps i h v n q | Stop o ↦ finish p.rows o ]).rows
    by (On q) a rest = rest q a
    by (Stop o) a rest = finished h p.rows o own

replay_own : (i : Program) (records : List Record) (h n : ℕ) → AreOf h (replayed i records h n).rows
replay_own i records h n = by (interval_of h n records)
  where
    by : (o : Option Interval) → AreOf h (replayed_in i h n o).rows
    by None = tt
    by (Some v) = all_steps i h v (v.mark.ic - v.start.ic) (first v) tt

-- ---- the harts

abbrev CursorsOwn : ℕ → List Cursor → Type 0
CursorsOwn h [] = Unit {0}
CursorsOwn h (c ∷ cs) = AreOf h c.left.rows × CursorsOwn h cs

cursors_own : (i : Program) (records : List Record) (h : ℕ) (ns : List ℕ) → CursorsOwn h (cursors_of i records h ns)
cursors_own i records h [] = tt
cursors_own i records h (n ∷ ns) = by (interval_of h n records) (cursors_own i records h ns)
  where
    by : (o : Option Interval) → CursorsOwn h (cursors_of i records h ns) → CursorsOwn h (with_cursor o n (replayed i records h n) (cursors_of i records h ns))
    by None rest = rest
    by (Some v) rest = (replay_own i records h n, rest)

-- the rows that are left to do of each hart are its own
abbrev LanesOwn : List Lane → Type 0
LanesOwn lanes = (h : ℕ) (lane : Lane) → slice_get lanes h ≡ Some lane → CursorsOwn h lane.cursors

begin_own : (i : Program) (records : List Record) (h n k : ℕ) (lane : Lane) → slice_get (lanes_from i records h n) k ≡ Some lane → CursorsOwn (h + k) lane.cursors
begin_own i records h zero k lane e = absurd cc
begin_own i records h (suc n) zero lane e =
    let at : h ≡ h + 0 = omega arith in
    subst (λ (l : Lane). CursorsOwn (h + 0) l.cursors) (same_Some (lane_of i records h) lane e) (subst (λ k. CursorsOwn k (cursors_of i records h (intervals_in h records))) at (cursors_own i records h (intervals_in h records)))
begin_own i records h (suc n) (suc k) lane e =
    let at : h + 1 + k ≡ h + suc k = omega arith in subst (λ m. CursorsOwn m lane.cursors) at (begin_own i records (h + 1) n k lane e)

-- ---- one step

abbrev ItemOwn : ℕ → Item → Type 0
ItemOwn h (Passing ic) = Unit {0}
ItemOwn h (Doing before row) = row.hart ≡ h
ItemOwn h (Ending n m) = Unit {0}

-- what the step did and what it leaves are the hart's
abbrev StepOwn : ℕ → Item × Lane → Type 0
StepOwn h x = ItemOwn h x.0 × CursorsOwn h x.1.cursors

same_pair : (x y : Item × Lane) → ◌≡◌ {A = Result (Item × Lane) ReplayError} (Ok x) (Ok y) → x ≡ y
same_pair x y e = cc

cursor_own : (i : Program) (h : ℕ) (c : Cursor) (cs : List Cursor) (x : Item × Lane) → AreOf h c.left.rows → CursorsOwn h cs → cursor_step i c cs ≡ Ok x → StepOwn h x
cursor_own i h c cs x a rest e = by c.left.rows c.left.outcome a e
  where
    by : (rows : List Row) (o : Outcome) → AreOf h rows → elim rows as (λ y. Result (Item × Lane) ReplayError) [
      | r ∷ rs ↦ Ok (Doing c.state r, record { points = []; cursors = row_given i c r rs ∷ cs })
      | [] ↦ elim o as (λ y. Result (Item × Lane) ReplayError) [ Done ↦ Ok (Ending c.number c.mark, record { points = []; cursors = cs }) | Refused e ↦ Err e ]
    ] ≡ Ok x → StepOwn h x
    by (r ∷ rs) o a e = subst (StepOwn h) (same_pair (Doing c.state r, record { points = []; cursors = row_given i c r rs ∷ cs }) x e) (a.0, (a.1, rest))
    by [] Done a e = subst (StepOwn h) (same_pair (Ending c.number c.mark, record { points = []; cursors = cs }) x e) (tt, rest)
    by [] (Refused g) a e = absurd cc

lane_own : (i : Program) (h : ℕ) (points : List ℕ) (cursors : List Cursor) (x : Item × Lane) → CursorsOwn h cursors → lane_step i (record { points = points; cursors = cursors }) ≡ Some (Ok x) → StepOwn h x
lane_own i h (p ∷ ps) cursors x a e = subst (StepOwn h) (same_pair (Passing p, record { points = ps; cursors = cursors }) x (same_Some (Ok (Passing p, record { points = ps; cursors = cursors })) (Ok x) e)) (tt, a)
lane_own i h [] [] x a e = absurd cc
lane_own i h [] (c ∷ cs) x a e = cursor_own i h c cs x a.0 a.1 (same_Some (cursor_step i c cs) (Ok x) e)

set_own : (lanes : List Lane) (h : ℕ) (lane new : Lane) → slice_get lanes h ≡ Some lane → LanesOwn lanes → CursorsOwn h new.cursors → LanesOwn (slice_set lanes h new)
set_own lanes h lane new at own here k other e = by (h == k) refl
  where
    by : (b : Bool) → (h == k) ≡ b → CursorsOwn k other.cursors
    by true f =
        let same = eqb-true h k f in
        subst (λ (l : Lane). CursorsOwn k l.cursors) (same_Some new other (sym (ap (slice_get (slice_set lanes h new)) (sym same) ∙ get_same lanes h lane new at) ∙ e)) (subst (λ n. CursorsOwn n new.cursors) same here)
    by false f = own k other (sym (get_other lanes h k new (eqb-false h k f)) ∙ e)

-- ---- all steps

-- one more
more_own : (run : List Accessing) (new : Accessing) → new.row.hart ≡ new.hart → HaveOwnRows run → HaveOwnRows (run ++ new ∷ [])
more_own [] new is own zero p e = subst (λ (q : Accessing). q.row.hart ≡ q.hart) (same_Some new p e) is
more_own [] new is own (suc m) p e = absurd cc
more_own (q ∷ qs) new is own zero p e = own 0 p e
more_own (q ∷ qs) new is own (suc m) p e = more_own qs new is (λ k. own (suc k)) m p e

item_own : (run : List Accessing) (h : ℕ) (item : Item) → ItemOwn h item → HaveOwnRows run → HaveOwnRows (run ++ point_in h item)
item_own run h (Passing ic) a own = subst HaveOwnRows (sym (append-nil run)) own
item_own run h (Ending n m) a own = subst HaveOwnRows (sym (append-nil run)) own
item_own run h (Doing before row) a own = by (touch_of before row)
  where
    by : (o : Option Touch) → HaveOwnRows (run ++ accessing h row o)
    by None = subst HaveOwnRows (sym (append-nil run)) own
    by (Some t) = more_own run (record { hart = h; row = row; touch = t }) a own

step_own : (j : Joining) (h : ℕ) (x : Item × Joining) → LanesOwn j.lanes → next_step j h ≡ Some (Ok x) → ItemOwn h x.0 × LanesOwn x.1.lanes
step_own j h x own e =
    let s = step_lane j h x e in
    let d = lane_own j.program h s.lane.points s.lane.cursors (x.0, s.next) (own h s.lane s.at) s.step in
    (d.0, subst LanesOwn (sym s.lanes) (set_own j.lanes h s.lane s.next s.at own d.1))

pub points_have_own_rows : PointsHaveOwnRows
points_have_own_rows i s records =
    (run_keeps (λ ts j. HaveOwnRows (points_of ts) × LanesOwn j.lanes) (λ ts j h x none lowest e kept. let one = step_own j h x kept.1 e in (item_own (points_of ts) h x.0 one.0 kept.0, one.1))
    (steps_left (fresh i s.harts records).lanes + 1) [] (fresh i s.harts records) (
      (λ m p e. absurd cc),
      (λ h lane e. let at : 0 + h ≡ h = omega arith in subst (λ k. CursorsOwn k lane.cursors) at (begin_own i records 0 s.harts h lane e)),
    )).1.0
