use Rattle.joint_laws.proofs.Common.{◌≡◌, ℕ, true, refl, sym, ap, ◌∙◌, subst, arith, List, [], ◌∷◌, ◌++◌, slice_get, Option, Some, None, append_assoc, Row, HartState, Record, start, run_of, legal_from, Run, BeginsIn, IntervalsBegin, BeginningsTellStates, RowsTellRuns, state_after, Cursor, Lane, state_of, Recording, IsLogOf, OfBeginnings, first_state, IsStateOfRun, HasShownStates, none-some, after_append, HasStates, EndsSuffice, IntervalRowsAreOfTurns}
use Rattle.run_model.specs.Rows.{rows_of}
use Rattle.joint_laws.proofs.Follows.{IsOf, AreOf, IsFollowed, IsItemOf, follows}
use Rattle.row_laws.proofs.Whole.{rows_append}
use Rattle.run_laws.proofs.Converse.{legal_front}
use Rattle.joint_laws.proofs.Memory.{item_of}
use Rattle.joint_laws.proofs.Moves.{some_is}
use Rattle.joint_laws.proofs.the_states_are_recorded.Goals as goal

-- The states that are shown of harts.
-- ---- an interval under way

module _ (begins : IntervalsBegin) (begun : BeginningsTellStates) (tell : RowsTellRuns) (r : Recording) (records : List Record) (log : IsLogOf r records) (h : ℕ) where
  of_cursor : (c : Cursor) → IsOf r records h c → IsStateOfRun r h c.state
  of_cursor c o =
      let setting = log.recording.setting in
      let limit = setting.limit_high in
      let x : BeginsIn r.settings r.program r.input r.turns h c.number o.interval =
      begins r.settings r.program r.input r.turns h c.number (omega (arith, limit)) (record { legal = log.recording.legal; over = log.recording.over }) records log.end o.interval o.found in
      let first : Run = start r.settings r.program r.input in
      let before : List Row = rows_of r.settings r.program first x.past h in
      let legal : legal_from r.settings r.program first x.past ≡ true =
      legal_front r.settings r.program first x.past x.left (ap (legal_from r.settings r.program first) (sym x.turns) ∙ log.recording.legal) in
      let to : state_after r.program (first_state r h) before ≡ ((run_of r.settings r.program r.input x.past).harts h).state = (tell r.settings r.program r.input [] x.past h setting legal).1 in
      let there : state_after r.program (first_state r h) (before ++ x.before) ≡ o.interval.start =
      after_append r.program (first_state r h) before x.before
      ∙ (ap (λ (s : HartState). state_after r.program s x.before) to ∙ begun r.settings r.program r.input r.turns h c.number o.interval x) in
      record {
        front = (before ++ x.before) ++ o.past;
        back = c.left.rows ++ x.more;
        rows = ap (λ ks. rows_of r.settings r.program first ks h) x.turns
            ∙ (rows_append r.settings r.program h x.past x.left first
            ∙ (ap (λ rows. before ++ rows) (x.rows ∙ ap (λ rows. x.before ++ rows) (ap (λ rows. rows ++ x.more) o.rows ∙ append_assoc o.past c.left.rows x.more))
            ∙ (sym (append_assoc before x.before (o.past ++ (c.left.rows ++ x.more))) ∙ sym (append_assoc (before ++ x.before) o.past (c.left.rows ++ x.more)))));
        state = o.state ∙ (ap (λ (s : HartState). state_after r.program s o.past) (sym there) ∙ sym (after_append r.program (first_state r h) (before ++ x.before) o.past));
      }

  of_lane : (s : HartState) (points : List ℕ) (cursors : List Cursor) → AreOf r records h cursors → state_of (record { points = points; cursors = cursors }) ≡ Some s → IsStateOfRun r h s
  of_lane s (p ∷ ps) cursors all e = absurd (none-some s e)
  of_lane s [] [] all e = absurd (none-some s e)
  of_lane s [] (c ∷ cs) all e = subst (IsStateOfRun r h) (some_is c.state s (Some c.state) refl e) (of_cursor c all.0)

  of_hart : (s : HartState) (o : Option Lane) → ((lane : Lane) → o ≡ Some lane → AreOf r records h lane.cursors) → elim o as (λ x. Option HartState) [ None ↦ None | Some lane ↦ state_of lane ] ≡ Some s → IsStateOfRun r h s
  of_hart s None all e = absurd (none-some s e)
  of_hart s (Some lane) all e = of_lane s lane.points lane.cursors (all lane refl) e

has_shown_states : IntervalsBegin → BeginningsTellStates → RowsTellRuns → EndsSuffice → IntervalRowsAreOfTurns → OfBeginnings HasShownStates
has_shown_states begins begun tell suffice rows_are r records order w log b h s e =
    let f : IsFollowed r records w = follows suffice rows_are r records order w log b in
    of_hart begins begun tell r records log h s (slice_get w.now.lanes h) (λ lane at. f.cursors h lane at) e

-- the rows of a joint replay are done from the run's states
has_states : EndsSuffice → IntervalRowsAreOfTurns → OfBeginnings HasStates
has_states suffice rows_are r records order w log b x t before row at is =
    subst (IsItemOf r records t.hart) is (item_of r records w.taken x t (follows suffice rows_are r records order w log b).taken at)

pub returns-clause-done : goal.returns-clause-done
returns-clause-done c = has_states c.ends_suffice.ensures c.interval_rows_are_of_turns.ensures

pub returns-clause-shown : goal.returns-clause-shown
returns-clause-shown c = has_shown_states c.intervals_begin_in_the_run.ensures c.beginnings_tell_states.ensures c.rows_tell_runs.ensures c.ends_suffice.ensures c.interval_rows_are_of_turns.ensures
