-- The rows of an interval whose Header is kept.
use Rattle.row_laws.proofs.Common.{◌≡◌, ℕ, List, ◌++◌, [], ◌∷◌, sym, ◌∙◌, ap, subst, arith, inl, inr, ◌⊎◌, append_assoc, Program, Row, RawSettings, HartState, rows_of, start, run_of, Run, budget, state_after, HasRow, TurnHasRow, IntervalRowsAreOfTurns, BeginningsTellStates, run_append}
use Rattle.replay_laws.specs.Law.{IntervalsBegin, IsBeforeTurn, IsAtGuard}
use Rattle.row_laws.proofs.Along.{quiet_states, after_append}
use Rattle.row_laws.proofs.Lists.{Known, AreMoves, all_move, both_move}
use Rattle.row_laws.proofs.Places.{Found, found}

-- the rows before an interval's beginning lead to its Header's state
begun_by : (c : RawSettings) (i : Program) (run : Run) (left : List ℕ) (h : ℕ) (s : HartState) (before : List Row) → IsBeforeTurn run h s before ⊎ IsAtGuard c i run left h s before
    → state_after i (run.harts h).state before ≡ s
begun_by c i run left h s before (inl x) = ap (state_after i (run.harts h).state) x.none ∙ sym x.state
begun_by c i run left h s before (inr x) =
    ap (state_after i (run.harts h).state) x.quiet ∙ ((quiet_states h i (budget c (run.harts h)) (run.harts h).state).1 ∙ sym x.state)

pub beginnings : BeginningsTellStates
beginnings c i input b h n v x = begun_by c i (run_of c i input x.past) x.left h v.start x.before x.begins

pub interval_rows : Known → IntervalsBegin → IntervalRowsAreOfTurns
interval_rows known begins c i input b h n setting whole rs end v kept before r has =
    let x = begins c i input b h n (let high = setting.limit_high in omega (arith, high)) whole rs end v kept in
    let run : Run = run_of c i input x.past in
    let all : AreMoves c i (start c i input) b = all_move known c i input [] b setting whole.legal in
    let o = both_move c i x.past x.left (start c i input) (subst (AreMoves c i (start c i input)) x.turns all) in
    let here : HasRow i (run.harts h).state (rows_of c i run x.left h) before r = record {
      front = x.before ++ has.front;
      back = has.back ++ x.more;
      rows_are = x.rows
          ∙ (ap (λ rows. x.before ++ rows) (ap (λ rows. rows ++ x.more) has.rows_are ∙ append_assoc has.front (r ∷ has.back) x.more)
          ∙ sym (append_assoc x.before has.front (r ∷ (has.back ++ x.more))));
      state = has.state
          ∙ (ap (λ (u : HartState). state_after i u has.front) (sym (beginnings c i input b h n v x))
          ∙ sym (after_append i (run.harts h).state x.before has.front));
    } in
    let f : Found c i run x.left h before r = found c i h before r x.left run o.1 here in
    record {
      front = x.past ++ f.front;
      back = f.back;
      turns = x.turns ∙ (ap (λ ks. x.past ++ ks) f.turns ∙ sym (append_assoc x.past f.front (h ∷ f.back)));
      has = subst (λ (u : Run). TurnHasRow c i u h before r) (sym (run_append c i (start c i input) x.past f.front)) f.has;
    }
