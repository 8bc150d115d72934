-- The rows of the run by their counts.
use Rattle.report_laws.proofs.Common.{◌≡◌, ℕ, ◌+◌, ◌<◌, Bool, true, false, nat_lt, refl, sym, ap, ◌∙◌, subst, arith, List, [], ◌∷◌, ◌++◌, length, map, slice_get, take, Some, Row, RawSettings, HartState, legal_from, is_live, RowsAreCounted, TurnRowsAreRows, RowsTellRuns, state_after, AreRowsFrom, RunHasRow, IsRowOfTurn, Recording, IsRecorded, rows_of_hart, first_state, ltb-true, and_parts, zero, suc, range_with_len}
use Rattle.bn_base.specs.Programs.{Program}
use Rattle.hart_replay.specs.Coming.{after_row}
use Rattle.run_model.specs.Turn.{Run, turn}
use Rattle.report_laws.proofs.Lists.{get_middle, take_front}

heads : {X : Type 0} (x y : X) (xs ys : List X) → x ∷ xs ≡ y ∷ ys → x ≡ y
heads x y xs ys e = cc

rests : {X : Type 0} (x y : X) (xs ys : List X) → x ∷ xs ≡ y ∷ ys → xs ≡ ys
rests x y xs ys e = cc

counted_at : (front back : List Row) (r : Row) (k n : ℕ) → map (λ (x : Row). x.ic) (front ++ r ∷ back) ≡ range_with_len k n → r.ic ≡ k + length front
counted_at [] back r k zero e = absurd cc
counted_at [] back r k (suc n) e = let same : r.ic ≡ k = heads r.ic k _ _ e in omega (arith, same)
counted_at (f ∷ fs) back r k zero e = absurd cc
counted_at (f ∷ fs) back r k (suc n) e = let rest = counted_at fs back r (k + 1) n (rests _ _ _ _ e) in omega (arith, rest)

own_hart : (h : ℕ) (i : Program) (s : HartState) (front back : List Row) (r : Row) → AreRowsFrom h i s (front ++ r ∷ back) → r.hart ≡ h
own_hart h i s [] back r a = a.0.0
own_hart h i s (f ∷ fs) back r a = own_hart h i (after_row i s f) fs back r a.1

-- the row of hart h with its count, and the state before it
pub record IsRowAt (r : Recording) (h : ℕ) (before : HartState) (row : Row) : Type 0 where
  pub at : slice_get (rows_of_hart r h) row.ic ≡ Some row
  pub state : state_after r.program (first_state r h) (take row.ic (rows_of_hart r h)) ≡ before

module _ (turn_rows : TurnRowsAreRows) (counted : RowsAreCounted) (r : Recording) (is : IsRecorded r) where
  pub row_at : (h : ℕ) (before : HartState) (row : Row) → IsRowOfTurn r.settings r.program r.input r.turns h before row → IsRowAt r h before row
  row_at h before row of_turn =
      let setting = is.setting in
      let limit = setting.limit_high in
      let x : RunHasRow r.settings r.program r.input r.turns h before row = turn_rows r.settings r.program r.input r.turns h before row setting is.legal of_turn in
      let rows : List Row = rows_of_hart r h in
      let count : row.ic ≡ 0 + length x.front =
      counted_at x.front x.back row 0 (length rows)
      (ap (map (λ (z : Row). z.ic)) (sym x.rows_are) ∙ counted r.settings r.program r.input r.turns h (omega (arith, limit)) (record { legal = is.legal; over = is.over })) in
      let place : row.ic ≡ length x.front = omega (arith, count) in
      record {
        at = ap (λ (rs : List Row). slice_get rs row.ic) x.rows_are ∙ get_middle x.front x.back row row.ic place;
        state = ap (state_after r.program (first_state r h)) (ap (take row.ic) x.rows_are ∙ take_front x.front (row ∷ x.back) row.ic place) ∙ sym x.state;
      }

pub row_hart : TurnRowsAreRows → RowsTellRuns → (r : Recording) → IsRecorded r → (h : ℕ) (before : HartState) (row : Row) → IsRowOfTurn r.settings r.program r.input r.turns h before row → row.hart ≡ h
row_hart turn_rows tell r is h before row of_turn =
    let x : RunHasRow r.settings r.program r.input r.turns h before row = turn_rows r.settings r.program r.input r.turns h before row is.setting is.legal of_turn in
    own_hart h r.program (first_state r h) x.front x.back row
    (subst (AreRowsFrom h r.program (first_state r h)) x.rows_are (tell r.settings r.program r.input [] r.turns h is.setting is.legal).0)

-- ---- the harts of a legal list

at_true : (x b : Bool) → elim x as (λ y. Bool) [ true ↦ b | false ↦ false ] ≡ true → (x ≡ true) × (b ≡ true)
at_true true b e = (refl, e)
at_true false b e = cc

pub hart_below : (c : RawSettings) (i : Program) (run : Run) (front : List ℕ) (h : ℕ) (back : List ℕ) → legal_from c i run (front ++ h ∷ back) ≡ true → h < c.harts
hart_below c i run [] h back e = ltb-true h c.harts (and_parts (nat_lt h c.harts) (run.harts h).live (at_true (is_live c run h) (legal_from c i (turn c i run h) back) e).0).0
hart_below c i run (k ∷ ks) h back e = hart_below c i (turn c i run k) ks h back (at_true (is_live c run k) (legal_from c i (turn c i run k) (ks ++ h ∷ back)) e).1
