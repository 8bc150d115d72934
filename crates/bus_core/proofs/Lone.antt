-- Turns of a hart that is alone, as a bus has them.
use Rattle.bus_core.proofs.Common.{◌≡◌, ℕ, zero, suc, ◌<◌, ◌+◌, Bool, true, false, not, List, [], ◌∷◌, ◌++◌, refl, sym, ◌∙◌, ap, subst, arith, replicate, Program, RawSettings, TurnRow, NotesDecide, PlainParts, IsRun, run_from, legal_from, Run, serve, turn, is_orderly, Start, after_rows, are_orderly, rows_from, IsLawful, Seen, seen, began_of, first_run, run_after, turned_run, turn_row, AreTold, IsHistory, IsState, HasTurnedAlone}
use Rattle.run_model.specs.Represents.Alone.{CanTurn, HasTurned, HaveTurned, run_alone}
use Rattle.run_model.specs.Represents.Turning.{is_live}
use Rattle.run_model.specs.Runs as runs
use Rattle.bus_core.specs.Bus as bus
use Rattle.bus_core.proofs.History.{run_is, state_is, live_runs}
use Rattle.bus_core.proofs.Rows.{live_in}

-- ---- rows, and rows after them

after_append : (c : RawSettings) (i : Program) (run : Run) (rows more : List TurnRow) → after_rows c i run (rows ++ more) ≡ after_rows c i (after_rows c i run rows) more
after_append c i run [] more = refl
after_append c i run (x ∷ rows) more = after_append c i (serve c i run x.hart x.ask).run rows more

lawful_append : (c : RawSettings) (i : Program) (run : Run) (rows more : List TurnRow) → IsLawful c i run rows → IsLawful c i (after_rows c i run rows) more → IsLawful c i run (rows ++ more)
lawful_append c i run [] more lawful then_too = then_too
lawful_append c i run (x ∷ rows) more lawful then_too = (lawful.0, lawful.1, lawful.2, lawful_append c i (serve c i run x.hart x.ask).run rows more lawful.3 then_too)

orderly_append : (c : RawSettings) (i : Program) (run : Run) (rows more : List TurnRow) → are_orderly c i (after_rows c i run rows) more ≡ true → are_orderly c i run (rows ++ more) ≡ are_orderly c i run rows
orderly_append c i run [] more orderly = orderly
orderly_append c i run (x ∷ rows) more orderly = ap (λ (z : Bool). elim (is_orderly c i (run.harts x.hart) x.ask) as (λ t. Bool) [ true ↦ z | false ↦ false ]) (orderly_append c i (serve c i run x.hart x.ask).run rows more orderly)

-- ---- the rows of a lone hart's turns

-- a test, and what it leads to
both_hold : (b x : Bool) → b ≡ true → x ≡ true → elim b as (λ t. Bool) [ true ↦ x | false ↦ false ] ≡ true
both_hold true x e h = h
both_hold false x e h = e

-- a run whose hart could take each of so many turns
abbrev CanTurns : RawSettings → Program → Run → ℕ → Type 0
CanTurns c i run n = (m : ℕ) → m < n → CanTurn c i (run_alone c i run m)

can_first : (c : RawSettings) (i : Program) (run : Run) (n : ℕ) → CanTurns c i run (suc n) → CanTurn c i run
can_first c i run n each = each 0 (omega arith)

can_rest : (c : RawSettings) (i : Program) (run : Run) (n : ℕ) → CanTurns c i run (suc n) → CanTurns c i (turn c i run 0) n
can_rest c i run n each = λ m h. each (suc m) (omega (arith, h))

lone_after : (c : RawSettings) (i : Program) (run : Run) (n : ℕ) → after_rows c i run (rows_from c i run (replicate n 0)) ≡ run_alone c i run n
lone_after c i run zero = refl
lone_after c i run (suc n) = lone_after c i (turn c i run 0) n

lone_lawful : (c : RawSettings) (i : Program) (run : Run) (n : ℕ) → CanTurns c i run n → IsLawful c i run (rows_from c i run (replicate n 0))
lone_lawful c i run zero each = tt
lone_lawful c i run (suc n) each = ((can_first c i run n each).live, refl, refl, lone_lawful c i (turn c i run 0) n (can_rest c i run n each))

lone_orderly : (c : RawSettings) (i : Program) (run : Run) (n : ℕ) → CanTurns c i run n → are_orderly c i run (rows_from c i run (replicate n 0)) ≡ true
lone_orderly c i run zero each = refl
lone_orderly c i run (suc n) each = both_hold _ (are_orderly c i (turn c i run 0) (rows_from c i (turn c i run 0) (replicate n 0))) (can_first c i run n each).orderly (lone_orderly c i (turn c i run 0) n (can_rest c i run n each))

lone_legal : (c : RawSettings) (i : Program) (run : Run) (n : ℕ) → CanTurns c i run n → legal_from c i run (replicate n 0) ≡ true
lone_legal c i run zero each = refl
lone_legal c i run (suc n) each = both_hold (runs.is_live c run 0) (legal_from c i (turn c i run 0) (replicate n 0)) (can_first c i run n each).live (lone_legal c i (turn c i run 0) n (can_rest c i run n each))

-- ---- what led to a bus

lone_rows : (most : ℕ) (p q : PlainParts) (d : Bool) (rows : List TurnRow) → q.start ≡ p.start → HaveTurned most p q → IsHistory p false d rows → (rs : List TurnRow) × IsHistory q false d rs
lone_rows most p q d rows same turned h =
    let c = p.start.settings in let i = p.start.image in
    let first = first_run (began_of p.start) in
    let run : Run = after_rows c i first rows in
    let some = turned run h.run in
    let n : ℕ = some.0 in
    let t : HasTurned p q run n = some.3 in
    let more : List TurnRow = rows_from c i run (replicate n 0) in
    let orderly = orderly_append c i first rows more (lone_orderly c i run n t.each) in
    let after = after_append c i first rows more ∙ lone_after c i run n in (
      rows ++ more,
      record {
        told = subst (λ (x : Start). AreTold (began_of x) d (rows ++ more)) (sym same) (record {
          lawful = lawful_append c i first rows more h.told.lawful (lone_lawful c i run n t.each);
          orderly = h.told.orderly ∙ sym (ap not orderly);
        });
        run = subst (λ (x : Start). IsRun q (run_after (began_of x) false (rows ++ more))) (sym same) (subst (λ (x : Run). IsRun q x) (sym after) t.is);
      },
    )

pub history_lone : (most : ℕ) (p q : PlainParts) (h d : Bool) (rows : List TurnRow) → is_live p 0 ≡ true → q.start ≡ p.start → HaveTurned most p q → IsHistory p h d rows → (rs : List TurnRow) × IsHistory q h d rs
history_lone most p q h d rows live same turned is =
    let on = live_runs p h d rows 0 is live in
    subst (λ (x : Bool). (rs : List TurnRow) × IsHistory q x d rs) (sym on) (lone_rows most p q d rows same turned (subst (λ (x : Bool). IsHistory p x d rows) on is))

-- ---- what is seen of it

apart : {b : Bool} {X : Type 0} → b ≡ false → b ≡ true → X
apart f t = absurd (cc)

same_count : (a b n m : ℕ) → b ≡ a + n → b ≡ a + m → n ≡ m
same_count a b n m e h = omega (arith, e, h)

-- of a bus whose book tells no rows
pub lone_seen : NotesDecide → (tells : Bool) (most : ℕ) (p q : PlainParts) (h d : Bool) (told rows : List TurnRow) → tells ≡ false → q.start ≡ p.start → HaveTurned most p q → IsHistory p h d rows → HasTurnedAlone tells most (seen p h d told) (seen q h d told)
lone_seen decide tells most p q h d told rows none same turned is =
    let c = p.start.settings in let i = p.start.image in
    let some = turned (run_after (began_of p.start) h rows) is.run in
    let n : ℕ = some.0 in
    let at : (run : Run) → IsState (seen p h d told) run → HasTurned p q run n = λ run s.
    let now = turned run (run_is decide p h d told run s) in
    let t : HasTurned p q run now.0 = now.3 in
    subst (λ (m : ℕ). HasTurned p q run m) (same_count p.turns q.turns now.0 n t.turns some.3.turns) t in
    record {
      count = n;
      some = some.1;
      few = some.2;
      began = ap (λ (t : Start). began_of t) same;
      halted = refl;
      disordered = refl;
      turns = some.3.turns;
      state = λ run s. state_is q h d told (run_from c i run (replicate n 0)) (at run s).is;
      legal = λ run s. lone_legal c i run n (at run s).each;
      told = λ t. apart none t;
    }

-- one turn
pub one_seen : (tells : Bool) (most : ℕ) (old new : Seen) → 0 < most → old.began.settings.harts ≡ 1 → bus.is_live old 0 ≡ true → new.began ≡ old.began → new.halted ≡ old.halted → new.disordered ≡ old.disordered → new.turns ≡ old.turns + 1
    → ((run : Run) → IsState old run → IsState new (turned_run old.began run 0)) → (tells ≡ true → (run : Run) → IsState old run → new.rows ≡ old.rows ++ turn_row old.began run 0 ∷ []) → HasTurnedAlone tells most old new
one_seen tells most old new least alone live began halted disordered turns state told = record {
  count = 1;
  some = omega arith;
  few = omega (arith, least);
  began = began;
  halted = halted;
  disordered = disordered;
  turns = turns;
  state = state;
  legal = λ run is. both_hold (runs.is_live old.began.settings run 0) true (live_in old.began.settings run old.harts 0 is.harts (omega (arith, alone)) live) refl;
  told = told;
}
