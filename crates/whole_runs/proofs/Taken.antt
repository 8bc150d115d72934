-- A bus that takes the turns of a list.
use Rattle.whole_runs.proofs.Common.{◌≡◌, ℕ, suc, ◌-◌, ◌<◌, Bool, true, List, [], ◌∷◌, ◌++◌, length, length-append, sym, ◌∙◌, ap, subst, arith, TurnRow, Run, turn, any_live, draw, chosen, seeded_from, most_turns, Began, Seen, IsState, first_run, turned_run, turn_row, HasTaken, list_run, list_rows, is_legal, live_harts_of, seeded_after}
use Rattle.run_model.specs.Runs as runs
use Rattle.bus_core.specs.Bus.{is_live}
use Rattle.whole_runs.proofs.Live.{live_in}
use Rattle.whole_runs.proofs.Rows.{run_snoc, rows_snoc, legal_snoc, turns_count}
use Rattle.whole_runs.proofs.Seeds.{seeded_first}

-- ---- one turn more

-- what a turn of hart k did to a bus that had taken the turns of a list
pub record IsTurned (tells : Bool) (old new : Seen) (run : Run) (k : ℕ) : Type 0 where
  pub began : new.began ≡ old.began
  pub state : IsState new (turned_run old.began run k)
  pub told : tells ≡ true → new.rows ≡ old.rows ++ turn_row old.began run k ∷ []
  pub disordered : new.disordered ≡ old.disordered
  pub halted : new.halted ≡ old.halted

pub taken_more : (tells : Bool) (old new : Seen) (list : List ℕ) (k : ℕ) → HasTaken tells old list → runs.is_live old.began.settings (list_run old.began list) k ≡ true → IsTurned tells old new (list_run old.began list) k → HasTaken tells new (list ++ k ∷ [])
taken_more tells old new list k h live s =
    let b = old.began in
    let run = list_run b list in
    record {
      legal = subst (λ (x : Began). is_legal x (list ++ k ∷ []) ≡ true) (sym s.began) (legal_snoc b.settings b.image (first_run b) list k h.legal live);
      state = subst (λ (r : Run). IsState new r) (sym (run_snoc b.settings b.image (first_run b) list k) ∙ ap (λ (x : Began). list_run x (list ++ k ∷ [])) (sym s.began)) s.state;
      rows = λ t.
          s.told t
          ∙ ap (λ (xs : List TurnRow). xs ++ turn_row b run k ∷ []) (h.rows t)
          ∙ sym (rows_snoc b.settings b.image (first_run b) list k)
          ∙ ap (λ (x : Began). list_rows x (list ++ k ∷ [])) (sym s.began);
      orderly = s.disordered ∙ h.orderly;
      running = s.halted ∙ h.running;
    }

-- the turn of a live hart
pub taken_turn : (tells : Bool) (old new : Seen) (k : ℕ) → is_live old k ≡ true → k < old.began.settings.harts → ((run : Run) → IsState old run → IsState new (turned_run old.began run k)) → (tells ≡ true → (run : Run) → IsState old run → new.rows ≡ old.rows ++ turn_row old.began run k ∷ [])
    → new.began ≡ old.began → new.disordered ≡ old.disordered → new.halted ≡ old.halted → (list : List ℕ) → HasTaken tells old list → HasTaken tells new (list ++ k ∷ [])
taken_turn tells old new k live within state told began disordered halted list h =
    let run = list_run old.began list in
    taken_more tells old new list k h (live_in old.began.settings run old.harts k h.state.harts within live) (record {
      began = began;
      state = state run h.state;
      told = λ t. told t run h.state;
      disordered = disordered;
      halted = halted;
    })

-- ---- how many turns

pub turns_are : (tells : Bool) (s : Seen) (list : List ℕ) → HasTaken tells s list → s.turns ≡ length list
turns_are tells s list h = omega (arith, h.state.turns, turns_count s.began.settings s.began.image (first_run s.began) list)

-- ---- turns that a number chooses

pub drawn_more : (b : Began) (list : List ℕ) (s k : ℕ) → length list < most_turns b.settings → any_live b.settings.harts (list_run b list).harts ≡ true → k ≡ chosen (draw s) (live_harts_of b (list_run b list)) → seeded_after b list s ≡ k ∷ seeded_after b (list ++ k ∷ []) (draw s)
drawn_more b list s k few any is =
    let run = list_run b list in
    let less : most_turns b.settings - length list ≡ suc (most_turns b.settings - length (list ++ k ∷ [])) = omega (arith, few, length-append list (k ∷ [])) in
    ap (λ (m : ℕ). seeded_from b.settings b.image run s m) less
    ∙ seeded_first b.settings b.image run s (most_turns b.settings - length (list ++ k ∷ [])) any
    ∙ ap (λ (j : ℕ). j ∷ seeded_from b.settings b.image (turn b.settings b.image run j) (draw s) (most_turns b.settings - length (list ++ k ∷ []))) (sym is)
    ∙ ap (λ (r : Run). k ∷ seeded_from b.settings b.image r (draw s) (most_turns b.settings - length (list ++ k ∷ []))) (sym (run_snoc b.settings b.image (first_run b) list k))
