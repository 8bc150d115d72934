-- The runs and rows of lists of turns.
use Rattle.whole_runs.proofs.Common.{◌≡◌, ℕ, ◌+◌, Bool, true, false, List, [], ◌∷◌, ◌++◌, length, refl, ap, arith, Program, RawSettings, Run, turn, ask_at, run_from, legal_from, is_live, row_at, rows_from, RowsNameTheirHarts}
use Rattle.run_laws.proofs.Converse.{lists_go_on}
use Rattle.bus_core.proofs.Serves.{served_turns}

pub rows_name : RowsNameTheirHarts
rows_name c i run [] = refl
rows_name c i run (k ∷ ks) = ap (λ (xs : List ℕ). k ∷ xs) (rows_name c i (turn c i run k) ks)

-- ---- one turn more

pub run_snoc : (c : RawSettings) (i : Program) (run : Run) (b : List ℕ) (k : ℕ) → run_from c i run (b ++ k ∷ []) ≡ turn c i (run_from c i run b) k
run_snoc c i run b k = lists_go_on.run c i run b (k ∷ [])

pub rows_snoc : (c : RawSettings) (i : Program) (run : Run) (b : List ℕ) (k : ℕ) → rows_from c i run (b ++ k ∷ []) ≡ rows_from c i run b ++ row_at c i (run_from c i run b) k ∷ []
rows_snoc c i run b k = lists_go_on.rows c i run b (k ∷ [])

pub legal_cons : (c : RawSettings) (i : Program) (run : Run) (k : ℕ) (ks : List ℕ) → is_live c run k ≡ true → legal_from c i (turn c i run k) ks ≡ true → legal_from c i run (k ∷ ks) ≡ true
legal_cons c i run k ks live e = lists_go_on.legal c i run (k ∷ []) ks (ap (λ (b : Bool). elim b as (λ z. Bool) [ true ↦ true | false ↦ false ]) live) e

pub legal_snoc : (c : RawSettings) (i : Program) (run : Run) (b : List ℕ) (k : ℕ) → legal_from c i run b ≡ true → is_live c (run_from c i run b) k ≡ true → legal_from c i run (b ++ k ∷ []) ≡ true
legal_snoc c i run b k e live = lists_go_on.legal c i run b (k ∷ []) e (legal_cons c i (run_from c i run b) k [] live refl)

-- ---- how many turns were taken

pub turns_count : (c : RawSettings) (i : Program) (run : Run) (b : List ℕ) → (run_from c i run b).turns ≡ run.turns + length b
turns_count c i run [] = omega arith
turns_count c i run (k ∷ ks) = omega (arith, turns_count c i (turn c i run k) ks, served_turns c i run k (ask_at c i (run.harts k)))
