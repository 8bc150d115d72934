-- What is wrong with a list of turns.
use Rattle.whole_runs.proofs.Common.{◌≡◌, ℕ, ◌+◌, Bool, true, false, List, [], ◌∷◌, ◌++◌, length, refl, sym, ◌∙◌, ap, arith, inl, inr, Option, Some, None, slice_get, Program, RawSettings, Run, turn, run_from, legal_from, is_live, has_finished, live_harts, WholeRunsHaveNoError, IllegalTurn, NotFinished}
use Rattle.run_model.specs.Lists.{unfinished, error_from}
use Rattle.run_model.specs.declared.error.TurnError.{TurnError}
use Rattle.whole_runs.proofs.Rows.{legal_cons}
use Rattle.run_laws.proofs.Turns.{legal_first}
use Rattle.whole_runs.proofs.Live.{decide, any_false, over_none, over_any}

-- ---- the first turn of a list

error_live : (c : RawSettings) (i : Program) (run : Run) (at k : ℕ) (ks : List ℕ) → is_live c run k ≡ true → error_from c i run at (k ∷ ks) ≡ error_from c i (turn c i run k) (at + 1) ks
error_live c i run at k ks e = ap (λ (b : Bool). elim b as (λ z. Option TurnError) [ true ↦ error_from c i (turn c i run k) (at + 1) ks | false ↦ Some (IllegalTurn at k) ]) e

error_over : (c : RawSettings) (i : Program) (run : Run) (at k : ℕ) (ks : List ℕ) → is_live c run k ≡ false → error_from c i run at (k ∷ ks) ≡ Some (IllegalTurn at k)
error_over c i run at k ks e = ap (λ (b : Bool). elim b as (λ z. Option TurnError) [ true ↦ error_from c i (turn c i run k) (at + 1) ks | false ↦ Some (IllegalTurn at k) ]) e

-- ---- after legal turns

pub error_at : (c : RawSettings) (i : Program) (run : Run) (at : ℕ) (b : List ℕ) (k : ℕ) (ks : List ℕ) → legal_from c i run b ≡ true → is_live c (run_from c i run b) k ≡ false → error_from c i run at (b ++ k ∷ ks) ≡ Some (IllegalTurn (at + length b) k)
error_at c i run at [] k ks legal over =
    let same : at ≡ at + 0 = omega arith in
    error_over c i run at k ks over ∙ ap (λ (n : ℕ). Some (IllegalTurn n k)) same
error_at c i run at (j ∷ b) k ks legal over =
    let first = legal_first c i run j b legal in
    let same : at + 1 + length b ≡ at + length (j ∷ b) = omega arith in
    error_live c i run at j (b ++ k ∷ ks) first.0 ∙ error_at c i (turn c i run j) (at + 1) b k ks first.1 over ∙ ap (λ (n : ℕ). Some (IllegalTurn n k)) same

pub error_end : (c : RawSettings) (i : Program) (run : Run) (at : ℕ) (b : List ℕ) → legal_from c i run b ≡ true → error_from c i run at b ≡ unfinished (live_harts 0 c.harts (run_from c i run b).harts)
error_end c i run at [] legal = refl
error_end c i run at (j ∷ b) legal =
    let first = legal_first c i run j b legal in
    error_live c i run at j b first.0 ∙ error_end c i (turn c i run j) (at + 1) b first.1

-- ---- none

first_of_list : (xs : List ℕ) (k : ℕ) → Some k ≡ slice_get xs 0 → unfinished xs ≡ Some (NotFinished k)
first_of_list [] k e = cc
first_of_list (x ∷ xs) k e = let same : x ≡ k = cc in ap (λ (j : ℕ). Some (NotFinished j)) same

pub error_first : (c : RawSettings) (i : Program) (run : Run) (at : ℕ) (b : List ℕ) (k : ℕ) → legal_from c i run b ≡ true → Some k ≡ slice_get (live_harts 0 c.harts (run_from c i run b).harts) 0 → error_from c i run at b ≡ Some (NotFinished k)
error_first c i run at b k legal e = error_end c i run at b legal ∙ first_of_list (live_harts 0 c.harts (run_from c i run b).harts) k e

none_in : (xs : List ℕ) → ◌≡◌ {A = Option ℕ} None (slice_get xs 0) → xs ≡ []
none_in [] e = refl
none_in (x ∷ xs) e = cc

pub none_over : (c : RawSettings) (run : Run) → ◌≡◌ {A = Option ℕ} None (slice_get (live_harts 0 c.harts run.harts) 0) → has_finished c run ≡ true
none_over c run e = over_none c run (any_false c.harts run.harts (none_in (live_harts 0 c.harts run.harts) e))

none_left : (xs : List ℕ) → unfinished xs ≡ None → xs ≡ []
none_left [] e = refl
none_left (x ∷ xs) e = cc

over_list : (c : RawSettings) (run : Run) (xs : List ℕ) → live_harts 0 c.harts run.harts ≡ xs → has_finished c run ≡ true → xs ≡ []
over_list c run [] e over = refl
over_list c run (x ∷ xs) e over = absurd (over_any c run (length xs) over (ap length e))

some_none : (e : TurnError) → Some e ≡ None → ⊥
some_none x e = cc

-- of a list from any run on
error_none : (c : RawSettings) (i : Program) (run : Run) (at : ℕ) (b : List ℕ) → error_from c i run at b ≡ None → (legal_from c i run b ≡ true) × (has_finished c (run_from c i run b) ≡ true)
error_none c i run at [] e = (refl, over_none c run (any_false c.harts run.harts (none_left (live_harts 0 c.harts run.harts) e)))
error_none c i run at (k ∷ ks) e = elim (decide (is_live c run k)) [
  | inl p ↦ let rest = error_none c i (turn c i run k) (at + 1) ks (sym (error_live c i run at k ks p) ∙ e) in (legal_cons c i run k ks p rest.0, rest.1)
  | inr p ↦ absurd (some_none (IllegalTurn at k) (sym (error_over c i run at k ks p) ∙ e))
]

whole_none : (c : RawSettings) (i : Program) (run : Run) (at : ℕ) (b : List ℕ) → legal_from c i run b ≡ true → has_finished c (run_from c i run b) ≡ true → error_from c i run at b ≡ None
whole_none c i run at b legal over =
    let after = run_from c i run b in
    error_end c i run at b legal ∙ ap unfinished (over_list c after (live_harts 0 c.harts after.harts) refl over)

pub no_error : WholeRunsHaveNoError
no_error b list = (λ e. error_none b.settings b.image _ 0 list e, λ h. whole_none b.settings b.image _ 0 list h.0 h.1)
