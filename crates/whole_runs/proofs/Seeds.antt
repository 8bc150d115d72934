-- The lists that numbers give.
use Rattle.whole_runs.proofs.Common.{◌≡◌, ℕ, zero, suc, ◌≤◌, ◌⊎◌, Bool, true, false, List, [], ◌∷◌, ◌++◌, length, length-append, refl, sym, ap, subst, arith, inl, inr, Program, IsSetting, RawSettings, Run, turn, start, run_of, run_from, legal_from, has_finished, any_live, live_harts, draw, chosen, seeded, seeded_from, most_turns, RunsEnd, SeededListsEnd}
use Rattle.whole_runs.proofs.Rows.{legal_cons, legal_snoc}
use Rattle.whole_runs.proofs.Live.{decide, chosen_live, over_none}

-- ---- the first turn of a list

pub seeded_first : (c : RawSettings) (i : Program) (run : Run) (s n : ℕ) → any_live c.harts run.harts ≡ true
    → let k = chosen (draw s) (live_harts 0 c.harts run.harts) in seeded_from c i run s (suc n) ≡ k ∷ seeded_from c i (turn c i run k) (draw s) n
seeded_first c i run s n e =
    let k = chosen (draw s) (live_harts 0 c.harts run.harts) in
    ap (λ (b : Bool). elim b as (λ z. List ℕ) [ true ↦ k ∷ seeded_from c i (turn c i run k) (draw s) n | false ↦ [] ]) e

pub seeded_none : (c : RawSettings) (i : Program) (run : Run) (s n : ℕ) → any_live c.harts run.harts ≡ false → seeded_from c i run s n ≡ []
seeded_none c i run s zero e = refl
seeded_none c i run s (suc n) e =
    let k = chosen (draw s) (live_harts 0 c.harts run.harts) in
    ap (λ (b : Bool). elim b as (λ z. List ℕ) [ true ↦ k ∷ seeded_from c i (turn c i run k) (draw s) n | false ↦ [] ]) e

-- ---- legal

pub seeded_legal : (c : RawSettings) (i : Program) (run : Run) (s n : ℕ) → legal_from c i run (seeded_from c i run s n) ≡ true
seeded_legal c i run s zero = refl
seeded_legal c i run s (suc n) =
    let k = chosen (draw s) (live_harts 0 c.harts run.harts) in
    elim (decide (any_live c.harts run.harts)) [
      | inl p ↦ subst (λ (xs : List ℕ). legal_from c i run xs ≡ true) (sym (seeded_first c i run s n p)) (legal_cons c i run k (seeded_from c i (turn c i run k) (draw s) n) (chosen_live c run (draw s) p) (seeded_legal c i (turn c i run k) (draw s) n))
      | inr p ↦ subst (λ (xs : List ℕ). legal_from c i run xs ≡ true) (sym (seeded_none c i run s (suc n) p)) refl
    ]

-- ---- finished

-- no hart is live after the list, or it has as many turns as it may
unfoldable pub IsSpent : RawSettings → Program → Run → ℕ → List ℕ → Type 0
IsSpent c i run n b = (any_live c.harts (run_from c i run b).harts ≡ false) ⊎ (length b ≡ n)

pub spent_more : (c : RawSettings) (i : Program) (run : Run) (n k : ℕ) (b : List ℕ) → IsSpent c i (turn c i run k) n b → IsSpent c i run (suc n) (k ∷ b)
unfolding IsSpent
spent_more c i run n k b (inl p) = inl p
spent_more c i run n k b (inr p) = inr (ap suc p)

pub seeded_spent : (c : RawSettings) (i : Program) (run : Run) (s n : ℕ) → IsSpent c i run n (seeded_from c i run s n)
unfolding IsSpent
seeded_spent c i run s zero = inr refl
seeded_spent c i run s (suc n) =
    let k = chosen (draw s) (live_harts 0 c.harts run.harts) in
    elim (decide (any_live c.harts run.harts)) [
      | inl p ↦ subst (λ (xs : List ℕ). IsSpent c i run (suc n) xs) (sym (seeded_first c i run s n p)) (spent_more c i run n k (seeded_from c i (turn c i run k) (draw s) n) (seeded_spent c i (turn c i run k) (draw s) n))
      | inr p ↦ subst (λ (xs : List ℕ). IsSpent c i run (suc n) xs) (sym (seeded_none c i run s (suc n) p)) (inl p)
    ]

one_too_many : (n : ℕ) (b : List ℕ) (k : ℕ) → length b ≡ n → length (b ++ k ∷ []) ≤ n → ⊥
one_too_many n b k e h = omega (arith, e, h, length-append b (k ∷ []))

pub over_by : RunsEnd → (c : RawSettings) (i : Program) (input : List ℕ) (b : List ℕ) → IsSetting c → legal_from c i (start c i input) b ≡ true → IsSpent c i (start c i input) (most_turns c) b → has_finished c (run_of c i input b) ≡ true
unfolding IsSpent
over_by ends c i input b setting legal (inl p) = over_none c (run_of c i input b) p
over_by ends c i input b setting legal (inr p) =
    let run = run_of c i input b in
    elim (decide (any_live c.harts run.harts)) [
      | inl q ↦
          let k = chosen 0 (live_harts 0 c.harts run.harts) in
          absurd (one_too_many (most_turns c) b k p (ends c i input (b ++ k ∷ []) setting (legal_snoc c i (start c i input) b k legal (chosen_live c run 0 q))))
      | inr q ↦ over_none c run q
    ]

pub seeded_ends : RunsEnd → SeededListsEnd
seeded_ends ends c i input seed setting =
    let b = seeded c i input seed in
    let legal = seeded_legal c i (start c i input) seed (most_turns c) in
    (legal, over_by ends c i input b setting legal (seeded_spent c i (start c i input) seed (most_turns c)))
