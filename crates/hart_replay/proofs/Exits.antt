-- The ECALL that ends an interval is counted.
use Rattle.hart_replay.proofs.Common.{◌≡◌, ℕ, ◌==◌, Bool, true, false, ◌||◌, List, refl, ◌∙◌, HartState, after, count_up, count_up_if, Reply, Answer, Over, System, call_reason, call_answer}

-- by whether the hart continues after the call, and by its number's two tests
answer_counts : (b : Bool) (n v : ℕ) (args : List ℕ) (s : HartState)
    → (after (System n args) (elim b as (λ y. Reply) [ true ↦ Answer v | false ↦ Over ]) s).ic ≡ elim b as (λ y. ℕ) [ true ↦ count_up s.ic | false ↦ count_up_if ((n == 93) || (n == 94)) s.ic ]
answer_counts true n v args s = refl
answer_counts false n v args s = refl

reason_counts : (x y : Bool) (k : ℕ)
    → elim (elim x as (λ z. ℕ) [ true ↦ 3 | false ↦ elim y as (λ z. ℕ) [ true ↦ 4 | false ↦ 2 ] ] == 2) as (λ z. ℕ) [ true ↦ count_up k | false ↦ count_up_if (x || y) k ] ≡ count_up k
reason_counts true y k = refl
reason_counts false true k = refl
reason_counts false false k = refl

pub call_counts : (n v : ℕ) (args : List ℕ) (s : HartState) → (after (System n args) (call_answer (call_reason n) v) s).ic ≡ count_up s.ic
call_counts n v args s = answer_counts (call_reason n == 2) n v args s ∙ reason_counts (n == 93) (n == 94) s.ic
