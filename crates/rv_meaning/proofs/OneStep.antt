-- One instruction of a hart, and what is left of its budget.
use Rattle.rv_meaning.proofs.Common.{◌≡◌, ℕ, false, suc, ◌+◌, ◌-◌, ◌<◌, arith, ap, ◌∙◌, sym, Option, Some, Program, code_at, HartState, Instruction, decoded, Ask, Want, Step, Quiet, Asks, ask_of, step, fetched, executed, Told, ℤ, w32, to_z-of_z, bits_of}
use mir.Val.{SFits, of_z, to_z}

-- the word of an immediate that fits
pub word_again : (z : ℤ) → SFits w32 z → of_z w32 (to_z w32 (of_z w32 z)) ≡ bits_of z
word_again z fits = ap (of_z w32) (to_z-of_z w32 z fits)

-- after a quiet instruction, what is left gives the same ask
pub quiet_more : (i : Program) (b k : ℕ) (s t : HartState) → k < b → Quiet t ≡ step i s → ask_of i (b - (k + 1)) t ≡ ask_of i (b - k) s
quiet_more i b k s t h e =
    let left : b - k ≡ suc (b - (k + 1)) = omega arith in
    ap (λ (x : Step). elim x as (λ y. Ask) [ Quiet u ↦ ask_of i (b - (k + 1)) u | Asks w ↦ record { state = s; want = w } ]) e ∙ ap (λ n. ask_of i n s) (sym left)

-- an ask is the end
pub ask_at : (i : Program) (b k : ℕ) (s : HartState) (w : Want) → k < b → Asks w ≡ step i s → record { state = s; want = w } ≡ ask_of i (b - k) s
ask_at i b k s w h e =
    let left : b - k ≡ suc (b - (k + 1)) = omega arith in
    ap (λ (x : Step). elim x as (λ y. Ask) [ Quiet u ↦ ask_of i (b - (k + 1)) u | Asks v ↦ record { state = s; want = v } ]) e ∙ ap (λ n. ask_of i n s) (sym left)

-- the step, by what is at the pc
pub code_step : (i : Program) (s : HartState) (o : Option ℕ) → o ≡ code_at i s.pc → fetched o i s ≡ step i s
code_step i s o e = ap (λ p. fetched p i s) e

-- the step, by what the word there decodes to
pub word_step : (i : Program) (s : HartState) (w : ℕ) (o : Option Instruction) → Some w ≡ code_at i s.pc → o ≡ decoded w → executed o w i s ≡ step i s
word_step i s w o e f = ap (λ p. executed p w i s) f ∙ code_step i s (Some w) e

-- an instruction that asks, and leaves the state as it was, is the end
pub ask_after : (i : Program) (b k : ℕ) (s t : HartState) (w : Want) (x : Step) → k < b → Told false s t w x → x ≡ step i s → record { state = t; want = w } ≡ ask_of i (b - k) s
ask_after i b k s t w x h told m = ap (λ (u : HartState). record { state = u; want = w }) told.0 ∙ ask_at i b k s w h (told.1 ∙ m)
