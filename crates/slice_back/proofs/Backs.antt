-- The pass back, row by row.
use Rattle.slice_back.proofs.Common.{◌≡◌, ℕ, zero, suc, ◌+◌, ◌-◌, ◌<◌, ◌≤◌, ◌==◌, ◌++◌, Bool, List, [], ◌∷◌, length, drop, get_or, refl, sym, ◌∙◌, ap, subst, arith, inl, inr, append-nil, length-drop, slice_index, reverse, Row, drop-cons, eqb_tells, Noted, Slice, is_last, live, register_if, registers_from, slice_rows, slice_regs, slice_words, slice_of, has_register, TellsLive}
use Rattle.slice_back.specs.declared.slicing.Slicing.{Slicing}

last_is : (es : List Noted) → is_last es ≡ (length es == 0)
last_is [] = refl
last_is (e ∷ es) = elim (eqb_tells (suc (length es)) 0) [ inl p ↦ absurd (omega (arith, p.1)) | inr p ↦ sym p.0 ]

pub tells-more : (t u : Slicing) (es : List Noted) (passed : ℕ) (e : Noted) → passed < length es → get_or es (length es - 1 - passed) e ≡ e → TellsLive t (drop (length es - passed) es)
    → ((later : List Noted) → is_last later ≡ (passed == 0) → TellsLive t later → TellsLive u (e ∷ later)) → TellsLive u (drop (length es - (passed + 1)) es)
tells-more t u es passed e less at tells step =
    let later : List Noted = drop (length es - passed) es in
    let first : length es - (passed + 1) ≡ length es - 1 - passed = omega arith in
    let next : suc (length es - 1 - passed) ≡ length es - passed = omega (arith, less) in
    let count : length later ≡ passed = omega (arith, less, length-drop (length es - passed) es) in
    let parts : drop (length es - (passed + 1)) es ≡ e ∷ later =
    ap (λ n. drop n es) first ∙ drop-cons es (length es - 1 - passed) e (omega (arith, less)) ∙ ap (λ x. x ∷ drop (suc (length es - 1 - passed)) es) at ∙ ap (λ n. e ∷ drop n es) next in
    subst (λ (xs : List Noted). TellsLive u xs) (sym parts) (step later (last_is later ∙ ap (λ n. n == 0) count) tells)

pub tells-all : (t : Slicing) (es : List Noted) (passed : ℕ) → length es ≤ passed → TellsLive t (drop (length es - passed) es) → TellsLive t es
tells-all t es passed more tells =
    let none : length es - passed ≡ 0 = omega (arith, more) in
    subst (λ (n : ℕ). TellsLive t (drop n es)) none tells

pub registers-more : (x : List ℕ) (used : ℕ → Bool) (q : ℕ) → q < 32 → registers_from x used q (32 - q) ≡ register_if (used q) (q, slice_index x q) (registers_from x used (q + 1) (32 - (q + 1)))
unfolding registers_from
registers-more x used q less =
    let one : 32 - q ≡ suc (32 - (q + 1)) = omega (arith, less) in
    ap (λ n. registers_from x used q n) one

pub registers-all : (x : List ℕ) (used : ℕ → Bool) (q : ℕ) (told : List (ℕ × ℕ)) → 32 ≤ q → told ++ registers_from x used q (32 - q) ≡ registers_from x used 0 32 → told ≡ registers_from x used 0 32
unfolding registers_from
registers-all x used q told more e =
    let none : 32 - q ≡ 0 = omega (arith, more) in
    sym (append-nil told) ∙ sym (ap (λ n. told ++ registers_from x used q n) none) ∙ e

-- registers that are told alike
pub registers-alike : (x : List ℕ) (some other : ℕ → Bool) (q n : ℕ) → q + n ≤ 32 → ((r : ℕ) → r < 32 → some r ≡ other r) → registers_from x some q n ≡ registers_from x other q n
unfolding registers_from
registers-alike x some other q zero within alike = refl
registers-alike x some other q (suc n) within alike =
    ap (λ b. register_if b (q, slice_index x q) (registers_from x some (q + 1) n)) (alike q (omega (arith, within)))
    ∙ ap (λ rs. register_if (other q) (q, slice_index x q) rs) (registers-alike x some other (q + 1) n (omega (arith, within)) alike)

-- the lists that are told of all rows, oldest first, are the slice
pub sliced_back : (t : Slicing) (es : List Noted) (x : List ℕ) (regs : List (ℕ × ℕ)) → TellsLive t es → regs ≡ registers_from x (has_register t.set) 0 32
    → ◌≡◌ {A = Slice} (record { rows = reverse t.rows.items; regs = regs; words = reverse t.words.items; branches = reverse t.branches.items }) (slice_of x es)
sliced_back t es x regs tells e =
    let alike : regs ≡ slice_regs x es = e ∙ registers-alike x (has_register t.set) (live es).registers 0 32 (omega arith) tells.set.registers in
    ap (λ (rs : List Row). let s : Slice = record { rows = rs; regs = regs; words = reverse t.words.items; branches = reverse t.branches.items } in s) tells.rows
    ∙ ap (λ (rs : List (ℕ × ℕ)). let s : Slice = record { rows = slice_rows es; regs = rs; words = reverse t.words.items; branches = reverse t.branches.items } in s) alike
    ∙ ap (λ (ws : List (ℕ × ℕ × ℕ)). let s : Slice = record { rows = slice_rows es; regs = slice_regs x es; words = ws; branches = reverse t.branches.items } in s) tells.words
    ∙ ap (λ (rs : List Row). let s : Slice = record { rows = slice_rows es; regs = slice_regs x es; words = slice_words es; branches = rs } in s) tells.branches
