-- Lists of what code words decode to, and the quiet instructions that are done by them.
use Rattle.rv_meaning.proofs.Common.{◌≡◌, ◌≤◌, ℕ, zero, suc, ◌+◌, ◌-◌, ◌*◌, ◌/◌, ◌%◌, ◌<◌, ◌^◌, ◌==◌, min, refl, mod-lt, Bool, true, false, is_some, List, [], ◌∷◌, ◌++◌, length, length-append, sym, ◌∙◌, ap, subst, arith, Option, Some, None, slice_index_or, Result, Ok, Err, OnErr, w32, rotate_right, or_comm, or_shifted, Program, code_at, code_in, part_at, HartState, Instruction, decoded, LeadsTo, Says, IsAhead, IsBelowEnd, Quietly, Asking, pc_of, instruction_in, instruction_at, Quiet, ask_of, count_up, fetched, executed, step, meaning, Want, Op}
use Rattle.std.specs.Int.Bits.{bit_or}
use Rattle.rv_meaning.proofs.OneStep.{quiet_more, ask_at}

-- the same list of the same program
pub ahead_in : (i j : Program) (a : ℕ) (ops more : List Op) → i ≡ j → more ≡ ops → IsAhead i a ops → IsAhead j a more
ahead_in i j a ops more p e h = subst (λ (n : Program). IsAhead n a more) p (subst (λ (xs : List Op). IsAhead i a xs) (sym e) h)

-- what is said of the word at an address, at a place of the list
pub says_at : (i : Program) (a k : ℕ) (ops : List Op) (op : Op) → IsAhead i a ops → k < length ops → op ≡ slice_index_or ops k op
    → Says op (instruction_in (code_at i (a + 4 * k)))
says_at i a k [] op h below e = grind arith
says_at i a zero (x ∷ ops) op h below e =
    let place : a ≡ a + 4 * 0 = omega arith in
    subst (λ (n : ℕ). Says op (instruction_in (code_at i n))) place
    (subst (λ (y : Op). Says y (instruction_in (code_at i a))) (sym e) h.0)
says_at i a (suc k) (x ∷ ops) op h below e =
    let place : a + 4 + 4 * k ≡ a + 4 * suc k = omega arith in
    subst (λ (n : ℕ). Says op (instruction_in (code_at i n))) place (says_at i (a + 4) k ops op h.1 (omega (arith, below)) e)

-- no place of a list that ends below 2 ^ 32 is wrapped
plain_pc : (a k n : ℕ) → k < n → a + 4 * n < 2 ^ 32 + 4 → a + 4 * k ≡ pc_of a k
plain_pc a k n below end = omega (arith, below, end)

pub says_here : (i : Program) (a k : ℕ) (ops : List Op) (op : Op) → IsAhead i a ops → IsBelowEnd a ops → k < length ops → op ≡ slice_index_or ops k op
    → Says op (instruction_in (code_at i (pc_of a k)))
says_here i a k ops op h end below e =
    subst (λ (n : ℕ). Says op (instruction_in (code_at i n))) (plain_pc a k (length ops) below end) (says_at i a k ops op h below e)

-- the rotation of 32 bits to the right by 2
rotated : (x : ℕ) → x < 2 ^ 32 → bit_or (x / 2 ^ 2) (x * 2 ^ 30 % 2 ^ 32) ≡ x % 4 * 2 ^ 30 + x / 4
rotated x below =
    let high : x * 2 ^ 30 % 2 ^ 32 ≡ x % 4 * 2 ^ 30 = omega arith in
    ap (bit_or (x / 4)) high ∙ (or_comm (x / 4) (x % 4 * 2 ^ 30) ∙ or_shifted (x % 4) 30 (x / 4) (omega (arith, below)))

-- if the rotated distance from the first address is a place of the list, it is that of the address
place_of : (a pc x k n : ℕ) → a < 2 ^ 32 → pc < 2 ^ 32 → x ≡ (pc + (2 ^ 32 - a)) % 2 ^ 32 → k ≡ x % 4 * 2 ^ 30 + x / 4 → k < n → a + 4 * n < 2 ^ 32 + 4 → a + 4 * k ≡ pc
place_of a pc x k n p q e f below end = omega (arith, p, q, e, f, below, end)

pub entered : (a pc k : ℕ) (ops : List Op) → IsBelowEnd a ops → a < 2 ^ 32 → pc < 2 ^ 32 → k ≡ rotate_right w32 ((pc + (2 ^ 32 - a)) % 2 ^ 32) 2 → k < length ops → pc_of a k ≡ pc
entered a pc k ops end p q f below =
    let x : ℕ = (pc + (2 ^ 32 - a)) % 2 ^ 32 in
    sym (plain_pc a k (length ops) below end) ∙ place_of a pc x k (length ops) p q refl (f ∙ rotated x (mod-lt (pc + (2 ^ 32 - a)) (omega arith))) below end

-- one entry more
pub ahead_more : (i : Program) (a addr : ℕ) (ops : List Op) (op : Op) → IsAhead i a ops → addr ≡ a + 4 * length ops
    → Says op (instruction_in (code_at i addr)) → IsAhead i a (ops ++ op ∷ [])
ahead_more i a addr [] op h place e =
    let here : addr ≡ a = omega (arith, place) in
    (subst (λ (n : ℕ). Says op (instruction_in (code_at i n))) here e, tt)
ahead_more i a addr (x ∷ ops) op h place e = (h.0, ahead_more i (a + 4) addr ops op h.1 (omega (arith, place)) e)

-- and one address more
pub place_more : (a addr next : ℕ) (ops more : List Op) (op : Op) → more ≡ ops ++ op ∷ [] → addr ≡ a + 4 * length ops → next ≡ addr + 4 → next ≡ a + 4 * length more
place_more a addr next ops more op e place up =
    let one : length more ≡ length ops + 1 = ap length e ∙ length-append ops (op ∷ []) in
    omega (arith, one, place, up)

pub one_longer : (ops more : List Op) (op : Op) → more ≡ ops ++ op ∷ [] → length more ≡ length ops + 1
one_longer ops more op e = ap length e ∙ length-append ops (op ∷ [])

-- entries up to an address below 2 ^ 32, and one more
pub below_end : (a addr : ℕ) (ops : List Op) → addr ≡ a + 4 * length ops → addr < 2 ^ 32 → IsBelowEnd a ops
below_end a addr ops place below = omega (arith, place, below)

pub below_end_more : (a addr : ℕ) (ops more : List Op) (op : Op) → more ≡ ops ++ op ∷ [] → addr ≡ a + 4 * length ops → addr < 2 ^ 32 → IsBelowEnd a more
below_end_more a addr ops more op e place below = let one = place_more a addr (addr + 4) ops more op e place refl in omega (arith, one, below)

-- the step, by what the word at the pc decodes to
pub ahead_step : (i : Program) (s : HartState) (d : Instruction) → instruction_in (code_at i s.pc) ≡ Some d → meaning d.name i d s ≡ step i s
ahead_step i s d e = by_word (code_at i s.pc) e
  where
    by_instruction : (o : Option Instruction) (w : ℕ) → o ≡ Some d → meaning d.name i d s ≡ executed o w i s
    by_instruction o w e = ap (λ (p : Option Instruction). executed p w i s) (sym e)

    by_word : (o : Option ℕ) → instruction_in o ≡ Some d → meaning d.name i d s ≡ fetched o i s
    by_word None e = cc
    by_word (Some w) e = by_instruction (decoded w) w e

quiet_next : (i : Program) (b : ℕ) (s t : HartState) → 0 < b → Quiet t ≡ step i s → ask_of i (b - 1) t ≡ ask_of i b s
quiet_next i b s t some e = let all : b - 0 ≡ b = omega arith in quiet_more i b 0 s t some e ∙ ap (λ (n : ℕ). ask_of i n s) all

-- one quiet instruction more
pub leads_on : (i : Program) (b pc c p q : ℕ) (x y z : List ℕ) → LeadsTo i b pc x c p y → c ≤ b → 0 < c
    → Quietly true i (instruction_in (code_at i p)) p y q z → LeadsTo i b pc x (c - 1) q z
leads_on i b pc c p q x y z leads within some quiet ic fits =
    let n : ℕ = min (ic + (b - c)) (2 ^ 64 - 1) in
    let s : HartState = record { pc = p; x = y; ic = n } in
    let t : HartState = record { pc = q; x = z; ic = count_up n } in
    let d : Instruction = quiet.0 in
    let counted : min (ic + (b - (c - 1))) (2 ^ 64 - 1) ≡ count_up n = omega (arith, within, some) in
    ap (λ (m : ℕ). ask_of i (c - 1) (record { pc = q; x = z; ic = m })) counted ∙ quiet_next i c s t some (quiet.2 n ∙ ahead_step i s d quiet.1) ∙ leads ic fits

-- and so it is if more is left in any case
pub leads_more : (i : Program) (b more pc c p q : ℕ) (x y z : List ℕ) → LeadsTo i (b + more) pc x (c + more) p y → c ≤ b → 0 < c
    → Quietly true i (instruction_in (code_at i p)) p y q z → LeadsTo i (b + more) pc x (c - 1 + more) q z
leads_more i b more pc c p q x y z leads within some quiet =
    let less : c + more - 1 ≡ c - 1 + more = omega (arith, some) in
    subst (λ (n : ℕ). LeadsTo i (b + more) pc x n q z) less (leads_on i (b + more) pc (c + more) p q x y z leads (omega (arith, within)) (omega (arith, some)) quiet)

-- and so it is if what is left then is said otherwise
pub leads_next : (i : Program) (b more pc c d p q : ℕ) (x y z : List ℕ) → LeadsTo i (b + more) pc x (c + more) p y → c ≤ b → 0 < c → d ≡ c - 1
    → Quietly true i (instruction_in (code_at i p)) p y q z → LeadsTo i (b + more) pc x (d + more) q z
leads_next i b more pc c d p q x y z leads within some e quiet =
    subst (λ (n : ℕ). LeadsTo i (b + more) pc x (n + more) q z) (sym e) (leads_more i b more pc c p q x y z leads within some quiet)

pub leads_plain : (i : Program) (b pc c p : ℕ) (x y : List ℕ) → LeadsTo i (b + 0) pc x (c + 0) p y → LeadsTo i b pc x c p y
leads_plain i b pc c p x y leads =
    let eb : b + 0 ≡ b = omega arith in
    let ec : c + 0 ≡ c = omega arith in
    subst (λ (n : ℕ). LeadsTo i n pc x c p y) eb (subst (λ (n : ℕ). LeadsTo i (b + 0) pc x n p y) ec leads)

-- nothing was done, and pc and registers are unchanged
pub leads_still : (i : Program) (b pc c p q : ℕ) (x y z : List ℕ) → LeadsTo i b pc x c p y → (q ≡ p) × (z ≡ y) → LeadsTo i b pc x c q z
leads_still i b pc c p q x y z leads same =
    subst (λ (a : ℕ). LeadsTo i b pc x c a z) (sym same.0) (subst (λ (w : List ℕ). LeadsTo i b pc x c p w) (sym same.1) leads)

-- an instruction that asks is the end
pub asks_here : (i : Program) (left : ℕ) (s : HartState) (w : Want) → 0 < left → Asking true i (instruction_at i s) s.x w → record { state = s; want = w } ≡ ask_of i left s
asks_here i left s w some asking = let all : left - 0 ≡ left = omega arith in ask_at i left 0 s w some (asking.2 s.pc s.ic ∙ ahead_step i s asking.0 asking.1) ∙ ap (λ (n : ℕ). ask_of i n s) all

-- if words from an address on are decoded, and one more is code, the first is
pub first_code : (i : Program) (a addr w n : ℕ) → addr ≡ a + 4 * n → Some w ≡ code_at i addr → (0 < n → is_some (code_at i a) ≡ true) → is_some (code_at i a) ≡ true
first_code i a addr w zero place e more =
    let here : addr ≡ a = omega (arith, place) in ap (λ (k : ℕ). is_some (code_at i k)) (sym here) ∙ sym (ap (λ (o : Option ℕ). is_some o) e)
first_code i a addr w (suc n) place e more = more (omega arith)

-- what holds, holds of an error
pub on_err : {T E P : Type 0} (r : Result T E) → P → OnErr r P
on_err (Ok x) p = tt
on_err (Err e) p = p

-- code words are aligned
pub code_aligned : (i : Program) (a : ℕ) → is_some (code_at i a) ≡ true → a % 4 ≡ 0
code_aligned i a some = by_test (a % 4 == 0) refl some
  where
    by_test : (b : Bool) → a % 4 == 0 ≡ b → is_some (elim b [ true ↦ code_in (part_at i.parts a) a | false ↦ None ]) ≡ true → a % 4 ≡ 0
    by_test true e some = grind arith
    by_test false e some = absurd cc
