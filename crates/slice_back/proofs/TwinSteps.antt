-- Two replays continue alike: their rows of a slice are the same, and they agree on what is live after them.
use Rattle.slice_back.proofs.Common.{◌≡◌, ℕ, ◌==◌, ◌&&◌, ◌||◌, Bool, true, false, not, List, Option, Some, None, refl, sym, ◌∙◌, ap, subst, inl, inr, arith, slice_index, Program, code_at, EndMark, Row, HartState, Instruction, aligned, Step, Quiet, Asks, step, after, Want, Load, Store, LoadReserved, StoreConditional, Amo, System, Cut, Faulted, instruction_in, written, known, at_address, Interval, Position, word_for, Pending, Noted, is_call, reads, is_of, is_word, word_of, used_word, uses_register, writes_register, uses_word, stores_word, takes_word, took, Live, note, live_before, writes_live, stores_live, gives, taken, bare, address_of, took_word, AreAlike, and_from, and_parts, eq-eqb, eqb-true, or_left, or_right, not_from_false}
use Rattle.slice_back.proofs.LeastLaws.{says_taken}
use Rattle.slice_back.proofs.Meanings.{Shape, AlikeSteps}
use Rattle.slice_back.proofs.Turns.{IsAsk, reply_for, asked_row, WordOf, Turn}
use Rattle.slice_back.proofs.Turns.Turn.{quiet, asked}
use Rattle.slice_back.proofs.Facts.{Code, code_of, row_word, row_pc, row_fault, row_reg, reg_for, same_writes, After}
use Rattle.slice_back.proofs.Afters.{row_after, used_by, row_uses, Source, source_of}
use Rattle.slice_back.proofs.Pairs.{code_as, SameUsed, steps_alike, SameWord, loads_same, stores_same, writes_same, bare_same, reg_same}
use Rattle.slice_back.proofs.Twins.{Side, Agreeing, kept, taken_now, stores_alike, takes_alike, over_store, past_store}

-- two sides that are alike
pub record Twin (i : Program) (h g : ℕ) (v w : Interval) (p q o u : Position) (pend rest : Pending) (row other : Row) : Type 0 where
  pub one : Side i h v p q pend row
  pub two : Side i g w o u rest other
  pub alike : AreAlike (note pend row) (note rest other)
  pub reason : v.mark.reason ≡ w.mark.reason
  pub value : v.mark.value ≡ w.mark.value

code_two_is : {i : Program} {h g : ℕ} {v w : Interval} {p q o u : Position} {pend rest : Pending} {row other : Row} (t : Twin i h g v w p q o u pend rest row other) (c : Code i p.state) → instruction_in (code_at i o.state.pc) ≡ Some c.code
code_two_is {i = i} {h = h} {g = g} {v = v} {w = w} {p = p} {q = q} {o = o} {u = u} {row = row} {other = other} t c =
    ap instruction_in (sym (row_word i g w o u other t.two.turn) ∙ sym t.alike.word ∙ row_word i h v p q row t.one.turn) ∙ c.is

-- both write the same register, or none
pub twin_writes : {i : Program} {h g : ℕ} {v w : Interval} {p q o u : Position} {pend rest : Pending} {row other : Row} → Twin i h g v w p q o u pend rest row other → (r : ℕ) → writes_register r row ≡ writes_register r other
twin_writes {i = i} {h = h} {g = g} {v = v} {w = w} {p = p} {q = q} {o = o} {u = u} {row = row} {other = other} t r =
    let c : Code i p.state = code_of i h v p q row t.one.turn in
    let e : instruction_in (code_at i o.state.pc) ≡ Some c.code = code_two_is t c in
    ap (λ x. is_of r x) (row_reg i h v p q row c t.one.turn)
    ∙ same_writes c.code q.state u.state v.mark w.mark t.reason t.value r
    ∙ sym (ap (λ x. is_of r x) (row_reg i g w o u other (code_as i o.state c.code e) t.two.turn))

-- the word of an ask comes from its source
word_source : (i : Program) (h : ℕ) (v : Interval) (p q : Position) (pend : Pending) (row : Row) (a x : ℕ) (k : Want) → Side i h v p q pend row → used_word row ≡ used_by k → used_by k ≡ Some a → WordOf v p k x → Source (note pend row).first_load p.rows a x
word_source i h v p q pend row a x k s u e w = by k u e w
  where
    at : (b : ℕ) → aligned b ≡ a → used_word row ≡ Some (aligned b) → word_for v p b ≡ Some x → Source (note pend row).first_load p.rows a x
    at b same u f = subst (λ (n : ℕ). Source (note pend row).first_load p.rows n x) same (source_of v pend p row b x s.linked u f)

    by : (k : Want) → used_word row ≡ used_by k → used_by k ≡ Some a → WordOf v p k x → Source (note pend row).first_load p.rows a x
    by (Load b y g rd) u e w = at b (let t : ◌≡◌ {A = Option ℕ} (Some (aligned b)) (Some a) = e in cc) u w
    by (LoadReserved b rd) u e w = at b (let t : ◌≡◌ {A = Option ℕ} (Some (aligned b)) (Some a) = e in cc) u w
    by (Amo b z rd y) u e w = at b (let t : ◌≡◌ {A = Option ℕ} (Some (aligned b)) (Some a) = e in cc) u w
    by (Store b y z) u e w = parts (y == 4) refl u e
      where
        parts : (c : Bool) → (y == 4) ≡ c → used_word row ≡ (elim c as (λ d. Option ℕ) [ true ↦ None | false ↦ Some (aligned b) ]) → (elim c as (λ d. Option ℕ) [ true ↦ None | false ↦ Some (aligned b) ]) ≡ Some a → Source (note pend row).first_load p.rows a x
        parts true f u e = absurd cc
        parts false f u e = at b (let t : ◌≡◌ {A = Option ℕ} (Some (aligned b)) (Some a) = e in cc) u (w f)
    by (StoreConditional b rd y) u e w = absurd cc
    by (System n args) u e w = absurd cc
    by Cut u e w = absurd cc
    by (Faulted f y) u e w = absurd cc

-- their words are the same, if they use one
abbrev pub WordsSame : Pending → Row → List Row → Pending → Row → List Row → Type 0
WordsSame pend row rows rest other others = (a x y : ℕ) → used_word row ≡ Some a → used_word other ≡ Some a → Source (note pend row).first_load rows a x → Source (note rest other).first_load others a y → x ≡ y

twin_rows : (i : Program) (h g : ℕ) (v w : Interval) (p q o u : Position) (pend rest : Pending) (row other : Row) (t : Twin i h g v w p q o u pend rest row other) (c : Code i p.state) → SameUsed c.code p.state o.state
    → WordsSame pend row p.rows rest other o.rows → bare row ≡ bare other
twin_rows i h g v w p q o u pend rest row other t c same words = by t.one.turn t.two.turn (steps_alike i p.state o.state c (code_two_is t c) same)
  where
    d : Instruction
    d = c.code

    c2 : Code i o.state
    c2 = code_as i o.state c.code (code_two_is t c)

    all : row.load ≡ other.load → row.store ≡ other.store → (is_call d.name ≡ false → written (Some d) q.state ≡ written (Some d) u.state) → bare row ≡ bare other
    all loads stores regs = bare_same row other t.alike.pc t.alike.word
        (row_reg i h v p q row c t.one.turn ∙ reg_same d q.state u.state v.mark w.mark t.reason t.value regs ∙ sym (row_reg i g w o u other c2 t.two.turn))
        loads stores (row_fault i h v p q row t.one.turn ∙ sym (row_fault i g w o u other t.two.turn))

    asks : (k : Want) (b c : Bool) (x y : ℕ) → step i p.state ≡ Asks k → step i o.state ≡ Asks k → IsAsk k → q.state ≡ after k (reply_for v.mark k b x) p.state → row ≡ asked_row h i p.state q.state v.mark k b x → WordOf v p k x
        → u.state ≡ after k (reply_for w.mark k c y) o.state → other ≡ asked_row g i o.state u.state w.mark k c y → WordOf w o k y → bare row ≡ bare other
    asks k b e x y f f2 a s r z s2 r2 z2 = all
        (ap (λ (m : Row). m.load) r ∙ loads_same h g i p.state o.state q.state u.state v.mark w.mark k b e x y same_word ∙ sym (ap (λ (m : Row). m.load) r2))
        (ap (λ (m : Row). m.store) r ∙ stores_same h g i p.state o.state q.state u.state v.mark w.mark k b e x y same_word stored ∙ sym (ap (λ (m : Row). m.store) r2))
        (λ n. writes_same h g i p.state o.state q.state u.state v.mark w.mark d k b e x y a (subst (λ (m : Step). Shape d.name d p.state m) f c.form) n same_word same.count stored s s2)
      where
        stored : address_of (asked_row h i p.state q.state v.mark k b x).store ≡ address_of (asked_row g i o.state u.state w.mark k e y).store
        stored = sym (ap (λ (m : Row). address_of m.store) r) ∙ t.alike.store ∙ ap (λ (m : Row). address_of m.store) r2

        uses_one : used_word row ≡ used_by k
        uses_one = row_uses i h v p q row c k b x a f r

        uses_two : used_word other ≡ used_by k
        uses_two = row_uses i g w o u other c2 k e y a f2 r2

        same_word : SameWord k x y
        same_word m used = words m x y (uses_one ∙ used) (uses_two ∙ used) (word_source i h v p q pend row m x k t.one uses_one used z) (word_source i g w o u rest other m y k t.two uses_two used z2)

    by : Turn i h v p q row → Turn i g w o u other → AlikeSteps d (step i p.state) (step i o.state) → bare row ≡ bare other
    by (quiet e r n) (quiet f s m) k =
        let w1 : AlikeSteps d (Quiet q.state) (step i o.state) = subst (λ (x : Step). AlikeSteps d x (step i o.state)) e k in
        let w2 : AlikeSteps d (Quiet q.state) (Quiet u.state) = subst (λ (x : Step). AlikeSteps d (Quiet q.state) x) f w1 in
        all (ap (λ (x : Row). x.load) r ∙ sym (ap (λ (x : Row). x.load) s)) (ap (λ (x : Row). x.store) r ∙ sym (ap (λ (x : Row). x.store) s)) (λ z. w2)
    by (quiet e r n) (asked j b y f a s m z l) k =
        let w1 : AlikeSteps d (Quiet q.state) (step i o.state) = subst (λ (x : Step). AlikeSteps d x (step i o.state)) e k in
        let w2 : AlikeSteps d (Quiet q.state) (Asks j) = subst (λ (x : Step). AlikeSteps d (Quiet q.state) x) f w1 in absurd w2
    by (asked j b x e a s r z n) (quiet f m l) k =
        let w1 : AlikeSteps d (Asks j) (step i o.state) = subst (λ (x : Step). AlikeSteps d x (step i o.state)) e k in
        let w2 : AlikeSteps d (Asks j) (Quiet u.state) = subst (λ (x : Step). AlikeSteps d (Asks j) x) f w1 in absurd w2
    by (asked j b x e a s r z n) (asked l b2 y f a2 s2 r2 z2 m) k =
        let w1 : AlikeSteps d (Asks j) (step i o.state) = subst (λ (x : Step). AlikeSteps d x (step i o.state)) e k in
        let w2 : j ≡ l = subst (λ (x : Step). AlikeSteps d (Asks j) x) f w1 in
        let all2 : (step i o.state ≡ Asks j) × (u.state ≡ after j (reply_for w.mark j b2 y) o.state) × (other ≡ asked_row g i o.state u.state w.mark j b2 y) × WordOf w o j y =
        subst (λ (x : Want). (step i o.state ≡ Asks x) × (u.state ≡ after x (reply_for w.mark x b2 y) o.state) × (other ≡ asked_row g i o.state u.state w.mark x b2 y) × WordOf w o x y) (sym w2) (f, s2, r2, z2) in
        asks j b b2 x y e all2.0 a s r z all2.1 all2.2 all2.3

-- ---- a row of the slice

-- what is told of the first load that a row takes for the slice is the other's too
abbrev pub TakenSame : Bool → Live → Noted → Noted → Type 0
TakenSame chosen l e f = (a x : ℕ) → taken chosen l e ≡ Some (a, x) → f.first_load ≡ Some x

pub twin_chosen : (i : Program) (h g : ℕ) (v w : Interval) (p q o u : Position) (pend rest : Pending) (row other : Row) (t : Twin i h g v w p q o u pend rest row other) (l : Live) (chosen : Bool)
    → chosen ≡ true → Agreeing (live_before chosen (note pend row) l) p o → TakenSame chosen l (note pend row) (note rest other) → bare row ≡ bare other
twin_chosen i h g v w p q o u pend rest row other t l chosen is agree told = twin_rows i h g v w p q o u pend rest row other t c used words
  where
    c : Code i p.state
    c = code_of i h v p q row t.one.turn

    e : Noted
    e = note pend row

    f : Noted
    f = note rest other

    used : SameUsed c.code p.state o.state
    used = record {
      pc = sym (row_pc i h v p q row t.one.turn) ∙ t.alike.pc ∙ row_pc i g w o u other t.two.turn;
      zero_same = agree.zero_same;
      read = λ r n m. agree.registers r (or_left (chosen && uses_register r row) (not (writes_register r row) && l.registers r)
          (and_from chosen (uses_register r row) is (and_from (not (r == 0)) (reads r (instruction_in row.word)) (not_from_false (r == 0) n)
          (ap (λ k. reads r k) (ap instruction_in (row_word i h v p q row t.one.turn) ∙ c.is) ∙ m))));
      count = t.one.count ∙ sym t.two.count;
    }

    words : WordsSame pend row p.rows rest other o.rows
    words a x y u1 u2 (inl s1) s2 = by s2
      where
        first_is : f.first_load ≡ Some x
        first_is = told a x (says_taken chosen l e a x (record { used = ap (λ k. is_word a k) u1 ∙ eq-eqb a a refl; first = s1; wants = or_left chosen (not (stores_word a row) && l.words a) is }))

        by : Source f.first_load o.rows a y → x ≡ y
        by (inl s) = let z : ◌≡◌ {A = Option ℕ} (Some x) (Some y) = sym first_is ∙ s in cc
        by (inr s) = absurd (let z : ◌≡◌ {A = Option ℕ} None (Some x) = sym s.0 ∙ first_is in cc)
    words a x y u1 u2 (inr s1) s2 = by s2
      where
        took_none : took_word f ≡ None
        took_none = sym t.alike.took ∙ ap (λ (k : Option ℕ). elim k as (λ z. Option ℕ) [ None ↦ None | Some z ↦ used_word row ]) s1.0

        untaken : takes_word a e ≡ false
        untaken = ap (λ k. took k && uses_word a row) s1.0

        known_same : known a p.rows ≡ known a o.rows
        known_same = agree.words a (and_from (not (takes_word a e)) ((chosen && uses_word a row) || (not (stores_word a row) && l.words a)) (not_from_false (takes_word a e) untaken)
            (or_left (chosen && uses_word a row) (not (stores_word a row) && l.words a) (and_from chosen (uses_word a row) is (ap (λ k. is_word a k) u1 ∙ eq-eqb a a refl))))

        by : Source f.first_load o.rows a y → x ≡ y
        by (inl s) = absurd (let z : ◌≡◌ {A = Option ℕ} (Some a) None = sym u2 ∙ sym (ap (λ (k : Option ℕ). elim k as (λ n. Option ℕ) [ None ↦ None | Some n ↦ used_word other ]) s) ∙ took_none in cc)
        by (inr s) = let z : ◌≡◌ {A = Option ℕ} (Some x) (Some y) = sym s1.1 ∙ known_same ∙ s.1 in cc

-- ---- what is live after it

-- x0 is never written
zero_unwritten : (d : Instruction) (s : HartState) (m : EndMark) → is_of 0 (reg_for d s m) ≡ false
zero_unwritten d s m = by (is_call d.name) (d.rd == 0) refl (m.reason == 2)
  where
    by : (b c : Bool) → (d.rd == 0) ≡ c → (n : Bool) → is_of 0 (elim b as (λ x. Option (ℕ × ℕ)) [ true ↦ elim n as (λ x. Option (ℕ × ℕ)) [ true ↦ Some (10, m.value) | false ↦ None ] | false ↦ elim c as (λ x. Option (ℕ × ℕ)) [ true ↦ None | false ↦ Some (d.rd, slice_index s.x d.rd) ] ]) ≡ false
    by true c e true = refl
    by true c e false = refl
    by false true e n = refl
    by false false e n = e

pub twin_next : (i : Program) (h g : ℕ) (v w : Interval) (p q o u : Position) (pend rest : Pending) (row other : Row) (t : Twin i h g v w p q o u pend rest row other) (l : Live) (chosen : Bool)
    → (gives l row ≡ true → chosen ≡ true) → Agreeing (live_before chosen (note pend row) l) p o → TakenSame chosen l (note pend row) (note rest other) → Agreeing l q u
twin_next i h g v w p q o u pend rest row other t l chosen gave agree told = record { registers = registers; zero_same = zero_now; words = words }
  where
    c : Code i p.state
    c = code_of i h v p q row t.one.turn

    c2 : Code i o.state
    c2 = code_as i o.state c.code (code_two_is t c)

    e : Noted
    e = note pend row

    f : Noted
    f = note rest other

    rows_same : gives l row ≡ true → bare row ≡ bare other
    rows_same y = twin_chosen i h g v w p q o u pend rest row other t l chosen (gave y) agree told

    after_one : (r : ℕ) → After row.reg p.state.x q.state.x r
    after_one r = row_after i h v p q row c (omega (arith, t.one.count)) t.one.turn r

    after_two : (r : ℕ) → After other.reg o.state.x u.state.x r
    after_two r = row_after i g w o u other c2 (omega (arith, t.two.count)) t.two.turn r

    written : (r x : ℕ) → other.reg ≡ Some (r, x) → writes_register r other ≡ true
    written r x k = ap (λ z. is_of r z) k ∙ eq-eqb r r refl

    registers : (r : ℕ) → l.registers r ≡ true → slice_index q.state.x r ≡ slice_index u.state.x r
    registers r live = by (after_one r) (after_two r)
      where
        by : After row.reg p.state.x q.state.x r → After other.reg o.state.x u.state.x r → slice_index q.state.x r ≡ slice_index u.state.x r
        by (inl a) b =
            let given : gives l row ≡ true = or_left (writes_live l row.reg) (stores_live l (word_of row.store)) (ap (λ z. writes_live l z) a ∙ live) in
            let reg : row.reg ≡ other.reg = ap (λ (z : Row). z.reg) (rows_same given) in
            elim b [
              | inl n ↦ (let z : ◌≡◌ {A = Option (ℕ × ℕ)} (Some (r, slice_index q.state.x r)) (Some (r, slice_index u.state.x r)) = sym a ∙ reg ∙ n in
                  let z2 : ◌≡◌ {A = ℕ × ℕ} (r, slice_index q.state.x r) (r, slice_index u.state.x r) = cc in ap (λ (k : ℕ × ℕ). k.1) z2)
              | inr n ↦ absurd (let z : true ≡ false = sym (written r (slice_index q.state.x r) (sym reg ∙ a)) ∙ n.0 in cc)
            ]
        by (inr a) (inl n) = absurd (let z : true ≡ false = sym (written r (slice_index u.state.x r) n) ∙ sym (twin_writes t r) ∙ a.0 in cc)
        by (inr a) (inr n) = a.1 ∙ agree.registers r (or_right (chosen && uses_register r row) (not (writes_register r row) && l.registers r) (and_from (not (writes_register r row)) (l.registers r) (not_from_false (writes_register r row) a.0) live)) ∙ sym n.1

    zero_one : is_of 0 row.reg ≡ false
    zero_one = ap (λ z. is_of 0 z) (row_reg i h v p q row c t.one.turn) ∙ zero_unwritten c.code q.state v.mark

    zero_two : is_of 0 other.reg ≡ false
    zero_two = sym (twin_writes t 0) ∙ zero_one

    unwritten : (reg : Option (ℕ × ℕ)) (x y : List ℕ) → is_of 0 reg ≡ false → After reg x y 0 → slice_index y 0 ≡ slice_index x 0
    unwritten reg x y n (inl a) = absurd (let z : true ≡ false = sym (ap (λ k. is_of 0 k) a) ∙ n in cc)
    unwritten reg x y n (inr a) = a.1

    zero_now : slice_index q.state.x 0 ≡ slice_index u.state.x 0
    zero_now = unwritten row.reg p.state.x q.state.x zero_one (after_one 0) ∙ agree.zero_same ∙ sym (unwritten other.reg o.state.x u.state.x zero_two (after_two 0))

    known_one : (a : ℕ) → known a q.rows ≡ at_address a row.store (at_address a row.load (known a p.rows))
    known_one a = ap (λ rs. known a rs) t.one.rows

    known_two : (a : ℕ) → known a u.rows ≡ at_address a other.store (at_address a other.load (known a o.rows))
    known_two a = ap (λ rs. known a rs) t.two.rows

    words : (a : ℕ) → l.words a ≡ true → known a q.rows ≡ known a u.rows
    words a live = known_one a ∙ by (stores_word a row) refl ∙ sym (known_two a)
      where
        from : Option ℕ
        from = at_address a row.load (known a p.rows)

        to : Option ℕ
        to = at_address a other.load (known a o.rows)

        stored : stores_word a row ≡ true → stores_live l (word_of row.store) ≡ true
        stored y = store (word_of row.store) y
          where
            store : (k : Option ℕ) → is_word a k ≡ true → stores_live l k ≡ true
            store None n = cc
            store (Some b) n = sym (ap l.words (eqb-true a b n)) ∙ live

        loads : stores_word a row ≡ false → (b : Bool) → takes_word a e ≡ b → from ≡ to
        loads n true y = first e.first_load refl (and_parts (took e.first_load) (uses_word a row) y).0
          where
            first : (k : Option ℕ) → e.first_load ≡ k → took k ≡ true → from ≡ to
            first None k z = cc
            first (Some x) k z =
                let other_first : f.first_load ≡ Some x = told a x (says_taken chosen l e a x (record { used = (and_parts (took e.first_load) (uses_word a row) y).1; first = k; wants = or_right chosen (not (stores_word a row) && l.words a) (and_from (not (stores_word a row)) (l.words a) (not_from_false (stores_word a row) n) live) })) in
                taken_now i h v p q pend row a x t.one y n k ∙ sym (taken_now i g w o u rest other a x t.two (sym (takes_alike e f a t.alike) ∙ y) (sym (stores_alike e f a t.alike) ∙ n) other_first)
        loads n false y =
            kept i h v p q pend row a t.one y
            ∙ agree.words a (and_from (not (takes_word a e)) ((chosen && uses_word a row) || (not (stores_word a row) && l.words a)) (not_from_false (takes_word a e) y)
            (or_right (chosen && uses_word a row) (not (stores_word a row) && l.words a) (and_from (not (stores_word a row)) (l.words a) (not_from_false (stores_word a row) n) live)))
            ∙ sym (kept i g w o u rest other a t.two (sym (takes_alike e f a t.alike) ∙ y))

        by : (b : Bool) → stores_word a row ≡ b → at_address a row.store from ≡ at_address a other.store to
        by true y =
            let given : gives l row ≡ true = or_right (writes_live l row.reg) (stores_live l (word_of row.store)) (stored y) in
            over_store a row.store from to y ∙ ap (λ (k : Option (ℕ × ℕ)). at_address a k to) (ap (λ (z : Row). z.store) (rows_same given))
        by false y = past_store a row.store from y ∙ loads y (takes_word a e) refl ∙ sym (past_store a other.store to (sym (stores_alike e f a t.alike) ∙ y))
