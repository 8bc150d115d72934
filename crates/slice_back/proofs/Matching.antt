-- Row by row, two replays that agree give rows that are told alike.
use Rattle.slice_back.proofs.Common.{◌≡◌, ℕ, ◌==◌, ◌&&◌, ◌++◌, true, false, not, List, [], ◌∷◌, length, Option, Some, None, refl, sym, ◌∙◌, ap, subst, Program, code_at, Fault, FetchOutside, Row, HartState, Instruction, decoded, Step, Quiet, Asks, step, fetched, executed, Want, Faulted, instruction_in, fault_row, Interval, Position, Pending, Noted, used_word, uses_register, writes_register, stores_word, takes_word, reads, Live, note, passed, noted_from, live, live_before, gives, is_last, in_slice, bare, AllAlike, WordsAgree, and_from, or_left, or_right, not_from_false}
use Rattle.slice_back.proofs.Meanings.{AlikeSteps}
use Rattle.slice_back.proofs.Turns.{IsAsk, Turn}
use Rattle.slice_back.proofs.Turns.Turn.{quiet, asked}
use Rattle.slice_back.proofs.Places.{Linked, linked_next}
use Rattle.slice_back.proofs.Facts.{code_of, row_word, row_pc}
use Rattle.slice_back.proofs.Afters.{row_count, row_loads}
use Rattle.slice_back.proofs.Pairs.{code_as, SameUsed, steps_alike, bare_same}
use Rattle.slice_back.proofs.Twins.{Agreeing, stores_alike, takes_alike}
use Rattle.slice_back.proofs.TwinSteps.{Twin, twin_writes, twin_chosen, twin_next}
use Rattle.slice_back.proofs.RowsOn.{rows_on, Head, head}
use Rattle.slice_back.proofs.RowsOn.Head.{goes, faults}

-- the same row of two replays, with the rows after it
pub record Match (e f : Noted) (later : List Noted) : Type 0 where
  pub stores : (a : ℕ) → stores_word a e.row ≡ stores_word a f.row
  pub takes : (a : ℕ) → takes_word a e ≡ takes_word a f
  pub writes : is_last later ≡ false → (q : ℕ) → writes_register q e.row ≡ writes_register q f.row
  pub rows : in_slice e later ≡ true → bare e.row ≡ bare f.row

abbrev pub Matched : List Noted → List Noted → Type 0
Matched [] [] = Unit {0}
Matched (e ∷ es) (f ∷ fs) = Match e f es × Matched es fs
Matched [] (f ∷ fs) = ⊥
Matched (e ∷ es) [] = ⊥

-- ---- a fault

-- what a row uses is the same, if it is in the slice
used_same : (i : Program) (p o : Position) (e : Noted) (l : Live) (d : Instruction) → Agreeing (live_before true e l) p o → e.row.word ≡ code_at i p.state.pc → p.state.pc ≡ o.state.pc → length p.state.x ≡ 32 → length o.state.x ≡ 32
    → instruction_in (code_at i p.state.pc) ≡ Some d → SameUsed d p.state o.state
used_same i p o e l d agree word pc one two is = record {
  pc = pc;
  zero_same = agree.zero_same;
  read = λ q n r. agree.registers q (or_left (true && uses_register q e.row) (not (writes_register q e.row) && l.registers q)
      (and_from true (uses_register q e.row) refl (and_from (not (q == 0)) (reads q (instruction_in e.row.word)) (not_from_false (q == 0) n) (ap (λ k. reads q k) (ap instruction_in word ∙ is) ∙ r))));
  count = one ∙ sym two;
}

-- without an instruction two steps at one pc are the same
none_same : (i : Program) (s t : HartState) → s.pc ≡ t.pc → instruction_in (code_at i s.pc) ≡ None → step i s ≡ step i t
none_same i s t pc e = by (code_at i s.pc) e ∙ ap (λ n. fetched (code_at i n) i t) pc
  where
    by_word : (w : ℕ) (o : Option Instruction) → o ≡ None → executed o w i s ≡ executed o w i t
    by_word w None f = refl
    by_word w (Some d) f = absurd cc

    by : (c : Option ℕ) → instruction_in c ≡ None → fetched c i s ≡ fetched c i t
    by None f = ap (λ n. Asks (Faulted FetchOutside n)) pc
    by (Some w) f = by_word w (decoded w) f

-- the one faults as the other does
alike_fault : (d : Instruction) (x y : Step) (f : Fault) (z : ℕ) → AlikeSteps d x y → x ≡ Asks (Faulted f z) → y ≡ Asks (Faulted f z)
alike_fault d (Quiet t) y f z a e = absurd cc
alike_fault d (Asks k) (Quiet u) f z a e = absurd a
alike_fault d (Asks k) (Asks j) f z a e = ap (λ n. Asks n) (sym a) ∙ e

alike_back : (d : Instruction) (x y : Step) (f : Fault) (z : ℕ) → AlikeSteps d x y → y ≡ Asks (Faulted f z) → x ≡ Asks (Faulted f z)
alike_back d (Quiet t) (Quiet u) f z a e = absurd cc
alike_back d (Quiet t) (Asks j) f z a e = absurd a
alike_back d (Asks k) (Quiet u) f z a e = absurd a
alike_back d (Asks k) (Asks j) f z a e = ap (λ n. Asks n) a ∙ e

fault_there : (i : Program) (s t : HartState) (f : Fault) (z : ℕ) → s.pc ≡ t.pc → ((d : Instruction) → instruction_in (code_at i s.pc) ≡ Some d → SameUsed d s t) → step i s ≡ Asks (Faulted f z) → step i t ≡ Asks (Faulted f z)
fault_there i s t f z pc same e = by (instruction_in (code_at i s.pc)) refl
  where
    by : (o : Option Instruction) → instruction_in (code_at i s.pc) ≡ o → step i t ≡ Asks (Faulted f z)
    by None n = sym (none_same i s t pc n) ∙ e
    by (Some d) n = alike_fault d (step i s) (step i t) f z (steps_alike i s t (code_as i s d n) (ap (λ k. instruction_in (code_at i k)) (sym pc) ∙ n) (same d n)) e

fault_back : (i : Program) (s t : HartState) (f : Fault) (z : ℕ) → s.pc ≡ t.pc → ((d : Instruction) → instruction_in (code_at i s.pc) ≡ Some d → SameUsed d s t) → step i t ≡ Asks (Faulted f z) → step i s ≡ Asks (Faulted f z)
fault_back i s t f z pc same e = by (instruction_in (code_at i s.pc)) refl
  where
    by : (o : Option Instruction) → instruction_in (code_at i s.pc) ≡ o → step i s ≡ Asks (Faulted f z)
    by None n = none_same i s t pc n ∙ e
    by (Some d) n = alike_back d (step i s) (step i t) f z (steps_alike i s t (code_as i s d n) (ap (λ k. instruction_in (code_at i k)) (sym pc) ∙ n) (same d n)) e

-- a replay that takes a step doesn't fault
no_fault : (i : Program) (h : ℕ) (v : Interval) (p q : Position) (row : Row) (f : Fault) (z : ℕ) → Turn i h v p q row → step i p.state ≡ Asks (Faulted f z) → ⊥
no_fault i h v p q row f z (quiet e r n) g = let t : Quiet q.state ≡ Asks (Faulted f z) = sym e ∙ g in cc
no_fault i h v p q row f z (asked k b x e a u r w n) g =
    let t : Asks k ≡ Asks (Faulted f z) = sym e ∙ g in
    let same : k ≡ Faulted f z = cc in
    subst (λ (j : Want). IsAsk j) same a

-- ---- all rows

-- what two replays know when they continue alike
pub record Alongside (v w : Interval) (p o : Position) (pend rest : Pending) (es fs : List Noted) : Type 0 where
  pub linked : Linked v pend p.loads
  pub other_linked : Linked w rest o.loads
  pub count : length p.state.x ≡ 32
  pub other_count : length o.state.x ≡ 32
  pub alike : AllAlike es fs
  pub words : WordsAgree es fs
  pub reason : v.mark.reason ≡ w.mark.reason
  pub value : v.mark.value ≡ w.mark.value
  pub agree : Agreeing (live es) p o

none_before : (later laters : List Noted) → AllAlike later laters → laters ≡ [] → later ≡ []
none_before [] fs a e = refl
none_before (x ∷ xs) [] a e = absurd a
none_before (x ∷ xs) (f ∷ fs) a e = absurd cc

-- a given row that faults, and its twin
last_live : (e : Noted) (later : List Noted) (p o : Position) → later ≡ [] → Agreeing (live (e ∷ later)) p o → Agreeing (live_before true e (live [])) p o
last_live e later p o none a = subst (λ (xs : List Noted). Agreeing (live (e ∷ xs)) p o) none a

match_faults : (i : Program) (h g : ℕ) (v w : Interval) (p o : Position) (pend rest : Pending) (e f : Noted) (later laters : List Noted) (k j : Fault) (y z : ℕ) → Alongside v w p o pend rest (e ∷ later) (f ∷ laters)
    → step i p.state ≡ Asks (Faulted k y) → e ≡ note pend (fault_row h i p.state k y) → later ≡ [] → step i o.state ≡ Asks (Faulted j z) → f ≡ note rest (fault_row g i o.state j z) → Match e f later
match_faults i h g v w p o pend rest e f later laters k j y z s a b n c d = record {
  stores = λ m. stores_alike e f m s.alike.0;
  takes = λ m. takes_alike e f m s.alike.0;
  writes = λ l. absurd (let t : true ≡ false = sym (ap is_last n) ∙ l in cc);
  rows = λ t. (
      let one : e.row ≡ fault_row h i p.state k y = ap (λ (x : Noted). x.row) b in
      let two : f.row ≡ fault_row g i o.state j z = ap (λ (x : Noted). x.row) d in
      let pc : p.state.pc ≡ o.state.pc = sym (ap (λ (x : Row). x.pc) one) ∙ s.alike.0.pc ∙ ap (λ (x : Row). x.pc) two in
      let word : e.row.word ≡ code_at i p.state.pc = ap (λ (x : Row). x.word) one in
      let there : step i o.state ≡ Asks (Faulted k y) = fault_there i p.state o.state k y pc
      (λ m is. used_same i p o e (live []) m (last_live e later p o n s.agree) word pc s.count s.other_count is) a in
      let same : Asks (Faulted k y) ≡ Asks (Faulted j z) = sym there ∙ c in
      let kinds : ◌≡◌ {A = Want} (Faulted k y) (Faulted j z) = cc in
      let kind : k ≡ j = cc in
      let value : y ≡ z = cc in
      bare_same e.row f.row s.alike.0.pc s.alike.0.word (ap (λ (x : Row). x.reg) one ∙ sym (ap (λ (x : Row). x.reg) two)) (ap (λ (x : Row). x.load) one ∙ sym (ap (λ (x : Row). x.load) two))
      (ap (λ (x : Row). x.store) one ∙ sym (ap (λ (x : Row). x.store) two)) (ap (λ (x : Row). x.fault) one ∙ ap (λ (x : Fault). Some (x, y)) kind ∙ ap (λ (x : ℕ). Some (j, x)) value ∙ sym (ap (λ (x : Row). x.fault) two)));
}

-- one faults, and its twin would continue
one_faults : (i : Program) (h g : ℕ) (v w : Interval) (p o u : Position) (pend rest : Pending) (e f : Noted) (later laters : List Noted) (k : Fault) (y : ℕ) (other : Row) → Alongside v w p o pend rest (e ∷ later) (f ∷ laters)
    → step i p.state ≡ Asks (Faulted k y) → e ≡ note pend (fault_row h i p.state k y) → later ≡ [] → Turn i g w o u other → f ≡ note rest other → ⊥
one_faults i h g v w p o u pend rest e f later laters k y other s a b n t d =
    let one : e.row ≡ fault_row h i p.state k y = ap (λ (x : Noted). x.row) b in
    let two : f.row ≡ other = ap (λ (x : Noted). x.row) d in
    let pc : p.state.pc ≡ o.state.pc = sym (ap (λ (x : Row). x.pc) one) ∙ s.alike.0.pc ∙ ap (λ (x : Row). x.pc) two ∙ row_pc i g w o u other t in
    let word : e.row.word ≡ code_at i p.state.pc = ap (λ (x : Row). x.word) one in
    no_fault i g w o u other k y t (fault_there i p.state o.state k y pc (λ m is. used_same i p o e (live []) m (last_live e later p o n s.agree) word pc s.count s.other_count is) a)

other_faults : (i : Program) (h g : ℕ) (v w : Interval) (p q o : Position) (pend rest : Pending) (e f : Noted) (later laters : List Noted) (k : Fault) (y : ℕ) (row : Row) → Alongside v w p o pend rest (e ∷ later) (f ∷ laters)
    → step i o.state ≡ Asks (Faulted k y) → f ≡ note rest (fault_row g i o.state k y) → later ≡ [] → Turn i h v p q row → e ≡ note pend row → ⊥
other_faults i h g v w p q o pend rest e f later laters k y row s a b n t d =
    let one : e.row ≡ row = ap (λ (x : Noted). x.row) d in
    let two : f.row ≡ fault_row g i o.state k y = ap (λ (x : Noted). x.row) b in
    let pc : p.state.pc ≡ o.state.pc = sym (row_pc i h v p q row t) ∙ sym (ap (λ (x : Row). x.pc) one) ∙ s.alike.0.pc ∙ ap (λ (x : Row). x.pc) two in
    let word : e.row.word ≡ code_at i p.state.pc = ap (λ (x : Row). x.word) one ∙ row_word i h v p q row t in
    no_fault i h v p q row k y t (fault_back i p.state o.state k y pc (λ m is. used_same i p o e (live []) m (last_live e later p o n s.agree) word pc s.count s.other_count is) a)

-- both continue
both_go : (i : Program) (h g : ℕ) (v w : Interval) (p q o u : Position) (pend rest : Pending) (row other : Row) (later laters : List Noted) → Alongside v w p o pend rest (note pend row ∷ later) (note rest other ∷ laters)
    → Turn i h v p q row → q.rows ≡ row ∷ p.rows → Turn i g w o u other → u.rows ≡ other ∷ o.rows
    → Match (note pend row) (note rest other) later × Alongside v w q u (passed pend row) (passed rest other) later laters
both_go i h g v w p q o u pend rest row other later laters s a b c d = (
  record {
    stores = λ m. stores_alike (note pend row) (note rest other) m s.alike.0;
    takes = λ m. takes_alike (note pend row) (note rest other) m s.alike.0;
    writes = λ n r. twin_writes twin r;
    rows = λ t. twin_chosen i h g v w p q o u pend rest row other twin (live later) (in_slice (note pend row) later) t s.agree s.words.0;
  },
  record {
    linked = linked_next v pend p.loads row (used_word row) q.loads s.linked refl (row_loads i h v p q row (code_of i h v p q row a) a);
    other_linked = linked_next w rest o.loads other (used_word other) u.loads s.other_linked refl (row_loads i g w o u other (code_of i g w o u other c) c);
    count = row_count i h v p q row (code_of i h v p q row a) a ∙ s.count;
    other_count = row_count i g w o u other (code_of i g w o u other c) c ∙ s.other_count;
    alike = s.alike.1;
    words = s.words.1;
    reason = s.reason;
    value = s.value;
    agree = twin_next i h g v w p q o u pend rest row other twin (live later) (in_slice (note pend row) later) (λ y. or_right (is_last later) (gives (live later) row) y) s.agree s.words.0;
  },
)
  where
    twin : Twin i h g v w p q o u pend rest row other
    twin = record {
      one = record { turn = a; rows = b; linked = s.linked; count = s.count };
      two = record { turn = c; rows = d; linked = s.other_linked; count = s.other_count };
      alike = s.alike.0;
      reason = s.reason;
      value = s.value;
    }

pub matched : (i : Program) (h g : ℕ) (v w : Interval) (n m : ℕ) (p o : Position) (pend rest : Pending) (es fs more others : List Noted) → es ++ more ≡ noted_from pend (rows_on i h v n p) → fs ++ others ≡ noted_from rest (rows_on i g w m o)
    → Alongside v w p o pend rest es fs → Matched es fs
matched i h g v w n m p o pend rest [] [] more others a b s = tt
matched i h g v w n m p o pend rest [] (f ∷ fs) more others a b s = absurd s.alike
matched i h g v w n m p o pend rest (e ∷ later) [] more others a b s = absurd s.alike
matched i h g v w n m p o pend rest (e ∷ later) (f ∷ laters) more others a b s =
    by (head i h v n p pend e later more a) (head i g w m o rest f laters others b) (λ k j q u pend2 rest2 a2 b2 s2. matched i h g v w k j q u pend2 rest2 later laters more others a2 b2 s2)
  where
    none : later ≡ [] → laters ≡ [] → Matched later laters
    none x y = subst (λ (zs : List Noted). Matched later zs) (sym y) (subst (λ (zs : List Noted). Matched zs []) (sym x) tt)

    by : Head i h v p pend e later more → Head i g w o rest f laters others → ((k j : ℕ) (q u : Position) (pend2 rest2 : Pending) → later ++ more ≡ noted_from pend2 (rows_on i h v k q) → laters ++ others ≡ noted_from rest2 (rows_on i g w j u)
        → Alongside v w q u pend2 rest2 later laters → Matched later laters) → Match e f later × Matched later laters
    by (goes q row k t r x l) (goes u other j t2 r2 x2 l2) go =
        let here : Alongside v w p o pend rest (note pend row ∷ later) (note rest other ∷ laters) =
        subst (λ (z : Noted). Alongside v w p o pend rest (note pend row ∷ later) (z ∷ laters)) x2 (subst (λ (z : Noted). Alongside v w p o pend rest (z ∷ later) (f ∷ laters)) x s) in
        let both = both_go i h g v w p q o u pend rest row other later laters here t r t2 r2 in
        (subst (λ (z : Noted). Match e z later) (sym x2) (subst (λ (z : Noted). Match z (note rest other) later) (sym x) both.0), go k j q u (passed pend row) (passed rest other) l l2 both.1)
    by (goes q row k t r x l) (faults c y z x2 n) go = absurd (other_faults i h g v w p q o pend rest e f later laters c y row s z x2 (none_before later laters s.alike.1 n) t x)
    by (faults c y z x n) (goes u other j t2 r2 x2 l2) go = absurd (one_faults i h g v w p o u pend rest e f later laters c y other s z x n t2 x2)
    by (faults c y z x n) (faults c2 y2 z2 x2 n2) go = (match_faults i h g v w p o pend rest e f later laters c c2 y y2 s z x n z2 x2, none n n2)
