-- Slices of rows that are matched have the same rows, hart and counts aside.
use Rattle.slice_back.proofs.Common.{◌≡◌, ℕ, suc, ◌-◌, ◌&&◌, ◌||◌, ◌++◌, Bool, true, false, not, List, [], ◌∷◌, length, map, Option, Some, None, refl, sym, ◌∙◌, ap, slice_index, Program, Row, Record, Interval, first, replayed_in, replayed, Noted, is_of, is_word, word_of, uses_register, writes_register, uses_word, stores_word, takes_word, Live, noted, noted_from, live, writes_live, stores_live, gives, is_last, in_slice, row_if, slice_rows, bare, RowsUpTo, SliceSuffices, AreMetByPlace, eq-eqb, eqb-true}
use Rattle.log_record.specs.Spelling.{AreRegisters}
use Rattle.slice_back.proofs.Places.{linked_first}
use Rattle.slice_back.proofs.RowsOn.{rows_on, steps_rows, up_to_front}
use Rattle.slice_back.proofs.Matching.{Match, Matched, matched}

-- the same is live
record SameLive (l m : Live) : Type 0 where
  registers : (q : ℕ) → l.registers q ≡ m.registers q
  words : (a : ℕ) → l.words a ≡ m.words a

writes_live_same : (l m : Live) (o k : Option (ℕ × ℕ)) → SameLive l m → ((q : ℕ) → is_of q o ≡ is_of q k) → writes_live l o ≡ writes_live m k
writes_live_same l m None None s h = refl
writes_live_same l m None (Some y) s h = absurd (let t : false ≡ true = h y.0 ∙ eq-eqb y.0 y.0 refl in cc)
writes_live_same l m (Some x) None s h = absurd (let t : true ≡ false = sym (eq-eqb x.0 x.0 refl) ∙ h x.0 in cc)
writes_live_same l m (Some x) (Some y) s h = s.registers x.0 ∙ ap m.registers (sym (eqb-true y.0 x.0 (sym (h x.0) ∙ eq-eqb x.0 x.0 refl)))

stores_live_same : (l m : Live) (o k : Option ℕ) → SameLive l m → ((a : ℕ) → is_word a o ≡ is_word a k) → stores_live l o ≡ stores_live m k
stores_live_same l m None None s h = refl
stores_live_same l m None (Some y) s h = absurd (let t : false ≡ true = h y ∙ eq-eqb y y refl in cc)
stores_live_same l m (Some x) None s h = absurd (let t : true ≡ false = sym (eq-eqb x x refl) ∙ h x in cc)
stores_live_same l m (Some x) (Some y) s h = s.words x ∙ ap m.words (eqb-true x y (sym (h x) ∙ eq-eqb x x refl))

last_same : (es fs : List Noted) → Matched es fs → is_last es ≡ is_last fs
last_same [] [] h = refl
last_same [] (f ∷ fs) h = absurd h
last_same (e ∷ es) [] h = absurd h
last_same (e ∷ es) (f ∷ fs) h = refl

in_slice_same : (e f : Noted) (later laters : List Noted) → Match e f later → Matched later laters → SameLive (live later) (live laters) → in_slice e later ≡ in_slice f laters
in_slice_same e f later laters h hs s = by (is_last later) refl ∙ ap (λ b. b || gives (live laters) f.row) (last_same later laters hs)
  where
    given : is_last later ≡ false → gives (live later) e.row ≡ gives (live laters) f.row
    given n =
        ap (λ b. b || stores_live (live later) (word_of e.row.store)) (writes_live_same (live later) (live laters) e.row.reg f.row.reg s (h.writes n))
        ∙ ap (λ b. writes_live (live laters) f.row.reg || b) (stores_live_same (live later) (live laters) (word_of e.row.store) (word_of f.row.store) s h.stores)

    by : (b : Bool) → is_last later ≡ b → (is_last later || gives (live later) e.row) ≡ (is_last later || gives (live laters) f.row)
    by true n = ap (λ b. b || gives (live later) e.row) n ∙ sym (ap (λ b. b || gives (live laters) f.row) n)
    by false n = ap (λ b. is_last later || b) (given n)

live_same : (e f : Noted) (later laters : List Noted) → Match e f later → Matched later laters → SameLive (live later) (live laters) → SameLive (live (e ∷ later)) (live (f ∷ laters))
live_same e f later laters h hs s = by (in_slice e later) refl
  where
    chosen : in_slice e later ≡ in_slice f laters
    chosen = in_slice_same e f later laters h hs s

    by : (b : Bool) → in_slice e later ≡ b → SameLive (live (e ∷ later)) (live (f ∷ laters))
    by true is =
        let rows : bare e.row ≡ bare f.row = h.rows is in
        record {
          registers = λ q. (
              ap (λ b. (b && uses_register q e.row) || (not (writes_register q e.row) && (live later).registers q)) chosen
              ∙ ap (λ (r : Row). (in_slice f laters && uses_register q r) || (not (writes_register q r) && (live later).registers q)) rows
              ∙ ap (λ b. (in_slice f laters && uses_register q f.row) || (not (writes_register q f.row) && b)) (s.registers q));
          words = λ a. (
              ap (λ b. not (takes_word a e) && ((b && uses_word a e.row) || (not (stores_word a e.row) && (live later).words a))) chosen
              ∙ ap (λ b. not b && ((in_slice f laters && uses_word a e.row) || (not (stores_word a e.row) && (live later).words a))) (h.takes a)
              ∙ ap (λ (r : Row). not (takes_word a f) && ((in_slice f laters && uses_word a r) || (not (stores_word a r) && (live later).words a))) rows
              ∙ ap (λ b. not (takes_word a f) && ((in_slice f laters && uses_word a f.row) || (not (stores_word a f.row) && b))) (s.words a));
        }
    by false is =
        let other : in_slice f laters ≡ false = sym chosen ∙ is in
        record {
          registers = λ q. (
              ap (λ b. (b && uses_register q e.row) || (not (writes_register q e.row) && (live later).registers q)) is
              ∙ ap (λ b. not b && (live later).registers q) (h.writes (not_last is) q)
              ∙ ap (λ b. not (writes_register q f.row) && b) (s.registers q)
              ∙ sym (ap (λ b. (b && uses_register q f.row) || (not (writes_register q f.row) && (live laters).registers q)) other));
          words = λ a. (
              ap (λ b. not (takes_word a e) && ((b && uses_word a e.row) || (not (stores_word a e.row) && (live later).words a))) is
              ∙ ap (λ b. not b && (not (stores_word a e.row) && (live later).words a)) (h.takes a)
              ∙ ap (λ b. not (takes_word a f) && (not b && (live later).words a)) (h.stores a)
              ∙ ap (λ b. not (takes_word a f) && (not (stores_word a f.row) && b)) (s.words a)
              ∙ sym (ap (λ b. not (takes_word a f) && ((b && uses_word a f.row) || (not (stores_word a f.row) && (live laters).words a))) other));
        }
      where
        not_last : in_slice e later ≡ false → is_last later ≡ false
        not_last n = at (is_last later) n
          where
            at : (b : Bool) → (b || gives (live later) e.row) ≡ false → b ≡ false
            at true m = m
            at false m = refl

same_live : (es fs : List Noted) → Matched es fs → SameLive (live es) (live fs)
same_live [] [] h = record { registers = λ q. refl; words = λ a. refl }
same_live [] (f ∷ fs) h = absurd h
same_live (e ∷ es) [] h = absurd h
same_live (e ∷ es) (f ∷ fs) h = live_same e f es fs h.0 h.1 (same_live es fs h.1)

bare_if : (b : Bool) (r s : Row) (rs ss : List Row) → (b ≡ true → bare r ≡ bare s) → map bare rs ≡ map bare ss → map bare (row_if b r rs) ≡ map bare (row_if b s ss)
bare_if true r s rs ss h k = ap (λ x. x ∷ map bare rs) (h refl) ∙ ap (λ xs. bare s ∷ xs) k
bare_if false r s rs ss h k = k

pub rows_same : (es fs : List Noted) → Matched es fs → map bare (slice_rows es) ≡ map bare (slice_rows fs)
rows_same [] [] h = refl
rows_same [] (f ∷ fs) h = absurd h
rows_same (e ∷ es) [] h = absurd h
rows_same (e ∷ es) (f ∷ fs) h =
    bare_if (in_slice e es) e.row f.row (slice_rows es) (slice_rows fs) h.0.rows (rows_same es fs h.1)
    ∙ ap (λ b. map bare (row_if b f.row (slice_rows fs))) (in_slice_same e f es fs h.0 h.1 (same_live es fs h.1))

-- ---- of two intervals

-- the noted rows are those of the definition, from the interval's start on
rows_from : (i : Program) (records : List Record) (h c ic : ℕ) (v : Interval) (es : List Noted) → RowsUpTo i records h c ic v es
    → (more : List Noted) × (es ++ more ≡ noted_from (record { loads = v.loads; skipped = 0 }) (rows_on i h v (v.mark.ic - v.start.ic) (first v)))
rows_from i records h c ic v es r =
    let rows : (replayed i records h c).rows ≡ rows_on i h v (v.mark.ic - v.start.ic) (first v) =
    ap (λ (o : Option Interval). (replayed_in i h c o).rows) r.found ∙ steps_rows i h v (v.mark.ic - v.start.ic) (first v) in
    let front = up_to_front ic (noted v.loads (replayed i records h c).rows) es r.rows in
    (front.0, front.1 ∙ ap (λ rs. noted v.loads rs) rows)

register_count : (x : List ℕ) → AreRegisters x → length x ≡ 32
register_count x r = ap length r.zero_first ∙ ap (λ n. suc n) r.count

register_zero : (x : List ℕ) → AreRegisters x → slice_index x 0 ≡ 0
register_zero x r = ap (λ xs. slice_index xs 0) r.zero_first

pub suffices : AreMetByPlace → SliceSuffices
suffices law i records others h c ic g d jc v w es fs r s a =
    let one = rows_from i records h c ic v es r in
    let two = rows_from i others g d jc w fs s in
    rows_same es fs (matched i h g v w (v.mark.ic - v.start.ic) (w.mark.ic - w.start.ic) (first v) (first w) (record { loads = v.loads; skipped = 0 }) (record { loads = w.loads; skipped = 0 }) es fs one.0 two.0 one.1 two.1
    (record {
      linked = linked_first law v;
      other_linked = linked_first law w;
      count = register_count v.start.x r.registers;
      other_count = register_count w.start.x s.registers;
      alike = a.rows;
      words = a.words;
      reason = a.reason;
      value = a.value;
      agree = record {
        registers = a.regs;
        zero_same = register_zero v.start.x r.registers ∙ sym (register_zero w.start.x s.registers);
        words = λ n t. refl;
      };
    }))
