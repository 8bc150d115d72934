-- The lists of a slice ascend.
use Rattle.slice_back.proofs.Common.{◌≡◌, ℕ, zero, suc, ◌+◌, ◌-◌, ◌<◌, ◌≤◌, ◌^◌, ◌==◌, ◌&&◌, ◌||◌, ◌++◌, nat_lt, Bool, true, false, not, List, [], ◌∷◌, map, take, Option, Some, None, Result, Ok, Err, refl, sym, ◌∙◌, ap, subst, arith, slice_index, common_steps, Program, fault_number, Row, HartState, stored_word, amo_result, Step, Quiet, Asks, step, count_up, count_up_if, is_exit, absorbed, Ask, Want, Load, Store, LoadReserved, StoreConditional, Amo, System, Cut, Faulted, Word, Stored, Answer, Over, row_of, call_row, fault_row, Outcome, Done, Refused, Interval, Position, Next, On, Stop, word_for, missing, after_ask, after_sc, slot, call_reason, found, ask_step, one_step, steps, interval_of, replayed_in, first, Pending, EndDiffers, ScMissing, SliceError, Replay, Slice, Noted, is_branch, passed, noted, noted_from, up_to, in_slice, live, row_if, slice_rows, slice_branches, taken, word_if, slice_words, register_if, registers_from, slice_of, slice_in, slice_or}
use Rattle.slice_back.specs.Ascending.{AreRising, Ascends, SlicesAscend}
use Rattle.slice_back.proofs.RowsOn.{fault_rows, end_rows, rows_on, steps_rows, up_to_front}

abbrev pub QuietCounts : Type 0
QuietCounts = (i : Program) (s t : HartState) → step i s ≡ Quiet t → t.ic ≡ count_up s.ic

-- ---- an instruction is counted

-- a step to the next position gives a row of the count, and counts one more
abbrev Counts : Position → Next → Type 0
Counts p (On q) = (row : Row) × (q.rows ≡ row ∷ p.rows) × (row.ic ≡ p.state.ic) × (q.state.ic ≡ count_up p.state.ic)
Counts p (Stop o) = Unit {0}

by_word : (h : ℕ) (p : Position) (a : ℕ) (next : ℕ → Next) (o : Option ℕ) → ((x : ℕ) → Counts p (next x)) → Counts p (elim o as (λ u. Next) [ None ↦ missing h p a | Some x ↦ next x ])
by_word h p a next None f = tt
by_word h p a next (Some x) f = f x

by_slot : (h : ℕ) (p : Position) (next : Bool → Next) (o : Option Bool) → ((b : Bool) → Counts p (next b)) → Counts p (elim o as (λ u. Next) [ None ↦ Stop (Refused (ScMissing h p.state.ic)) | Some b ↦ next b ])
by_slot h p next None f = tt
by_slot h p next (Some b) f = f b

sc_counts : (i : Program) (h : ℕ) (p : Position) (a rd y : ℕ) (b : Bool) → Counts p (after_sc i h p (record { state = p.state; want = StoreConditional a rd y }) b a y)
sc_counts i h p a rd y true = (_, refl, refl, refl)
sc_counts i h p a rd y false = (_, refl, refl, refl)

store_counts : (i : Program) (h : ℕ) (v : Interval) (p : Position) (a w y : ℕ) → Counts p (ask_step i h v p (Store a w y))
store_counts i h v p a w y = by (w == 4)
  where
    ask : Ask
    ask = record { state = p.state; want = Store a w y }

    by : (c : Bool) → Counts p (elim c as (λ u. Next) [
      | true ↦ after_ask i h p ask Stored 0 None (Some (a, y))
      | false ↦ elim (word_for v p a) as (λ u. Next) [ None ↦ missing h p a | Some x ↦ after_ask i h p ask Stored 1 None (Some (a, stored_word a w y x)) ]
    ])
    by true = (_, refl, refl, refl)
    by false = by_word h p a (λ x. after_ask i h p ask Stored 1 None (Some (a, stored_word a w y x))) (word_for v p a) (λ x. (_, refl, refl, refl))

-- an exit is counted
exits : (n : ℕ) → (call_reason n == 2) ≡ false → is_exit n ≡ true
exits n e = by (n == 93) (n == 94) e
  where
    by : (x y : Bool) → (elim x as (λ u. ℕ) [ true ↦ 3 | false ↦ elim y as (λ u. ℕ) [ true ↦ 4 | false ↦ 2 ] ] == 2) ≡ false → (x || y) ≡ true
    by true y f = refl
    by false true f = refl
    by false false f = absurd cc

call_counts : (i : Program) (h : ℕ) (v : Interval) (p : Position) (n : ℕ) (args : List ℕ) → Counts p (ask_step i h v p (System n args))
call_counts i h v p n args = by (p.state.ic + 1 == v.mark.ic && (reason == v.mark.reason) && ((reason == 2) || (value == v.mark.value))) (reason == 2) refl
  where
    ask : Ask
    ask = record { state = p.state; want = System n args }

    reason : ℕ
    reason = call_reason n

    value : ℕ
    value = elim (call_reason n == 2) as (λ u. ℕ) [ true ↦ 0 | false ↦ slice_index args 0 ]

    going : Position
    going = record { state = absorbed ask (Answer v.mark.value); loads = p.loads; conditionals = p.conditionals; rows = call_row h i p.state (Some (10, v.mark.value)) ∷ p.rows; called = true }

    leaving : Position
    leaving = record { state = absorbed ask Over; loads = p.loads; conditionals = p.conditionals; rows = call_row h i p.state None ∷ p.rows; called = true }

    by : (c r : Bool) → (reason == 2) ≡ r
        → Counts p (elim c as (λ u. Next) [ true ↦ elim r as (λ u. Next) [ true ↦ On going | false ↦ On leaving ] | false ↦ Stop (Refused (EndDiffers h v.mark (found (p.state.ic + 1) reason value))) ])
    by false r e = tt
    by true true e = (_, refl, refl, refl)
    by true false e = (_, refl, refl, ap (λ b. count_up_if b p.state.ic) (exits n e))

ask_counts : (i : Program) (h : ℕ) (v : Interval) (p : Position) (k : Want) → Counts p (ask_step i h v p k)
ask_counts i h v p (Load a w g rd) = by_word h p a (λ x. after_ask i h p (record { state = p.state; want = Load a w g rd }) (Word x) 1 (Some (a, x)) None) (word_for v p a) (λ x. (_, refl, refl, refl))
ask_counts i h v p (LoadReserved a rd) = by_word h p a (λ x. after_ask i h p (record { state = p.state; want = LoadReserved a rd }) (Word x) 1 (Some (a, x)) None) (word_for v p a) (λ x. (_, refl, refl, refl))
ask_counts i h v p (Amo a o rd y) = by_word h p a (λ x. after_ask i h p (record { state = p.state; want = Amo a o rd y }) (Word x) 1 (Some (a, x)) (Some (a, amo_result o x y))) (word_for v p a) (λ x. (_, refl, refl, refl))
ask_counts i h v p (Store a w y) = store_counts i h v p a w y
ask_counts i h v p (StoreConditional a rd y) = by_slot h p (λ b. after_sc i h p (record { state = p.state; want = StoreConditional a rd y }) b a y) (slot v.conditionals p.conditionals) (λ b. sc_counts i h p a rd y b)
ask_counts i h v p (System n args) = call_counts i h v p n args
ask_counts i h v p Cut = tt
ask_counts i h v p (Faulted f y) = tt

next_counts : QuietCounts → (i : Program) (h : ℕ) (v : Interval) (p : Position) → Counts p (one_step i h v p)
next_counts quiet i h v p = by (step i p.state) refl
  where
    by : (x : Step) → step i p.state ≡ x → Counts p (elim x as (λ u. Next) [
      | Quiet t ↦ On (record { state = t; loads = p.loads; conditionals = p.conditionals; rows = row_of h i p.state t None None ∷ p.rows; called = false })
      | Asks k ↦ ask_step i h v p k
    ])
    by (Quiet t) e = (_, refl, refl, quiet i p.state t e)
    by (Asks k) e = ask_counts i h v p k

-- ---- the rows of a replay

end_rises : (i : Program) (h : ℕ) (v : Interval) (p : Position) → AreRising p.state.ic (map (λ (r : Row). r.ic) (end_rows i h v p))
end_rises i h v p = by (nat_lt 16 v.mark.reason) (step i p.state)
  where
    fault : (k : Want) → AreRising p.state.ic (map (λ (r : Row). r.ic) (fault_rows i h v p k))
    fault (Load a w g rd) = tt
    fault (LoadReserved a rd) = tt
    fault (Amo a o rd y) = tt
    fault (Store a w y) = tt
    fault (StoreConditional a rd y) = tt
    fault (System n args) = tt
    fault Cut = tt
    fault (Faulted f y) = at (16 + fault_number f == v.mark.reason && (y == v.mark.value))
      where
        at : (b : Bool) → AreRising p.state.ic (map (λ (r : Row). r.ic) (elim b as (λ u. List Row) [ true ↦ fault_row h i p.state f y ∷ [] | false ↦ [] ]))
        at true = (omega arith, tt)
        at false = tt

    by : (b : Bool) (x : Step) → AreRising p.state.ic (map (λ (r : Row). r.ic) (elim b as (λ u. List Row) [ true ↦ elim x as (λ u. List Row) [ Quiet t ↦ [] | Asks k ↦ fault_rows i h v p k ] | false ↦ [] ]))
    by true (Quiet t) = tt
    by true (Asks k) = fault k
    by false x = tt

up_one : (n m : ℕ) → n < m → m < 2 ^ 64 → count_up n ≡ n + 1
up_one n m low high = grind (arith, common_steps)

module _ (quiet : QuietCounts) (i : Program) (h : ℕ) (v : Interval) (fits : v.mark.ic < 2 ^ 64) where
  rows_rise : (n : ℕ) (p : Position) → n ≤ v.mark.ic - p.state.ic → AreRising p.state.ic (map (λ (r : Row). r.ic) (rows_on i h v n p))
  rows_rise zero p low = end_rises i h v p
  rows_rise (suc n) p low = by (one_step i h v p) (next_counts quiet i h v p) (λ q e. rows_rise n q e)
    where
      up : count_up p.state.ic ≡ p.state.ic + 1
      up = up_one p.state.ic v.mark.ic (omega (arith, low)) fits

      given : (row : Row) (rs : List ℕ) → row.ic ≡ p.state.ic → AreRising (p.state.ic + 1) rs → AreRising p.state.ic (row.ic ∷ rs)
      given row rs e rest = (omega (arith, e), subst (λ (k : ℕ). AreRising (k + 1) rs) (sym e) rest)

      by : (x : Next) → Counts p x → ((q : Position) → n ≤ v.mark.ic - q.state.ic → AreRising q.state.ic (map (λ (r : Row). r.ic) (rows_on i h v n q)))
          → AreRising p.state.ic (map (λ (r : Row). r.ic) (elim x as (λ u. List Row) [ On q ↦ take 1 q.rows ++ rows_on i h v n q | Stop o ↦ [] ]))
      by (On q) c rest =
          let next : q.state.ic ≡ p.state.ic + 1 = c.3 ∙ up in
          subst (λ (rs : List Row). AreRising p.state.ic (map (λ (r : Row). r.ic) (take 1 rs ++ rows_on i h v n q))) (sym c.1)
          (given c.0 (map (λ (r : Row). r.ic) (rows_on i h v n q)) c.2 (subst (λ (k : ℕ). AreRising k (map (λ (r : Row). r.ic) (rows_on i h v n q))) next (rest q (omega (arith, next, low)))))
      by (Stop o) c rest = tt

-- ---- parts of what rises

weaker : (low high : ℕ) (ks : List ℕ) → low ≤ high → AreRising high ks → AreRising low ks
weaker low high [] up a = tt
weaker low high (k ∷ ks) up a = let first_up = a.0 in (omega (arith, up, first_up), a.1)

noted_rise : (low : ℕ) (p : Pending) (rows : List Row) → AreRising low (map (λ (r : Row). r.ic) rows) → AreRising low (map (λ (e : Noted). e.row.ic) (noted_from p rows))
noted_rise low p [] a = tt
noted_rise low p (r ∷ rs) a = (a.0, noted_rise (r.ic + 1) (passed p r) rs a.1)

front_rises : (low : ℕ) (es more : List Noted) → AreRising low (map (λ (e : Noted). e.row.ic) (es ++ more)) → AreRising low (map (λ (e : Noted). e.row.ic) es)
front_rises low [] more a = tt
front_rises low (e ∷ es) more a = (a.0, front_rises (e.row.ic + 1) es more a.1)

row_rises : (low : ℕ) (b : Bool) (r : Row) (rs : List Row) → low ≤ r.ic → AreRising (r.ic + 1) (map (λ (x : Row). x.ic) rs) → AreRising low (map (λ (x : Row). x.ic) (row_if b r rs))
row_rises low true r rs e a = (e, a)
row_rises low false r rs e a = weaker low (r.ic + 1) (map (λ (x : Row). x.ic) rs) (omega (arith, e)) a

word_rises : (low ic : ℕ) (o : Option (ℕ × ℕ)) (ws : List (ℕ × ℕ × ℕ)) → low ≤ ic → AreRising (ic + 1) (map (λ (w : ℕ × ℕ × ℕ). w.0) ws) → AreRising low (map (λ (w : ℕ × ℕ × ℕ). w.0) (word_if ic o ws))
word_rises low ic None ws e a = weaker low (ic + 1) (map (λ (w : ℕ × ℕ × ℕ). w.0) ws) (omega (arith, e)) a
word_rises low ic (Some w) ws e a = (e, a)

slice_rows_rise : (low : ℕ) (es : List Noted) → AreRising low (map (λ (e : Noted). e.row.ic) es) → AreRising low (map (λ (r : Row). r.ic) (slice_rows es))
slice_rows_rise low [] a = tt
slice_rows_rise low (e ∷ es) a = row_rises low (in_slice e es) e.row (slice_rows es) a.0 (slice_rows_rise (e.row.ic + 1) es a.1)

branches_rise : (low : ℕ) (es : List Noted) → AreRising low (map (λ (e : Noted). e.row.ic) es) → AreRising low (map (λ (r : Row). r.ic) (slice_branches es))
branches_rise low [] a = tt
branches_rise low (e ∷ es) a = row_rises low (not (in_slice e es) && is_branch e.row) e.row (slice_branches es) a.0 (branches_rise (e.row.ic + 1) es a.1)

words_rise : (low : ℕ) (es : List Noted) → AreRising low (map (λ (e : Noted). e.row.ic) es) → AreRising low (map (λ (w : ℕ × ℕ × ℕ). w.0) (slice_words es))
words_rise low [] a = tt
words_rise low (e ∷ es) a = word_rises low e.row.ic (taken (in_slice e es) (live es) e) (slice_words es) a.0 (words_rise (e.row.ic + 1) es a.1)

registers_rise : (x : List ℕ) (used : ℕ → Bool) (q n : ℕ) → AreRising q (map (λ (r : ℕ × ℕ). r.0) (registers_from x used q n))
unfolding registers_from
registers_rise x used q zero = tt
registers_rise x used q (suc n) = by (used q) (registers_rise x used (q + 1) n)
  where
    by : (b : Bool) → AreRising (q + 1) (map (λ (r : ℕ × ℕ). r.0) (registers_from x used (q + 1) n)) → AreRising q (map (λ (r : ℕ × ℕ). r.0) (register_if b (q, slice_index x q) (registers_from x used (q + 1) n)))
    by true a = (omega arith, a)
    by false a = weaker q (q + 1) (map (λ (r : ℕ × ℕ). r.0) (registers_from x used (q + 1) n)) (omega arith) a

-- ---- a slice

slice_rises : (x : List ℕ) (es : List Noted) → AreRising 0 (map (λ (e : Noted). e.row.ic) es) → Ascends (slice_of x es)
slice_rises x es a = record {
  rows = slice_rows_rise 0 es a;
  regs = registers_rise x (live es).registers 0 32;
  words = words_rise 0 es a;
  branches = branches_rise 0 es a;
}

same_ok : (s t : Slice) → ◌≡◌ {A = Result Slice SliceError} (Ok s) (Ok t) → s ≡ t
same_ok s t e = cc

or_rises : (ic : ℕ) (x : List ℕ) (xs : List Noted) (s : Slice) → AreRising 0 (map (λ (e : Noted). e.row.ic) xs) → slice_or ic x (up_to ic xs) ≡ Ok s → Ascends s
or_rises ic x xs s a e = by (up_to ic xs) refl e
  where
    by : (o : Option (List Noted)) → up_to ic xs ≡ o → slice_or ic x o ≡ Ok s → Ascends s
    by None f g = absurd cc
    by (Some es) f g =
        let found = up_to_front ic xs es f in
        subst Ascends (same_ok (slice_of x es) s g) (slice_rises x es (front_rises 0 es found.0 (subst (λ (ys : List Noted). AreRising 0 (map (λ (e : Noted). e.row.ic) ys)) (sym found.1) a)))

interval_rises : QuietCounts → (i : Program) (h c ic : ℕ) (v : Interval) (s : Slice) → v.mark.ic < 2 ^ 64 → slice_in ic (Some v) (replayed_in i h c (Some v)) ≡ Ok s → Ascends s
interval_rises quiet i h c ic v s fits e = by (steps i h v (v.mark.ic - v.start.ic) (first v)).outcome e
  where
    rows : List Row
    rows = (steps i h v (v.mark.ic - v.start.ic) (first v)).rows

    rise : AreRising 0 (map (λ (r : Row). r.ic) rows)
    rise =
        subst (λ (rs : List Row). AreRising 0 (map (λ (r : Row). r.ic) rs)) (sym (steps_rows i h v (v.mark.ic - v.start.ic) (first v)))
        (weaker 0 v.start.ic (map (λ (r : Row). r.ic) (rows_on i h v (v.mark.ic - v.start.ic) (first v))) (omega arith) (rows_rise quiet i h v fits (v.mark.ic - v.start.ic) (first v) (omega arith)))

    by : (o : Outcome) → elim o as (λ u. Result Slice SliceError) [ Done ↦ slice_or ic v.start.x (up_to ic (noted v.loads rows)) | Refused f ↦ Err (Replay f) ] ≡ Ok s → Ascends s
    by Done g = or_rises ic v.start.x (noted v.loads rows) s (noted_rise 0 (record { loads = v.loads; skipped = 0 }) rows rise) g
    by (Refused f) g = absurd cc

pub slices_ascend : QuietCounts → SlicesAscend
slices_ascend quiet i records h c ic s fits e = by (interval_of h c records) refl e
  where
    by : (o : Option Interval) → interval_of h c records ≡ o → slice_in ic o (replayed_in i h c o) ≡ Ok s → Ascends s
    by None f g = absurd cc
    by (Some v) f g = interval_rises quiet i h c ic v s (fits v f) g
