-- What is live before a row, by what is live after it, and so of all rows.
use Rattle.slice_back.proofs.Common.{◌≡◌, ℕ, zero, suc, ◌+◌, ◌≤◌, true, false, not, ◌&&◌, ◌||◌, ◌⊎◌, List, [], ◌∷◌, length, drop, slice_get, Some, sym, ◌∙◌, ap, subst, inl, inr, arith, Noted, uses_register, writes_register, uses_word, stores_word, takes_word, at, InSlice, live, live_before, in_slice, and_from, and_parts, not-true, or_cases, or_left, or_right, not_from_false}
use Rattle.std.proofs.Math.Nat.{eq-or-lt_of_le}
use Rattle.slice_back.proofs.Least.{LiveRegister, LiveWord, Known, Row_at, test_here, here_test, chosen_is, is_chosen, inside}

-- a place from m on is m or a later one
pub first_or : (m k : ℕ) → m ≤ k → (m ≡ k) ⊎ (m + 1 ≤ k)
first_or m k h = elim (eq-or-lt_of_le h) [ inl e ↦ inl e | inr l ↦ inr (omega (arith, l)) ]

registers_is : (es : List Noted) (n m : ℕ) (e : Noted) (later : List Noted) → Row_at es n m e later → (q : ℕ) → (live_before (in_slice e later) e (live later)).registers q ≡ true → LiveRegister es n m q
registers_is es n m e later r q t = elim (or_cases (in_slice e later && uses_register q e.row) (not (writes_register q e.row) && (live later).registers q) t) [
  | inl u ↦ record {
    place = m;
    after = omega arith;
    chosen = chosen_is es n m e later r (and_parts (in_slice e later) (uses_register q e.row) u).0;
    used = test_here es m e (λ f. uses_register q f.row) true r.here (and_parts (in_slice e later) (uses_register q e.row) u).1;
    unwritten = λ k low high. absurd (omega (arith, low, high));
  }
  | inr u ↦ (let l = r.known.registers_is q (and_parts (not (writes_register q e.row)) ((live later).registers q) u).1 in record {
    place = l.place;
    after = omega (arith, l.after);
    chosen = l.chosen;
    used = l.used;
    unwritten = λ k low high. elim (first_or m k low) [
      | inl same ↦ subst (λ (x : ℕ). at es x (λ f. writes_register q f.row) ≡ false) same (test_here es m e (λ f. writes_register q f.row) false r.here (not-true (writes_register q e.row) (and_parts (not (writes_register q e.row)) ((live later).registers q) u).0))
      | inr more ↦ l.unwritten k more high
    ];
  })
]

is_registers : (es : List Noted) (n m : ℕ) (e : Noted) (later : List Noted) → Row_at es n m e later → (q : ℕ) → LiveRegister es n m q → (live_before (in_slice e later) e (live later)).registers q ≡ true
is_registers es n m e later r q l = elim (first_or m l.place l.after) [
  | inl same ↦ or_left (in_slice e later && uses_register q e.row) (not (writes_register q e.row) && (live later).registers q)
      (and_from (in_slice e later) (uses_register q e.row) (is_chosen es n m e later r (subst (λ (x : ℕ). InSlice es n x) (sym same) l.chosen))
      (here_test es m e (λ f. uses_register q f.row) true r.here (subst (λ (x : ℕ). at es x (λ f. uses_register q f.row) ≡ true) (sym same) l.used)))
  | inr more ↦ or_right (in_slice e later && uses_register q e.row) (not (writes_register q e.row) && (live later).registers q)
      (and_from (not (writes_register q e.row)) ((live later).registers q)
      (not_from_false (writes_register q e.row) (here_test es m e (λ f. writes_register q f.row) false r.here (l.unwritten m (omega arith) (omega (arith, more)))))
      (r.known.is_registers q (record { place = l.place; after = more; chosen = l.chosen; used = l.used; unwritten = λ k low high. l.unwritten k (omega (arith, low)) high })))
]

words_is : (es : List Noted) (n m : ℕ) (e : Noted) (later : List Noted) → Row_at es n m e later → (a : ℕ) → (live_before (in_slice e later) e (live later)).words a ≡ true → LiveWord es n m a
words_is es n m e later r a t =
    let kept = not (takes_word a e) in
    let here = in_slice e later && uses_word a e.row in
    let there = not (stores_word a e.row) && (live later).words a in
    let untaken : at es m (takes_word a) ≡ false = test_here es m e (takes_word a) false r.here (not-true (takes_word a e) (and_parts kept (here || there) t).0) in
    elim (or_cases here there (and_parts kept (here || there) t).1) [
      | inl u ↦ record {
        place = m;
        after = omega arith;
        chosen = chosen_is es n m e later r (and_parts (in_slice e later) (uses_word a e.row) u).0;
        used = test_here es m e (λ f. uses_word a f.row) true r.here (and_parts (in_slice e later) (uses_word a e.row) u).1;
        unstored = λ k low high. absurd (omega (arith, low, high));
        untaken = λ k low high. let same : m ≡ k = omega (arith, low, high) in subst (λ (x : ℕ). at es x (takes_word a) ≡ false) same untaken;
      }
      | inr u ↦ (let l = r.known.words_is a (and_parts (not (stores_word a e.row)) ((live later).words a) u).1 in record {
        place = l.place;
        after = omega (arith, l.after);
        chosen = l.chosen;
        used = l.used;
        unstored = λ k low high. elim (first_or m k low) [
          | inl same ↦ subst (λ (x : ℕ). at es x (λ f. stores_word a f.row) ≡ false) same (test_here es m e (λ f. stores_word a f.row) false r.here (not-true (stores_word a e.row) (and_parts (not (stores_word a e.row)) ((live later).words a) u).0))
          | inr more ↦ l.unstored k more high
        ];
        untaken = λ k low high. elim (first_or m k low) [
          | inl same ↦ subst (λ (x : ℕ). at es x (takes_word a) ≡ false) same untaken
          | inr more ↦ l.untaken k more high
        ];
      })
    ]

is_words : (es : List Noted) (n m : ℕ) (e : Noted) (later : List Noted) → Row_at es n m e later → (a : ℕ) → LiveWord es n m a → (live_before (in_slice e later) e (live later)).words a ≡ true
is_words es n m e later r a l =
    let kept = not (takes_word a e) in
    let here = in_slice e later && uses_word a e.row in
    let there = not (stores_word a e.row) && (live later).words a in
    and_from kept (here || there) (not_from_false (takes_word a e) (here_test es m e (takes_word a) false r.here (l.untaken m (omega arith) l.after))) (elim (first_or m l.place l.after) [
      | inl same ↦ or_left here there
          (and_from (in_slice e later) (uses_word a e.row) (is_chosen es n m e later r (subst (λ (x : ℕ). InSlice es n x) (sym same) l.chosen))
          (here_test es m e (λ f. uses_word a f.row) true r.here (subst (λ (x : ℕ). at es x (λ f. uses_word a f.row) ≡ true) (sym same) l.used)))
      | inr more ↦ or_right here there
          (and_from (not (stores_word a e.row)) ((live later).words a)
          (not_from_false (stores_word a e.row) (here_test es m e (λ f. stores_word a f.row) false r.here (l.unstored m (omega arith) (omega (arith, more)))))
          (r.known.is_words a (record { place = l.place; after = more; chosen = l.chosen; used = l.used; unstored = λ k low high. l.unstored k (omega (arith, low)) high; untaken = λ k low high. l.untaken k (omega (arith, low)) high })))
    ])

-- ---- of all rows

-- after the last row nothing is live
none_live : (es : List Noted) (n m : ℕ) → m ≡ n + 1 → Known es n m (live [])
none_live es n m e = record {
  registers_is = λ q t. absurd cc;
  is_registers = λ q l. let low = inside l.chosen in let high = l.after in absurd (omega (arith, e, low, high));
  words_is = λ a t. absurd cc;
  is_words = λ a l. let low = inside l.chosen in let high = l.after in absurd (omega (arith, e, low, high));
}

-- the row at a place, and those after it
pub row_in : (es : List Noted) (m : ℕ) (e : Noted) (later : List Noted) → drop m es ≡ e ∷ later → slice_get es m ≡ Some e
row_in [] zero e later h = absurd cc
row_in [] (suc m) e later h = absurd cc
row_in (x ∷ es) zero e later h = ap (λ xs. slice_get xs 0) h
row_in (x ∷ es) (suc m) e later h = row_in es m e later h

rest_in : (es : List Noted) (m : ℕ) (e : Noted) (later : List Noted) → drop m es ≡ e ∷ later → drop (suc m) es ≡ later
rest_in [] zero e later h = absurd cc
rest_in [] (suc m) e later h = absurd cc
rest_in (x ∷ es) zero e later h = ap (λ xs. drop 1 xs) h
rest_in (x ∷ es) (suc m) e later h = rest_in es m e later h

pub next_rest : (es : List Noted) (m : ℕ) (e : Noted) (later : List Noted) → drop m es ≡ e ∷ later → drop (m + 1) es ≡ later
next_rest es m e later h = let one : m + 1 ≡ suc m = omega arith in ap (λ n. drop n es) one ∙ rest_in es m e later h

pub known_from : (es : List Noted) (n m : ℕ) (rows : List Noted) → drop m es ≡ rows → m + length rows ≡ n + 1 → Known es n m (live rows)
known_from es n m [] d h = none_live es n m (omega (arith, h))
known_from es n m (e ∷ later) d h =
    let known : Known es n (m + 1) (live later) = known_from es n (m + 1) later (next_rest es m e later d) (omega (arith, h)) in
    let r : Row_at es n m e later = record { here = row_in es m e later d; count = omega (arith, h); known = known } in
    record {
      registers_is = registers_is es n m e later r;
      is_registers = is_registers es n m e later r;
      words_is = words_is es n m e later r;
      is_words = is_words es n m e later r;
    }
