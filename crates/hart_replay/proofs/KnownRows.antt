-- The words of pages, as rows tell them.
use Rattle.hart_replay.proofs.Common.{◌≡◌, ℕ, zero, suc, ◌*◌, ◌/◌, ◌^◌, ◌<◌, ◌≤◌, Bool, true, false, Option, Some, None, List, ◌∷◌, if◌then◌else◌, refl, sym, ◌∙◌, ap, arith, inl, inr, ◌==◌, ◌≢◌, ◌⊎◌, eq-eqb, cases_lt, eqb_tells, Row, aligned, at_address, known, or_else, Frame, word_at, word_count, word_row, rows_below, ne_eqb}

or_none : (o : Option ℕ) → or_else o None ≡ o
or_none None = refl
or_none (Some x) = refl

here : (n w : ℕ) (o : Option ℕ) (rest : List Row) → w / 4 ≡ n → known (aligned w) (word_row n o ∷ rest) ≡ or_else o (known (aligned w) rest)
here n w None rest e = refl
here n w (Some x) rest e =
    ap (λ b. elim b as (λ y. Option ℕ) [ true ↦ Some x | false ↦ known (aligned w) rest ]) (eq-eqb (aligned (4 * n)) (aligned w) (omega (arith, e)))

there : (n w : ℕ) (o : Option ℕ) (rest : List Row) → w / 4 ≢ n → known (aligned w) (word_row n o ∷ rest) ≡ known (aligned w) rest
there n w None rest e = refl
there n w (Some x) rest e =
    ap (λ b. elim b as (λ y. Option ℕ) [ true ↦ Some x | false ↦ known (aligned w) rest ]) (ne_eqb (aligned (4 * n)) (aligned w) (λ q. e (omega (arith, q))))

above : (pages : List (ℕ × Frame)) (n w : ℕ) → n ≤ w / 4 → known (aligned w) (rows_below pages n) ≡ None
above pages zero w h = refl
above pages (suc n) w h = there n w (word_at pages n) (rows_below pages n) (λ e. absurd (omega (arith, e, h))) ∙ above pages n w (omega (arith, h))

below : (pages : List (ℕ × Frame)) (n w : ℕ) → w / 4 < n → known (aligned w) (rows_below pages n) ≡ word_at pages (w / 4)
below pages zero w h = absurd (omega (arith, h))
below pages (suc n) w h = elim (eqb_tells (w / 4) n) [
  | inl p ↦ here n w (word_at pages n) (rows_below pages n) p.1 ∙ ap (or_else (word_at pages n)) (above pages n w (omega (arith, p.1))) ∙ or_none (word_at pages n) ∙ ap (word_at pages) (sym p.1)
  | inr p ↦ there n w (word_at pages n) (rows_below pages n) p.1 ∙ below pages n w (omega (arith, h, p.1))
]

count_is : word_count ≡ 2 ^ 30
unfolding word_count
count_is = refl

-- the word at an address
pub known_word : (pages : List (ℕ × Frame)) (a : ℕ) → a < 2 ^ 32 → known (aligned a) (rows_below pages word_count) ≡ word_at pages (a / 4)
known_word pages a h = below pages word_count a (omega (arith, h, count_is))

-- pages without words
pub known_none : (pages : List (ℕ × Frame)) (w : ℕ) → ((k : ℕ) → word_at pages k ≡ None) → known (aligned w) (rows_below pages word_count) ≡ None
known_none pages w none = by_order (cases_lt (w / 4) word_count)
  where
    by_order : (w / 4 < word_count) ⊎ (word_count ≤ w / 4) → known (aligned w) (rows_below pages word_count) ≡ None
    by_order (inl h) = below pages word_count w h ∙ none (w / 4)
    by_order (inr h) = above pages word_count w h

-- pages with one word more
pub known_put : (old new : List (ℕ × Frame)) (a x w : ℕ) → a < 2 ^ 32 → ((k : ℕ) → word_at new k ≡ (if k == a / 4 then Some x else word_at old k))
    → at_address (aligned w) (Some (a, x)) (known (aligned w) (rows_below old word_count)) ≡ known (aligned w) (rows_below new word_count)
known_put old new a x w h put = elim (eqb_tells (w / 4) (a / 4)) [ inl p ↦ same p.0 p.1 | inr p ↦ other p.0 p.1 ]
  where
    same : (w / 4 == a / 4) ≡ true → w / 4 ≡ a / 4 → at_address (aligned w) (Some (a, x)) (known (aligned w) (rows_below old word_count)) ≡ known (aligned w) (rows_below new word_count)
    same t e =
        ap (λ b. elim b as (λ y. Option ℕ) [ true ↦ Some x | false ↦ known (aligned w) (rows_below old word_count) ]) (eq-eqb (aligned a) (aligned w) (omega (arith, e)))
        ∙ sym (below new word_count w (omega (arith, e, h, count_is)) ∙ put (w / 4) ∙ ap (λ (b : Bool). if b then Some x else word_at old (w / 4)) t)

    by_order : (w / 4 == a / 4) ≡ false → (w / 4 < word_count) ⊎ (word_count ≤ w / 4) → known (aligned w) (rows_below old word_count) ≡ known (aligned w) (rows_below new word_count)
    by_order t (inl l) = below old word_count w l ∙ sym (below new word_count w l ∙ put (w / 4) ∙ ap (λ (b : Bool). if b then Some x else word_at old (w / 4)) t)
    by_order t (inr g) = above old word_count w g ∙ sym (above new word_count w g)

    other : (w / 4 == a / 4) ≡ false → w / 4 ≢ a / 4 → at_address (aligned w) (Some (a, x)) (known (aligned w) (rows_below old word_count)) ≡ known (aligned w) (rows_below new word_count)
    other t e =
        ap (λ b. elim b as (λ y. Option ℕ) [ true ↦ Some x | false ↦ known (aligned w) (rows_below old word_count) ]) (ne_eqb (aligned a) (aligned w) (λ q. e (omega (arith, q))))
        ∙ by_order t (cases_lt (w / 4) word_count)
