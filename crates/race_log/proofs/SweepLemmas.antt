-- Accesses that are given up.
use Rattle.race_log.proofs.Common.{◌≡◌, ◌≢◌, ℕ, zero, suc, ◌+◌, ◌*◌, ◌<◌, Bool, true, false, cond, not, refl, arith, sym, ap, ap₂, ◌∙◌, List, [], ◌∷◌, ◌++◌, Option, Some, slice_get, length, subst, length-append, append_assoc, append-nil, filter-append, Times, Slot, Kept, write_in, read_in, reads_in, word_in, is_covered, uncovered, GivesUp, sum_below}
use Rattle.race_log.proofs.PageLemmas.{reads_same, word_none}

-- ---- lists

pub gives_append : (times : Option Times) (a b : ℕ) (xs ys us vs : List Kept) → GivesUp times a xs us → GivesUp times b ys vs → GivesUp times (a + b) (xs ++ ys) (us ++ vs)
gives_append times a b xs ys us vs g h = record {
  left = ap₂ (λ ks ls. ks ++ ls) g.left h.left ∙ sym (filter-append (λ (k : Kept). not (is_covered times k.hart k.ic)) xs ys);
  gone = omega (arith, length-append us vs, length-append xs ys, g.gone, h.gone);
}

-- ---- the reads of a word

-- the reads of one hart more
reads_more : (counts : ℕ → ℕ → ℕ) (page : List Slot) (at hart n : ℕ)
    → reads_in counts page at hart (suc n) ≡ reads_in counts page at hart n ++ read_in counts (hart + n) (slice_get page (at + (hart + n)))
reads_more counts page at hart zero =
    append-nil (read_in counts hart (slice_get page (at + hart)))
    ∙ ap (λ g. read_in counts g (slice_get page (at + g))) (let e : hart ≡ hart + 0 = omega arith in e)
reads_more counts page at hart (suc n) =
    let e : suc hart + n ≡ hart + suc n = omega arith in
    ap (λ ks. read_in counts hart (slice_get page (at + hart)) ++ ks)
    (reads_more counts page at (suc hart) n ∙ ap (λ g. reads_in counts page at (suc hart) n ++ read_in counts g (slice_get page (at + g))) e)
    ∙ sym (append_assoc (read_in counts hart (slice_get page (at + hart))) (reads_in counts page at (suc hart) n) (read_in counts (hart + suc n) (slice_get page (at + (hart + suc n)))))

pub read_next : (counts : ℕ → ℕ → ℕ) (page : List Slot) (at n : ℕ)
    → reads_in counts page at 0 (n + 1) ≡ reads_in counts page at 0 n ++ read_in counts n (slice_get page (at + n))
read_next counts page at n =
    let next : n + 1 ≡ suc n = omega arith in
    let e : 0 + n ≡ n = omega arith in
    ap (reads_in counts page at 0) next
    ∙ (reads_more counts page at 0 n ∙ ap (λ g. reads_in counts page at 0 n ++ read_in counts g (slice_get page (at + g))) e)

pub gives_more : (times : Option Times) (counts : ℕ → ℕ → ℕ) (old mid new : List Slot) (at n a b : ℕ)
    → GivesUp times a (reads_in counts old at 0 n) (reads_in counts mid at 0 n)
    → slice_get mid (at + n) ≡ slice_get old (at + n)
    → GivesUp times b (read_in counts n (slice_get mid (at + n))) (read_in counts n (slice_get new (at + n)))
    → ((j : ℕ) → j ≢ at + n → slice_get new j ≡ slice_get mid j)
    → GivesUp times (a + b) (reads_in counts old at 0 (n + 1)) (reads_in counts new at 0 (n + 1))
gives_more times counts old mid new at n a b done same here others =
    let before : reads_in counts new at 0 n ≡ reads_in counts mid at 0 n = reads_same counts mid new at 0 n (λ j low high. others j (λ e. omega (arith, e, high))) in
    let both = gives_append times a b (reads_in counts old at 0 n) (read_in counts n (slice_get old (at + n))) (reads_in counts new at 0 n) (read_in counts n (slice_get new (at + n)))
    (subst (GivesUp times a (reads_in counts old at 0 n)) (sym before) done)
    (subst (λ o. GivesUp times b (read_in counts n o) (read_in counts n (slice_get new (at + n)))) same here) in
    subst (λ ks. GivesUp times (a + b) ks (reads_in counts new at 0 (n + 1))) (sym (read_next counts old at n))
    (subst (GivesUp times (a + b) (reads_in counts old at 0 n ++ read_in counts n (slice_get old (at + n)))) (sym (read_next counts new at n)) both)

-- ---- a word

pub gives_word : (times : Option Times) (counts : ℕ → ℕ → ℕ) (harts : ℕ) (old mid new : List Slot) (at a b : ℕ)
    → GivesUp times a (write_in counts (slice_get old at)) (write_in counts (slice_get mid at))
    → ((j : ℕ) → j ≢ at → slice_get mid j ≡ slice_get old j)
    → GivesUp times b (reads_in counts mid (at + 1) 0 harts) (reads_in counts new (at + 1) 0 harts)
    → ((j : ℕ) → j < at + 1 → slice_get new j ≡ slice_get mid j)
    → GivesUp times (a + b) (word_in counts harts old at) (word_in counts harts new at)
gives_word times counts harts old mid new at a b write others reads below =
    gives_append times a b (write_in counts (slice_get old at)) (reads_in counts old (at + 1) 0 harts) (write_in counts (slice_get new at)) (reads_in counts new (at + 1) 0 harts)
    (subst (λ o. GivesUp times a (write_in counts (slice_get old at)) (write_in counts o)) (sym (below at (omega arith))) write)
    (subst (λ ks. GivesUp times b ks (reads_in counts new (at + 1) 0 harts)) (reads_same counts old mid (at + 1) 0 harts (λ j low high. others j (λ e. omega (arith, e, low)))) reads)

-- outside words nothing is kept, and so nothing is left
pub uncovered_where : (times : Option Times) (b : Bool) (new old : List Kept) → new ≡ uncovered times old → cond b new [] ≡ uncovered times (cond b old [])
uncovered_where times true new old e = e
uncovered_where times false new old e = refl

-- ---- sums

pub sum_same : (f g : ℕ → ℕ) (n : ℕ) → ((i : ℕ) → i < n → f i ≡ g i) → sum_below f n ≡ sum_below g n
unfolding sum_below
sum_same f g zero same = refl
sum_same f g (suc n) same = omega (arith, sum_same f g n (λ i low. same i (omega arith)), same n (omega arith))

pub sum_next : (f : ℕ → ℕ) (n : ℕ) → sum_below f (n + 1) ≡ sum_below f n + f n
unfolding sum_below
sum_next f n = let next : n + 1 ≡ suc n = omega arith in ap (sum_below f) next

pub sum_none : (f : ℕ → ℕ) → sum_below f 0 ≡ 0
unfolding sum_below
sum_none f = refl

pub sum_parts : (f : ℕ → ℕ) (a n : ℕ) → sum_below f (a + n) ≡ sum_below f a + sum_below (λ i. f (a + i)) n
unfolding sum_below
sum_parts f a zero = let e : a + 0 ≡ a = omega arith in omega (arith, ap (sum_below f) e)
sum_parts f a (suc n) = let e : a + suc n ≡ suc (a + n) = omega arith in omega (arith, ap (sum_below f) e, sum_parts f a n)

-- one number's part is less, and the others' parts are the same
pub sum_step : (f g h : ℕ → ℕ) (n a b : ℕ) → a + sum_below g n ≡ sum_below f n → b + h n ≡ f n → ((i : ℕ) → i < n → h i ≡ g i)
    → a + b + sum_below h (n + 1) ≡ sum_below f (n + 1)
sum_step f g h n a b before here same = omega (arith, sum_next f n, sum_next h n, sum_same h g n same, before, here)

-- ---- a page

-- a page that isn't made keeps nothing
pub none_uncovered : (times : Option Times) (counts : ℕ → ℕ → ℕ) (harts : ℕ) (page : List Slot) (at : ℕ) → length page ≡ 0
    → word_in counts harts page at ≡ uncovered times (word_in counts harts page at)
none_uncovered times counts harts [] at e =
    let none = word_none counts harts [] at (λ j s h. absurd (no_slot j s h)) in
    none ∙ sym (ap (uncovered times) none)
  where
    no_slot : (j : ℕ) (s : Slot) → slice_get [] j ≡ Some s → ⊥
    no_slot j s h = cc
none_uncovered times counts harts (x ∷ xs) at e = absurd (omega (arith, e))

-- a page more is swept
pub page_step : (f g h : ℕ → ℕ) (m a b : ℕ) → a + sum_below g (64 * m) ≡ sum_below f (64 * m)
    → b + sum_below (λ i. h (64 * m + i)) 64 ≡ sum_below (λ i. g (64 * m + i)) 64
    → ((i : ℕ) → i < 64 * m → h i ≡ g i) → ((i : ℕ) → i < 64 → g (64 * m + i) ≡ f (64 * m + i))
    → a + b + sum_below h (64 * (m + 1)) ≡ sum_below f (64 * (m + 1))
page_step f g h m a b before here same left =
    let e : 64 * (m + 1) ≡ 64 * m + 64 = omega arith in
    let p : sum_below h (64 * (m + 1)) ≡ sum_below h (64 * m) + sum_below (λ i. h (64 * m + i)) 64 = ap (sum_below h) e ∙ sum_parts h (64 * m) 64 in
    let q : sum_below f (64 * (m + 1)) ≡ sum_below f (64 * m) + sum_below (λ i. f (64 * m + i)) 64 = ap (sum_below f) e ∙ sum_parts f (64 * m) 64 in
    let r : sum_below h (64 * m) ≡ sum_below g (64 * m) = sum_same h g (64 * m) same in
    let s : sum_below (λ i. g (64 * m + i)) 64 ≡ sum_below (λ i. f (64 * m + i)) 64 = sum_same (λ i. g (64 * m + i)) (λ i. f (64 * m + i)) 64 left in
    omega (arith, p, q, r, s, before, here)
