-- Lists of numbers without one of them, and lists without repeats.
use Rattle.first_load_bits.proofs.Common.{◌≡◌, ◌≢◌, ℕ, zero, suc, ◌<◌, ◌≤◌, Bool, true, false, not, ◌&&◌, ◌||◌, ◌==◌, List, [], ◌∷◌, length, take, All, AllPairs, refl, arith, subst, inl, inr, false≢true, eqb_tells, nat_tests, All-nil, All-cons, All-head, All-tail, AllPairs-cons, except}

-- k is among the numbers
abbrev pub among : ℕ → List ℕ → Bool
among k [] = false
among k (x ∷ xs) = (x == k) || among k xs

pub except_here : (k j : ℕ) (ks : List ℕ) → (j == k) ≡ true → except k (j ∷ ks) ≡ except k ks
except_here k j ks e = rw (e, except) refl

pub except_there : (k j : ℕ) (ks : List ℕ) → (j == k) ≡ false → except k (j ∷ ks) ≡ (j ∷ except k ks)
except_there k j ks e = rw (e, except) refl

pub among_except : (k j : ℕ) (xs : List ℕ) → among k (except j xs) ≡ (not (j == k) && among k xs)
among_except k j [] = grind arith
among_except k j (x ∷ xs) = elim (eqb_tells x j) [
  | inl p ↦ rw (except_here j x xs p.0) (grind (arith, nat_tests, among_except k j xs))
  | inr p ↦ rw (except_there j x xs p.0) (grind (arith, nat_tests, among_except k j xs))
]

pub length-except : (k : ℕ) (xs : List ℕ) → length (except k xs) ≤ length xs
length-except k [] = omega arith
length-except k (x ∷ xs) = elim (eqb_tells x k) [
  | inl p ↦ rw (except_here k x xs p.0) (omega (arith, length-except k xs))
  | inr p ↦ rw (except_there k x xs p.0) (omega (arith, length-except k xs))
]

-- a number that is there is left out
pub length-except_among : (k : ℕ) (xs : List ℕ) → among k xs ≡ true → length (except k xs) < length xs
length-except_among k [] h = absurd (false≢true h)
length-except_among k (x ∷ xs) h = elim (eqb_tells x k) [
  | inl p ↦ rw (except_here k x xs p.0) (omega (arith, length-except k xs))
  | inr p ↦ rw (except_there k x xs p.0) (omega (arith, length-except_among k xs (rw p.0 at h)))
]

-- no number stands twice
abbrev pub IsDistinct : List ℕ → Type 0
IsDistinct [] = Unit {0}
IsDistinct (x ∷ xs) = (among x xs ≡ false) × IsDistinct xs

pub IsDistinct-except : (k : ℕ) (xs : List ℕ) → IsDistinct xs → IsDistinct (except k xs)
IsDistinct-except k [] h = tt
IsDistinct-except k (x ∷ xs) h = elim (eqb_tells x k) [
  | inl p ↦ rw (except_here k x xs p.0) (IsDistinct-except k xs h.1)
  | inr p ↦ rw (except_there k x xs p.0) (grind (arith, among_except x k xs, h.0), IsDistinct-except k xs h.1)
]

-- distinct numbers that are all among ys are no more than ys
pub length-below : (xs ys : List ℕ) → IsDistinct xs → ((k : ℕ) → among k xs ≡ true → among k ys ≡ true) → length xs ≤ length ys
length-below [] ys d h = omega arith
length-below (x ∷ xs) ys d h =
    let here : among x ys ≡ true = h x (grind (arith, nat_tests)) in
    let rest : length xs ≤ length (except x ys) = length-below xs (except x ys) d.1 (λ k m. grind (arith, nat_tests, among_except k x ys, h k, d.0)) in
    omega (arith, length-except_among x ys here)

-- `IsDistinct` says that all pairs differ
apart : (x : ℕ) (xs : List ℕ) → among x xs ≡ false → All (λ y. x ≢ y) xs
apart x [] h = All-nil (λ y. x ≢ y)
apart x (y ∷ ys) h =
    let ne : x ≢ y = grind (arith, nat_tests) in
    let rest : among x ys ≡ false = grind (arith, nat_tests) in
    All-cons (λ y. x ≢ y) y ys ne (apart x ys rest)

not_among : (x : ℕ) (xs : List ℕ) → All (λ y. x ≢ y) xs → among x xs ≡ false
not_among x [] h = refl
not_among x (y ∷ ys) h =
    let ne : x ≢ y = All-head (λ y. x ≢ y) y ys h in
    let rest = not_among x ys (All-tail (λ y. x ≢ y) y ys h) in
    grind (arith, nat_tests)

pub IsDistinct-from_pairs : (xs : List ℕ) → AllPairs (λ x y. x ≢ y) xs → IsDistinct xs
IsDistinct-from_pairs [] h = tt
IsDistinct-from_pairs (x ∷ xs) h =
    (not_among x xs (λ k d l. h 0 (suc k) d (omega arith) (omega arith)), IsDistinct-from_pairs xs (λ i j d l m. h (suc i) (suc j) d (omega arith) (omega arith)))

pub pairs_from_IsDistinct : (xs : List ℕ) → IsDistinct xs → AllPairs (λ x y. x ≢ y) xs
pairs_from_IsDistinct [] h = λ i j d l m. absurd (omega arith)
pairs_from_IsDistinct (x ∷ xs) h = AllPairs-cons (λ x y. x ≢ y) x xs (apart x xs h.0) (pairs_from_IsDistinct xs h.1)

-- a fact of each number that is among xs
pub All-from_among : (P : ℕ → Type 0) (xs : List ℕ) → ((k : ℕ) → among k xs ≡ true → P k) → All P xs
All-from_among P [] h = All-nil P
All-from_among P (x ∷ xs) h = All-cons P x xs (h x (grind (arith, nat_tests))) (All-from_among P xs (λ k m. h k (grind (arith, nat_tests))))

pub among_has : (P : ℕ → Type 0) (xs : List ℕ) → All P xs → (k : ℕ) → among k xs ≡ true → P k
among_has P [] h k m = absurd (false≢true m)
among_has P (x ∷ xs) h k m = elim (eqb_tells x k) [
  | inl p ↦ subst P p.1 (All-head P x xs h)
  | inr p ↦ among_has P xs (All-tail P x xs h) k (rw p.0 at m)
]

pub among_take : (n k : ℕ) (xs : List ℕ) → among k (take n xs) ≡ true → among k xs ≡ true
among_take zero k xs m = absurd (false≢true m)
among_take (suc n) k [] m = absurd (false≢true m)
among_take (suc n) k (x ∷ xs) m = grind (arith, nat_tests, among_take n k xs)

pub IsDistinct-take : (n : ℕ) (xs : List ℕ) → IsDistinct xs → IsDistinct (take n xs)
IsDistinct-take zero xs h = tt
IsDistinct-take (suc n) [] h = tt
IsDistinct-take (suc n) (x ∷ xs) h = (grind (arith, nat_tests, among_take n x xs, h.0), IsDistinct-take n xs h.1)
