-- The numbers that pass a test, the greatest first.
use Rattle.race_log.proofs.Common.{◌≡◌, ℕ, zero, suc, ◌<◌, ◌≤◌, Bool, true, ◌⊎◌, ◌==◌, refl, inl, inr, arith, List, [], ◌∷◌, length, slice_index_or, Contains, AllPairs, greatest_first, In}
use Rattle.race_log.proofs.BoolFacts.{known}

-- numbers below the bound, each below the one before it
abbrev pub Falling : ℕ → List ℕ → Type 0
Falling bound [] = Unit {0}
Falling bound (j ∷ js) = (j < bound) × Falling j js

pub in_contains : {X : Type 0} (xs : List X) (x : X) → In xs x → Contains xs x
in_contains [] x h = absurd h
in_contains (y ∷ ys) x (inl e) = (0, omega arith, e)
in_contains (y ∷ ys) x (inr h) = let r = in_contains ys x h in (suc r.0, (let low = r.1 in omega arith), r.2)

pub contains_in : {X : Type 0} (xs : List X) (x : X) → Contains xs x → In xs x
contains_in {X = X} xs x c = go xs c.0 c.1 c.2
  where
    go : (xs : List X) (k : ℕ) → k < length xs → slice_index_or xs k x ≡ x → In xs x
    go [] k low e = absurd (omega arith)
    go (y ∷ ys) zero low e = inl e
    go (y ∷ ys) (suc k) low e = inr (go ys k (omega arith) e)

pub has_below : (bound : ℕ) (js : List ℕ) (k : ℕ) → Falling bound js → In js k → k < bound
has_below bound [] k f h = absurd h
has_below bound (j ∷ js) k f (inl e) = let low = f.0 in omega arith
has_below bound (j ∷ js) k f (inr h) = let low = f.0 in let r = has_below j js k f.1 h in omega arith

falling_up : (low high : ℕ) (js : List ℕ) → low ≤ high → Falling low js → Falling high js
falling_up low high [] h f = tt
falling_up low high (j ∷ js) h f = let b = f.0 in (omega arith, f.1)

pub falling_pairs : (bound : ℕ) (js : List ℕ) → Falling bound js → AllPairs (λ a b. b < a) js
falling_pairs bound [] f i k d low fits = absurd (omega arith)
falling_pairs bound (j ∷ js) f zero zero d low fits = absurd (omega arith)
falling_pairs bound (j ∷ js) f zero (suc k) d low fits =
    has_below j js (slice_index_or js k d) f.1 (item js k d (omega arith))
  where
    item : (xs : List ℕ) (k d : ℕ) → k < length xs → In xs (slice_index_or xs k d)
    item [] k d low = absurd (omega arith)
    item (x ∷ xs) zero d low = inl refl
    item (x ∷ xs) (suc k) d low = inr (item xs k d (omega arith))
falling_pairs bound (j ∷ js) f (suc i) zero d low fits = absurd (omega arith)
falling_pairs bound (j ∷ js) f (suc i) (suc k) d low fits = falling_pairs j js f.1 i k d (omega arith) (omega arith)

pub listed_falls : (test : ℕ → Bool) (n : ℕ) → Falling n (greatest_first test n)
unfolding greatest_first
listed_falls test zero = tt
listed_falls test (suc n) = elim (known (test n)) [
  | inl t ↦ rw t (omega arith, listed_falls test n)
  | inr f ↦ rw f (falling_up n (suc n) (greatest_first test n) (omega arith) (listed_falls test n))
]

pub listed_passes : (test : ℕ → Bool) (n k : ℕ) → In (greatest_first test n) k → test k ≡ true
unfolding greatest_first
listed_passes test zero k h = absurd h
listed_passes test (suc n) k h = elim (known (test n)) [
  | inl t ↦ elim (rw t at h) [ inl e ↦ rw e at t | inr r ↦ listed_passes test n k r ]
  | inr f ↦ listed_passes test n k (rw f at h)
]

pub passes_listed : (test : ℕ → Bool) (n k : ℕ) → k < n → test k ≡ true → In (greatest_first test n) k
unfolding greatest_first
passes_listed test zero k low t = absurd (omega arith)
passes_listed test (suc n) k low t = elim (split n k low) [
  | inl is ↦ let u : test n ≡ true = rw is t in rw u (inl is)
  | inr below ↦ elim (known (test n)) [
    | inl u ↦ rw u (inr (passes_listed test n k below t))
    | inr u ↦ rw u (passes_listed test n k below t)
  ]
]
  where
    split : (n k : ℕ) → k < suc n → (n ≡ k) ⊎ (k < n)
    split n k low = grind arith

-- a falling list of all numbers that pass
pub falling_is : (test : ℕ → Bool) (n : ℕ) (js : List ℕ) → Falling n js → ((e : ℕ) → In js e → test e ≡ true)
    → ((e : ℕ) → e < n → test e ≡ true → In js e) → js ≡ greatest_first test n
unfolding greatest_first
falling_is test zero [] f are all = refl
falling_is test zero (j ∷ js) f are all = let low = f.0 in absurd (omega arith)
falling_is test (suc n) [] f are all = elim (known (test n)) [
  | inl pass ↦ absurd (all n (omega arith) pass)
  | inr fail ↦ rw fail (falling_is test n [] tt are (λ e low t. all e (omega arith) t))
]
falling_is test (suc n) (j ∷ js) f are all = let low = f.0 in elim (known (j == n)) [
  | inl same ↦
      let is : j ≡ n = grind arith in
      let t : test n ≡ true = rw (← is) (are j (inl refl)) in
      let falls : Falling n js = rw is at f.1 in
      let r = falling_is test n js falls (λ e h. are e (inr h)) (λ e low u. elim (all e (omega arith) u) [
        | inl e_is ↦ absurd (omega arith)
        | inr h ↦ h
      ]) in
      rw (t, is, r)
  | inr other ↦
      let below : j < n = grind arith in
      elim (known (test n)) [
        | inl pass ↦ elim (all n (omega arith) pass) [
          | inl e_is ↦ absurd (omega arith)
          | inr h ↦ let up = has_below j js n f.1 h in absurd (omega arith)
        ]
        | inr fail ↦ rw fail (falling_is test n (j ∷ js) (below, f.1) are (λ e low u. all e (omega arith) u))
      ]
]
