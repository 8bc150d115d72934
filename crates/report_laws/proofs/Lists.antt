-- Items of lists.
use Rattle.report_laws.proofs.Common.{◌≡◌, ◌⊎◌, inl, inr, ℕ, zero, suc, ◌+◌, ◌<◌, Bool, true, false, ◌||◌, refl, ap, ◌∙◌, subst, arith, List, [], ◌∷◌, ◌++◌, length, slice_get, take, Some, list_any, flat_map, In, none-some, some_is}

pub order_of : (m n : ℕ) → (m < n) ⊎ ((m ≡ n) ⊎ (n < m))
order_of m n = grind arith

-- ---- one list after another

pub record IsBehind {X : Type 0} (xs ys : List X) (k : ℕ) (x : X) : Type 0 where
  pub place : ℕ
  pub is : k ≡ length xs + place
  pub at : slice_get ys place ≡ Some x

pub get_cases : {X : Type 0} (xs ys : List X) (k : ℕ) (x : X) → slice_get (xs ++ ys) k ≡ Some x → ((k < length xs) × (slice_get xs k ≡ Some x)) ⊎ IsBehind xs ys k x
get_cases [] ys k x e = inr (record { place = k; is = omega arith; at = e })
get_cases (z ∷ zs) ys zero x e = inl (omega arith, e)
get_cases (z ∷ zs) ys (suc k) x e = elim (get_cases zs ys k x e) [
  | inl p ↦ (let low = p.0 in inl (omega (arith, low), p.1))
  | inr p ↦ (let is = p.is in inr (record { place = p.place; is = omega (arith, is); at = p.at }))
]

pub get_right : {X : Type 0} (xs ys : List X) (j k : ℕ) (x : X) → k ≡ length xs + j → slice_get ys j ≡ Some x → slice_get (xs ++ ys) k ≡ Some x
get_right [] ys j k x is e = let same : j ≡ k = omega (arith, is) in subst (λ (n : ℕ). slice_get ys n ≡ Some x) same e
get_right (z ∷ zs) ys j zero x is e = absurd (omega (arith, is))
get_right (z ∷ zs) ys j (suc k) x is e = get_right zs ys j k x (omega (arith, is)) e

-- the item after a prefix, and that prefix
pub get_middle : {X : Type 0} (front back : List X) (x : X) (k : ℕ) → k ≡ length front → slice_get (front ++ x ∷ back) k ≡ Some x
get_middle [] back x zero e = refl
get_middle [] back x (suc k) e = absurd (omega (arith, e))
get_middle (z ∷ zs) back x zero e = absurd (omega (arith, e))
get_middle (z ∷ zs) back x (suc k) e = get_middle zs back x k (omega (arith, e))

pub take_front : {X : Type 0} (front back : List X) (k : ℕ) → k ≡ length front → take k (front ++ back) ≡ front
take_front [] back zero e = refl
take_front [] back (suc k) e = absurd (omega (arith, e))
take_front (z ∷ zs) back zero e = absurd (omega (arith, e))
take_front {X = X} (z ∷ zs) back (suc k) e = ap (λ (ys : List X). z ∷ ys) (take_front zs back k (omega (arith, e)))

-- ---- some item passes

pub any_in : {X : Type 0} (test : X → Bool) (xs : List X) (x : X) → In xs x → test x ≡ true → list_any test xs ≡ true
any_in test [] x i e = absurd i
any_in test (z ∷ zs) x (inl same) e = ap (λ (b : Bool). b || list_any test zs) (ap test same ∙ e)
any_in test (z ∷ zs) x (inr i) e = by (test z) (any_in test zs x i e)
  where
    by : (b : Bool) → list_any test zs ≡ true → (b || list_any test zs) ≡ true
    by true f = refl
    by false f = f

pub in_any : {X : Type 0} (test : X → Bool) (xs : List X) → list_any test xs ≡ true → (x : X) × In xs x × (test x ≡ true)
in_any test [] e = absurd cc
in_any {X = X} test (z ∷ zs) e = by (test z) refl e (λ f. in_any test zs f)
  where
    by : (b : Bool) → test z ≡ b → (b || list_any test zs) ≡ true → (list_any test zs ≡ true → (x : X) × In zs x × (test x ≡ true)) → (x : X) × In (z ∷ zs) x × (test x ≡ true)
    by true f g rest = (z, inl refl, f)
    by false f g rest = let r = rest g in (r.0, inr r.1, r.2)

-- ---- items that each give one or none

abbrev pub GivesOneAtMost : {X Y : Type 0} → (X → List Y) → Type 0
GivesOneAtMost {X} {Y} f = (x : X) → (f x ≡ []) ⊎ ((y : Y) × (f x ≡ y ∷ []))

pub record ComesFrom {X Y : Type 0} (f : X → List Y) (xs : List X) (y : Y) (place : ℕ) : Type 0 where
  pub source : X
  pub at : slice_get xs place ≡ Some source
  pub gives : f source ≡ y ∷ []

comes_later : {X Y : Type 0} (f : X → List Y) (x : X) (xs : List X) (y : Y) (place : ℕ) → ComesFrom f xs y place → ComesFrom f (x ∷ xs) y (suc place)
comes_later f x xs y place c = record { source = c.source; at = c.at; gives = c.gives }

pub comes_from : {X Y : Type 0} (f : X → List Y) → GivesOneAtMost f → (xs : List X) (k : ℕ) (y : Y) → slice_get (flat_map f xs) k ≡ Some y → (place : ℕ) × ComesFrom f xs y place
comes_from f one [] k y e = absurd cc
comes_from {X = X} {Y = Y} f one (x ∷ xs) k y e = by (one x) (λ j g. comes_from f one xs j y g)
  where
    first : (z : Y) (j : ℕ) → f x ≡ z ∷ [] → slice_get (z ∷ flat_map f xs) j ≡ Some y → ((i : ℕ) → slice_get (flat_map f xs) i ≡ Some y → (place : ℕ) × ComesFrom f xs y place) → (place : ℕ) × ComesFrom f (x ∷ xs) y place
    first z zero g h rest = (0, record { source = x; at = refl; gives = g ∙ ap (λ (u : Y). u ∷ []) (some_is z y (Some z) refl h) })
    first z (suc j) g h rest = let r = rest j h in (suc r.0, comes_later f x xs y r.0 r.1)

    by : (f x ≡ []) ⊎ ((z : Y) × (f x ≡ z ∷ [])) → ((i : ℕ) → slice_get (flat_map f xs) i ≡ Some y → (place : ℕ) × ComesFrom f xs y place) → (place : ℕ) × ComesFrom f (x ∷ xs) y place
    by (inl none) rest = let r = rest k (subst (λ (ys : List Y). slice_get (ys ++ flat_map f xs) k ≡ Some y) none e) in (suc r.0, comes_later f x xs y r.0 r.1)
    by (inr z) rest = first z.0 k z.1 (subst (λ (ys : List Y). slice_get (ys ++ flat_map f xs) k ≡ Some y) z.1 e) rest

-- two of them, in their order
pub record ComeFrom {X Y : Type 0} (f : X → List Y) (xs : List X) (y z : Y) : Type 0 where
  pub first : ℕ
  pub second : ℕ
  pub first_from : ComesFrom f xs y first
  pub second_from : ComesFrom f xs z second
  pub earlier : first < second

pub come_from : {X Y : Type 0} (f : X → List Y) → GivesOneAtMost f → (xs : List X) (k l : ℕ) (y z : Y) → slice_get (flat_map f xs) k ≡ Some y → slice_get (flat_map f xs) l ≡ Some z → k < l → ComeFrom f xs y z
come_from f one [] k l y z e g low = absurd cc
come_from {X = X} {Y = Y} f one (x ∷ xs) k l y z e g low = by (one x) (λ i j a b c. come_from f one xs i j y z a b c)
  where
    later : ComeFrom f xs y z → ComeFrom f (x ∷ xs) y z
    later c =
        let up = c.earlier in
        record { first = suc c.first; second = suc c.second; first_from = comes_later f x xs y c.first c.first_from; second_from = comes_later f x xs z c.second c.second_from; earlier = omega (arith, up) }

    first : (u : Y) (i j : ℕ) → f x ≡ u ∷ [] → slice_get (u ∷ flat_map f xs) i ≡ Some y → slice_get (u ∷ flat_map f xs) j ≡ Some z → i < j
        → ((m n : ℕ) → slice_get (flat_map f xs) m ≡ Some y → slice_get (flat_map f xs) n ≡ Some z → m < n → ComeFrom f xs y z) → ComeFrom f (x ∷ xs) y z
    first u i zero h a b c rest = absurd (omega (arith, c))
    first u zero (suc j) h a b c rest =
        let r = comes_from f one xs j z b in
        record {
          first = 0;
          second = suc r.0;
          first_from = record { source = x; at = refl; gives = h ∙ ap (λ (v : Y). v ∷ []) (some_is u y (Some u) refl a) };
          second_from = comes_later f x xs z r.0 r.1;
          earlier = omega arith;
        }
    first u (suc i) (suc j) h a b c rest = later (rest i j a b (omega (arith, c)))

    by : (f x ≡ []) ⊎ ((u : Y) × (f x ≡ u ∷ [])) → ((m n : ℕ) → slice_get (flat_map f xs) m ≡ Some y → slice_get (flat_map f xs) n ≡ Some z → m < n → ComeFrom f xs y z) → ComeFrom f (x ∷ xs) y z
    by (inl none) rest = later (rest k l (subst (λ (ys : List Y). slice_get (ys ++ flat_map f xs) k ≡ Some y) none e) (subst (λ (ys : List Y). slice_get (ys ++ flat_map f xs) l ≡ Some z) none g) low)
    by (inr u) rest =
        first u.0 k l u.1 (subst (λ (ys : List Y). slice_get (ys ++ flat_map f xs) k ≡ Some y) u.1 e) (subst (λ (ys : List Y). slice_get (ys ++ flat_map f xs) l ≡ Some z) u.1 g) low rest

pub given : {X Y : Type 0} (f : X → List Y) (xs : List X) (place : ℕ) (y : Y) → ComesFrom f xs y place → (k : ℕ) × (slice_get (flat_map f xs) k ≡ Some y)
given f [] place y c = absurd (none place c)
  where
    none : (n : ℕ) → ComesFrom f [] y n → ⊥
    none n d = none-some d.source d.at
given {Y = Y} f (x ∷ xs) zero y c =
    let same = some_is x c.source (Some x) refl c.at in
    (0, ap (λ (ys : List Y). slice_get (ys ++ flat_map f xs) 0) (ap f same ∙ c.gives))
given f (x ∷ xs) (suc n) y c =
    let r = given f xs n y (record { source = c.source; at = c.at; gives = c.gives }) in
    (length (f x) + r.0, get_right (f x) (flat_map f xs) r.0 (length (f x) + r.0) y refl r.1)
