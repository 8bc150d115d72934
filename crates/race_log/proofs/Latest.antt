-- The latest source among kept accesses, and how many harts still have one.
use Rattle.race_log.proofs.Common.{◌≡◌, ℕ, zero, suc, ◌<◌, ◌≤◌, Bool, true, false, ◌&&◌, ◌⊎◌, ◌==◌, refl, inl, inr, arith, sym, ◌∙◌, List, [], ◌∷◌, Option, Some, None, cond, nat_lt, list_any, is_source, latest, newer, Kept, In}
use Rattle.race_log.proofs.BoolFacts.{and_left, and_right, both, or_split, or_first, or_second, known}

any_found : {X : Type 0} (test : X → Bool) (xs : List X) → list_any test xs ≡ true → (x : X) × In xs x × (test x ≡ true)
any_found test [] h = cc
any_found test (x ∷ xs) h = elim (or_split (test x) (list_any test xs) h) [
  | inl here ↦ (x, inl refl, here)
  | inr there ↦ let r = any_found test xs there in (r.0, inr r.1, r.2)
]

found_any : {X : Type 0} (test : X → Bool) (xs : List X) (x : X) → In xs x → test x ≡ true → list_any test xs ≡ true
found_any test [] x i h = absurd i
found_any test (y ∷ xs) x (inl e) h = or_first (test y) (list_any test xs) (rw e h)
found_any test (y ∷ xs) x (inr i) h = or_second (test y) (list_any test xs) (found_any test xs x i h)

not_newer : (b : Kept) (turn : ℕ) → newer (Some b) turn ≡ false → turn ≤ b.turn
not_newer b turn h = elim (known (nat_lt b.turn turn)) [ inl t ↦ cc | inr f ↦ grind arith ]

is_newer : (b : Kept) (turn : ℕ) → newer (Some b) turn ≡ true → b.turn < turn
is_newer b turn h = grind arith

-- a test that fails, one part of which holds
and_fails : (a b : Bool) → (a && b) ≡ false → a ≡ true → b ≡ false
and_fails true b h k = h
and_fails false b h k = cc

module _ (hart : ℕ) (writes : Bool) (counts : ℕ → ℕ) where
  -- r is the latest source of these accesses and best
  pub record IsLatest (best : Option Kept) (ks : List Kept) (r : Kept) : Type 0 where
    pub from : (best ≡ Some r) ⊎ (In ks r × (is_source hart writes counts r ≡ true))
    pub most : (o : Kept) → In ks o → is_source hart writes counts o ≡ true → o.turn ≤ r.turn
    pub least : (o : Kept) → best ≡ Some o → o.turn ≤ r.turn

  pub latest_is : (best : Option Kept) (ks : List Kept) (r : Kept) → latest hart writes counts best ks ≡ Some r → IsLatest best ks r
  latest_is best [] r h = record { from = inl h; most = λ o i. absurd i; least = λ o e. let is : o ≡ r = cc (sym e ∙ h) in rw is (omega arith) }
  latest_is best (k ∷ ks) r h = elim (known (is_source hart writes counts k && newer best k.turn)) [
    | inl t ↦
        let rest = latest_is (Some k) ks r (rw t at h) in
        let source = and_left (is_source hart writes counts k) (newer best k.turn) t in
        let top = rest.least k refl in
        record {
          from = elim rest.from [ inl e ↦ (let is : k ≡ r = cc in inr (inl is, rw (← is) source)) | inr f ↦ inr (inr f.0, f.1) ];
          most = λ o i s. elim i [ inl e ↦ rw e at top | inr j ↦ rest.most o j s ];
          least = λ o e. let new = and_right (is_source hart writes counts k) (newer best k.turn) t in
              let less = is_newer o k.turn (rw e at new) in omega arith;
        }
    | inr f ↦
        let rest = latest_is best ks r (rw f at h) in
        record {
          from = elim rest.from [ inl e ↦ inl e | inr g ↦ inr (inr g.0, g.1) ];
          most = λ o i s. elim i [
            | inl e ↦ held best k rest.least f o e s
            | inr j ↦ rest.most o j s
          ];
          least = rest.least;
        }
  ]
    where
      held : (b : Option Kept) (k : Kept) → ((o : Kept) → b ≡ Some o → o.turn ≤ r.turn) → (is_source hart writes counts k && newer b k.turn) ≡ false
          → (o : Kept) → k ≡ o → is_source hart writes counts o ≡ true → o.turn ≤ r.turn
      held None k least f o e s =
          let source : is_source hart writes counts k ≡ true = rw e s in
          let no_newer = and_fails (is_source hart writes counts k) (newer None k.turn) f source in cc
      held (Some b) k least f o e s =
          let source : is_source hart writes counts k ≡ true = rw e s in
          let old = not_newer b k.turn (and_fails (is_source hart writes counts k) (newer (Some b) k.turn) f source) in
          let under = least b refl in
          let low : k.turn ≤ r.turn = omega arith in rw e at low

  pub none_is : (best : Option Kept) (ks : List Kept) → latest hart writes counts best ks ≡ None
      → (best ≡ None) × ((o : Kept) → In ks o → is_source hart writes counts o ≡ false)
  none_is best [] h = (h, λ o i. absurd i)
  none_is best (k ∷ ks) h = elim (known (is_source hart writes counts k && newer best k.turn)) [
    | inl t ↦ let rest = none_is (Some k) ks (rw t at h) in absurd (let e = rest.0 in cc)
    | inr f ↦
        let rest = none_is best ks (rw f at h) in
        let none : newer best k.turn ≡ true = rw rest.0 refl in
        let fails : is_source hart writes counts k ≡ false = elim (known (is_source hart writes counts k)) [
          | inl s ↦ absurd (let n = and_fails (is_source hart writes counts k) (newer best k.turn) f s in cc)
          | inr s ↦ s
        ] in
        (rest.0, λ o i. elim i [ inl e ↦ rw e at fails | inr j ↦ rest.1 o j ])
  ]

-- how many numbers below n pass
abbrev pub passing : (ℕ → Bool) → ℕ → ℕ
passing test zero = 0
passing test (suc n) = cond (test n) (suc (passing test n)) (passing test n)

passing_le : (p q : ℕ → Bool) (n : ℕ) → ((s : ℕ) → p s ≡ true → q s ≡ true) → passing p n ≤ passing q n
passing_le p q zero h = omega arith
passing_le p q (suc n) h = let r = passing_le p q n h in elim (known (p n)) [
  | inl t ↦ (let u = h n t in rw (t, u) (omega arith))
  | inr f ↦ rw f (elim (known (q n)) [ inl u ↦ rw u (omega arith) | inr u ↦ rw u r ])
]

pub passing_less : (p q : ℕ → Bool) (n s : ℕ) → s < n → ((s : ℕ) → p s ≡ true → q s ≡ true) → p s ≡ false → q s ≡ true → passing p n < passing q n
passing_less p q zero s low h f t = absurd (omega arith)
passing_less p q (suc n) s low h f t = elim (known (s == n)) [
  | inl e ↦
      let is : s ≡ n = grind arith in
      let r = passing_le p q n h in
      let fn : p n ≡ false = rw (← is) f in
      let tn : q n ≡ true = rw (← is) t in
      rw (fn, tn) (omega arith)
  | inr e ↦
      let below : s < n = grind arith in
      let r = passing_less p q n s below h f t in
      elim (known (p n)) [
        | inl u ↦ (let v = h n u in rw (u, v) (omega arith))
        | inr u ↦ rw u (elim (known (q n)) [ inl v ↦ rw v (omega arith) | inr v ↦ rw v r ])
      ]
]

passing_all : (p : ℕ → Bool) (n : ℕ) → passing p n ≤ n
passing_all p zero = omega arith
passing_all p (suc n) = let r = passing_all p n in elim (known (p n)) [ inl t ↦ rw t (omega arith) | inr f ↦ rw f (omega arith) ]

pub passing_but : (p : ℕ → Bool) (n s : ℕ) → s < n → p s ≡ false → passing p n < n
passing_but p n s low f = let r = passing_less p (λ x. true) n s low (λ x t. refl) f refl in let m = passing_all (λ x. true) n in omega arith

-- whether the hart has a source among the kept accesses
abbrev pub has_source : ℕ → Bool → (ℕ → ℕ) → List Kept → ℕ → Bool
has_source hart writes counts ks s = list_any (λ k. is_source hart writes counts k && (k.hart == s)) ks

pub source_found : (hart : ℕ) (writes : Bool) (counts : ℕ → ℕ) (ks : List Kept) (s : ℕ) → has_source hart writes counts ks s ≡ true
    → (k : Kept) × In ks k × (is_source hart writes counts k ≡ true) × ((k.hart == s) ≡ true)
source_found hart writes counts ks s h =
    let k = any_found (λ (k : Kept). is_source hart writes counts k && (k.hart == s)) ks h in
    (k.0, k.1, and_left (is_source hart writes counts k.0) (k.0.hart == s) k.2, and_right (is_source hart writes counts k.0) (k.0.hart == s) k.2)

pub found_source : (hart : ℕ) (writes : Bool) (counts : ℕ → ℕ) (ks : List Kept) (s : ℕ) (k : Kept) → In ks k
    → is_source hart writes counts k ≡ true → (k.hart == s) ≡ true → has_source hart writes counts ks s ≡ true
found_source hart writes counts ks s k i t e =
    found_any (λ (k : Kept). is_source hart writes counts k && (k.hart == s)) ks k i (both (is_source hart writes counts k) (k.hart == s) t e)
