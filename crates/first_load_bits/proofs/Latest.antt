-- The lines that the ways of a set list, the one touched latest first, and what a change of one way does to them.
use Rattle.std.specs.Prelude.{nat_lt}
use Rattle.std.proofs.lemmas.Bool.{le-ltb}
use Rattle.first_load_bits.proofs.Common.{is_some, ◌||◌, ◌≡◌, ◌≢◌, ℕ, zero, suc, ◌+◌, ◌<◌, ◌≤◌, true, false, ◌==◌, List, [], ◌∷◌, ◌++◌, length, set, length-append, append_assoc, add-one, map, All, refl, sym, ◌∙◌, ap, ap₂, arith, inl, inr, eq-eqb, ne_eqb, cases_lt, or_left, or_right, eqb_tells, nat_tests, map-append, All-cons, All-head, All-tail, All-weaker, Way, Line, bits_of, all_but, cleared, in_front, has_line, line_in, of_age, latest_first}
use Rattle.first_load_bits.proofs.Order.{front_here, front_there, but_here, but_there}
use Rattle.first_load_bits.proofs.Below.{is_some-behind}
use Rattle.first_load_bits.proofs.Bits.{bits_here, bits_there}

-- the ways but the one at a place
abbrev pub others_of : List Way → ℕ → List Way
others_of [] i = []
others_of (w ∷ ws) zero = ws
others_of (w ∷ ws) (suc i) = w ∷ others_of ws i

pub length-others : (ws : List Way) (i : ℕ) → i < length ws → length ws ≡ suc (length (others_of ws i))
length-others [] i h = absurd (omega arith)
length-others (w ∷ ws) zero h = refl
length-others (w ∷ ws) (suc i) h = ap suc (length-others ws i (omega arith))

pub All-others : (P : Way → Type 0) (ws : List Way) (i : ℕ) → All P ws → All P (others_of ws i)
All-others P [] i h = h
All-others P (w ∷ ws) zero h = All-tail P w ws h
All-others P (w ∷ ws) (suc i) h = All-cons P w (others_of ws i) (All-head P w ws h) (All-others P ws i (All-tail P w ws h))

-- ---- the lines of one age

of_here : (g n : ℕ) (w : Way) (ws : List Way) → w.age ≡ n → of_age g n (w ∷ ws) ≡ line_in g w ∷ of_age g n ws
of_here g n w ws e = rw (eq-eqb w.age n e, of_age) refl

of_there : (g n : ℕ) (w : Way) (ws : List Way) → (w.age == n) ≡ false → of_age g n (w ∷ ws) ≡ of_age g n ws
of_there g n w ws e = rw (e, of_age) refl

of_none : (g n : ℕ) (ws : List Way) → All (λ w. w.age ≢ n) ws → of_age g n ws ≡ []
of_none g n [] h = refl
of_none g n (w ∷ ws) h = of_there g n w ws (ne_eqb w.age n (All-head (λ w. w.age ≢ n) w ws h)) ∙ of_none g n ws (All-tail (λ w. w.age ≢ n) w ws h)

-- a way of another age counts for nothing
of_other : (g n : ℕ) (v : Way) (ws : List Way) (i : ℕ) → i < length ws → v.age ≢ n → of_age g n (set ws i v) ≡ of_age g n (others_of ws i)
of_other g n v [] i h e = absurd (omega arith)
of_other g n v (w ∷ ws) zero h e = of_there g n v ws (ne_eqb v.age n e)
of_other g n v (w ∷ ws) (suc i) h e = elim (eqb_tells w.age n) [
  | inl p ↦ of_here g n w (set ws i v) p.1 ∙ (ap (λ xs. line_in g w ∷ xs) (of_other g n v ws i (omega arith) e) ∙ sym (of_here g n w (others_of ws i) p.1))
  | inr p ↦ of_there g n w (set ws i v) p.0 ∙ (of_other g n v ws i (omega arith) e ∙ sym (of_there g n w (others_of ws i) p.0))
]

-- the only way of its age
of_only : (g n : ℕ) (v : Way) (ws : List Way) (i : ℕ) → i < length ws → v.age ≡ n → All (λ w. w.age ≢ n) (others_of ws i) → of_age g n (set ws i v) ≡ line_in g v ∷ []
of_only g n v [] i h e o = absurd (omega arith)
of_only g n v (w ∷ ws) zero h e o = of_here g n v ws e ∙ ap (λ xs. line_in g v ∷ xs) (of_none g n ws o)
of_only g n v (w ∷ ws) (suc i) h e o =
    of_there g n w (set ws i v) (ne_eqb w.age n (All-head (λ w. w.age ≢ n) w (others_of ws i) o)) ∙ of_only g n v ws i (omega arith) e (All-tail (λ w. w.age ≢ n) w (others_of ws i) o)

-- ---- the lines of the ages from n down

above : (n : ℕ) (ws : List Way) → All (λ w. w.age ≤ n) ws → All (λ w. w.age ≢ suc n) ws
above n ws h = All-weaker (λ w. w.age ≤ n) (λ w. w.age ≢ suc n) (λ w l e. omega arith) ws h

-- no way is of the next age
pub latest_next : (g n : ℕ) (ws : List Way) → All (λ w. w.age ≤ n) ws → latest_first g (n + 1) ws ≡ latest_first g n ws
latest_next g n ws h = ap (λ k. latest_first g k ws) (add-one n) ∙ ap (λ xs. xs ++ latest_first g n ws) (of_none g (suc n) ws (above n ws h))

latest_none : (g n : ℕ) (ws : List Way) → All (λ w. n < w.age) ws → latest_first g n ws ≡ []
latest_none g zero ws h = refl
latest_none g (suc n) ws h =
    ap (λ xs. xs ++ latest_first g n ws) (of_none g (suc n) ws (All-weaker (λ w. suc n < w.age) (λ w. w.age ≢ suc n) (λ w l e. omega arith) ws h))
    ∙ latest_none g n ws (All-weaker (λ w. suc n < w.age) (λ w. n < w.age) (λ w l. omega arith) ws h)

-- a way that is empty, or of a later age, counts for nothing
pub latest_other : (g n : ℕ) (v : Way) (ws : List Way) (i : ℕ) → i < length ws → ((m : ℕ) → m < n → v.age ≢ suc m) → latest_first g n (set ws i v) ≡ latest_first g n (others_of ws i)
latest_other g zero v ws i l h = refl
latest_other g (suc n) v ws i l h = ap₂ (λ xs ys. xs ++ ys) (of_other g (suc n) v ws i l (h n (omega arith))) (latest_other g n v ws i l (λ m k. h m (omega arith)))

-- the way touched latest comes first
pub latest_newest : (g n : ℕ) (v : Way) (ws : List Way) (i : ℕ) → i < length ws → v.age ≡ suc n → All (λ w. w.age ≤ n) (others_of ws i)
    → latest_first g (suc n) (set ws i v) ≡ line_in g v ∷ latest_first g n (others_of ws i)
latest_newest g n v ws i l e o = ap₂ (λ xs ys. xs ++ ys) (of_only g (suc n) v ws i l e (above n (others_of ws i) o)) (latest_other g n v ws i l (λ m k q. omega arith))

-- and the one touched longest ago comes last
pub latest_oldest : (g n : ℕ) (v : Way) (ws : List Way) (i : ℕ) → i < length ws → 0 < v.age → v.age ≤ n → All (λ w. v.age < w.age) (others_of ws i)
    → latest_first g n (set ws i v) ≡ latest_first g n (others_of ws i) ++ line_in g v ∷ []
latest_oldest g zero v ws i l p q o = absurd (omega arith)
latest_oldest g (suc n) v ws i l p q o = let rest = others_of ws i in elim (eqb_tells v.age (suc n)) [
  | inl e ↦
      let later : All (λ w. suc n < w.age) rest = All-weaker (λ w. v.age < w.age) (λ w. suc n < w.age) (λ w k. omega (arith, e.1)) rest o in
      let apart : All (λ w. w.age ≢ suc n) rest = All-weaker (λ w. suc n < w.age) (λ w. w.age ≢ suc n) (λ w k q. omega arith) rest later in
      let none : latest_first g n rest ≡ [] = latest_none g n rest (All-weaker (λ w. suc n < w.age) (λ w. n < w.age) (λ w k. omega arith) rest later) in
      ap₂ (λ xs ys. xs ++ ys) (of_only g (suc n) v ws i l e.1 apart) (latest_other g n v ws i l (λ m k q. omega (arith, e.1)) ∙ none)
      ∙ ap (λ xs. xs ++ line_in g v ∷ []) (sym (latest_none g (suc n) rest later))
  | inr e ↦
      ap₂ (λ xs ys. xs ++ ys) (of_other g (suc n) v ws i l e.1) (latest_oldest g n v ws i l p (let d : v.age ≢ suc n = e.1 in omega (arith, q, d)) o)
      ∙ sym (append_assoc (of_age g (suc n) rest) (latest_first g n rest) (line_in g v ∷ []))
]

-- ---- how many they are

pub latest_nil : (g n : ℕ) → latest_first g n [] ≡ []
latest_nil g zero = refl
latest_nil g (suc n) = latest_nil g n

uncounted : (g n : ℕ) (w : Way) (ws : List Way) → ((m : ℕ) → m < n → w.age ≢ suc m) → latest_first g n (w ∷ ws) ≡ latest_first g n ws
uncounted g zero w ws h = refl
uncounted g (suc n) w ws h = ap₂ (λ xs ys. xs ++ ys) (of_there g (suc n) w ws (ne_eqb w.age (suc n) (h n (omega arith)))) (uncounted g n w ws (λ m k. h m (omega arith)))

counted : (g n : ℕ) (w : Way) (ws : List Way) → 0 < w.age → w.age ≤ n → length (latest_first g n (w ∷ ws)) ≡ suc (length (latest_first g n ws))
counted g zero w ws p q = absurd (omega arith)
counted g (suc n) w ws p q = elim (eqb_tells w.age (suc n)) [
  | inl e ↦ ap length (ap₂ (λ xs ys. xs ++ ys) (of_here g (suc n) w ws e.1) (uncounted g n w ws (λ m k r. omega (arith, e.1))))
  | inr e ↦
      let rest : length (latest_first g n (w ∷ ws)) ≡ suc (length (latest_first g n ws)) = counted g n w ws p (let d : w.age ≢ suc n = e.1 in omega (arith, q, d)) in
      ap (λ xs. length (xs ++ latest_first g n (w ∷ ws))) (of_there g (suc n) w ws e.0)
      ∙ (length-append (of_age g (suc n) ws) (latest_first g n (w ∷ ws)) ∙ omega (arith, rest, length-append (of_age g (suc n) ws) (latest_first g n ws)))
]

pub length-latest : (g n : ℕ) (ws : List Way) → length (latest_first g n ws) ≤ length ws
length-latest g n [] = omega (arith, ap length (latest_nil g n))
length-latest g n (w ∷ ws) = elim (cases_lt n w.age) [
  | inl k ↦ omega (arith, ap length (uncounted g n w ws (λ m l r. omega arith)), length-latest g n ws)
  | inr k ↦ elim (cases_lt 0 w.age) [
    | inl p ↦ omega (arith, counted g n w ws p k, length-latest g n ws)
    | inr p ↦ omega (arith, ap length (uncounted g n w ws (λ m l r. omega arith)), length-latest g n ws)
  ]
]

pub length-latest_full : (g n : ℕ) (ws : List Way) → All (λ w. (0 < w.age) × (w.age ≤ n)) ws → length (latest_first g n ws) ≡ length ws
length-latest_full g n [] h = ap length (latest_nil g n)
length-latest_full g n (w ∷ ws) h =
    let here = All-head (λ w. (0 < w.age) × (w.age ≤ n)) w ws h in
    counted g n w ws here.0 here.1 ∙ ap suc (length-latest_full g n ws (All-tail (λ w. (0 < w.age) × (w.age ≤ n)) w ws h))

-- ---- the lines but one

but_append : (l : ℕ) (xs ys : List Line) → all_but l (xs ++ ys) ≡ all_but l xs ++ all_but l ys
but_append l [] ys = refl
but_append l (x ∷ xs) ys = elim (eqb_tells x.number l) [
  | inl p ↦ but_here l x (xs ++ ys) p.0 ∙ (but_append l xs ys ∙ ap (λ zs. zs ++ all_but l ys) (sym (but_here l x xs p.0)))
  | inr p ↦ but_there l x (xs ++ ys) p.0 ∙ (ap (λ zs. x ∷ zs) (but_append l xs ys) ∙ ap (λ zs. zs ++ all_but l ys) (sym (but_there l x xs p.0)))
]

-- a way that isn't empty and hasn't the line is another line's
other_line : (l : ℕ) (w : Way) → has_line l w ≡ false → 0 < w.age → (w.line == l) ≡ false
other_line l w h p = grind (arith, nat_tests)

but_none_of : (g n l : ℕ) (ws : List Way) → All (λ w. has_line l w ≡ false) ws → all_but l (of_age g (suc n) ws) ≡ of_age g (suc n) ws
but_none_of g n l [] h = refl
but_none_of g n l (w ∷ ws) h = let rest = but_none_of g n l ws (All-tail (λ w. has_line l w ≡ false) w ws h) in elim (eqb_tells w.age (suc n)) [
  | inl p ↦
      let other : (w.line == l) ≡ false = other_line l w (All-head (λ w. has_line l w ≡ false) w ws h) (omega (arith, p.1)) in
      ap (all_but l) (of_here g (suc n) w ws p.1) ∙ (but_there l (line_in g w) (of_age g (suc n) ws) other ∙ (ap (λ xs. line_in g w ∷ xs) rest ∙ sym (of_here g (suc n) w ws p.1)))
  | inr p ↦ ap (all_but l) (of_there g (suc n) w ws p.0) ∙ (rest ∙ sym (of_there g (suc n) w ws p.0))
]

-- a line that no way has
pub but_none : (g n l : ℕ) (ws : List Way) → All (λ w. has_line l w ≡ false) ws → all_but l (latest_first g n ws) ≡ latest_first g n ws
but_none g zero l ws h = refl
but_none g (suc n) l ws h = but_append l (of_age g (suc n) ws) (latest_first g n ws) ∙ ap₂ (λ xs ys. xs ++ ys) (but_none_of g n l ws h) (but_none g n l ws h)

but_only_of : (g n l : ℕ) (v : Way) (ws : List Way) (i : ℕ) → i < length ws → v.line ≡ l → All (λ w. has_line l w ≡ false) (others_of ws i)
    → all_but l (of_age g (suc n) (set ws i v)) ≡ of_age g (suc n) (others_of ws i)
but_only_of g n l v [] i k e h = absurd (omega arith)
but_only_of g n l v (w ∷ ws) zero k e h = elim (eqb_tells v.age (suc n)) [
  | inl p ↦ ap (all_but l) (of_here g (suc n) v ws p.1) ∙ (but_here l (line_in g v) (of_age g (suc n) ws) (eq-eqb v.line l e) ∙ but_none_of g n l ws h)
  | inr p ↦ ap (all_but l) (of_there g (suc n) v ws p.0) ∙ but_none_of g n l ws h
]
but_only_of g n l v (w ∷ ws) (suc i) k e h =
    let rest = but_only_of g n l v ws i (omega arith) e (All-tail (λ w. has_line l w ≡ false) w (others_of ws i) h) in
    elim (eqb_tells w.age (suc n)) [
      | inl p ↦
          let other : (w.line == l) ≡ false = other_line l w (All-head (λ w. has_line l w ≡ false) w (others_of ws i) h) (omega (arith, p.1)) in
          ap (all_but l) (of_here g (suc n) w (set ws i v) p.1)
          ∙ (but_there l (line_in g w) (of_age g (suc n) (set ws i v)) other ∙ (ap (λ xs. line_in g w ∷ xs) rest ∙ sym (of_here g (suc n) w (others_of ws i) p.1)))
      | inr p ↦ ap (all_but l) (of_there g (suc n) w (set ws i v) p.0) ∙ (rest ∙ sym (of_there g (suc n) w (others_of ws i) p.0))
    ]

-- a line that one way alone has
pub but_only : (g n l : ℕ) (v : Way) (ws : List Way) (i : ℕ) → i < length ws → v.line ≡ l → All (λ w. has_line l w ≡ false) (others_of ws i)
    → all_but l (latest_first g n (set ws i v)) ≡ latest_first g n (others_of ws i)
but_only g zero l v ws i k e h = refl
but_only g (suc n) l v ws i k e h = but_append l (of_age g (suc n) (set ws i v)) (latest_first g n (set ws i v)) ∙ ap₂ (λ xs ys. xs ++ ys) (but_only_of g n l v ws i k e h) (but_only g n l v ws i k e h)

-- ---- the bits of one line

bits_past : (g n l : ℕ) (ws : List Way) (ys : List Line) → All (λ w. has_line l w ≡ false) ws → bits_of l (of_age g (suc n) ws ++ ys) ≡ bits_of l ys
bits_past g n l [] ys h = refl
bits_past g n l (w ∷ ws) ys h = let rest = bits_past g n l ws ys (All-tail (λ w. has_line l w ≡ false) w ws h) in elim (eqb_tells w.age (suc n)) [
  | inl p ↦
      let other : (w.line == l) ≡ false = other_line l w (All-head (λ w. has_line l w ≡ false) w ws h) (omega (arith, p.1)) in
      ap (λ xs. bits_of l (xs ++ ys)) (of_here g (suc n) w ws p.1) ∙ (bits_there l (line_in g w) (of_age g (suc n) ws ++ ys) other ∙ rest)
  | inr p ↦ ap (λ xs. bits_of l (xs ++ ys)) (of_there g (suc n) w ws p.0) ∙ rest
]

bits_at : (g n l : ℕ) (v : Way) (ws : List Way) (ys : List Line) (i : ℕ) → i < length ws → v.line ≡ l → v.age ≡ suc n → All (λ w. has_line l w ≡ false) (others_of ws i)
    → bits_of l (of_age g (suc n) (set ws i v) ++ ys) ≡ (line_in g v).bits
bits_at g n l v [] ys i k e a h = absurd (omega arith)
bits_at g n l v (w ∷ ws) ys zero k e a h = ap (λ xs. bits_of l (xs ++ ys)) (of_here g (suc n) v ws a) ∙ bits_here l (line_in g v) (of_age g (suc n) ws ++ ys) e
bits_at g n l v (w ∷ ws) ys (suc i) k e a h =
    let rest = bits_at g n l v ws ys i (omega arith) e a (All-tail (λ w. has_line l w ≡ false) w (others_of ws i) h) in
    elim (eqb_tells w.age (suc n)) [
      | inl p ↦
          let other : (w.line == l) ≡ false = other_line l w (All-head (λ w. has_line l w ≡ false) w (others_of ws i) h) (omega (arith, p.1)) in
          ap (λ xs. bits_of l (xs ++ ys)) (of_here g (suc n) w (set ws i v) p.1) ∙ (bits_there l (line_in g w) (of_age g (suc n) (set ws i v) ++ ys) other ∙ rest)
      | inr p ↦ ap (λ xs. bits_of l (xs ++ ys)) (of_there g (suc n) w (set ws i v) p.0) ∙ rest
    ]

-- of a line that one way alone has
pub bits_only : (g n l : ℕ) (v : Way) (ws : List Way) (i : ℕ) → i < length ws → v.line ≡ l → 0 < v.age → v.age ≤ n → All (λ w. has_line l w ≡ false) (others_of ws i)
    → bits_of l (latest_first g n (set ws i v)) ≡ (line_in g v).bits
bits_only g zero l v ws i k e p q h = absurd (omega arith)
bits_only g (suc n) l v ws i k e p q h = elim (eqb_tells v.age (suc n)) [
  | inl a ↦ bits_at g n l v ws (latest_first g n (set ws i v)) i k e a.1 h
  | inr a ↦
      ap (λ xs. bits_of l (xs ++ latest_first g n (set ws i v))) (of_other g (suc n) v ws i k a.1)
      ∙ (bits_past g n l (others_of ws i) (latest_first g n (set ws i v)) h ∙ bits_only g n l v ws i k e p (let d : v.age ≢ suc n = a.1 in omega (arith, q, d)) h)
]

-- ---- a line that a way has is listed

front_append : (l : ℕ) (xs ys : List Line) → is_some (in_front l (xs ++ ys)) ≡ (is_some (in_front l xs) || is_some (in_front l ys))
front_append l [] ys = refl
front_append l (x ∷ xs) ys = elim (eqb_tells x.number l) [
  | inl p ↦ ap is_some (front_here l x (xs ++ ys) p.1) ∙ sym (ap (λ o. is_some o || is_some (in_front l ys)) (front_here l x xs p.1))
  | inr p ↦ ap is_some (front_there l x (xs ++ ys) p.0) ∙ (is_some-behind x.number (in_front l (xs ++ ys))
      ∙ (front_append l xs ys ∙ sym (ap (λ o. is_some o || is_some (in_front l ys)) (front_there l x xs p.0) ∙ ap (λ b. b || is_some (in_front l ys)) (is_some-behind x.number (in_front l xs)))))
]

front_at : (g n l : ℕ) (v : Way) (ws : List Way) (i : ℕ) → i < length ws → v.line ≡ l → v.age ≡ n → is_some (in_front l (of_age g n (set ws i v))) ≡ true
front_at g n l v [] i k e a = absurd (omega arith)
front_at g n l v (w ∷ ws) zero k e a = ap (λ xs. is_some (in_front l xs)) (of_here g n v ws a) ∙ ap is_some (front_here l (line_in g v) (of_age g n ws) e)
front_at g n l v (w ∷ ws) (suc i) k e a = let rest = front_at g n l v ws i (omega arith) e a in elim (eqb_tells w.age n) [
  | inl p ↦ ap (λ xs. is_some (in_front l xs)) (of_here g n w (set ws i v) p.1) ∙ (front_append l (line_in g w ∷ []) (of_age g n (set ws i v)) ∙ or_right _ _ rest)
  | inr p ↦ ap (λ xs. is_some (in_front l xs)) (of_there g n w (set ws i v) p.0) ∙ rest
]

pub front_only : (g n l : ℕ) (v : Way) (ws : List Way) (i : ℕ) → i < length ws → v.line ≡ l → 0 < v.age → v.age ≤ n → is_some (in_front l (latest_first g n (set ws i v))) ≡ true
front_only g zero l v ws i k e p q = absurd (omega arith)
front_only g (suc n) l v ws i k e p q = front_append l (of_age g (suc n) (set ws i v)) (latest_first g n (set ws i v)) ∙ elim (eqb_tells v.age (suc n)) [
  | inl a ↦ or_left _ _ (front_at g (suc n) l v ws i k e a.1)
  | inr a ↦ or_right _ _ (front_only g n l v ws i k e p (let d : v.age ≢ suc n = a.1 in omega (arith, q, d)))
]

-- ---- a clear that is later than all touches

cleared_line : (g next m : ℕ) (w : Way) → w.age ≤ m → m < next → line_in next w ≡ cleared (line_in g w)
cleared_line g next m w h k = let old : nat_lt next w.age ≡ false = le-ltb next w.age (omega (arith, h, k)) in rw (old, line_in) refl

cleared_of : (g next m n : ℕ) (ws : List Way) → All (λ w. w.age ≤ m) ws → m < next → of_age next n ws ≡ map cleared (of_age g n ws)
cleared_of g next m n [] h k = refl
cleared_of g next m n (w ∷ ws) h k = let rest = cleared_of g next m n ws (All-tail (λ w. w.age ≤ m) w ws h) k in elim (eqb_tells w.age n) [
  | inl p ↦ of_here next n w ws p.1 ∙ (ap₂ (λ x xs. x ∷ xs) (cleared_line g next m w (All-head (λ w. w.age ≤ m) w ws h) k) rest ∙ ap (map cleared) (sym (of_here g n w ws p.1)))
  | inr p ↦ of_there next n w ws p.0 ∙ (rest ∙ ap (map cleared) (sym (of_there g n w ws p.0)))
]

pub cleared_latest : (g next m n : ℕ) (ws : List Way) → All (λ w. w.age ≤ m) ws → m < next → latest_first next n ws ≡ map cleared (latest_first g n ws)
cleared_latest g next m zero ws h k = refl
cleared_latest g next m (suc n) ws h k =
    ap₂ (λ xs ys. xs ++ ys) (cleared_of g next m (suc n) ws h k) (cleared_latest g next m n ws h k) ∙ sym (map-append cleared (of_age g (suc n) ws) (latest_first g n ws))
