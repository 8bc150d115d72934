-- The bits that the lists of a cache have set are those of the warm words.
use Rattle.first_load_bits.proofs.Common.{◌≡◌, ◌≢◌, ℕ, zero, suc, ◌+◌, ◌*◌, ◌/◌, ◌%◌, ◌^◌, ◌<◌, ◌≤◌, true, false, ◌||◌, ◌==◌, List, [], ◌∷◌, length, take, drop, map, bit_or, Option, Some, None, is_some, refl, sym, ◌∙◌, ap, arith, inl, inr, div-div-eq-div-mul, div-add-mod', bit_at, false≢true, true≢false, eq-eqb, ne_eqb, cases_Bool, eqb_tells, Geometry, Event, word_of, line_of, set_of, second_of, Touch, Drop, Clear, fewer, with_first, later_lines, second_history, listed, falls, below, held, warm, Line, Levels, place_of, bits_of, all_but, put, lost, put_in, put_lost, taken_out, bits_known, touched_line, cleared, levels, is_set, in_front}
use Rattle.std.proofs.lemmas.Nat.Bits.{bit_at_or, bit_at-pow_same, bit_at-pow_other, bit_at-lt, bit_at-zero}
use Rattle.first_load_bits.proofs.Numbers.{among}
use Rattle.first_load_bits.proofs.Others.{tells, own, near, far}
use Rattle.first_load_bits.proofs.Listed.{later_touch_own, later_touch_near, later_touch_far}
use Rattle.first_load_bits.proofs.Order.{front_here, front_there, but_here, but_there, put_here, put_there, out_here, out_there, lines_law, length-lines_below}
use Rattle.first_load_bits.proofs.Second.{falls_from, falls_parts, is_last, one_falls}
use Rattle.first_load_bits.proofs.Below.{numbers, is_some-behind, lost_one, lost_falls, none_lost, parted_lines, distinct_lines, second_agrees}
use Rattle.first_load_bits.proofs.Warmth.{line_of_word, warm_touch_own, warm_touch_held, warm_touch_lost, warm_drop_own, warm_drop_other, held_listed, held_unlisted, held_touch_own, held_drop_own, listed_drop_other}

-- ---- the bits of a line in a list

pub bits_here : (l : ℕ) (x : Line) (xs : List Line) → x.number ≡ l → bits_of l (x ∷ xs) ≡ x.bits
bits_here l x xs e = rw (eq-eqb x.number l e, bits_of) refl

pub bits_there : (l : ℕ) (x : Line) (xs : List Line) → (x.number == l) ≡ false → bits_of l (x ∷ xs) ≡ bits_of l xs
bits_there l x xs e = rw (e, bits_of) refl

-- a list without another line
bits_of-all_but : (l k : ℕ) → k ≢ l → (xs : List Line) → bits_of l (all_but k xs) ≡ bits_of l xs
bits_of-all_but l k n [] = refl
bits_of-all_but l k n (x ∷ xs) = elim (eqb_tells x.number k) [
  | inl p ↦ ap (bits_of l) (but_here k x xs p.0) ∙ (bits_of-all_but l k n xs ∙ sym (bits_there l x xs (ne_eqb x.number l (λ q. n (sym p.1 ∙ q)))))
  | inr p ↦ ap (bits_of l) (but_there k x xs p.0) ∙ elim (eqb_tells x.number l) [
    | inl q ↦ bits_here l x (all_but k xs) q.1 ∙ sym (bits_here l x xs q.1)
    | inr q ↦ bits_there l x (all_but k xs) q.0 ∙ (bits_of-all_but l k n xs ∙ sym (bits_there l x xs q.0))
  ]
]

-- a list without the line
pub bits_of_gone : (l : ℕ) (xs : List Line) → bits_of l (all_but l xs) ≡ 0
bits_of_gone l [] = refl
bits_of_gone l (x ∷ xs) = elim (eqb_tells x.number l) [
  | inl p ↦ ap (bits_of l) (but_here l x xs p.0) ∙ bits_of_gone l xs
  | inr p ↦ ap (bits_of l) (but_there l x xs p.0) ∙ (bits_there l x (all_but l xs) p.0 ∙ bits_of_gone l xs)
]

bits_of-cleared : (l : ℕ) (xs : List Line) → bits_of l (map cleared xs) ≡ 0
bits_of-cleared l [] = refl
bits_of-cleared l (x ∷ xs) = elim (eqb_tells x.number l) [
  | inl p ↦ bits_here l (cleared x) (map cleared xs) p.1
  | inr p ↦ bits_there l (cleared x) (map cleared xs) p.0 ∙ bits_of-cleared l xs
]

-- a line that isn't in the list has no bits
bits_of_missing : (l : ℕ) (xs : List Line) → is_some (in_front l xs) ≡ false → bits_of l xs ≡ 0
bits_of_missing l [] h = refl
bits_of_missing l (x ∷ xs) h = elim (eqb_tells x.number l) [
  | inl p ↦ absurd (false≢true (sym h ∙ ap is_some (front_here l x xs p.1)))
  | inr p ↦ bits_there l x xs p.0 ∙ bits_of_missing l xs (sym (ap is_some (front_there l x xs p.0) ∙ is_some-behind x.number (in_front l xs)) ∙ h)
]

-- a line that is among the first keeps its bits
bits_of-take : (l n : ℕ) (xs : List Line) → is_some (in_front l (take n xs)) ≡ true → bits_of l (take n xs) ≡ bits_of l xs
bits_of-take l zero xs h = absurd (false≢true h)
bits_of-take l (suc n) [] h = refl
bits_of-take l (suc n) (x ∷ xs) h = elim (eqb_tells x.number l) [
  | inl p ↦ bits_here l x (take n xs) p.1 ∙ sym (bits_here l x xs p.1)
  | inr p ↦ bits_there l x (take n xs) p.0 ∙ (bits_of-take l n xs (sym (ap is_some (front_there l x (take n xs) p.0) ∙ is_some-behind x.number (in_front l (take n xs))) ∙ h) ∙ sym (bits_there l x xs p.0))
]

-- ---- words and places

place_of_word : (g : Geometry) (a b : ℕ) → word_of a ≡ word_of b → place_of g a ≡ place_of g b
place_of_word g a b e = ap (λ w. w % g.line) e

-- words of one line have places of their own
place_tells : (g : Geometry) (a b : ℕ) → line_of g a ≡ line_of g b → place_of g a ≡ place_of g b → word_of a ≡ word_of b
place_tells g a b e f =
    let same : word_of a / g.line ≡ word_of b / g.line = div-div-eq-div-mul a 4 g.line ∙ (e ∙ sym (div-div-eq-div-mul b 4 g.line)) in
    sym (div-add-mod' (word_of a) g.line) ∙ (ap (λ q. q * g.line + word_of a % g.line) same ∙ (ap (λ r. word_of b / g.line * g.line + r) f ∙ div-add-mod' (word_of b) g.line))

-- ---- a bit that is set

set_same : (m p : ℕ) → (bit_at (bit_or m (2 ^ p)) p == 1) ≡ true
set_same m p = eq-eqb (bit_at (bit_or m (2 ^ p)) p) 1 (omega (arith, bit_at_or m (2 ^ p) p, bit_at-pow_same p, bit_at-lt m p))

pub set_other : (m p q : ℕ) → q ≢ p → (bit_at (bit_or m (2 ^ p)) q == 1) ≡ (bit_at m q == 1)
set_other m p q n = let e : bit_at (bit_or m (2 ^ p)) q ≡ bit_at m q = omega (arith, bit_at_or m (2 ^ p) q, bit_at-pow_other p q n) in ap (λ b. b == 1) e

-- ---- the bits that are known

known_first : (g : Geometry) (l : ℕ) (ls : Levels) → is_some (in_front l (ls.first (set_of g l))) ≡ true → bits_known g l ls ≡ bits_of l (ls.first (set_of g l))
known_first g l ls e = rw (e, bits_known) refl

known_second : (g : Geometry) (l : ℕ) (ls : Levels) → is_some (in_front l (ls.first (set_of g l))) ≡ false → bits_known g l ls ≡ bits_of l (ls.second (set_of (second_of g) l))
known_second g l ls e = rw (e, bits_known) refl

same_set : (g : Geometry) (a m : ℕ) (ls : Levels) → bits_known g (line_of g a) ls ≡ m → is_set g a ls ≡ (bit_at m (place_of g a) == 1)
same_set g a m ls e = ap (λ n. bit_at n (place_of g a) == 1) e

none_set : (g : Geometry) (a : ℕ) (ls : Levels) → bits_known g (line_of g a) ls ≡ 0 → is_set g a ls ≡ false
none_set g a ls e = same_set g a 0 ls e ∙ ap (λ b. b == 1) (bit_at-zero (place_of g a))

-- ---- the bits of another line, when one is put in or taken out

out_bits : (g : Geometry) (l k j : ℕ) (ls : ℕ → List Line) → k ≢ l → bits_of l (taken_out g k ls j) ≡ bits_of l (ls j)
out_bits g l k j ls d = elim (eqb_tells (set_of g k) j) [
  | inl p ↦ ap (bits_of l) (out_here g k ls j p.0) ∙ bits_of-all_but l k d (ls j)
  | inr p ↦ ap (bits_of l) (out_there g k ls j p.0)
]

put_bits : (g : Geometry) (l j : ℕ) (x : Line) (ls : ℕ → List Line) → x.number ≢ l → is_some (in_front l (put_in g x ls j)) ≡ true → bits_of l (put_in g x ls j) ≡ bits_of l (ls j)
put_bits g l j x ls d h = elim (eqb_tells (set_of g x.number) j) [
  | inl p ↦
      let e = put_here g x ls j p.0 in
      ap (bits_of l) e ∙ (bits_of-take l g.ways (x ∷ all_but x.number (ls j)) (sym (ap (λ xs. is_some (in_front l xs)) e) ∙ h)
      ∙ (bits_there l x (all_but x.number (ls j)) (ne_eqb x.number l d) ∙ bits_of-all_but l x.number d (ls j)))
  | inr p ↦ ap (bits_of l) (put_there g x ls j p.0)
]

put_own_bits : (g : Geometry) (l : ℕ) (x : Line) (ls : ℕ → List Line) → 0 < g.ways → x.number ≡ l → bits_of l (put_in g x ls (set_of g l)) ≡ x.bits
put_own_bits g l x ls w e = ap (bits_of l) (put_here g x ls (set_of g l) (eq-eqb (set_of g x.number) (set_of g l) (ap (set_of g) e))) ∙ first g.ways w
  where
    first : (n : ℕ) → 0 < n → bits_of l (put n x (ls (set_of g l))) ≡ x.bits
    first zero h = absurd (omega arith)
    first (suc n) h = bits_here l x (take n (all_but x.number (ls (set_of g l)))) e

-- the line that has to go takes its bits with it
last_bits : (n : ℕ) (y : Line) (xs : List Line) → drop n xs ≡ y ∷ [] → among y.number (numbers (take n xs)) ≡ false → bits_of y.number xs ≡ y.bits
last_bits zero y xs e f = ap (bits_of y.number) e ∙ bits_here y.number y [] refl
last_bits (suc n) y [] e f = absurd cc
last_bits (suc n) y (x ∷ xs) e f = elim (eqb_tells x.number y.number) [
  | inl p ↦ absurd (true≢false (sym (ap (λ b. b || among y.number (numbers (take n xs))) p.0) ∙ f))
  | inr p ↦ bits_there y.number x xs p.0 ∙ last_bits n y xs e (sym (ap (λ b. b || among y.number (numbers (take n xs))) p.0) ∙ f)
]

-- ---- which lines the lists have

in_first : (g : Geometry) (l : ℕ) (es : List Event) → 0 < g.ways → is_some (in_front l ((levels g es).first (set_of g l))) ≡ listed g l es
in_first g l es w = ap is_some (lines_law g l es w)

pub nothing : (xs : List Line) → length xs ≤ 0 → xs ≡ []
nothing [] h = refl
nothing (x ∷ xs) h = absurd (omega arith)

in_second : (g : Geometry) (l : ℕ) (es : List Event) → 0 < g.ways → is_some (in_front l ((levels g es).second (set_of (second_of g) l))) ≡ below g l es
in_second g l es w = elim (eqb_tells g.ways2 0) [
  | inl e ↦ let none : (levels g es).second (set_of (second_of g) l) ≡ [] = nothing _ (omega (arith, e.1, length-lines_below g (set_of (second_of g) l) es)) in
      ap (λ xs. is_some (in_front l xs)) none ∙ sym (let f : below g l es ≡ false = rw (e.0, below) refl in f)
  | inr e ↦ let d : g.ways2 ≢ 0 = e.1 in let is : below g l es ≡ listed (second_of g) l (second_history g es) = rw (e.0, below) refl in
      ap is_some (second_agrees g es w (omega (arith, d)) l) ∙ sym is
]

-- a line that is listed after an access of another was listed before
listed_before : (g : Geometry) (l b : ℕ) (es : List Event) → line_of g b ≢ l → listed g l (Touch b ∷ es) ≡ true → listed g l es ≡ true
listed_before g l b es d h = elim (tells g l (line_of g b)) [
  | own e ↦ absurd (d e)
  | near t e r f ↦ before (later_lines g l es) (sym (ap is_some (later_touch_near g l b es t r)) ∙ h)
  | far t e r f ↦ sym (ap is_some (later_touch_far g l b es t r)) ∙ h
]
  where
    before : (o : Option (List ℕ)) → is_some (fewer g.ways (with_first (line_of g b) o)) ≡ true → is_some o ≡ true
    before None q = q
    before (Some ls) q = refl

-- ---- the law, event by event

-- an access of the line
touched_own : (g : Geometry) (a b : ℕ) (es : List Event) → 0 < g.ways → line_of g b ≡ line_of g a
    → bits_known g (line_of g a) (levels g (Touch b ∷ es)) ≡ bit_or (bits_known g (line_of g a) (levels g es)) (2 ^ place_of g b)
touched_own g a b es w e = let l = line_of g a in
    known_first g l (levels g (Touch b ∷ es)) (in_first g l (Touch b ∷ es) w ∙ ap is_some (later_touch_own g l b es (eq-eqb (line_of g b) l e)))
    ∙ (put_own_bits g l (touched_line g b (levels g es)) (levels g es).first w e ∙ ap (λ k. bit_or (bits_known g k (levels g es)) (2 ^ place_of g b)) e)

-- a line that stays listed
touched_stays : (g : Geometry) (a b : ℕ) (es : List Event) → 0 < g.ways → line_of g b ≢ line_of g a → listed g (line_of g a) (Touch b ∷ es) ≡ true
    → bits_known g (line_of g a) (levels g (Touch b ∷ es)) ≡ bits_known g (line_of g a) (levels g es)
touched_stays g a b es w d h = let l = line_of g a in
    let after = in_first g l (Touch b ∷ es) w ∙ h in
    known_first g l (levels g (Touch b ∷ es)) after
    ∙ (put_bits g l (set_of g l) (touched_line g b (levels g es)) (levels g es).first d after ∙ sym (known_first g l (levels g es) (in_first g l es w ∙ listed_before g l b es d h)))

-- a line that falls
touched_falls : (g : Geometry) (a b : ℕ) (es : List Event) → 0 < g.ways → line_of g b ≢ line_of g a → listed g (line_of g a) es ≡ true → listed g (line_of g a) (Touch b ∷ es) ≡ false
    → below g (line_of g a) (Touch b ∷ es) ≡ true → bits_of (line_of g a) ((levels g (Touch b ∷ es)).second (set_of (second_of g) (line_of g a))) ≡ bits_of (line_of g a) ((levels g es).first (set_of g (line_of g a)))
touched_falls g a b es w d p n h = elim (lost_one g b x es) [
  | inl e ↦ absurd (none_lost g b l es w e falls_now)
  | inr e ↦
      let y : Line = e.0 in
      let same : y.number ≡ l = one_falls g y.number l b es w (lost_falls g b y es w e.1) falls_now in
      ap (λ gone. bits_of l (put_lost (second_of g) gone out (set_of (second_of g) l))) e.1
      ∙ (put_own_bits (second_of g) l y out some same ∙ (sym (last_bits g.ways y zs e.1 (gone_from y e.1))
      ∙ (ap (λ k. bits_of k zs) same ∙ (bits_there l x (all_but x.number xs) (ne_eqb (line_of g b) l d) ∙ (bits_of-all_but l (line_of g b) d xs ∙ ap (λ s. bits_of l ((levels g es).first s)) set)))))
]
  where
    l : ℕ
    l = line_of g a

    x : Line
    x = touched_line g b (levels g es)

    xs : List Line
    xs = (levels g es).first (set_of g (line_of g b))

    zs : List Line
    zs = x ∷ all_but x.number xs

    out : ℕ → List Line
    out = taken_out (second_of g) (line_of g b) (levels g es).second

    falls_now : falls g l b es ≡ true
    falls_now = falls_from g l b es p n

    set : set_of g (line_of g b) ≡ set_of g l
    set = (is_last g l b es w falls_now).set

    some : 0 < g.ways2
    some = elim (eqb_tells g.ways2 0) [
      | inl e ↦ absurd (true≢false (sym h ∙ (let f : below g l (Touch b ∷ es) ≡ false = rw (e.0, below) refl in f)))
      | inr e ↦ let d : g.ways2 ≢ 0 = e.1 in omega (arith, d)
    ]

    gone_from : (y : Line) → lost g.ways x xs ≡ y ∷ [] → among y.number (numbers (take g.ways zs)) ≡ false
    gone_from y e = (parted_lines g.ways y zs (distinct_lines g b es) e)

-- a line that isn't listed, and stays below
touched_below : (g : Geometry) (a b : ℕ) (es : List Event) → 0 < g.ways → line_of g b ≢ line_of g a → listed g (line_of g a) es ≡ false → below g (line_of g a) (Touch b ∷ es) ≡ true
    → bits_of (line_of g a) ((levels g (Touch b ∷ es)).second (set_of (second_of g) (line_of g a))) ≡ bits_of (line_of g a) ((levels g es).second (set_of (second_of g) (line_of g a)))
touched_below g a b es w d n h = let l = line_of g a in let s = set_of (second_of g) l in elim (lost_one g b (touched_line g b (levels g es)) es) [
  | inl e ↦
      ap (λ gone. bits_of l (put_lost (second_of g) gone (taken_out (second_of g) (line_of g b) (levels g es).second) s)) e ∙ out_bits (second_of g) l (line_of g b) s (levels g es).second d
  | inr e ↦
      let y : Line = e.0 in
      let other : y.number ≢ l = λ q. true≢false (sym (ap (λ k. listed g k es) (sym q) ∙ (falls_parts g y.number b es (lost_falls g b y es w e.1)).0) ∙ n) in
      let out = taken_out (second_of g) (line_of g b) (levels g es).second in
      let there : is_some (in_front l (put_in (second_of g) y out s)) ≡ true = sym (ap (λ gone. is_some (in_front l (put_lost (second_of g) gone out s))) e.1) ∙ (in_second g l (Touch b ∷ es) w ∙ h) in
      ap (λ gone. bits_of l (put_lost (second_of g) gone out s)) e.1 ∙ (put_bits (second_of g) l s y out other there ∙ out_bits (second_of g) l (line_of g b) s (levels g es).second d)
]

-- the bits of a line that is still held after an access of another line, and of one that isn't
touched_other : (g : Geometry) (a b : ℕ) (es : List Event) → 0 < g.ways → line_of g b ≢ line_of g a → held g (line_of g a) (Touch b ∷ es) ≡ true
    → bits_known g (line_of g a) (levels g (Touch b ∷ es)) ≡ bits_known g (line_of g a) (levels g es)
touched_other g a b es w d h = let l = line_of g a in elim (cases_Bool (listed g l (Touch b ∷ es))) [
  | inl t ↦ touched_stays g a b es w d t
  | inr f ↦
      let low : below g l (Touch b ∷ es) ≡ true = sym (held_unlisted g l (Touch b ∷ es) f) ∙ h in
      known_second g l (levels g (Touch b ∷ es)) (in_first g l (Touch b ∷ es) w ∙ f) ∙ elim (cases_Bool (listed g l es)) [
        | inl p ↦ touched_falls g a b es w d p f low ∙ sym (known_first g l (levels g es) (in_first g l es w ∙ p))
        | inr n ↦ touched_below g a b es w d n low ∙ sym (known_second g l (levels g es) (in_first g l es w ∙ n))
      ]
]

unheld : (g : Geometry) (l : ℕ) (es : List Event) → 0 < g.ways → held g l es ≡ false → bits_known g l (levels g es) ≡ 0
unheld g l es w h = elim (cases_Bool (listed g l es)) [
  | inl t ↦ absurd (true≢false (sym (held_listed g l es t) ∙ h))
  | inr f ↦ known_second g l (levels g es) (in_first g l es w ∙ f)
      ∙ bits_of_missing l ((levels g es).second (set_of (second_of g) l)) (in_second g l es w ∙ (sym (held_unlisted g l es f) ∙ h))
]

-- a drop of another line, and a clear
dropped_other : (g : Geometry) (l b : ℕ) (es : List Event) → 0 < g.ways → line_of g b ≢ l → bits_known g l (levels g (Drop b ∷ es)) ≡ bits_known g l (levels g es)
dropped_other g l b es w d = elim (cases_Bool (listed g l es)) [
  | inl t ↦
      known_first g l (levels g (Drop b ∷ es)) (in_first g l (Drop b ∷ es) w ∙ (same ∙ t))
      ∙ (out_bits g l (line_of g b) (set_of g l) (levels g es).first d ∙ sym (known_first g l (levels g es) (in_first g l es w ∙ t)))
  | inr f ↦
      known_second g l (levels g (Drop b ∷ es)) (in_first g l (Drop b ∷ es) w ∙ (same ∙ f))
      ∙ (out_bits (second_of g) l (line_of g b) (set_of (second_of g) l) (levels g es).second d ∙ sym (known_second g l (levels g es) (in_first g l es w ∙ f)))
]
  where
    same : listed g l (Drop b ∷ es) ≡ listed g l es
    same = listed_drop_other g l b es (ne_eqb (line_of g b) l d)

cleared_bits : (g : Geometry) (l : ℕ) (es : List Event) → 0 < g.ways → bits_known g l (levels g (Clear ∷ es)) ≡ 0
cleared_bits g l es w = elim (cases_Bool (listed g l (Clear ∷ es))) [
  | inl t ↦ known_first g l (levels g (Clear ∷ es)) (in_first g l (Clear ∷ es) w ∙ t) ∙ bits_of-cleared l ((levels g es).first (set_of g l))
  | inr f ↦ known_second g l (levels g (Clear ∷ es)) (in_first g l (Clear ∷ es) w ∙ f) ∙ bits_of-cleared l ((levels g es).second (set_of (second_of g) l))
]

-- the bits that are set are those of the warm words
pub bits_law : (g : Geometry) (a : ℕ) (es : List Event) → 0 < g.ways → is_set g a (levels g es) ≡ warm g a es
bits_law g a [] w = none_set g a (levels g []) refl
bits_law g a (Touch b ∷ es) w = let l = line_of g a in elim (eqb_tells (word_of b) (word_of a)) [
  | inl p ↦
      same_set g a (bit_or (bits_known g l (levels g es)) (2 ^ place_of g b)) (levels g (Touch b ∷ es)) (touched_own g a b es w (line_of_word g b a p.1))
      ∙ (ap (λ q. bit_at (bit_or (bits_known g l (levels g es)) (2 ^ place_of g b)) q == 1) (sym (place_of_word g b a p.1)) ∙ (set_same (bits_known g l (levels g es)) (place_of g b) ∙ sym (warm_touch_own g a b es p.0)))
  | inr p ↦ elim (eqb_tells (line_of g b) l) [
    | inl e ↦
        same_set g a (bit_or (bits_known g l (levels g es)) (2 ^ place_of g b)) (levels g (Touch b ∷ es)) (touched_own g a b es w e.1)
        ∙ (set_other (bits_known g l (levels g es)) (place_of g b) (place_of g a) (λ f. p.1 (place_tells g b a e.1 (sym f))) ∙ (bits_law g a es w ∙ sym (warm_touch_held g a b es p.0 (held_touch_own g l b es e.1))))
    | inr e ↦ elim (cases_Bool (held g l (Touch b ∷ es))) [
      | inl h ↦ same_set g a (bits_known g l (levels g es)) (levels g (Touch b ∷ es)) (touched_other g a b es w e.1 h) ∙ (bits_law g a es w ∙ sym (warm_touch_held g a b es p.0 h))
      | inr h ↦ none_set g a (levels g (Touch b ∷ es)) (unheld g l (Touch b ∷ es) w h) ∙ sym (warm_touch_lost g a b es p.0 h)
    ]
  ]
]
bits_law g a (Drop b ∷ es) w = let l = line_of g a in elim (eqb_tells (line_of g b) l) [
  | inl e ↦ none_set g a (levels g (Drop b ∷ es)) (unheld g l (Drop b ∷ es) w (held_drop_own g l b es e.1)) ∙ sym (warm_drop_own g a b es e.0)
  | inr e ↦ same_set g a (bits_known g l (levels g es)) (levels g (Drop b ∷ es)) (dropped_other g l b es w e.1) ∙ (bits_law g a es w ∙ sym (warm_drop_other g a b es e.0))
]
bits_law g a (Clear ∷ es) w = none_set g a (levels g (Clear ∷ es)) (cleared_bits g (line_of g a) es w)
