-- The lists of the second level list the lines that are below, in the order of their falls.
use Rattle.first_load_bits.proofs.Common.{◌≡◌, ◌≢◌, ℕ, zero, suc, ◌*◌, ◌/◌, ◌<◌, ◌≤◌, ◌⊎◌, true, false, not, ◌&&◌, ◌||◌, ◌==◌, List, [], ◌∷◌, ◌++◌, append-nil, take-append-drop, eq-zero-or-pos, add-zero, length, take, drop, map, Option, Some, None, is_some, refl, sym, ◌∙◌, ap, arith, subst, inl, inr, div-zero, div-mul-add, false≢true, true≢false, eq-eqb, ne_eqb, eqb_tells, Geometry, Event, line_of, set_of, second_of, line_start, Touch, Drop, Clear, Line, all_but, put, lost, put_in, put_lost, taken_out, touched_line, cleared, levels, in_front, behind, except, listed, falls, fallen_among, with_fall, second_history}
use Rattle.first_load_bits.proofs.Numbers.{among, among_except, among_take, except_here, except_there, IsDistinct, IsDistinct-except, IsDistinct-take}
use Rattle.first_load_bits.proofs.Second.{falls_parts, falls_from, is_last, fallen_touched, fallen_falls, fallen_is}
use Rattle.first_load_bits.proofs.Order.{Agrees, agrees_put, agrees_out, agrees_clear, first_agrees, put_here, put_there, out_here, out_there, front_here, front_there, but_here, but_there, length-all_but, length-lines}

-- ---- the numbers of the lines in a list

abbrev pub numbers : List Line → List ℕ
numbers [] = []
numbers (x ∷ xs) = x.number ∷ numbers xs

numbers-all_but : (k : ℕ) (xs : List Line) → numbers (all_but k xs) ≡ except k (numbers xs)
numbers-all_but k [] = refl
numbers-all_but k (x ∷ xs) = elim (eqb_tells x.number k) [
  | inl p ↦ ap numbers (but_here k x xs p.0) ∙ (numbers-all_but k xs ∙ sym (except_here k x.number (numbers xs) p.0))
  | inr p ↦ ap numbers (but_there k x xs p.0) ∙ (ap (λ ks. x.number ∷ ks) (numbers-all_but k xs) ∙ sym (except_there k x.number (numbers xs) p.0))
]

numbers-take : (n : ℕ) (xs : List Line) → numbers (take n xs) ≡ take n (numbers xs)
numbers-take zero xs = refl
numbers-take (suc n) [] = refl
numbers-take (suc n) (x ∷ xs) = ap (λ ks. x.number ∷ ks) (numbers-take n xs)

numbers-drop : (n : ℕ) (xs : List Line) → numbers (drop n xs) ≡ drop n (numbers xs)
numbers-drop zero xs = refl
numbers-drop (suc n) [] = refl
numbers-drop (suc n) (x ∷ xs) = numbers-drop n xs

numbers-cleared : (xs : List Line) → numbers (map cleared xs) ≡ numbers xs
numbers-cleared [] = refl
numbers-cleared (x ∷ xs) = ap (λ ks. x.number ∷ ks) (numbers-cleared xs)

numbers-put : (n : ℕ) (x : Line) (xs : List Line) → numbers (put n x xs) ≡ take n (x.number ∷ except x.number (numbers xs))
numbers-put n x xs = numbers-take n (x ∷ all_but x.number xs) ∙ ap (λ ks. take n (x.number ∷ ks)) (numbers-all_but x.number xs)

numbers-lost : (n : ℕ) (x : Line) (xs : List Line) → numbers (lost n x xs) ≡ drop n (x.number ∷ except x.number (numbers xs))
numbers-lost n x xs = numbers-drop n (x ∷ all_but x.number xs) ∙ ap (λ ks. drop n (x.number ∷ ks)) (numbers-all_but x.number xs)

pub is_some-behind : (k : ℕ) (o : Option (List ℕ)) → is_some (behind k o) ≡ is_some o
is_some-behind k None = refl
is_some-behind k (Some ls) = refl

pub front_among : (l : ℕ) (xs : List Line) → is_some (in_front l xs) ≡ among l (numbers xs)
front_among l [] = refl
front_among l (x ∷ xs) = elim (eqb_tells x.number l) [
  | inl p ↦ ap is_some (front_here l x xs p.1) ∙ sym (ap (λ b. b || among l (numbers xs)) p.0)
  | inr p ↦ ap is_some (front_there l x xs p.0) ∙ (is_some-behind x.number (in_front l xs) ∙ (front_among l xs ∙ sym (ap (λ b. b || among l (numbers xs)) p.0)))
]

-- ---- a set's list has lines of the set alone, each once

abbrev pub AreSets : Geometry → (ℕ → List Line) → Type 0
AreSets g ls = (k : ℕ) → IsDistinct (numbers (ls k)) × ((l : ℕ) → among l (numbers (ls k)) ≡ true → set_of g l ≡ k)

pub distinct_first : (k : ℕ) (ks : List ℕ) → IsDistinct ks → IsDistinct (k ∷ except k ks)
distinct_first k ks d = (among_except k k ks ∙ ap (λ b. not b && among k ks) (eq-eqb k k refl), IsDistinct-except k ks d)

among_first : (l k : ℕ) (ks : List ℕ) → among l (k ∷ except k ks) ≡ true → (k ≡ l) ⊎ (among l ks ≡ true)
among_first l k ks h = elim (eqb_tells k l) [
  | inl p ↦ inl p.1
  | inr p ↦ inr (let e = among_except l k ks in grind (arith, p.0, e))
]

sets_put : (g : Geometry) (x : Line) (ls : ℕ → List Line) → AreSets g ls → AreSets g (put_in g x ls)
sets_put g x ls h k = elim (eqb_tells (set_of g x.number) k) [
  | inl p ↦
      let new : numbers (put_in g x ls k) ≡ take g.ways (x.number ∷ except x.number (numbers (ls k))) = ap numbers (put_here g x ls k p.0) ∙ numbers-put g.ways x (ls k) in (
        subst IsDistinct (sym new) (IsDistinct-take g.ways (x.number ∷ except x.number (numbers (ls k))) (distinct_first x.number (numbers (ls k)) (h k).0)),
        λ l m. elim (among_first l x.number (numbers (ls k)) (among_take g.ways l (x.number ∷ except x.number (numbers (ls k))) (ap (among l) (sym new) ∙ m))) [
          | inl e ↦ ap (set_of g) (sym e) ∙ p.1
          | inr n ↦ (h k).1 l n
        ],
      )
  | inr p ↦ let same : numbers (put_in g x ls k) ≡ numbers (ls k) = ap numbers (put_there g x ls k p.0) in
      (subst IsDistinct (sym same) (h k).0, λ l m. (h k).1 l (ap (among l) (sym same) ∙ m))
]

among_rest : (l k : ℕ) (ks : List ℕ) → among l (except k ks) ≡ true → among l ks ≡ true
among_rest l k ks m = let e = among_except l k ks in grind (arith, m, e)

sets_out : (g : Geometry) (l : ℕ) (ls : ℕ → List Line) → AreSets g ls → AreSets g (taken_out g l ls)
sets_out g l ls h k = elim (eqb_tells (set_of g l) k) [
  | inl p ↦ let new : numbers (taken_out g l ls k) ≡ except l (numbers (ls k)) = ap numbers (out_here g l ls k p.0) ∙ numbers-all_but l (ls k) in
      (subst IsDistinct (sym new) (IsDistinct-except l (numbers (ls k)) (h k).0), λ j m. (h k).1 j (among_rest j l (numbers (ls k)) (ap (among j) (sym new) ∙ m)))
  | inr p ↦ let same : numbers (taken_out g l ls k) ≡ numbers (ls k) = ap numbers (out_there g l ls k p.0) in
      (subst IsDistinct (sym same) (h k).0, λ j m. (h k).1 j (ap (among j) (sym same) ∙ m))
]

sets_cleared : (g : Geometry) (ls : ℕ → List Line) → AreSets g ls → AreSets g (λ k. map cleared (ls k))
sets_cleared g ls h k = let same = numbers-cleared (ls k) in (subst IsDistinct (sym same) (h k).0, λ l m. (h k).1 l (ap (among l) (sym same) ∙ m))

pub first_sets : (g : Geometry) (es : List Event) → AreSets g (levels g es).first
first_sets g [] = λ k. (tt, λ l m. absurd (false≢true m))
first_sets g (Touch a ∷ es) = sets_put g (touched_line g a (levels g es)) (levels g es).first (first_sets g es)
first_sets g (Drop a ∷ es) = sets_out g (line_of g a) (levels g es).first (first_sets g es)
first_sets g (Clear ∷ es) = sets_cleared g (levels g es).first (first_sets g es)

-- ---- what has no room any more is the line that falls

parted : (n k : ℕ) (ks : List ℕ) → IsDistinct ks → among k (drop n ks) ≡ true → (among k (take n ks) ≡ false) × (among k ks ≡ true)
parted zero k ks d h = (refl, h)
parted (suc n) k [] d h = absurd (false≢true h)
parted (suc n) k (j ∷ ks) d h = let rest = parted n k ks d.1 h in elim (eqb_tells j k) [
  | inl p ↦ absurd (true≢false (sym rest.1 ∙ (ap (λ i. among i ks) (sym p.1) ∙ d.0)))
  | inr p ↦ (ap (λ b. b || among k (take n ks)) p.0 ∙ rest.0, ap (λ b. b || among k ks) p.0 ∙ rest.1)
]

-- the line that has to go is none of those that stay
pub parted_lines : (n : ℕ) (y : Line) (xs : List Line) → IsDistinct (numbers xs) → drop n xs ≡ y ∷ [] → among y.number (numbers (take n xs)) ≡ false
parted_lines n y xs d e =
    ap (among y.number) (numbers-take n xs)
    ∙ (parted n y.number (numbers xs) d (ap (among y.number) (sym (numbers-drop n xs) ∙ ap numbers e) ∙ ap (λ b. b || false) (eq-eqb y.number y.number refl))).0

one_left : (n : ℕ) (xs : List Line) → length xs ≤ suc n → (drop n xs ≡ []) ⊎ ((y : Line) × (drop n xs ≡ y ∷ []))
one_left zero [] h = inl refl
one_left zero (x ∷ []) h = inr (x, refl)
one_left zero (x ∷ y ∷ xs) h = absurd (omega arith)
one_left (suc n) [] h = inl refl
one_left (suc n) (x ∷ xs) h = one_left n xs (omega arith)

pub distinct_lines : (g : Geometry) (a : ℕ) (es : List Event) → let x = touched_line g a (levels g es) in IsDistinct (numbers (x ∷ all_but x.number ((levels g es).first (set_of g (line_of g a)))))
distinct_lines g a es = let xs = (levels g es).first (set_of g (line_of g a)) in
    subst (λ ks. IsDistinct (line_of g a ∷ ks)) (sym (numbers-all_but (line_of g a) xs)) (distinct_first (line_of g a) (numbers xs) (first_sets g es (set_of g (line_of g a))).0)

-- no line has to go, or one has
pub lost_one : (g : Geometry) (a : ℕ) (x : Line) (es : List Event) → let xs = (levels g es).first (set_of g (line_of g a)) in (lost g.ways x xs ≡ []) ⊎ ((y : Line) × (lost g.ways x xs ≡ y ∷ []))
lost_one g a x es = let xs = (levels g es).first (set_of g (line_of g a)) in one_left g.ways (x ∷ all_but x.number xs) (omega (arith, length-all_but x.number xs, length-lines g (set_of g (line_of g a)) es))

pub listed_among : (g : Geometry) (k : ℕ) (es : List Event) → 0 < g.ways → listed g k es ≡ among k (numbers ((levels g es).first (set_of g k)))
listed_among g k es w = ap is_some (sym (first_agrees g es w k)) ∙ front_among k ((levels g es).first (set_of g k))

-- the lines that an access leaves in its set
set_after : (g : Geometry) (a : ℕ) (es : List Event) → let x = touched_line g a (levels g es) in let s = set_of g (line_of g a) in
    numbers ((levels g (Touch a ∷ es)).first s) ≡ take g.ways (x.number ∷ except x.number (numbers ((levels g es).first s)))
set_after g a es = let x = touched_line g a (levels g es) in let s = set_of g (line_of g a) in
    ap numbers (put_here g x (levels g es).first s (eq-eqb s s refl)) ∙ numbers-put g.ways x ((levels g es).first s)

pub lost_falls : (g : Geometry) (a : ℕ) (y : Line) (es : List Event) → 0 < g.ways → lost g.ways (touched_line g a (levels g es)) ((levels g es).first (set_of g (line_of g a))) ≡ y ∷ []
    → falls g y.number a es ≡ true
lost_falls g a y es w e = falls_from g k a es before after
  where
    k : ℕ
    k = y.number

    m : ℕ
    m = line_of g a

    s : ℕ
    s = set_of g m

    ks : List ℕ
    ks = numbers ((levels g es).first s)

    there : among k (drop g.ways (m ∷ except m ks)) ≡ true
    there = ap (among k) (sym (numbers-lost g.ways (touched_line g a (levels g es)) ((levels g es).first s)) ∙ ap numbers e) ∙ ap (λ b. b || false) (eq-eqb k k refl)

    parts : (among k (take g.ways (m ∷ except m ks)) ≡ false) × (among k (m ∷ except m ks) ≡ true)
    parts = parted g.ways k (m ∷ except m ks) (distinct_first m ks (first_sets g es s).0) there

    differ : m ≢ k
    differ q = head g.ways w parts.0
      where
        head : (n : ℕ) → 0 < n → among k (take n (m ∷ except m ks)) ≡ false → ⊥
        head zero h f = absurd (omega arith)
        head (suc n) h f = false≢true (sym f ∙ ap (λ b. b || among k (take n (except m ks))) (eq-eqb m k q))

    among_before : among k ks ≡ true
    among_before = elim (among_first k m ks parts.1) [ inl q ↦ absurd (differ q) | inr h ↦ h ]

    set : set_of g k ≡ s
    set = (first_sets g es s).1 k among_before

    before : listed g k es ≡ true
    before = listed_among g k es w ∙ (ap (λ i. among k (numbers ((levels g es).first i))) set ∙ among_before)

    after : listed g k (Touch a ∷ es) ≡ false
    after = listed_among g k (Touch a ∷ es) w ∙ (ap (λ i. among k (numbers ((levels g (Touch a ∷ es)).first i))) set ∙ (ap (among k) (set_after g a es) ∙ parts.0))

pub none_lost : (g : Geometry) (a k : ℕ) (es : List Event) → 0 < g.ways → lost g.ways (touched_line g a (levels g es)) ((levels g es).first (set_of g (line_of g a))) ≡ [] → falls g k a es ≡ true → ⊥
none_lost g a k es w e h = false≢true (sym parts.1 ∙ after)
  where
    m : ℕ
    m = line_of g a

    s : ℕ
    s = set_of g m

    ks : List ℕ
    ks = numbers ((levels g es).first s)

    parts : (listed g k es ≡ true) × (listed g k (Touch a ∷ es) ≡ false)
    parts = falls_parts g k a es h

    set : set_of g k ≡ s
    set = sym (is_last g k a es w h).set

    all : take g.ways (m ∷ except m ks) ≡ m ∷ except m ks
    all = let none : drop g.ways (m ∷ except m ks) ≡ [] = sym (numbers-lost g.ways (touched_line g a (levels g es)) ((levels g es).first s)) ∙ ap numbers e in
        sym (append-nil (take g.ways (m ∷ except m ks))) ∙ (ap (λ xs. take g.ways (m ∷ except m ks) ++ xs) (sym none) ∙ take-append-drop g.ways (m ∷ except m ks))

    among_before : among k ks ≡ true
    among_before = sym (listed_among g k es w ∙ ap (λ i. among k (numbers ((levels g es).first i))) set) ∙ parts.0

    here : among k (m ∷ except m ks) ≡ true
    here = let d : (m == k) ≡ false = ne_eqb m k (is_last g k a es w h).other in let e = among_except k m ks in grind (arith, d, e, among_before)

    after : listed g k (Touch a ∷ es) ≡ true
    after = listed_among g k (Touch a ∷ es) w ∙ (ap (λ i. among k (numbers ((levels g (Touch a ∷ es)).first i))) set ∙ (ap (among k) (set_after g a es ∙ all) ∙ here))

-- ---- the law

-- a line's first address lies in it
line_of-line_start : (g : Geometry) (b : ℕ) → line_of g (line_start g (line_of g b)) ≡ line_of g b
line_of-line_start g b = by (4 * g.line) (eq-zero-or-pos (4 * g.line))
  where
    by : (n : ℕ) → (n ≡ 0) ⊎ (0 < n) → b / n * n / n ≡ b / n
    by n (inl e) = subst (λ i. b / i * i / i ≡ b / i) (sym e) (div-zero (b / 0 * 0) ∙ sym (div-zero b))
    by n (inr h) = ap (λ i. i / n) (sym (add-zero (b / n * n))) ∙ div-mul-add (b / n) n 0 h

second_touch : (g : Geometry) (a : ℕ) (es : List Event) (gone : List Line) (o : Option ℕ) → 0 < g.ways → 0 < g.ways2 → lost g.ways (touched_line g a (levels g es)) ((levels g es).first (set_of g (line_of g a))) ≡ gone
    → fallen_among g es a es ≡ o → (gone ≡ []) ⊎ ((y : Line) × (gone ≡ y ∷ [])) → Agrees (second_of g) (levels g es).second (second_history g es)
    → Agrees (second_of g) (put_lost (second_of g) gone (taken_out (second_of g) (line_of g a) (levels g es).second)) (with_fall g o (Drop a ∷ second_history g es))
second_touch g a es gone None w w2 e f (inl p) h =
    subst (λ (xs : List Line). Agrees (second_of g) (put_lost (second_of g) xs (taken_out (second_of g) (line_of g a) (levels g es).second)) (Drop a ∷ second_history g es)) (sym p)
    (agrees_out (second_of g) a (levels g es).second (second_history g es) h)
second_touch g a es gone (Some k) w w2 e f (inl p) h = absurd (none_lost g a k es w (e ∙ p) (fallen_falls g es a k es f))
second_touch g a es gone None w w2 e f (inr p) h = absurd (let q : ◌≡◌ {A = Option ℕ} None (Some p.0.number) = sym f ∙ fallen_is g p.0.number a es w (lost_falls g a p.0 es w (e ∙ p.1)) in cc)
second_touch g a es gone (Some k) w w2 e f (inr p) h =
    let y : Line = p.0 in
    let fall = lost_falls g a y es w (e ∙ p.1) in
    let same : k ≡ y.number = let q : ◌≡◌ {A = Option ℕ} (Some k) (Some y.number) = sym f ∙ fallen_is g y.number a es w fall in cc in
    let t = fallen_touched g y.number a es w fall in
    let start : line_of g (line_start g y.number) ≡ y.number = ap (λ i. line_of g (line_start g i)) (sym t.1) ∙ (line_of-line_start g t.0 ∙ t.1) in
    subst (λ i. Agrees (second_of g) (put_lost (second_of g) gone (taken_out (second_of g) (line_of g a) (levels g es).second)) (Touch (line_start g i) ∷ Drop a ∷ second_history g es)) (sym same)
    (subst (λ (xs : List Line). Agrees (second_of g) (put_lost (second_of g) xs (taken_out (second_of g) (line_of g a) (levels g es).second)) (Touch (line_start g y.number) ∷ Drop a ∷ second_history g es)) (sym p.1)
    (agrees_put (second_of g) y (line_start g y.number) (taken_out (second_of g) (line_of g a) (levels g es).second) (Drop a ∷ second_history g es) w2 start
    (agrees_out (second_of g) a (levels g es).second (second_history g es) h)))

-- a clear is no event of the second level's history
clear_agrees : (g : Geometry) (ls : ℕ → List Line) (es : List Event) → Agrees g ls es → Agrees g (λ k. map cleared (ls k)) es
clear_agrees g ls es h l = agrees_clear g ls es h l

pub second_agrees : (g : Geometry) (es : List Event) → 0 < g.ways → 0 < g.ways2 → Agrees (second_of g) (levels g es).second (second_history g es)
second_agrees g [] w w2 = λ l. refl
second_agrees g (Touch a ∷ es) w w2 = second_touch g a es _ (fallen_among g es a es) w w2 refl refl (lost_one g a (touched_line g a (levels g es)) es) (second_agrees g es w w2)
second_agrees g (Drop a ∷ es) w w2 = agrees_out (second_of g) a (levels g es).second (second_history g es) (second_agrees g es w w2)
second_agrees g (Clear ∷ es) w w2 = clear_agrees (second_of g) (levels g es).second (second_history g es) (second_agrees g es w w2)
