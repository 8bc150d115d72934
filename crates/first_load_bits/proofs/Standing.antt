-- What a level of a cache keeps and lists when one of its ways is written, or all are cleared.
use Rattle.first_load_bits.proofs.Common.{◌≡◌, ◌≢◌, ℕ, zero, suc, ◌+◌, ◌-◌, ◌*◌, ◌^◌, ◌<◌, ◌≤◌, true, false, List, [], ◌∷◌, length, length-take-le, length-drop, get_or-take, get_or-drop, get_or, set, take, drop, map, All, AllPairs, IsTrue, is_some, refl, sym, ◌∙◌, ap, arith, subst, pow-add, pow_mono, pow_pos, drop-set-lt, inl, inr, eq-eqb, ne_eqb, cases_eq, cases_lt, cases_order, eqb-true, and_parts, not, ◌==◌, row_fits, ones_cat, zero_from_ones, is_power_of_two, drop-set-add, take-set-le, get_or_default, All-set, All-take, All-drop, All-weaker, Way, set_of, Line, put, lost, put_in, taken_out, cleared, bits_of, in_front, line_in, known_bits, given_up, latest_first, has_line, AreApart, HasLine, IsPlaceFor, Level, ways_of, lines_of, AreKept}
use Rattle.std.specs.Int.RustNames.{count_ones}
use lib.Count.{ones}
use Rattle.first_load_bits.proofs.Latest.{others_of, All-others, latest_next, but_none, cleared_latest}
use Rattle.first_load_bits.proofs.Apart.{set_apart, newest_apart, none_beside, place_within, bits_there_are, known_there, put_lines, lost_lines, dropped_lines}
use Rattle.first_load_bits.proofs.Order.{put_here, put_there, out_here, out_there}
use Rattle.first_load_bits.proofs.Bits.{bits_of_gone}

-- ---- the ways of one set among those of all

take-set : {X : Type 0} (n i : ℕ) (xs : List X) (x : X) → take n (set xs i x) ≡ set (take n xs) i x
take-set zero i [] x = refl
take-set zero i (y ∷ ys) x = elim (cases_eq i 0) [ inl e ↦ ap (λ k. take 0 (set (y ∷ ys) k x)) e | inr e ↦ refl ]
take-set (suc n) zero [] x = refl
take-set (suc n) (suc i) [] x = refl
take-set (suc n) zero (y ∷ ys) x = refl
take-set (suc n) (suc i) (y ∷ ys) x = ap (λ zs. y ∷ zs) (take-set n i ys x)

part_of_set : {X : Type 0} (n f i : ℕ) (xs : List X) (x : X) → take n (drop f (set xs (f + i) x)) ≡ set (take n (drop f xs)) i x
part_of_set n f i xs x = ap (take n) (drop-set-add f xs i x) ∙ take-set n i (drop f xs) x

-- a part after or ahead of the place
part_behind : {X : Type 0} (n f at : ℕ) (xs : List X) (x : X) → at < f → take n (drop f (set xs at x)) ≡ take n (drop f xs)
part_behind n f at xs x h = ap (take n) (drop-set-lt f xs at x h)

part_ahead : {X : Type 0} (n f j : ℕ) (xs : List X) (x : X) → n ≤ j → take n (drop f (set xs (f + j) x)) ≡ take n (drop f xs)
part_ahead n f j xs x h = ap (take n) (drop-set-add f xs j x) ∙ take-set-le n (drop f xs) j x h

-- the sets k and s lie apart
before : (k s n : ℕ) → k < s → k * n + n ≤ s * n
before k s n h = row_fits k n s n h (omega arith)

part_elsewhere : {X : Type 0} (n k s i : ℕ) (xs : List X) (x : X) → i < n → k ≢ s → take n (drop (k * n) (set xs (s * n + i) x)) ≡ take n (drop (k * n) xs)
part_elsewhere n k s i xs x h d = elim (cases_order k s) [
  | inl e ↦ absurd (d e)
  | inr (inl b) ↦
      let far : k * n + n ≤ s * n = before k s n b in
      let at : s * n + i ≡ k * n + (s * n + i - k * n) = omega arith in
      ap (λ p. take n (drop (k * n) (set xs p x))) at ∙ part_ahead n (k * n) (s * n + i - k * n) xs x (omega arith)
  | inr (inr b) ↦ let far : s * n + n ≤ k * n = before s k n b in part_behind n (k * n) (s * n + i) xs x (omega arith)
]

-- ---- a change of one way

-- the level after a way of set s is written, at the count of steps n
abbrev pub written : Level → (n s i : ℕ) → Way → Level
written c n s i v = record { geometry = c.geometry; steps = n; generation = c.generation; ways = set c.ways (s * c.geometry.ways + i) v }

written_here : (c : Level) (n s i : ℕ) (v : Way) → ways_of (written c n s i v) s ≡ set (ways_of c s) i v
written_here c n s i v = part_of_set c.geometry.ways (s * c.geometry.ways) i c.ways v

written_there : (c : Level) (n s i k : ℕ) (v : Way) → i < c.geometry.ways → k ≢ s → ways_of (written c n s i v) k ≡ ways_of c k
written_there c n s i k v h d = part_elsewhere c.geometry.ways k s i c.ways v h d

-- what all ways have, those of a set have
pub All-of_set : (P : Way → Type 0) (c : Level) (k : ℕ) → All P c.ways → All P (ways_of c k)
All-of_set P c k h = All-take P c.geometry.ways (drop (k * c.geometry.ways) c.ways) (All-drop P (k * c.geometry.ways) c.ways h)

old_enough : (c : Level) (k : ℕ) → AreKept c → All (λ w. w.age ≤ c.steps) (ways_of c k)
old_enough c k h = All-of_set (λ w. w.age ≤ c.steps) c k h.ages

kept_written : (c : Level) (n s i : ℕ) (v : Way) → AreKept c → c.steps ≤ n → i < length (ways_of c s) → i < c.geometry.ways → s < c.geometry.sets
    → v.age ≤ n → All (AreApart v) (others_of (ways_of c s) i) → AreKept (written c n s i v)
kept_written c n s i v w m within inside below age apart = record {
  cleared = omega (arith, w.cleared, m);
  ages = All-set (λ w. w.age ≤ n) c.ways (s * c.geometry.ways + i) v age (All-weaker (λ w. w.age ≤ c.steps) (λ w. w.age ≤ n) (λ w l. omega arith) c.ways w.ages);
  apart = λ k l. elim (cases_eq k s) [
    | inl e ↦ subst (λ j. AllPairs AreApart (ways_of (written c n s i v) j)) (sym e) (subst (λ (x : List Way). AllPairs AreApart x) (sym (written_here c n s i v)) (set_apart v (ways_of c s) i within (w.apart s below) apart))
    | inr d ↦ subst (λ (x : List Way). AllPairs AreApart x) (sym (written_there c n s i k v inside d)) (w.apart k l)
  ];
}

-- the level at a later count of steps
abbrev pub later : Level → Level
later c = record { geometry = c.geometry; steps = c.steps + 1; generation = c.generation; ways = c.ways }

pub kept_later : (c : Level) → AreKept c → AreKept (later c)
kept_later c h = record {
  cleared = omega (arith, h.cleared);
  ages = All-weaker (λ w. w.age ≤ c.steps) (λ w. w.age ≤ c.steps + 1) (λ w l. omega arith) c.ways h.ages;
  apart = h.apart;
}

pub lines_later : (c : Level) (k : ℕ) → AreKept c → lines_of (later c) k ≡ lines_of c k
lines_later c k h = latest_next c.generation c.steps (ways_of c k) (old_enough c k h)

-- ---- what the code reads of a line's set

-- the place of the first way of line l's set, and the ways that are read there
pub record IsRead (c : Level) (l first : ℕ) (ws : List Way) : Type 0 where
  pub first_is : first ≡ set_of c.geometry l * c.geometry.ways
  pub within : first + c.geometry.ways ≤ length c.ways
  pub below : set_of c.geometry l < c.geometry.sets
  pub ways_are : ws ≡ take (first + c.geometry.ways - first) (drop first c.ways)

pub set_read : (c : Level) (l first : ℕ) (ws : List Way) → (r : IsRead c l first ws) → ws ≡ ways_of c (set_of c.geometry l)
set_read c l first ws r =
    let count : first + c.geometry.ways - first ≡ c.geometry.ways = omega arith in
    r.ways_are ∙ (ap (λ n. take n (drop first c.ways)) count ∙ ap (λ f. take c.geometry.ways (drop f c.ways)) r.first_is)

set_whole : (c : Level) (l first : ℕ) (ws : List Way) → IsRead c l first ws → length (ways_of c (set_of c.geometry l)) ≡ c.geometry.ways
set_whole c l first ws r =
    let f = set_of c.geometry l * c.geometry.ways in
    let within : f + c.geometry.ways ≤ length c.ways = subst (λ x. x + c.geometry.ways ≤ length c.ways) r.first_is r.within in
    length-take-le c.geometry.ways (drop f c.ways) (let left = length-drop f c.ways in omega (arith, left, within))

-- a way that is read by its place among all is the one of its place in the set
way_read : (c : Level) (l first i : ℕ) (ws : List Way) (w d : Way) → IsRead c l first ws → i < c.geometry.ways → w ≡ get_or c.ways (first + i) w → get_or (ways_of c (set_of c.geometry l)) i d ≡ w
way_read c l first i ws w d r h e =
    let f = set_of c.geometry l * c.geometry.ways in
    get_or-take c.geometry.ways (drop f c.ways) i d h
    ∙ (get_or-drop f c.ways i d ∙ (ap (λ x. get_or c.ways (x + i) d) (sym r.first_is) ∙ (get_or_default c.ways (first + i) d w (let n = r.within in omega (arith, n, h)) ∙ sym e)))

place_there : (c : Level) (l first i : ℕ) (ws : List Way) → IsRead c l first ws → IsPlaceFor l i ws → IsPlaceFor l i (ways_of c (set_of c.geometry l))
place_there c l first i ws r at = subst (λ (x : List Way). IsPlaceFor l i x) (set_read c l first ws r) at

place_in : (c : Level) (l first i : ℕ) (ws : List Way) → IsRead c l first ws → IsPlaceFor l i ws → i < c.geometry.ways
place_in c l first i ws r at = let n = place_within _ i _ (place_there c l first i ws r at) in omega (arith, n, set_whole c l first ws r)

has_there : (c : Level) (l first i : ℕ) (ws : List Way) → IsRead c l first ws → HasLine l i ws → HasLine l i (ways_of c (set_of c.geometry l))
has_there c l first i ws r at = subst (λ (x : List Way). HasLine l i x) (set_read c l first ws r) at

pub line_inside : (c : Level) (l first i : ℕ) (ws : List Way) → IsRead c l first ws → HasLine l i ws → i < c.geometry.ways
line_inside c l first i ws r at = let n = (has_there c l first i ws r at).0 in omega (arith, n, set_whole c l first ws r)

-- ---- a line put in

-- the level with a way written where the code writes it
abbrev pub changed : Level → (n at : ℕ) → Way → Level
changed c n at v = record { geometry = c.geometry; steps = n; generation = c.generation; ways = set c.ways at v }

pub put_keeps : (c : Level) (l first i : ℕ) (ws : List Way) (v : Way) → AreKept c → IsRead c l first ws → IsPlaceFor l i ws → v.line ≡ l → v.age ≡ c.steps + 1
    → AreKept (changed c (c.steps + 1) (first + i) v)
put_keeps c l first i ws v k r at e age =
    let s = set_of c.geometry l in
    let us = ways_of c s in
    let there = place_there c l first i ws r at in
    subst (λ f. AreKept (changed c (c.steps + 1) (f + i) v)) (sym r.first_is)
    (kept_written c (c.steps + 1) s i v k (omega arith) (place_within us i l there) (place_in c l first i ws r at) r.below (omega (arith, age))
    (newest_apart c.steps l v (others_of us i) (omega (arith, age)) e (All-others (λ w. w.age ≤ c.steps) us i (old_enough c s k)) (none_beside v us i l (k.apart s r.below) there)))

pub put_goes : (c : Level) (l first i k : ℕ) (ws : List Way) (v : Way) → AreKept c → IsRead c l first ws → IsPlaceFor l i ws → v.line ≡ l → v.age ≡ c.steps + 1
    → lines_of (changed c (c.steps + 1) (first + i) v) k ≡ put_in c.geometry (line_in c.generation v) (lines_of c) k
put_goes c l first i k ws v h r at e age = subst (λ f. lines_of (changed c (c.steps + 1) (f + i) v) k ≡ put_in c.geometry (line_in c.generation v) (lines_of c) k) (sym r.first_is) go
  where
    s : ℕ
    s = set_of c.geometry l

    us : List Way
    us = ways_of c s

    own : set_of c.geometry v.line ≡ s
    own = ap (set_of c.geometry) e

    go : lines_of (written c (c.steps + 1) s i v) k ≡ put_in c.geometry (line_in c.generation v) (lines_of c) k
    go = elim (cases_eq k s) [
      | inl q ↦ subst (λ j. lines_of (written c (c.steps + 1) s i v) j ≡ put_in c.geometry (line_in c.generation v) (lines_of c) j) (sym q)
          (ap (latest_first c.generation (c.steps + 1)) (written_here c (c.steps + 1) s i v)
          ∙ (put_lines c.generation c.steps l v us i (h.apart s r.below) (old_enough c s h) (place_there c l first i ws r at) e age
          ∙ (ap (λ n. put n (line_in c.generation v) (lines_of c s)) (set_whole c l first ws r) ∙ sym (put_here c.geometry (line_in c.generation v) (lines_of c) s (eq-eqb _ s own)))))
      | inr q ↦
          ap (latest_first c.generation (c.steps + 1)) (written_there c (c.steps + 1) s i k v (place_in c l first i ws r at) q)
          ∙ (lines_later c k h ∙ sym (put_there c.geometry (line_in c.generation v) (lines_of c) k (ne_eqb _ k (λ z. q (sym z ∙ own)))))
    ]

-- the line that has to go, and the bits that are known
pub put_loses : (c : Level) (l first i : ℕ) (ws : List Way) (w : Way) (x : Line) → AreKept c → IsRead c l first ws → IsPlaceFor l i ws → w ≡ get_or c.ways (first + i) w → x.number ≡ l
    → lost c.geometry.ways x (lines_of c (set_of c.geometry l)) ≡ given_up c.generation l w
put_loses c l first i ws w x h r at e n =
    let s = set_of c.geometry l in
    ap (λ m. lost m x (lines_of c s)) (sym (set_whole c l first ws r))
    ∙ (lost_lines c.generation c.steps l w (ways_of c s) i x (h.apart s r.below) (old_enough c s h) (place_there c l first i ws r at) n
    ∙ ap (given_up c.generation l) (way_read c l first i ws w w r (place_in c l first i ws r at) e))

pub put_knows : (c : Level) (l first i others : ℕ) (ws : List Way) (w : Way) → AreKept c → IsRead c l first ws → IsPlaceFor l i ws → w ≡ get_or c.ways (first + i) w
    → let xs = lines_of c (set_of c.geometry l) in known_bits c.generation l others w ≡ elim (is_some (in_front l xs)) as (λ b. ℕ) [ true ↦ bits_of l xs | false ↦ others ]
put_knows c l first i others ws w h r at e =
    let s = set_of c.geometry l in
    ap (known_bits c.generation l others) (sym (way_read c l first i ws w w r (place_in c l first i ws r at) e))
    ∙ known_there c.generation c.steps l others w (ways_of c s) i (h.apart s r.below) (old_enough c s h) (place_there c l first i ws r at)

-- ---- a line taken out

empty_apart : (v : Way) (ws : List Way) → v.age ≡ 0 → All (AreApart v) ws
empty_apart v ws e = λ k d l p q. absurd (omega (arith, e, p))

pub out_keeps : (c : Level) (l first i : ℕ) (ws : List Way) (v : Way) → AreKept c → IsRead c l first ws → HasLine l i ws → v.age ≡ 0 → AreKept (changed c c.steps (first + i) v)
out_keeps c l first i ws v k r at age =
    let s = set_of c.geometry l in
    subst (λ f. AreKept (changed c c.steps (f + i) v)) (sym r.first_is)
    (kept_written c c.steps s i v k (omega arith) (has_there c l first i ws r at).0 (line_inside c l first i ws r at) r.below (omega (arith, age)) (empty_apart v (others_of (ways_of c s) i) age))

pub out_goes : (c : Level) (l first i k : ℕ) (ws : List Way) (v : Way) → AreKept c → IsRead c l first ws → HasLine l i ws → v.age ≡ 0
    → lines_of (changed c c.steps (first + i) v) k ≡ taken_out c.geometry l (lines_of c) k
out_goes c l first i k ws v h r at age = subst (λ f. lines_of (changed c c.steps (f + i) v) k ≡ taken_out c.geometry l (lines_of c) k) (sym r.first_is) go
  where
    s : ℕ
    s = set_of c.geometry l

    go : lines_of (written c c.steps s i v) k ≡ taken_out c.geometry l (lines_of c) k
    go = elim (cases_eq k s) [
      | inl q ↦ subst (λ j. lines_of (written c c.steps s i v) j ≡ taken_out c.geometry l (lines_of c) j) (sym q)
          (ap (latest_first c.generation c.steps) (written_here c c.steps s i v)
          ∙ (dropped_lines c.generation c.steps l v (ways_of c s) i (h.apart s r.below) (has_there c l first i ws r at) age ∙ sym (out_here c.geometry l (lines_of c) s (eq-eqb s s refl))))
      | inr q ↦
          ap (latest_first c.generation c.steps) (written_there c c.steps s i k v (line_inside c l first i ws r at) q)
          ∙ sym (out_there c.geometry l (lines_of c) k (ne_eqb s k (λ z. q (sym z))))
    ]

-- a line that no way has
pub out_absent : (c : Level) (l first k : ℕ) (ws : List Way) → IsRead c l first ws → All (λ w. has_line l w ≡ false) ws → lines_of c k ≡ taken_out c.geometry l (lines_of c) k
out_absent c l first k ws r none =
    let s = set_of c.geometry l in
    let there : All (λ w. has_line l w ≡ false) (ways_of c s) = subst (λ (x : List Way). All (λ w. has_line l w ≡ false) x) (set_read c l first ws r) none in
    elim (cases_eq k s) [
      | inl q ↦ subst (λ j. lines_of c j ≡ taken_out c.geometry l (lines_of c) j) (sym q)
          (sym (but_none c.generation c.steps l (ways_of c s) there) ∙ sym (out_here c.geometry l (lines_of c) s (eq-eqb s s refl)))
      | inr q ↦ sym (out_there c.geometry l (lines_of c) k (ne_eqb s k (λ z. q (sym z))))
    ]

pub bits_read : (c : Level) (l first i : ℕ) (ws : List Way) (w : Way) → AreKept c → IsRead c l first ws → HasLine l i ws → w ≡ get_or c.ways (first + i) w
    → (line_in c.generation w).bits ≡ bits_of l (lines_of c (set_of c.geometry l))
bits_read c l first i ws w h r at e =
    let s = set_of c.geometry l in
    ap (λ (v : Way). (line_in c.generation v).bits) (sym (way_read c l first i ws w w r (line_inside c l first i ws r at) e))
    ∙ bits_there_are c.generation c.steps l w (ways_of c s) i (h.apart s r.below) (old_enough c s h) (has_there c l first i ws r at)

-- and they are all that is known of the line, whatever else is
pub known_read : (c : Level) (l first i others : ℕ) (ws : List Way) (w : Way) → IsRead c l first ws → HasLine l i ws → w ≡ get_or c.ways (first + i) w
    → (line_in c.generation w).bits ≡ known_bits c.generation l others w
known_read c l first i others ws w r at e =
    let has : has_line l w ≡ true = subst (λ (v : Way). has_line l v ≡ true) (way_read c l first i ws w w r (line_inside c l first i ws r at) e) ((has_there c l first i ws r at).1 w) in
    sym (ap (λ b. elim b as (λ x. ℕ) [ true ↦ (line_in c.generation w).bits | false ↦ others ]) has)

-- the way that has a line has its number
pub line_read : (c : Level) (l first i : ℕ) (ws : List Way) (w : Way) → IsRead c l first ws → HasLine l i ws → w ≡ get_or c.ways (first + i) w → w.line ≡ l
line_read c l first i ws w r at e =
    let has : has_line l w ≡ true = subst (λ (v : Way). has_line l v ≡ true) (way_read c l first i ws w w r (line_inside c l first i ws r at) e) ((has_there c l first i ws r at).1 w) in
    eqb-true w.line l (and_parts (not (w.age == 0)) (w.line == l) has).1

pub bits_absent : (c : Level) (l first : ℕ) (ws : List Way) → IsRead c l first ws → All (λ w. has_line l w ≡ false) ws → 0 ≡ bits_of l (lines_of c (set_of c.geometry l))
bits_absent c l first ws r none =
    let s = set_of c.geometry l in
    let there : All (λ w. has_line l w ≡ false) (ways_of c s) = subst (λ (x : List Way). All (λ w. has_line l w ≡ false) x) (set_read c l first ws r) none in
    sym (ap (bits_of l) (sym (but_none c.generation c.steps l (ways_of c s) there)) ∙ bits_of_gone l (lines_of c s))

-- ---- a clear

abbrev pub cleared_level : Level → Level
cleared_level c = record { geometry = c.geometry; steps = c.steps + 1; generation = c.steps + 1; ways = c.ways }

pub clear_goes : (c : Level) (k : ℕ) → AreKept c → lines_of (cleared_level c) k ≡ map cleared (lines_of c k)
clear_goes c k w =
    latest_next (c.steps + 1) c.steps (ways_of c k) (old_enough c k w)
    ∙ cleared_latest c.generation (c.steps + 1) c.steps c.steps (ways_of c k) (old_enough c k w) (omega arith)

-- ---- a new level

pub new_kept : (c : Level) → c.generation ≡ 0 → All (λ w. w.age ≡ 0) c.ways → AreKept c
new_kept c gen h = record {
  cleared = omega (arith, gen);
  ages = All-weaker (λ w. w.age ≡ 0) (λ w. w.age ≤ c.steps) (λ w p. omega (arith, p)) c.ways h;
  apart = λ k l i j d m q. λ x y. absurd (omega (arith, (All-of_set (λ w. w.age ≡ 0) c k h i d (omega (arith, m, q))), x));
}

-- ---- powers of two

pub power_low : (j k : ℕ) → 2 ^ k ≤ 2 ^ j → k ≤ j
power_low j k h = elim (cases_lt j k) [
  | inl l ↦ let up : 2 ^ (j + 1) ≤ 2 ^ k = pow_mono (omega arith) in absurd (omega (arith, up, h, pow-add 2 j 1, pow_pos j))
  | inr l ↦ l
]

pub exact_power : (n k : ℕ) → IsTrue (is_power_of_two n) → 2 ^ k ≤ n → n < 2 * 2 ^ k → 2 ^ k ≡ n
unfolding count_ones
exact_power n k h low high =
    let rest : n ≡ 1 * 2 ^ k + (n - 2 ^ k) = omega arith in
    let ones : ones n ≡ ones 1 + ones (n - 2 ^ k) = ap ones rest ∙ ones_cat k 1 (n - 2 ^ k) (omega arith) in
    let none : n - 2 ^ k ≡ 0 = zero_from_ones (n - 2 ^ k) (let one : count_ones n ≡ 1 = eqb-true (count_ones n) 1 h in let single : count_ones 1 ≡ 1 = refl in omega (arith, ones, one, single)) in
    omega (arith, none, low)
