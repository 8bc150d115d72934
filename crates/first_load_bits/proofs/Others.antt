-- The other lines of a set that some events touched and didn't drop, as a list and as they are said to be.
use Rattle.first_load_bits.proofs.Common.{◌≡◌, ◌≢◌, ℕ, ◌≤◌, Bool, true, false, not, ◌&&◌, ◌||◌, ◌==◌, List, [], ◌∷◌, ◌++◌, length, length-take-le, take, All, refl, sym, ◌∙◌, ap, arith, subst, inl, inr, false≢true, eq-eqb, ne_eqb, eqb-true, and_parts, and_from, eqb_tells, nat_tests, All-nil, All-cons, All-head, All-tail, Geometry, Event, line_of, set_of, IsTouchOf, IsDropOf, Touch, Drop, Clear, except, IsSinceTouch, IsUndropped, HasOthers}
use Rattle.first_load_bits.proofs.Numbers.{among, among_except, IsDistinct, IsDistinct-except, IsDistinct-take, IsDistinct-from_pairs, pairs_from_IsDistinct, All-from_among, among_has, among_take, length-below}

-- line k was touched, and not dropped since its last touch
abbrev pub undropped : Geometry → ℕ → List Event → Bool
undropped g k [] = false
undropped g k (Touch a ∷ es) = (line_of g a == k) || undropped g k es
undropped g k (Drop a ∷ es) = not (line_of g a == k) && undropped g k es
undropped g k (Clear ∷ es) = undropped g k es

-- the lines but l of l's set that were touched, and not dropped since their own last touch, the latest first
abbrev pub others : Geometry → ℕ → List Event → List ℕ
others g l [] = []
others g l (Touch a ∷ es) =
    let k = line_of g a in
    elim (k == l) [
      | true ↦ others g l es
      | false ↦ elim (set_of g k == set_of g l) [ true ↦ k ∷ except k (others g l es) | false ↦ others g l es ]
    ]
others g l (Drop a ∷ es) =
    let k = line_of g a in
    elim (k == l) [
      | true ↦ others g l es
      | false ↦ elim (set_of g k == set_of g l) [ true ↦ except k (others g l es) | false ↦ others g l es ]
    ]
others g l (Clear ∷ es) = others g l es

-- what an event tells of line l: it is its own, of another line of its set, or of another set
pub data Tells (g : Geometry) (l k : ℕ) : Type 0 where
  own : k ≡ l → Tells g l k
  near : (k == l) ≡ false → k ≢ l → (set_of g k == set_of g l) ≡ true → set_of g k ≡ set_of g l → Tells g l k
  far : (k == l) ≡ false → k ≢ l → (set_of g k == set_of g l) ≡ false → set_of g k ≢ set_of g l → Tells g l k

pub tells : (g : Geometry) (l k : ℕ) → Tells g l k
tells g l k = elim (eqb_tells k l) [
  | inl p ↦ own p.1
  | inr p ↦ elim (eqb_tells (set_of g k) (set_of g l)) [ inl q ↦ near p.0 p.1 q.0 q.1 | inr q ↦ far p.0 p.1 q.0 q.1 ]
]

-- ---- `others` at each event

touch_own : (g : Geometry) (l a : ℕ) (es : List Event) → (line_of g a == l) ≡ true → others g l (Touch a ∷ es) ≡ others g l es
touch_own g l a es e = rw (e, others) refl

pub touch_near : (g : Geometry) (l a : ℕ) (es : List Event) → (line_of g a == l) ≡ false → (set_of g (line_of g a) == set_of g l) ≡ true
    → others g l (Touch a ∷ es) ≡ line_of g a ∷ except (line_of g a) (others g l es)
touch_near g l a es e f = rw (e, f, others) refl

pub touch_far : (g : Geometry) (l a : ℕ) (es : List Event) → (line_of g a == l) ≡ false → (set_of g (line_of g a) == set_of g l) ≡ false
    → others g l (Touch a ∷ es) ≡ others g l es
touch_far g l a es e f = rw (e, f, others) refl

drop_own : (g : Geometry) (l a : ℕ) (es : List Event) → (line_of g a == l) ≡ true → others g l (Drop a ∷ es) ≡ others g l es
drop_own g l a es e = rw (e, others) refl

pub drop_near : (g : Geometry) (l a : ℕ) (es : List Event) → (line_of g a == l) ≡ false → (set_of g (line_of g a) == set_of g l) ≡ true
    → others g l (Drop a ∷ es) ≡ except (line_of g a) (others g l es)
drop_near g l a es e f = rw (e, f, others) refl

pub drop_far : (g : Geometry) (l a : ℕ) (es : List Event) → (line_of g a == l) ≡ false → (set_of g (line_of g a) == set_of g l) ≡ false
    → others g l (Drop a ∷ es) ≡ others g l es
drop_far g l a es e f = rw (e, f, others) refl

-- ---- which lines they are

-- k is another line of l's set
abbrev pub is_near : Geometry → ℕ → ℕ → Bool
is_near g l k = not (k == l) && (set_of g k == set_of g l)

-- a line that isn't near is none of the lines that are
not_near_own : (g : Geometry) (l k j : ℕ) → j ≡ l → is_near g l k ≡ true → (j == k) ≡ false
not_near_own g l k j e h = grind (arith, nat_tests)

not_near_far : (g : Geometry) (l k j : ℕ) → set_of g j ≢ set_of g l → is_near g l k ≡ true → (j == k) ≡ false
not_near_far g l k j f h = elim (eqb_tells j k) [
  | inl p ↦ absurd (f (ap (set_of g) p.1 ∙ eqb-true (set_of g k) (set_of g l) (and_parts (not (k == l)) (set_of g k == set_of g l) h).1))
  | inr p ↦ p.0
]

near_near : (g : Geometry) (l k j : ℕ) → j ≢ l → set_of g j ≡ set_of g l → (j == k) ≡ true → is_near g l k ≡ true
near_near g l k j e f h = let is : j ≡ k = eqb-true j k h in
    subst (λ (x : ℕ). is_near g l x ≡ true) is (and_from (not (j == l)) (set_of g j == set_of g l) (ap not (ne_eqb j l e)) (eq-eqb (set_of g j) (set_of g l) f))

-- n tells whether k is near, t whether the event is of k
other_touched : (n t u : Bool) → (n ≡ true → t ≡ false) → (n && u) ≡ (n && (t || u))
other_touched n t u h = grind arith

other_dropped : (n t u : Bool) → (n ≡ true → t ≡ false) → (n && u) ≡ (n && (not t && u))
other_dropped n t u h = grind arith

near_touched : (n t u : Bool) → (t ≡ true → n ≡ true) → (t || (not t && (n && u))) ≡ (n && (t || u))
near_touched n t u h = grind arith

near_dropped : (n t u : Bool) → (not t && (n && u)) ≡ (n && (not t && u))
near_dropped n t u = grind arith

pub near_is : (g : Geometry) (l k : ℕ) (es : List Event) → among k (others g l es) ≡ (is_near g l k && undropped g k es)
near_is g l k [] = grind arith
near_is g l k (Touch a ∷ es) = let j = line_of g a in elim (tells g l j) [
  | own e ↦ rw (touch_own g l a es (eq-eqb j l e)) (near_is g l k es ∙ other_touched (is_near g l k) (j == k) (undropped g k es) (not_near_own g l k j e))
  | near t e r f ↦ rw (touch_near g l a es t r) (ap (λ b. (j == k) || b) (among_except k j (others g l es)) ∙ (ap (λ b. (j == k) || (not (j == k) && b)) (near_is g l k es) ∙ near_touched (is_near g l k) (j == k) (undropped g k es) (near_near g l k j e f)))
  | far t e r f ↦ rw (touch_far g l a es t r) (near_is g l k es ∙ other_touched (is_near g l k) (j == k) (undropped g k es) (not_near_far g l k j f))
]
near_is g l k (Drop a ∷ es) = let j = line_of g a in elim (tells g l j) [
  | own e ↦ rw (drop_own g l a es (eq-eqb j l e)) (near_is g l k es ∙ other_dropped (is_near g l k) (j == k) (undropped g k es) (not_near_own g l k j e))
  | near t e r f ↦ rw (drop_near g l a es t r) (among_except k j (others g l es) ∙ (ap (λ b. not (j == k) && b) (near_is g l k es) ∙ near_dropped (is_near g l k) (j == k) (undropped g k es)))
  | far t e r f ↦ rw (drop_far g l a es t r) (near_is g l k es ∙ other_dropped (is_near g l k) (j == k) (undropped g k es) (not_near_far g l k j f))
]
near_is g l k (Clear ∷ es) = near_is g l k es

-- ---- no line stands twice, and an event more brings at most one

pub IsDistinct-others : (g : Geometry) (l : ℕ) (es : List Event) → IsDistinct (others g l es)
IsDistinct-others g l [] = tt
IsDistinct-others g l (Touch a ∷ es) = let j = line_of g a in elim (tells g l j) [
  | own e ↦ rw (touch_own g l a es (eq-eqb j l e)) (IsDistinct-others g l es)
  | near t e r f ↦ rw (touch_near g l a es t r) (among_except j j (others g l es) ∙ ap (λ b. not b && among j (others g l es)) (eq-eqb j j refl), IsDistinct-except j (others g l es) (IsDistinct-others g l es))
  | far t e r f ↦ rw (touch_far g l a es t r) (IsDistinct-others g l es)
]
IsDistinct-others g l (Drop a ∷ es) = let j = line_of g a in elim (tells g l j) [
  | own e ↦ rw (drop_own g l a es (eq-eqb j l e)) (IsDistinct-others g l es)
  | near t e r f ↦ rw (drop_near g l a es t r) (IsDistinct-except j (others g l es) (IsDistinct-others g l es))
  | far t e r f ↦ rw (drop_far g l a es t r) (IsDistinct-others g l es)
]
IsDistinct-others g l (Clear ∷ es) = IsDistinct-others g l es

-- ---- `undropped` says what it is called

-- a list of events, and one more that isn't an access, or isn't a drop, of the line
pub touch_more : (g : Geometry) (k : ℕ) (e : Event) (since es : List Event) → ¬ IsTouchOf g k e → IsSinceTouch g k since es → IsSinceTouch g k (e ∷ since) (e ∷ es)
touch_more g k e since es n t = record {
  addr = t.addr;
  before = t.before;
  parts = ap (λ x. e ∷ x) t.parts;
  touch = t.touch;
  last = All-cons (λ x. ¬ IsTouchOf g k x) e since n t.last;
}

undropped_more : (g : Geometry) (k : ℕ) (e : Event) (es : List Event) → ¬ IsTouchOf g k e → ¬ IsDropOf g k e → IsUndropped g k es → IsUndropped g k (e ∷ es)
undropped_more g k e es n d u = record {
  since = e ∷ u.since;
  touched = touch_more g k e u.since es n u.touched;
  undropped = All-cons (λ x. ¬ IsDropOf g k x) e u.since d u.undropped;
}

pub undropped_is : (g : Geometry) (k : ℕ) (es : List Event) → undropped g k es ≡ true → IsUndropped g k es
undropped_is g k [] h = absurd (false≢true h)
undropped_is g k (Touch a ∷ es) h = elim (eqb_tells (line_of g a) k) [
  | inl p ↦ record {
    since = [];
    touched = record { addr = a; before = es; parts = refl; touch = p.1; last = All-nil (λ x. ¬ IsTouchOf g k x) };
    undropped = All-nil (λ x. ¬ IsDropOf g k x);
  }
  | inr p ↦ undropped_more g k (Touch a) es p.1 (λ x. x) (undropped_is g k es (rw p.0 at h))
]
undropped_is g k (Drop a ∷ es) h = elim (eqb_tells (line_of g a) k) [
  | inl p ↦ absurd (false≢true (rw p.0 at h))
  | inr p ↦ undropped_more g k (Drop a) es (λ x. x) p.1 (undropped_is g k es (rw p.0 at h))
]
undropped_is g k (Clear ∷ es) h = undropped_more g k Clear es (λ x. x) (λ x. x) (undropped_is g k es h)

from_since : (g : Geometry) (k a : ℕ) (before since : List Event) → line_of g a ≡ k → All (λ e. ¬ IsTouchOf g k e) since → All (λ e. ¬ IsDropOf g k e) since → undropped g k (since ++ Touch a ∷ before) ≡ true
from_since g k a before [] e t d = grind (arith, eq-eqb (line_of g a) k e)
from_since g k a before (Touch b ∷ es) e t d = grind (arith, from_since g k a before es e (All-tail (λ x. ¬ IsTouchOf g k x) (Touch b) es t) (All-tail (λ x. ¬ IsDropOf g k x) (Touch b) es d))
from_since g k a before (Drop b ∷ es) e t d =
    let h = from_since g k a before es e (All-tail (λ x. ¬ IsTouchOf g k x) (Drop b) es t) (All-tail (λ x. ¬ IsDropOf g k x) (Drop b) es d) in
    let n = ne_eqb (line_of g b) k (All-head (λ x. ¬ IsDropOf g k x) (Drop b) es d) in
    grind arith
from_since g k a before (Clear ∷ es) e t d = from_since g k a before es e (All-tail (λ x. ¬ IsTouchOf g k x) Clear es t) (All-tail (λ x. ¬ IsDropOf g k x) Clear es d)

pub is_undropped : (g : Geometry) (k : ℕ) (es : List Event) → IsUndropped g k es → undropped g k es ≡ true
is_undropped g k es u = let t = u.touched in
    subst (λ (x : List Event). undropped g k x ≡ true) (sym t.parts) (from_since g k t.addr t.before u.since t.touch t.last u.undropped)

-- ---- there are n others if and only if the list has n or more

others_each : (g : Geometry) (l k : ℕ) (es : List Event) → among k (others g l es) ≡ true → (k ≢ l) × (set_of g k ≡ set_of g l) × IsUndropped g k es
others_each g l k es m =
    let h = and_parts (is_near g l k) (undropped g k es) (sym (near_is g l k es) ∙ m) in
    let n = and_parts (not (k == l)) (set_of g k == set_of g l) h.0 in
    (grind (arith, nat_tests, n.0), eqb-true (set_of g k) (set_of g l) n.1, undropped_is g k es h.1)

pub HasOthers-from_length : (g : Geometry) (l n : ℕ) (es : List Event) → n ≤ length (others g l es) → HasOthers g l n es
HasOthers-from_length g l n es h = let xs = others g l es in record {
  others = take n xs;
  count = length-take-le n xs h;
  distinct = pairs_from_IsDistinct (take n xs) (IsDistinct-take n xs (IsDistinct-others g l es));
  each = All-from_among (λ k. (k ≢ l) × (set_of g k ≡ set_of g l) × IsUndropped g k es) (take n xs) (λ k m. others_each g l k es (among_take n k xs m));
}

pub length_from_HasOthers : (g : Geometry) (l n : ℕ) (es : List Event) → HasOthers g l n es → n ≤ length (others g l es)
length_from_HasOthers g l n es h =
    let below : length h.others ≤ length (others g l es) = length-below h.others (others g l es) (IsDistinct-from_pairs h.others h.distinct) each in
    omega (arith, h.count)
  where
    each : (k : ℕ) → among k h.others ≡ true → among k (others g l es) ≡ true
    each k m =
        let p = among_has (λ x. (x ≢ l) × (set_of g x ≡ set_of g l) × IsUndropped g x es) h.others h.each k m in
        near_is g l k es ∙ and_from (is_near g l k) (undropped g k es) (and_from (not (k == l)) (set_of g k == set_of g l) (ap not (ne_eqb k l p.0)) (eq-eqb (set_of g k) (set_of g l) p.1)) (is_undropped g k es p.2)
