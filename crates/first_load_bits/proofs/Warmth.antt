-- The test for warm words says what the history says.
use Rattle.first_load_bits.proofs.Common.{◌≡◌, ◌≢◌, ◌↔◌, ℕ, zero, suc, ◌/◌, ◌<◌, ◌≤◌, Bool, true, false, IsTrue, ◌==◌, List, [], ◌∷◌, ◌++◌, length, drop, All, Option, Some, None, is_some, refl, sym, ◌∙◌, ap, arith, subst, inl, inr, div-div-eq-div-mul, cases_Bool, false≢true, eq-eqb, ne_eqb, eqb_tells, All-nil, All-cons, All-head, All-tail, Geometry, Event, word_of, line_of, set_of, second_of, Touch, Drop, Clear, listed, below, held, warm, later_lines, without, second_history, IsHeld, IsWarm}
use Rattle.first_load_bits.proofs.Second.{held_is}
use Rattle.first_load_bits.proofs.Listed.{later_touch_own, later_drop_own, later_drop_near, later_drop_far}

-- one word lies in one line
pub line_of_word : (g : Geometry) (a b : ℕ) → word_of a ≡ word_of b → line_of g a ≡ line_of g b
line_of_word g a b e = sym (div-div-eq-div-mul a 4 g.line) ∙ (ap (λ w. w / g.line) e ∙ div-div-eq-div-mul b 4 g.line)

-- ---- `warm` at each event

pub warm_touch_own : (g : Geometry) (a b : ℕ) (es : List Event) → (word_of b == word_of a) ≡ true → warm g a (Touch b ∷ es) ≡ true
warm_touch_own g a b es e = rw (e, warm) refl

-- an access of another word, by whether the line is held then
pub warm_touch_held : (g : Geometry) (a b : ℕ) (es : List Event) → (word_of b == word_of a) ≡ false → held g (line_of g a) (Touch b ∷ es) ≡ true → warm g a (Touch b ∷ es) ≡ warm g a es
warm_touch_held g a b es e f = rw (e, f, warm) refl

pub warm_touch_lost : (g : Geometry) (a b : ℕ) (es : List Event) → (word_of b == word_of a) ≡ false → held g (line_of g a) (Touch b ∷ es) ≡ false → warm g a (Touch b ∷ es) ≡ false
warm_touch_lost g a b es e f = rw (e, f, warm) refl

pub warm_drop_own : (g : Geometry) (a b : ℕ) (es : List Event) → (line_of g b == line_of g a) ≡ true → warm g a (Drop b ∷ es) ≡ false
warm_drop_own g a b es e = rw (e, warm) refl

pub warm_drop_other : (g : Geometry) (a b : ℕ) (es : List Event) → (line_of g b == line_of g a) ≡ false → warm g a (Drop b ∷ es) ≡ warm g a es
warm_drop_other g a b es e = rw (e, warm) refl

-- ---- `held` at each event

pub held_listed : (g : Geometry) (l : ℕ) (es : List Event) → listed g l es ≡ true → held g l es ≡ true
held_listed g l es e = rw (e, held) refl

pub held_unlisted : (g : Geometry) (l : ℕ) (es : List Event) → listed g l es ≡ false → held g l es ≡ below g l es
held_unlisted g l es e = rw (e, held) refl

pub held_touch_own : (g : Geometry) (l a : ℕ) (es : List Event) → line_of g a ≡ l → held g l (Touch a ∷ es) ≡ true
held_touch_own g l a es e = held_listed g l (Touch a ∷ es) (ap is_some (later_touch_own g l a es (eq-eqb (line_of g a) l e)))

listed_drop_own : (g : Geometry) (l a : ℕ) (es : List Event) → line_of g a ≡ l → listed g l (Drop a ∷ es) ≡ false
listed_drop_own g l a es e = ap is_some (later_drop_own g l a es (eq-eqb (line_of g a) l e))

below_drop_own : (g : Geometry) (l a : ℕ) (es : List Event) → line_of g a ≡ l → below g l (Drop a ∷ es) ≡ false
below_drop_own g l a es e = elim (cases_Bool (g.ways2 == 0)) [
  | inl p ↦ rw (p, below) refl
  | inr p ↦ rw (p, below) (listed_drop_own (second_of g) l a (second_history g es) e)
]

pub held_drop_own : (g : Geometry) (l a : ℕ) (es : List Event) → line_of g a ≡ l → held g l (Drop a ∷ es) ≡ false
held_drop_own g l a es e = held_unlisted g l (Drop a ∷ es) (listed_drop_own g l a es e) ∙ below_drop_own g l a es e

is_some-without : (k : ℕ) (o : Option (List ℕ)) → is_some (without k o) ≡ is_some o
is_some-without k None = refl
is_some-without k (Some ls) = refl

-- a drop of another line leaves the line listed or not, below or not, and held or not
pub listed_drop_other : (g : Geometry) (l a : ℕ) (es : List Event) → (line_of g a == l) ≡ false → listed g l (Drop a ∷ es) ≡ listed g l es
listed_drop_other g l a es e = elim (eqb_tells (set_of g (line_of g a)) (set_of g l)) [
  | inl p ↦ ap is_some (later_drop_near g l a es e p.0) ∙ is_some-without (line_of g a) (later_lines g l es)
  | inr p ↦ ap is_some (later_drop_far g l a es e p.0)
]

below_drop_other : (g : Geometry) (l a : ℕ) (es : List Event) → (line_of g a == l) ≡ false → below g l (Drop a ∷ es) ≡ below g l es
below_drop_other g l a es e = ap (λ b. elim (g.ways2 == 0) as (λ x. Bool) [ true ↦ false | false ↦ b ]) (listed_drop_other (second_of g) l a (second_history g es) e)

held_drop_other : (g : Geometry) (l a : ℕ) (es : List Event) → (line_of g a == l) ≡ false → held g l (Drop a ∷ es) ≡ held g l es
held_drop_other g l a es e =
    ap (λ b. elim b as (λ x. Bool) [ true ↦ true | false ↦ below g l (Drop a ∷ es) ]) (listed_drop_other g l a es e)
    ∙ ap (λ b. elim (listed g l es) as (λ x. Bool) [ true ↦ true | false ↦ b ]) (below_drop_other g l a es e)

-- ---- from the test to the history

touch_unclear : (a : ℕ) → Touch a ≢ Clear
touch_unclear a e = cc

drop_unclear : (a : ℕ) → Drop a ≢ Clear
drop_unclear a e = cc

-- an event more that doesn't clear, and leaves the line held
warm_more : (g : Geometry) (a : ℕ) (e : Event) (es : List Event) → e ≢ Clear → IsHeld g (line_of g a) (e ∷ es) → IsWarm g a es → IsWarm g a (e ∷ es)
warm_more g a e es u h w = record {
  addr = w.addr;
  since = e ∷ w.since;
  before = w.before;
  parts = ap (λ x. e ∷ x) w.parts;
  touch = w.touch;
  uncleared = All-cons (λ x. x ≢ Clear) e w.since u w.uncleared;
  held = held;
}
  where
    held : (n : ℕ) → n ≤ length (e ∷ w.since) → IsHeld g (line_of g a) (drop n (e ∷ es))
    held zero m = h
    held (suc n) m = w.held n (omega arith)

is_held : (g : Geometry) (l : ℕ) (es : List Event) → 0 < g.ways → held g l es ≡ true → IsHeld g l es
is_held g l es w h = (held_is g l es w).0 h

is_warm : (g : Geometry) (a : ℕ) (es : List Event) → 0 < g.ways → warm g a es ≡ true → IsWarm g a es
is_warm g a [] w h = absurd (false≢true h)
is_warm g a (Touch b ∷ es) w h = let l = line_of g a in elim (eqb_tells (word_of b) (word_of a)) [
  | inl p ↦ record {
    addr = b;
    since = [];
    before = es;
    parts = refl;
    touch = p.1;
    uncleared = All-nil (λ x. x ≢ Clear);
    held = λ n m. now n m (is_held g l (Touch b ∷ es) w (held_touch_own g l b es (line_of_word g b a p.1)));
  }
  | inr p ↦ elim (cases_Bool (held g l (Touch b ∷ es))) [
    | inl t ↦ warm_more g a (Touch b) es (touch_unclear b) (is_held g l (Touch b ∷ es) w t) (is_warm g a es w (sym (warm_touch_held g a b es p.0 t) ∙ h))
    | inr f ↦ absurd (false≢true (sym (warm_touch_lost g a b es p.0 f) ∙ h))
  ]
]
  where
    now : (n : ℕ) → n ≤ 0 → IsHeld g (line_of g a) (Touch b ∷ es) → IsHeld g (line_of g a) (drop n (Touch b ∷ es))
    now zero m x = x
    now (suc n) m x = absurd (omega arith)
is_warm g a (Drop b ∷ es) w h = let l = line_of g a in elim (eqb_tells (line_of g b) l) [
  | inl p ↦ absurd (false≢true (sym (warm_drop_own g a b es p.0) ∙ h))
  | inr p ↦
      let i = is_warm g a es w (sym (warm_drop_other g a b es p.0) ∙ h) in
      let t : held g l es ≡ true = (held_is g l es w).1 (i.held 0 (omega arith)) in
      warm_more g a (Drop b) es (drop_unclear b) (is_held g l (Drop b ∷ es) w (held_drop_other g l b es p.0 ∙ t)) i
]
is_warm g a (Clear ∷ es) w h = absurd (false≢true h)

-- ---- from the history to the test

warm_since : (g : Geometry) (a b : ℕ) (before since : List Event) → 0 < g.ways → word_of b ≡ word_of a → All (λ e. e ≢ Clear) since
    → ((n : ℕ) → n ≤ length since → IsHeld g (line_of g a) (drop n (since ++ Touch b ∷ before))) → warm g a (since ++ Touch b ∷ before) ≡ true
warm_since g a b before [] w e u h = warm_touch_own g a b before (eq-eqb (word_of b) (word_of a) e)
warm_since g a b before (Touch x ∷ since) w e u h = elim (eqb_tells (word_of x) (word_of a)) [
  | inl p ↦ warm_touch_own g a x (since ++ Touch b ∷ before) p.0
  | inr p ↦
      let t : held g (line_of g a) (Touch x ∷ (since ++ Touch b ∷ before)) ≡ true = (held_is g (line_of g a) (Touch x ∷ (since ++ Touch b ∷ before)) w).1 (h 0 (omega arith)) in
      warm_touch_held g a x (since ++ Touch b ∷ before) p.0 t ∙ warm_since g a b before since w e (All-tail (λ y. y ≢ Clear) (Touch x) since u) (λ n m. h (suc n) (omega arith))
]
warm_since g a b before (Drop x ∷ since) w e u h = elim (eqb_tells (line_of g x) (line_of g a)) [
  | inl p ↦
      let t : held g (line_of g a) (Drop x ∷ (since ++ Touch b ∷ before)) ≡ true = (held_is g (line_of g a) (Drop x ∷ (since ++ Touch b ∷ before)) w).1 (h 0 (omega arith)) in
      absurd (false≢true (sym (held_drop_own g (line_of g a) x (since ++ Touch b ∷ before) p.1) ∙ t))
  | inr p ↦ warm_drop_other g a x (since ++ Touch b ∷ before) p.0 ∙ warm_since g a b before since w e (All-tail (λ y. y ≢ Clear) (Drop x) since u) (λ n m. h (suc n) (omega arith))
]
warm_since g a b before (Clear ∷ since) w e u h = absurd (All-head (λ y. y ≢ Clear) Clear since u refl)

from_warm : (g : Geometry) (a : ℕ) (es : List Event) → 0 < g.ways → IsWarm g a es → warm g a es ≡ true
from_warm g a es w h =
    subst (λ (x : List Event). warm g a x ≡ true) (sym h.parts) (warm_since g a h.addr h.before h.since w h.touch h.uncleared (λ n m. subst (λ (x : List Event). IsHeld g (line_of g a) (drop n x)) h.parts (h.held n m)))

pub warm_is : (g : Geometry) (a : ℕ) (es : List Event) → 0 < g.ways → (IsTrue (warm g a es) ↔ IsWarm g a es)
warm_is g a es w = (is_warm g a es w, from_warm g a es w)

-- ---- only an access of a word warms it

pub warm_before_touch : (g : Geometry) (a b : ℕ) (es : List Event) → word_of b ≢ word_of a → warm g a (Touch b ∷ es) ≡ true → warm g a es ≡ true
warm_before_touch g a b es n h = let other = ne_eqb (word_of b) (word_of a) n in elim (cases_Bool (held g (line_of g a) (Touch b ∷ es))) [
  | inl t ↦ sym (warm_touch_held g a b es other t) ∙ h
  | inr f ↦ absurd (false≢true (sym (warm_touch_lost g a b es other f) ∙ h))
]

pub warm_before_drop : (g : Geometry) (a b : ℕ) (es : List Event) → warm g a (Drop b ∷ es) ≡ true → (line_of g b ≢ line_of g a) × (warm g a es ≡ true)
warm_before_drop g a b es h = elim (eqb_tells (line_of g b) (line_of g a)) [
  | inl p ↦ absurd (false≢true (sym (warm_drop_own g a b es p.0) ∙ h))
  | inr p ↦ (p.1, sym (warm_drop_other g a b es p.0) ∙ h)
]
