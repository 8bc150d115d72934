-- The test for listed lines says what the history says.
use Rattle.first_load_bits.proofs.Common.{◌≡◌, ◌↔◌, ℕ, zero, suc, ◌<◌, ◌≤◌, true, false, IsTrue, ◌==◌, nat_lt, List, [], ◌∷◌, ◌++◌, length, drop, All, Option, Some, None, is_some, refl, sym, ◌∙◌, ap, arith, subst, inl, inr, false≢true, eq-eqb, ltb-true, lt-ltb, cases_Bool, cases_lt, All-nil, All-cons, All-head, All-tail, Geometry, Event, line_of, set_of, IsTouchOf, IsDropOf, Touch, Drop, Clear, except, fewer, with_first, without, later_lines, listed, IsSinceTouch}
use Rattle.first_load_bits.specs.History.{IsListed}
use Rattle.first_load_bits.proofs.Numbers.{length-except}
use Rattle.first_load_bits.proofs.Others.{tells, own, near, far, others, touch_near, touch_far, drop_near, drop_far, touch_more, HasOthers-from_length, length_from_HasOthers}

-- ---- `later_lines` at each event

pub later_touch_own : (g : Geometry) (l a : ℕ) (es : List Event) → (line_of g a == l) ≡ true → later_lines g l (Touch a ∷ es) ≡ Some []
later_touch_own g l a es e = rw (e, later_lines) refl

pub later_touch_near : (g : Geometry) (l a : ℕ) (es : List Event) → (line_of g a == l) ≡ false → (set_of g (line_of g a) == set_of g l) ≡ true
    → later_lines g l (Touch a ∷ es) ≡ fewer g.ways (with_first (line_of g a) (later_lines g l es))
later_touch_near g l a es e f = rw (e, f, later_lines) refl

pub later_touch_far : (g : Geometry) (l a : ℕ) (es : List Event) → (line_of g a == l) ≡ false → (set_of g (line_of g a) == set_of g l) ≡ false
    → later_lines g l (Touch a ∷ es) ≡ later_lines g l es
later_touch_far g l a es e f = rw (e, f, later_lines) refl

pub later_drop_own : (g : Geometry) (l a : ℕ) (es : List Event) → (line_of g a == l) ≡ true → later_lines g l (Drop a ∷ es) ≡ None
later_drop_own g l a es e = rw (e, later_lines) refl

pub later_drop_near : (g : Geometry) (l a : ℕ) (es : List Event) → (line_of g a == l) ≡ false → (set_of g (line_of g a) == set_of g l) ≡ true
    → later_lines g l (Drop a ∷ es) ≡ without (line_of g a) (later_lines g l es)
later_drop_near g l a es e f = rw (e, f, later_lines) refl

pub later_drop_far : (g : Geometry) (l a : ℕ) (es : List Event) → (line_of g a == l) ≡ false → (set_of g (line_of g a) == set_of g l) ≡ false
    → later_lines g l (Drop a ∷ es) ≡ later_lines g l es
later_drop_far g l a es e f = rw (e, f, later_lines) refl

-- ---- from the test to the history

-- what the test gathers: the events since the last touch, and the others that they bring at every moment
record IsGathered (g : Geometry) (l : ℕ) (es : List Event) (ls : List ℕ) : Type 0 where
  since : List Event
  touched : IsSinceTouch g l since es
  undropped : All (λ e. ¬ IsDropOf g l e) since
  all : ls ≡ others g l since
  room : (n : ℕ) → n ≤ length since → length (others g l (drop n since)) < g.ways

fewer_some : (n : ℕ) (o : Option (List ℕ)) (ls : List ℕ) → fewer n o ≡ Some ls → (o ≡ Some ls) × (length ls < n)
fewer_some n None ls h = absurd cc
fewer_some n (Some xs) ls h = elim (cases_Bool (nat_lt (length xs) n)) [
  | inl t ↦ let same : xs ≡ ls = let e : ◌≡◌ {A = Option (List ℕ)} (Some xs) (Some ls) = rw (t, fewer) at h in cc in (ap Some same, subst (λ (x : List ℕ). length x < n) same (ltb-true (length xs) n t))
  | inr f ↦ absurd (let e : ◌≡◌ {A = Option (List ℕ)} None (Some ls) = rw (f, fewer) at h in cc)
]

with_first_some : (k : ℕ) (o : Option (List ℕ)) (ls : List ℕ) → with_first k o ≡ Some ls → (xs : List ℕ) × (o ≡ Some xs) × (ls ≡ k ∷ except k xs)
with_first_some k None ls h = absurd cc
with_first_some k (Some xs) ls h = (xs, refl, cc)

without_some : (k : ℕ) (o : Option (List ℕ)) (ls : List ℕ) → without k o ≡ Some ls → (xs : List ℕ) × (o ≡ Some xs) × (ls ≡ except k xs)
without_some k None ls h = absurd cc
without_some k (Some xs) ls h = (xs, refl, cc)

-- an event more that isn't of the line
more : (g : Geometry) (l : ℕ) (e : Event) (es : List Event) (xs ls : List ℕ) → ¬ IsTouchOf g l e → ¬ IsDropOf g l e
    → (t : IsGathered g l es xs) → ls ≡ others g l (e ∷ t.since) → length ls < g.ways → IsGathered g l (e ∷ es) ls
more g l e es xs ls n d t all fits = record {
  since = e ∷ t.since;
  touched = touch_more g l e t.since es n t.touched;
  undropped = All-cons (λ x. ¬ IsDropOf g l x) e t.since d t.undropped;
  all = all;
  room = room;
}
  where
    room : (n : ℕ) → n ≤ length (e ∷ t.since) → length (others g l (drop n (e ∷ t.since))) < g.ways
    room zero m = subst (λ (x : List ℕ). length x < g.ways) all fits
    room (suc n) m = t.room n (omega arith)

drop_nil : (n : ℕ) → drop {A = Event} n [] ≡ []
drop_nil zero = refl
drop_nil (suc n) = refl

-- the others are few now
now : (g : Geometry) (l : ℕ) (es : List Event) (ls : List ℕ) → (t : IsGathered g l es ls) → length ls < g.ways
now g l es ls t = subst (λ (x : List ℕ). length x < g.ways) (sym t.all) (t.room 0 (omega arith))

gathered : (g : Geometry) (l : ℕ) → 0 < g.ways → (es : List Event) (ls : List ℕ) → later_lines g l es ≡ Some ls → IsGathered g l es ls
gathered g l w [] ls h = absurd cc
gathered g l w (Touch a ∷ es) ls h = let k = line_of g a in elim (tells g l k) [
  | own e ↦
      let none : [] ≡ ls = let p : ◌≡◌ {A = Option (List ℕ)} (Some []) (Some ls) = sym (later_touch_own g l a es (eq-eqb k l e)) ∙ h in cc in
      record {
        since = [];
        touched = record { addr = a; before = es; parts = refl; touch = e; last = All-nil (λ x. ¬ IsTouchOf g l x) };
        undropped = All-nil (λ x. ¬ IsDropOf g l x);
        all = sym none;
        room = λ n m. subst (λ (x : List Event). length (others g l x) < g.ways) (sym (drop_nil n)) w;
      }
  | near t e r f ↦
      let p = fewer_some g.ways (with_first k (later_lines g l es)) ls (sym (later_touch_near g l a es t r) ∙ h) in
      let q = with_first_some k (later_lines g l es) ls p.0 in
      let i = gathered g l w es q.0 q.1 in
      more g l (Touch a) es q.0 ls e (λ x. x) i (q.2 ∙ (ap (λ x. k ∷ except k x) i.all ∙ sym (touch_near g l a i.since t r))) p.1
  | far t e r f ↦
      let i = gathered g l w es ls (sym (later_touch_far g l a es t r) ∙ h) in
      more g l (Touch a) es ls ls e (λ x. x) i (i.all ∙ sym (touch_far g l a i.since t r)) (now g l es ls i)
]
gathered g l w (Drop a ∷ es) ls h = let k = line_of g a in elim (tells g l k) [
  | own e ↦ absurd (let p : ◌≡◌ {A = Option (List ℕ)} None (Some ls) = sym (later_drop_own g l a es (eq-eqb k l e)) ∙ h in cc)
  | near t e r f ↦
      let q = without_some k (later_lines g l es) ls (sym (later_drop_near g l a es t r) ∙ h) in
      let i = gathered g l w es q.0 q.1 in
      let fits : length ls < g.ways = subst (λ (x : List ℕ). length x < g.ways) (sym q.2) (omega (arith, length-except k q.0, now g l es q.0 i)) in
      more g l (Drop a) es q.0 ls (λ x. x) e i (q.2 ∙ (ap (except k) i.all ∙ sym (drop_near g l a i.since t r))) fits
  | far t e r f ↦
      let i = gathered g l w es ls (sym (later_drop_far g l a es t r) ∙ h) in
      more g l (Drop a) es ls ls (λ x. x) e i (i.all ∙ sym (drop_far g l a i.since t r)) (now g l es ls i)
]
gathered g l w (Clear ∷ es) ls h = let i = gathered g l w es ls h in more g l Clear es ls ls (λ x. x) (λ x. x) i i.all (now g l es ls i)

-- a line that is listed has fewer lines after it than there is room for
pub later_fits : (g : Geometry) (l : ℕ) (es : List Event) (ls : List ℕ) → 0 < g.ways → later_lines g l es ≡ Some ls → length ls < g.ways
later_fits g l es ls w e = now g l es ls (gathered g l w es ls e)

is_listed : (g : Geometry) (l : ℕ) (es : List Event) → 0 < g.ways → (o : Option (List ℕ)) → later_lines g l es ≡ o → is_some o ≡ true → IsListed g l es
is_listed g l es w None e h = absurd (false≢true h)
is_listed g l es w (Some ls) e h = let i = gathered g l w es ls e in record {
  since = i.since;
  touched = i.touched;
  undropped = i.undropped;
  room = λ n m o. absurd (omega (arith, i.room n m, length_from_HasOthers g l g.ways (drop n i.since) o));
}

-- ---- from the history to the test

fewer_fits : (n : ℕ) (ls : List ℕ) → length ls < n → fewer n (Some ls) ≡ Some ls
fewer_fits n ls h = rw (lt-ltb (length ls) n h, fewer) refl

-- after an access of l, and events since that neither touch nor drop it and leave it room
later_lines_since : (g : Geometry) (l a : ℕ) (before since : List Event) → line_of g a ≡ l
    → All (λ e. ¬ IsTouchOf g l e) since → All (λ e. ¬ IsDropOf g l e) since
    → ((n : ℕ) → n ≤ length since → length (others g l (drop n since)) < g.ways)
    → later_lines g l (since ++ Touch a ∷ before) ≡ Some (others g l since)
later_lines_since g l a before [] e t d room = later_touch_own g l a before (eq-eqb (line_of g a) l e)
later_lines_since g l a before (Touch b ∷ since) e t d room =
    let rest = later_lines_since g l a before since e (All-tail (λ x. ¬ IsTouchOf g l x) (Touch b) since t) (All-tail (λ x. ¬ IsDropOf g l x) (Touch b) since d) (λ n m. room (suc n) (omega arith)) in
    let k = line_of g b in
    elim (tells g l k) [
      | own f ↦ absurd (All-head (λ x. ¬ IsTouchOf g l x) (Touch b) since t f)
      | near s f r q ↦
          let few : length (k ∷ except k (others g l since)) < g.ways = subst (λ (x : List ℕ). length x < g.ways) (touch_near g l b since s r) (room 0 (omega arith)) in
          later_touch_near g l b (since ++ Touch a ∷ before) s r ∙ (ap (λ x. fewer g.ways (with_first k x)) rest ∙ (fewer_fits g.ways (k ∷ except k (others g l since)) few ∙ ap Some (sym (touch_near g l b since s r))))
      | far s f r q ↦ later_touch_far g l b (since ++ Touch a ∷ before) s r ∙ (rest ∙ ap Some (sym (touch_far g l b since s r)))
    ]
later_lines_since g l a before (Drop b ∷ since) e t d room =
    let rest = later_lines_since g l a before since e (All-tail (λ x. ¬ IsTouchOf g l x) (Drop b) since t) (All-tail (λ x. ¬ IsDropOf g l x) (Drop b) since d) (λ n m. room (suc n) (omega arith)) in
    let k = line_of g b in
    elim (tells g l k) [
      | own f ↦ absurd (All-head (λ x. ¬ IsDropOf g l x) (Drop b) since d f)
      | near s f r q ↦ later_drop_near g l b (since ++ Touch a ∷ before) s r ∙ (ap (without k) rest ∙ ap Some (sym (drop_near g l b since s r)))
      | far s f r q ↦ later_drop_far g l b (since ++ Touch a ∷ before) s r ∙ (rest ∙ ap Some (sym (drop_far g l b since s r)))
    ]
later_lines_since g l a before (Clear ∷ since) e t d room =
    later_lines_since g l a before since e (All-tail (λ x. ¬ IsTouchOf g l x) Clear since t) (All-tail (λ x. ¬ IsDropOf g l x) Clear since d) (λ n m. room (suc n) (omega arith))

from_listed : (g : Geometry) (l : ℕ) (es : List Event) → IsListed g l es → listed g l es ≡ true
from_listed g l es h =
    let t = h.touched in
    subst (λ (x : List Event). listed g l x ≡ true) (sym t.parts) (ap is_some (later_lines_since g l t.addr t.before h.since t.touch t.last h.undropped few))
  where
    few : (n : ℕ) → n ≤ length h.since → length (others g l (drop n h.since)) < g.ways
    few n m = elim (cases_lt (length (others g l (drop n h.since))) g.ways) [
      | inl p ↦ p
      | inr p ↦ absurd (h.room n m (HasOthers-from_length g l g.ways (drop n h.since) p))
    ]

pub listed_is : (g : Geometry) (l : ℕ) (es : List Event) → 0 < g.ways → (IsTrue (listed g l es) ↔ IsListed g l es)
listed_is g l es w = (is_listed g l es w (later_lines g l es) refl, from_listed g l es)
