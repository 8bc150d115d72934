-- What happened to the second level: the test finds the line that falls, and gives the history of that level.
use Rattle.first_load_bits.proofs.Common.{◌≡◌, ◌≢◌, ◌↔◌, ℕ, suc, ◌<◌, ◌≤◌, true, false, not, IsTrue, nat_lt, List, [], ◌∷◌, ◌++◌, length, Option, Some, None, is_some, refl, sym, ◌∙◌, ap, arith, subst, inl, inr, false≢true, true≢false, eq-eqb, ltb-false, cases_Bool, and_parts, eqb_tells, Geometry, Event, line_of, set_of, second_of, line_start, Touch, Drop, Clear, Line, in_front, behind, lines, except, fewer, with_first, later_lines, listed, falls, fallen_among, with_fall, second_history, below, held, Falls, IsSecond, IsBelow, IsHeld}
use Rattle.first_load_bits.specs.History.{IsListed}
use Rattle.first_load_bits.specs.History.IsSecond.{Nothing, Comes, Stays, Leaves, Cleared}
use Rattle.first_load_bits.proofs.Numbers.{length-except}
use Rattle.first_load_bits.proofs.Others.{tells, own, near, far}
use Rattle.first_load_bits.proofs.Order.{front_here, front_there, lines_law}
use Rattle.first_load_bits.proofs.Listed.{listed_is, later_touch_own, later_touch_near, later_touch_far, later_fits}

-- ---- the line that falls

pub falls_parts : (g : Geometry) (l a : ℕ) (es : List Event) → falls g l a es ≡ true → (listed g l es ≡ true) × (listed g l (Touch a ∷ es) ≡ false)
falls_parts g l a es h = let p = and_parts (listed g l es) (not (listed g l (Touch a ∷ es))) h in (p.0, grind (arith, p.1))

pub falls_from : (g : Geometry) (l a : ℕ) (es : List Event) → listed g l es ≡ true → listed g l (Touch a ∷ es) ≡ false → falls g l a es ≡ true
falls_from g l a es p q = grind arith

pub falls_is : (g : Geometry) (l a : ℕ) (es : List Event) → 0 < g.ways → falls g l a es ≡ true → Falls g l a es
falls_is g l a es w h = let p = falls_parts g l a es h in record {
  listed = (listed_is g l es w).0 p.0;
  lost = λ t. true≢false (sym ((listed_is g l (Touch a ∷ es) w).1 t) ∙ p.1);
}

pub is_falls : (g : Geometry) (l a : ℕ) (es : List Event) → 0 < g.ways → Falls g l a es → falls g l a es ≡ true
is_falls g l a es w f = falls_from g l a es ((listed_is g l es w).1 f.listed) (elim (cases_Bool (listed g l (Touch a ∷ es))) [
  | inl t ↦ absurd (f.lost ((listed_is g l (Touch a ∷ es) w).0 t))
  | inr n ↦ n
])

-- the lines in front of one that falls: as many as there is room for besides it, and the touch is of its set
pub record IsLast (g : Geometry) (l a : ℕ) (es : List Event) : Type 0 where
  pub later : List ℕ
  pub stands : later_lines g l es ≡ Some later
  pub count : suc (length later) ≡ g.ways
  pub other : line_of g a ≢ l
  pub set : set_of g (line_of g a) ≡ set_of g l

fewer_none : (n : ℕ) (ls : List ℕ) → is_some (fewer n (Some ls)) ≡ false → n ≤ length ls
fewer_none n ls h = elim (cases_Bool (nat_lt (length ls) n)) [
  | inl t ↦ absurd (true≢false (let e : is_some (fewer n (Some ls)) ≡ true = rw (t, fewer) refl in sym e ∙ h))
  | inr f ↦ ltb-false (length ls) n f
]

last_from : (g : Geometry) (l a : ℕ) (es : List Event) → 0 < g.ways → listed g l (Touch a ∷ es) ≡ false → (o : Option (List ℕ)) → later_lines g l es ≡ o → is_some o ≡ true → IsLast g l a es
last_from g l a es w q None e h = absurd (false≢true h)
last_from g l a es w q (Some ls) e h = let k = line_of g a in elim (tells g l k) [
  | own s ↦ absurd (true≢false (sym (ap is_some (later_touch_own g l a es (eq-eqb k l s))) ∙ q))
  | near t n r f ↦
      let now : fewer g.ways (with_first k (Some ls)) ≡ later_lines g l (Touch a ∷ es) = ap (λ x. fewer g.ways (with_first k x)) (sym e) ∙ sym (later_touch_near g l a es t r) in
      let full : g.ways ≤ length (k ∷ except k ls) = fewer_none g.ways (k ∷ except k ls) (ap is_some now ∙ q) in
      let few : length ls < g.ways = later_fits g l es ls w e in
      record { later = ls; stands = e; count = omega (arith, full, few, length-except k ls); other = n; set = f }
  | far t n r f ↦ absurd (true≢false (sym (ap is_some (later_touch_far g l a es t r ∙ e)) ∙ q))
]

pub is_last : (g : Geometry) (l a : ℕ) (es : List Event) → 0 < g.ways → falls g l a es ≡ true → IsLast g l a es
is_last g l a es w h = let p = falls_parts g l a es h in last_from g l a es w p.1 (later_lines g l es) refl p.0

behind_some : (k : ℕ) (o : Option (List ℕ)) (ls : List ℕ) → behind k o ≡ Some ls → (xs : List ℕ) × (o ≡ Some xs) × (length ls ≡ suc (length xs))
behind_some k None ls h = absurd cc
behind_some k (Some xs) ls h = (xs, refl, let e : (k ∷ xs) ≡ ls = cc in ap length (sym e))

-- lines with as many others in front of them are one
same_place : (l k : ℕ) (xs : List Line) (ls ks : List ℕ) → in_front l xs ≡ Some ls → in_front k xs ≡ Some ks → length ls ≡ length ks → l ≡ k
same_place l k [] ls ks p q e = absurd cc
same_place l k (x ∷ xs) ls ks p q e = elim (eqb_tells x.number l) [
  | inl u ↦ elim (eqb_tells x.number k) [
    | inl v ↦ sym u.1 ∙ v.1
    | inr v ↦
        let none : ls ≡ [] = let f : ◌≡◌ {A = Option (List ℕ)} (Some []) (Some ls) = sym (front_here l x xs u.1) ∙ p in cc in
        let some = behind_some x.number (in_front k xs) ks (sym (front_there k x xs v.0) ∙ q) in
        absurd (omega (arith, ap length none, some.2, e))
  ]
  | inr u ↦ elim (eqb_tells x.number k) [
    | inl v ↦
        let none : ks ≡ [] = let f : ◌≡◌ {A = Option (List ℕ)} (Some []) (Some ks) = sym (front_here k x xs v.1) ∙ q in cc in
        let some = behind_some x.number (in_front l xs) ls (sym (front_there l x xs u.0) ∙ p) in
        absurd (omega (arith, ap length none, some.2, e))
    | inr v ↦
        let ps = behind_some x.number (in_front l xs) ls (sym (front_there l x xs u.0) ∙ p) in
        let qs = behind_some x.number (in_front k xs) ks (sym (front_there k x xs v.0) ∙ q) in
        same_place l k xs ps.0 qs.0 ps.1 qs.1 (omega (arith, ps.2, qs.2, e))
  ]
]

-- an access evicts at most one line
pub one_falls : (g : Geometry) (l k a : ℕ) (es : List Event) → 0 < g.ways → falls g l a es ≡ true → falls g k a es ≡ true → l ≡ k
one_falls g l k a es w p q =
    let i = is_last g l a es w p in
    let j = is_last g k a es w q in
    let same : set_of g k ≡ set_of g l = sym j.set ∙ i.set in
    same_place l k (lines g (set_of g l) es) i.later j.later (lines_law g l es w ∙ i.stands)
    (ap (λ s. in_front k (lines g s es)) (sym same) ∙ (lines_law g k es w ∙ j.stands)) (omega (arith, i.count, j.count))

-- ---- what the test finds

pub fallen_falls : (g : Geometry) (bs : List Event) (a l : ℕ) (es : List Event) → fallen_among g bs a es ≡ Some l → falls g l a es ≡ true
fallen_falls g [] a l es h = absurd cc
fallen_falls g (Touch b ∷ bs) a l es h = elim (cases_Bool (falls g (line_of g b) a es)) [
  | inl t ↦ let e : line_of g b ≡ l = let f : ◌≡◌ {A = Option ℕ} (Some (line_of g b)) (Some l) = rw (t, fallen_among) at h in cc in subst (λ k. falls g k a es ≡ true) e t
  | inr f ↦ fallen_falls g bs a l es (rw (f, fallen_among) at h)
]
fallen_falls g (Drop b ∷ bs) a l es h = fallen_falls g bs a l es h
fallen_falls g (Clear ∷ bs) a l es h = fallen_falls g bs a l es h

is_fallen : (g : Geometry) (since before : List Event) (a b : ℕ) (es : List Event) → falls g (line_of g b) a es ≡ true → is_some (fallen_among g (since ++ Touch b ∷ before) a es) ≡ true
is_fallen g [] before a b es h = rw (h, fallen_among) refl
is_fallen g (Touch c ∷ since) before a b es h = elim (cases_Bool (falls g (line_of g c) a es)) [
  | inl t ↦ rw (t, fallen_among) refl
  | inr f ↦ rw (f, fallen_among) (is_fallen g since before a b es h)
]
is_fallen g (Drop c ∷ since) before a b es h = is_fallen g since before a b es h
is_fallen g (Clear ∷ since) before a b es h = is_fallen g since before a b es h

-- a line that falls was touched
pub fallen_touched : (g : Geometry) (l a : ℕ) (es : List Event) → 0 < g.ways → falls g l a es ≡ true → (b : ℕ) × (line_of g b ≡ l)
fallen_touched g l a es w h = let i = ((listed_is g l es w).0 (falls_parts g l a es h).0).touched in (i.addr, i.touch)

some_fallen : (g : Geometry) (l a : ℕ) (es : List Event) → 0 < g.ways → falls g l a es ≡ true → is_some (fallen_among g es a es) ≡ true
some_fallen g l a es w h =
    let i = (listed_is g l es w).0 (falls_parts g l a es h).0 in
    subst (λ (x : List Event). is_some (fallen_among g x a es) ≡ true) (sym i.touched.parts)
    (is_fallen g i.since i.touched.before a i.touched.addr es (subst (λ k. falls g k a es ≡ true) (sym i.touched.touch) h))

pub fallen_is : (g : Geometry) (l a : ℕ) (es : List Event) → 0 < g.ways → falls g l a es ≡ true → fallen_among g es a es ≡ Some l
fallen_is g l a es w h = found (fallen_among g es a es) refl (some_fallen g l a es w h)
  where
    found : (o : Option ℕ) → fallen_among g es a es ≡ o → is_some o ≡ true → fallen_among g es a es ≡ Some l
    found None e t = absurd (false≢true t)
    found (Some k) e t = e ∙ ap Some (one_falls g k l a es w (fallen_falls g es a k es e) h)

pub none_falls : (g : Geometry) (l a : ℕ) (es : List Event) → 0 < g.ways → fallen_among g es a es ≡ None → falls g l a es ≡ true → ⊥
none_falls g l a es w e h = false≢true (sym (ap is_some e) ∙ some_fallen g l a es w h)

-- ---- the history of the second level

second_touch : (g : Geometry) (a : ℕ) (es bs : List Event) → 0 < g.ways → IsSecond g es bs → (o : Option ℕ) → fallen_among g es a es ≡ o → IsSecond g (Touch a ∷ es) (with_fall g o (Drop a ∷ bs))
second_touch g a es bs w h None e = Stays a es bs h (λ l f. none_falls g l a es w e (is_falls g l a es w f))
second_touch g a es bs w h (Some l) e = Comes a l es bs h (falls_is g l a es w (fallen_falls g es a l es e))

pub is_second : (g : Geometry) (es : List Event) → 0 < g.ways → IsSecond g es (second_history g es)
is_second g [] w = Nothing
is_second g (Touch a ∷ es) w = second_touch g a es (second_history g es) w (is_second g es w) (fallen_among g es a es) refl
is_second g (Drop a ∷ es) w = Leaves a es (second_history g es) (is_second g es w)
is_second g (Clear ∷ es) w = Cleared es (second_history g es) (is_second g es w)

-- no other list of events is
pub only_second : (g : Geometry) (es bs : List Event) → 0 < g.ways → IsSecond g es bs → bs ≡ second_history g es
only_second g _ _ w Nothing = refl
only_second g _ _ w (Comes a l es bs h f) =
    ap (λ xs. Touch (line_start g l) ∷ Drop a ∷ xs) (only_second g es bs w h) ∙ ap (λ o. with_fall g o (Drop a ∷ second_history g es)) (sym (fallen_is g l a es w (is_falls g l a es w f)))
only_second g _ _ w (Stays a es bs h n) =
    ap (λ xs. Drop a ∷ xs) (only_second g es bs w h) ∙ ap (λ o. with_fall g o (Drop a ∷ second_history g es)) (sym (none (fallen_among g es a es) refl))
  where
    none : (o : Option ℕ) → fallen_among g es a es ≡ o → fallen_among g es a es ≡ None
    none None e = e
    none (Some l) e = absurd (n l (falls_is g l a es w (fallen_falls g es a l es e)))
only_second g _ _ w (Leaves a es bs h) = ap (λ xs. Drop a ∷ xs) (only_second g es bs w h)
only_second g _ _ w (Cleared es bs h) = only_second g es bs w h

-- ---- which lines are below and held

-- with no room nothing is listed
none_listed : (g : Geometry) (l : ℕ) (es : List Event) → g.ways ≡ 0 → IsListed g l es → ⊥
none_listed g l es e h = h.room 0 (omega arith) (record { others = []; count = sym e; distinct = λ i j d m n. absurd (omega arith); each = λ k d m. absurd (omega arith) })

pub below_is : (g : Geometry) (l : ℕ) (es : List Event) → 0 < g.ways → (IsTrue (below g l es) ↔ IsBelow g l es)
below_is g l es w = elim (eqb_tells g.ways2 0) [
  | inl e ↦ (λ t. absurd (false≢true (let f : below g l es ≡ false = rw (e.0, below) refl in sym f ∙ t)), λ b. absurd (none_listed (second_of g) l b.below e.1 b.listed))
  | inr e ↦
      let some : 0 < g.ways2 = let d : g.ways2 ≢ 0 = e.1 in omega (arith, d) in
      let is : below g l es ≡ listed (second_of g) l (second_history g es) = rw (e.0, below) refl in (
        λ t. record { below = second_history g es; second = is_second g es w; listed = (listed_is (second_of g) l (second_history g es) some).0 (sym is ∙ t) },
        λ b. is ∙ (listed_is (second_of g) l (second_history g es) some).1 (subst (λ (x : List Event). IsListed (second_of g) l x) (only_second g es b.below w b.second) b.listed),
      )
]

pub held_is : (g : Geometry) (l : ℕ) (es : List Event) → 0 < g.ways → (IsTrue (held g l es) ↔ IsHeld g l es)
held_is g l es w = (to, from)
  where
    to : held g l es ≡ true → IsHeld g l es
    to t = elim (cases_Bool (listed g l es)) [
      | inl p ↦ inl ((listed_is g l es w).0 p)
      | inr n ↦ inr ((below_is g l es w).0 (rw (n, held) at t))
    ]

    from : IsHeld g l es → held g l es ≡ true
    from (inl p) = let t : listed g l es ≡ true = (listed_is g l es w).1 p in rw (t, held) refl
    from (inr p) = let t : below g l es ≡ true = (below_is g l es w).1 p in elim (cases_Bool (listed g l es)) [ inl q ↦ rw (q, held) refl | inr q ↦ rw (q, held) t ]
