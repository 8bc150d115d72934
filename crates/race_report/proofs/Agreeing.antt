-- The tests say what a race is.
use Rattle.race_report.proofs.Common.{◌≡◌, ◌≢◌, ◌⊎◌, inl, inr, ℕ, zero, suc, ◌<◌, ◌≤◌, ◌==◌, nat_lt, Bool, true, false, not, cond, ◌&&◌, ◌||◌, refl, sym, ap, ◌∙◌, subst, arith, List, [], ◌∷◌, length, map, filter, min, slice_get, slice_index_or, Option, Some, None, Any, list_any, Point, Access, Writes, MeetAt, before, clashes, Accessing, accesses_of, whole_point, syncs_from, IsLowest, IsRace, lesser, least_from, shared, is_apart, race_word, race_at, TestsSayRaces, and_parts, eq-eqb, eqb-false, eqb-true, false≢true, lt-ltb, ltb-false, ltb-true, ne_eqb, not-true, or-true, or_cases, same_Some}
use Rattle.race_report.proofs.Lists.{is_in}
use Rattle.race_report.proofs.Ordered.{TestsDecide}

-- ---- some element

any_first : {X : Type 0} (P : X → Type 0) (x : X) (xs : List X) → P x → Any P (x ∷ xs)
any_first P x xs p = (0, x, omega arith, refl, p)

any_later : {X : Type 0} (P : X → Type 0) (x : X) (xs : List X) → Any P xs → Any P (x ∷ xs)
any_later P x xs a = (suc a.0, a.1, (let low = a.2 in omega (arith, low)), a.3, a.4)

any_cases : {X : Type 0} (P : X → Type 0) (x : X) (xs : List X) → Any P (x ∷ xs) → P x ⊎ Any P xs
any_cases P x xs a = by a.0 a.1 a.2 a.3 a.4
  where
    by : (k : ℕ) (y : _) → k < length (x ∷ xs) → slice_index_or (x ∷ xs) k y ≡ y → P y → P x ⊎ Any P xs
    by zero y low e p = inl (subst P (sym e) p)
    by (suc k) y low e p = inr (k, y, omega (arith, low), e, p)

any_none : {X : Type 0} (P : X → Type 0) → Any P [] → ⊥
any_none P a = let low = a.2 in omega (arith, low)

any_weaker : {X : Type 0} (P Q : X → Type 0) (xs : List X) → ((x : X) → P x → Q x) → Any P xs → Any Q xs
any_weaker P Q xs f a = (a.0, a.1, a.2, a.3, f a.1 a.4)

-- ---- shared words

clash_from : (x : Access) (first : List Access) → Any (λ y. clashes y x ≡ true) first → list_any (λ y. clashes y x) first ≡ true
clash_from x [] a = absurd (any_none (λ y. clashes y x ≡ true) a)
clash_from x (y ∷ ys) a = by (any_cases (λ z. clashes z x ≡ true) y ys a) (λ b. clash_from x ys b)
  where
    by : (clashes y x ≡ true) ⊎ Any (λ z. clashes z x ≡ true) ys → (Any (λ z. clashes z x ≡ true) ys → list_any (λ z. clashes z x) ys ≡ true) → (clashes y x || list_any (λ z. clashes z x) ys) ≡ true
    by (inl e) rest = ap (λ (b : Bool). b || list_any (λ z. clashes z x) ys) e
    by (inr a) rest = ap (λ (b : Bool). clashes y x || b) (rest a) ∙ or-true (clashes y x)

clash_some : (x : Access) (first : List Access) → list_any (λ y. clashes y x) first ≡ true → Any (λ y. clashes y x ≡ true) first
clash_some x [] e = absurd cc
clash_some x (y ∷ ys) e = by (clashes y x) refl e (λ f. clash_some x ys f)
  where
    by : (b : Bool) → clashes y x ≡ b → (b || list_any (λ z. clashes z x) ys) ≡ true → (list_any (λ z. clashes z x) ys ≡ true → Any (λ z. clashes z x ≡ true) ys) → Any (λ z. clashes z x ≡ true) (y ∷ ys)
    by true f g rest = any_first (λ z. clashes z x ≡ true) y ys f
    by false f g rest = any_later (λ z. clashes z x ≡ true) y ys (rest g)

-- an access of the second list that clashes with one of the first
abbrev Shares : List Access → ℕ → Access → Type 0
Shares first v x = (x.word ≡ v) × (list_any (λ y. clashes y x) first ≡ true)

pub shared_from : (first second : List Access) (v : ℕ) → Any (Shares first v) second → is_in v (shared first second) ≡ true
shared_from first [] v a = absurd (any_none (Shares first v) a)
shared_from first (x ∷ xs) v a = by (list_any (λ y. clashes y x) first) refl (any_cases (Shares first v) x xs a) (λ b. shared_from first xs v b)
  where
    by : (b : Bool) → list_any (λ y. clashes y x) first ≡ b → Shares first v x ⊎ Any (Shares first v) xs → (Any (Shares first v) xs → is_in v (shared first xs) ≡ true)
        → is_in v (map (λ z. z.word) (cond b (x ∷ filter (λ z. list_any (λ y. clashes y z) first) xs) (filter (λ z. list_any (λ y. clashes y z) first) xs))) ≡ true
    by true e (inl s) rest = ap (λ (c : Bool). c || is_in v (shared first xs)) (eq-eqb x.word v s.0)
    by true e (inr a) rest = ap (λ (c : Bool). (x.word == v) || c) (rest a) ∙ or-true (x.word == v)
    by false e (inl s) rest = absurd (false≢true (sym e ∙ s.1))
    by false e (inr a) rest = rest a

pub shared_some : (first second : List Access) (v : ℕ) → is_in v (shared first second) ≡ true → Any (Shares first v) second
shared_some first [] v e = absurd cc
shared_some first (x ∷ xs) v e = by (list_any (λ y. clashes y x) first) refl e (λ f. shared_some first xs v f)
  where
    here : (b : Bool) → (x.word == v) ≡ b → list_any (λ y. clashes y x) first ≡ true → (b || is_in v (shared first xs)) ≡ true → (is_in v (shared first xs) ≡ true → Any (Shares first v) xs) → Any (Shares first v) (x ∷ xs)
    here true f g h rest = any_first (Shares first v) x xs (eqb-true x.word v f, g)
    here false f g h rest = any_later (Shares first v) x xs (rest h)

    by : (b : Bool) → list_any (λ y. clashes y x) first ≡ b
        → is_in v (map (λ z. z.word) (cond b (x ∷ filter (λ z. list_any (λ y. clashes y z) first) xs) (filter (λ z. list_any (λ y. clashes y z) first) xs))) ≡ true
        → (is_in v (shared first xs) ≡ true → Any (Shares first v) xs) → Any (Shares first v) (x ∷ xs)
    by true f g rest = here (x.word == v) refl f g rest
    by false f g rest = any_later (Shares first v) x xs (rest g)

pub meet_from : (p q : Point) (v : ℕ) → is_in v (shared p.accesses q.accesses) ≡ true → MeetAt v p q
meet_from p q v e =
    let s = shared_some p.accesses q.accesses v e in
    let c = clash_some s.1 p.accesses s.4.1 in
    let parts = and_parts (c.1.word == s.1.word) (c.1.writes || s.1.writes) c.4 in
    let word : c.1.word ≡ v = eqb-true c.1.word s.1.word parts.0 ∙ s.4.0 in
    record {
      first = (c.0, c.1, c.2, c.3, word);
      second = (s.0, s.1, s.2, s.3, s.4.0);
      written = elim (or_cases c.1.writes s.1.writes parts.1) [
        | inl w ↦ inl (c.0, c.1, c.2, c.3, (word, w))
        | inr w ↦ inr (s.0, s.1, s.2, s.3, (s.4.0, w))
      ];
    }

pub meet_some : (p q : Point) (v : ℕ) → MeetAt v p q → is_in v (shared p.accesses q.accesses) ≡ true
meet_some p q v m = shared_from p.accesses q.accesses v (by m.written)
  where
    clash : (y x : Access) → y.word ≡ v → x.word ≡ v → (y.writes || x.writes) ≡ true → clashes y x ≡ true
    clash y x e f g = ap (λ (b : Bool). b && (y.writes || x.writes)) (eq-eqb y.word x.word (e ∙ sym f)) ∙ g

    by : Writes v p ⊎ Writes v q → Any (Shares p.accesses v) q.accesses
    by (inl w) = any_weaker (λ x. x.word ≡ v) (Shares p.accesses v) q.accesses
        (λ x e. (e, clash_from x p.accesses (any_weaker (λ y. (y.word ≡ v) × (y.writes ≡ true)) (λ y. clashes y x ≡ true) p.accesses (λ y f. clash y x f.0 e (ap (λ (b : Bool). b || x.writes) f.1)) w))) m.second
    by (inr w) = any_weaker (λ x. (x.word ≡ v) × (x.writes ≡ true)) (Shares p.accesses v) q.accesses
        (λ x e. (e.0, clash_from x p.accesses (any_weaker (λ y. y.word ≡ v) (λ y. clashes y x ≡ true) p.accesses (λ y f. clash y x f e.0 (ap (λ (b : Bool). y.writes || b) e.1 ∙ or-true y.writes)) m.first))) w

-- ---- the least word

pub least_in : (o : Option ℕ) (xs : List ℕ) (w : ℕ) → least_from o xs ≡ Some w → (o ≡ Some w) ⊎ (is_in w xs ≡ true)
least_in o [] w e = inl e
least_in o (x ∷ xs) w e = by (least_in (lesser o x) xs w e)
  where
    here : x ≡ w → (o ≡ Some w) ⊎ (((x == w) || is_in w xs) ≡ true)
    here f = inr (ap (λ (b : Bool). b || is_in w xs) (eq-eqb x w f))

    which : (v : ℕ) → o ≡ Some v → (b : Bool) → nat_lt x v ≡ b → min v x ≡ w → (o ≡ Some w) ⊎ (((x == w) || is_in w xs) ≡ true)
    which v f true g h = here (let low = ltb-true x v g in omega (arith, low, h))
    which v f false g h = inl (f ∙ ap (λ (k : ℕ). Some k) (let low = ltb-false x v g in omega (arith, low, h)))

    first : (u : Option ℕ) → o ≡ u → lesser u x ≡ Some w → (o ≡ Some w) ⊎ (((x == w) || is_in w xs) ≡ true)
    first None f g = here (same_Some x w g)
    first (Some v) f g = which v f (nat_lt x v) refl (same_Some (min v x) w g)

    by : (lesser o x ≡ Some w) ⊎ (is_in w xs ≡ true) → (o ≡ Some w) ⊎ (((x == w) || is_in w xs) ≡ true)
    by (inl f) = first o refl f
    by (inr f) = inr (ap (λ (b : Bool). (x == w) || b) f ∙ or-true (x == w))

-- a number that is not above a chosen one
abbrev Below : ℕ → Option ℕ → Type 0
Below w o = (v : ℕ) → o ≡ Some v → w ≤ v

pub least_low : (o : Option ℕ) (xs : List ℕ) (w : ℕ) → least_from o xs ≡ Some w → Below w o × ((v : ℕ) → is_in v xs ≡ true → w ≤ v)
least_low o [] w e = (λ v f. (let same = same_Some w v (sym e ∙ f) in omega (arith, same)), λ v f. absurd cc)
least_low o (x ∷ xs) w e = (by (least_low (lesser o x) xs w e), later (least_low (lesser o x) xs w e))
  where
    value : (u : Option ℕ) → (k : ℕ) × (lesser u x ≡ Some k) × (k ≤ x) × ((v : ℕ) → u ≡ Some v → k ≤ v)
    value None = (x, refl, omega arith, λ v f. absurd cc)
    value (Some u) = (min u x, refl, omega arith, λ v f. (let same = same_Some u v f in omega (arith, same)))

    by : Below w (lesser o x) × ((v : ℕ) → is_in v xs ≡ true → w ≤ v) → Below w o
    by l v f = let k = value o in let low = l.0 k.0 k.1 in let up = k.3 v f in omega (arith, low, up)

    later : Below w (lesser o x) × ((v : ℕ) → is_in v xs ≡ true → w ≤ v) → (v : ℕ) → ((x == v) || is_in v xs) ≡ true → w ≤ v
    later l v f = elim (or_cases (x == v) (is_in v xs) f) [
      | inl g ↦ let k = value o in let low = l.0 k.0 k.1 in let up = k.2 in let same = eqb-true x v g in omega (arith, low, up, same)
      | inr g ↦ l.1 v g
    ]

some_least : (u : ℕ) (xs : List ℕ) → (w : ℕ) × (least_from (Some u) xs ≡ Some w)
some_least u [] = (u, refl)
some_least u (x ∷ xs) = some_least (min u x) xs

pub least_some : (xs : List ℕ) (v : ℕ) → is_in v xs ≡ true → (w : ℕ) × (least_from None xs ≡ Some w)
least_some [] v e = absurd cc
least_some (x ∷ xs) v e = some_least x xs

-- ---- races

lowest_is : (p q : Point) (w : ℕ) → least_from None (shared p.accesses q.accesses) ≡ Some w → IsLowest p q w
lowest_is p q w e = record {
  meet = meet_from p q w (by (least_in None (shared p.accesses q.accesses) w e));
  lowest = λ other m. (least_low None (shared p.accesses q.accesses) w e).1 other (meet_some p q other m);
}
  where
    by : (None ≡ Some w) ⊎ (is_in w (shared p.accesses q.accesses) ≡ true) → is_in w (shared p.accesses q.accesses) ≡ true
    by (inl f) = absurd cc
    by (inr f) = f

is_lowest : (p q : Point) (w : ℕ) → IsLowest p q w → least_from None (shared p.accesses q.accesses) ≡ Some w
is_lowest p q w l =
    let found = least_some (shared p.accesses q.accesses) w (meet_some p q w l.meet) in
    let it = lowest_is p q found.0 found.1 in
    let low = l.lowest found.0 it.meet in
    let up = it.lowest w l.meet in
    found.1 ∙ ap (λ (k : ℕ). Some k) (omega (arith, low, up))

module _ (tests : TestsDecide) (run : List Accessing) (m n word : ℕ) where
  from_word : (p q : Accessing) → slice_get run m ≡ Some p → slice_get run n ≡ Some q → race_word run m n p q ≡ Some word → IsRace run m n word
  from_word p q e f g = by (is_apart run m n p q) refl g
    where
      by : (b : Bool) → is_apart run m n p q ≡ b → cond b (least_from None (shared (accesses_of p.touch) (accesses_of q.touch))) None ≡ Some word → IsRace run m n word
      by true h i =
          let parts = and_parts (nat_lt m n) (not (p.hart == q.hart) && not (before (syncs_from 0 run) m n)) h in
          let rest = and_parts (not (p.hart == q.hart)) (not (before (syncs_from 0 run) m n)) parts.1 in
          let low = lowest_is (whole_point m p) (whole_point n q) word i in
          record {
            earlier = ltb-true m n parts.0;
            first = p;
            second = q;
            first_at = e;
            second_at = f;
            conflict = record { apart = eqb-false p.hart q.hart (not-true (p.hart == q.hart) rest.0); word = word; meet = low.meet };
            unordered = λ o. false≢true (sym (not-true (before (syncs_from 0 run) m n) rest.1) ∙ (tests (syncs_from 0 run) m n).1 o);
            word_is = low;
          }
      by false h i = absurd cc

  from_test : race_at run m n ≡ Some word → IsRace run m n word
  unfolding race_at
  from_test e = by (slice_get run m) (slice_get run n) refl refl e
    where
      by : (o u : Option Accessing) → slice_get run m ≡ o → slice_get run n ≡ u
          → elim o as (λ y. Option ℕ) [ None ↦ None | Some p ↦ elim u as (λ y. Option ℕ) [ None ↦ None | Some q ↦ race_word run m n p q ] ] ≡ Some word → IsRace run m n word
      by None u f g h = absurd cc
      by (Some p) None f g h = absurd cc
      by (Some p) (Some q) f g h = from_word p q f g h

  to_test : IsRace run m n word → race_at run m n ≡ Some word
  unfolding race_at
  to_test r =
      ap (λ (o : Option Accessing). elim o as (λ y. Option ℕ) [ None ↦ None | Some p ↦ elim (slice_get run n) as (λ y. Option ℕ) [ None ↦ None | Some q ↦ race_word run m n p q ] ]) r.first_at
      ∙ ap (λ (o : Option Accessing). elim o as (λ y. Option ℕ) [ None ↦ None | Some q ↦ race_word run m n r.first q ]) r.second_at
      ∙ ap (λ (b : Bool). cond (b && (not (r.first.hart == r.second.hart) && not (before (syncs_from 0 run) m n))) least None) (lt-ltb m n r.earlier)
      ∙ ap (λ (b : Bool). cond (not b && not (before (syncs_from 0 run) m n)) least None) (ne_eqb r.first.hart r.second.hart r.conflict.apart)
      ∙ ap (λ (b : Bool). cond (not b) least None) unordered
      ∙ is_lowest (whole_point m r.first) (whole_point n r.second) word r.word_is
    where
      least : Option ℕ
      least = least_from None (shared (accesses_of r.first.touch) (accesses_of r.second.touch))

      unordered : before (syncs_from 0 run) m n ≡ false
      unordered = by (before (syncs_from 0 run) m n) refl
        where
          by : (b : Bool) → before (syncs_from 0 run) m n ≡ b → b ≡ false
          by true e = absurd (r.unordered ((tests (syncs_from 0 run) m n).0 e))
          by false e = refl

pub tests_say_races : TestsDecide → TestsSayRaces
tests_say_races tests run m n word = (from_test tests run m n word, to_test tests run m n word)
