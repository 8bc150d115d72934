-- The lists of a cache list the listed lines, in the order of their last touches.
use Rattle.first_load_bits.proofs.Common.{◌≡◌, ◌≢◌, ℕ, zero, suc, ◌<◌, ◌≤◌, true, false, ◌==◌, nat_lt, List, [], ◌∷◌, length, length-take, take, map, Option, Some, None, refl, sym, ◌∙◌, ap, arith, inl, inr, length-map, eq-eqb, ne_eqb, cases_Bool, eqb_tells, nat_tests, Line, Geometry, Event, line_of, set_of, second_of, Touch, Drop, Clear, fewer, with_first, without, later_lines, all_but, put, lost, put_in, put_lost, taken_out, touched_line, cleared, levels, lines, lines_below, behind, in_front}
use Rattle.first_load_bits.proofs.Others.{tells, own, near, far}
use Rattle.first_load_bits.proofs.Numbers.{except_here, except_there}
use Rattle.first_load_bits.proofs.Listed.{later_touch_own, later_touch_near, later_touch_far, later_drop_own, later_drop_near, later_drop_far}

-- ---- one line more

pub front_here : (l : ℕ) (x : Line) (xs : List Line) → x.number ≡ l → in_front l (x ∷ xs) ≡ Some []
front_here l x xs e = rw (eq-eqb x.number l e, in_front) refl

pub front_there : (l : ℕ) (x : Line) (xs : List Line) → (x.number == l) ≡ false → in_front l (x ∷ xs) ≡ behind x.number (in_front l xs)
front_there l x xs e = rw (e, in_front) refl

pub but_here : (l : ℕ) (x : Line) (xs : List Line) → (x.number == l) ≡ true → all_but l (x ∷ xs) ≡ all_but l xs
but_here l x xs e = rw (e, all_but) refl

pub but_there : (l : ℕ) (x : Line) (xs : List Line) → (x.number == l) ≡ false → all_but l (x ∷ xs) ≡ (x ∷ all_but l xs)
but_there l x xs e = rw (e, all_but) refl

-- ---- the first lines of a list

fewer_behind : (n k : ℕ) (o : Option (List ℕ)) → fewer (suc n) (behind k o) ≡ behind k (fewer n o)
fewer_behind n k None = refl
fewer_behind n k (Some ls) = elim (cases_Bool (nat_lt (length ls) n)) [
  | inl t ↦ let u : nat_lt (suc (length ls)) (suc n) ≡ true = grind (arith, nat_tests) in rw (t, u, fewer) refl
  | inr f ↦ let u : nat_lt (suc (length ls)) (suc n) ≡ false = grind (arith, nat_tests) in rw (f, u, fewer) refl
]

fewer_zero : (o : Option (List ℕ)) → fewer 0 o ≡ None
fewer_zero None = refl
fewer_zero (Some ls) = let t : nat_lt (length ls) 0 ≡ false = grind (arith, nat_tests) in rw (t, fewer) refl

fewer_none : (n : ℕ) → fewer (suc n) (Some []) ≡ Some []
fewer_none n = let t : nat_lt 0 (suc n) ≡ true = grind (arith, nat_tests) in rw (t, fewer) refl

in_front-take : (l n : ℕ) (xs : List Line) → in_front l (take n xs) ≡ fewer n (in_front l xs)
in_front-take l zero xs = sym (fewer_zero (in_front l xs))
in_front-take l (suc n) [] = refl
in_front-take l (suc n) (x ∷ xs) = elim (eqb_tells x.number l) [
  | inl p ↦ front_here l x (take n xs) p.1 ∙ (sym (fewer_none n) ∙ ap (fewer (suc n)) (sym (front_here l x xs p.1)))
  | inr p ↦ front_there l x (take n xs) p.0 ∙ (ap (behind x.number) (in_front-take l n xs) ∙ (sym (fewer_behind n x.number (in_front l xs)) ∙ ap (fewer (suc n)) (sym (front_there l x xs p.0))))
]

-- ---- a list without one of its lines

without_behind_same : (k j : ℕ) (o : Option (List ℕ)) → (j == k) ≡ true → without k (behind j o) ≡ without k o
without_behind_same k j None e = refl
without_behind_same k j (Some ls) e = ap Some (except_here k j ls e)

without_behind_other : (k j : ℕ) (o : Option (List ℕ)) → (j == k) ≡ false → without k (behind j o) ≡ behind j (without k o)
without_behind_other k j None e = refl
without_behind_other k j (Some ls) e = ap Some (except_there k j ls e)

behind_without : (k : ℕ) (o : Option (List ℕ)) → behind k (without k o) ≡ with_first k o
behind_without k None = refl
behind_without k (Some ls) = refl

in_front-all_but : (l k : ℕ) → k ≢ l → (xs : List Line) → in_front l (all_but k xs) ≡ without k (in_front l xs)
in_front-all_but l k h [] = refl
in_front-all_but l k h (x ∷ xs) = elim (eqb_tells x.number k) [
  | inl p ↦ ap (in_front l) (but_here k x xs p.0) ∙ (in_front-all_but l k h xs ∙ (sym (without_behind_same k x.number (in_front l xs) p.0) ∙ ap (without k) (sym (front_there l x xs (ne_eqb x.number l (λ q. h (sym p.1 ∙ q)))))))
  | inr p ↦ ap (in_front l) (but_there k x xs p.0) ∙ elim (eqb_tells x.number l) [
    | inl q ↦ front_here l x (all_but k xs) q.1 ∙ ap (without k) (sym (front_here l x xs q.1))
    | inr q ↦ front_there l x (all_but k xs) q.0 ∙ (ap (behind x.number) (in_front-all_but l k h xs) ∙ (sym (without_behind_other k x.number (in_front l xs) p.0) ∙ ap (without k) (sym (front_there l x xs q.0))))
  ]
]

pub in_front_gone : (l : ℕ) (xs : List Line) → in_front l (all_but l xs) ≡ None
in_front_gone l [] = refl
in_front_gone l (x ∷ xs) = elim (eqb_tells x.number l) [
  | inl p ↦ ap (in_front l) (but_here l x xs p.0) ∙ in_front_gone l xs
  | inr p ↦ ap (in_front l) (but_there l x xs p.0) ∙ (front_there l x (all_but l xs) p.0 ∙ ap (behind x.number) (in_front_gone l xs))
]

in_front-cleared : (l : ℕ) (xs : List Line) → in_front l (map cleared xs) ≡ in_front l xs
in_front-cleared l [] = refl
in_front-cleared l (x ∷ xs) = ap (λ o. elim (x.number == l) as (λ y. Option (List ℕ)) [ true ↦ Some [] | false ↦ behind x.number o ]) (in_front-cleared l xs)

-- ---- a line put in front of its set, or taken out

pub put_here : (g : Geometry) (x : Line) (ls : ℕ → List Line) (k : ℕ) → (set_of g x.number == k) ≡ true → put_in g x ls k ≡ put g.ways x (ls k)
put_here g x ls k e = rw (e, put_in) refl

pub put_there : (g : Geometry) (x : Line) (ls : ℕ → List Line) (k : ℕ) → (set_of g x.number == k) ≡ false → put_in g x ls k ≡ ls k
put_there g x ls k e = rw (e, put_in) refl

pub out_here : (g : Geometry) (l : ℕ) (ls : ℕ → List Line) (k : ℕ) → (set_of g l == k) ≡ true → taken_out g l ls k ≡ all_but l (ls k)
out_here g l ls k e = rw (e, taken_out) refl

pub out_there : (g : Geometry) (l : ℕ) (ls : ℕ → List Line) (k : ℕ) → (set_of g l == k) ≡ false → taken_out g l ls k ≡ ls k
out_there g l ls k e = rw (e, taken_out) refl

in_front-put_own : (n l : ℕ) (x : Line) (xs : List Line) → 0 < n → x.number ≡ l → in_front l (put n x xs) ≡ Some []
in_front-put_own zero l x xs w e = absurd (omega arith)
in_front-put_own (suc n) l x xs w e = front_here l x (take n (all_but x.number xs)) e

in_front-put_near : (n l : ℕ) (x : Line) (xs : List Line) → (x.number == l) ≡ false → x.number ≢ l → in_front l (put n x xs) ≡ fewer n (with_first x.number (in_front l xs))
in_front-put_near n l x xs e d = let k = x.number in
    in_front-take l n (x ∷ all_but k xs) ∙ (ap (fewer n) (front_there l x (all_but k xs) e) ∙ (ap (λ o. fewer n (behind k o)) (in_front-all_but l k d xs) ∙ ap (fewer n) (behind_without k (in_front l xs))))

-- ---- the law

-- a line that is listed stands in its set's list, after those that were touched later
abbrev pub Agrees : Geometry → (ℕ → List Line) → List Event → Type 0
Agrees g ls es = (l : ℕ) → in_front l (ls (set_of g l)) ≡ later_lines g l es

pub agrees_put : (g : Geometry) (x : Line) (a : ℕ) (ls : ℕ → List Line) (es : List Event) → 0 < g.ways → line_of g a ≡ x.number → Agrees g ls es → Agrees g (put_in g x ls) (Touch a ∷ es)
agrees_put g x a ls es w e h l = let k = x.number in let s = set_of g l in elim (tells g l k) [
  | own p ↦ ap (in_front l) (put_here g x ls s (eq-eqb (set_of g k) s (ap (set_of g) p))) ∙ (in_front-put_own g.ways l x (ls s) w p ∙ sym (later_touch_own g l a es (eq-eqb (line_of g a) l (e ∙ p))))
  | near t p r f ↦
      let now : (line_of g a == l) ≡ false = ap (λ j. j == l) e ∙ t in
      let same : (set_of g (line_of g a) == s) ≡ true = ap (λ j. set_of g j == s) e ∙ r in
      ap (in_front l) (put_here g x ls s r) ∙ (in_front-put_near g.ways l x (ls s) t p ∙ (ap (λ o. fewer g.ways (with_first k o)) (h l)
      ∙ (ap (λ j. fewer g.ways (with_first j (later_lines g l es))) (sym e) ∙ sym (later_touch_near g l a es now same))))
  | far t p r f ↦
      let now : (line_of g a == l) ≡ false = ap (λ j. j == l) e ∙ t in
      let other : (set_of g (line_of g a) == s) ≡ false = ap (λ j. set_of g j == s) e ∙ r in
      ap (in_front l) (put_there g x ls s r) ∙ (h l ∙ sym (later_touch_far g l a es now other))
]

pub agrees_out : (g : Geometry) (a : ℕ) (ls : ℕ → List Line) (es : List Event) → Agrees g ls es → Agrees g (taken_out g (line_of g a) ls) (Drop a ∷ es)
agrees_out g a ls es h l = let k = line_of g a in let s = set_of g l in elim (tells g l k) [
  | own e ↦ ap (in_front l) (out_here g k ls s (eq-eqb (set_of g k) s (ap (set_of g) e))) ∙ (ap (λ x. in_front l (all_but x (ls s))) e ∙ (in_front_gone l (ls s) ∙ sym (later_drop_own g l a es (eq-eqb k l e))))
  | near t e r f ↦ ap (in_front l) (out_here g k ls s r) ∙ (in_front-all_but l k e (ls s) ∙ (ap (without k) (h l) ∙ sym (later_drop_near g l a es t r)))
  | far t e r f ↦ ap (in_front l) (out_there g k ls s r) ∙ (h l ∙ sym (later_drop_far g l a es t r))
]

pub agrees_clear : (g : Geometry) (ls : ℕ → List Line) (es : List Event) → Agrees g ls es → Agrees g (λ k. map cleared (ls k)) (Clear ∷ es)
agrees_clear g ls es h l = in_front-cleared l (ls (set_of g l)) ∙ h l

pub first_agrees : (g : Geometry) (es : List Event) → 0 < g.ways → Agrees g (levels g es).first es
first_agrees g [] w = λ l. refl
first_agrees g (Touch a ∷ es) w = agrees_put g (touched_line g a (levels g es)) a (levels g es).first es w refl (first_agrees g es w)
first_agrees g (Drop a ∷ es) w = agrees_out g a (levels g es).first es (first_agrees g es w)
first_agrees g (Clear ∷ es) w = agrees_clear g (levels g es).first es (first_agrees g es w)

pub lines_law : (g : Geometry) (l : ℕ) (es : List Event) → 0 < g.ways → in_front l (lines g (set_of g l) es) ≡ later_lines g l es
lines_law g l es w = first_agrees g es w l

-- ---- no list is longer than there is room for

pub length-all_but : (k : ℕ) (xs : List Line) → length (all_but k xs) ≤ length xs
length-all_but k [] = omega arith
length-all_but k (x ∷ xs) = elim (eqb_tells x.number k) [
  | inl p ↦ rw (but_here k x xs p.0) (omega (arith, length-all_but k xs))
  | inr p ↦ rw (but_there k x xs p.0) (omega (arith, length-all_but k xs))
]

-- so many lines at most in each set
abbrev pub AreFew : ℕ → (ℕ → List Line) → Type 0
AreFew n ls = (k : ℕ) → length (ls k) ≤ n

few_put : (g : Geometry) (x : Line) (ls : ℕ → List Line) → AreFew g.ways ls → AreFew g.ways (put_in g x ls)
few_put g x ls h k = elim (eqb_tells (set_of g x.number) k) [
  | inl p ↦ rw (put_here g x ls k p.0) (omega (arith, length-take {A = Line}))
  | inr p ↦ rw (put_there g x ls k p.0) (h k)
]

few_out : (g : Geometry) (l : ℕ) (ls : ℕ → List Line) → AreFew g.ways ls → AreFew g.ways (taken_out g l ls)
few_out g l ls h k = elim (eqb_tells (set_of g l) k) [
  | inl p ↦ rw (out_here g l ls k p.0) (omega (arith, length-all_but l (ls k), h k))
  | inr p ↦ rw (out_there g l ls k p.0) (h k)
]

few_lost : (g : Geometry) (gone : List Line) (ls : ℕ → List Line) → AreFew g.ways ls → AreFew g.ways (put_lost g gone ls)
few_lost g [] ls h = h
few_lost g (x ∷ xs) ls h = few_put g x ls h

few_cleared : (n : ℕ) (ls : ℕ → List Line) → AreFew n ls → AreFew n (λ k. map cleared (ls k))
few_cleared n ls h k = rw length-map (h k)

pub length-lines : (g : Geometry) (k : ℕ) (es : List Event) → length (lines g k es) ≤ g.ways
length-lines g k [] = omega arith
length-lines g k (Touch a ∷ es) = few_put g (touched_line g a (levels g es)) (levels g es).first (λ j. length-lines g j es) k
length-lines g k (Drop a ∷ es) = few_out g (line_of g a) (levels g es).first (λ j. length-lines g j es) k
length-lines g k (Clear ∷ es) = few_cleared g.ways (levels g es).first (λ j. length-lines g j es) k

pub length-lines_below : (g : Geometry) (k : ℕ) (es : List Event) → length (lines_below g k es) ≤ g.ways2
length-lines_below g k [] = omega arith
length-lines_below g k (Touch a ∷ es) = let l = line_of g a in let ls = levels g es in
    few_lost (second_of g) (lost g.ways (touched_line g a ls) (ls.first (set_of g l))) (taken_out (second_of g) l ls.second) (few_out (second_of g) l ls.second (λ j. length-lines_below g j es)) k
length-lines_below g k (Drop a ∷ es) = few_out (second_of g) (line_of g a) (levels g es).second (λ j. length-lines_below g j es) k
length-lines_below g k (Clear ∷ es) = few_cleared g.ways2 (levels g es).second (λ j. length-lines_below g j es) k
