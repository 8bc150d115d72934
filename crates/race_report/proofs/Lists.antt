-- What is found of a point's races, place by place.
use Rattle.race_report.proofs.Common.{◌≡◌, ◌≢◌, ℕ, zero, suc, ◌+◌, ◌-◌, if◌then◌else◌, slice_index_or, ◌<◌, ◌==◌, Bool, true, false, cond, ◌||◌, refl, sym, ap, ◌∙◌, subst, arith, List, [], ◌∷◌, ◌++◌, length, slice_get, slice_set, min, Vec, Option, Some, None, slice_get-get_or, Global, list_any, Meeting, lesser, meeting_at, meeting, lists_in, total_of, total, last_meets, met, met_at, met_all, eq-eqb, eqb-true, ne_eqb}

-- ---- one list

pub meet_none : (n w : ℕ) (xs : List Meeting) → last_meets n xs ≡ None → xs ++ meeting n w ∷ [] ≡ met n w xs
meet_none n w [] e = refl
meet_none n w (x ∷ []) e = one (x.second == n) e
  where
    one : (b : Bool) → elim b as (λ y. Option ℕ) [ true ↦ Some x.word | false ↦ None ] ≡ None
        → x ∷ meeting n w ∷ [] ≡ elim b as (λ y. List Meeting) [ true ↦ meeting n (min x.word w) ∷ [] | false ↦ x ∷ meeting n w ∷ [] ]
    one true f = absurd cc
    one false f = refl
meet_none n w (x ∷ y ∷ ys) e = ap (λ (zs : List Meeting). x ∷ zs) (meet_none n w (y ∷ ys) e)

pub meet_some : (n w v k : ℕ) (xs : List Meeting) → length xs ≡ suc k → last_meets n xs ≡ Some v → slice_set xs k (meeting n (min v w)) ≡ met n w xs
meet_some n w v k [] l e = absurd cc
meet_some n w v zero (x ∷ []) l e = one (x.second == n) e
  where
    one : (b : Bool) → elim b as (λ y. Option ℕ) [ true ↦ Some x.word | false ↦ None ] ≡ Some v
        → meeting n (min v w) ∷ [] ≡ elim b as (λ y. List Meeting) [ true ↦ meeting n (min x.word w) ∷ [] | false ↦ x ∷ meeting n w ∷ [] ]
    one true f = let same : x.word ≡ v = cc in ap (λ (u : ℕ). meeting n (min u w) ∷ []) (sym same)
    one false f = absurd cc
meet_some n w v (suc k) (x ∷ []) l e = absurd (omega (arith, l))
meet_some n w v zero (x ∷ y ∷ ys) l e = absurd (omega (arith, l))
meet_some n w v (suc k) (x ∷ y ∷ ys) l e = ap (λ (zs : List Meeting). x ∷ zs) (meet_some n w v k (y ∷ ys) (omega (arith, l)) e)

-- after a list that isn't with place n
pub met_after : (n w : ℕ) (xs : List Meeting) (o : Option ℕ) → last_meets n xs ≡ None → met n w (xs ++ meeting_at n o) ≡ xs ++ meeting_at n (lesser o w)
met_after n w [] None e = refl
met_after n w [] (Some v) e = ap (λ (b : Bool). elim b as (λ y. List Meeting) [ true ↦ meeting n (min v w) ∷ [] | false ↦ meeting n v ∷ meeting n w ∷ [] ]) (eq-eqb n n refl)
met_after n w (x ∷ []) None e = sym (meet_none n w (x ∷ []) e)
met_after n w (x ∷ []) (Some v) e = ap (λ (zs : List Meeting). x ∷ zs) (met_after n w [] (Some v) refl)
met_after n w (x ∷ y ∷ ys) o e = ap (λ (zs : List Meeting). x ∷ zs) (met_after n w (y ∷ ys) o e)

-- twice in one word is once
twice_least : (v w : ℕ) → min (min v w) w ≡ min v w
twice_least v w = omega arith

abbrev one_met : ℕ → ℕ → Meeting → Bool → List Meeting
one_met n w x b = elim b as (λ y. List Meeting) [ true ↦ meeting n (min x.word w) ∷ [] | false ↦ x ∷ meeting n w ∷ [] ]

last_twice : (n w : ℕ) → met n w (meeting n w ∷ []) ≡ meeting n w ∷ []
last_twice n w = ap (λ (b : Bool). one_met n w (meeting n w) b) (eq-eqb n n refl) ∙ ap (λ (u : ℕ). meeting n u ∷ []) (omega arith)

one_twice : (n w : ℕ) (x : Meeting) (b : Bool) → (x.second == n) ≡ b → met n w (one_met n w x b) ≡ one_met n w x b
one_twice n w x true f = ap (λ (b : Bool). one_met n w (meeting n (min x.word w)) b) (eq-eqb n n refl) ∙ ap (λ (u : ℕ). meeting n u ∷ []) (twice_least x.word w)
one_twice n w x false f = ap (λ (zs : List Meeting). x ∷ zs) (last_twice n w)

-- after another one
more_twice : (n w : ℕ) (x y : Meeting) (b : Bool) → (y.second == n) ≡ b → met n w (x ∷ one_met n w y b) ≡ x ∷ one_met n w y b
more_twice n w x y true f = ap (λ (zs : List Meeting). x ∷ zs) (one_twice n w y true f)
more_twice n w x y false f = ap (λ (zs : List Meeting). x ∷ zs) (one_twice n w y false f)

pub met_twice : (n w : ℕ) (xs : List Meeting) → met n w (met n w xs) ≡ met n w xs
met_twice n w [] = last_twice n w
met_twice n w (x ∷ []) = one_twice n w x (x.second == n) refl
met_twice n w (x ∷ y ∷ []) = more_twice n w x y (y.second == n) refl
met_twice n w (x ∷ y ∷ z ∷ zs) = ap (λ (us : List Meeting). x ∷ us) (met_twice n w (y ∷ z ∷ zs))

-- ---- all lists

pub lists_length : (vs : List (Vec Meeting Global)) → length (lists_in vs) ≡ length vs
lists_length [] = refl
lists_length (v ∷ vs) = ap suc (lists_length vs)

pub lists_get : (vs : List (Vec Meeting Global)) (m : ℕ) (v : Vec Meeting Global) → slice_get vs m ≡ Some v → slice_get (lists_in vs) m ≡ Some v.items
lists_get [] m v e = absurd cc
lists_get (u ∷ vs) zero v e = let same : u ≡ v = cc in ap (λ (x : Vec Meeting Global). Some x.items) same
lists_get (u ∷ vs) (suc m) v e = lists_get vs m v e

pub lists_added : (vs : List (Vec Meeting Global)) (v : Vec Meeting Global) → lists_in (vs ++ v ∷ []) ≡ lists_in vs ++ v.items ∷ []
lists_added [] v = refl
lists_added (u ∷ vs) v = ap (λ (ls : List (List Meeting)). u.items ∷ ls) (lists_added vs v)

pub lists_set : (n w m : ℕ) (vs : List (Vec Meeting Global)) (u v : Vec Meeting Global) → slice_get vs m ≡ Some u → v.items ≡ met n w u.items → lists_in (slice_set vs m v) ≡ met_at n w m (lists_in vs)
lists_set n w m [] u v e f = absurd cc
lists_set n w zero (x ∷ vs) u v e f = let same : x ≡ u = cc in ap (λ (l : List Meeting). l ∷ lists_in vs) (f ∙ ap (λ (y : Vec Meeting Global). met n w y.items) (sym same))
lists_set n w (suc m) (x ∷ vs) u v e f = ap (λ (ls : List (List Meeting)). x.items ∷ ls) (lists_set n w m vs u v e f)

pub total_set : (m : ℕ) (vs : List (Vec Meeting Global)) (u v : Vec Meeting Global) → slice_get vs m ≡ Some u → total (slice_set vs m v) + length u.items ≡ total vs + length v.items
total_set m [] u v e = absurd cc
total_set zero (x ∷ vs) u v e = let same : x ≡ u = cc in let long : length x.items ≡ length u.items = ap (λ (y : Vec Meeting Global). length y.items) same in omega (arith, long)
total_set (suc m) (x ∷ vs) u v e = let rest = total_set m vs u v e in omega (arith, rest)

pub total_added : (ls : List (List Meeting)) (l : List Meeting) → total_of (ls ++ l ∷ []) ≡ total_of ls + length l
total_added [] l = omega arith
total_added (x ∷ ls) l = let rest = total_added ls l in omega (arith, rest)

pub met_at_length : (n w m : ℕ) (ls : List (List Meeting)) → length (met_at n w m ls) ≡ length ls
met_at_length n w m [] = refl
met_at_length n w zero (l ∷ ls) = refl
met_at_length n w (suc m) (l ∷ ls) = ap suc (met_at_length n w m ls)

met_here : (n w m : ℕ) (ls : List (List Meeting)) (l : List Meeting) → slice_get ls m ≡ Some l → slice_get (met_at n w m ls) m ≡ Some (met n w l)
met_here n w m [] l e = absurd cc
met_here n w zero (x ∷ ls) l e = let same : x ≡ l = cc in ap (λ (y : List Meeting). Some (met n w y)) same
met_here n w (suc m) (x ∷ ls) l e = met_here n w m ls l e

met_there : (n w m k : ℕ) (ls : List (List Meeting)) → (m == k) ≡ false → slice_get (met_at n w m ls) k ≡ slice_get ls k
met_there n w m k [] e = refl
met_there n w zero zero (x ∷ ls) e = absurd cc
met_there n w zero (suc k) (x ∷ ls) e = refl
met_there n w (suc m) zero (x ∷ ls) e = refl
met_there n w (suc m) (suc k) (x ∷ ls) e = met_there n w m k ls (less m k e)
  where
    less : (m k : ℕ) → (suc m == suc k) ≡ false → (m == k) ≡ false
    less m k f = grind arith

abbrev pub is_in : ℕ → List ℕ → Bool
is_in k ps = list_any (λ m. m == k) ps

cond_same : {X : Type 0} (b : Bool) (x y : X) → x ≡ y → cond b x y ≡ y
cond_same true x y e = e
cond_same false x y e = refl

pub met_all_at : (n w k : ℕ) (ps : List ℕ) (ls : List (List Meeting)) (l : List Meeting) → slice_get ls k ≡ Some l → slice_get (met_all n w ps ls) k ≡ Some (cond (is_in k ps) (met n w l) l)
met_all_at n w k [] ls l e = e
met_all_at n w k (m ∷ ms) ls l e = by (m == k) refl (λ x f. met_all_at n w k ms (met_at n w m ls) x f)
  where
    by : (b : Bool) → (m == k) ≡ b → ((x : List Meeting) → slice_get (met_at n w m ls) k ≡ Some x → slice_get (met_all n w ms (met_at n w m ls)) k ≡ Some (cond (is_in k ms) (met n w x) x))
        → slice_get (met_all n w ms (met_at n w m ls)) k ≡ Some (cond (b || is_in k ms) (met n w l) l)
    by true f rest =
        let here : slice_get (met_at n w m ls) k ≡ Some (met n w l) = subst (λ (j : ℕ). slice_get (met_at n w m ls) j ≡ Some (met n w l)) (eqb-true m k f) (met_here n w m ls l (ap (slice_get ls) (eqb-true m k f) ∙ e)) in
        rest (met n w l) here ∙ ap (λ (x : List Meeting). Some x) (cond_same (is_in k ms) (met n w (met n w l)) (met n w l) (met_twice n w l))
    by false f rest = rest l (met_there n w m k ls f ∙ e)

pub met_all_length : (n w : ℕ) (ps : List ℕ) (ls : List (List Meeting)) → length (met_all n w ps ls) ≡ length ls
met_all_length n w [] ls = refl
met_all_length n w (m ∷ ms) ls = met_all_length n w ms (met_at n w m ls) ∙ met_at_length n w m ls

-- ---- the last of a list, and lists that grow

pub last_is : (n k : ℕ) (xs : List Meeting) (d : Meeting) → length xs ≡ suc k
    → elim ((slice_index_or xs k d).second == n) as (λ y. Option ℕ) [ true ↦ Some (slice_index_or xs k d).word | false ↦ None ] ≡ last_meets n xs
last_is n k [] d l = absurd cc
last_is n zero (x ∷ []) d l = refl
last_is n (suc k) (x ∷ []) d l = absurd (omega (arith, l))
last_is n zero (x ∷ y ∷ ys) d l = absurd (omega (arith, l))
last_is n (suc k) (x ∷ y ∷ ys) d l = last_is n k (y ∷ ys) d (omega (arith, l))

pub last_with : (n : ℕ) (xs : List Meeting) (d : Meeting) → 0 < length xs → (slice_index_or xs (length xs - 1) d).second ≡ n → Some (slice_index_or xs (length xs - 1) d).word ≡ last_meets n xs
last_with n xs d some e =
    ap (λ (b : Bool). elim b as (λ y. Option ℕ) [ true ↦ Some (slice_index_or xs (length xs - 1) d).word | false ↦ None ]) (sym (eq-eqb _ n e))
    ∙ last_is n (length xs - 1) xs d (omega (arith, some))

pub last_without : (n : ℕ) (xs : List Meeting) (d : Meeting) → 0 < length xs → (slice_index_or xs (length xs - 1) d).second ≢ n → None ≡ last_meets n xs
last_without n xs d some e =
    ap (λ (b : Bool). elim b as (λ y. Option ℕ) [ true ↦ Some (slice_index_or xs (length xs - 1) d).word | false ↦ None ]) (sym (ne_eqb _ n e))
    ∙ last_is n (length xs - 1) xs d (omega (arith, some))

pub some_there : (xs : List Meeting) → (length xs == 0) ≡ false → 0 < length xs
some_there [] e = absurd cc
some_there (x ∷ xs) e = omega arith

pub total_grown : (b : Bool) (count : ℕ) (vs ws : List (Vec Meeting Global)) (v : Vec Meeting Global) → ws ≡ (if b then vs ++ v ∷ [] else vs) → v.items ≡ [] → count ≡ total vs → count ≡ total ws
total_grown true count vs ws v e f g =
    let added : total ws ≡ total_of (lists_in vs ++ v.items ∷ []) = ap total e ∙ ap total_of (lists_added vs v) in
    let sum = total_added (lists_in vs) v.items in
    let none : length v.items ≡ 0 = ap length f in
    omega (arith, added, sum, none, g)
total_grown false count vs ws v e f g = g ∙ ap total (sym e)

pub lists_grown : (vs : List (Vec Meeting Global)) (v : Vec Meeting Global) → v.items ≡ [] → lists_in (vs ++ v ∷ []) ≡ lists_in vs ++ [] ∷ []
lists_grown vs v e = lists_added vs v ∙ ap (λ (l : List Meeting). lists_in vs ++ l ∷ []) e

pub set_length : (vs : List (Vec Meeting Global)) (m : ℕ) (v : Vec Meeting Global) → length (lists_in (slice_set vs m v)) ≡ length (lists_in vs)
set_length [] m v = refl
set_length (u ∷ vs) zero v = refl
set_length (u ∷ vs) (suc m) v = ap suc (set_length vs m v)

-- the list at a place, as indexing gives it
pub list_at : (vs : List (Vec Meeting Global)) (m : ℕ) (u : Vec Meeting Global) → m < length (lists_in vs) → u ≡ slice_index_or vs m u → slice_get vs m ≡ Some u
list_at vs m u low e = slice_get-get_or vs m u (omega (arith, low, lists_length vs)) ∙ ap (λ (x : Vec Meeting Global). Some x) (sym e)

pub last_some : (n : ℕ) (xs : List Meeting) (v : ℕ) → last_meets n xs ≡ Some v → 0 < length xs
last_some n [] v e = absurd cc
last_some n (x ∷ xs) v e = omega arith

pub grown_by : (b : Bool) (x a : ℕ) → x ≡ (if b then a + 1 else a) → b ≡ true → x ≡ a + 1
grown_by true x a e f = e
grown_by false x a e f = absurd cc

pub not_grown : (b : Bool) (x a : ℕ) → x ≡ (if b then a + 1 else a) → b ≡ false → x ≡ a
not_grown true x a e f = absurd cc
not_grown false x a e f = e
