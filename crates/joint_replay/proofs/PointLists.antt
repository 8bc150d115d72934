-- Numbers put in their places.
use Rattle.joint_replay.proofs.Common.{◌≡◌, ℕ, ◌<◌, Bool, true, false, ◌&&◌, ◌==◌, ◌⊎◌, inl, inr, nat_lt, refl, sym, ap, ◌∙◌, subst, arith, List, [], ◌∷◌, Option, Record, Header, FirstLoad, ScOk, ScFailed, Edge, End, Cursor, first_count, is_below, insert, insert_if, points_below, ArePoints, IsBelow, Has, HasEdge, PointsAscend, IsNamed, PointsAreNamed, and_parts, eq-eqb, eqb-true, ltb-true}

above_of : (m n : ℕ) → (n == m) ≡ false → nat_lt n m ≡ false → m < n
above_of m n e f = grind arith

-- the first of these numbers is above m; if there is none, m is below the intervals
abbrev Above : ℕ → List ℕ → List Cursor → Type 0
Above m [] cs = IsBelow m cs
Above m (x ∷ xs) cs = m < x

behind : (m : ℕ) (xs : List ℕ) (cs : List Cursor) → Above m xs cs → ArePoints xs cs → ArePoints (m ∷ xs) cs
behind m [] cs a p = a
behind m (x ∷ xs) cs a p = (a, p)

first_above : (m : ℕ) (xs : List ℕ) (cs : List Cursor) → ArePoints (m ∷ xs) cs → Above m xs cs
first_above m [] cs p = p
first_above m (x ∷ xs) cs p = p.0

rest_points : (m : ℕ) (xs : List ℕ) (cs : List Cursor) → ArePoints (m ∷ xs) cs → ArePoints xs cs
rest_points m [] cs p = tt
rest_points m (x ∷ xs) cs p = p.1

above_insert : (m n : ℕ) (xs : List ℕ) (cs : List Cursor) → m < n → Above m xs cs → Above m (insert n xs) cs
above_insert m n [] cs up a = up
above_insert m n (x ∷ xs) cs up a = by (n == x) (nat_lt n x)
  where
    by : (b c : Bool) → Above m (elim b as (λ y. List ℕ) [ true ↦ x ∷ xs | false ↦ elim c as (λ y. List ℕ) [ true ↦ n ∷ x ∷ xs | false ↦ x ∷ insert n xs ] ]) cs
    by true c = a
    by false true = up
    by false false = a

insert_points : (n : ℕ) (xs : List ℕ) (cs : List Cursor) → IsBelow n cs → ArePoints xs cs → ArePoints (insert n xs) cs
insert_points n [] cs low p = low
insert_points n (x ∷ xs) cs low p = by (n == x) refl (nat_lt n x) refl (insert_points n xs cs low (rest_points x xs cs p))
  where
    by : (b : Bool) → (n == x) ≡ b → (c : Bool) → nat_lt n x ≡ c → ArePoints (insert n xs) cs
        → ArePoints (elim b as (λ y. List ℕ) [ true ↦ x ∷ xs | false ↦ elim c as (λ y. List ℕ) [ true ↦ n ∷ x ∷ xs | false ↦ x ∷ insert n xs ] ]) cs
    by true e c f rest = p
    by false e true f rest = (ltb-true n x f, p)
    by false e false f rest = behind x (insert n xs) cs (above_insert x n xs cs (above_of x n e f) (first_above x xs cs p)) rest

has_new : (n : ℕ) (xs : List ℕ) → Has (insert n xs) n
has_new n [] = inl refl
has_new n (x ∷ xs) = by (n == x) refl (nat_lt n x) (has_new n xs)
  where
    by : (b : Bool) → (n == x) ≡ b → (c : Bool) → Has (insert n xs) n → Has (elim b as (λ y. List ℕ) [ true ↦ x ∷ xs | false ↦ elim c as (λ y. List ℕ) [ true ↦ n ∷ x ∷ xs | false ↦ x ∷ insert n xs ] ]) n
    by true e c rest = inl (sym (eqb-true n x e))
    by false e true rest = inl refl
    by false e false rest = inr rest

has_old : (n k : ℕ) (xs : List ℕ) → Has xs k → Has (insert n xs) k
has_old n k [] h = absurd h
has_old n k (x ∷ xs) h = by (n == x) (nat_lt n x) h (has_old n k xs)
  where
    by : (b c : Bool) → (x ≡ k) ⊎ Has xs k → (Has xs k → Has (insert n xs) k) → Has (elim b as (λ y. List ℕ) [ true ↦ x ∷ xs | false ↦ elim c as (λ y. List ℕ) [ true ↦ n ∷ x ∷ xs | false ↦ x ∷ insert n xs ] ]) k
    by true c h rest = h
    by false true h rest = inr h
    by false false (inl e) rest = inl e
    by false false (inr h) rest = inr (rest h)

if_points : (b : Bool) (n : ℕ) (xs : List ℕ) (cs : List Cursor) → (b ≡ true → IsBelow n cs) → ArePoints xs cs → ArePoints (insert_if b n xs) cs
if_points true n xs cs low p = insert_points n xs cs (low refl) p
if_points false n xs cs low p = p

if_old : (b : Bool) (n k : ℕ) (xs : List ℕ) → Has xs k → Has (insert_if b n xs) k
if_old true n k xs h = has_old n k xs h
if_old false n k xs h = h

if_new : (b : Bool) (n : ℕ) (xs : List ℕ) → b ≡ true → Has (insert_if b n xs) n
if_new true n xs e = has_new n xs
if_new false n xs e = cc

ascend : (first : Option ℕ) (h : ℕ) (rs : List Record) (cs : List Cursor) → ((n : ℕ) → is_below first n ≡ true → IsBelow n cs) → ArePoints (points_below first h rs) cs
ascend first h [] cs low = tt
ascend first h (Header k n ic pc x ∷ rs) cs low = ascend first h rs cs low
ascend first h (FirstLoad k skip value ∷ rs) cs low = ascend first h rs cs low
ascend first h (ScOk k ∷ rs) cs low = ascend first h rs cs low
ascend first h (ScFailed k ∷ rs) cs low = ascend first h rs cs low
ascend first h (End k m ∷ rs) cs low = ascend first h rs cs low
ascend first h (Edge k ic s j ∷ rs) cs low =
    if_points (k == h && is_below first ic) ic (insert_if (s == h && is_below first j) j (points_below first h rs)) cs (λ e. low ic (and_parts (k == h) (is_below first ic) e).1)
    (if_points (s == h && is_below first j) j (points_below first h rs) cs (λ e. low j (and_parts (s == h) (is_below first j) e).1) (ascend first h rs cs low))

targets : (first : Option ℕ) (h ic s j : ℕ) (rs : List Record) → HasEdge rs h ic s j → is_below first ic ≡ true → Has (points_below first h rs) ic
targets first h ic s j [] e low = absurd e
targets first h ic s j (Header k n c pc x ∷ rs) e low = targets first h ic s j rs e low
targets first h ic s j (FirstLoad k skip value ∷ rs) e low = targets first h ic s j rs e low
targets first h ic s j (ScOk k ∷ rs) e low = targets first h ic s j rs e low
targets first h ic s j (ScFailed k ∷ rs) e low = targets first h ic s j rs e low
targets first h ic s j (End k m ∷ rs) e low = targets first h ic s j rs e low
targets first h ic s j (Edge k n a b ∷ rs) (inl e) low =
    let own : (k == h) ≡ true = ap (λ t. t == h) e.0 ∙ eq-eqb h h refl in
    let here : (k == h && is_below first n) ≡ true = ap (λ t. t && is_below first n) own ∙ (ap (is_below first) e.1 ∙ low) in
    subst (Has (insert_if (k == h && is_below first n) n (insert_if (a == h && is_below first b) b (points_below first h rs)))) e.1
    (if_new (k == h && is_below first n) n (insert_if (a == h && is_below first b) b (points_below first h rs)) here)
targets first h ic s j (Edge k n a b ∷ rs) (inr e) low =
    if_old (k == h && is_below first n) n ic (insert_if (a == h && is_below first b) b (points_below first h rs))
    (if_old (a == h && is_below first b) b ic (points_below first h rs) (targets first h ic s j rs e low))

-- and so is each source of an Edge there
pub sources : (first : Option ℕ) (k ic h j : ℕ) (rs : List Record) → HasEdge rs k ic h j → is_below first j ≡ true → Has (points_below first h rs) j
sources first k ic h j [] e low = absurd e
sources first k ic h j (Header m n c pc x ∷ rs) e low = sources first k ic h j rs e low
sources first k ic h j (FirstLoad m skip value ∷ rs) e low = sources first k ic h j rs e low
sources first k ic h j (ScOk m ∷ rs) e low = sources first k ic h j rs e low
sources first k ic h j (ScFailed m ∷ rs) e low = sources first k ic h j rs e low
sources first k ic h j (End m mark ∷ rs) e low = sources first k ic h j rs e low
sources first k ic h j (Edge m n a b ∷ rs) (inl e) low =
    let own : (a == h) ≡ true = ap (λ t. t == h) e.2 ∙ eq-eqb h h refl in
    let here : (a == h && is_below first b) ≡ true = ap (λ t. t && is_below first b) own ∙ (ap (is_below first) e.3 ∙ low) in
    if_old (m == h && is_below first n) n j (insert_if (a == h && is_below first b) b (points_below first h rs))
    (subst (Has (insert_if (a == h && is_below first b) b (points_below first h rs))) e.3 (if_new (a == h && is_below first b) b (points_below first h rs) here))
sources first k ic h j (Edge m n a b ∷ rs) (inr e) low =
    if_old (m == h && is_below first n) n j (insert_if (a == h && is_below first b) b (points_below first h rs))
    (if_old (a == h && is_below first b) b j (points_below first h rs) (sources first k ic h j rs e low))

-- ---- each point is named by an Edge

inserted : (n k : ℕ) (xs : List ℕ) → Has (insert n xs) k → (n ≡ k) ⊎ Has xs k
inserted n k [] h = h
inserted n k (x ∷ xs) h = by (n == x) (nat_lt n x) h (inserted n k xs)
  where
    by : (b c : Bool) → Has (elim b as (λ y. List ℕ) [ true ↦ x ∷ xs | false ↦ elim c as (λ y. List ℕ) [ true ↦ n ∷ x ∷ xs | false ↦ x ∷ insert n xs ] ]) k
        → (Has (insert n xs) k → (n ≡ k) ⊎ Has xs k) → (n ≡ k) ⊎ ((x ≡ k) ⊎ Has xs k)
    by true c h rest = inr h
    by false true h rest = h
    by false false (inl e) rest = inr (inl e)
    by false false (inr h) rest = elim (rest h) [ inl e ↦ inl e | inr i ↦ inr (inr i) ]

if_inserted : (b : Bool) (n k : ℕ) (xs : List ℕ) → Has (insert_if b n xs) k → ((b ≡ true) × (n ≡ k)) ⊎ Has xs k
if_inserted true n k xs h = elim (inserted n k xs h) [ inl e ↦ inl (refl, e) | inr i ↦ inr i ]
if_inserted false n k xs h = inr h

named : (first : Option ℕ) (h k : ℕ) (rs : List Record) → Has (points_below first h rs) k → IsNamed rs h k × (is_below first k ≡ true)
named first h k [] i = absurd i
named first h k (Header m n c pc x ∷ rs) i = named first h k rs i
named first h k (FirstLoad m skip value ∷ rs) i = named first h k rs i
named first h k (ScOk m ∷ rs) i = named first h k rs i
named first h k (ScFailed m ∷ rs) i = named first h k rs i
named first h k (End m mark ∷ rs) i = named first h k rs i
named first h k (Edge m n a b ∷ rs) i = elim (if_inserted (m == h && is_below first n) n k (insert_if (a == h && is_below first b) b (points_below first h rs)) i) [
  | inl target ↦ (
      let parts = and_parts (m == h) (is_below first n) target.0 in
      (inl (a, b, inl (eqb-true m h parts.0, target.1, refl, refl)), subst (λ t. is_below first t ≡ true) target.1 parts.1)
      )
  | inr more ↦ elim (if_inserted (a == h && is_below first b) b k (points_below first h rs) more) [
    | inl source ↦ (
        let parts = and_parts (a == h) (is_below first b) source.0 in
        (inr (m, n, inl (refl, refl, eqb-true a h parts.0, source.1)), subst (λ t. is_below first t ≡ true) source.1 parts.1)
        )
    | inr later ↦ (
        let l = named first h k rs later in
        (elim l.0 [ inl t ↦ inl (t.0, t.1, inr t.2) | inr s ↦ inr (s.0, s.1, inr s.2) ], l.1)
        )
  ]
]

no_cursors : (first : Option ℕ) (n : ℕ) → is_below first n ≡ true → IsBelow n []
no_cursors first n e = tt

pub points_are_named : PointsAreNamed
points_are_named records h = record {
  ascend = ascend (first_count h records) h records [] (no_cursors (first_count h records));
  named = λ k i. named (first_count h records) h k records i;
  all = λ k i low. elim i [
    | inl t ↦ targets (first_count h records) h k t.0 t.1 records t.2 low
    | inr s ↦ sources (first_count h records) s.0 s.1 h k records s.2 low
  ];
}

pub points_ascend : PointsAscend
points_ascend = record { ascend = ascend; targets = targets }
