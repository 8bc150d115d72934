-- The known words, by the steps.
use Rattle.joint_laws.proofs.Common.{◌≡◌, ℕ, zero, suc, ◌+◌, ◌<◌, ◌≤◌, Bool, true, false, cond, not, ◌==◌, nat_lt, inl, inr, refl, sym, ap, ◌∙◌, subst, arith, List, [], ◌∷◌, filter, length, map, slice_get, slice_index_or, Option, Some, None, eq-eqb, ne_eqb, eqb_tells, aligned, at_address, Record, Item, Doing, Bytes, filled, has_byte, known_after, word_after, put_word, put_access, forget, memory_after, word_in, Joining, Taken, Walk, begun, IsBegun, Recording, OfBeginnings, begin, WordsAscend, HasWordsOnce, told_by, eqb-true, ltb-true}
use Rattle.joint_laws.proofs.Moves.{along, some_is}

-- ---- one step

put_found : (ms : List (ℕ × ℕ)) (b v a : ℕ) → word_in (put_word b v ms) a ≡ elim (b == a) [ true ↦ Some v | false ↦ word_in ms a ]
put_found [] b v a = swap a b
  where
    swap : (a b : ℕ) → elim (a == b) as (λ y. Option ℕ) [ true ↦ Some v | false ↦ None ] ≡ elim (b == a) [ true ↦ Some v | false ↦ None ]
    swap a b = ap (λ x. elim x as (λ y. Option ℕ) [ true ↦ Some v | false ↦ None ]) (same a b)
      where
        same : (a b : ℕ) → (a == b) ≡ (b == a)
        same a b = grind arith
put_found (m ∷ ms) b v a = by (b == m.0) refl (nat_lt b m.0) (put_found ms b v a)
  where
    same : (a b : ℕ) → (a == b) ≡ (b == a)
    same a b = grind arith

    at_m : (b == m.0) ≡ true → elim (a == b) as (λ y. Option ℕ) [ true ↦ Some v | false ↦ word_in ms a ] ≡ elim (b == a) as (λ y. Option ℕ) [ true ↦ Some v | false ↦ elim (a == m.0) [ true ↦ Some m.1 | false ↦ word_in ms a ] ]
    at_m e = elim (eqb_tells b a) [
      | inl p ↦ ap (λ x. elim x as (λ y. Option ℕ) [ true ↦ Some v | false ↦ word_in ms a ]) (same a b ∙ p.0) ∙ sym (ap (λ x. elim x as (λ y. Option ℕ) [ true ↦ Some v | false ↦ elim (a == m.0) [ true ↦ Some m.1 | false ↦ word_in ms a ] ]) p.0)
      | inr p ↦
          ap (λ x. elim x as (λ y. Option ℕ) [ true ↦ Some v | false ↦ word_in ms a ]) (same a b ∙ p.0)
          ∙ sym (ap (λ x. elim x as (λ y. Option ℕ) [ true ↦ Some m.1 | false ↦ word_in ms a ]) (apart a b m.0 e p.1))
          ∙ sym (ap (λ x. elim x as (λ y. Option ℕ) [ true ↦ Some v | false ↦ elim (a == m.0) [ true ↦ Some m.1 | false ↦ word_in ms a ] ]) p.0)
    ]
      where
        apart : (a b c : ℕ) → (b == c) ≡ true → (b ≡ a → ⊥) → (a == c) ≡ false
        apart a b c e n = elim (eqb_tells a c) [ inl p ↦ absurd (n (eqb-true b c e ∙ sym p.1)) | inr p ↦ p.0 ]

    before : (rest : Option ℕ) → elim (a == b) as (λ y. Option ℕ) [ true ↦ Some v | false ↦ rest ] ≡ elim (b == a) as (λ y. Option ℕ) [ true ↦ Some v | false ↦ rest ]
    before rest = ap (λ x. elim x as (λ y. Option ℕ) [ true ↦ Some v | false ↦ rest ]) (same a b)

    behind : (b == m.0) ≡ false → word_in (put_word b v ms) a ≡ elim (b == a) as (λ y. Option ℕ) [ true ↦ Some v | false ↦ word_in ms a ]
        → elim (a == m.0) as (λ y. Option ℕ) [ true ↦ Some m.1 | false ↦ word_in (put_word b v ms) a ] ≡ elim (b == a) as (λ y. Option ℕ) [ true ↦ Some v | false ↦ elim (a == m.0) [ true ↦ Some m.1 | false ↦ word_in ms a ] ]
    behind e rest = elim (eqb_tells b a) [
      | inl p ↦
          ap (λ x. elim x as (λ y. Option ℕ) [ true ↦ Some m.1 | false ↦ word_in (put_word b v ms) a ]) (ap (λ x. x == m.0) (sym p.1) ∙ e)
          ∙ (rest ∙ (ap (λ x. elim x as (λ y. Option ℕ) [ true ↦ Some v | false ↦ word_in ms a ]) p.0 ∙ sym (ap (λ x. elim x as (λ y. Option ℕ) [ true ↦ Some v | false ↦ elim (a == m.0) [ true ↦ Some m.1 | false ↦ word_in ms a ] ]) p.0)))
      | inr p ↦
          ap (λ o. elim (a == m.0) as (λ y. Option ℕ) [ true ↦ Some m.1 | false ↦ o ]) (rest ∙ ap (λ x. elim x as (λ y. Option ℕ) [ true ↦ Some v | false ↦ word_in ms a ]) p.0)
          ∙ sym (ap (λ x. elim x as (λ y. Option ℕ) [ true ↦ Some v | false ↦ elim (a == m.0) [ true ↦ Some m.1 | false ↦ word_in ms a ] ]) p.0)
    ]

    by : (x : Bool) → (b == m.0) ≡ x → (y : Bool) → word_in (put_word b v ms) a ≡ elim (b == a) as (λ y. Option ℕ) [ true ↦ Some v | false ↦ word_in ms a ]
        → word_in (elim x as (λ y. List (ℕ × ℕ)) [ true ↦ (b, v) ∷ ms | false ↦ elim y as (λ z. List (ℕ × ℕ)) [ true ↦ (b, v) ∷ m ∷ ms | false ↦ m ∷ put_word b v ms ] ]) a
        ≡ elim (b == a) as (λ y. Option ℕ) [ true ↦ Some v | false ↦ elim (a == m.0) [ true ↦ Some m.1 | false ↦ word_in ms a ] ]
    by true e y rest = at_m e
    by false e true rest = before (elim (a == m.0) [ true ↦ Some m.1 | false ↦ word_in ms a ])
    by false e false rest = behind e rest

access_found : (o : Option (ℕ × ℕ)) (ms : List (ℕ × ℕ)) (a : ℕ) → word_in (put_access o ms) a ≡ at_address a o (word_in ms a)
access_found None ms a = refl
access_found (Some x) ms a = put_found ms (aligned x.0) x.1 a

abbrev without : Bytes → List (ℕ × ℕ) → List (ℕ × ℕ)
without b ms = filter (λ (m : ℕ × ℕ). not (has_byte (Some b) m.0)) ms

forgotten : (b : Bytes) (ms : List (ℕ × ℕ)) (a : ℕ) → word_in (filter (λ (m : ℕ × ℕ). not (has_byte (Some b) m.0)) ms) a ≡ cond (has_byte (Some b) a) None (word_in ms a)
forgotten b [] a = by (has_byte (Some b) a)
  where
    by : (x : Bool) → ◌≡◌ {A = Option ℕ} None (cond x None None)
    by true = refl
    by false = refl
forgotten b (m ∷ ms) a = elim (eqb_tells a m.0) [
  | inl p ↦ here p.0 (ap (has_byte (Some b)) p.1) (has_byte (Some b) m.0) refl (forgotten b ms a)
  | inr p ↦ other p.0 (has_byte (Some b) m.0) (forgotten b ms a)
]
  where
    here : (a == m.0) ≡ true → has_byte (Some b) a ≡ has_byte (Some b) m.0 → (x : Bool) → has_byte (Some b) m.0 ≡ x → word_in (without b ms) a ≡ cond (has_byte (Some b) a) None (word_in ms a)
        → word_in (cond (not x) (m ∷ (without b ms)) (without b ms)) a ≡ cond (has_byte (Some b) a) None (elim (a == m.0) [ true ↦ Some m.1 | false ↦ word_in ms a ])
    here e f true g rest = rest ∙ (ap (λ x. cond x None (word_in ms a)) (f ∙ g) ∙ sym (ap (λ x. cond x None (elim (a == m.0) as (λ y. Option ℕ) [ true ↦ Some m.1 | false ↦ word_in ms a ])) (f ∙ g)))
    here e f false g rest =
        ap (λ x. elim x as (λ y. Option ℕ) [ true ↦ Some m.1 | false ↦ word_in (without b ms) a ]) e
        ∙ sym (ap (λ x. elim x as (λ y. Option ℕ) [ true ↦ Some m.1 | false ↦ word_in ms a ]) e)
        ∙ sym (ap (λ x. cond x None (elim (a == m.0) as (λ y. Option ℕ) [ true ↦ Some m.1 | false ↦ word_in ms a ])) (f ∙ g))

    other : (a == m.0) ≡ false → (x : Bool) → word_in (without b ms) a ≡ cond (has_byte (Some b) a) None (word_in ms a)
        → word_in (cond (not x) (m ∷ (without b ms)) (without b ms)) a ≡ cond (has_byte (Some b) a) None (elim (a == m.0) [ true ↦ Some m.1 | false ↦ word_in ms a ])
    other e true rest = rest ∙ sym (ap (λ x. cond (has_byte (Some b) a) None (elim x as (λ y. Option ℕ) [ true ↦ Some m.1 | false ↦ word_in ms a ])) e)
    other e false rest =
        ap (λ x. elim x as (λ y. Option ℕ) [ true ↦ Some m.1 | false ↦ word_in (without b ms) a ]) e
        ∙ (rest ∙ sym (ap (λ x. cond (has_byte (Some b) a) None (elim x as (λ y. Option ℕ) [ true ↦ Some m.1 | false ↦ word_in ms a ])) e))

forget_found : (o : Option Bytes) (ms : List (ℕ × ℕ)) (a : ℕ) → word_in (forget o ms) a ≡ cond (has_byte o a) None (word_in ms a)
forget_found None ms a = refl
forget_found (Some b) ms a = forgotten b ms a

step_found : (item : Item) (ms : List (ℕ × ℕ)) (a : ℕ) → word_in (memory_after item ms) a ≡ known_after item a (word_in ms a)
step_found (Doing s row) ms a =
    access_found row.store (put_access row.load (forget (filled s row) ms)) a
    ∙ ap (at_address a row.store) (access_found row.load (forget (filled s row) ms) a ∙ ap (at_address a row.load) (forget_found (filled s row) ms a))
step_found item ms a = refl

-- ---- the steps of a walk

abbrev pub items : List Taken → List Item
items ts = map (λ (t : Taken). t.item) ts

-- the list of the known words is what the steps tell
pub words_are : (r : Recording) (records : List Record) (order : List ℕ) (w : Walk) → IsBegun r.program r.settings.harts records order w → (a : ℕ) → word_in w.now.memory a ≡ word_after (items w.taken) a
words_are r records order w b = along (λ v. (a : ℕ) → word_in v.now.memory a ≡ word_after (items v.taken) a)
    (λ v h x p m a. ap (λ (j : Joining). word_in j.memory a) m.is ∙ (step_found x.0 v.now.memory a ∙ ap (known_after x.0 a) (p a)))
    (begun (begin r records)) order (λ a. refl) w b.allowed

-- ---- the latest step that tells a word

-- a step fills bytes of a word
abbrev pub forgets : ℕ → Item → Bool
forgets a (Doing before row) = has_byte (filled before row) a
forgets a item = false

pub record IsLatest (ts : List Taken) (a word : ℕ) : Type 0 where
  pub place : ℕ
  pub step : Taken
  pub at : slice_get ts place ≡ Some step
  pub tells : told_by a step.item ≡ Some word
  pub no_later : (y : ℕ) (t : Taken) → y < place → slice_get ts y ≡ Some t → (told_by a t.item ≡ None) × (forgets a t.item ≡ false)

-- what is known after a step is what it tells; else what was known, unless it fills bytes of it
abbrev next_known : Option ℕ → Bool → Option ℕ → Option ℕ
next_known told gone before = elim told [ Some v ↦ Some v | None ↦ cond gone None before ]

at_told : (a : ℕ) (o : Option (ℕ × ℕ)) (told : Option ℕ) (gone : Bool) (before rest : Option ℕ) → rest ≡ next_known told gone before → at_address a o rest ≡ next_known (at_address a o told) gone before
at_told a None told gone before rest e = e
at_told a (Some x) told gone before rest e = by (aligned x.0 == a)
  where
    by : (b : Bool) → elim b as (λ y. Option ℕ) [ true ↦ Some x.1 | false ↦ rest ] ≡ next_known (elim b as (λ y. Option ℕ) [ true ↦ Some x.1 | false ↦ told ]) gone before
    by true = refl
    by false = e

known_is : (item : Item) (a : ℕ) (before : Option ℕ) → known_after item a before ≡ next_known (told_by a item) (forgets a item) before
known_is (Doing s row) a before =
    at_told a row.store (at_address a row.load None) (has_byte (filled s row) a) before (at_address a row.load (cond (has_byte (filled s row) a) None before))
    (at_told a row.load None (has_byte (filled s row) a) before (cond (has_byte (filled s row) a) None before) refl)
known_is item a before = refl

no_word : (word : ℕ) → ◌≡◌ {A = Option ℕ} None (Some word) → ⊥
no_word word e = cc

pub latest : (ts : List Taken) (a word : ℕ) → word_after (items ts) a ≡ Some word → IsLatest ts a word
latest [] a word e = absurd (no_word word e)
latest (t ∷ ts) a word e = by (told_by a t.item) refl (forgets a t.item) refl (sym (known_is t.item a (word_after (items ts) a)) ∙ e) (latest ts a word)
  where
    later : told_by a t.item ≡ None → forgets a t.item ≡ false → (l : IsLatest ts a word) → (y : ℕ) (u : Taken) → y < suc l.place → slice_get (t ∷ ts) y ≡ Some u → (told_by a u.item ≡ None) × (forgets a u.item ≡ false)
    later f g l zero u low at = let same : t ≡ u = some_is t u (Some t) refl at in (ap (λ (x : Taken). told_by a x.item) (sym same) ∙ f, ap (λ (x : Taken). forgets a x.item) (sym same) ∙ g)
    later f g l (suc y) u low at = l.no_later y u (omega (arith, low)) at

    by : (o : Option ℕ) → told_by a t.item ≡ o → (b : Bool) → forgets a t.item ≡ b → next_known o b (word_after (items ts) a) ≡ Some word → (word_after (items ts) a ≡ Some word → IsLatest ts a word) → IsLatest (t ∷ ts) a word
    by (Some v) f b g k rest = record { place = 0; step = t; at = refl; tells = f ∙ k; no_later = λ y u low at. absurd (omega (arith, low)) }
    by None f true g k rest = absurd (no_word word k)
    by None f false g k rest = (let l = rest k in record { place = suc l.place; step = l.step; at = l.at; tells = l.tells; no_later = later f g l })

-- ---- the list ascends

weaker : (low high : ℕ) (ms : List (ℕ × ℕ)) → low ≤ high → WordsAscend high ms → WordsAscend low ms
weaker low high [] le a = tt
weaker low high (m ∷ ms) le a = (omega (arith, le, a.0), a.1)

put_ascends : (low b v : ℕ) (ms : List (ℕ × ℕ)) → low ≤ b → WordsAscend low ms → WordsAscend low (put_word b v ms)
put_ascends low b v [] le a = (le, tt)
put_ascends low b v (m ∷ ms) le a = by (b == m.0) refl (nat_lt b m.0) refl (λ up. put_ascends (m.0 + 1) b v ms up a.1)
  where
    higher : (m n : ℕ) → (m == n) ≡ false → nat_lt m n ≡ false → n + 1 ≤ m
    higher m n e f = grind arith

    by : (x : Bool) → (b == m.0) ≡ x → (y : Bool) → nat_lt b m.0 ≡ y → (m.0 + 1 ≤ b → WordsAscend (m.0 + 1) (put_word b v ms))
        → WordsAscend low (elim x as (λ z. List (ℕ × ℕ)) [ true ↦ (b, v) ∷ ms | false ↦ elim y as (λ z. List (ℕ × ℕ)) [ true ↦ (b, v) ∷ m ∷ ms | false ↦ m ∷ put_word b v ms ] ])
    by true e y f rest = (le, weaker (b + 1) (m.0 + 1) ms (let same = eqb-true b m.0 e in omega (arith, same)) a.1)
    by false e true f rest = (le, ((let up = ltb-true b m.0 f in omega (arith, up)), a.1))
    by false e false f rest = (a.0, rest (higher b m.0 e f))

access_ascends : (o : Option (ℕ × ℕ)) (ms : List (ℕ × ℕ)) → WordsAscend 0 ms → WordsAscend 0 (put_access o ms)
access_ascends None ms a = a
access_ascends (Some x) ms a = put_ascends 0 (aligned x.0) x.1 ms (omega arith) a

without_ascends : (low : ℕ) (b : Bytes) (ms : List (ℕ × ℕ)) → WordsAscend low ms → WordsAscend low (without b ms)
without_ascends low b [] a = tt
without_ascends low b (m ∷ ms) a = by (has_byte (Some b) m.0) (without_ascends (m.0 + 1) b ms a.1)
  where
    by : (x : Bool) → WordsAscend (m.0 + 1) (without b ms) → WordsAscend low (cond (not x) (m ∷ without b ms) (without b ms))
    by true rest = weaker low (m.0 + 1) (without b ms) (let le = a.0 in omega (arith, le)) rest
    by false rest = (a.0, rest)

forget_ascends : (o : Option Bytes) (ms : List (ℕ × ℕ)) → WordsAscend 0 ms → WordsAscend 0 (forget o ms)
forget_ascends None ms a = a
forget_ascends (Some b) ms a = without_ascends 0 b ms a

step_ascends : (item : Item) (ms : List (ℕ × ℕ)) → WordsAscend 0 ms → WordsAscend 0 (memory_after item ms)
step_ascends (Doing s row) ms a = access_ascends row.store (put_access row.load (forget (filled s row) ms)) (access_ascends row.load (forget (filled s row) ms) (forget_ascends (filled s row) ms a))
step_ascends item ms a = a

-- a word of the list is above the ones before it, and so it is the one that is found
above : (low k : ℕ) (ms : List (ℕ × ℕ)) (m : ℕ × ℕ) → WordsAscend low ms → k < length ms → slice_index_or ms k m ≡ m → low ≤ m.0
above low k [] m a less e = absurd (omega (arith, less))
above low zero (n ∷ ns) m a less e = subst (λ (x : ℕ × ℕ). low ≤ x.0) e a.0
above low (suc k) (n ∷ ns) m a less e = let up = above (n.0 + 1) k ns m a.1 (omega (arith, less)) e in let le = a.0 in omega (arith, up, le)

found_once : (low k : ℕ) (ms : List (ℕ × ℕ)) (m : ℕ × ℕ) → WordsAscend low ms → k < length ms → slice_index_or ms k m ≡ m → word_in ms m.0 ≡ Some m.1
found_once low k [] m a less e = absurd (omega (arith, less))
found_once low zero (n ∷ ns) m a less e =
    ap (λ b. elim b as (λ y. Option ℕ) [ true ↦ Some n.1 | false ↦ word_in ns m.0 ]) (eq-eqb m.0 n.0 (ap (λ (x : ℕ × ℕ). x.0) (sym e))) ∙ ap (λ (x : ℕ × ℕ). Some x.1) e
found_once low (suc k) (n ∷ ns) m a less e =
    let up : n.0 + 1 ≤ m.0 = above (n.0 + 1) k ns m a.1 (omega (arith, less)) e in
    ap (λ b. elim b as (λ y. Option ℕ) [ true ↦ Some n.1 | false ↦ word_in ns m.0 ]) (ne_eqb m.0 n.0 (λ same. absurd (omega (arith, up, same)))) ∙ found_once (n.0 + 1) k ns m a.1 (omega (arith, less)) e

pub words_once : OfBeginnings HasWordsOnce
words_once r records order w log b =
    let ascends : WordsAscend 0 w.now.memory = along (λ v. WordsAscend 0 v.now.memory)
    (λ v h x a m. subst (λ (j : Joining). WordsAscend 0 j.memory) (sym m.is) (step_ascends x.0 v.now.memory a)) (begun (begin r records)) order tt w b.allowed in
    (ascends, λ m c. found_once 0 c.0 w.now.memory m ascends c.1 c.2)
