-- An access that is kept in the slots of a word.
use Rattle.race_log.proofs.Common.{◌≡◌, ◌≢◌, ℕ, zero, suc, ◌+◌, ◌-◌, ◌*◌, ◌<◌, ◌≤◌, Bool, true, false, ◌&&◌, ◌||◌, ◌⊎◌, ◌==◌, cond, refl, inl, inr, arith, sym, ap, ap₂, ◌∙◌, List, [], ◌∷◌, ◌++◌, Option, Some, None, slice_get, slice_set, length, subst, IsTrue, add-mul, Mode, Read, Write, Slot, Epoch, Kept, In, Replaces, is_write, stays, counts_past, kept_by, kept_here, write_in, read_in, reads_in, word_in, is_settled, IsSettledPage}
use Rattle.std.proofs.lemmas.Nat.{mul-le}
use Rattle.race_log.proofs.BoolFacts.{known, same_number, other_number}

-- ---- a slot that is written

pub get_here : {X : Type 0} (xs : List X) (i : ℕ) (s : X) → i < length xs → slice_get (slice_set xs i s) i ≡ Some s
get_here [] i s low = absurd (omega arith)
get_here (x ∷ xs) zero s low = refl
get_here (x ∷ xs) (suc i) s low = get_here xs i s (omega arith)

pub get_there : {X : Type 0} (xs : List X) (i j : ℕ) (s : X) → j ≢ i → slice_get (slice_set xs i s) j ≡ slice_get xs j
get_there [] i j s apart = refl
get_there (x ∷ xs) zero zero s apart = absurd (apart refl)
get_there (x ∷ xs) zero (suc j) s apart = refl
get_there (x ∷ xs) (suc i) zero s apart = refl
get_there (x ∷ xs) (suc i) (suc j) s apart = get_there xs i j s (λ e. apart (ap suc e))

-- ---- words whose slots are the same

pub reads_same : (counts : ℕ → ℕ → ℕ) (old new : List Slot) (at hart n : ℕ)
    → ((j : ℕ) → at + hart ≤ j → j < at + hart + n → slice_get new j ≡ slice_get old j) → reads_in counts new at hart n ≡ reads_in counts old at hart n
reads_same counts old new at hart zero same = refl
reads_same counts old new at hart (suc n) same =
    ap₂ (λ xs ys. xs ++ ys) (ap (read_in counts hart) (same (at + hart) (omega arith) (omega arith)))
    (reads_same counts old new at (suc hart) n (λ j low high. same j (omega arith) (omega arith)))

pub word_same : (counts : ℕ → ℕ → ℕ) (harts : ℕ) (old new : List Slot) (at : ℕ)
    → ((j : ℕ) → at ≤ j → j ≤ at + harts → slice_get new j ≡ slice_get old j) → word_in counts harts new at ≡ word_in counts harts old at
word_same counts harts old new at same =
    ap₂ (λ xs ys. xs ++ ys) (ap (write_in counts) (same at (omega arith) (omega arith)))
    (reads_same counts old new (at + 1) 0 harts (λ j low high. same j (omega arith) (omega arith)))

-- ---- slots that keep nothing

read_none : (counts : ℕ → ℕ → ℕ) (hart : ℕ) (o : Option Slot) → ((s : Slot) → o ≡ Some s → s.after ≡ 0) → read_in counts hart o ≡ []
read_none counts hart None none = refl
read_none counts hart (Some s) none = let e = none s refl in let t : (s.after == 0) ≡ true = grind arith in rw t refl

write_none : (counts : ℕ → ℕ → ℕ) (o : Option Slot) → ((s : Slot) → o ≡ Some s → s.after ≡ 0) → write_in counts o ≡ []
write_none counts None none = refl
write_none counts (Some s) none = let e = none s refl in let t : (s.after == 0) ≡ true = grind arith in rw t refl

reads_none : (counts : ℕ → ℕ → ℕ) (page : List Slot) (at hart n : ℕ)
    → ((j : ℕ) (s : Slot) → at + hart ≤ j → j < at + hart + n → slice_get page j ≡ Some s → s.after ≡ 0) → reads_in counts page at hart n ≡ []
reads_none counts page at hart zero none = refl
reads_none counts page at hart (suc n) none =
    ap₂ (λ xs ys. xs ++ ys) (read_none counts hart (slice_get page (at + hart)) (λ s e. none (at + hart) s (omega arith) (omega arith) e))
    (reads_none counts page at (suc hart) n (λ j s low high e. none j s (omega arith) (omega arith) e))

pub word_none : (counts : ℕ → ℕ → ℕ) (harts : ℕ) (page : List Slot) (at : ℕ)
    → ((j : ℕ) (s : Slot) → slice_get page j ≡ Some s → s.after ≡ 0) → word_in counts harts page at ≡ []
word_none counts harts page at none =
    ap₂ (λ xs ys. xs ++ ys) (write_none counts (slice_get page at) (none at)) (reads_none counts page (at + 1) 0 harts (λ j s low high. none j s))

-- ---- a write

pub replaces_write : (counts : ℕ → ℕ → ℕ) (harts : ℕ) (old new : List Slot) (at : ℕ) (slot : Slot) → 0 < slot.after → slice_get new at ≡ Some slot
    → ((j : ℕ) (s : Slot) → at < j → j ≤ at + harts → slice_get new j ≡ Some s → s.after ≡ 0)
    → Replaces (kept_by counts Write slot.hart slot.turn slot.after slot.epoch) (word_in counts harts old at) (word_in counts harts new at)
replaces_write counts harts old new at slot more own none =
    subst (Replaces k (word_in counts harts old at)) (sym is) (record { last = inl refl; stay = λ x i t. absurd (false_true t); only = λ x i. alone x i })
  where
    k : Kept
    k = kept_by counts Write slot.hart slot.turn slot.after slot.epoch

    false_true : false ≡ true → ⊥
    false_true e = cc

    alone : (x : Kept) → In (k ∷ []) x → (In (word_in counts harts old at) x × (stays k.hart (is_write k.mode) x ≡ true)) ⊎ (k ≡ x)
    alone x (inl e) = inr e
    alone x (inr i) = absurd i

    some : (o : Option Slot) → o ≡ Some slot → write_in counts o ≡ k ∷ []
    some o e = let t : (slot.after == 0) ≡ false = grind arith in rw e (rw t refl)

    is : word_in counts harts new at ≡ k ∷ []
    is = ap₂ (λ xs ys. xs ++ ys) (some (slice_get new at) own) (reads_none counts new (at + 1) 0 harts (λ j s low high. none j s (omega arith) (omega arith)))

-- ---- a read

in_either : (xs ys : List Kept) (x : Kept) → In (xs ++ ys) x → In xs x ⊎ In ys x
in_either [] ys x i = inr i
in_either (z ∷ xs) ys x (inl e) = inl (inl e)
in_either (z ∷ xs) ys x (inr i) = elim (in_either xs ys x i) [ inl j ↦ inl (inr j) | inr j ↦ inr j ]

in_first : (xs ys : List Kept) (x : Kept) → In xs x → In (xs ++ ys) x
in_first [] ys x i = absurd i
in_first (z ∷ xs) ys x (inl e) = inl e
in_first (z ∷ xs) ys x (inr i) = inr (in_first xs ys x i)

in_second : (xs ys : List Kept) (x : Kept) → In ys x → In (xs ++ ys) x
in_second [] ys x i = i
in_second (z ∷ xs) ys x i = inr (in_second xs ys x i)

-- a read that is kept stands in the slot of its hart
in_reads : (counts : ℕ → ℕ → ℕ) (page : List Slot) (at hart n : ℕ) (x : Kept) → In (reads_in counts page at hart n) x
    → (g : ℕ) × (hart ≤ g) × (g < hart + n) × In (read_in counts g (slice_get page (at + g))) x
in_reads counts page at hart zero x i = absurd i
in_reads counts page at hart (suc n) x i = elim (in_either (read_in counts hart (slice_get page (at + hart))) (reads_in counts page at (suc hart) n) x i) [
  | inl j ↦ (hart, omega arith, omega arith, j)
  | inr j ↦ let r = in_reads counts page at (suc hart) n x j in let low = r.1 in let high = r.2 in (r.0, omega arith, omega arith, r.3)
]

reads_have : (counts : ℕ → ℕ → ℕ) (page : List Slot) (at hart n g : ℕ) (x : Kept) → hart ≤ g → g < hart + n
    → In (read_in counts g (slice_get page (at + g))) x → In (reads_in counts page at hart n) x
reads_have counts page at hart zero g x low high i = absurd (omega arith)
reads_have counts page at hart (suc n) g x low high i = elim (known (g == hart)) [
  | inl t ↦
      let e = same_number g hart t in
      in_first (read_in counts hart (slice_get page (at + hart))) (reads_in counts page at (suc hart) n) x
      (subst (λ h. In (read_in counts h (slice_get page (at + h))) x) e i)
  | inr f ↦
      let apart = other_number g hart f in
      let above : suc hart ≤ g = over apart in
      in_second (read_in counts hart (slice_get page (at + hart))) (reads_in counts page at (suc hart) n) x
      (reads_have counts page at (suc hart) n g x above (omega arith) i)
]
  where
    over : g ≢ hart → suc hart ≤ g
    over apart = omega (arith, apart, low)

here_is : (counts : ℕ → ℕ → ℕ) (hart : ℕ) (o : Option Slot) (x : Kept) → In (read_in counts hart o) x → (x.hart ≡ hart) × (is_write x.mode ≡ false)
here_is counts hart None x i = absurd i
here_is counts hart (Some s) x i = go (s.after == 0) i
  where
    go : (z : Bool) → In (cond z [] (kept_by counts Read hart s.turn s.after s.epoch ∷ [])) x → (x.hart ≡ hart) × (is_write x.mode ≡ false)
    go true j = absurd j
    go false (inl e) = (sym (ap (λ (y : Kept). y.hart) e), sym (ap (λ (y : Kept). is_write y.mode) e))
    go false (inr j) = absurd j

first_is : (counts : ℕ → ℕ → ℕ) (o : Option Slot) (x : Kept) → In (write_in counts o) x → is_write x.mode ≡ true
first_is counts None x i = absurd i
first_is counts (Some s) x i = go (s.after == 0) i
  where
    go : (z : Bool) → In (cond z [] (kept_by counts Write s.hart s.turn s.after s.epoch ∷ [])) x → is_write x.mode ≡ true
    go true j = absurd j
    go false (inl e) = sym (ap (λ (y : Kept). is_write y.mode) e)
    go false (inr j) = absurd j

write_stays : (hart : ℕ) (x : Kept) → is_write x.mode ≡ true → stays hart false x ≡ true
write_stays hart x e = rw e refl

other_stays : (hart g : ℕ) (x : Kept) → x.hart ≡ g → g ≢ hart → stays hart false x ≡ true
other_stays hart g x e apart =
    let f : (x.hart == hart) ≡ false = not_equal x.hart hart (λ h. apart (sym e ∙ h)) in
    rw f (last (is_write x.mode))
  where
    not_equal : (a b : ℕ) → a ≢ b → (a == b) ≡ false
    not_equal a b h = elim (known (a == b)) [ inl t ↦ absurd (h (same_number a b t)) | inr f ↦ f ]

    last : (w : Bool) → (true && (w || true)) ≡ true
    last true = refl
    last false = refl

own_goes : (hart : ℕ) (x : Kept) → x.hart ≡ hart → is_write x.mode ≡ false → stays hart false x ≡ true → ⊥
own_goes hart x same read t =
    let e : (x.hart == hart) ≡ true = grind arith in
    none (rw (e, read) at t)
  where
    none : (true && (false || false)) ≡ true → ⊥
    none h = cc

pub replaces_read : (counts : ℕ → ℕ → ℕ) (harts : ℕ) (old new : List Slot) (at : ℕ) (slot : Slot) → 0 < slot.after → slot.hart < harts
    → slice_get new (at + 1 + slot.hart) ≡ Some slot
    → ((j : ℕ) → j ≢ at + 1 + slot.hart → slice_get new j ≡ slice_get old j)
    → Replaces (kept_by counts Read slot.hart slot.turn slot.after slot.epoch) (word_in counts harts old at) (word_in counts harts new at)
replaces_read counts harts old new at slot more low own others = record { last = last; stay = stay; only = only }
  where
    k : Kept
    k = kept_by counts Read slot.hart slot.turn slot.after slot.epoch

    here : (o : Option Slot) → o ≡ Some slot → read_in counts slot.hart o ≡ k ∷ []
    here o e = let t : (slot.after == 0) ≡ false = grind arith in rw e (rw t refl)

    first_same : write_in counts (slice_get new at) ≡ write_in counts (slice_get old at)
    first_same = ap (write_in counts) (others at (λ e. omega (arith, e)))

    read_same : (g : ℕ) → g ≢ slot.hart → read_in counts g (slice_get new (at + 1 + g)) ≡ read_in counts g (slice_get old (at + 1 + g))
    read_same g apart = ap (read_in counts g) (others (at + 1 + g) (λ e. apart (omega (arith, e))))

    last : In (word_in counts harts new at) k
    last =
        in_second (write_in counts (slice_get new at)) (reads_in counts new (at + 1) 0 harts) k
        (reads_have counts new (at + 1) 0 harts slot.hart k (omega arith) (omega (arith, low)) (subst (λ ks. In ks k) (sym (here (slice_get new (at + 1 + slot.hart)) own)) (inl refl)))

    stay : (x : Kept) → In (word_in counts harts old at) x → stays slot.hart false x ≡ true → In (word_in counts harts new at) x
    stay x i t = elim (in_either (write_in counts (slice_get old at)) (reads_in counts old (at + 1) 0 harts) x i) [
      | inl j ↦ in_first (write_in counts (slice_get new at)) (reads_in counts new (at + 1) 0 harts) x (subst (λ ks. In ks x) (sym first_same) j)
      | inr j ↦
          let r = in_reads counts old (at + 1) 0 harts x j in
          let is = here_is counts r.0 (slice_get old (at + 1 + r.0)) x r.3 in
          let apart : r.0 ≢ slot.hart = λ e. own_goes slot.hart x (is.0 ∙ e) is.1 t in
          in_second (write_in counts (slice_get new at)) (reads_in counts new (at + 1) 0 harts) x
          (reads_have counts new (at + 1) 0 harts r.0 x r.1 r.2 (subst (λ ks. In ks x) (sym (read_same r.0 apart)) r.3))
    ]

    only : (x : Kept) → In (word_in counts harts new at) x → (In (word_in counts harts old at) x × (stays slot.hart false x ≡ true)) ⊎ (k ≡ x)
    only x i = elim (in_either (write_in counts (slice_get new at)) (reads_in counts new (at + 1) 0 harts) x i) [
      | inl j ↦ inl (
        in_first (write_in counts (slice_get old at)) (reads_in counts old (at + 1) 0 harts) x (subst (λ ks. In ks x) first_same j),
        write_stays slot.hart x (first_is counts (slice_get new at) x j),
      )
      | inr j ↦
          let r = in_reads counts new (at + 1) 0 harts x j in
          elim (known (r.0 == slot.hart)) [
            | inl t ↦
                let e = same_number r.0 slot.hart t in
                let own_in : In (k ∷ []) x = subst (λ ks. In ks x) (here (slice_get new (at + 1 + slot.hart)) own) (subst (λ g. In (read_in counts g (slice_get new (at + 1 + g))) x) e r.3) in
                one x own_in
            | inr f ↦
                let apart = other_number r.0 slot.hart f in
                inl (
                  in_second (write_in counts (slice_get old at)) (reads_in counts old (at + 1) 0 harts) x
                      (reads_have counts old (at + 1) 0 harts r.0 x r.1 r.2 (subst (λ ks. In ks x) (read_same r.0 apart) r.3)),
                  other_stays slot.hart r.0 x (here_is counts r.0 (slice_get new (at + 1 + r.0)) x r.3).0 apart,
                )
          ]
    ]
      where
        one : (x : Kept) → In (k ∷ []) x → (In (word_in counts harts old at) x × (stays slot.hart false x ≡ true)) ⊎ (k ≡ x)
        one x (inl e) = inr e
        one x (inr i) = absurd i

-- ---- epochs that are pinned

pub settled_set : (table : List Epoch) (next : ℕ) (page : List Slot) (i : ℕ) (slot : Slot) → IsTrue (is_settled table next slot.epoch)
    → IsSettledPage table next page → IsSettledPage table next (slice_set page i slot)
settled_set table next [] i slot own all at s e = all at s e
settled_set table next (x ∷ xs) zero slot own all zero s e = subst (λ (y : Slot). IsTrue (is_settled table next y.epoch)) (some_is e) own
  where
    some_is : {a b : Slot} → ◌≡◌ {A = Option Slot} (Some a) (Some b) → a ≡ b
    some_is h = cc
settled_set table next (x ∷ xs) zero slot own all (suc at) s e = all (suc at) s e
settled_set table next (x ∷ xs) (suc i) slot own all zero s e = all zero s e
settled_set table next (x ∷ xs) (suc i) slot own all (suc at) s e = settled_set table next xs i slot own (λ a. all (suc a)) at s e

-- ---- epochs that continue

here_counts : (counts news : ℕ → ℕ → ℕ) (mode : Mode) (hart : ℕ) (s : Slot) → news s.epoch ≡ counts s.epoch → kept_here news mode hart s ≡ kept_here counts mode hart s
here_counts counts news mode hart s e =
    ap (λ (f : ℕ → ℕ). cond (s.after == 0) [] (record { turn = s.turn; hart = hart; ic = s.after - 1; mode = mode; times = counts_past f hart s.after } ∷ [])) e

reads_counts : (counts news : ℕ → ℕ → ℕ) (page : List Slot) → ((j : ℕ) (s : Slot) → slice_get page j ≡ Some s → news s.epoch ≡ counts s.epoch)
    → (at hart n : ℕ) → reads_in news page at hart n ≡ reads_in counts page at hart n
reads_counts counts news page same at hart zero = refl
reads_counts counts news page same at hart (suc n) =
    ap₂ (λ xs ys. xs ++ ys) (go (slice_get page (at + hart)) refl) (reads_counts counts news page same at (suc hart) n)
  where
    go : (o : Option Slot) → slice_get page (at + hart) ≡ o → read_in news hart o ≡ read_in counts hart o
    go None e = refl
    go (Some s) e = here_counts counts news Read hart s (same (at + hart) s e)

pub word_counts : (counts news : ℕ → ℕ → ℕ) (harts : ℕ) (page : List Slot) (at : ℕ)
    → ((j : ℕ) (s : Slot) → slice_get page j ≡ Some s → news s.epoch ≡ counts s.epoch) → word_in news harts page at ≡ word_in counts harts page at
word_counts counts news harts page at same = ap₂ (λ xs ys. xs ++ ys) (go (slice_get page at) refl) (reads_counts counts news page same (at + 1) 0 harts)
  where
    go : (o : Option Slot) → slice_get page at ≡ o → write_in news o ≡ write_in counts o
    go None e = refl
    go (Some s) e = here_counts counts news Write s.hart s (same at s e)

-- ---- the places of words' slots

pub places_apart : (a b n : ℕ) → a < b → a * (n + 1) + n < b * (n + 1)
places_apart a b n low =
    let m = mul-le (a + 1) (n + 1) b (n + 1) (omega arith) (omega arith) in
    let d = add-mul a 1 (n + 1) in
    omega (arith, m, d)
