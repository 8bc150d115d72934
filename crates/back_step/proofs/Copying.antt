-- At which positions there are copies.
use Rattle.back_step.proofs.Common.{◌≡◌, ℕ, zero, suc, ◌+◌, ◌-◌, ◌*◌, ◌/◌, ◌%◌, ◌<◌, ◌≤◌, Bool, true, false, refl, sym, ap, ◌∙◌, subst, arith, inl, inr, ◌⊎◌, List, [], ◌∷◌, ◌++◌, length, take, drop, slice_get, Some, None, add-mul, one-mul, mul-le-mul_right, ◌==◌, ◌&&◌, ◌≢◌, div-add-mod', length-append, length-take-le, take-append-drop, take-append-le, take-take, take_all, drop-take, eq-eqb, cases_lt, cases_eq, Joining, Entry, LeadsBy, CanTake, with_copy, HasCopies, IsTrail, false≢true, same_Some, slice_get_within}
use Rattle.std.proofs.lemmas.Nat.{div-mul-add, mod-mul-add, mod_below, div_below, le-div}
use Rattle.std.proofs.lemmas.Bool.Decides.{eqb_tells}
use Rattle.back_step.proofs.Leading.{leads_append, leads_split, one_end, calm_after}

-- ---- quotients

-- a multiple at a number's quotient isn't above the number
pub multiple_low : (every p : ℕ) → p / every * every ≤ p
multiple_low every p = omega (arith, div-add-mod' p every)

pub past_is : (every p : ℕ) → p - p % every ≡ p / every * every
past_is every p = omega (arith, div-add-mod' p every)

-- one position further
pub next_many : (every p n : ℕ) → 0 < every → n ≡ p / every + 1 → HasCopies every (p + 1) n
next_many every p n some is = by (cases_lt (p % every + 1) every)
  where
    whole : p / every * every + p % every ≡ p
    whole = div-add-mod' p every

    by : (p % every + 1 < every) ⊎ (every ≤ p % every + 1) → HasCopies every (p + 1) n
    by (inl less) =
        let at : p / every * every + (p % every + 1) ≡ p + 1 = omega (arith, whole) in
        let same : (p + 1) / every ≡ p / every = ap (λ k. k / every) (sym at) ∙ div-mul-add (p / every) every (p % every + 1) less in
        inl (omega (arith, is, same))
    by (inr more) =
        let low : p % every < every = mod_below p every some in
        let full : p % every + 1 ≡ every = omega (arith, more, low) in
        let sum : (p / every + 1) * every ≡ p / every * every + every = add-mul (p / every) 1 every ∙ ap (λ k. p / every * every + k) (one-mul every) in
        let at : (p / every + 1) * every + 0 ≡ p + 1 = omega (arith, whole, full, sum) in
        let above : (p + 1) / every ≡ p / every + 1 = ap (λ k. k / every) (sym at) ∙ div-mul-add (p / every + 1) every 0 some in
        inr (omega (arith, is, above), ap (λ k. k % every) (sym at) ∙ mod-mul-add (p / every + 1) every 0 some)

-- ---- a copy before a step

abbrev pub is_due : ℕ → ℕ → ℕ → Bool
is_due every p n = p % every == 0 && (p / every == n)

unequal : (a b : ℕ) → (a ≡ b + 1) → (b == a) ≡ false
unequal a b e = elim (eqb_tells b a) [ inl q ↦ absurd (omega (arith, e, q.1)) | inr q ↦ q.0 ]

not_due : (every p n : ℕ) → n ≡ p / every + 1 → is_due every p n ≡ false
not_due every p n e = by (p % every == 0) (p / every == n) (unequal n (p / every) e)
  where
    by : (a b : Bool) → b ≡ false → (a && b) ≡ false
    by true b f = f
    by false b f = refl

pub due_there : (every p n : ℕ) → n ≡ p / every → p % every ≡ 0 → is_due every p n ≡ true
due_there every p n e z =
    ap (λ (b : Bool). b && (p / every == n)) (eq-eqb (p % every) 0 z) ∙ eq-eqb (p / every) n (sym e)

-- of which position the copy is due
pub due_tells : (every p n : ℕ) → HasCopies every p n → is_due every p n ≡ true → (n ≡ p / every) × (p % every ≡ 0)
due_tells every p n (inl e) d = absurd (false≢true (sym (not_due every p n e) ∙ d))
due_tells every p n (inr e) d = e

-- there is one more, unless it was there
pub many_after : (every p n : ℕ) (j : Joining) (copies : List Joining) (due : Bool) → length copies ≡ n → due ≡ is_due every p n → HasCopies every p n → length (with_copy due j copies) ≡ p / every + 1
many_after every p n j copies due size d (inl e) = ap (λ (b : Bool). length (with_copy b j copies)) (d ∙ not_due every p n e) ∙ size ∙ e
many_after every p n j copies due size d (inr e) =
    ap (λ (b : Bool). length (with_copy b j copies)) (d ∙ due_there every p n e.0 e.1) ∙ length-append copies (j ∷ []) ∙ ap (λ k. k + 1) (size ∙ e.0)

-- ---- their places

abbrev pub AreCopies : ℕ → Joining → List Entry → List Joining → Type 0
AreCopies every start entries copies = (i : ℕ) (c : Joining) → slice_get copies i ≡ Some c → LeadsBy start (take (i * every) entries) c

-- of one more, it is the last
last_or : (cs : List Joining) (j : Joining) (i : ℕ) (c : Joining) → slice_get (cs ++ j ∷ []) i ≡ Some c → (slice_get cs i ≡ Some c) ⊎ ((i ≡ length cs) × (j ≡ c))
last_or [] j zero c e = inr (refl, same_Some j c e)
last_or [] j (suc i) c e = absurd cc
last_or (x ∷ cs) j zero c e = inl e
last_or (x ∷ cs) j (suc i) c e = elim (last_or cs j i c e) [ inl f ↦ inl f | inr f ↦ inr (let g = f.0 in omega (arith, g), f.1) ]

-- with the copy that is due
pub copies_kept : (every : ℕ) (start : Joining) (entries : List Entry) (now : Joining) (copies : List Joining) (due : Bool) → IsTrail every start entries now copies → due ≡ is_due every (length entries) (length copies)
    → AreCopies every start entries (with_copy due now copies)
copies_kept every start entries now copies false t d i c e = t.copied i c e
copies_kept every start entries now copies true t d i c e = by (last_or copies now i c e)
  where
    here : (length copies ≡ length entries / every) × (length entries % every ≡ 0)
    here = due_tells every (length entries) (length copies) t.many (sym d)

    calm : (now.refused ≡ None) ⊎ (length copies ≡ length entries / every + 1) → now.refused ≡ None
    calm (inl none) = none
    calm (inr more) = absurd (omega (arith, more, here.0))

    by : (slice_get copies i ≡ Some c) ⊎ ((i ≡ length copies) × (now ≡ c)) → LeadsBy start (take (i * every) entries) c
    by (inl f) = t.copied i c f
    by (inr f) =
        let size : i * every ≡ length entries / every * every = ap (λ k. k * every) (f.0 ∙ here.0) in
        let at : length entries ≤ i * every = omega (arith, size, div-add-mod' (length entries) every, here.1) in
        subst (λ (es : List Entry). LeadsBy start es c) (sym (take_all (i * every) entries at)) (subst (λ (k : Joining). LeadsBy start entries k) (sym (t.stands.whole (calm t.tried)) ∙ f.1) t.led)

-- with one entry more
pub copies_longer : (every : ℕ) (start : Joining) (entries : List Entry) (e : Entry) (copies : List Joining) → length copies ≡ length entries / every + 1 → AreCopies every start entries copies → AreCopies every start (entries ++ e ∷ []) copies
copies_longer every start entries e copies size are i c at =
    let low : i ≤ length entries / every = omega (arith, slice_get_within copies i c at, size) in
    let under : i * every ≤ length entries = omega (arith, mul-le-mul_right every low, multiple_low every (length entries)) in
    subst (λ (es : List Entry). LeadsBy start es c) (sym (take-append-le (i * every) entries (e ∷ []) under)) (are i c at)

front_at : (cs : List Joining) (n i : ℕ) (c : Joining) → slice_get (take n cs) i ≡ Some c → (slice_get cs i ≡ Some c) × (i < n)
front_at cs zero i c e = absurd cc
front_at [] (suc n) i c e = absurd cc
front_at (x ∷ cs) (suc n) zero c e = (e, omega arith)
front_at (x ∷ cs) (suc n) (suc i) c e = let r = front_at cs n i c e in (r.0, let low = r.1 in omega (arith, low))

-- of fewer entries, with those that aren't after them
pub copies_cut : (every : ℕ) (start : Joining) (entries : List Entry) (to : ℕ) (copies : List Joining) → AreCopies every start entries copies → AreCopies every start (take to entries) (take (to / every + 1) copies)
copies_cut every start entries to copies are i c at =
    let f = front_at copies (to / every + 1) i c at in
    let low : i ≤ to / every = let l = f.1 in omega (arith, l) in
    let under : i * every ≤ to = omega (arith, mul-le-mul_right every low, multiple_low every to) in
    subst (λ (es : List Entry). LeadsBy start es c) (sym (take-take (i * every) to entries under)) (are i c f.0)

-- ---- the latest copy

-- it is there, unless it is that of the position itself and still to be made
pub latest_there : (every p n to : ℕ) → 0 < every → to ≤ p → HasCopies every p n → (to ≡ p → is_due every p n ≡ true → ⊥) → to / every < n
latest_there every p n to some low (inl e) other =
    let under : to / every ≤ p / every = le-div (to / every) p every some (omega (arith, multiple_low every to, low)) in omega (arith, under, e)
latest_there every p n to some low (inr e) other =
    let full : p / every * every ≡ p = let z = e.1 in omega (arith, div-add-mod' p every, z) in
    let apart : to < p = by (cases_eq to p) in
    let size : to < n * every = subst (λ k. to < k) (sym (ap (λ k. k * every) e.0 ∙ full)) apart in
    div_below to every n some size
  where
    by : (to ≡ p) ⊎ (to ≢ p) → to < p
    by (inl same) = absurd (other same (due_there every p n e.0 e.1))
    by (inr apart) = omega (arith, apart, low)

-- the entries from it on
abbrev pub steps_from : ℕ → List Entry → ℕ → List Entry
steps_from every entries to = take (to - to / every * every) (drop (to / every * every) entries)

-- the same, by the number of steps past it, of entries passed by reference
pub steps_lent : (every : ℕ) (entries lent : List Entry) (to : ℕ) → lent ≡ entries → take (to - (to - to % every)) (drop (to - to % every) lent) ≡ steps_from every entries to
steps_lent every entries lent to e =
    ap (λ (es : List Entry). take (to - (to - to % every)) (drop (to - to % every) es)) e ∙ ap (λ a. take (to - a) (drop a entries)) (past_is every to)

steps_are : (every : ℕ) (entries : List Entry) (to : ℕ) → take (to / every * every) entries ++ steps_from every entries to ≡ take to entries
steps_are every entries to =
    let a : ℕ = to / every * every in
    let low : a ≤ to = multiple_low every to in
    let sum : a + (to - a) ≡ to = omega (arith, low) in
    ap (λ (es : List Entry). es ++ take (to - a) (drop a entries)) (sym (take-take a to entries low))
    ∙ ap (λ (es : List Entry). take a (take to entries) ++ es) (sym (drop-take a (to - a) entries) ∙ ap (λ k. drop a (take k entries)) sum)
    ∙ take-append-drop a (take to entries)

module _ (every : ℕ) (start : Joining) (entries : List Entry) (now : Joining) (copies : List Joining) (t : IsTrail every start entries now copies) (to : ℕ) (low : to ≤ length entries)
    (copy : Joining) (at : slice_get copies (to / every) ≡ Some copy) where
  -- they lead on from it
  pub can_take : CanTake copy (steps_from every entries to)
  can_take =
      let front = leads_split start t.there (take to entries) (drop to entries) (subst (λ (es : List Entry). LeadsBy start es t.there) (sym (take-append-drop to entries)) t.led) in
      let parts = leads_split start front.0 (take (to / every * every) entries) (steps_from every entries to) (subst (λ (es : List Entry). LeadsBy start es front.0) (sym (steps_are every entries to)) front.1) in
      (front.0, subst (λ (j : Joining). LeadsBy j (steps_from every entries to) front.0) (one_end start parts.0 copy (take (to / every * every) entries) parts.1 (t.copied (to / every) copy at)) parts.2)

  module _ (joint : Joining) (led : LeadsBy copy (steps_from every entries to) joint) where
    -- to the position
    pub led_there : LeadsBy start (take to entries) joint
    led_there = subst (λ (es : List Entry). LeadsBy start es joint) (steps_are every entries to) (leads_append start copy joint (take (to / every * every) entries) (steps_from every entries to) (t.copied (to / every) copy at) led)

    pub trail_there : IsTrail every start (take to entries) joint (take (to / every + 1) copies)
    trail_there =
        let there : to / every < length copies = slice_get_within copies (to / every) copy at in
        let size : length (take (to / every + 1) copies) ≡ to / every + 1 = length-take-le (to / every + 1) copies (omega (arith, there)) in
        record {
          some = t.some;
          calm = t.calm;
          there = joint;
          led = led_there;
          stands = record { program = refl; records = refl; lanes = refl; memory = refl; whole = λ none. refl };
          copied = copies_cut every start entries to copies t.copied;
          many = inl (size ∙ ap (λ k. k / every + 1) (sym (length-take-le to entries low)));
          tried = inl (calm_after start joint (take to entries) t.calm led_there);
        }
