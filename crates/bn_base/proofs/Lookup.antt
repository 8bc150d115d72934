-- The part that an address is in, among parts without a common word.
use Rattle.std.proofs.Common.{arith, ◌≡◌, ◌≤◌, ◌<◌, ◌+◌, ◌-◌, ◌*◌, ◌/◌, ◌%◌, ℕ, zero, suc, Bool, true, false, List, [], ◌∷◌, length, slice_index_or, refl, sym, ap, subst, inl, inr, ◌∙◌, ◌⊎◌, max, leb, leb-true, leb-false}
use Rattle.std.specs.List.Sorted.{IsNonDecreasingBy, IsPartitionPoint}
use Rattle.std.proofs.lemmas.Bool.{cases_lt}
use Rattle.std.proofs.Math.Nat.{eq-or-lt_of_le}
use Rattle.std.specs.Prelude.{◌&&◌, Some, None}
use Rattle.bn_base.specs.Programs.{Part, Program, AreApart, end_of, is_in, part_or, part_at, highest_end, is_writable, read_only_end, may_load, may_store}

pub out_low : (p : Part) (a : ℕ) → a < p.first → is_in p a ≡ false
out_low p a h = grind arith

pub out_high : (p : Part) (a : ℕ) → end_of p ≤ a → is_in p a ≡ false
out_high p a h = grind arith

pub in_low : (p : Part) (a : ℕ) → is_in p a ≡ true → p.first ≤ a
in_low p a h = grind arith

-- every part begins at the low bound or later
pub first_from : (low high : ℕ) (ps : List Part) (k : ℕ) (d : Part) → AreApart low high ps → k < length ps → low ≤ (slice_index_or ps k d).first
first_from low high [] k d h below = grind arith
first_from low high (p ∷ ps) zero d h below = h.0
first_from low high (p ∷ ps) (suc k) d h below =
    let later = first_from (end_of p) high ps k d h.1 (omega (arith, below)) in omega (arith, later, h.0)

-- a part ends before the next one begins
pub ends_before : (low high : ℕ) (ps : List Part) (j k : ℕ) (d : Part) → AreApart low high ps → j < k → k < length ps → end_of (slice_index_or ps j d) ≤ (slice_index_or ps k d).first
ends_before low high [] j k d h order below = grind arith
ends_before low high (p ∷ ps) j zero d h order below = grind arith
ends_before low high (p ∷ ps) zero (suc k) d h order below = first_from (end_of p) high ps k d h.1 (omega (arith, below))
ends_before low high (p ∷ ps) (suc j) (suc k) d h order below = ends_before (end_of p) high ps j k d h.1 (omega (arith, order)) (omega (arith, below))

abbrev pub some_part : Part
some_part = record { first = 0; words = []; count = 0; executable = false; writable = false }

pub part_at-in : (p : Part) (ps : List Part) (a : ℕ) → is_in p a ≡ true → part_at (p ∷ ps) a ≡ Some p
part_at-in p ps a h = ap (λ t. part_or t p (part_at ps a)) h

pub part_at-out : (p : Part) (ps : List Part) (a : ℕ) → is_in p a ≡ false → part_at (p ∷ ps) a ≡ part_at ps a
part_at-out p ps a h = ap (λ t. part_or t p (part_at ps a)) h

-- the part that has the address is the one that is found
pub part_at-found : (low high : ℕ) (ps : List Part) (k a : ℕ) (d : Part) → AreApart low high ps → k < length ps → is_in (slice_index_or ps k d) a ≡ true → part_at ps a ≡ Some (slice_index_or ps k d)
part_at-found low high [] k a d h below has = grind arith
part_at-found low high (p ∷ ps) zero a d h below has = part_at-in p ps a has
part_at-found low high (p ∷ ps) (suc k) a d h below has =
    let b : k < length ps = omega (arith, below) in
    let far = first_from (end_of p) high ps k d h.1 b in
    let out = out_high p a (omega (arith, far, in_low (slice_index_or ps k d) a has)) in
    part_at-out p ps a out ∙ part_at-found (end_of p) high ps k a d h.1 b has

-- no part is found at an address that is in none
pub part_at-missing : (ps : List Part) (a : ℕ) (d : Part) → ((k : ℕ) → k < length ps → is_in (slice_index_or ps k d) a ≡ false) → part_at ps a ≡ None
part_at-missing [] a d out = refl
part_at-missing (p ∷ ps) a d out =
    part_at-out p ps a (out 0 (omega arith)) ∙ part_at-missing ps a d (λ k below. out (suc k) (omega (arith, below)))

-- a part before another begins no later
pub first_below : (low high : ℕ) (ps : List Part) (i j : ℕ) (d : Part) → AreApart low high ps → (i < j) ⊎ (j ≤ i) → i ≤ j → j < length ps
    → (slice_index_or ps i d).first ≤ (slice_index_or ps j d).first
first_below low high ps i j d h (inl less) order below = let e = ends_before low high ps i j d h less below in omega (arith, e)
first_below low high ps i j d h (inr more) order below =
    let e : i ≡ j = omega (arith, more, order) in
    subst (λ (k : ℕ). (slice_index_or ps i d).first ≤ (slice_index_or ps k d).first) e (omega arith)

pub outside_before : (low high : ℕ) (ps : List Part) (a n k : ℕ) (d : Part) → AreApart low high ps → n ≤ length ps
    → ((k : ℕ) (d : Part) → k < n → (slice_index_or ps k d).first ≤ a)
    → ((d : Part) → 0 < n → is_in (slice_index_or ps (n - 1) d) a ≡ false)
    → k < n → (k ≡ n - 1) ⊎ (k < n - 1) → is_in (slice_index_or ps k d) a ≡ false
outside_before low high ps a n k d h within before last under (inl same) =
    subst (λ (m : ℕ). is_in (slice_index_or ps m d) a ≡ false) (sym same) (last d (omega (arith, under)))
outside_before low high ps a n k d h within before last under (inr less) =
    let e = ends_before low high ps k (n - 1) d h less (omega (arith, within, under)) in
    let f = before (n - 1) d (omega (arith, under)) in
    out_high (slice_index_or ps k d) a (omega (arith, e, f))

pub outside : (low high : ℕ) (ps : List Part) (a n k : ℕ) (d : Part) → AreApart low high ps → n ≤ length ps
    → ((k : ℕ) (d : Part) → k < n → (slice_index_or ps k d).first ≤ a)
    → ((k : ℕ) (d : Part) → n ≤ k → k < length ps → a < (slice_index_or ps k d).first)
    → ((d : Part) → 0 < n → is_in (slice_index_or ps (n - 1) d) a ≡ false)
    → k < length ps → (k < n) ⊎ (n ≤ k) → is_in (slice_index_or ps k d) a ≡ false
outside low high ps a n k d h within before after last below (inl under) =
    outside_before low high ps a n k d h within before last under (eq-or-lt_of_le (omega (arith, under)))
outside low high ps a n k d h within before after last below (inr over) = out_low (slice_index_or ps k d) a (after k d over below)

-- the first addresses rise
pub firsts_rise : (low high : ℕ) (ps : List Part) → AreApart low high ps → IsNonDecreasingBy (λ p. p.first) ps
firsts_rise low high ps h i j d order below = first_below low high ps i j d h (cases_lt i j) order below

-- no part from the partition point on has the address, and of those before it only the last may have it
pub part_at-none : (low high : ℕ) (ps : List Part) (a n : ℕ) → AreApart low high ps → n ≤ length ps
    → ((k : ℕ) (d : Part) → k < n → (slice_index_or ps k d).first ≤ a)
    → ((k : ℕ) (d : Part) → n ≤ k → k < length ps → a < (slice_index_or ps k d).first)
    → ((d : Part) → 0 < n → is_in (slice_index_or ps (n - 1) d) a ≡ false)
    → part_at ps a ≡ None
part_at-none low high ps a n h within before after last =
    part_at-missing ps a some_part (λ k below. outside low high ps a n k some_part h within before after last below (cases_lt k n))

-- the same of what a partition point says
pub part_at-none_at : (low high : ℕ) (ps : List Part) (a n : ℕ) → AreApart low high ps → n ≤ length ps
    → IsPartitionPoint (λ p. leb p.first a ≡ true) (λ p. leb p.first a ≡ false) ps n
    → ((d : Part) → 0 < n → is_in (slice_index_or ps (n - 1) d) a ≡ false)
    → part_at ps a ≡ None
part_at-none_at low high ps a n h within point last =
    part_at-none low high ps a n h within (λ k d under. leb-true _ _ (point.0 k d (omega arith) under)) (λ k d over below. leb-false _ _ (point.1 k d over below)) last

-- the highest end is that of the last part, which is in the bounds
pub highest_end-last : (low high : ℕ) (ps : List Part) (k : ℕ) (d : Part) → AreApart low high ps → k + 1 ≡ length ps
    → (highest_end ps ≡ end_of (slice_index_or ps k d)) × (low ≤ highest_end ps) × (highest_end ps ≤ high)
highest_end-last low high [] k d h e = grind arith
highest_end-last low high (p ∷ []) zero d h e = (omega arith, omega (arith, h.0), omega (arith, h.1))
highest_end-last low high (p ∷ []) (suc k) d h e = grind arith
highest_end-last low high (p ∷ q ∷ ps) zero d h e = grind arith
highest_end-last low high (p ∷ q ∷ ps) (suc k) d h e =
    let later = highest_end-last (end_of p) high (q ∷ ps) k d h.1 (omega (arith, e)) in
    let top : highest_end (p ∷ q ∷ ps) ≡ highest_end (q ∷ ps) = omega (arith, later.1) in
    (top ∙ later.0, omega (arith, top, later.1, h.0), omega (arith, top, later.2))

pub highest_end_bound : (low high : ℕ) (ps : List Part) → AreApart low high ps → highest_end ps ≤ high
highest_end_bound low high [] h = omega arith
highest_end_bound low high (p ∷ ps) h = (highest_end-last low high (p ∷ ps) (length ps) p h (omega arith)).2

-- an end that is rounded up to a page is still within memory
pub rounded : (end memory : ℕ) → end ≤ memory → memory % 4096 ≡ 0 → (end + 4095) / 4096 * 4096 ≤ memory
rounded end memory h pages = grind arith

pub below_last : (n length_of : ℕ) → (n ≡ 0 → ⊥) → n ≤ length_of → n - 1 < length_of
below_last n length_of some h = omega (arith, some, h)

-- an element within a list is the same whatever is given for those past its end
pub at_any : (ps : List Part) (k a : ℕ) (b : Bool) (p d : Part) → p ≡ slice_index_or ps k p → k < length ps → is_in p a ≡ b → is_in (slice_index_or ps k d) a ≡ b
at_any [] k a b p d e below h = grind arith
at_any (q ∷ ps) zero a b p d e below h = subst (λ (x : Part). is_in x a ≡ b) e h
at_any (q ∷ ps) (suc k) a b p d e below h = at_any ps k a b p d e (omega (arith, below)) h

-- no read-only part has an address past the end of the last one
writable_here : (p : Part) (ps : List Part) (a : ℕ) (here w : Bool) → is_in p a ≡ here → p.writable ≡ w → read_only_end (p ∷ ps) ≤ a
    → (read_only_end ps ≤ a → is_writable (part_at ps a) ≡ true) → is_writable (part_at (p ∷ ps) a) ≡ true
writable_here p ps a true true here w from later = ap is_writable (part_at-in p ps a here) ∙ w
writable_here p ps a true false here w from later = grind arith
writable_here p ps a false true here w from later = ap is_writable (part_at-out p ps a here) ∙ later (rw w at from)
writable_here p ps a false false here w from later = ap is_writable (part_at-out p ps a here) ∙ later (let f : max (end_of p) (read_only_end ps) ≤ a = rw w at from in omega (arith, f))

pub writable_past : (ps : List Part) (a : ℕ) → read_only_end ps ≤ a → is_writable (part_at ps a) ≡ true
writable_past [] a from = refl
writable_past (p ∷ ps) a from = writable_here p ps a (is_in p a) p.writable refl refl from (writable_past ps a)

-- so a mapped address past it may be stored to
pub stored_past : (i : Program) (a : ℕ) → may_load i a ≡ true → read_only_end i.parts ≤ a → may_store i a ≡ true
stored_past i a mapped past = ap (λ (b : Bool). b && is_writable (part_at i.parts a)) mapped ∙ writable_past i.parts a past

pub is_leb : (m n : ℕ) → m ≤ n → leb m n ≡ true
is_leb m n h = grind arith
