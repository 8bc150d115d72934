-- Read-only parts and the bytes of a range.
use Rattle.std.proofs.Common.{arith, ◌≡◌, ◌≤◌, ◌<◌, ◌+◌, ℕ, zero, suc, Bool, true, false, List, [], ◌∷◌, length, slice_index_or, refl, sym, ap, subst, ◌∙◌, ◌⊎◌, inl, inr, max, leb, leb-true, leb-false}
use Rattle.std.specs.List.Sorted.{IsNonDecreasingBy, IsPartitionPoint}
use Rattle.std.proofs.lemmas.Bool.{cases_lt}
use Rattle.std.proofs.lemmas.List.{get_or_default}
use Rattle.std.proofs.Math.Nat.{eq-or-lt_of_le}
use Rattle.std.specs.Prelude.{Some}
use Rattle.bn_base.specs.Programs.{Part, AreApart, end_of, is_in, is_writable, part_or, part_at}
use Rattle.system_calls.specs.Calls.{all_bytes}
use Rattle.system_calls.proofs.Bytes.{all_true, all_false}

-- of the first n parts, each that has a byte from one address to before another is writable
abbrev pub WritableBelow : List Part → ℕ → ℕ → ℕ → Type 0
WritableBelow ps n from to = (k : ℕ) (d : Part) (b : ℕ) → k < n → from ≤ b → b < to → is_in (slice_index_or ps k d) b ≡ true → (slice_index_or ps k d).writable ≡ true

pub out_low : (p : Part) (a : ℕ) → a < p.first → is_in p a ≡ false
out_low p a h = Prim.grind arith

pub out_high : (p : Part) (a : ℕ) → end_of p ≤ a → is_in p a ≡ false
out_high p a h = Prim.grind arith

pub in_low : (p : Part) (a : ℕ) → is_in p a ≡ true → p.first ≤ a
in_low p a h = Prim.grind arith

pub in_high : (p : Part) (a : ℕ) → is_in p a ≡ true → a < end_of p
in_high p a h = Prim.grind arith

pub is_in-from : (p : Part) (a : ℕ) → p.first ≤ a → a < end_of p → is_in p a ≡ true
is_in-from p a low high = Prim.grind arith

-- every part begins at the low bound or later
pub first_from : (low high : ℕ) (ps : List Part) (k : ℕ) (d : Part) → AreApart low high ps → k < length ps → low ≤ (slice_index_or ps k d).first
first_from low high [] k d h below = Prim.grind arith
first_from low high (p ∷ ps) zero d h below = h.0
first_from low high (p ∷ ps) (suc k) d h below =
    let later = first_from (end_of p) high ps k d h.1 (omega (arith, below)) in omega (arith, later, h.0)

-- a part ends before the next one begins
pub ends_before : (low high : ℕ) (ps : List Part) (j k : ℕ) (d : Part) → AreApart low high ps → j < k → k < length ps → end_of (slice_index_or ps j d) ≤ (slice_index_or ps k d).first
ends_before low high [] j k d h order below = Prim.grind arith
ends_before low high (p ∷ ps) j zero d h order below = Prim.grind arith
ends_before low high (p ∷ ps) zero (suc k) d h order below = first_from (end_of p) high ps k d h.1 (omega (arith, below))
ends_before low high (p ∷ ps) (suc j) (suc k) d h order below = ends_before (end_of p) high ps j k d h.1 (omega (arith, order)) (omega (arith, below))

-- the ends rise
pub ends_rise : (low high : ℕ) (ps : List Part) → AreApart low high ps → IsNonDecreasingBy end_of ps
ends_rise low high ps h i j d order below = by_order (cases_lt i j)
  where
    by_order : (i < j) ⊎ (j ≤ i) → end_of (slice_index_or ps i d) ≤ end_of (slice_index_or ps j d)
    by_order (inl less) = let e = ends_before low high ps i j d h less below in omega (arith, e)
    by_order (inr more) =
        let e : i ≡ j = omega (arith, more, order) in
        subst (λ (k : ℕ). end_of (slice_index_or ps i d) ≤ end_of (slice_index_or ps k d)) e (omega arith)

-- the part that has the address is the one that is found
pub part_at-found : (low high : ℕ) (ps : List Part) (k a : ℕ) (d : Part) → AreApart low high ps → k < length ps → is_in (slice_index_or ps k d) a ≡ true → part_at ps a ≡ Some (slice_index_or ps k d)
part_at-found low high [] k a d h below has = Prim.grind arith
part_at-found low high (p ∷ ps) zero a d h below has = ap (λ t. part_or t p (part_at ps a)) has
part_at-found low high (p ∷ ps) (suc k) a d h below has =
    let b : k < length ps = omega (arith, below) in
    let far = first_from (end_of p) high ps k d h.1 b in
    let out = out_high p a (omega (arith, far, in_low (slice_index_or ps k d) a has)) in
    ap (λ t. part_or t p (part_at ps a)) out ∙ part_at-found (end_of p) high ps k a d h.1 b has

-- if each part that has the address is writable, so is the address
pub writable_at : (ps : List Part) (a : ℕ) → ((k : ℕ) (d : Part) → k < length ps → is_in (slice_index_or ps k d) a ≡ true → (slice_index_or ps k d).writable ≡ true) → is_writable (part_at ps a) ≡ true
writable_at [] a h = refl
writable_at (p ∷ ps) a h =
    either (is_in p a) refl (λ has. h 0 p (omega arith) has) (writable_at ps a (λ k d below has. h (suc k) d (omega (arith, below)) has))
  where
    either : (t : Bool) → is_in p a ≡ t → (is_in p a ≡ true → p.writable ≡ true) → is_writable (part_at ps a) ≡ true → is_writable (part_or (is_in p a) p (part_at ps a)) ≡ true
    either true e here later = ap (λ t. is_writable (part_or t p (part_at ps a))) e ∙ here e
    either false e here later = ap (λ t. is_writable (part_or t p (part_at ps a))) e ∙ later

-- before the partition point no part has a byte of the range
pub none_before : (ps : List Part) (n from to : ℕ) → n ≤ length ps → IsPartitionPoint (λ p. leb (end_of p) from ≡ true) (λ p. leb (end_of p) from ≡ false) ps n → WritableBelow ps n from to
none_before ps n from to within point k d b below low high has =
    let ended = leb-true _ _ (point.0 k d (omega arith) below) in
    absurd (omega (arith, ended, low, in_high (slice_index_or ps k d) b has))

-- if a part begins at the range's end or later, no later one has a byte of it
pub none_after : (low high : ℕ) (ps : List Part) (n from to : ℕ) (p : Part) → AreApart low high ps → n < length ps → p ≡ slice_index_or ps n p → to ≤ p.first → WritableBelow ps n from to → WritableBelow ps (length ps) from to
none_after low high ps n from to p h below is past before k d b under from_b to_b has = by_place (cases_lt k n)
  where
    by_place : (k < n) ⊎ (n ≤ k) → (slice_index_or ps k d).writable ≡ true
    by_place (inl less) = before k d b less from_b to_b has
    by_place (inr more) =
        let e : p.first ≡ (slice_index_or ps n d).first = ap (λ (q : Part). q.first) (is ∙ get_or_default ps n p d below) in
        let order : (slice_index_or ps n d).first ≤ (slice_index_or ps k d).first = rise (eq-or-lt_of_le more) in
        absurd (omega (arith, e, order, past, to_b, in_low (slice_index_or ps k d) b has))
      where
        rise : (n ≡ k) ⊎ (n < k) → (slice_index_or ps n d).first ≤ (slice_index_or ps k d).first
        rise (inl same) = subst (λ (j : ℕ). (slice_index_or ps n d).first ≤ (slice_index_or ps j d).first) same (omega arith)
        rise (inr less) = let f = ends_before low high ps n k d h less under in omega (arith, f)

-- if no read-only part has a byte of the range, all of it is writable
pub range_writable : (ps : List Part) (a n to : ℕ) → to ≡ a + n → WritableBelow ps (length ps) a to → all_bytes (λ b. is_writable (part_at ps b)) a n ≡ true
range_writable ps a n to is all =
    all_true (λ b. is_writable (part_at ps b)) a n (λ b low high. writable_at ps b (λ k d below has. all k d b below low (omega (arith, high, is)) has))

-- a read-only part that has a byte of the range
pub range_read_only : (low high : ℕ) (ps : List Part) (start k a n to : ℕ) (p : Part) → AreApart low high ps → to ≡ a + n → IsPartitionPoint (λ p. leb (end_of p) a ≡ true) (λ p. leb (end_of p) a ≡ false) ps start → start ≤ k → k < length ps → p ≡ slice_index_or ps k p → p.first < to → p.first < end_of p → a < to → p.writable ≡ false → all_bytes (λ b. is_writable (part_at ps b)) a n ≡ false
range_read_only low high ps start k a n to p h is point from below at begins some filled closed =
    let ends : a < end_of p = subst (λ (q : Part). a < end_of q) (sym at) (leb-false _ _ (point.1 k p from below)) in
    let b = max a p.first in
    let has : is_in p b ≡ true = is_in-from p b (omega arith) (omega (arith, ends, some)) in
    let found : part_at ps b ≡ Some p = part_at-found low high ps k b p h below (subst (λ (q : Part). is_in q b ≡ true) at has) ∙ ap (λ (q : Part). Some q) (sym at) in
    all_false (λ b. is_writable (part_at ps b)) a n b (omega arith) (omega (arith, begins, filled, is)) (ap is_writable found ∙ closed)
