-- No two rows of the table fit one word, so the first row that fits is the only one.
use Rattle.rv_decode.proofs.Common.{◌≡◌, ℕ, zero, suc, ◌<◌, Bool, true, false, ◌&&◌, List, [], ◌∷◌, Option, Some, None, refl, sym, ◌∙◌, ap, arith, length, bit_and, ◌==◌, not, slice_index_or, All, AllPairs, IsFalse, false≢true, eqb-true, eq-eqb, and_assoc, and_comm, Row, fits, table, row_in, NoWordFitsBoth}
use Rattle.rv_decode.proofs.Fields.{both}

-- some bit that both rows fix has two values
abbrev pub apart : Row → Row → Bool
apart r s = not (bit_and r.fixed s.mask == bit_and s.fixed r.mask)

abbrev pub apart_from : Row → List Row → Bool
apart_from r [] = true
apart_from r (s ∷ ss) = apart r s && apart_from r ss

abbrev pub all_apart : List Row → Bool
all_apart [] = true
all_apart (r ∷ rs) = apart_from r rs && all_apart rs

-- all pairs of the table, by computation
pub table_apart : all_apart table ≡ true
table_apart = refl

-- a word that fits both rows has the same bits where both fix them
common : (r s : Row) (w : ℕ) → fits r w ≡ true → fits s w ≡ true → bit_and r.fixed s.mask ≡ bit_and s.fixed r.mask
common r s w p q =
    let a : bit_and w r.mask ≡ r.fixed = eqb-true _ _ p in
    let b : bit_and w s.mask ≡ s.fixed = eqb-true _ _ q in
    ap (λ n. bit_and n s.mask) (sym a) ∙ (and_assoc s.mask w r.mask ∙ (ap (bit_and w) (and_comm r.mask s.mask) ∙ (sym (and_assoc r.mask w s.mask) ∙ ap (λ n. bit_and n r.mask) b)))

not_true : (b : Bool) → b ≡ true → not b ≡ true → ⊥
not_true b p q = false≢true (sym (ap not p) ∙ q)

apart_rows : (r s : Row) → apart r s ≡ true → NoWordFitsBoth r s
apart_rows r s h w p q = not_true _ (eq-eqb _ _ (common r s w p q)) h

apart_at : (r : Row) (rs : List Row) (k : ℕ) (d : Row) → apart_from r rs ≡ true → k < length rs → NoWordFitsBoth r (slice_index_or rs k d)
apart_at r [] k d a h = absurd (omega (arith, h))
apart_at r (s ∷ rs) zero d a h = apart_rows r s (both (apart r s) (apart_from r rs) a).0
apart_at r (s ∷ rs) (suc k) d a h = apart_at r rs k d (both (apart r s) (apart_from r rs) a).1 (omega (arith, h))

pairs_apart : (rs : List Row) (i j : ℕ) (d : Row) → all_apart rs ≡ true → i < j → j < length rs → NoWordFitsBoth (slice_index_or rs i d) (slice_index_or rs j d)
pairs_apart [] i j d a h g = absurd (omega (arith, g))
pairs_apart (r ∷ rs) i zero d a h g = absurd (omega (arith, h))
pairs_apart (r ∷ rs) zero (suc j) d a h g = apart_at r rs j d (both (apart_from r rs) (all_apart rs) a).0 (omega (arith, g))
pairs_apart (r ∷ rs) (suc i) (suc j) d a h g = pairs_apart rs i j d (both (apart_from r rs) (all_apart rs) a).1 (omega (arith, h)) (omega (arith, g))

pub table_pairs : AllPairs NoWordFitsBoth table
table_pairs i j d h g = pairs_apart table i j d table_apart h g

-- the first row that fits, at either answer of its test
first_at : (b : Bool) (r : Row) (rs : List Row) (w : ℕ) → fits r w ≡ b → row_in (r ∷ rs) w ≡ elim b as (λ c. Option Row) [ true ↦ Some r | false ↦ row_in rs w ]
first_at b r rs w e = ap (λ c. elim c as (λ x. Option Row) [ true ↦ Some r | false ↦ row_in rs w ]) e

misses : (b : Bool) (r s : Row) (w : ℕ) → NoWordFitsBoth r s → fits r w ≡ b → fits s w ≡ true → fits r w ≡ false
misses true r s w a e f = absurd (a w e f)
misses false r s w a e f = e

-- a row that fits is the one found
only_row : (rs : List Row) (w k : ℕ) (d : Row) → all_apart rs ≡ true → k < length rs → fits (slice_index_or rs k d) w ≡ true → row_in rs w ≡ Some (slice_index_or rs k d)
only_row [] w k d a h f = absurd (omega (arith, h))
only_row (r ∷ rs) w zero d a h f = first_at true r rs w f
only_row (r ∷ rs) w (suc k) d a h f =
    let g : k < length rs = omega (arith, h) in
    let split = both (apart_from r rs) (all_apart rs) a in
    first_at false r rs w (misses (fits r w) r (slice_index_or rs k d) w (apart_at r rs k d split.0 g) refl f) ∙ only_row rs w k d split.1 g f

pub table_row : (w k : ℕ) (d : Row) → k < length table → fits (slice_index_or table k d) w ≡ true → row_in table w ≡ Some (slice_index_or table k d)
table_row w k d h f = only_row table w k d table_apart h f

-- no row is found if and only if none fits
first_none : (b : Bool) (r : Row) (rs : List Row) (w : ℕ) → fits r w ≡ b → row_in (r ∷ rs) w ≡ None → (fits r w ≡ false) × (row_in rs w ≡ None)
first_none true r rs w e n = let p : Some r ≡ None = sym (first_at true r rs w e) ∙ n in cc
first_none false r rs w e n = (e, sym (first_at false r rs w e) ∙ n)

pub none_fits : (rs : List Row) (w : ℕ) → row_in rs w ≡ None → All (λ r. IsFalse (fits r w)) rs
none_fits [] w n k d h = absurd (omega (arith, h))
none_fits (r ∷ rs) w n zero d h = (first_none (fits r w) r rs w refl n).0
none_fits (r ∷ rs) w n (suc k) d h = none_fits rs w (first_none (fits r w) r rs w refl n).1 k d (omega (arith, h))

pub none_found : (rs : List Row) (w : ℕ) → All (λ r. IsFalse (fits r w)) rs → row_in rs w ≡ None
none_found [] w a = refl
none_found (r ∷ rs) w a = first_at false r rs w (a 0 r (omega arith)) ∙ none_found rs w (λ k d h. a (suc k) d (omega (arith, h)))
