-- Races one after another.
use Rattle.race_report.proofs.Common.{◌≡◌, ℕ, zero, suc, ◌+◌, ◌<◌, ◌≤◌, ◌==◌, Bool, true, false, cond, refl, sym, ap, ◌∙◌, arith, List, [], ◌∷◌, ◌++◌, append_assoc, length, drop, slice_get, slice_index_or, Option, Some, None, option_map, Row, Meeting, Accessing, meetings_of, row_if, row_of, race_by, race_if, races_with, is_at, races_by_second, races_by_place, races_by_first}

pub race_none : (o : Option Accessing) (word : ℕ) → race_by o None word ≡ []
race_none None word = refl
race_none (Some p) word = refl

pub race_some : (o : Option Accessing) (row second : Row) (word : ℕ) → Some row ≡ option_map (λ p. p.row) o → race_by o (Some second) word ≡ record { first = row; second = second; word = word } ∷ []
race_some None row second word e = absurd cc
race_some (Some p) row second word e = let same : row ≡ p.row = cc in ap (λ (r : Row). record { first = r; second = second; word = word } ∷ []) (sym same)

pub race_nothing : (o : Option Accessing) (other : Option Row) (word : ℕ) → None ≡ option_map (λ p. p.row) o → race_by o other word ≡ []
race_nothing None other word e = refl
race_nothing (Some p) other word e = absurd cc

pub with_next : (run : List Accessing) (m g k : ℕ) (xs : List Meeting) (d : Meeting) → k < length xs → races_with run m g (drop k xs) ≡ race_if run m g (slice_index_or xs k d) ++ races_with run m g (drop (suc k) xs)
with_next run m g k [] d low = absurd (omega (arith, low))
with_next run m g zero (y ∷ ys) d low = refl
with_next run m g (suc k) (y ∷ ys) d low = with_next run m g k ys d (omega (arith, low))

pub with_more : (run : List Accessing) (m g k : ℕ) (xs : List Meeting) (d : Meeting) → k < length xs → race_if run m g (slice_index_or xs k d) ++ races_with run m g (drop (k + 1) xs) ≡ races_with run m g (drop k xs)
with_more run m g k xs d low =
    ap (λ (j : ℕ). race_if run m g (slice_index_or xs k d) ++ races_with run m g (drop j xs)) (let one : k + 1 ≡ suc k = omega arith in one) ∙ sym (with_next run m g k xs d low)

pub with_done : (run : List Accessing) (m g k : ℕ) (xs : List Meeting) → length xs ≤ k → races_with run m g (drop k xs) ≡ []
with_done run m g k [] low = none k
  where
    none : (k : ℕ) → races_with run m g (drop k []) ≡ []
    none zero = refl
    none (suc k) = refl
with_done run m g zero (x ∷ xs) low = absurd (omega (arith, low))
with_done run m g (suc k) (x ∷ xs) low = with_done run m g k xs (omega (arith, low))

one_more : (k : ℕ) → k + 1 ≡ suc k
one_more k = omega arith

pub second_next : (run : List Accessing) (m g : ℕ) → races_by_second run m (g + 1) ≡ races_by_second run m g ++ races_with run m g (meetings_of run m)
second_next run m g = ap (races_by_second run m) (one_more g)

pub place_next : (harts : ℕ) (run : List Accessing) (h m : ℕ) → races_by_place harts run h (m + 1) ≡ races_by_place harts run h m ++ cond (is_at run m h) (races_by_second run m harts) []
place_next harts run h m = ap (races_by_place harts run h) (one_more m)

pub first_next : (harts : ℕ) (run : List Accessing) (h : ℕ) → races_by_first harts run (h + 1) ≡ races_by_first harts run h ++ races_by_place harts run h (length run)
first_next harts run h = ap (races_by_first harts run) (one_more h)

pub no_at : (run : List Accessing) (m h : ℕ) → None ≡ row_of run m h → is_at run m h ≡ false
no_at run m h e = by (slice_get run m) e
  where
    one : (p : Accessing) (b : Bool) → None ≡ cond b (Some p.row) None → b ≡ false
    one p true f = absurd cc
    one p false f = refl

    by : (o : Option Accessing) → None ≡ row_if h o → elim o as (λ y. Bool) [ None ↦ false | Some p ↦ p.hart == h ] ≡ false
    by None f = refl
    by (Some p) f = one p (p.hart == h) f

pub yes_at : (run : List Accessing) (m h : ℕ) (row : Row) → Some row ≡ row_of run m h → is_at run m h ≡ true
yes_at run m h row e = by (slice_get run m) e
  where
    one : (p : Accessing) (b : Bool) → Some row ≡ cond b (Some p.row) None → b ≡ true
    one p true f = refl
    one p false f = absurd cc

    by : (o : Option Accessing) → Some row ≡ row_if h o → elim o as (λ y. Bool) [ None ↦ false | Some p ↦ p.hart == h ] ≡ true
    by None f = absurd cc
    by (Some p) f = one p (p.hart == h) f

-- items, and more of them
pub then_more : {X : Type 0} (xs ys zs us vs : List X) → ys ≡ xs ++ us → zs ≡ ys ++ vs → zs ≡ xs ++ (us ++ vs)
then_more xs ys zs us vs e f = f ∙ ap (λ ws. ws ++ vs) e ∙ append_assoc xs us vs
