-- Parts of lists of bytes.
use Rattle.log_blocks.proofs.Common.{◌≡◌, ℕ, zero, suc, ◌<◌, ◌≤◌, Bool, true, false, List, [], ◌∷◌, ◌++◌, length, take, drop, refl, sym, ap, ◌∙◌, arith, ◌==◌, bytes_eq, eqb-true, eq-eqb, take_at, drop_at, bytes_eq-Decides}

pub take_take : (n m : ℕ) (xs : List ℕ) → n ≤ m → take n (take m xs) ≡ take n xs
take_take zero m xs le = refl
take_take (suc n) zero xs le = absurd (omega (arith, le))
take_take (suc n) (suc m) [] le = refl
take_take (suc n) (suc m) (x ∷ xs) le = ap (λ (t : List ℕ). x ∷ t) (take_take n m xs (omega (arith, le)))

-- of two lists that begin the same bytes, those of one length are one
pub same_front : (xs ys us vs : List ℕ) → xs ++ us ≡ ys ++ vs → length ys ≡ length xs → xs ≡ ys
same_front xs ys us vs e n = sym (take_at xs us (length xs) refl) ∙ ap (take (length xs)) e ∙ take_at ys vs (length xs) n

pub same_rest : (xs ys us vs : List ℕ) → xs ++ us ≡ ys ++ vs → length ys ≡ length xs → us ≡ vs
same_rest xs ys us vs e n = sym (drop_at xs us (length xs) refl) ∙ ap (drop (length xs)) e ∙ drop_at ys vs (length xs) n

-- so they are told apart by their lengths
pub told_by_length : (xs ys us vs : List ℕ) → xs ++ us ≡ ys ++ vs → bytes_eq xs ys ≡ (length ys == length xs)
told_by_length xs ys us vs e = by (length ys == length xs) (bytes_eq xs ys) refl refl
  where
    by : (b c : Bool) → (length ys == length xs) ≡ b → bytes_eq xs ys ≡ c → c ≡ b
    by true true n t = refl
    by false false n t = refl
    by true false n t = sym t ∙ (bytes_eq-Decides xs ys).1 (same_front xs ys us vs e (eqb-true _ _ n))
    by false true n t = sym (eq-eqb (length ys) (length xs) (ap length (sym ((bytes_eq-Decides xs ys).0 t)))) ∙ n

pub some_bytes_of : (xs : List ℕ) → (length xs == 0) ≡ false → 0 < length xs
some_bytes_of [] e = absurd cc
some_bytes_of (x ∷ xs) e = omega arith

pub no_bytes_of : (xs : List ℕ) → (length xs == 0) ≡ true → xs ≡ []
no_bytes_of [] e = refl
no_bytes_of (x ∷ xs) e = absurd (grind arith)
