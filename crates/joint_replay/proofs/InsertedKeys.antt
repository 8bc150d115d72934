-- A set's keys after one more is put among them.
use Rattle.joint_replay.proofs.Common.{◌≡◌, ℕ, Bool, true, false, cond, ◌==◌, nat_lt, ap, refl, List, [], ◌∷◌, Less, Equal, Greater, arith, insert}
use Rattle.std.specs.Ordering.{nat_cmp, match_ordering}
use Rattle.std.specs.BTreeSet.{insert_key}

apart : (m n : ℕ) → nat_lt m n ≡ true → (m == n) ≡ true → ⊥
apart m n e f = grind arith

pub key_inserted : (n : ℕ) (ms : List ℕ) → insert_key nat_cmp ms n ≡ insert n ms
key_inserted n [] = refl
key_inserted n (m ∷ ms) = by (nat_lt n m) refl (n == m) refl (key_inserted n ms)
  where
    by : (l : Bool) → nat_lt n m ≡ l → (e : Bool) → (n == m) ≡ e → insert_key nat_cmp ms n ≡ insert n ms
        → match_ordering (cond l Less (cond e Equal Greater)) (n ∷ m ∷ ms) (m ∷ ms) (m ∷ insert_key nat_cmp ms n)
        ≡ elim e as (λ y. List ℕ) [ true ↦ m ∷ ms | false ↦ elim l as (λ y. List ℕ) [ true ↦ n ∷ m ∷ ms | false ↦ m ∷ insert n ms ] ]
    by true lt true eq rest = absurd (apart n m lt eq)
    by true lt false eq rest = refl
    by false lt true eq rest = refl
    by false lt false eq rest = ap (λ (xs : List ℕ). m ∷ xs) rest
