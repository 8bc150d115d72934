-- How many bytes records have.
use Rattle.run_model.proofs.Common.{◌≡◌, ℕ, zero, suc, ◌+◌, ◌*◌, List, [], ◌∷◌, ◌++◌, length, refl, arith, length-append, number_bytes, Program, RawSettings, Record, bytes_of, total, header, header_size, start_state, first_headers}
use Rattle.std.specs.List.{flat_map}

total_more : (r : Record) (rs : List Record) → total (r ∷ rs) ≡ length (bytes_of r) + total rs
total_more r rs = length-append (bytes_of r) (flat_map bytes_of rs)

pub total_append : (xs ys : List Record) → total (xs ++ ys) ≡ total xs + total ys
total_append [] ys = omega arith
total_append (x ∷ xs) ys = omega (arith, total_more x (xs ++ ys), total_more x xs, total_append xs ys)

-- a Header before the first turn
header_has : (c : RawSettings) (i : Program) (k : ℕ) → length (bytes_of (header k 0 (start_state c i k))) ≡ header_size
unfolding number_bytes
header_has c i k = refl

pub headers_have : (c : RawSettings) (i : Program) (k n : ℕ) → total (first_headers c i k n) ≡ header_size * n
headers_have c i k zero = refl
headers_have c i k (suc n) = omega (arith, total_more (header k 0 (start_state c i k)) (first_headers c i (k + 1) n), header_has c i k, headers_have c i (k + 1) n)
