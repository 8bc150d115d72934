-- What is wrong with a few bytes, worked out.
use Rattle.log_file.proofs.Common.{◌≡◌, ℕ, Bool, false, not, ◌∷◌, ◌++◌, [], List, replicate, Some, None, refl, arith, ap, if◌then◌else◌, bytes_eq, sha256, number_at, number_bytes, Record, Header, FirstLoad, ScOk, ScFailed, Edge, End, bytes_of, Short, BadMagic, LengthDiffers, DigestDiffers, magic, settings_bytes, signed_bytes, head_fault, file_fault, NoRecord}
use Rattle.log_file.specs.Examples.{no_digest, signed}

pub short_is : file_fault (replicate 123 0) ≡ Some (Short 123)
short_is = refl

pub magic_is : file_fault (replicate 124 0) ≡ Some BadMagic
unfolding magic head_fault
magic_is = refl

pub length_is : head_fault (signed 1 ++ 7 ∷ []) no_digest ≡ Some (LengthDiffers 0 1)
unfolding magic settings_bytes signed_bytes number_bytes number_at head_fault lib.Count.ones
length_is = refl

pub digest_is : (kept : List ℕ) → bytes_eq kept (sha256 (signed 1)) ≡ false → head_fault (signed 1) kept ≡ Some (DigestDiffers kept (sha256 (signed 1)))
unfolding magic settings_bytes signed_bytes number_bytes number_at head_fault lib.Count.ones
digest_is kept e = ap (λ (b : Bool). if not b then (Some (DigestDiffers kept (sha256 (signed 1)))) else None) e

-- no record begins with such a byte
no_record : (r : Record) (x : List ℕ) (y : List ℕ) → 7 ∷ x ≡ bytes_of r ++ y → ⊥
no_record (Header h n ic pc xs) x y e = cc
no_record (FirstLoad h skip value) x y e = cc
no_record (ScOk h) x y e = cc
no_record (ScFailed h) x y e = cc
no_record (Edge h ic s j) x y e = cc
no_record (End h mark) x y e = cc

pub no_tag_is : NoRecord 1 (3 ∷ 0 ∷ 7 ∷ 0 ∷ []) 2
no_tag_is = record { before = ScOk 0 ∷ []; rest = 7 ∷ 0 ∷ []; fit = (record { fields = omega arith; mark = refl }, tt); parts = refl; place_is = refl; more = omega arith; none = λ r y fits e. no_record r (0 ∷ []) y e }

-- each record has two bytes at least
two_bytes : (r : Record) (y : List ℕ) → 3 ∷ [] ≡ bytes_of r ++ y → ⊥
two_bytes (Header h n ic pc xs) y e = cc
two_bytes (FirstLoad h skip value) y e = cc
two_bytes (ScOk h) y e = cc
two_bytes (ScFailed h) y e = cc
two_bytes (Edge h ic s j) y e = cc
two_bytes (End h mark) y e = cc

pub half_is : NoRecord 1 (3 ∷ []) 0
half_is = record { before = []; rest = 3 ∷ []; fit = tt; parts = refl; place_is = refl; more = omega arith; none = λ r y fits e. two_bytes r y e }
