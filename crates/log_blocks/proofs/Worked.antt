-- A few blocks, worked out.
use Rattle.log_blocks.proofs.Common.{◌≡◌, ◌<◌, ℕ, ◌+◌, Bool, true, false, ◌∷◌, ◌++◌, [], List, length, Option, Some, None, refl, sym, ap, ◌∙◌, arith, inl, inr, nat_lt, if◌then◌else◌, number_bytes, ScOk, total, cut_from, blocks_of, FileError, OutOfMemory, File, BadBlock, size_in, head_digest, blocks_in, head_fault, is_good, IsWalk, first_wrong, IsWalkFault, IsSecondRefusal, IsSalvageRefusal}
use Rattle.log_blocks.specs.declared.damage.SalvageError.TheVariants.{NothingLeft}
use Rattle.log_blocks.specs.declared.damage.SalvageError.TheVariants as salvage
use Rattle.log_blocks.specs.Examples.{full_block, two_blocks}
use Rattle.log_blocks.proofs.Written.{Same, one_walk}

pub full_size_is : total full_block ≡ 4096
unfolding number_bytes
full_size_is = refl

pub one_block_is : cut_from [] 0 full_block ≡ full_block ∷ []
unfolding number_bytes
one_block_is = refl

pub more_is : cut_from [] 0 (full_block ++ ScOk 0 ∷ []) ≡ full_block ∷ (ScOk 0 ∷ []) ∷ []
unfolding number_bytes
more_is = refl

pub two_blocks_are : first_wrong 136 (blocks_of 0 (ScOk 0 ∷ ScOk 0 ∷ [])) two_blocks ≡ Some 186
two_blocks_are = refl

-- fewer bytes than a seal has end with no good block
not_good : (digest bytes : List ℕ) (n left : ℕ) → length bytes ≡ 47 → is_good digest n left bytes ≡ false
unfolding is_good
not_good digest bytes n left e = by (nat_lt (length bytes) 48) _ (ap (λ (k : ℕ). nat_lt k 48) e)
  where
    by : (b x : Bool) → b ≡ true → (if b then false else x) ≡ false
    by true x e = refl
    by false x e = cc

no_walk : (bytes : List ℕ) → length (blocks_in bytes) ≡ 47 → IsWalk (head_digest bytes) (size_in bytes) (blocks_in bytes) (blocks_in bytes) []
no_walk bytes e = record { count = 0; walked = (not_good (head_digest bytes) (blocks_in bytes) (size_in bytes) 0 e, (refl, refl)) }

pub cut_off_is : (bytes : List ℕ) → head_fault bytes ≡ None → length (blocks_in bytes) ≡ 47 → IsSecondRefusal bytes (BadBlock 183)
cut_off_is bytes good e = inr (record {
  rest = blocks_in bytes;
  pieces = [];
  fault = good;
  walk = no_walk bytes e;
  wrong = inl (omega (arith, e), ap (λ (n : ℕ). BadBlock (136 + n)) (sym e));
})

pub none_left_is : (bytes : List ℕ) → head_fault bytes ≡ None → length (blocks_in bytes) ≡ 47 → 0 < size_in bytes → IsSalvageRefusal bytes NothingLeft
none_left_is bytes good e more = record { rest = blocks_in bytes; fault = good; walk = no_walk bytes e; more = more }

-- ---- neither is told as out of memory

no_rest : {P : Type 0} (bytes rest : List ℕ) → length (blocks_in bytes) ≡ 47 → rest ≡ blocks_in bytes → rest ≡ [] → P
no_rest bytes rest e is none = absurd (omega (arith, e, ap length is, ap length none))

pub cut_off_told : (bytes : List ℕ) → head_fault bytes ≡ None → length (blocks_in bytes) ≡ 47 → IsSecondRefusal bytes (File OutOfMemory) → ⊥
cut_off_told bytes good e (inl h) = other_fault (sym good ∙ h)
  where
    other_fault : ◌≡◌ {A = Option FileError} None (Some OutOfMemory) → ⊥
    other_fault x = cc
cut_off_told bytes good e (inr f) = by (one_walk _ _ _ _ _ _ _ f.walk (no_walk bytes e)) f.wrong
  where
    other_damage : (at : ℕ) → File OutOfMemory ≡ BadBlock at → ⊥
    other_damage at x = cc

    by : Same f.rest (blocks_in bytes) f.pieces [] → IsWalkFault bytes f.rest f.pieces (File OutOfMemory) → ⊥
    by s (inl x) = other_damage _ x.1
    by s (inr (inl x)) = no_rest bytes f.rest e s.rest_is x.0
    by s (inr (inr x)) = no_rest bytes f.rest e s.rest_is x.0

pub none_left_told : (bytes : List ℕ) → length (blocks_in bytes) ≡ 47 → 0 < size_in bytes → IsSalvageRefusal bytes salvage.OutOfMemory → ⊥
none_left_told bytes e more f = let s = one_walk _ _ _ _ _ _ _ f.walk (no_walk bytes e) in omega (arith, more, f.some s.pieces_are)
