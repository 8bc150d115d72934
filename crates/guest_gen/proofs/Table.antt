-- Each instruction of a generated program is what its word decodes to.
use Rattle.std.proofs.Common.{◌≡◌, ℕ, zero, suc, ◌+◌, ◌*◌, ◌<◌, ◌^◌, ◌==◌, Bool, true, false, List, [], ◌∷◌, Some, refl, ap, arith, lit<, ◌/◌, ◌%◌, ◌++◌, map}
use Rattle.std.specs.Prelude.{if◌then◌else◌, ◌≢◌, nat_lt}
use Rattle.std.specs.List.{AllByRecursion}
use Rattle.std.proofs.lemmas.Bool.{ltb-true}
use Rattle.rv_decode.specs.declared.name.Name.TheVariants.{Lw, Sb, Sw, Lui, Addi, Slli, Add, Fence}
use Rattle.rv_decode.specs.Table.{Instruction, decoded}
use Rattle.rv_decode.specs.Encode.{encoded, fixed_of}
use Rattle.guest_gen.specs.Code.{t1, t2, s0, s1, a0, with_immediate, storing, of_registers, chosen, slot, draws, code, opening, closing, IsCode}
use Rattle.guest_gen.specs.declared.kind.Kind.{Kind}
use Rattle.guest_gen.specs.declared.kind.Kind.TheVariants.{Loop, Crash}
use Rattle.std.proofs.lemmas.Nat.{mod_below}

-- the first values of a function
abbrev pub listed : {A : Type 0} → (ℕ → A) → ℕ → List A
listed f zero = []
listed f (suc n) = f 0 ∷ listed (λ k. f (suc k)) n

heads : {A : Type 0} (x y : A) (xs ys : List A) → x ∷ xs ≡ y ∷ ys → x ≡ y
heads x y xs ys e = cc

tails : {A : Type 0} (x y : A) (xs ys : List A) → x ∷ xs ≡ y ∷ ys → xs ≡ ys
tails x y xs ys e = cc

-- if the first values are the same, so is each of them
same_at : {A : Type 0} (f g : ℕ → A) (n k : ℕ) → k < n → listed f n ≡ listed g n → f k ≡ g k
same_at f g zero k h e = absurd (omega (arith, h))
same_at f g (suc n) zero h e = heads _ _ _ _ e
same_at f g (suc n) (suc k) h e = same_at (λ i. f (suc i)) (λ i. g (suc i)) n k (omega (arith, h)) (tails _ _ _ _ e)

all_code : (f : ℕ → Instruction) (n k : ℕ) → k < n → listed (λ i. nat_lt (encoded (f i)) (2 ^ 32)) n ≡ listed (λ i. true) n
    → listed (λ i. decoded (encoded (f i))) n ≡ listed (λ i. Some (f i)) n → ((f k).name ≢ Fence) → IsCode (f k)
all_code f n k h below again name = (ltb-true _ _ (same_at _ _ n k h below), same_at _ _ n k h again, name)

abbrev pub Codes : (ℕ → Instruction) → Type 0
Codes f = (k : ℕ) → k < 64 → IsCode (f k)

addi_code : Codes (λ k. with_immediate Addi t1 t1 k)
addi_code k h = all_code (λ k. with_immediate Addi t1 t1 k) 64 k h refl refl (λ e. absurd (omega (arith, ap fixed_of e)))

lw_code : Codes (λ k. with_immediate Lw t1 s0 (4 * k))
lw_code k h = all_code (λ k. with_immediate Lw t1 s0 (4 * k)) 64 k h refl refl (λ e. absurd (omega (arith, ap fixed_of e)))

sw_code : Codes (λ k. storing Sw t1 s0 (4 * k))
sw_code k h = all_code (λ k. storing Sw t1 s0 (4 * k)) 64 k h refl refl (λ e. absurd (omega (arith, ap fixed_of e)))

sb_code : Codes (λ k. storing Sb t2 s0 (4 * k))
sb_code k h = all_code (λ k. storing Sb t2 s0 (4 * k)) 64 k h refl refl (λ e. absurd (omega (arith, ap fixed_of e)))

far_code : Codes (λ k. with_immediate Lw t2 s1 (256 + 4 * k))
far_code k h = all_code (λ k. with_immediate Lw t2 s1 (256 + 4 * k)) 64 k h refl refl (λ e. absurd (omega (arith, ap fixed_of e)))

either : (b : Bool) (i j : Instruction) → IsCode i → IsCode j → IsCode (if b then i else j)
either true i j p q = p
either false i j p q = q

pub chosen_code : (choice k : ℕ) → k < 64 → IsCode (chosen choice k)
chosen_code choice k h =
    either (choice == 0) _ _ (addi_code k h)
    (either (choice == 1) _ _ (lit< tt, refl, λ e. absurd (omega (arith, ap fixed_of e)))
    (either (choice == 2) _ _ (lw_code k h)
    (either (choice == 3) _ _ (sw_code k h)
    (either (choice == 4) _ _ (sb_code k h)
    (either (choice == 5) _ _ (lit< tt, refl, λ e. absurd (omega (arith, ap fixed_of e)))
    (either (choice == 6) _ _ (lit< tt, refl, λ e. absurd (omega (arith, ap fixed_of e)))
    (far_code k h)))))))

pub slot_code : (r : ℕ) → IsCode (slot r)
slot_code r = chosen_code (r % 8) (r / 8 % 64) (mod_below (r / 8) 64 (lit< tt))

pub closing_code : (kind : Kind) → IsCode (closing kind)
closing_code Loop = (lit< tt, refl, λ e. absurd (omega (arith, ap fixed_of e)))
closing_code Crash = (lit< tt, refl, λ e. absurd (omega (arith, ap fixed_of e)))

pub slli_code : IsCode (with_immediate Slli s1 a0 8)
slli_code = (lit< tt, refl, λ e. absurd (omega (arith, ap fixed_of e)))

pub add_code : IsCode (of_registers Add s1 s1 s0)
add_code = (lit< tt, refl, λ e. absurd (omega (arith, ap fixed_of e)))

lui_code : IsCode (with_immediate Lui s0 0 131072)
lui_code = (lit< tt, refl, λ e. absurd (omega (arith, ap fixed_of e)))

all_slots : (rs : List ℕ) (is : List Instruction) → AllByRecursion IsCode is → AllByRecursion IsCode (map slot rs ++ is)
all_slots [] is all = all
all_slots (r ∷ rs) is all = (slot_code r, all_slots rs is all)

pub all_code_words : (seed : ℕ) (kind : Kind) → AllByRecursion IsCode (code seed kind)
unfolding code opening
all_code_words seed kind = (lui_code, (slli_code, (add_code, all_slots (draws 256 seed) (closing kind ∷ []) (closing_code kind, tt))))
