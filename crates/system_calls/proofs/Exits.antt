-- Which calls end the hart or the run.
use Rattle.std.proofs.Common.{◌≡◌, ℕ, ◌-◌, ◌==◌, min, nat_le, Bool, true, false, ◌&&◌, ◌||◌, refl, sym, ◌∙◌, ap, inl, inr}
use Rattle.std.specs.Prelude.{if◌then◌else◌}
use Rattle.std.proofs.lemmas.Bool.Decides.{eqb_tells}
use Rattle.bn_base.specs.Programs.{Program, may_load, may_store, heap_start, heap_limit}
use Rattle.system_calls.specs.declared.kernel.Kernel.{Kernel}
use Rattle.system_calls.specs.declared.effect.Plan.{Plan}
use Rattle.system_calls.specs.Calls.{read_plan, write_plan, break_plan, all_bytes, stream_size, stream_len}
use Rattle.system_calls.specs.Laws.{is_end, ExitsAloneEnd}

-- a choice between two plans that end nothing ends nothing
goes_if : (x : Bool) (p q : Plan) → is_end p ≡ false → is_end q ≡ false → is_end (if x then p else q) ≡ false
goes_if true p q e f = e
goes_if false p q e f = f

read_goes : (a0 a1 a2 : ℕ) (k : Kernel) (i : Program) → is_end (read_plan a0 a1 a2 k i) ≡ false
read_goes a0 a1 a2 k i =
    let count : ℕ = min a2 (min 4096 k.input_left) in
    goes_if (a0 == 0) _ _ (goes_if (count == 0) _ _ refl (goes_if (all_bytes (may_store i) a1 count) _ _ refl refl)) refl

write_goes : (a0 a1 a2 : ℕ) (k : Kernel) (i : Program) → is_end (write_plan a0 a1 a2 k i) ≡ false
write_goes a0 a1 a2 k i =
    let room : ℕ = stream_size - stream_len a0 k in
    goes_if (a0 == 1 || (a0 == 2)) _ _
    (goes_if (a2 == 0) _ _ refl (goes_if (nat_le stream_size (stream_len a0 k)) _ _ refl (goes_if (all_bytes (may_load i) a1 (min a2 (min 4096 room))) _ _ refl refl))) refl

break_goes : (a0 : ℕ) (k : Kernel) (i : Program) → is_end (break_plan a0 k i) ≡ false
break_goes a0 k i = goes_if (nat_le (heap_start i) a0 && nat_le a0 (heap_limit i)) _ _ refl refl

then_case : (x : Bool) (p q : Plan) (b : Bool) → x ≡ true → is_end p ≡ b → is_end (if x then p else q) ≡ b
then_case true p q b e f = f
then_case false p q b e f = cc

else_case : (x : Bool) (p q : Plan) (b : Bool) → x ≡ false → is_end q ≡ b → is_end (if x then p else q) ≡ b
else_case true p q b e f = cc
else_case false p q b e f = f

neither : (x y : Bool) → x ≡ false → y ≡ false → false ≡ (x || y)
neither true y e f = sym e
neither false y e f = sym f

abbrev is_exit : ℕ → Bool
is_exit n = (n == 93) || (n == 94)

pub exits : ExitsAloneEnd
exits n a0 a1 a2 k i = elim (eqb_tells n 63) [
  | inl p ↦ then_case (n == 63) _ _ (is_exit n) p.0 (read_goes a0 a1 a2 k i ∙ sym (ap is_exit p.1))
  | inr p ↦ else_case (n == 63) _ _ (is_exit n) p.0 (elim (eqb_tells n 64) [
    | inl p ↦ then_case (n == 64) _ _ (is_exit n) p.0 (write_goes a0 a1 a2 k i ∙ sym (ap is_exit p.1))
    | inr p ↦ else_case (n == 64) _ _ (is_exit n) p.0 (elim (eqb_tells n 93) [
      | inl p ↦ then_case (n == 93) _ _ (is_exit n) p.0 (sym (ap is_exit p.1))
      | inr q ↦ else_case (n == 93) _ _ (is_exit n) q.0 (elim (eqb_tells n 94) [
        | inl p ↦ then_case (n == 94) _ _ (is_exit n) p.0 (sym (ap is_exit p.1))
        | inr p ↦ else_case (n == 94) _ _ (is_exit n) p.0 (goes_if (n == 214) _ _ (break_goes a0 k i) refl ∙ neither (n == 93) (n == 94) q.0 p.0)
      ])
    ])
  ])
]
