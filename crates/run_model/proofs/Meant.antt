-- Parts represent a machine.
use Rattle.run_model.proofs.Common.{◌≡◌, ◌/◌, ℕ, List, refl, sym, ◌∙◌, subst, Option, None, drop, get_or, HoldsMap, Machine, MachineParts, IsMachine, IsSameMachine, AreReserved}

-- one of the machines that the parts represent
abbrev pub meant : List ℕ → MachineParts → Machine
meant input p = record {
  memory = λ a. get_or p.memory.words (a / 4) 0;
  reserved = λ k. get_or p.reserved k None;
  brk = p.brk;
  input = drop p.taken input;
  out = p.out;
  err = p.err;
}

pub is_meant : (input : List ℕ) (p : MachineParts) → IsMachine input p (meant input p)
is_meant input p = record {
  memory = record { at = λ a aligned below. refl };
  reserved = record { at = λ k below. refl };
  brk = refl;
  left = refl;
  out = refl;
  err = refl;
}

-- parts that represent a machine once more memory was found did so before
pub is_before : (input : List ℕ) (old new : MachineParts) (m : Machine) → IsSameMachine old new → IsMachine input new m → IsMachine input old m
is_before input old new m same is = record {
  memory = subst (λ (ws : List ℕ). HoldsMap ws m.memory) same.words is.memory;
  reserved = subst (λ (rs : List (Option ℕ)). AreReserved rs m.reserved) same.reserved is.reserved;
  brk = sym same.brk ∙ is.brk;
  left = subst (λ (n : ℕ). drop n input ≡ m.input) same.taken is.left;
  out = sym same.out ∙ is.out;
  err = sym same.err ∙ is.err;
}
