-- What an arm of the match of quiet instructions says, by what its call does.
use Rattle.rv_meaning.proofs.Common.{◌≡◌, ◌∙◌, ℕ, Bool, true, false, List, refl, sym, ap, subst, Option, Some, None, Program, HartState, Instruction, Name, Step, Asks, meaning, IsOp, is_known, Says, Done, Quietly, Asking, Want, Op}

-- ---- what was done

never : {A : Type 0} → false ≡ true → A
never e = absurd cc

-- of an op that is known, by what is done for each instruction that it may represent
pub done_says : (n : Name) (i : Program) (op : Op) (o : Option Instruction) (quiet : Bool) (pc p : ℕ) (x y : List ℕ) → Says op o → op.name ≡ n → is_known n ≡ true
    → ((d : Instruction) → IsOp op d → Done quiet pc x p y (meaning n i d)) → Quietly quiet i o pc x p y
done_says n i op None quiet pc p x y says e known done = never (sym says ∙ ap is_known e ∙ known)
done_says n i op (Some d) true pc p x y says e known done =
    let name : n ≡ d.name = sym e ∙ says.name in
    (d, refl, λ ic. done d says ic ∙ ap (λ (k : Name). meaning k i d (record { pc = pc; x = x; ic = ic })) name)
done_says n i op (Some d) false pc p x y says e known done = done d says

-- of an equal step
same_done : (quiet : Bool) (pc p : ℕ) (x y : List ℕ) (f g : HartState → Step) → Done quiet pc x p y f → ((ic : ℕ) → f (record { pc = pc; x = x; ic = ic }) ≡ g (record { pc = pc; x = x; ic = ic })) → Done quiet pc x p y g
same_done true pc p x y f g done same = λ ic. done ic ∙ same ic
same_done false pc p x y f g done same = done

-- of an op that is known, by an equal step for each instruction that it may represent
pub step_says : (n : Name) (i : Program) (op : Op) (o : Option Instruction) (quiet : Bool) (pc p : ℕ) (x y : List ℕ) (f : Instruction → HartState → Step) → Says op o → op.name ≡ n → is_known n ≡ true
    → ((d : Instruction) → IsOp op d → Done quiet pc x p y (f d)) → ((d : Instruction) → IsOp op d → (ic : ℕ) → f d (record { pc = pc; x = x; ic = ic }) ≡ meaning n i d (record { pc = pc; x = x; ic = ic })) → Quietly quiet i o pc x p y
step_says n i op o quiet pc p x y f says e known done same =
    done_says n i op o quiet pc p x y says e known (λ d h. same_done quiet pc p x y (f d) (meaning n i d) (done d h) (same d h))

-- ---- what is asked

pub asks_says : (n : Name) (i : Program) (op : Op) (o : Option Instruction) (x : List ℕ) (w : Want) (asks : Bool) → Says op o → op.name ≡ n → is_known n ≡ true → asks ≡ true → (asked : Instruction → Want)
    → ((d : Instruction) → IsOp op d → w ≡ asked d) → ((d : Instruction) (pc ic : ℕ) → Asks (asked d) ≡ meaning n i d (record { pc = pc; x = x; ic = ic })) → Asking asks i o x w
asks_says n i op None x w asks says e known it asked is means = never (sym says ∙ ap is_known e ∙ known)
asks_says n i op (Some d) x w asks says e known it asked is means =
    let name : n ≡ d.name = sym e ∙ says.name in
    let all : Asking true i (Some d) x w = (d, refl, λ pc ic. ap Asks (is d says) ∙ means d pc ic ∙ ap (λ (k : Name). meaning k i d (record { pc = pc; x = x; ic = ic })) name) in
    subst (λ (b : Bool). Asking b i (Some d) x w) (sym it) all
