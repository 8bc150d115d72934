-- How the parts of the code that do one instruction tell what they did.
use Rattle.std.specs.Prelude.{◌≡◌, ℕ, Bool, true, false, List}
use Rattle.bn_base.specs.declared.state.HartState.{HartState}
use Rattle.rv_meaning.specs.Execute.{Step, Quiet, Asks, count_up}
use Rattle.rv_meaning.specs.declared.asks.Want.{Want}

-- whether a step x from s was quiet, and then t is the state after it; else t is s, and w is what it asks
abbrev pub Told : Bool → HartState → HartState → Want → Step → Type 0
Told true s t w x = Quiet t ≡ x
Told false s t w x = (t ≡ s) × (Asks w ≡ x)

-- the count after an instruction that was n before it: one more if it was quiet
abbrev pub count_after : Bool → ℕ → ℕ
count_after true n = count_up n
count_after false n = n

-- what is told of a step from each state with this pc and these registers, which become p and y
abbrev pub ToldParts : Bool → (pc : ℕ) → (x : List ℕ) → (p : ℕ) → (y : List ℕ) → Want → (HartState → Step) → Type 0
ToldParts quiet pc x p y w does =
    (ic : ℕ) → Told quiet (record { pc = pc; x = x; ic = ic }) (record { pc = p; x = y; ic = count_after quiet ic }) w (does (record { pc = pc; x = x; ic = ic }))
