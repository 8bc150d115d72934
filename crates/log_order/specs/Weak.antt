-- Views of a hart of which one says no more than the other.
use Rattle.std.specs.Prelude.{◌≡◌, ℕ, ◌≤◌, true, List, [], ◌∷◌, Option, Some, None}
use Rattle.log_order.specs.declared.view.Phase.{Phase}
use Rattle.log_order.specs.declared.view.Phase.TheVariants.{Unknown, Awaiting, Open, Done}
use Rattle.log_order.specs.declared.view.HartView.{HartView}
use Rattle.log_order.specs.Rules.{is_done}

-- the left number is not known, or is the right one
abbrev pub IsWeakNumber : Option ℕ → Option ℕ → Type 0
IsWeakNumber None m = Unit {0}
IsWeakNumber (Some n) None = ⊥
IsWeakNumber (Some n) (Some m) = n ≡ m

-- the first phase says no more than the second: it is unknown, or the same but for a number that it may not have
abbrev pub IsWeakPhase : Phase → Phase → Type 0
IsWeakPhase Unknown q = Unit {0}
IsWeakPhase (Awaiting n c) Unknown = ⊥
IsWeakPhase (Awaiting n c) (Awaiting m d) = IsWeakNumber n m × (c ≡ d)
IsWeakPhase (Awaiting n c) (Open m since) = ⊥
IsWeakPhase (Awaiting n c) Done = ⊥
IsWeakPhase (Open n since) Unknown = ⊥
IsWeakPhase (Open n since) (Awaiting m d) = ⊥
IsWeakPhase (Open n since) (Open m other) = (n ≡ m) × (since ≡ other)
IsWeakPhase (Open n since) Done = ⊥
IsWeakPhase Done Unknown = ⊥
IsWeakPhase Done (Awaiting m d) = ⊥
IsWeakPhase Done (Open m since) = ⊥
IsWeakPhase Done Done = Unit {0}

-- w says no more of a hart than v
pub record IsWeak (w v : HartView) : Type 0 where
  pub phase : IsWeakPhase w.phase v.phase
  pub seen : w.seen ≤ v.seen
  pub met : w.met ≡ true → v.met ≡ true
  pub last : IsWeakNumber w.last v.last
  pub over : is_done v.phase ≡ true → w.met ≡ true → is_done w.phase ≡ true

-- each view says no more than the one at its place, and there are as many
abbrev pub AreWeak : List HartView → List HartView → Type 0
AreWeak [] [] = Unit {0}
AreWeak [] (v ∷ vs) = ⊥
AreWeak (w ∷ ws) [] = ⊥
AreWeak (w ∷ ws) (v ∷ vs) = IsWeak w v × AreWeak ws vs
