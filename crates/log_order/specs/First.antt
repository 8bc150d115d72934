-- What it means that a break is the first.
use Rattle.std.specs.Prelude.{◌≡◌, ℕ, ◌+◌, true, false, List, ◌∷◌, ◌++◌, Ok, Err}
use Rattle.log_order.specs.Common.{AllByRecursion, Record, total}
use Rattle.log_order.specs.declared.view.OrderLimits.{OrderLimits}
use Rattle.log_order.specs.declared.view.HartView.{HartView}
use Rattle.log_order.specs.Order.{step, after_all, is_late}

-- the records before one keep the rules, and that one, which begins at the place, breaks this rule
pub record BreaksFirst (t : OrderLimits) (start : ℕ) (harts : List HartView) (rs : List Record) (place rule : ℕ) : Type 0 where
  pub front : List Record
  pub one : Record
  pub back : List Record
  pub before : List HartView
  pub parts : rs ≡ front ++ one ∷ back
  pub kept : after_all t start harts front ≡ Ok before
  pub breaks : step t before one ≡ Err rule
  pub place_is : place ≡ start + total front

-- no Edge before one is late, and that one, which begins at the place, is
pub record IsLateFirst (harts : List HartView) (start : ℕ) (rs : List Record) (place : ℕ) : Type 0 where
  pub front : List Record
  pub one : Record
  pub back : List Record
  pub parts : rs ≡ front ++ one ∷ back
  pub none_before : AllByRecursion (λ r. is_late harts r ≡ false) front
  pub late : is_late harts one ≡ true
  pub place_is : place ≡ start + total front
