-- Rows continue from the position that they are to come from.
use Rattle.joint_replay.proofs.Common.{◌≡◌, ℕ, zero, suc, ◌+◌, ◌-◌, ◌<◌, ◌≤◌, ◌^◌, Bool, true, false, not, ◌&&◌, ◌||◌, ◌==◌, nat_lt, refl, sym, ap, ◌∙◌, subst, arith, [], ◌∷◌, ◌++◌, take, fault_number, Program, HartState, Want, Load, Store, LoadReserved, StoreConditional, Amo, System, Cut, Faulted, fault_row, EndDiffers, Refused, Replayed, Interval, Position, On, Stop, one_step, ended, fault_end, finish, left_over, found, with_rows, without_rows, to_come, RowsFrom, RowsGoOn}
use Rattle.rv_meaning.specs.Execute.{Step, Quiet, Asks, step, count_up}
use Rattle.hart_replay.specs.Replay.{Next}
use Rattle.joint_replay.proofs.Follows.{Follows, follows, CountsGoUp, AsksPass, uncut}

abbrev GoOn : Program → ℕ → HartState → Replayed → Type 0
GoOn i last s x = RowsFrom i last x.outcome s x.rows

module _ (i : Program) (h : ℕ) (v : Interval) where
  -- a fault's row at the end
  by_fault : (p : Position) → v.mark.ic ≤ p.state.ic → (k : Want) → GoOn i v.mark.ic p.state (fault_end i h v (without_rows p) k)
  by_fault p past (Faulted f y) = fitting (16 + fault_number f == v.mark.reason && (y == v.mark.value))
    where
      fitting : (b : Bool) → GoOn i v.mark.ic p.state (elim b as (λ x. Replayed) [ true ↦ finish (fault_row h i p.state f y ∷ []) (left_over h v (without_rows p)) | false ↦ finish [] (Refused (EndDiffers h v.mark (found p.state.ic (16 + fault_number f) y))) ])
      fitting true = (refl, λ low. absurd (omega (arith, low, past)), λ q. (refl, refl), λ q. past)
      fitting false = λ q. past
  by_fault p past (Load a w s rd) = λ q. past
  by_fault p past (LoadReserved a rd) = λ q. past
  by_fault p past (Amo a o rd y) = λ q. past
  by_fault p past (Store a w y) = λ q. past
  by_fault p past (StoreConditional a rd y) = λ q. past
  by_fault p past (System n args) = λ q. past
  by_fault p past Cut = λ q. past

  at_end : (p : Position) → v.mark.ic ≤ p.state.ic → GoOn i v.mark.ic p.state (ended i h v (without_rows p))
  at_end p past = by_reason (nat_lt 16 v.mark.reason)
    where
      by_step : (x : Step) → GoOn i v.mark.ic p.state (elim x as (λ y. Replayed) [ Quiet t ↦ finish [] (Refused (EndDiffers h v.mark (found p.state.ic 1 0))) | Asks k ↦ fault_end i h v (without_rows p) k ])
      by_step (Quiet t) = λ q. past
      by_step (Asks k) = by_fault p past k

      by_call : (b : Bool) → GoOn i v.mark.ic p.state (elim b as (λ x. Replayed) [ true ↦ finish [] (Refused (EndDiffers h v.mark (found p.state.ic 1 0))) | false ↦ finish [] (left_over h v (without_rows p)) ])
      by_call true = λ q. past
      by_call false = λ q. past

      by_reason : (b : Bool) → GoOn i v.mark.ic p.state (elim b as (λ x. Replayed) [
        | true ↦ elim (step i p.state) as (λ y. Replayed) [ Quiet t ↦ finish [] (Refused (EndDiffers h v.mark (found p.state.ic 1 0))) | Asks k ↦ fault_end i h v (without_rows p) k ]
        | false ↦ elim ((v.mark.reason == 2 || (v.mark.reason == 3) || (v.mark.reason == 4)) && not p.called) as (λ x. Replayed) [ true ↦ finish [] (Refused (EndDiffers h v.mark (found p.state.ic 1 0))) | false ↦ finish [] (left_over h v (without_rows p)) ]
      ])
      by_reason true = by_step (step i p.state)
      by_reason false = by_call ((v.mark.reason == 2 || (v.mark.reason == 3) || (v.mark.reason == 4)) && not p.called)

  up_one : (n : ℕ) → n < 2 ^ 64 - 1 → count_up n ≡ n + 1
  up_one n low = grind arith

  go : ((s t : HartState) → step i s ≡ Quiet t → t.ic ≡ count_up s.ic) → ((s : HartState) → step i s ≡ Asks Cut → ⊥) → v.mark.ic < 2 ^ 64 → (n : ℕ) (p : Position) → n ≡ v.mark.ic - p.state.ic → GoOn i v.mark.ic p.state (to_come i h v n p)
  go counted uncut fits zero p e = at_end p (omega (arith, e))
  go counted uncut fits (suc n) p e = by_next (one_step i h v p) (follows i h v p counted uncut) (go counted uncut fits n)
    where
      by_next : (x : Next) → Follows i p x → ((q : Position) → n ≡ v.mark.ic - q.state.ic → GoOn i v.mark.ic q.state (to_come i h v n q))
          → GoOn i v.mark.ic p.state (elim x as (λ y. Replayed) [ On q ↦ with_rows (take 1 q.rows) (to_come i h v n q) | Stop o ↦ record { rows = []; outcome = o } ])
      by_next (Stop o) f rest = λ done. absurd (f done)
      by_next (On q) f rest =
          let low : p.state.ic < v.mark.ic = omega (arith, e) in
          let up : q.state.ic ≡ p.state.ic + 1 = f.5 ∙ up_one p.state.ic (omega (arith, low, fits)) in
          let later : GoOn i v.mark.ic q.state (to_come i h v n q) = rest q (omega (arith, e, up)) in
          subst (λ rs. RowsFrom i v.mark.ic (to_come i h v n q).outcome p.state (take 1 rs ++ (to_come i h v n q).rows)) (sym f.1) (
            f.2,
            (λ less. (f.3, ap (λ (s : HartState). s.ic) (sym f.4) ∙ up)),
            (λ past. absurd (omega (arith, past, low))),
            subst (λ s. GoOn i v.mark.ic s (to_come i h v n q)) f.4 later,
          )

pub rows_go_on : CountsGoUp → AsksPass → RowsGoOn
rows_go_on counted asks i h v p fits = go i h v (counted i) (uncut asks i) fits (v.mark.ic - p.state.ic) p refl
