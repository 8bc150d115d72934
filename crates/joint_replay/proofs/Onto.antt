-- The rows of a replay are those to come from its start.
use Rattle.joint_replay.proofs.Common.{◌≡◌, ℕ, zero, suc, ◌+◌, ◌-◌, ◌^◌, ◌<◌, Some, Bool, true, false, not, ◌&&◌, ◌||◌, ◌==◌, nat_lt, refl, sym, ◌∙◌, subst, List, [], ◌∷◌, take, fault_number, Program, Row, HartState, Want, Load, Store, LoadReserved, StoreConditional, Amo, System, Cut, Faulted, fault_row, Record, EndDiffers, Refused, Replayed, Interval, Position, On, Stop, one_step, ended, fault_end, finish, left_over, found, onto, steps, first, interval_of, replayed, replayed_in, with_rows, without_rows, to_come, RowsFrom, RowsGoOn}
use Rattle.rv_meaning.specs.Execute.{Step, Quiet, Asks, step, count_up}
use Rattle.hart_replay.specs.Replay.{Next}
use Rattle.joint_replay.proofs.Follows.{Follows, follows, CountsGoUp, AsksPass, uncut}

abbrev behind : List Row → Replayed → Replayed
behind rows x = record { rows = onto rows x.rows; outcome = x.outcome }

module _ (i : Program) (h : ℕ) (v : Interval) where
  fault_behind : (p : Position) (k : Want) → fault_end i h v p k ≡ behind p.rows (fault_end i h v (without_rows p) k)
  fault_behind p (Faulted f y) = by (16 + fault_number f == v.mark.reason && (y == v.mark.value))
    where
      by : (b : Bool) → elim b as (λ x. Replayed) [ true ↦ finish (fault_row h i p.state f y ∷ p.rows) (left_over h v p) | false ↦ finish p.rows (Refused (EndDiffers h v.mark (found p.state.ic (16 + fault_number f) y))) ]
          ≡ behind p.rows (elim b as (λ x. Replayed) [ true ↦ finish (fault_row h i p.state f y ∷ []) (left_over h v (without_rows p)) | false ↦ finish [] (Refused (EndDiffers h v.mark (found p.state.ic (16 + fault_number f) y))) ])
      by true = refl
      by false = refl
  fault_behind p (Load a w s rd) = refl
  fault_behind p (LoadReserved a rd) = refl
  fault_behind p (Amo a o rd y) = refl
  fault_behind p (Store a w y) = refl
  fault_behind p (StoreConditional a rd y) = refl
  fault_behind p (System n args) = refl
  fault_behind p Cut = refl

  end_behind : (p : Position) → ended i h v p ≡ behind p.rows (ended i h v (without_rows p))
  end_behind p = by_reason (nat_lt 16 v.mark.reason)
    where
      by_step : (x : Step) → elim x as (λ y. Replayed) [ Quiet t ↦ finish p.rows (Refused (EndDiffers h v.mark (found p.state.ic 1 0))) | Asks k ↦ fault_end i h v p k ]
          ≡ behind p.rows (elim x as (λ y. Replayed) [ Quiet t ↦ finish [] (Refused (EndDiffers h v.mark (found p.state.ic 1 0))) | Asks k ↦ fault_end i h v (without_rows p) k ])
      by_step (Quiet t) = refl
      by_step (Asks k) = fault_behind p k

      by_call : (b : Bool) → elim b as (λ x. Replayed) [ true ↦ finish p.rows (Refused (EndDiffers h v.mark (found p.state.ic 1 0))) | false ↦ finish p.rows (left_over h v p) ]
          ≡ behind p.rows (elim b as (λ x. Replayed) [ true ↦ finish [] (Refused (EndDiffers h v.mark (found p.state.ic 1 0))) | false ↦ finish [] (left_over h v (without_rows p)) ])
      by_call true = refl
      by_call false = refl

      by_reason : (b : Bool) → elim b as (λ x. Replayed) [
        | true ↦ elim (step i p.state) as (λ y. Replayed) [ Quiet t ↦ finish p.rows (Refused (EndDiffers h v.mark (found p.state.ic 1 0))) | Asks k ↦ fault_end i h v p k ]
        | false ↦ elim ((v.mark.reason == 2 || (v.mark.reason == 3) || (v.mark.reason == 4)) && not p.called) as (λ x. Replayed) [ true ↦ finish p.rows (Refused (EndDiffers h v.mark (found p.state.ic 1 0))) | false ↦ finish p.rows (left_over h v p) ]
      ] ≡ behind p.rows (elim b as (λ x. Replayed) [
        | true ↦ elim (step i p.state) as (λ y. Replayed) [ Quiet t ↦ finish [] (Refused (EndDiffers h v.mark (found p.state.ic 1 0))) | Asks k ↦ fault_end i h v (without_rows p) k ]
        | false ↦ elim ((v.mark.reason == 2 || (v.mark.reason == 3) || (v.mark.reason == 4)) && not p.called) as (λ x. Replayed) [ true ↦ finish [] (Refused (EndDiffers h v.mark (found p.state.ic 1 0))) | false ↦ finish [] (left_over h v (without_rows p)) ]
      ])
      by_reason true = by_step (step i p.state)
      by_reason false = by_call ((v.mark.reason == 2 || (v.mark.reason == 3) || (v.mark.reason == 4)) && not p.called)

  steps_behind : ((s t : HartState) → step i s ≡ Quiet t → t.ic ≡ count_up s.ic) → ((s : HartState) → step i s ≡ Asks Cut → ⊥) → (n : ℕ) (p : Position) → steps i h v n p ≡ behind p.rows (to_come i h v n p)
  steps_behind counted uncut zero p = end_behind p
  steps_behind counted uncut (suc n) p = by (one_step i h v p) (follows i h v p counted uncut) (steps_behind counted uncut n)
    where
      by : (x : Next) → Follows i p x → ((q : Position) → steps i h v n q ≡ behind q.rows (to_come i h v n q))
          → elim x as (λ y. Replayed) [ On q ↦ steps i h v n q | Stop o ↦ finish p.rows o ] ≡ behind p.rows (elim x as (λ y. Replayed) [ On q ↦ with_rows (take 1 q.rows) (to_come i h v n q) | Stop o ↦ record { rows = []; outcome = o } ])
      by (Stop o) f rest = refl
      by (On q) f rest = rest q ∙ subst (λ rs. behind rs (to_come i h v n q) ≡ behind p.rows (with_rows (take 1 rs) (to_come i h v n q))) (sym f.1) refl

  pub replay_rows : ((s t : HartState) → step i s ≡ Quiet t → t.ic ≡ count_up s.ic) → ((s : HartState) → step i s ≡ Asks Cut → ⊥) → (n : ℕ) → steps i h v n (first v) ≡ to_come i h v n (first v)
  replay_rows counted uncut n = steps_behind counted uncut n (first v)

-- the rows of each interval's replay have the hart's counts, from its Header's state on
abbrev pub ReplaysGoOn : Program → List Record → Type 0
ReplaysGoOn i records = (h n : ℕ) (v : Interval) → interval_of h n records ≡ Some v → v.mark.ic < 2 ^ 64
    → RowsFrom i v.mark.ic (replayed i records h n).outcome v.start (replayed i records h n).rows

pub replays_go_on : CountsGoUp → AsksPass → RowsGoOn → (i : Program) (records : List Record) → ReplaysGoOn i records
replays_go_on counted asks rows i records h n v e fits =
    subst (λ o. RowsFrom i v.mark.ic (replayed_in i h n o).outcome v.start (replayed_in i h n o).rows) (sym e)
    (subst (λ (x : Replayed). RowsFrom i v.mark.ic x.outcome v.start x.rows) (sym (replay_rows i h v (counted i) (uncut asks i) (v.mark.ic - v.start.ic))) (rows i h v (first v) fits))
