-- The end of an interval in its replay.
use Rattle.replay_laws.proofs.Common.{◌≡◌, ℕ, ◌+◌, ◌-◌, ◌<◌, ◌≤◌, Bool, true, false, not, ◌&&◌, [], ◌∷◌, ◌++◌, length, sym, ◌∙◌, ap, arith, ◌==◌, ◌||◌, nat_lt, eq-eqb, nat_tests, append-nil, fault_number, Program, EndMark, Fault, Quiet, Asks, step, Faulted, fault_row, Interval, Position, Replayed, Outcome, Logged, taken_from, left_over, ended, finish, found, fault_end, Done, Refused, RecordsLeft, EndDiffers, mark, and_from}
use Rattle.bn_base.specs.declared.fault.Fault.TheVariants as faults
use Rattle.replay_laws.proofs.Places.{taken_all}
use Rattle.replay_laws.proofs.Step.{StillHolds}

-- nothing is left
pub none_left : (h : ℕ) (v : Interval) (s : ℕ) (l : Logged) (p : Position) → StillHolds v s l p.loads p.conditionals → l.loads ≡ [] → l.conditionals ≡ []
    → left_over h v p ≡ Done
none_left h v s l p g e f =
    let a : v.loads ≡ g.taken ++ [] = g.loads_are ∙ ap (λ x. g.taken ++ x) e in
    let a2 : length v.loads ≡ length g.taken = ap length (a ∙ append-nil g.taken) in
    let t : taken_from 0 v.loads p.loads ≡ length g.taken = ap (λ x. taken_from 0 x p.loads) a ∙ taken_all g.taken p.loads (omega (arith, g.place)) in
    let b : length v.conditionals ≡ length g.passed = ap length (g.conditionals_are ∙ (ap (λ x. g.passed ++ x) f ∙ append-nil g.passed)) in
    let z : (length v.loads - taken_from 0 v.loads p.loads) + (length v.conditionals - p.conditionals) ≡ 0 = omega (arith, g.slot_at) in
    ap (λ n. elim (n == 0) as (λ y. Outcome) [ true ↦ Done | false ↦ Refused (RecordsLeft h n) ]) z

-- whether a reason is that of a call, an exit or an exit of the group
abbrev pub is_call : ℕ → Bool
is_call r = r == 2 || (r == 3) || (r == 4)

-- another end than the mark says
abbrev differs : ℕ → Interval → Position → Replayed
differs h v p = finish p.rows (Refused (EndDiffers h v.mark (found p.state.ic 1 0)))

-- the end by whether the mark is a fault
abbrev ended_by : Program → ℕ → Interval → Position → Bool → Replayed
ended_by i h v p x = elim x [
  | true ↦ elim (step i p.state) as (λ y. Replayed) [ Quiet t ↦ differs h v p | Asks k ↦ fault_end i h v p k ]
  | false ↦ elim (is_call v.mark.reason && not p.called) as (λ y. Replayed) [ true ↦ differs h v p | false ↦ finish p.rows (left_over h v p) ]
]

plain_end : (i : Program) (h : ℕ) (v : Interval) (p : Position) → nat_lt 16 v.mark.reason ≡ false → (is_call v.mark.reason && not p.called) ≡ false
    → left_over h v p ≡ Done → ended i h v p ≡ finish p.rows Done
plain_end i h v p e f d =
    ap (ended_by i h v p) e
    ∙ (ap (λ x. elim x as (λ y. Replayed) [ true ↦ differs h v p | false ↦ finish p.rows (left_over h v p) ]) f
    ∙ ap (finish p.rows) d)

-- an end that is no fault, by its mark
pub plain_marked : (i : Program) (h : ℕ) (v : Interval) (p : Position) (ic r x : ℕ) → v.mark ≡ mark ic r x → nat_lt 16 r ≡ false → (is_call r && not p.called) ≡ false
    → left_over h v p ≡ Done → ended i h v p ≡ finish p.rows Done
plain_marked i h v p ic r x m e f d = plain_end i h v p (ap (λ (k : EndMark). nat_lt 16 k.reason) m ∙ e) (ap (λ (k : EndMark). is_call k.reason && not p.called) m ∙ f) d

positive : (f : Fault) → 1 ≤ fault_number f
positive faults.Illegal = omega arith
positive f = omega arith

-- a fault's reason is above 16
pub above : (f : Fault) (r : ℕ) → r ≡ 16 + fault_number f → nat_lt 16 r ≡ true
above f r e = let q : 1 ≤ fault_number f = positive f in let z : 16 < r = omega (arith, e, q) in grind (arith, nat_tests)

-- an end that is a fault, by its mark
pub fault_marked : (i : Program) (h : ℕ) (v : Interval) (p : Position) (ic : ℕ) (f : Fault) (y : ℕ) → v.mark ≡ mark ic (16 + fault_number f) y
    → step i p.state ≡ Asks (Faulted f y) → left_over h v p ≡ Done → ended i h v p ≡ finish (fault_row h i p.state f y ∷ p.rows) Done
fault_marked i h v p ic f y m s d =
    let r : v.mark.reason ≡ 16 + fault_number f = ap (λ (k : EndMark). k.reason) m in
    let x : y ≡ v.mark.value = sym (ap (λ (k : EndMark). k.value) m) in
    let over : nat_lt 16 v.mark.reason ≡ true = above f v.mark.reason r in
    ap (ended_by i h v p) over
    ∙ (ap (λ z. elim z as (λ y. Replayed) [ Quiet t ↦ differs h v p | Asks k ↦ fault_end i h v p k ]) s
    ∙ (ap (λ z. elim z as
    (λ u. Replayed) [
      | true ↦ finish (fault_row h i p.state f y ∷ p.rows) (left_over h v p)
      | false ↦ finish p.rows
          (Refused (EndDiffers h v.mark (found p.state.ic (16 + fault_number f) y)))
    ])
    (and_from (16 + fault_number f == v.mark.reason) (y == v.mark.value) (eq-eqb _ _ (sym r)) (eq-eqb _ _ x))
    ∙ ap (finish (fault_row h i p.state f y ∷ p.rows)) d))
