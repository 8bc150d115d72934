-- Records that say nothing of some part of an interval.
use Rattle.hart_replay.proofs.Common.{◌≡◌, ℕ, ◌==◌, Bool, true, false, ◌∷◌, refl, FirstLoad, ScOk, ScFailed, Logged, put}

same_loads : (b : Bool) (m l : Logged) → m.loads ≡ l.loads → (elim b as (λ x. Logged) [ true ↦ m | false ↦ l ]).loads ≡ l.loads
same_loads true m l e = e
same_loads false m l e = refl

same_conditionals : (b : Bool) (m l : Logged) → m.conditionals ≡ l.conditionals → (elim b as (λ x. Logged) [ true ↦ m | false ↦ l ]).conditionals ≡ l.conditionals
same_conditionals true m l e = e
same_conditionals false m l e = refl

same_mark : (b : Bool) (m l : Logged) → m.mark ≡ l.mark → (elim b as (λ x. Logged) [ true ↦ m | false ↦ l ]).mark ≡ l.mark
same_mark true m l e = e
same_mark false m l e = refl

pub loads_of_ok : (h k : ℕ) (l : Logged) → (put h (ScOk k) l).loads ≡ l.loads
loads_of_ok h k l = same_loads (k == h) (record { loads = l.loads; conditionals = true ∷ l.conditionals; mark = l.mark }) l refl

pub loads_of_failed : (h k : ℕ) (l : Logged) → (put h (ScFailed k) l).loads ≡ l.loads
loads_of_failed h k l = same_loads (k == h) (record { loads = l.loads; conditionals = false ∷ l.conditionals; mark = l.mark }) l refl

pub conditionals_of_load : (h k skip value : ℕ) (l : Logged) → (put h (FirstLoad k skip value) l).conditionals ≡ l.conditionals
conditionals_of_load h k skip value l = same_conditionals (k == h) (record { loads = (skip, value) ∷ l.loads; conditionals = l.conditionals; mark = l.mark }) l refl

pub mark_of_load : (h k skip value : ℕ) (l : Logged) → (put h (FirstLoad k skip value) l).mark ≡ l.mark
mark_of_load h k skip value l = same_mark (k == h) (record { loads = (skip, value) ∷ l.loads; conditionals = l.conditionals; mark = l.mark }) l refl

pub mark_of_ok : (h k : ℕ) (l : Logged) → (put h (ScOk k) l).mark ≡ l.mark
mark_of_ok h k l = same_mark (k == h) (record { loads = l.loads; conditionals = true ∷ l.conditionals; mark = l.mark }) l refl

pub mark_of_failed : (h k : ℕ) (l : Logged) → (put h (ScFailed k) l).mark ≡ l.mark
mark_of_failed h k l = same_mark (k == h) (record { loads = l.loads; conditionals = false ∷ l.conditionals; mark = l.mark }) l refl
