-- An interval has no more first loads and store-conditionals than there are records.
use Rattle.hart_replay.proofs.Common.{ℕ, suc, ◌≤◌, ◌==◌, Bool, true, false, List, [], ◌∷◌, length, drop, arith, length-drop, Record, Header, FirstLoad, ScOk, ScFailed, Edge, End, Logged, put, puts, nothing, loads_in, conditionals_in}

-- of one record
abbrev pub Few : Logged → ℕ → Type 0
Few l n = (length l.loads ≤ n) × (length l.conditionals ≤ n)

by_hart : (b : Bool) (m l : Logged) (n : ℕ) → Few m (suc n) → Few l n → Few (elim b as (λ x. Logged) [ true ↦ m | false ↦ l ]) (suc n)
by_hart true m l n f g = f
by_hart false m l n f g = (omega (arith, g.0), omega (arith, g.1))

one_more : (h : ℕ) (r : Record) (l : Logged) (n : ℕ) → Few l n → Few (put h r l) (suc n)
one_more h (Header k c ic pc x) l n f = (omega (arith, f.0), omega (arith, f.1))
one_more h (FirstLoad k skip value) l n f = by_hart (k == h) (record { loads = (skip, value) ∷ l.loads; conditionals = l.conditionals; mark = l.mark }) l n (omega (arith, f.0), omega (arith, f.1)) f
one_more h (ScOk k) l n f = by_hart (k == h) (record { loads = l.loads; conditionals = true ∷ l.conditionals; mark = l.mark }) l n (omega (arith, f.0), omega (arith, f.1)) f
one_more h (ScFailed k) l n f = by_hart (k == h) (record { loads = l.loads; conditionals = false ∷ l.conditionals; mark = l.mark }) l n (omega (arith, f.0), omega (arith, f.1)) f
one_more h (Edge k ic s j) l n f = (omega (arith, f.0), omega (arith, f.1))
one_more h (End k m) l n f = by_hart (k == h) (record { loads = []; conditionals = []; mark = m }) l n (omega arith, omega arith) f

few : (h : ℕ) (rs : List Record) → Few (puts h rs nothing) (length rs)
few h [] = (omega arith, omega arith)
few h (r ∷ rs) = one_more h r (puts h rs nothing) (length rs) (few h rs)

pub few_loads : (h k : ℕ) (rs : List Record) → length (loads_in h (drop k rs)) ≤ length rs
few_loads h k rs = let e = (few h (drop k rs)).0 in omega (arith, e, length-drop k rs)

pub few_conditionals : (h k : ℕ) (rs : List Record) → length (conditionals_in h (drop k rs)) ≤ length rs
few_conditionals h k rs = let e = (few h (drop k rs)).1 in omega (arith, e, length-drop k rs)
