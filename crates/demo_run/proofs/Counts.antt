-- The rows of replays, counted one after another, and sums over the last marks of harts.
use Rattle.demo_run.proofs.Common.{◌≡◌, ℕ, zero, suc, ◌+◌, ◌*◌, ◌^◌, ◌<◌, ◌≤◌, Bool, true, false, List, [], ◌∷◌, length, drop, Option, Some, None, slice_index_or, ◌==◌, ◌&&◌, sym, ap, subst, arith, Program, Record, Done, Replayed, Interval, interval_of, EndMark, Content, rows_in, ComesToEnd, AllComeToEnd, counts_in}
use Rattle.log_record.specs.declared.record.Record.TheVariants.{Header}
use Rattle.hart_replay.specs.Coming.{Replaying, Begins}

-- of the rows of a replay that goes to its End so many were given, and these are left
pub record Counting (whole rest : Replayed) (count : ℕ) : Type 0 where
  pub so_far : count + length rest.rows ≡ length whole.rows
  pub done : rest.outcome ≡ Done
  pub few : length whole.rows ≤ 2 ^ 64

-- the rows of the intervals that the first k records begin are counted, at most 2 ^ 64 of each
pub record Adding (i : Program) (log : List Record) (k sum : ℕ) : Type 0 where
  pub so_far : sum + rows_in i log (drop k log) ≡ rows_in i log log
  pub bound : sum ≤ k * 2 ^ 64

-- ---- the interval that a Header of a log begins is one that the log has

there-or : (t : Bool) (v : Interval) (later : Option Interval) → (later ≡ None → ⊥) → elim t as (λ x. Option Interval) [ true ↦ Some v | false ↦ later ] ≡ None → ⊥
there-or true v later h e = grind arith
there-or false v later h e = h e

first-there : (t : Bool) (v : Interval) (later : Option Interval) → t ≡ true → elim t as (λ x. Option Interval) [ true ↦ Some v | false ↦ later ] ≡ None → ⊥
first-there true v later h e = grind arith
first-there false v later h e = grind arith

same-header : (hart n ic pc : ℕ) (x : List ℕ) (k m jc qc : ℕ) (y : List ℕ) → Header k m jc qc y ≡ Header hart n ic pc x → (k == hart && (m == n)) ≡ true
same-header hart n ic pc x k m jc qc y e = grind arith

header-there : (hart n ic pc : ℕ) (x : List ℕ) (rs : List Record) (place : ℕ) (other : Record) → place < length rs → slice_index_or rs place other ≡ Header hart n ic pc x → interval_of hart n rs ≡ None → ⊥
header-there hart n ic pc x [] place other low is none = omega (arith, low)
header-there hart n ic pc x (Header k m jc qc y ∷ rs) zero other low is none = first-there _ _ (interval_of hart n rs) (same-header hart n ic pc x k m jc qc y is) none
header-there hart n ic pc x (Header k m jc qc y ∷ rs) (suc p) other low is none = there-or _ _ (interval_of hart n rs) (header-there hart n ic pc x rs p other (omega (arith, low)) is) none
header-there hart n ic pc x rs zero other low is none = absurd cc
header-there hart n ic pc x (r ∷ rs) (suc p) other low is none = header-there hart n ic pc x rs p other (omega (arith, low)) is none

-- so it is of the records that a call hands over, for the Header's hart as a wider number
pub has-interval : (h hart n ic pc : ℕ) (x : List ℕ) (rs records : List Record) (place : ℕ) (other : Record) → h ≡ hart → rs ≡ records → place < length records
    → slice_index_or rs place other ≡ Header hart n ic pc x → interval_of h n records ≡ None → ⊥
has-interval h hart n ic pc x rs records place other same e low is none =
    header-there hart n ic pc x records place other low (subst (λ (xs : List Record). slice_index_or xs place other ≡ Header hart n ic pc x) e is)
    (subst (λ (k : ℕ). interval_of k n records ≡ None) same none)

-- ---- a replay that was begun comes to its End

pub begun-ends : (i : Program) (d : Content) (h n : ℕ) (r : Replaying) → AllComeToEnd i d → (b : Begins i h n d.records r) → ComesToEnd b.interval r.left
begun-ends i d h n r ends b = subst (λ (x : Replayed). ComesToEnd b.interval x) (sym b.left) (ends h n b.interval b.found)

pub begun-few : (i : Program) (d : Content) (h n : ℕ) (r : Replaying) → AllComeToEnd i d → Begins i h n d.records r → r.mark.ic < 2 ^ 64 → length r.left.rows ≤ 2 ^ 64
begun-few i d h n r ends b low =
    let few : length r.left.rows ≤ b.interval.mark.ic + 1 = (begun-ends i d h n r ends b).few in
    let same : r.mark.ic ≡ b.interval.mark.ic = ap (λ (m : EndMark). m.ic) b.mark in
    omega (arith, few, same, low)

-- ---- the last marks of harts

-- the counts of the first k marks sum to this, and each is below 2 ^ 64
pub record Summing (marks : List (Option EndMark)) (k sum : ℕ) : Type 0 where
  pub so_far : sum + counts_in (drop k marks) ≡ counts_in marks
  pub bound : sum ≤ k * 2 ^ 64
