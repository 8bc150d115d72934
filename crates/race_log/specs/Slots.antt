-- How the kept accesses of a word are stored in slots.
use Rattle.std.specs.Prelude.{◌≡◌, ℕ, zero, suc, ◌+◌, ◌-◌, ◌*◌, ◌<◌, ◌==◌, nat_lt, Bool, false, ◌||◌, cond, IsTrue, if◌then◌else◌}
use Rattle.std.specs.Prelude.{List, [], ◌∷◌, ◌++◌, length, filter, slice_get, slice_index, Option, Some, None, Vec}
use Rattle.std.specs.Global.{Global}
use Rattle.vector_time.specs.Times.{count_of}
use Rattle.race_log.specs.declared.mode.Mode.{Mode}
use Rattle.race_log.specs.declared.mode.Mode.TheVariants.{Read, Write}
use Rattle.race_log.specs.declared.slot.Slot.{Slot}
use Rattle.race_log.specs.declared.slot.FoundAccess.{FoundAccess}
use Rattle.race_log.specs.declared.epochs.Epoch.{Epoch}
use Rattle.race_log.specs.Kept.{Kept, Replaces}
use Rattle.race_log.specs.Sweep.{sum_below}

-- the counts of an epoch's other harts, 0 if there is no epoch
abbrev pub counts_of : Option Epoch → ℕ → ℕ
counts_of None hart = 0
counts_of (Some s) hart = count_of s.times hart

-- the counts of an epoch's other harts, by its number
abbrev pub counts_in : List Epoch → ℕ → ℕ → ℕ
counts_in table epoch = counts_of (slice_get table epoch)

-- the counts after a point of the hart in an epoch: its own, and those of the epoch
abbrev pub counts_past : (ℕ → ℕ) → (hart after : ℕ) → ℕ → ℕ
counts_past counts hart after h = if h == hart then after else counts h

-- what is kept by a turn, a count and an epoch, which are those of a point of the hart
abbrev pub kept_by : (ℕ → ℕ → ℕ) → Mode → (hart turn after epoch : ℕ) → Kept
kept_by counts mode hart turn after epoch =
    record { turn = turn; hart = hart; ic = after - 1; mode = mode; times = counts_past (counts epoch) hart after }

-- what a slot keeps, as an access of the hart: nothing if the count after it is 0
abbrev pub kept_here : (ℕ → ℕ → ℕ) → Mode → ℕ → Slot → List Kept
kept_here counts mode hart s = cond (s.after == 0) [] (kept_by counts mode hart s.turn s.after s.epoch ∷ [])

-- the write in a word's first slot
abbrev pub write_in : (ℕ → ℕ → ℕ) → Option Slot → List Kept
write_in counts None = []
write_in counts (Some s) = kept_here counts Write s.hart s

-- the read in the slot of a hart
abbrev pub read_in : (ℕ → ℕ → ℕ) → ℕ → Option Slot → List Kept
read_in counts hart None = []
read_in counts hart (Some s) = kept_here counts Read hart s

-- the reads of so many harts from one on, whose slots follow each other
abbrev pub reads_in : (ℕ → ℕ → ℕ) → List Slot → (at hart n : ℕ) → List Kept
reads_in counts page at hart zero = []
reads_in counts page at hart (suc n) = read_in counts hart (slice_get page (at + hart)) ++ reads_in counts page at (suc hart) n

-- what is kept of the word whose slots begin there: a write, and a read of each hart
abbrev pub word_in : (ℕ → ℕ → ℕ) → (harts : ℕ) → List Slot → ℕ → List Kept
word_in counts harts page at = write_in counts (slice_get page at) ++ reads_in counts page (at + 1) 0 harts

-- an access that a search found
abbrev pub found_as : (ℕ → ℕ → ℕ) → Option FoundAccess → Option Kept
found_as counts None = None
found_as counts (Some f) = Some (kept_by counts f.mode f.hart f.turn f.after f.epoch)

-- whether an epoch's number is marked as used
abbrev pub is_marked : Option Epoch → Bool
is_marked None = false
is_marked (Some s) = s.used

-- how many epochs are marked as used
abbrev pub marks_in : List Epoch → ℕ
marks_in table = length (filter (λ (e : Epoch). e.used) table)

-- whether an epoch is pinned: the next one that begins can't take its place
abbrev pub is_settled : List Epoch → (next epoch : ℕ) → Bool
is_settled table next epoch = nat_lt epoch next || is_marked (slice_get table epoch)

-- a page's slots all name pinned epochs
abbrev pub IsSettledPage : List Epoch → ℕ → List Slot → Type 0
IsSettledPage table next page = (at : ℕ) (s : Slot) → slice_get page at ≡ Some s → IsTrue (is_settled table next s.epoch)

-- if a page's slots name pinned epochs, so do its slots when one more names the epoch
abbrev pub StaysSettled : (old new : List Slot) → ℕ → Type 0
StaysSettled old new epoch = (table : List Epoch) (next : ℕ) → IsTrue (is_settled table next 0) → IsTrue (is_settled table next epoch)
    → IsSettledPage table next old → IsSettledPage table next new

-- an access is kept in the slots of the word that begin there, whatever the counts of epochs are
abbrev pub KeepsIn : (harts : ℕ) (old new : List Slot) (at : ℕ) → Mode → Slot → Type 0
KeepsIn harts old new at mode s = (counts : ℕ → ℕ → ℕ)
    → Replaces (kept_by counts mode s.hart s.turn s.after s.epoch) (word_in counts harts old at) (word_in counts harts new at)

-- the slots of a page
abbrev pub slots_of : Option (Vec Slot Global) → List Slot
slots_of None = []
slots_of (Some v) = v.items

-- how many slots the pages have together
abbrev pub slots_in : List (Vec Slot Global) → ℕ
slots_in pages = sum_below (λ n. length (slots_of (slice_get pages n))) (length pages)

-- all pages' slots name pinned epochs
abbrev pub AreSettled : List Epoch → ℕ → List (Vec Slot Global) → Type 0
AreSettled table next pages = (n : ℕ) → IsSettledPage table next (slots_of (slice_get pages n))

-- the harts' present epochs are pinned
abbrev pub AreSettledNow : List Epoch → ℕ → List ℕ → Type 0
AreSettledNow table next present = (hart : ℕ) → IsTrue (is_settled table next (slice_index present hart))

-- pages have no slots, or those of 64 words of so many harts
abbrev pub AreFull : (harts : ℕ) → List (Vec Slot Global) → Type 0
AreFull harts pages = (n : ℕ) → 0 < length (slots_of (slice_get pages n)) → length (slots_of (slice_get pages n)) ≡ 64 * (harts + 1)
