-- Counts of failed calls: they never fall, and a refusal comes only in a call in which its count rose.
use Rattle.std.specs.Prelude.{◌≡◌, ℕ, ◌+◌, ◌-◌, ◌^◌, ◌<◌, ◌≤◌, ◌⊎◌, min, Result, Ok, Err, ⊤}
use Rattle.bn_outside.specs.declared.loops.ReadError.{ReadError}
use Rattle.bn_outside.specs.declared.loops.ReadError.TheVariants as read
use Rattle.bn_outside.specs.declared.store.LoadError.{LoadError}
use Rattle.bn_outside.specs.declared.store.LoadError.TheVariants as load
use Rattle.bn_outside.specs.declared.store.SaveError.{SaveError}
use Rattle.bn_outside.specs.declared.store.SaveError.TheVariants as save

-- the value at which a count stands still
abbrev pub last_count : ℕ
last_count = 2 ^ 64 - 1

-- a count after one more was counted
abbrev pub counted : ℕ → ℕ
counted count = min (count + 1) last_count

-- a count rose in a call: it is greater after it, or stands at its last value
abbrev pub Rose : ℕ → ℕ → Type 0
Rose before after = (before < after) ⊎ (after ≡ last_count)

-- a call that went well leaves the count of faults as it was, and one that failed adds one
abbrev pub CountsFault : {T E : Type 0} → ℕ → ℕ → Result T E → Type 0
CountsFault before after (Ok value) = after ≡ before
CountsFault before after (Err error) = after ≡ counted before

-- a read to the end counts one fault if it failed, and else none
abbrev pub ReadCounts : {T : Type 0} → ℕ → ℕ → Result T ReadError → Type 0
ReadCounts before after (Err read.Failed) = after ≡ counted before
ReadCounts before after (Err read.TooLong) = after ≡ before
ReadCounts before after (Err read.OutOfMemory) = after ≡ before
ReadCounts before after (Ok value) = after ≡ before

-- how often a store had no such name, had more bytes than the limit, and failed
pub record Counts : Type 0 where
  pub misses : ℕ
  pub longs : ℕ
  pub faults : ℕ

-- before the first refusal
abbrev pub zero_counts : Counts
zero_counts = record { misses = 0; longs = 0; faults = 0 }

-- no count of a store fell
pub record NoneFell (before after : Counts) : Type 0 where
  pub misses : before.misses ≤ after.misses
  pub longs : before.longs ≤ after.longs
  pub faults : before.faults ≤ after.faults

-- each refusal of a load, but for out of memory, has a count, and that count rose
abbrev pub LoadCause : {T : Type 0} → Counts → Counts → Result T LoadError → Type 0
LoadCause before after (Ok value) = ⊤
LoadCause before after (Err load.Missing) = Rose before.misses after.misses
LoadCause before after (Err load.TooLong) = Rose before.longs after.longs
LoadCause before after (Err load.Failed) = Rose before.faults after.faults
LoadCause before after (Err load.OutOfMemory) = ⊤

-- a save that failed was counted
abbrev pub SaveCause : {T : Type 0} → Counts → Counts → Result T SaveError → Type 0
SaveCause before after (Ok value) = ⊤
SaveCause before after (Err save.Failed) = Rose before.faults after.faults
SaveCause before after (Err save.OutOfMemory) = ⊤
