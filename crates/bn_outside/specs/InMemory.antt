-- What callers see of a store, a source and a sink in memory.
use Rattle.std.specs.Prelude.{ℕ, List, [], Result, Ok, Err, String, Vec, map, string_bytes}
use Rattle.std.specs.Map.{lookup}
use Rattle.std.specs.Str.{bytes_eq}
use Rattle.bn_outside.specs.Calls.{Calls, fresh_calls}
use Rattle.bn_outside.specs.Counts.{Counts, counted, zero_counts}
use Rattle.bn_outside.specs.Files.{Files}
use Rattle.bn_outside.specs.declared.store.LoadError.{LoadError}
use Rattle.bn_outside.specs.declared.store.LoadError.TheVariants as load
use Rattle.bn_outside.specs.declared.store.SaveError.{SaveError}
use Rattle.bn_outside.specs.declared.store.SaveError.TheVariants as save

-- a source: the bytes left, the most that one read gives, its calls, and how many of them failed
pub record SourceState : Type 0 where
  pub left : List ℕ
  pub most : ℕ
  pub calls : Calls
  pub faults : ℕ

-- a sink: the bytes that it was given, the most that one write takes, its calls, and how many of them failed
pub record SinkState : Type 0 where
  pub written : List ℕ
  pub most : ℕ
  pub calls : Calls
  pub faults : ℕ

-- a store: the names in order, each with its bytes, its calls and its counts, and how many saves it was asked for
pub record StoreState : Type 0 where
  pub entries : List (List ℕ × List ℕ)
  pub calls : Calls
  pub counts : Counts
  pub saves : ℕ

-- a source of these bytes before its first call
abbrev pub source_over : List ℕ → ℕ → List ℕ → SourceState
source_over bytes most failing = record { left = bytes; most = most; calls = fresh_calls failing; faults = 0 }

-- a sink before its first call
abbrev pub empty_sink : ℕ → List ℕ → SinkState
empty_sink most failing = record { written = []; most = most; calls = fresh_calls failing; faults = 0 }

-- a store with no file before its first call
abbrev pub empty_store : List ℕ → StoreState
empty_store failing = record { entries = []; calls = fresh_calls failing; counts = zero_counts; saves = 0 }

-- the names and bytes that a map keeps
abbrev pub entries_of : {A B : Type 0} → List (String A × Vec ℕ B) → List (List ℕ × List ℕ)
entries_of kept = map (λ entry. (string_bytes entry.0, entry.1.items)) kept

-- the bytes under each name
abbrev pub files_in : List (List ℕ × List ℕ) → Files
files_in entries name = lookup (bytes_eq name) entries

-- a store's counts after a load
abbrev pub counts_after_load : {T : Type 0} → Result T LoadError → Counts → Counts
counts_after_load (Ok value) counts = counts
counts_after_load (Err load.Missing) counts = record counts { misses = counted counts.misses }
counts_after_load (Err load.TooLong) counts = record counts { longs = counted counts.longs }
counts_after_load (Err load.Failed) counts = record counts { faults = counted counts.faults }
counts_after_load (Err load.OutOfMemory) counts = counts

-- a store's counts after a save
abbrev pub counts_after_save : {T : Type 0} → Result T SaveError → Counts → Counts
counts_after_save (Ok value) counts = counts
counts_after_save (Err save.Failed) counts = record counts { faults = counted counts.faults }
counts_after_save (Err save.OutOfMemory) counts = counts
