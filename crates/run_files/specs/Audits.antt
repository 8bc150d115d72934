-- What an audit compares, and what it finds.
use Rattle.std.specs.Prelude.{◌≡◌, ◌≢◌, ℕ, ◌+◌, ◌<◌, ◌≤◌, ◌==◌, ◌⊎◌, Bool, true, false, List, [], ◌∷◌, ◌++◌, length, take, drop, get_or, replicate, slice_get, Option}
use Rattle.std.specs.Str.{bytes_eq}
use Rattle.log_file.specs.Common.{sha256}
use Rattle.bn_base.specs.Programs.{Program}
use Rattle.bn_base.specs.declared.settings.RawSettings.{RawSettings}
use Rattle.log_order.specs.Content.{Content}
use Rattle.log_file.specs.Layout.{file_bytes, file_bytes2, saved_bytes}
use Rattle.run_model.specs.declared.error.TurnError.{TurnError}
use Rattle.run_files.specs.declared.verdict.Verdict.{Verdict}
use Rattle.run_files.specs.declared.verdict.Verdict.TheVariants.{Agree, Differ}
use Rattle.run_model.specs.KeptRecords.{content_of}
use Rattle.run_model.specs.Lists.{list_error}
use Rattle.run_model.specs.Represents.Plain.{PlainParts, IsRun}
use Rattle.run_model.specs.Runs.{start, run_from, run_of, is_live}
use Rattle.run_model.specs.Turn.{Run}
use Rattle.run_model.specs.Examples.{Recording, program_of}

-- ---- the file that a log is compared with

-- the bytes 8 to 11 of a log file are the number of its version; here it is 2
abbrev pub is_version2 : (log : List ℕ) → Bool
is_version2 log = bytes_eq (take 4 (drop 8 log)) (2 ∷ 0 ∷ 0 ∷ 0 ∷ [])

-- the file of the run of a list of turns in version 2, whatever the format of the settings
abbrev pub version2_of : RawSettings → Program → (digest input : List ℕ) → List ℕ → List ℕ
version2_of c i digest input b = file_bytes2 (content_of c digest (run_of c i input b))

-- a log in version 2, or in the version of its settings' format
abbrev pub bytes_in : (second : Bool) → Content → List ℕ
bytes_in true d = file_bytes2 d
bytes_in false d = saved_bytes d

-- the file of the run of a list of turns. A log of version 2 is compared with the run's file in that version, whatever the
-- format; any other log with the file that the recording saves
abbrev pub audited_file : (second : Bool) → RawSettings → Program → (digest input : List ℕ) → List ℕ → List ℕ
audited_file second c i digest input b = bytes_in second (content_of c digest (run_of c i input b))

-- a file of version 2 has the number of version 2, and one of version 1 hasn't
abbrev pub FilesNumberTheirVersion : Type 0
FilesNumberTheirVersion = (d : Content) → (is_version2 (file_bytes2 d) ≡ true) × (is_version2 (file_bytes d) ≡ false)

-- bytes with their digest
abbrev pub sealed : List ℕ → List ℕ
sealed bytes = bytes ++ sha256 bytes

-- a file ends with the digest of its bytes before, which are so many
pub record IsSealed (file : List ℕ) : Type 0 where
  pub size : ℕ
  pub rest : size + 32 ≡ length file
  pub digest : drop size file ≡ sha256 (take size file)

-- ---- the verdict

-- the first place at which two lists of bytes differ, or one of the two ends: up to there they are the same, and there they
-- aren't
pub record DifferFirst (xs ys : List ℕ) (place : ℕ) : Type 0 where
  pub before : take place xs ≡ take place ys
  pub there : slice_get xs place ≢ slice_get ys place

-- the log is the file, or the verdict is the first place at which they differ
abbrev pub IsVerdict : (file log : List ℕ) → Verdict → Type 0
IsVerdict file log Agree = log ≡ file
IsVerdict file log (Differ place) = DifferFirst log file place

-- the verdict as a function of the bytes from a place on
abbrev pub verdict_from : ℕ → (file log : List ℕ) → Verdict
verdict_from place [] [] = Agree
verdict_from place [] (y ∷ ys) = Differ place
verdict_from place (x ∷ xs) [] = Differ place
verdict_from place (x ∷ xs) (y ∷ ys) = elim (x == y) [ true ↦ verdict_from (place + 1) xs ys | false ↦ Differ place ]

-- the verdict as a function of the bytes
abbrev pub verdict_of : (file log : List ℕ) → Verdict
verdict_of file log = verdict_from 0 file log

-- bytes have one verdict: they agree exactly if they are those of the file, and else differ first at one place
pub record VerdictsAreUnique : Type 0 where
  pub one : (file log : List ℕ) (v w : Verdict) → IsVerdict file log v → IsVerdict file log w → v ≡ w
  pub is : (file log : List ℕ) → IsVerdict file log (verdict_of file log)

-- ---- the turns of a list

-- so many turns of hart 0 a list begins with, and no more
pub record BeginsWithZeros (list : List ℕ) (count : ℕ) : Type 0 where
  pub within : count ≤ length list
  pub zeros : take count list ≡ replicate count 0
  pub next : count < length list → get_or list count 0 ≢ 0

-- ---- out of memory

-- a machine stands in this run. With one hart it may have done a part of the next turn: then it has taken as many turns
abbrev pub StandsIn : RawSettings → Run → PlainParts → Type 0
StandsIn c run p = IsRun p run ⊎ ((c.harts ≡ 1) × (p.turns ≡ run.turns))

-- a machine stands before a turn of a list whose hart is live then; with these settings, program and run it began
pub record StandsBefore (c : RawSettings) (i : Program) (run : Run) (list : List ℕ) (p : PlainParts) : Type 0 where
  pub at : ℕ
  pub within : at < length list
  pub stands : StandsIn c (run_from c i run (take at list)) p
  pub live : is_live c (run_from c i run (take at list)) (get_or list at 0) ≡ true

-- so it stands in a recording with this input, from its first turn on
abbrev pub StandsWithin : RawSettings → Program → List ℕ → List ℕ → PlainParts → Type 0
StandsWithin c i input list p = StandsBefore c i (start c i input) list p

-- ---- small recordings

-- what is wrong with a list of turns of what is recorded
abbrev pub error_in : Recording → List ℕ → Option TurnError
error_in e list = list_error e.settings (program_of e) e.input list
