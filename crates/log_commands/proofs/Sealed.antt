-- A log of version 1 that was read ends with the digest of its bytes before.
use Rattle.log_commands.proofs.Common.{◌≡◌, ℕ, ◌+◌, List, length, Bool, true, false, Ok, sym, ap, subst, ◌∙◌, sha256, Content, IsPairOfBytes, JointReading}
use Rattle.std.proofs.Math.Seq.{take-append_seam, drop-append_seam}
use Rattle.std.proofs.lemmas.Bool.{false≢true}
use Rattle.std.proofs.lemmas.List.{length-append}
use Rattle.sha2.proofs.Facts256.{length-sha256}
use Rattle.log_file.specs.Layout.{file_bytes, file_bytes2}
use Rattle.log_blocks.specs.Faults.{is_second}
use Rattle.run_files.specs.Audits.{is_version2, sealed, IsSealed, FilesNumberTheirVersion}
use Rattle.log_commands.proofs.SamePair.{reads-so}

sealed-so : (bytes : List ℕ) → IsSealed (sealed bytes)
sealed-so bytes = record {
  size = length bytes;
  rest = sym (length-append bytes (sha256 bytes) ∙ ap (λ (n : ℕ). length bytes + n) (length-sha256 bytes));
  digest = drop-append_seam bytes (sha256 bytes) ∙ ap sha256 (sym (take-append_seam bytes (sha256 bytes)));
}

-- the bytes are the spelling of a log in this version
abbrev spelled-in : Bool → List ℕ → Content → Type 0
spelled-in second log d = elim second [ true ↦ log ≡ file_bytes2 d | false ↦ (d.head.settings.format ≡ 1) × (log ≡ file_bytes d) ]

by-version : (log : List ℕ) (d : Content) (second : Bool) → FilesNumberTheirVersion → is_version2 log ≡ false → spelled-in second log d → IsSealed log
by-version log d true law first e = absurd (false≢true (sym first ∙ ap is_version2 e ∙ (law d).0))
by-version log d false law first e = subst IsSealed (sym e.1) (sealed-so _)

pub sealed-log : (log elf : List ℕ) (p : JointReading) → IsPairOfBytes log elf (Ok p) → FilesNumberTheirVersion → is_version2 log ≡ false → IsSealed log
sealed-log log elf p m law first = by-version log p.log (is_second log) law first (reads-so log elf p m.says m.reads m.is).reads.1
