-- Logs that are made of others.
use Rattle.log_commands.proofs.Common.{◌≡◌, ℕ, List, [], Some, ◌∙◌, ap, refl, Ok, Err, Content, LogCounts, IsSalvageRefusal, FileNames, check_line, Told, refused, renewed, salvage_refusal, IsBySalvage, saved_new, told_of_new, NewLog, ◌≢◌}
use Rattle.log_file.specs.Layout.{file_bytes2}
use Rattle.log_file.specs.Counts.{counts_of}
use Rattle.log_blocks.specs.Counts.{RenewsSalvaged}
use Rattle.log_blocks.specs.declared.damage.SalvageError.{SalvageError}
use Rattle.log_blocks.specs.declared.damage.SalvageError.TheVariants.{OutOfMemory}
use Rattle.log_blocks.specs.declared.salvaging.NewFile.{NewFile}

-- ---- what is told

abbrev told_with : List ℕ → List ℕ → Told
told_with out file = record { status = 0; out = out; err = []; saved = Some (saved_new file) }

-- the file of a log, and its counts
pub renewed-told : (n : NewLog) (d : Content) → n.file.items ≡ file_bytes2 d → n.counts ≡ counts_of d → told_of_new n ≡ renewed d
renewed-told n d file counts = ap (λ (k : LogCounts). told_with (check_line k) n.file.items) counts ∙ ap (λ (x : List ℕ). told_with (check_line (counts_of d)) x) file

-- what is salvaged, as a file with its counts
pub salvaged-told : (names : FileNames) (bytes : List ℕ) (new : NewFile) → RenewsSalvaged bytes new → IsBySalvage names bytes (told_of_new (record { file = new.bytes; counts = new.counts }))
salvaged-told names bytes new r = record { says = Ok r.log; salvages = r.salvaged; is = renewed-told (record { file = new.bytes; counts = new.counts }) r.log r.file r.counts }

-- why nothing is
pub unsalvaged-told : (names : FileNames) (bytes : List ℕ) (e : SalvageError) → IsSalvageRefusal bytes e → e ≢ OutOfMemory → IsBySalvage names bytes (refused names (salvage_refusal e))
unsalvaged-told names bytes e h other = record { says = Err e; salvages = (h, other); is = refl }
