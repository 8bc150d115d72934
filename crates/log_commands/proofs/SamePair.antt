-- A log and its program that were loaded and read.
use Rattle.log_commands.proofs.Common.{◌≡◌, ◌≤◌, nat_lt, length, List, [], Bool, true, false, Option, Some, None, sym, subst, refl, arith, Result, Ok, Err, IfOk, bytes_eq, nat_tests, sha256, Program, Files, Content, Damage, FileNames, by_log, with_image, where_same, pair_by, IsPairOfBytes, told_by, Makes, Reads, Bytes, bytes_of, unless_long, file_bytes, on_bytes, IsLoaded, WithFiles, ByPair, pair_roles, pair_loaded, pair_same, pair_of, LoadedPair, by_reading, Inputs, JointReading, Refusal, ℕ}
use Rattle.elf_loader.specs.Loaded.{image_of}
use Rattle.elf_loader.specs.declared.error.ElfError.{ElfError}
use Rattle.log_commands.specs.declared.names.Role.TheVariants as role

same-image : (go : ByPair) (names : FileNames) (d : Content) (i : Result Program ElfError) → told_by (by_reading go) names (with_image d i) ≡ pair_loaded go names d i
same-image go names d (Err e) = refl
same-image go names d (Ok i) = refl

same-digest : (go : ByPair) (names : FileNames) (elf : List ℕ) (d : Content) (same : Bool) → told_by (by_reading go) names (where_same same elf d) ≡ pair_same same go names elf d
same-digest go names elf d true = same-image go names d (image_of elf d.head.settings)
same-digest go names elf d false = refl

pub same-log : (go : ByPair) (names : FileNames) (elf : List ℕ) (says : Result Content Damage) → told_by (by_reading go) names (pair_by elf says) ≡ by_log names (pair_of go names elf) says
same-log go names elf (Err e) = refl
same-log go names elf (Ok d) = same-digest go names elf d (bytes_eq (sha256 elf) d.head.digest)

-- ---- the pair that was loaded

-- both files are there, within their limits
record BothThere (log elf : Option (List ℕ)) (b : Bytes) : Type 0 where
  pub log_there : log ≡ Some b.log
  pub log_small : length b.log ≤ 272629760
  pub elf_there : elf ≡ Some b.elf
  pub elf_small : length b.elf ≤ 67108864

within : (limit n : ℕ) → nat_lt limit n ≡ false → n ≤ limit
within limit n e = grind (arith, nat_tests)

abbrev both : Option (List ℕ) → Option (List ℕ) → Result Bytes Refusal
both log elf = on_bytes (file_bytes role.Log log) (λ l. on_bytes (file_bytes role.Elf elf) (λ e. Ok (record { elf = e; log = l; book = []; input = []; origin = [] })))

same-bytes : (a b : Bytes) → ◌≡◌ {A = Result Bytes Refusal} (Ok a) (Ok b) → a ≡ b
same-bytes a b e = cc

elf-by : (long : Bool) (log elf : List ℕ) (b : Bytes) → nat_lt 67108864 (length elf) ≡ long → length log ≤ 272629760
    → ◌≡◌ {A = Result Bytes Refusal} (on_bytes (unless_long long role.Elf elf) (λ e. Ok (record { elf = e; log = log; book = []; input = []; origin = [] }))) (Ok b) → BothThere (Some log) (Some elf) b
elf-by true log elf b f small e = absurd cc
elf-by false log elf b f small e =
    subst (λ (x : Bytes). BothThere (Some log) (Some elf) x) (same-bytes _ b e)
    (record { log_there = refl; log_small = small; elf_there = refl; elf_small = within 67108864 (length elf) f })

log-by : (long : Bool) (log : List ℕ) (elf : Option (List ℕ)) (b : Bytes) → nat_lt 272629760 (length log) ≡ long
    → ◌≡◌ {A = Result Bytes Refusal} (on_bytes (unless_long long role.Log log) (λ l. on_bytes (file_bytes role.Elf elf) (λ e. Ok (record { elf = e; log = l; book = []; input = []; origin = [] })))) (Ok b) → BothThere (Some log) elf b
log-by true log elf b f e = absurd cc
log-by false log None b f e = absurd cc
log-by false log (Some elf) b f e = elf-by (nat_lt 67108864 (length elf)) log elf b refl (within 272629760 (length log) f) e

both-there : (log elf : Option (List ℕ)) (b : Bytes) → both log elf ≡ Ok b → BothThere log elf b
both-there None elf b e = absurd cc
both-there (Some log) elf b e = log-by (nat_lt 272629760 (length log)) log elf b refl e

-- the log reads, and the program is its
pub record ReadsSo (log elf : List ℕ) (p : JointReading) : Type 0 where
  pub reads : Reads log (Ok p.log)
  pub same : bytes_eq (sha256 elf) p.log.head.digest ≡ true
  pub loaded : image_of elf p.log.head.settings ≡ Ok p.image

same-reading : (p q : JointReading) → ◌≡◌ {A = Result JointReading Refusal} (Ok p) (Ok q) → p ≡ q
same-reading p q e = cc

image-so : (log elf : List ℕ) (p : JointReading) (d : Content) (image : Result Program ElfError) → Reads log (Ok d) → bytes_eq (sha256 elf) d.head.digest ≡ true → image_of elf d.head.settings ≡ image
    → ◌≡◌ {A = Result JointReading Refusal} (Ok p) (with_image d image) → ReadsSo log elf p
image-so log elf p d (Err e) reads same loaded is = absurd cc
image-so log elf p d (Ok i) reads same loaded is =
    subst (λ (q : JointReading). ReadsSo log elf q) (sym (same-reading p (record { image = i; log = d }) is)) (record { reads = reads; same = same; loaded = loaded })

digest-so : (log elf : List ℕ) (p : JointReading) (d : Content) (same : Bool) → Reads log (Ok d) → bytes_eq (sha256 elf) d.head.digest ≡ same → ◌≡◌ {A = Result JointReading Refusal} (Ok p) (where_same same elf d) → ReadsSo log elf p
digest-so log elf p d true reads same is = image-so log elf p d (image_of elf d.head.settings) reads same refl is
digest-so log elf p d false reads same is = absurd cc

pub reads-so : (log elf : List ℕ) (p : JointReading) (says : Result Content Damage) → Reads log says → ◌≡◌ {A = Result JointReading Refusal} (Ok p) (pair_by elf says) → ReadsSo log elf p
reads-so log elf p (Err e) reads is = absurd cc
reads-so log elf p (Ok d) reads is = digest-so log elf p d (bytes_eq (sha256 elf) d.head.digest) reads refl is

-- what was loaded and read is a log and its program
pub pair-there : (known : Option Files) (names : FileNames) (inputs : Inputs) (result : Result JointReading Refusal) → WithFiles known (λ files. IsLoaded names pair_roles files (Ok inputs))
    → Makes (IsPairOfBytes inputs.log.items inputs.elf.items) result → WithFiles known (λ files. IfOk result (λ p. LoadedPair names.log names.elf files p.log p.image))
pair-there None names inputs result h m = tt
pair-there (Some files) names inputs (Err r) h m = tt
pair-there (Some files) names inputs (Ok p) h m =
    let b = bytes_of inputs in
    let there = both-there (files names.log) (files names.elf) b h in
    let so = reads-so b.log b.elf p m.says m.reads m.is in
    record {
      log_bytes = b.log;
      elf_bytes = b.elf;
      log_there = there.log_there;
      log_small = there.log_small;
      reads = so.reads;
      elf_there = there.elf_there;
      elf_small = there.elf_small;
      same = so.same;
      loaded = so.loaded;
    }
