-- What it means that an audit is done.
use Rattle.bugnet.proofs.Common.{◌≡◌, ℕ, Bool, true, false, List, [], ◌∷◌, Option, Some, None, ◌∙◌, ap, subst, sym, refl, inl, inr, ◌⊎◌, Result, Ok, Err, is_some, bytes_eq, bytes_eq-Decides, sha256, Program, RawSettings, Files, image_of, ElfError, Content, IsContent, Reads, Damage, file_of, list_error, is_version2, version2_of, audited_file, IsVerdict, verdict_of, VerdictsAreUnique, TurnError, Verdict, Agree, Differ, Began, WholeRunsHaveNoError, Line, AuditLine, FileNames, Told, WithFile, IsByLog, by_log, IsByInput, ByPair, pair_loaded, pair_same, pair_of, names_in, names_by, IsByLine, IsAnswer, IsByFiles, by_turns, shown, audited, IsAuditOf, Agrees, told_by, input_roles, Bytes, WithFiles, Call, Tells, SomeTold, StoppedEarly, TellsAnswer, IsRecorded, ElfRefused, LogRefused, ProgramDiffers, BookRefused, FileDiffers, refused-apart, with-files, stopped-free, AuditsAgree, AuditsRun}
use Rattle.log_commands.specs.declared.names.Role.TheVariants as role
use Rattle.bugnet.proofs.Leaves.{by-file, by-input, free-apart}
use Rattle.bugnet.proofs.LineTells.{early-free}

pub record AuditLaws : Type 0 where
  pub verdicts : VerdictsAreUnique
  pub errors : WholeRunsHaveNoError

-- an answer by a log that was read
by-log : (names : FileNames) (bytes : List ℕ) (go : Content → Told) (what : Told) → IsByLog names bytes go what → IsRecorded what.status → (d : Content) × IsContent d × (what ≡ go d)
by-log names bytes go what h is = by-says names bytes go what h.says h.reads h.is is
  where
    by-says : (names : FileNames) (bytes : List ℕ) (go : Content → Told) (what : Told) (says : Result Content Damage) → Reads bytes says → what ≡ by_log names go says → IsRecorded what.status
        → (d : Content) × IsContent d × (what ≡ go d)
    by-says names bytes go what (Ok d) reads e is = (d, reads.0, e)
    by-says names bytes go what (Err x) reads e is = absurd (refused-apart names (LogRefused x) what e is)

-- and by its program
by-program : (go : ByPair) (names : FileNames) (elf : List ℕ) (d : Content) (what : Told) (same : Bool) (i : Result Program ElfError) → bytes_eq (sha256 elf) d.head.digest ≡ same → image_of elf d.head.settings ≡ i
    → what ≡ pair_of go names elf d → IsRecorded what.status → (bytes_eq (sha256 elf) d.head.digest ≡ true) × ((p : Program) × (image_of elf d.head.settings ≡ Ok p) × (what ≡ go d p))
by-program go names elf d what false i s l e is =
    absurd (refused-apart names (ProgramDiffers d.head.digest (sha256 elf)) what (e ∙ ap (λ (b : Bool). pair_same b go names elf d) s) is)
by-program go names elf d what true (Err x) s l e is =
    absurd (refused-apart names (ElfRefused x) what (e ∙ ap (λ (b : Bool). pair_same b go names elf d) s ∙ ap (λ (r : Result Program ElfError). pair_loaded go names d r) l) is)
by-program go names elf d what true (Ok p) s l e is =
    (s, (p, l, e ∙ ap (λ (b : Bool). pair_same b go names elf d) s ∙ ap (λ (r : Result Program ElfError). pair_loaded go names d r) l))

-- a whole run, and bytes that agree
by-turns : (names : FileNames) (what : Told) (o : Option TurnError) (v : Verdict) → what ≡ told_by shown names (by_turns o v) → IsRecorded what.status → (o ≡ None) × (v ≡ Agree)
by-turns names what (Some x) v e is = absurd (refused-apart names (BookRefused x) what e is)
by-turns names what None (Differ place) e is = absurd (refused-apart names (FileDiffers place) what e is)
by-turns names what None Agree e is = (refl, refl)

same-file : VerdictsAreUnique → (file log : List ℕ) → verdict_of file log ≡ Agree → log ≡ file
same-file law file log e = subst (λ (v : Verdict). IsVerdict file log v) e (law.is file log)

-- the file that a log is compared with is the run's own, or that in version 2
of-version : (second : Bool) (there : Option (List ℕ)) (c : RawSettings) (i : Program) (digest input turns : List ℕ) → there ≡ Some (audited_file second c i digest input turns)
    → (there ≡ Some (file_of c i digest input turns)) ⊎ (there ≡ Some (version2_of c i digest input turns))
of-version true there c i digest input turns e = inr e
of-version false there c i digest input turns e = inl e

-- the bytes that an audit loads, and what they come to
abbrev pub given : (log elf book input : List ℕ) → Bytes
given log elf book input = record { elf = elf; log = log; book = book; input = input; origin = [] }

abbrev pub OnAudit : FileNames → Bytes → Told → Type 0
OnAudit names b what = IsAuditOf names b.log b.elf b.book b.input what

of-roles : (has : Bool) (files : Files) (names : FileNames) (log elf book : List ℕ) (what : Told) → IsByFiles files names (input_roles has) (given log elf book []) (OnAudit names) what
    → IsByInput has files names (IsAuditOf names log elf book) what
of-roles true files names log elf book what h = h
of-roles false files names log elf book what h = h

agrees : AuditLaws → (log elf book : List ℕ) (input : Option (List ℕ)) (files : Files) (what : Told) → IsByLine (AuditLine log elf book input) files what → IsRecorded what.status → Agrees log elf book input files
unfolding WithFile
agrees laws log elf book input files what h is =
    let names = names_in (AuditLine log elf book input) in
    let roles = input_roles (is_some input) in
    let l = by-file (files log) names role.Log 272629760 (λ log what. IsByFiles files names (role.Elf ∷ role.Book ∷ roles) (given log [] [] []) (OnAudit names) what) what h is in
    let e = by-file (files elf) names role.Elf 67108864 (λ elf what. IsByFiles files names (role.Book ∷ roles) (given l.0 elf [] []) (OnAudit names) what) what l.2 is in
    let b = by-file (files book) names role.Book 1073741824 (λ book what. IsByFiles files names roles (given l.0 e.0 book []) (OnAudit names) what) what e.2 is in
    let i = by-input input elf log book files (IsAuditOf names l.0 e.0 b.0) what (of-roles (is_some input) files names l.0 e.0 b.0 what b.2) is in
    let go = audited names l.0 b.0 i.0 in
    let d = by-log names l.0 (pair_of go names e.0) what i.2 is in
    let c = d.0.head.settings in
    let p = by-program go names e.0 d.0 what (bytes_eq (sha256 e.0) d.0.head.digest) (image_of e.0 c) refl refl d.2 is in
    let program = p.1.0 in
    let second = is_version2 l.0 in
    let file = audited_file second c program d.0.head.digest i.0 b.0 in
    let t = by-turns names what (list_error c program i.0 b.0) (verdict_of file l.0) p.1.2 is in
    let began : Began = record { image = program; settings = c; input = i.0; digest = d.0.head.digest } in
    let ends = (laws.errors began b.0).0 t.0 in
    let digest : sha256 e.0 ≡ d.0.head.digest = (bytes_eq-Decides (sha256 e.0) d.0.head.digest).0 p.0 in
    record {
      settings = c;
      bytes = e.0;
      program = program;
      given = i.0;
      turns = b.0;
      elf_there = e.1;
      elf_small = e.3;
      book_there = b.1;
      book_small = b.3;
      input_there = i.1;
      input_small = i.3;
      setting = d.1.settings;
      loaded = p.1.1;
      whole = record { legal = ends.0; over = ends.1 };
      log_there = of-version second (files log) c program (sha256 e.0) i.0 b.0
          (l.1 ∙ ap (λ (bytes : List ℕ). Some bytes) (same-file laws.verdicts file l.0 t.1 ∙ ap (λ (x : List ℕ). audited_file second c program x i.0 b.0) (sym digest)));
    }

pub audits_agree : VerdictsAreUnique → WholeRunsHaveNoError → AuditsAgree
audits_agree verdicts errors log elf book input files what h done = agrees (record { verdicts = verdicts; errors = errors }) log elf book input files what h (inl done)

-- ---- a call

zero-told : (line : Line) (what : Told) (status : ℕ) (k : Call) → Tells (names_in line) what status k → status ≡ 0 → what.status ≡ 0
zero-told line what status k (inl d) done = sym d.status_is ∙ done
zero-told line what status k (inr s) done = absurd (free-apart status (stopped-free (names_in line) what status k s) (inl done))

audits-done : AuditsAgree → (line : Option Line) (files : Files) (status : ℕ) (k : Call) → SomeTold (IsAnswer None line files) (λ what. Tells (names_by line) what status k) ⊎ StoppedEarly None line files status k → AuditsRun line files status
audits-done law (Some (AuditLine log elf book input)) files status k (inl (what, is, tells)) = λ done.
    law log elf book input files what is (zero-told (AuditLine log elf book input) what status k tells done)
audits-done law (Some (AuditLine log elf book input)) files status k (inr early) = λ done. absurd (free-apart status (early-free None (Some (AuditLine log elf book input)) files status k early) (inl done))
audits-done law line files status k a = tt

pub call-audits : AuditsAgree → (line : Option Line) (status : ℕ) (k : Call) → TellsAnswer None line status k → WithFiles k.old.store.files (λ files. AuditsRun line files status)
call-audits law line status k h =
    with-files k.old.store.files (λ files. SomeTold (IsAnswer None line files) (λ what. Tells (names_by line) what status k) ⊎ StoppedEarly None line files status k) (λ files. AuditsRun line files status)
    (λ files a. audits-done law line files status k a) h
