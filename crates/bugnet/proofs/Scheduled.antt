-- What is told of a recording with a schedule is told of it without one too.
use Rattle.bugnet.proofs.Common.{◌≡◌, ℕ, Bool, true, false, nat_lt, List, [], length, Option, Some, None, sym, refl, subst, inl, inr, ◌⊎◌, Result, Ok, Err, is_some, sha256, Program, first_bad, BadSetting, Files, Schedule, Line, RecordingLine, RecordLine, DebugLine, image_of, ElfError, FileNames, name_of, Told, IsByProgram, IsByNames, IsBySettings, is_clash, Either, IsByFile, WithFile, IsByInput, AreScheduled, IsRun, began_by, taken_by, scheduling_by, names_in, names_by, IsAnswer, with-files, Call, Tells, SomeTold, StoppedEarly, TellsAnswer, IsEarly, Role, Refusal}
use Rattle.log_commands.specs.declared.names.Role.TheVariants as role

-- without a schedule none is taken
pub taken-none : (seed : Option ℕ) → taken_by seed None ≡ None
taken-none None = refl
taken-none (Some seed) = refl

-- an answer by a file, if one by its bytes is also another
also-either : (t : Bool) (x what : Told) (P Q : Type 0) → (P → Q) → Either t (what ≡ x) P → Either t (what ≡ x) Q
also-either true x what P Q f h = h
also-either false x what P Q f h = f h

also-by : (there : Option (List ℕ)) (names : FileNames) (r : Role) (limit : ℕ) (Go Also : List ℕ → Told → Type 0) (what : Told) → ((bytes : List ℕ) → Go bytes what → Also bytes what)
    → IsByFile there names r limit Go what → IsByFile there names r limit Also what
also-by None names r limit Go Also what f h = h
also-by (Some bytes) names r limit Go Also what f h = also-either (nat_lt limit (length bytes)) _ what (Go bytes what) (Also bytes what) (f bytes) h

also-file : (files : Files) (names : FileNames) (r : Role) (limit : ℕ) (Go Also : List ℕ → Told → Type 0) (what : Told) → ((bytes : List ℕ) → Go bytes what → Also bytes what)
    → WithFile files names r limit Go what → WithFile files names r limit Also what
unfolding WithFile
also-file files names r limit Go Also what f h = also-by (files (name_of names r)) names r limit Go Also what f h

any-run : (r : RecordingLine) (o : Option Schedule) (i : Program) (digest input : List ℕ) (what : Told) → IsRun r.settings i digest (scheduling_by r o) input what → IsRun r.settings i digest (scheduling_by r None) input what
any-run r o i digest input what run = record {
  turns = run.turns;
  taken = run.taken;
  given = subst (λ (s : Option Schedule). AreScheduled s (began_by r.settings i digest input) run.turns) (sym (taken-none r.seed)) tt;
  is = run.is;
}

any-input : (has : Bool) (files : Files) (r : RecordingLine) (o : Option Schedule) (i : Program) (digest : List ℕ) (what : Told) → IsByInput has files (names_in (RecordLine r)) (IsRun r.settings i digest (scheduling_by r o)) what
    → IsByInput has files (names_in (RecordLine r)) (IsRun r.settings i digest (scheduling_by r None)) what
any-input true files r o i digest what h =
    also-file files (names_in (RecordLine r)) role.Input 16777216 (IsRun r.settings i digest (scheduling_by r o)) (IsRun r.settings i digest (scheduling_by r None)) what (λ input run. any-run r o i digest input what run) h
any-input false files r o i digest what h = any-run r o i digest [] what h

any-program : (i : Result Program ElfError) (files : Files) (r : RecordingLine) (o : Option Schedule) (digest : List ℕ) (what : Told) → IsByProgram i files (names_in (RecordLine r)) r.settings (scheduling_by r o) (is_some r.input) digest what
    → IsByProgram i files (names_in (RecordLine r)) r.settings (scheduling_by r None) (is_some r.input) digest what
any-program (Err e) files r o digest what h = h
any-program (Ok i) files r o digest what h = any-input (is_some r.input) files r o i digest what h

any-names : (same : Bool) (files : Files) (r : RecordingLine) (o : Option Schedule) (what : Told) → IsByNames same files (names_in (RecordLine r)) r.settings (scheduling_by r o) (is_some r.input) what
    → IsByNames same files (names_in (RecordLine r)) r.settings (scheduling_by r None) (is_some r.input) what
any-names true files r o what h = h
any-names false files r o what h =
    let names = names_in (RecordLine r) in
    also-file files names role.Elf 67108864 (λ elf what. IsByProgram (image_of elf r.settings) files names r.settings (scheduling_by r o) (is_some r.input) (sha256 elf) what)
    (λ elf what. IsByProgram (image_of elf r.settings) files names r.settings (scheduling_by r None) (is_some r.input) (sha256 elf) what) what (λ elf by. any-program (image_of elf r.settings) files r o (sha256 elf) what by) h

any-settings : (bad : Option BadSetting) (files : Files) (r : RecordingLine) (o : Option Schedule) (what : Told) → IsBySettings bad files (names_in (RecordLine r)) r.settings (scheduling_by r o) (is_some r.input) what
    → IsBySettings bad files (names_in (RecordLine r)) r.settings (scheduling_by r None) (is_some r.input) what
any-settings (Some bad) files r o what h = h
any-settings None files r o what h = any-names (is_clash r.lean r.log r.book) files r o what h

-- an answer by a schedule is one by some turns
pub any-answer : (o : Option Schedule) (line : Option Line) (files : Files) (what : Told) → IsAnswer o line files what → IsAnswer None line files what
any-answer o None files what h = h
any-answer o (Some (RecordLine r)) files what h = any-settings (first_bad r.settings) files r o what h
any-answer o (Some (DebugLine log elf)) files what h = h
any-answer o (Some line) files what h = h

pub tells-any : (o : Option Schedule) (line : Option Line) (status : ℕ) (k : Call) → TellsAnswer o line status k → TellsAnswer None line status k
tells-any o line status k h =
    with-files k.old.store.files (λ files. SomeTold (IsAnswer o line files) (λ what. Tells (names_by line) what status k) ⊎ StoppedEarly o line files status k)
    (λ files. SomeTold (IsAnswer None line files) (λ what. Tells (names_by line) what status k) ⊎ StoppedEarly None line files status k) so h
  where
    early : (files : Files) (refusal : Refusal) → IsEarly (names_by line) (λ files. IsAnswer o line files) files refusal → IsEarly (names_by line) (λ files. IsAnswer None line files) files refusal
    early files refusal (inl memory) = inl memory
    early files refusal (inr (role, failed, is)) = inr (role, failed, any-answer o line _ _ is)

    so : (files : Files) → SomeTold (IsAnswer o line files) (λ what. Tells (names_by line) what status k) ⊎ StoppedEarly o line files status k
        → SomeTold (IsAnswer None line files) (λ what. Tells (names_by line) what status k) ⊎ StoppedEarly None line files status k
    so files (inl a) = inl (a.0, any-answer o line files a.0 a.1, a.2)
    so files (inr s) = inr (record { refusal = s.refusal; early = early files s.refusal s.early; out = s.out; same = s.same; told = s.told })
