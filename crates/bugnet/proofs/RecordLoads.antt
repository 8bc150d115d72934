-- What a recording answers after its loads.
use Rattle.bugnet.proofs.Common.{◌≡◌, ℕ, List, Option, Some, None, ◌∙◌, ap, subst, sym, refl, arith, Bool, inl, inr, Result, Ok, Err, is_some, Counts, Files, Program, checked_by, first_bad, BadSetting, RawSettings, image_of, ElfError, Line, RecordLine, seen_recording, RecordOptions, FileNames, refused, is_clash, IsByProgram, IsRecord, Scheduling, Schedule, names_in, scheduling_by, setting_refusal, refusal_in, IsRecordedRun, FitsLine, HoldsBytes, HasElf, WithFiles, ProgramTells, GivesBy, CauseBy, Answer, Refusal, IsAnswer, Start, RunToTell, IsRecordingBy, TakesAlike, taken_by}
use Rattle.bugnet.proofs.LineCalls.{mapped}

-- ---- what a recording loads

-- a program that is refused ends the command
pub program-refused : (known : Option Files) (names : FileNames) (bytes : List ℕ) (c : RawSettings) (how : Scheduling) (has : Bool) (digest : List ℕ) (r : Refusal) → ProgramTells bytes c (Err r)
    → WithFiles known (λ files. GivesBy names (λ f. IsByProgram (image_of bytes c) f names c how has digest) files (Err r))
program-refused None names bytes c how has digest r h = tt
program-refused (Some files) names bytes c how has digest r (inl e) = inl (inl e)
program-refused (Some files) names bytes c how has digest r (inr h) =
    inr (subst (λ (i : Result Program ElfError). IsByProgram i files names c how has digest (refused names r)) (sym h.2) (ap (λ (x : Refusal). refused names x) h.1))

-- ---- settings

-- settings that were tested
pub bad-one : (o : Option BadSetting) (s : RawSettings) (bad : BadSetting) → checked_by o s ≡ Err bad → o ≡ Some bad
bad-one (Some other) s bad e = grind arith
bad-one None s bad e = grind arith

pub none-bad : (o : Option BadSetting) (s x : RawSettings) → checked_by o s ≡ Ok x → (o ≡ None) × (x ≡ s)
none-bad None s x e = (refl, grind arith)
none-bad (Some other) s x e = grind arith

-- ---- a recording

-- what a recording's line asks for that is given a schedule, or none, by the names in it
pub record-answers : (known : Option Files) (names : FileNames) (r : RecordOptions) (o : Option Schedule) (has : Bool) (result : Result Answer Refusal) → names ≡ names_in (RecordLine (seen_recording r))
    → has ≡ is_some r.input
    → WithFiles known (λ files. GivesBy names (λ f. IsRecord f names r.settings (scheduling_by (seen_recording r) o) has) files result)
    → WithFiles known (λ files. GivesBy names (IsAnswer o (Some (RecordLine (seen_recording r)))) files result)
record-answers known names r o has result e input h =
    let s = seen_recording r in
    let there : has ≡ is_some s.input = input ∙ sym (mapped _ _ _ r.input) in
    subst (λ (n : FileNames). WithFiles known (λ files. GivesBy names (λ f. IsRecord f n s.settings (scheduling_by s o) (is_some s.input)) files result)) e
    (subst (λ (b : Bool). WithFiles known (λ files. GivesBy names (λ f. IsRecord f names s.settings (scheduling_by s o) b) files result)) there h)

-- what the words of such a line refuse, whether it is lean, and what its program file holds
pub record-cause : (names : FileNames) (r : RecordOptions) (o : Option Schedule) (how : Scheduling) (before now : Counts) (result : Result Answer Refusal) → names ≡ names_in (RecordLine (seen_recording r))
    → how ≡ scheduling_by (seen_recording r) o → CauseBy (setting_refusal (first_bad r.settings) (is_clash how.lean names.log names.book)) before now result
    → CauseBy (refusal_in (RecordLine (seen_recording r))) before now result
record-cause names r o how before now result e m h =
    let s = seen_recording r in
    subst (λ (n : FileNames). CauseBy (setting_refusal (first_bad s.settings) (is_clash s.lean n.log n.book)) before now result) e
    (subst (λ (x : Scheduling). CauseBy (setting_refusal (first_bad s.settings) (is_clash x.lean names.log names.book)) before now result) m h)

pub record-lean : (r : RecordOptions) (o : Option Schedule) (how : Scheduling) (answer : Answer) → how ≡ scheduling_by (seen_recording r) o → IsRecordedRun how.lean answer → FitsLine (RecordLine (seen_recording r)) answer
record-lean r o how answer m h = subst (λ (x : Scheduling). IsRecordedRun x.lean answer) m h

pub record-bytes : (known : Option Files) (names : FileNames) (r : RecordOptions) → names ≡ names_in (RecordLine (seen_recording r))
    → WithFiles known (λ files. HoldsBytes (files names.elf)) → HasElf (RecordLine (seen_recording r)) known
record-bytes known names r e h = subst (λ (n : FileNames). WithFiles known (λ files. HoldsBytes (files n.elf))) e h

-- what is recorded by the seed of such a line, or without one, is what its line asks for
pub recorded-as : (r : RecordOptions) (o : Option Schedule) (seed : Option ℕ) (start : Start) (run : RunToTell) → r.seed ≡ seed → IsRecordingBy start (record { seed = seed; lean = r.lean; schedule = taken_by seed o }) run
    → IsRecordingBy start (scheduling_by (seen_recording r) o) run
recorded-as r o seed start run e h = subst (λ (s : Option ℕ). IsRecordingBy start (record { seed = s; lean = r.lean; schedule = taken_by s o }) run) (sym e) h

-- ---- its schedule

pub takes-itself : (line : Option Line) (schedule : Option Schedule) → TakesAlike line schedule schedule
takes-itself None schedule = tt
takes-itself (Some (RecordLine r)) schedule = refl
takes-itself (Some line) schedule = tt

-- without a seed one takes what is given
pub takes-given : (seed : Option ℕ) (a b : Option Schedule) → seed ≡ None → taken_by seed a ≡ taken_by seed b → a ≡ b
takes-given None a b e same = same
takes-given (Some seed) a b e same = grind arith
