-- What a whole call of the program does, from what its parts do.
use Rattle.bugnet.proofs.Common.{◌≡◌, ℕ, [], Option, subst, inl, inr, ◌⊎◌, Ok, Err, Appends, Files, WhereTold, Stored, Line, FileNames, Told, refused, names_by, IsAnswer, ToldRefusal, WithFiles, IsEarly, GivesBy, told_of, SameFiles, KeptFiles, MayChange, Call, IsFree, IsUnsaved, AreKept, Tells, SomeTold, Acts, StoppedEarly, TellsAnswer, Keeps, ChangesFew, ByWords, IsCounted, Obeys, Causes, Answer, Refusal, memory-or-store, refused-told, same-files, tells-few, tells-keeps, unsaved-free, with-files, from, NoneFell, rose-later, fell-later, NoWriteFell, Schedule}
use Rattle.log_commands.specs.declared.names.Role.TheVariants as role

-- ---- what a call that tells has done

-- the status of a command that was stopped before it had an answer
early-status : (o : Option Schedule) (line : Option Line) (files : Files) (status : ℕ) (k : Call) → StoppedEarly o line files status k → IsUnsaved status
early-status o line files status k s = by s.early
  where
    by : IsEarly (names_by line) (λ files. IsAnswer o line files) files s.refusal → IsUnsaved status
    by (inl e) = memory-or-store (names_by line) s.refusal role.Elf status k.old.err.text k.new.err.text k.old.err.faults k.new.err.faults (inr e) s.told
    by (inr e) = memory-or-store (names_by line) s.refusal e.0 status k.old.err.text k.new.err.text k.old.err.faults k.new.err.faults (inl e.1) s.told

pub early-free : (o : Option Schedule) (line : Option Line) (files : Files) (status : ℕ) (k : Call) → StoppedEarly o line files status k → IsFree status
early-free o line files status k s = unsaved-free status (early-status o line files status k s)

pub answers-keep : (o : Option Schedule) (line : Option Line) (status : ℕ) (k : Call) → TellsAnswer o line status k → Keeps o line status k.old.store.files k.new.store.files
answers-keep o line status k h =
    with-files k.old.store.files (λ files. SomeTold (IsAnswer o line files) (λ what. Tells (names_by line) what status k) ⊎ StoppedEarly o line files status k)
    (λ files. IsUnsaved status ⊎ SomeTold (IsAnswer o line files) (λ what. WhereTold k.old.store.files k.new.store.files (KeptFiles what.saved (names_by line).log (names_by line).book))) so h
  where
    found : (files : Files) (what : Told) → IsAnswer o line files what → IsUnsaved status ⊎ AreKept (names_by line) what k
        → IsUnsaved status ⊎ SomeTold (IsAnswer o line files) (λ what. WhereTold k.old.store.files k.new.store.files (KeptFiles what.saved (names_by line).log (names_by line).book))
    found files what is (inl free) = inl free
    found files what is (inr kept) = inr (what, is, kept)

    so : (files : Files) → SomeTold (IsAnswer o line files) (λ what. Tells (names_by line) what status k) ⊎ StoppedEarly o line files status k
        → IsUnsaved status ⊎ SomeTold (IsAnswer o line files) (λ what. WhereTold k.old.store.files k.new.store.files (KeptFiles what.saved (names_by line).log (names_by line).book))
    so files (inl a) = found files a.0 a.1 (tells-keeps (names_by line) a.0 status k a.2)
    so files (inr s) = inl (early-status o line files status k s)

pub answers-few : (o : Option Schedule) (line : Option Line) (status : ℕ) (k : Call) → TellsAnswer o line status k → ChangesFew o line k.old.store.files k.new.store.files
answers-few o line status k h =
    with-files k.old.store.files (λ files. SomeTold (IsAnswer o line files) (λ what. Tells (names_by line) what status k) ⊎ StoppedEarly o line files status k)
    (λ files. SomeTold (IsAnswer o line files) (λ what. WhereTold k.old.store.files k.new.store.files (MayChange what.saved (names_by line).log (names_by line).book)) ⊎ WhereTold k.old.store.files k.new.store.files SameFiles) so h
  where
    so : (files : Files) → SomeTold (IsAnswer o line files) (λ what. Tells (names_by line) what status k) ⊎ StoppedEarly o line files status k
        → SomeTold (IsAnswer o line files) (λ what. WhereTold k.old.store.files k.new.store.files (MayChange what.saved (names_by line).log (names_by line).book)) ⊎ WhereTold k.old.store.files k.new.store.files SameFiles
    so files (inl a) = inl (a.0, a.1, tells-few (names_by line) a.0 status k a.2)
    so files (inr s) = inr (same-files k.old.store.files k.new.store.files s.same)

-- ---- a command

-- one that is refused
pub refusal-answers : (o : Option Schedule) (line : Option Line) (names : FileNames) (r : Refusal) (status : ℕ) (k : Call) → names ≡ names_by line
    → Appends k.old.out.text k.new.out.text [] → k.new.store.files ≡ k.old.store.files
    → WithFiles k.old.store.files (λ files. GivesBy names (λ files. IsAnswer o line files) files (Err r))
    → ToldRefusal names r status k.old.err.text k.new.err.text k.old.err.faults k.new.err.faults → TellsAnswer o line status k
refusal-answers o line names r status k e out same g line_told =
    with-files k.old.store.files (λ files. GivesBy names (λ files. IsAnswer o line files) files (Err r))
    (λ files. SomeTold (IsAnswer o line files) (λ what. Tells (names_by line) what status k) ⊎ StoppedEarly o line files status k) (λ files h. so files (subst (λ (n : FileNames). GivesBy n (λ files. IsAnswer o line files) files (Err r)) e h)) g
  where
    told : ToldRefusal (names_by line) r status k.old.err.text k.new.err.text k.old.err.faults k.new.err.faults
    told = subst (λ (n : FileNames). ToldRefusal n r status k.old.err.text k.new.err.text k.old.err.faults k.new.err.faults) e line_told

    so : (files : Files) → GivesBy (names_by line) (λ files. IsAnswer o line files) files (Err r)
        → SomeTold (IsAnswer o line files) (λ what. Tells (names_by line) what status k) ⊎ StoppedEarly o line files status k
    so files (inl early) = inr (record { refusal = r; early = early; out = out; same = same; told = told })
    so files (inr is) = inl (refused (names_by line) r, is, refused-told (names_by line) r status k out (same-files k.old.store.files k.new.store.files same) told)

-- one that has its answer
pub answer-answers : (o : Option Schedule) (line : Option Line) (names : FileNames) (a : Answer) (status : ℕ) (k : Call) → names ≡ names_by line
    → WithFiles k.old.store.files (λ files. GivesBy names (λ files. IsAnswer o line files) files (Ok a)) → Tells names (told_of names a) status k
    → TellsAnswer o line status k
answer-answers o line names a status k n g told =
    with-files k.old.store.files (λ files. GivesBy names (λ files. IsAnswer o line files) files (Ok a))
    (λ files. SomeTold (IsAnswer o line files) (λ what. Tells (names_by line) what status k) ⊎ StoppedEarly o line files status k)
    (λ files is. inl (told_of names a, is, subst (λ (m : FileNames). Tells m (told_of names a) status k) n told))
    g

-- a command that acted on its answer, after loads that left its outputs alone
pub acted : (o : Option Schedule) (line : Option Line) (status : ℕ) (old : Stored) (l : Call) (names : FileNames) (what : Told) → NoneFell old.counts l.old.store.counts → Acts names what status l
    → TellsAnswer o line status (from old l) → ByWords line status (from old l) → Obeys o line status (from old l)
acted o line status old l names what counts a told words = record {
  told = told;
  words = words;
  counted = record {
    failed = λ e. rose-later old.counts.faults l.old.store.counts.faults l.new.store.counts.faults counts.faults (a.failed e);
    missing = λ e. absurd (a.missing e);
    long = λ e. absurd (a.long e);
    write = a.write;
    later = record { out = a.later.out; err = a.later.err };
    counts = fell-later old.counts l.old.store.counts l.new.store.counts counts a.counts;
  };
}

-- one that was refused, but by no write
pub is_counted : (status : ℕ) (k : Call) → Causes k.old.store.counts k.new.store.counts status → NoWriteFell k → NoneFell k.old.store.counts k.new.store.counts → IsCounted status k
is_counted status k causes later counts = record {
  failed = causes.three;
  missing = causes.four;
  long = causes.five;
  write = λ e. absurd (causes.write e);
  later = later;
  counts = counts;
}
