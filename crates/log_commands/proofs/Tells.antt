-- What a whole call of the program does, from what its parts do.
use Rattle.log_commands.proofs.Common.{◌≡◌, ◌≤◌, ℕ, List, [], Option, Some, None, ◌∙◌, ap, subst, sym, refl, arith, inl, inr, ◌⊎◌, IsSomeAnd, Appends, Counts, Rose, NoneFell, Files, Stored, WhereTold, SameElsewhere, AppendsPart, AppendsShort, FileNames, end_status, line_of, said_of, status_of, Told, Saved, refused, printed, SendStops, ToldRefusal, WithFiles, told_of_recording, SameFiles, LogAlone, SaveBroke, KeptBoth, KeptLog, KeptSaved, KeptFiles, MayChange, Unsaved, Call, between, world, IsFree, IsUnsaved, AreKept, SavingStopped, OutStopped, ErrStopped, ErrWaits, Stopped, Tells, Role, RunToTell, Refusal, StoreFailed, OutOfMemory, WriteFailed}
use Rattle.log_commands.specs.declared.names.Role.TheVariants as role
use Rattle.log_commands.proofs.Prints.{part-whole, rose-later}

-- ---- a refusal

-- out of memory after all of a text for out
pub memory : (names : FileNames) (what : Told) (status : ℕ) (k : Call) → AppendsPart k.old.out.text k.new.out.text what.out → AreKept names what k
    → ToldRefusal names OutOfMemory status k.old.err.text k.new.err.text k.old.err.faults k.new.err.faults → Stopped names what status k
memory names what status k out files told = record {
  refusal = OutOfMemory;
  mid = k.old.err.text;
  faults = k.old.err.faults;
  later = omega arith;
  place = inl (record { text = refl; count = refl }, inr (record { out = out; cause = tt; files = files }));
  line = told;
}

-- a refusal that words and files explain
pub refused-told : (names : FileNames) (r : Refusal) (status : ℕ) (k : Call) → Appends k.old.out.text k.new.out.text [] → WhereTold k.old.store.files k.new.store.files SameFiles
    → ToldRefusal names r status k.old.err.text k.new.err.text k.old.err.faults k.new.err.faults → Tells names (refused names r) status k
unfolding refused
refused-told names r status k out files (inl h) = inl (record { status_is = h.0; out = out; err = h.1; files = files })
refused-told names r status k out files (inr h) = inr (memory names (refused names r) status k (part-whole k.old.out.text k.new.out.text [] out) files (inl h))

-- the refusals that they don't explain
abbrev FreeRefusal : Refusal → Type 0
FreeRefusal (StoreFailed role) = Unit {0}
FreeRefusal OutOfMemory = Unit {0}
FreeRefusal WriteFailed = Unit {0}
FreeRefusal r = ⊥

free-status : (names : FileNames) (r : Refusal) (status : ℕ) (err_old err_new : Option (List ℕ)) (before now : ℕ)
    → FreeRefusal r → ToldRefusal names r status err_old err_new before now → IsFree status
free-status names r status err_old err_new before now o (inr h) = inr (inl h.0)
free-status names (StoreFailed role) status err_old err_new before now o (inl h) = inl h.0
free-status names OutOfMemory status err_old err_new before now o (inl h) = inr (inl h.0)
free-status names WriteFailed status err_old err_new before now o (inl h) = inr (inr h.0)
free-status names r status err_old err_new before now o (inl h) = absurd o

sends-free : (r : Refusal) (before now : ℕ) → SendStops before now r → FreeRefusal r
sends-free OutOfMemory before now s = tt
sends-free WriteFailed before now s = tt
sends-free r before now s = absurd s

-- ---- saves

-- what a refused save says
record Broken (saved : Saved) (names : FileNames) (old new : Option Files) (r : Refusal) : Type 0 where
  pub role : Role
  pub broke : WhereTold old new (SaveBroke role saved names.log names.book)
  pub is : (r ≡ StoreFailed role) ⊎ (r ≡ OutOfMemory)

broken : (saved : Saved) (names : FileNames) (old new : Option Files) (before now : Counts) (r : Refusal) → Unsaved (Some saved) names old new before now r → Broken saved names old new r
broken saved names old new before now r (inl (role, is, broke, rose)) = record { role = role; broke = broke; is = inl is }
broken saved names old new before now r (inr (is, (role, broke))) = record { role = role; broke = broke; is = inr is }

pub memory-or-store : (names : FileNames) (r : Refusal) (role : Role) (status : ℕ) (err_old err_new : Option (List ℕ)) (before now : ℕ)
    → (r ≡ StoreFailed role) ⊎ (r ≡ OutOfMemory) → ToldRefusal names r status err_old err_new before now → IsUnsaved status
memory-or-store names r role status err_old err_new before now is (inr h) = inr h.0
memory-or-store names r role status err_old err_new before now (inl e) (inl h) = inl (h.0 ∙ ap (λ (x : Refusal). status_of x) e)
memory-or-store names r role status err_old err_new before now (inr e) (inl h) = inr (h.0 ∙ ap (λ (x : Refusal). status_of x) e)

-- two maps that are told
pub where-told : (old new : Option Files) (R S : Files → Files → Type 0) → ((x y : Files) → R x y → S x y) → WhereTold old new R → WhereTold old new S
where-told None new R S f h = tt
where-told (Some x) None R S f h = absurd h
where-told (Some x) (Some y) R S f h = f x y h

pub with-files : (known : Option Files) (P Q : Files → Type 0) → ((files : Files) → P files → Q files) → WithFiles known P → WithFiles known Q
with-files None P Q f h = tt
with-files (Some files) P Q f h = f files h

-- nothing was done to the files
pub same-files : (known after : Option Files) → after ≡ known → WhereTold known after SameFiles
same-files None after e = tt
same-files (Some files) after e = subst (λ (k : Option Files). WhereTold (Some files) k SameFiles) (sym e) (λ name. refl)

kept-saved-few : (bytes : List ℕ) (list : Option (List ℕ)) (log book : List ℕ) (x y : Files) → KeptSaved bytes list log book x y → SameElsewhere log x y ⊎ IsSomeAnd list (λ l. LogAlone bytes log book x y)
kept-saved-few bytes None log book x y s = inl s.others
kept-saved-few bytes (Some list) log book x y s = inr (record { log_there = s.log_there; others = s.others })

kept-few : (saved : Option Saved) (log book : List ℕ) (x y : Files) → KeptFiles saved log book x y → MayChange saved log book x y
kept-few None log book x y s = s
kept-few (Some saved) log book x y s = kept-saved-few saved.log saved.book log book x y s

broke-few : (role : Role) (saved : Saved) (log book : List ℕ) (x y : Files) → SaveBroke role saved log book x y → MayChange (Some saved) log book x y
broke-few role.Log saved log book x y b = inl b
broke-few role.Book saved log book x y b = inr b
broke-few role saved log book x y b = absurd b

unsaved-few : (saved : Option Saved) (names : FileNames) (old new : Option Files) (before now : Counts) (r : Refusal) → Unsaved saved names old new before now r
    → WhereTold old new (MayChange saved names.log names.book)
unsaved-few None names old new before now r u = absurd u
unsaved-few (Some saved) names old new before now r u =
    let b = broken saved names old new before now r u in
    where-told old new (SaveBroke b.role saved names.log names.book) (MayChange (Some saved) names.log names.book) (broke-few b.role saved names.log names.book) b.broke

unsaved-status : (saved : Option Saved) (names : FileNames) (old new : Option Files) (before now : Counts) (r : Refusal) (status : ℕ) (err_old err_new : Option (List ℕ)) (faults last : ℕ)
    → Unsaved saved names old new before now r → ToldRefusal names r status err_old err_new faults last → IsUnsaved status
unsaved-status None names old new before now r status err_old err_new faults last u t = absurd u
unsaved-status (Some saved) names old new before now r status err_old err_new faults last u t =
    let b = broken saved names old new before now r u in
    memory-or-store names r b.role status err_old err_new faults last b.is t

-- ---- what a call that tells has done

pub unsaved-free : (status : ℕ) → IsUnsaved status → IsFree status
unsaved-free status (inl h) = inl h
unsaved-free status (inr h) = inr (inl h)

-- the status of one that was stopped is free
pub stopped-free : (names : FileNames) (what : Told) (status : ℕ) (k : Call) → Stopped names what status k → IsFree status
stopped-free names what status k s = by s.place
  where
    by : ErrWaits k s.mid s.faults × (SavingStopped names what s.refusal k ⊎ OutStopped names what s.refusal k) ⊎ ErrStopped names what s.refusal k s.mid s.faults → IsFree status
    by (inl (waits, inl x)) =
        unsaved-free status (unsaved-status what.saved names k.old.store.files k.new.store.files k.old.store.counts k.new.store.counts s.refusal status s.mid k.new.err.text s.faults k.new.err.faults x.files s.line)
    by (inl (waits, inr x)) = free-status names s.refusal status s.mid k.new.err.text s.faults k.new.err.faults (sends-free s.refusal k.old.out.faults k.new.out.faults x.cause) s.line
    by (inr x) = free-status names s.refusal status s.mid k.new.err.text s.faults k.new.err.faults (subst (λ (r : Refusal). FreeRefusal r) (sym x.refusal_is) tt) s.line

-- it keeps what was to be saved, unless a save was refused
pub tells-keeps : (names : FileNames) (what : Told) (status : ℕ) (k : Call) → Tells names what status k → IsUnsaved status ⊎ AreKept names what k
tells-keeps names what status k (inl done) = inr done.files
tells-keeps names what status k (inr s) = by s.place
  where
    by : ErrWaits k s.mid s.faults × (SavingStopped names what s.refusal k ⊎ OutStopped names what s.refusal k) ⊎ ErrStopped names what s.refusal k s.mid s.faults → IsUnsaved status ⊎ AreKept names what k
    by (inl (waits, inl x)) =
        inl (unsaved-status what.saved names k.old.store.files k.new.store.files k.old.store.counts k.new.store.counts s.refusal status s.mid k.new.err.text s.faults k.new.err.faults x.files s.line)
    by (inl (waits, inr x)) = inr x.files
    by (inr x) = inr x.files

pub tells-few : (names : FileNames) (what : Told) (status : ℕ) (k : Call) → Tells names what status k → WhereTold k.old.store.files k.new.store.files (MayChange what.saved names.log names.book)
tells-few names what status k (inl done) = where-told k.old.store.files k.new.store.files (KeptFiles what.saved names.log names.book) (MayChange what.saved names.log names.book) (kept-few what.saved names.log names.book) done.files
tells-few names what status k (inr s) = by s.place
  where
    by : ErrWaits k s.mid s.faults × (SavingStopped names what s.refusal k ⊎ OutStopped names what s.refusal k) ⊎ ErrStopped names what s.refusal k s.mid s.faults
        → WhereTold k.old.store.files k.new.store.files (MayChange what.saved names.log names.book)
    by (inl (waits, inl x)) = unsaved-few what.saved names k.old.store.files k.new.store.files k.old.store.counts k.new.store.counts s.refusal x.files
    by (inl (waits, inr x)) = where-told k.old.store.files k.new.store.files (KeptFiles what.saved names.log names.book) (MayChange what.saved names.log names.book) (kept-few what.saved names.log names.book) x.files
    by (inr x) = where-told k.old.store.files k.new.store.files (KeptFiles what.saved names.log names.book) (MayChange what.saved names.log names.book) (kept-few what.saved names.log names.book) x.files

-- ---- what is printed

-- sending to out stopped
pub stopped-told : (names : FileNames) (what : Told) (r : Refusal) (status : ℕ) (k : Call)
    → AppendsPart k.old.out.text k.new.out.text what.out × SendStops k.old.out.faults k.new.out.faults r → AreKept names what k
    → ToldRefusal names r status k.old.err.text k.new.err.text k.old.err.faults k.new.err.faults → Tells names what status k
stopped-told names what r status k h files told = inr (record {
  refusal = r;
  mid = k.old.err.text;
  faults = k.old.err.faults;
  later = omega arith;
  place = inl (record { text = refl; count = refl }, inr (record { out = h.0; cause = h.1; files = files }));
  line = told;
})

-- a text is printed
pub printed-told : (names : FileNames) (text : List ℕ) (k : Call) → Appends k.old.out.text k.new.out.text text → Appends k.old.err.text k.new.err.text [] → WhereTold k.old.store.files k.new.store.files SameFiles
    → Tells names (printed text) 0 k
printed-told names text k out err files = inl (record { status_is = refl; out = out; err = inl err; files = files })

-- ---- a recording

-- saving stopped
pub unsaved-told : (names : FileNames) (what : Told) (r : Refusal) (status : ℕ) (k : Call) → Appends k.old.out.text k.new.out.text []
    → Unsaved what.saved names k.old.store.files k.new.store.files k.old.store.counts k.new.store.counts r → ToldRefusal names r status k.old.err.text k.new.err.text k.old.err.faults k.new.err.faults → Tells names what status k
unsaved-told names what r status k out files told = inr (record {
  refusal = r;
  mid = k.old.err.text;
  faults = k.old.err.faults;
  later = omega arith;
  place = inl (record { text = refl; count = refl }, inl (record { out = out; files = files }));
  line = told;
})

-- sending to err stopped
pub half-told : (names : FileNames) (what : RunToTell) (r : Refusal) (status : ℕ) (k : Call) (mid : Option (List ℕ)) (faults : ℕ)
    → Appends k.old.out.text k.new.out.text what.out.items → AppendsShort k.old.err.text mid what.err.items × Rose k.old.err.faults faults → r ≡ WriteFailed → k.old.err.faults ≤ faults
    → AreKept names (told_of_recording what) k → ToldRefusal names r status mid k.new.err.text faults k.new.err.faults
    → Tells names (told_of_recording what) status k
half-told names what r status k mid faults out h is later files told = inr (record {
  refusal = r;
  mid = mid;
  faults = faults;
  later = later;
  place = inr (record { refusal_is = is; out = out; err = h.0; cause = h.1; files = files });
  line = told;
})

-- all of it is done
pub recorded-told : (names : FileNames) (what : RunToTell) (k : Call) → Appends k.old.out.text k.new.out.text what.out.items → Appends k.old.err.text k.new.err.text what.err.items
    → AreKept names (told_of_recording what) k → Tells names (told_of_recording what) (end_status what.end) k
recorded-told names what k out err files = inl (record { status_is = refl; out = out; err = err; files = files })

-- two saves one after the other
pub kept-both : (first middle last : Option Files) (bytes list log book : List ℕ)
    → WhereTold first middle (λ old new. new log ≡ Some bytes) → WhereTold first middle (SameElsewhere log)
    → WhereTold middle last (λ old new. new book ≡ Some list) → WhereTold middle last (SameElsewhere book)
    → WhereTold first last (KeptBoth bytes list log book)
kept-both None middle last bytes list log book a b c d = tt
kept-both (Some first) None last bytes list log book a b c d = absurd a
kept-both (Some first) (Some middle) None bytes list log book a b c d = absurd c
kept-both (Some first) (Some middle) (Some last) bytes list log book a b c d = record {
  log_there = λ apart. d log apart ∙ a;
  book_there = c;
  others = λ name not_log not_book. d name not_book ∙ b name not_log;
}

-- one alone
pub kept-log : (first last : Option Files) (bytes log : List ℕ) → WhereTold first last (λ old new. new log ≡ Some bytes) → WhereTold first last (SameElsewhere log) → WhereTold first last (KeptLog bytes log)
kept-log None last bytes log a b = tt
kept-log (Some first) None bytes log a b = absurd a
kept-log (Some first) (Some last) bytes log a b = record { there = a; others = b }

-- a recording that has a list saves both
pub both-saved : (first last : Option Files) (saved : Saved) (list log book : List ℕ) → saved.book ≡ Some list → WhereTold first last (KeptBoth saved.log list log book)
    → WhereTold first last (KeptFiles (Some saved) log book)
both-saved first last saved list log book e h = subst (λ (o : Option (List ℕ)). WhereTold first last (KeptSaved saved.log o log book)) (sym e) h

-- two, the second of which was refused
pub log-alone : (first middle last : Option Files) (bytes log book : List ℕ)
    → WhereTold first middle (λ old new. new log ≡ Some bytes) → WhereTold first middle (SameElsewhere log) → WhereTold middle last (SameElsewhere book)
    → WhereTold first last (LogAlone bytes log book)
log-alone None middle last bytes log book a b d = tt
log-alone (Some first) None last bytes log book a b d = absurd a
log-alone (Some first) (Some middle) None bytes log book a b d = absurd d
log-alone (Some first) (Some middle) (Some last) bytes log book a b d = record {
  log_there = λ apart. d log apart ∙ a;
  others = λ name not_log not_book. d name not_book ∙ b name not_log;
}

-- the log of a recording that has a list, which was refused
pub log-saved : (first last : Option Files) (saved : Saved) (list log book : List ℕ) → saved.book ≡ Some list → WhereTold first last (LogAlone saved.log log book)
    → WhereTold first last (SaveBroke role.Book saved log book)
log-saved first last saved list log book e h = subst (λ (o : Option (List ℕ)). WhereTold first last (λ old new. IsSomeAnd o (λ list. LogAlone saved.log log book old new))) (sym e) h

-- ---- before there is an answer

-- the line for out of memory names no file
pub memory-names : (a b : FileNames) (status : ℕ) (err_old err_new : Option (List ℕ)) (before now : ℕ) → ToldRefusal a OutOfMemory status err_old err_new before now → ToldRefusal b OutOfMemory status err_old err_new before now
unfolding line_of said_of
memory-names a b status err_old err_new before now h = h

-- files that no one touched
pub untouched : (known : Option Files) → WhereTold known known SameFiles
untouched known = same-files known known refl

pub with-any : (known : Option Files) (P : Files → Type 0) → ((files : Files) → P files) → WithFiles known P
with-any None P h = tt
with-any (Some files) P h = h files

-- ---- a part of a call

-- a call that began earlier, with a store of the same files
abbrev pub from : Stored → Call → Call
from store k = between (world store k.old.out k.old.err) k.new

unsaved-from : (saved : Option Saved) (names : FileNames) (old new : Option Files) (before mid now : Counts) (r : Refusal) → NoneFell before mid → Unsaved saved names old new mid now r → Unsaved saved names old new before now r
unsaved-from None names old new before mid now r n u = absurd u
unsaved-from (Some saved) names old new before mid now r n (inl (role, is, broke, rose)) = inl (role, is, broke, rose-later before.faults mid.faults now.faults n.faults rose)
unsaved-from (Some saved) names old new before mid now r n (inr memory) = inr memory

pub tells-from : (names : FileNames) (what : Told) (status : ℕ) (store : Stored) (k : Call) → k.old.store.files ≡ store.files → NoneFell store.counts k.old.store.counts
    → Tells names what status k → Tells names what status (from store k)
tells-from names what status store k e n (inl done) = inl (record {
  status_is = done.status_is;
  out = done.out;
  err = done.err;
  files = subst (λ (x : Option Files). WhereTold x k.new.store.files (KeptFiles what.saved names.log names.book)) e done.files;
})
tells-from names what status store k e n (inr s) = inr (record { refusal = s.refusal; mid = s.mid; faults = s.faults; later = s.later; place = place s.place; line = s.line })
  where
    place : ErrWaits k s.mid s.faults × (SavingStopped names what s.refusal k ⊎ OutStopped names what s.refusal k) ⊎ ErrStopped names what s.refusal k s.mid s.faults
        → ErrWaits (from store k) s.mid s.faults × (SavingStopped names what s.refusal (from store k) ⊎ OutStopped names what s.refusal (from store k)) ⊎ ErrStopped names what s.refusal (from store k) s.mid s.faults
    place (inl (waits, inl x)) = inl (
      record { text = waits.text; count = waits.count },
      inl (record {
        out = x.out;
        files = subst (λ (y : Option Files). Unsaved what.saved names y k.new.store.files store.counts k.new.store.counts s.refusal) e
            (unsaved-from what.saved names k.old.store.files k.new.store.files store.counts k.old.store.counts k.new.store.counts s.refusal n x.files);
      }),
    )
    place (inl (waits, inr x)) = inl (
      record { text = waits.text; count = waits.count },
      inr (record {
        out = x.out;
        cause = x.cause;
        files = subst (λ (y : Option Files). WhereTold y k.new.store.files (KeptFiles what.saved names.log names.book)) e x.files;
      }),
    )
    place (inr x) = inr (record {
      refusal_is = x.refusal_is;
      out = x.out;
      err = x.err;
      cause = x.cause;
      files = subst (λ (y : Option Files). WhereTold y k.new.store.files (KeptFiles what.saved names.log names.book)) e x.files;
    })
