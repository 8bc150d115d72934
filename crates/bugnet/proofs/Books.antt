-- Recordings that are given one schedule, or one the BOOK of another.
use Rattle.bugnet.proofs.Common.{◌≡◌, ℕ, Bool, List, Option, Some, sym, subst, ap, ◌∙◌, Result, Ok, sha256, Program, RawSettings, Files, RecordingLine, image_of, ElfError, file_of, began_by, Began, HasList, Leaves, false, refl, None, Schedule, Told, first_bad, AreScheduled, taken_by, book_if, input_by, recorded, told_run}
use Rattle.whole_runs.specs.Followed.{followed, WholeListsAreFollowed}
use Rattle.whole_runs.specs.Scheduled.{scheduled}
use Rattle.bugnet.specs.Books.{AreOfOne, LeaveOne, LeaveOneRun, TellOne, TellOneRun, BooksAreFollowed, SchedulesGiveOneRun}
use Rattle.bugnet.proofs.Leaves.{Found, by-settings}

ok-same : (e : Result Program ElfError) (i j : Program) → e ≡ Ok i → e ≡ Ok j → i ≡ j
ok-same e i j p q = cc

some-same : (o : Option (List ℕ)) (xs ys : List ℕ) → o ≡ Some xs → o ≡ Some ys → xs ≡ ys
some-same o xs ys p q = cc

-- the list that is under BOOK
listed : (lean : Bool) (there : Option (List ℕ)) (turns : List ℕ) → lean ≡ false → HasList lean there turns → there ≡ Some turns
listed lean there turns e has = subst (λ (b : Bool). HasList b there turns) e has

began-same : (c d : RawSettings) (i j : Program) (elf other input given : List ℕ) → d ≡ c → j ≡ i → other ≡ elf → given ≡ input → began_by d j (sha256 other) given ≡ began_by c i (sha256 elf) input
began-same c d i j elf other input given p q r s = cc

file-same : (c d : RawSettings) (i j : Program) (elf other input given turns list : List ℕ) → d ≡ c → j ≡ i → other ≡ elf → given ≡ input → list ≡ turns → file_of d j (sha256 other) given list ≡ file_of c i (sha256 elf) input turns
file-same c d i j elf other input given turns list p q r s t = cc

image-same : (c d : RawSettings) (elf other : List ℕ) → d ≡ c → other ≡ elf → image_of other d ≡ image_of elf c
image-same c d elf other p q = cc

same-program : {r q : RecordingLine} {old new before after : Files} (first : Leaves r old new) (second : Leaves q before after) → AreOfOne first second → second.program ≡ first.program
same-program {r} {q} {old} {new} {before} {after} first second one =
    ok-same (image_of first.elf r.settings) second.program first.program (sym (image-same r.settings q.settings first.elf second.elf one.settings one.elf) ∙ second.recording.loaded) first.recording.loaded

same-began : {r q : RecordingLine} {old new before after : Files} (first : Leaves r old new) (second : Leaves q before after) → AreOfOne first second
    → began_by q.settings second.program (sha256 second.elf) second.input ≡ began_by r.settings first.program (sha256 first.elf) first.input
same-began {r} {q} {old} {new} {before} {after} first second one =
    began-same r.settings q.settings first.program second.program first.elf second.elf first.input second.input one.settings (same-program first second one) one.elf one.input

-- recordings of the same turns
same-turns : {r q : RecordingLine} {old new before after : Files} (first : Leaves r old new) (second : Leaves q before after) → AreOfOne first second → second.turns ≡ first.turns → LeaveOne first second
same-turns {r} {q} {old} {new} {before} {after} first second one turns =
    let file = file-same r.settings q.settings first.program second.program first.elf second.elf first.input second.input first.turns second.turns one.settings (same-program first second one) one.elf one.input turns in
    record {
      turns = turns;
      log = second.log ∙ ap (λ (xs : List ℕ). Some xs) file ∙ sym first.log;
      book = λ full kept. listed q.lean (after q.book) second.turns kept second.book ∙ ap (λ (xs : List ℕ). Some xs) turns ∙ sym (listed r.lean (new r.book) first.turns full first.book);
    }

leave-one : LeaveOneRun
leave-one r q old new before after first second schedule one mine its =
    same-turns first second one (its ∙ ap (λ (b : Began). scheduled schedule b) (same-began first second one) ∙ sym mine)

pub books_followed : WholeListsAreFollowed → BooksAreFollowed
books_followed whole r q old new before after first second book full under one keeps =
    let list : book.now ≡ first.turns = some-same (new r.book) book.now first.turns under (listed r.lean (new r.book) first.turns full first.book) in
    let began = began_by r.settings first.program (sha256 first.elf) first.input in
    same-turns first second one
    (keeps ∙ ap (λ (b : Began). followed b book.now) (same-began first second one) ∙ ap (λ (xs : List ℕ). followed began xs) list ∙ whole began first.turns first.recording.legal first.recording.over)

-- ---- what recordings tell

-- one without a seed that isn't refused tells the run of its schedule
of-schedule : (r : RecordingLine) (schedule : Schedule) (files : Files) (what : Told) (f : Found r (Some schedule) files what) → r.seed ≡ None
    → what ≡ recorded r.settings f.can.program (sha256 f.can.elf) f.can.input r.lean (scheduled schedule (began_by r.settings f.can.program (sha256 f.can.elf) f.can.input))
of-schedule r schedule files what f none =
    let began = began_by r.settings f.can.program (sha256 f.can.elf) f.can.input in
    let turns : f.run.turns ≡ scheduled schedule began = subst (λ (seed : Option ℕ). AreScheduled (taken_by seed (Some schedule)) began f.run.turns) none f.run.given in
    f.run.is ∙ ap (λ (list : List ℕ). recorded r.settings f.can.program (sha256 f.can.elf) f.can.input r.lean list) turns

recorded-same : (c d : RawSettings) (i j : Program) (elf other input given : List ℕ) (lean : Bool) (schedule : Schedule) → d ≡ c → j ≡ i → other ≡ elf → given ≡ input
    → recorded d j (sha256 other) given lean (scheduled schedule (began_by d j (sha256 other) given)) ≡ recorded c i (sha256 elf) input lean (scheduled schedule (began_by c i (sha256 elf) input))
recorded-same c d i j elf other input given lean schedule p q r s = cc

-- of one run, lean or not
tell-run : (c : RawSettings) (i : Program) (digest input turns : List ℕ) (lean other : Bool) → TellOne lean other (recorded c i digest input lean turns) (recorded c i digest input other turns)
unfolding told_run
tell-run c i digest input turns lean other = record {
  status = refl;
  out = refl;
  err = refl;
  log = refl;
  book = λ p q. ap (λ (b : Bool). book_if b turns) q ∙ sym (ap (λ (b : Bool). book_if b turns) p);
}

tell-one : TellOneRun
tell-one r q old before schedule none also one a b is its done same =
    let f = by-settings (first_bad r.settings) old r (Some schedule) a refl is done in
    let g = by-settings (first_bad q.settings) before q (Some schedule) b refl its same in
    let elf : g.can.elf ≡ f.can.elf = some-same (old r.elf) g.can.elf f.can.elf (sym one.elf ∙ g.can.elf_there) f.can.elf_there in
    let input : g.can.input ≡ f.can.input = some-same (input_by r.input old) g.can.input f.can.input (sym one.input ∙ g.can.input_there) f.can.input_there in
    let program : g.can.program ≡ f.can.program =
    ok-same (image_of f.can.elf r.settings) g.can.program f.can.program (sym (image-same r.settings q.settings f.can.elf g.can.elf one.settings elf) ∙ g.can.loaded) f.can.loaded in
    let turns = scheduled schedule (began_by r.settings f.can.program (sha256 f.can.elf) f.can.input) in
    let first = of-schedule r schedule old a f none in
    let second = of-schedule q schedule before b g also ∙ recorded-same r.settings q.settings f.can.program g.can.program f.can.elf g.can.elf f.can.input g.can.input q.lean schedule one.settings program elf input in
    subst (λ (t : Told). TellOne r.lean q.lean t b) (sym first)
    (subst (λ (t : Told). TellOne r.lean q.lean (recorded r.settings f.can.program (sha256 f.can.elf) f.can.input r.lean turns) t) (sym second)
    (tell-run r.settings f.can.program (sha256 f.can.elf) f.can.input turns r.lean q.lean))

pub one_run : SchedulesGiveOneRun
one_run = record { tell = tell-one; leave = leave-one }
