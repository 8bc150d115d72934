-- The last Ends that a ring keeps have the last marks of their harts.
use Rattle.bus_core.proofs.Common.{◌≡◌, ℕ, zero, suc, ◌+◌, ◌<◌, Bool, true, false, List, ◌++◌, length, refl, sym, ◌∙◌, ap, arith, Option, Some, slice_get, EndMark, Record, Held, HoldsLog, kept, TurnRow, Hart, Run, after_rows, Began, first_run, halted_if, run_after, marks}
use Rattle.run_laws.specs.Ends.{last_end, AreLastMarks}
use Rattle.run_laws.specs.Laws.{KeptEndsAreMarks}

abbrev pub SuffixIsKept : Type 0
SuffixIsKept = (size : ℕ) (rs : List Record) → (front : List Record) × (rs ≡ front ++ kept size rs)

-- a hart's entry among the marks
marks_count : (k n : ℕ) (f : ℕ → Hart) → length (marks k n f) ≡ n
marks_count k zero f = refl
marks_count k (suc n) f = ap suc (marks_count (k + 1) n f)

mark_at : (k n j : ℕ) (f : ℕ → Hart) → j < n → slice_get (marks k n f) j ≡ Some (f (k + j)).mark
mark_at k zero j f within = absurd (omega (arith, within))
mark_at k (suc n) zero f within = ap (λ (x : ℕ). Some (f x).mark) (omega arith)
mark_at k (suc n) (suc j) f within = mark_at (k + 1) n j f (omega (arith, within)) ∙ ap (λ (x : ℕ). Some (f x).mark) (omega arith)

first_mark : (n h : ℕ) (f : ℕ → Hart) → h < n → slice_get (marks 0 n f) h ≡ Some (f h).mark
first_mark n h f within = mark_at 0 n h f within ∙ ap (λ (x : ℕ). Some (f x).mark) (omega arith)

-- a halt leaves the records and the marks
pub halted_stream : (b : Bool) (run : Run) → (halted_if b run).stream ≡ run.stream
halted_stream true run = refl
halted_stream false run = refl

halted_mark : (b : Bool) (run : Run) (h : ℕ) → ((halted_if b run).harts h).mark ≡ (run.harts h).mark
halted_mark true run h = refl
halted_mark false run h = refl

pub last_marks_are : SuffixIsKept → KeptEndsAreMarks → (b : Began) (halted : Bool) (rows : List TurnRow) (ring : Held) (ends : List (Option EndMark)) → HoldsLog ring (run_after b halted rows).stream
    → ends ≡ marks 0 b.settings.harts (run_after b halted rows).harts → AreLastMarks ring.records ends
last_marks_are suffix law b halted rows ring ends log is h m within e =
    let run = after_rows b.settings b.image (first_run b) rows in
    let harts = b.settings.harts in
    let there : h < harts = omega (arith, within, ap length is, marks_count 0 harts (run_after b halted rows).harts) in
    let part = suffix ring.size run.stream in
    let records : ring.records ≡ kept ring.size run.stream = log.latest ∙ ap (kept ring.size) (halted_stream halted run) in
    let mark : (run.harts h).mark ≡ Some m = law b.settings b.image b.input rows (kept ring.size run.stream) h m there (record { front = part.0; parts = part.1 }) (ap (last_end h) (sym records) ∙ e) in
    ap (λ (xs : List (Option EndMark)). slice_get xs h) is ∙ first_mark harts h (run_after b halted rows).harts there ∙ ap (λ (x : Option EndMark). Some x) (halted_mark halted run h ∙ mark)
