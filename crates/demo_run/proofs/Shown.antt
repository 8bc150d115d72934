-- What is counted of a demonstration.
use Rattle.demo_run.proofs.Common.{◌≡◌, ℕ, ◌-◌, ◌/◌, ◌≤◌, nat_lt, Bool, true, false, List, [], length, take, drop, length-take, ◌∙◌, ap, subst, sym, arith, Result, Ok, Err, if◌then◌else◌, flat_map, Program, Content, counts_of, IsVersion1, Done, Replayed, replayed, fresh, run_all, start, demo, demo_settings, demo_program, demo_elf, demo_turns, demo_log, word_bytes, rows_in, known_words, instructions_of, figures_of, DemonstrationsAreRecordings, AllComeToEnd, GoesThrough, IsRecorded, kept}
use Rattle.log_file.specs.declared.error.FileError.{FileError}
use Rattle.sha2.specs.Sha256.{sha256}
use Rattle.bn_base.specs.declared.row.Row.{Row}
use Rattle.log_file.specs.declared.counting.LogCounts.{LogCounts}
use Rattle.run_model.specs.Rows as run
use Rattle.run_model.specs.Rows.{rows_of}
use Rattle.replay_laws.specs.Law.{LogSuffices, RowsStandTogether, IsWhole, end_of}
use Rattle.file_laws.specs.Laws.{LogsAreContents}
use Rattle.joint_laws.specs.Laws.{OwnLogsAreLogs, RunsToTheEnd}
use Rattle.demo_run.specs.declared.figures.Figures.{Figures}
use Rattle.demo_run.proofs.Joins.{eight-each}
use Rattle.demo_run.proofs.Whole.{low_limit, first_format}

-- what the log says is what version 1 can say
pub says : DemonstrationsAreRecordings → LogsAreContents → (seed : ℕ) → IsVersion1 (demo_log seed)
says are law seed = (law demo_settings (demo_program seed) (demo_elf seed) [] (demo_turns seed) (are seed), first_format)

-- what is counted of a file that is read
pub counted-so : (a b : LogCounts) → ◌≡◌ {A = Result LogCounts FileError} (Ok a) (Ok b) → a ≡ b
counted-so a b e = ap (λ (r : Result LogCounts FileError). elim r as (λ x. LogCounts) [ Ok n ↦ n | Err f ↦ b ]) e

pub never-refused : (f : FileError) (n : LogCounts) → ◌≡◌ {A = Result LogCounts FileError} (Err f) (Ok n) → ⊥
never-refused f n e = cc

-- ---- its replays come to their ends

taken : (n : ℕ) (rs : List Row) → length (take n rs) ≤ n
taken n rs = omega (arith, length-take n rs)

one-more : (t : Bool) → (if t then 1 else 0) ≤ 1
one-more true = omega arith
one-more false = omega arith

pub all-come : DemonstrationsAreRecordings → LogSuffices → RowsStandTogether → OwnLogsAreLogs → (seed : ℕ) → AllComeToEnd (demo_program seed) (demo_log seed)
all-come are suffices together own seed h n v found =
    let r : IsRecorded (demo seed) = are seed in
    let whole : IsWhole demo_settings (demo_program seed) [] (demo_turns seed) = record { legal = r.legal; over = r.over } in
    let begun = start demo_settings (demo_program seed) [] in
    let rows : List Row = run.rows_in demo_settings (demo_program seed) begun (demo_turns seed) h n in
    let all : List Row = drop v.start.ic (rows_of demo_settings (demo_program seed) begun (demo_turns seed) h) in
    let gives : replayed (demo_program seed) (kept (demo seed)) h n ≡ record { rows = rows; outcome = Done } =
    suffices demo_settings (demo_program seed) [] (demo_turns seed) h n low_limit whole v found in
    let stand : rows ≡ take (end_of v - v.start.ic) all =
    together demo_settings (demo_program seed) [] (demo_turns seed) h n low_limit whole (kept (demo seed)) (own (demo seed) r).end v found in
    let count : length (replayed (demo_program seed) (kept (demo seed)) h n).rows ≡ length (take (end_of v - v.start.ic) all) =
    ap (λ (x : Replayed). length x.rows) gives ∙ ap (λ (xs : List Row). length xs) stand in
    record {
      done = ap (λ (x : Replayed). x.outcome) gives;
      few = omega (arith, count, taken (end_of v - v.start.ic) all, one-more (nat_lt 16 v.mark.reason));
    }

-- its joint replay goes through
pub goes-through : DemonstrationsAreRecordings → OwnLogsAreLogs → RunsToTheEnd → (seed : ℕ) → GoesThrough (demo_program seed) (demo_log seed)
goes-through are own ends seed = (ends (demo seed) (kept (demo seed)) (own (demo seed) (are seed))).stopped

-- ---- what was read back and replayed

pub ends-there : (seed : ℕ) (i : Program) (d : Content) → i ≡ demo_program seed → d ≡ demo_log seed → AllComeToEnd (demo_program seed) (demo_log seed) → AllComeToEnd i d
ends-there seed i d e f h = subst (λ (x : Program). AllComeToEnd x d) (sym e) (subst (λ (x : Content). AllComeToEnd (demo_program seed) x) (sym f) h)

pub goes-there : (seed : ℕ) (i : Program) (d : Content) → i ≡ demo_program seed → d ≡ demo_log seed → GoesThrough (demo_program seed) (demo_log seed) → GoesThrough i d
goes-there seed i d e f h = subst (λ (x : Program). GoesThrough x d) (sym e) (subst (λ (x : Content). GoesThrough (demo_program seed) x) (sym f) h)

pub rows-so : (seed : ℕ) (i : Program) (d : Content) (n : ℕ) → i ≡ demo_program seed → d ≡ demo_log seed → n ≡ rows_in i d.records d.records → n ≡ rows_in (demo_program seed) (kept (demo seed)) (kept (demo seed))
rows-so seed i d n e f h = h ∙ ap (λ (x : Program). rows_in x d.records d.records) e ∙ ap (λ (x : Content). rows_in (demo_program seed) x.records x.records) f

pub words-so : (seed : ℕ) (i : Program) (d : Content) (bytes : List ℕ) → i ≡ demo_program seed → d ≡ demo_log seed
    → bytes ≡ flat_map word_bytes (run_all (fresh i d.head.settings.harts d.records)).walk.now.memory → bytes ≡ flat_map word_bytes (known_words (demo seed))
words-so seed i d bytes e f h =
    h ∙ ap (λ (x : Program). flat_map word_bytes (run_all (fresh x d.head.settings.harts d.records)).walk.now.memory) e
    ∙ ap (λ (x : Content). flat_map word_bytes (run_all (fresh (demo_program seed) x.head.settings.harts x.records)).walk.now.memory) f

pub count-so : (ms : List (ℕ × ℕ)) (bytes : List ℕ) (size : ℕ) → size ≡ length bytes → bytes ≡ flat_map word_bytes ms → size / 8 ≡ length ms
count-so ms bytes size same e = omega (arith, same, ap (λ (t : List ℕ). length t) e, eight-each ms)

-- figures by their fields
abbrev figured : (seed turns instructions records dropped bytes intervals rows words : ℕ) → List ℕ → Figures
figured seed turns instructions records dropped bytes intervals rows words digest = record {
  seed = seed;
  turns = turns;
  instructions = instructions;
  records = records;
  dropped = dropped;
  bytes = bytes;
  intervals = intervals;
  rows = rows;
  words = words;
  digest = digest;
}

-- those that were counted, of which a log has these counts
abbrev pub with_counts : (seed turns instructions : ℕ) → LogCounts → (rows words : ℕ) → List ℕ → Figures
with_counts seed turns instructions n rows words digest = figured seed turns instructions n.records n.dropped n.bytes n.intervals rows words digest

pub figures-so : (seed turns instructions : ℕ) (n : LogCounts) (rows words : ℕ) (bytes : List ℕ)
    → turns ≡ length (demo_turns seed) → instructions ≡ instructions_of (demo seed) → n ≡ counts_of (demo_log seed)
    → rows ≡ rows_in (demo_program seed) (kept (demo seed)) (kept (demo seed)) → words ≡ length (known_words (demo seed)) → bytes ≡ flat_map word_bytes (known_words (demo seed))
    → with_counts seed turns instructions n rows words (sha256 bytes) ≡ figures_of seed (demo seed)
figures-so seed turns instructions n rows words bytes a b d e f g =
    let t = length (demo_turns seed) in
    let i = instructions_of (demo seed) in
    let c : LogCounts = counts_of (demo_log seed) in
    let r = rows_in (demo_program seed) (kept (demo seed)) (kept (demo seed)) in
    ap (λ (x : ℕ). with_counts seed x instructions n rows words (sha256 bytes)) a
    ∙ ap (λ (x : ℕ). with_counts seed t x n rows words (sha256 bytes)) b
    ∙ ap (λ (x : LogCounts). with_counts seed t i x rows words (sha256 bytes)) d
    ∙ ap (λ (x : ℕ). with_counts seed t i c x words (sha256 bytes)) e
    ∙ ap (λ (x : ℕ). with_counts seed t i c r x (sha256 bytes)) f
    ∙ ap (λ (x : List ℕ). with_counts seed t i c r (length (known_words (demo seed))) (sha256 x)) g
