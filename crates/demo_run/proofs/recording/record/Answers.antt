use Rattle.demo_run.proofs.Common.{List, Option, ◌∙◌, ap, EndMark, counts_in, ◌≡◌, ◌==◌, ℕ, Bool, true, false, length, arith, Program, RawSettings, file_bytes, file_bytes2, saved_bytes, content, Record, run_of, seeded, demo, demo_settings, demo_program, demo_turns, demo_log, instructions_of, IsStart, recorded}
use Rattle.bn_outside.specs.declared.turn_row.TurnRow.{TurnRow}
use Rattle.log_ring.specs.Kept.{kept}
use Rattle.run_model.specs.KeptRecords.{kept_of, dropped_of}
use Rattle.run_model.specs.Turn.{Run}
use Rattle.run_model.specs.declared.start.Start.{Start}
use Rattle.bus_core.specs.Bus.{began_of, marks}
use Rattle.bus_core.specs.declared.closed.Closed.{Closed}
use Rattle.whole_runs.specs.Closed.{IsClosed}
use Rattle.whole_runs.specs.Lists.{list_run}
use Rattle.demo_run.proofs.Whole.{first_format}
use Rattle.demo_run.proofs.recording.record.Goals as goal

-- The run of a demonstration, as its closed bus has it.
-- the turns that the number chooses
abbrev turns_of : ℕ → Start → List ℕ
turns_of seed s = seeded s.settings s.image s.input.items seed

list-so : (seed : ℕ) (s : Start) → IsStart seed s → turns_of seed s ≡ demo_turns seed
unfolding demo_turns
list-so seed s is =
    ap (λ (c : RawSettings). seeded c s.image s.input.items seed) is.settings ∙ ap (λ (i : Program). seeded demo_settings i s.input.items seed) is.image
    ∙ ap (λ (x : List ℕ). seeded demo_settings (demo_program seed) x seed) is.input

run-so : (seed : ℕ) (s : Start) → IsStart seed s → list_run (began_of s) (turns_of seed s) ≡ recorded (demo seed)
run-so seed s is =
    ap (λ (b : List ℕ). run_of s.settings s.image s.input.items b) (list-so seed s is)
    ∙ ap (λ (c : RawSettings). run_of c s.image s.input.items (demo_turns seed)) is.settings
    ∙ ap (λ (i : Program). run_of demo_settings i s.input.items (demo_turns seed)) is.image
    ∙ ap (λ (x : List ℕ). run_of demo_settings (demo_program seed) x (demo_turns seed)) is.input

turns-so : {B : _} (tells : Bool) (seed : ℕ) (s : Start) (closed : Closed B) (rows : List TurnRow) → IsStart seed s → IsClosed tells (began_of s) (turns_of seed s) closed rows
    → closed.turns ≡ length (demo_turns seed)
turns-so tells seed s closed rows is end = end.turns ∙ ap (λ (b : List ℕ). length b) (list-so seed s is)

instructions-so : {B : _} (tells : Bool) (seed : ℕ) (s : Start) (closed : Closed B) (rows : List TurnRow) → IsStart seed s → IsClosed tells (began_of s) (turns_of seed s) closed rows
    → counts_in closed.ends.items ≡ instructions_of (demo seed)
instructions-so tells seed s closed rows is end =
    ap (λ (ms : List (Option EndMark)). counts_in ms) end.ends
    ∙ ap (λ (c : RawSettings). counts_in (marks 0 c.harts (list_run (began_of s) (turns_of seed s)).harts)) is.settings
    ∙ ap (λ (run : Run). counts_in (marks 0 demo_settings.harts run.harts)) (run-so seed s is)

records-so : {B : _} (tells : Bool) (seed : ℕ) (s : Start) (closed : Closed B) (rows : List TurnRow) → IsStart seed s → IsClosed tells (began_of s) (turns_of seed s) closed rows
    → closed.ring.records ≡ kept_of demo_settings (recorded (demo seed))
records-so tells seed s closed rows is end =
    end.log.latest ∙ ap (λ (n : ℕ). kept n (list_run (began_of s) (turns_of seed s)).stream) end.size
    ∙ ap (λ (c : RawSettings). kept c.log_size (list_run (began_of s) (turns_of seed s)).stream) is.settings
    ∙ ap (λ (run : Run). kept demo_settings.log_size run.stream) (run-so seed s is)

dropped-so : {B : _} (tells : Bool) (seed : ℕ) (s : Start) (closed : Closed B) (rows : List TurnRow) → IsStart seed s → IsClosed tells (began_of s) (turns_of seed s) closed rows
    → closed.ring.dropped ≡ dropped_of demo_settings (recorded (demo seed))
dropped-so tells seed s closed rows is end =
    let count : length closed.ring.records ≡ length (kept_of demo_settings (recorded (demo seed))) = ap (λ (rs : List Record). length rs) (records-so tells seed s closed rows is end) in
    let all : length (list_run (began_of s) (turns_of seed s)).stream ≡ length (recorded (demo seed)).stream = ap (λ (run : Run). length run.stream) (run-so seed s is) in
    let counted = end.log.counted in
    omega (arith, counted, count, all)

-- its file is that of version 1
saved-so : (seed : ℕ) → saved_bytes (demo_log seed) ≡ file_bytes (demo_log seed)
saved-so seed = ap (λ (b : Bool). elim b as (λ y. List ℕ) [ true ↦ file_bytes2 (demo_log seed) | false ↦ file_bytes (demo_log seed) ]) (ap (λ (n : ℕ). n == 2) first_format)

file-so : {B : _} (tells : Bool) (seed : ℕ) (s : Start) (closed : Closed B) (rows : List TurnRow) → IsStart seed s → IsClosed tells (began_of s) (turns_of seed s) closed rows
    → saved_bytes (content (record { settings = s.settings; digest = s.digest }) closed.ring.dropped closed.ring.records) ≡ file_bytes (demo_log seed)
file-so tells seed s closed rows is end =
    ap (λ (c : RawSettings). saved_bytes (content (record { settings = c; digest = s.digest }) closed.ring.dropped closed.ring.records)) is.settings
    ∙ ap (λ (d : List ℕ). saved_bytes (content (record { settings = demo_settings; digest = d }) closed.ring.dropped closed.ring.records)) is.digest
    ∙ ap (λ (n : ℕ). saved_bytes (content (demo_log seed).head n closed.ring.records)) (dropped-so tells seed s closed rows is end)
    ∙ ap (λ (rs : List Record). saved_bytes (content (demo_log seed).head (demo_log seed).dropped rs)) (records-so tells seed s closed rows is end) ∙ saved-so seed

pub returns : goal.returns
returns c =
    let seed = c.args.seed in
    let start = c.args.start.now in
    let closed = c.in_ok-closed.closed in
    record {
      turns = turns-so _ seed start closed _ c.requires c.in_ok-closed.ensures.run;
      instructions = c.counts_in.ensures ∙ ap (λ (ms : List (Option EndMark)). counts_in ms) c.deref.ensures.value ∙ instructions-so _ seed start closed _ c.requires c.in_ok-closed.ensures.run;
      file = c.in_ok-saved_file.ensures ∙ file-so _ seed start closed _ c.requires c.in_ok-closed.ensures.run;
    }
