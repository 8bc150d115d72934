-- What a bus keeps, and the rows that led to it.
use Rattle.std.specs.Prelude.{◌≡◌, ◌<◌, ◌≤◌, ℕ, zero, suc, ◌+◌, replicate, Bool, true, false, not, List, [], ◌∷◌, ◌++◌, slice_get, Option, Result, Ok, Err}
use Rattle.bn_base.specs.Programs.{Program}
use Rattle.bn_base.specs.declared.end_mark.EndMark.{EndMark}
use Rattle.bn_base.specs.declared.settings.RawSettings.{RawSettings}
use Rattle.rv_meaning.specs.declared.asks.Ask.{Ask}
use Rattle.rv_meaning.specs.declared.asks.Reply.{Reply}
use Rattle.log_record.specs.Spelling.{total}
use Rattle.log_ring.specs.Kept.{Held, HoldsLog}
use Rattle.race_log.specs.Points.{Point}
use Rattle.race_log.specs.declared.shadow.Shadow.{Shadow}
use Rattle.race_log.specs.Represents.{RepresentsAccesses}
use Rattle.race_log.specs.Noted.{Noted, noted}
use Rattle.bn_outside.specs.declared.turn_row.TurnRow.{TurnRow}
use Rattle.run_model.specs.declared.hart.Hart.{Hart}
use Rattle.run_model.specs.declared.start.Start.{Start}
use Rattle.run_model.specs.Represents.Plain.{PlainParts, IsRun, everyone}
use Rattle.run_model.specs.Represents.Parts.{MachineParts, IsMachine}
use Rattle.first_load_bits.specs.Represents.{Contents}
use Rattle.run_model.specs.Represents.EachCache.{AreCaches}
use Rattle.run_model.specs.Represents.Harts.{AreHarts, is_live_hart}
use Rattle.run_model.specs.Turn.{Run, Served, halted, serve, turn}
use Rattle.run_model.specs.Runs.{start, run_from, legal_from}
use Rattle.run_laws.specs.History.{after_rows, are_orderly, row_at, rows_from, IsLawful}
use Rattle.file_laws.specs.Recorded.{counts_of, KeepsRules}

-- what a run begins with
pub record Began : Type 0 where
  pub image : Program
  pub settings : RawSettings
  pub input : List ℕ
  pub digest : List ℕ

-- what a run begins with that has this start
abbrev pub began_of : Start → Began
began_of s = record { image = s.image; settings = s.settings; input = s.input.items; digest = s.digest }

-- what is seen of a bus. It has what the run began with, the rows that its book tells, and whether it was halted or served an
-- ask that isn't orderly. Then the machine, the harts, their caches, what the race log notes, the ring of kept records, how
-- many bytes the log took, and how many turns
pub record Seen : Type 0 where
  pub began : Began
  pub rows : List TurnRow
  pub halted : Bool
  pub disordered : Bool
  pub machine : MachineParts
  pub harts : List Hart
  pub caches : List Contents
  pub notes : Noted
  pub ring : Held
  pub bytes : ℕ
  pub turns : ℕ

-- the parts of a bus as contracts see them
abbrev pub seen : PlainParts → (halted disordered : Bool) → List TurnRow → Seen
seen p halted disordered rows = record {
  began = began_of p.start;
  rows = rows;
  halted = halted;
  disordered = disordered;
  machine = p.machine;
  harts = p.trace.harts.items;
  caches = p.trace.caches;
  notes = noted p.trace.shadow;
  ring = p.trace.log.ring;
  bytes = p.trace.log.bytes;
  turns = p.turns;
}

-- a shadow that notes these represents the points
pub record AreNotes (notes : Noted) (points : List Point) : Type 0 where
  pub shadow : Shadow
  pub same : noted shadow ≡ notes
  pub stands : RepresentsAccesses points everyone shadow

-- all of it is that of the run: what a bus does next stands on no more than this
pub record IsState (s : Seen) (run : Run) : Type 0 where
  pub machine : IsMachine s.began.input s.machine run.machine
  pub harts : AreHarts s.harts run.harts
  pub caches : AreCaches s.began.settings s.caches run.events
  pub points : AreNotes s.notes run.points
  pub log : HoldsLog s.ring run.stream
  pub counted : s.bytes ≡ total run.stream
  pub bytes : s.bytes ≡ run.bytes
  pub turns : s.turns ≡ run.turns

-- ---- an ask

-- the machine after an answer
abbrev pub IsServed : {E : Type 0} → PlainParts → Run → Served → Result (Reply × Bool) E → Type 0
IsServed new run s (Ok (reply, guarded)) = (reply ≡ s.reply) × (guarded ≡ s.guarded) × IsRun new s.run
IsServed new run s (Err e) = IsRun new run

-- From any run that the machine represents, the reply to an ask, whether it was guarded, and the machine after it are those of
-- the definition. If memory runs out, the machine still represents that run. What the run began with stays
pub record AnswersAsk {E : Type 0} (old new : PlainParts) (hart : ℕ) (ask : Ask) (answer : Result (Reply × Bool) E) : Type 0 where
  pub start : new.start ≡ old.start
  pub served : (run : Run) → IsRun old run → IsServed new run (serve old.start.settings old.start.image run hart ask) answer

-- ---- runs of a bus

-- the run before the first turn
abbrev pub first_run : Began → Run
first_run b = start b.settings b.image b.input

-- the run, ended if the bus was halted
abbrev pub halted_if : Bool → Run → Run
halted_if true run = halted run
halted_if false run = run

-- the run after rows that were served, and after a halt
abbrev pub run_after : Began → Bool → List TurnRow → Run
run_after b halted rows = halted_if halted (after_rows b.settings b.image (first_run b) rows)

-- what is served, and to what
abbrev pub served_run : Began → Run → ℕ → Ask → Run
served_run b run hart ask = (serve b.settings b.image run hart ask).run

-- the reply to it
abbrev pub served_reply : Began → Run → ℕ → Ask → Reply
served_reply b run hart ask = (serve b.settings b.image run hart ask).reply

-- whether it was guarded
abbrev pub served_guarded : Began → Run → ℕ → Ask → Bool
served_guarded b run hart ask = (serve b.settings b.image run hart ask).guarded

-- the row of a turn
abbrev pub row : ℕ → Ask → Reply → Bool → TurnRow
row hart ask reply guarded = record { hart = hart; ask = ask; reply = reply; guarded = guarded }

-- the rows of a book after an answer: if it tells, the answer's comes last; if memory ran out, they are the same
abbrev pub AddsRow : {E : Type 0} → Bool → List TurnRow → List TurnRow → ℕ → Ask → Result (Reply × Bool) E → Type 0
AddsRow tells old new hart ask (Ok (reply, guarded)) = tells ≡ true → new ≡ old ++ row hart ask reply guarded ∷ []
AddsRow tells old new hart ask (Err e) = new ≡ old

-- the run after a hart's turn, in which it asks what it asks next, and the row of that turn
abbrev pub turned_run : Began → Run → ℕ → Run
turned_run b run hart = turn b.settings b.image run hart

-- the row of that turn
abbrev pub turn_row : Began → Run → ℕ → TurnRow
turn_row b run hart = row_at b.settings b.image run hart

-- the rows are lawful, and tell whether all asks were orderly
pub record AreTold (b : Began) (disordered : Bool) (rows : List TurnRow) : Type 0 where
  pub lawful : IsLawful b.settings b.image (first_run b) rows
  pub orderly : disordered ≡ not (are_orderly b.settings b.image (first_run b) rows)

-- these rows led to what is kept
pub record IsHistory (p : PlainParts) (halted disordered : Bool) (rows : List TurnRow) : Type 0 where
  pub told : AreTold (began_of p.start) disordered rows
  pub run : IsRun p (run_after (began_of p.start) halted rows)

-- the rows of a book that tells led to what is kept, and some rows did in any case
pub record IsKept (tells : Bool) (rows : List TurnRow) (p : PlainParts) (halted disordered : Bool) : Type 0 where
  pub told : tells ≡ true → IsHistory p halted disordered rows
  pub some : (rs : List TurnRow) × IsHistory p halted disordered rs

-- these rows led to the bus: they are lawful, and the machine and the harts are as they leave them
pub record IsTold (s : Seen) (rows : List TurnRow) : Type 0 where
  pub told : AreTold s.began s.disordered rows
  pub state : IsState s (run_after s.began s.halted rows)

-- These rows led to the bus, and a ring holds the log of their run. Its records keep the rules of single records, and each
-- of their Edges comes from an instruction that its source has done
pub record IsLogged (s : Seen) (ring : Held) (rows : List TurnRow) : Type 0 where
  pub told : AreTold s.began s.disordered rows
  pub state : IsState s (run_after s.began s.halted rows)
  pub log : HoldsLog ring (run_after s.began s.halted rows).stream
  pub rules : KeepsRules s.began.settings (counts_of (run_after s.began s.halted rows)) ring.dropped ring.records

-- whether a hart of the bus is live
abbrev pub is_live : Seen → ℕ → Bool
is_live s k = is_live_hart (slice_get s.harts k)

-- from one to the other the one hart of a run took turns, at least one and no more than the most, and at each it was live
pub record HasTurnedAlone (tells : Bool) (most : ℕ) (old new : Seen) : Type 0 where
  pub count : ℕ
  pub some : 0 < count
  pub few : count ≤ most
  pub began : new.began ≡ old.began
  pub halted : new.halted ≡ old.halted
  pub disordered : new.disordered ≡ old.disordered
  pub turns : new.turns ≡ old.turns + count
  pub state : (run : Run) → IsState old run → IsState new (run_from old.began.settings old.began.image run (replicate count 0))
  pub legal : (run : Run) → IsState old run → legal_from old.began.settings old.began.image run (replicate count 0) ≡ true
  pub told : tells ≡ true → (run : Run) → IsState old run → new.rows ≡ old.rows ++ rows_from old.began.settings old.began.image run (replicate count 0)

-- the last marks of n harts from k on
abbrev pub marks : ℕ → ℕ → (ℕ → Hart) → List (Option EndMark)
marks k zero harts = []
marks k (suc n) harts = (harts k).mark ∷ marks (k + 1) n harts
