-- What a turn changes in what is traced of a run.
use Rattle.std.specs.Prelude.{ℕ, ◌+◌, ◌==◌, ◌≡◌, ◌≢◌, List, ◌++◌, length, Option, if◌then◌else◌}
use Rattle.run_model.specs.Common.{Program, RawSettings, HartState, absorbed, Ask, Want, Reply, Plan, Event, Contents, Warm, Record, Point}
use Rattle.run_model.specs.declared.hart.Hart.{Hart}
use Rattle.run_model.specs.declared.turn_end.TurnEnd.{TurnEnd}
use Rattle.run_model.specs.declared.turn_end.TurnEnd.TheVariants.{GoesOn}
use Rattle.run_model.specs.declared.span.Span.{Span}
use Rattle.run_model.specs.declared.trace.Trace.{Trace}
use Rattle.run_model.specs.Machine.{Machine, call_of}
use Rattle.run_model.specs.Turn.{span_of, next_of, point_of, edge_records, load_record, sc_record, next_records, run_over_records, harts_after, hart_after, events_after, skipped_after}
use Rattle.run_model.specs.Counts.{anew}
use Rattle.run_model.specs.Represents.Logs.{taken}
use Rattle.run_model.specs.Represents.Harts.{hart_in}
use Rattle.run_model.specs.Represents.EachCache.{AreCaches, steps_in, touched_word}

-- the word of its own that an ask touches, if it does
abbrev pub touched_by : Program → Machine → Want → Reply → Option ℕ
touched_by i m want reply = touched_word (call_of i m want) (span_of (call_of i m want) want reply)

-- what comes next for hart k, one of these, by the reply to its ask
abbrev pub next_by : RawSettings → Option Plan → List Hart → ℕ → Ask → Reply → TurnEnd
next_by c call hs k ask reply = next_of c call (hart_in hs k) ask.want reply (absorbed ask reply).ic

-- the harts then, with so many bytes of records
abbrev pub harts_by : RawSettings → Option Plan → List Hart → ℕ → Ask → Reply → Option Warm → ℕ → (ℕ → Hart) → ℕ → Hart
harts_by c call hs k ask reply load bytes f =
    let h : Hart = hart_in hs k in
    let next : TurnEnd = next_by c call hs k ask reply in
    harts_after next k (hart_after next (absorbed ask reply) (skipped_after load h.skipped) bytes h) f

-- the records with those of the Ends and Headers that come next
abbrev pub with_ends : RawSettings → Option Plan → List Hart → ℕ → Ask → Reply → (ℕ → Hart) → List Record → List Record
with_ends c call hs k ask reply f rs =
    let next : TurnEnd = next_by c call hs k ask reply in
    rs ++ next_records next k (hart_in hs k).number (absorbed ask reply) ++ run_over_records next k (length hs) f

-- the records with those of hart k's access: its Edges, its FirstLoad, and how its SC went
abbrev pub with_access : List Hart → (turn k : ℕ) → Option Plan → Ask → Reply → Option Warm → ℕ → List Point → List Record → List Record
with_access hs turn k call ask reply load word points rs =
    rs ++ edge_records (point_of k ask.state.ic turn (span_of call ask.want reply)) points ++ load_record load k (hart_in hs k).skipped word ++ sc_record reply k

-- caches that represent histories with hart k's access represent them with what comes next
abbrev pub CachesGoOn : RawSettings → TurnEnd → ℕ → Option Plan → Option Span → (ℕ → List Event) → (old new : List Contents) → Type 0
CachesGoOn c next k call span events old new = AreCaches c old (events_after GoesOn k call span events) → AreCaches c new (events_after next k call span events)

-- from one to the other hart k began its next interval in state s, by the guard: an End and a Header were appended, the bits
-- of its cache were cleared, and nothing else changed
pub record IsAnew (k : ℕ) (s : HartState) (old new : Trace) : Type 0 where
  pub own : hart_in new.harts.items k ≡ anew s new.log.bytes (hart_in old.harts.items k)
  pub others : (j : ℕ) → j ≢ k → hart_in new.harts.items j ≡ hart_in old.harts.items j
  pub len : length new.harts.items ≡ length old.harts.items
  pub caches : length new.caches ≡ length old.caches
  pub steps : (j : ℕ) → steps_in new.caches j ≡ (if j == k then steps_in old.caches j + 1 else steps_in old.caches j)
  pub shadow : new.shadow ≡ old.shadow
  pub took : taken new.log.ring ≡ taken old.log.ring + 2
  pub size : new.log.ring.size ≡ old.log.ring.size
