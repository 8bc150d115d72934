-- The laws of joint replays. They hold of every log in order, forged ones too.
use Rattle.std.specs.Prelude.{◌≡◌, ◌<◌, ◌-◌, ◌^◌, ◌||◌, ℕ, Bool, true, false, List, slice_get, Option, Some, None, Ok}
use Rattle.joint_replay.specs.Common.{Program, RawSettings, Record, is_unfinished, after_all, broken_by, Interval, Position, to_come}
use Rattle.log_order.specs.declared.view.OrderLimits.{OrderLimits}
use Rattle.log_order.specs.declared.view.HartView.{HartView}
use Rattle.joint_replay.specs.declared.kinds.Next.TheVariants.{NoneReady}
use Rattle.joint_replay.specs.Points.{is_below, points_below}
use Rattle.joint_replay.specs.Lanes.{Cursor, Lane, lane_step}
use Rattle.joint_replay.specs.Joining.{Joining, Walk, fresh, choice}
use Rattle.joint_replay.specs.Orders.{IsBegun, ready_step}
use Rattle.joint_replay.specs.Counts.{RowsFrom}
use Rattle.joint_replay.specs.Ways.{ArePoints, IsBelow, IsLane, Has, PassesIf}
use Rattle.joint_replay.specs.Sound.{HasEdge, IsSound, SoundIf}
use Rattle.joint_replay.specs.Chains.{Leads, Did, IsToDo, HaveTimes}
use Rattle.joint_replay.specs.Shape.{mark_of, spans, is_known, Fits}
use Rattle.joint_replay.specs.Inside.{IsInside}
use Rattle.joint_replay.specs.Sources.{edges_into, AscendFrom}

-- ---- one hart

-- the rows to come of a replay have the hart's counts, one after another, up to the End's
abbrev pub RowsGoOn : Type 0
RowsGoOn = (i : Program) (h : ℕ) (v : Interval) (p : Position) → v.mark.ic < 2 ^ 64 → let x = to_come i h v (v.mark.ic - p.state.ic) p in RowsFrom i v.mark.ic x.outcome p.state x.rows

-- a step of a hart passes the instruction at its own point alone
abbrev pub StepsPass : Type 0
StepsPass = (i : Program) (lane : Lane) → IsLane i lane → PassesIf i lane (lane_step i lane)

-- ---- logs in order

-- the intervals of each hart come one after another
abbrev pub OrderedLogsHaveShape : Type 0
OrderedLogsHaveShape = (t : OrderLimits) (all : Bool) (place : ℕ) (harts ends : List HartView) (rs : List Record) → after_all t place harts rs ≡ Ok ends
    → (h : ℕ) (v : HartView) → slice_get harts h ≡ Some v → (is_known v.phase ≡ true → (all || v.met) ≡ true)
    → ((w : HartView) → slice_get ends h ≡ Some w → is_unfinished all w ≡ false) → Fits t.limit v.phase (mark_of h rs) (spans h rs)

-- an Edge into a hart leads into its intervals, or below the first of them
abbrev pub EdgesAreInside : Type 0
EdgesAreInside = (t : OrderLimits) (all : Bool) (place : ℕ) (harts ends : List HartView) (rs : List Record) → after_all t place harts rs ≡ Ok ends
    → (h : ℕ) (v : HartView) → slice_get harts h ≡ Some v → (is_known v.phase ≡ true → (all || v.met) ≡ true)
    → ((w : HartView) → slice_get ends h ≡ Some w → is_unfinished all w ≡ false)
    → (ic s j : ℕ) → HasEdge rs h ic s j → IsInside v.phase (mark_of h rs) (spans h rs) ic

-- the targets of the Edges into a hart ascend
abbrev pub EdgesAscend : Type 0
EdgesAscend = (t : OrderLimits) (place : ℕ) (harts ends : List HartView) (rs : List Record) → after_all t place harts rs ≡ Ok ends
    → (h : ℕ) (v : HartView) → slice_get harts h ≡ Some v → AscendFrom v.seen (edges_into h rs)

-- the ordering points of a hart ascend below its first Header's count, and each target of an Edge there is among them
pub record PointsAscend : Type 0 where
  pub ascend : (first : Option ℕ) (h : ℕ) (records : List Record) (cursors : List Cursor) → ((n : ℕ) → is_below first n ≡ true → IsBelow n cursors) → ArePoints (points_below first h records) cursors
  pub targets : (first : Option ℕ) (h ic s j : ℕ) (records : List Record) → HasEdge records h ic s j → is_below first ic ≡ true → Has (points_below first h records) ic

-- ---- all harts together

-- the joint replay of a log in order begins sound
abbrev pub StartsAreSound : Type 0
StartsAreSound = (i : Program) (s : RawSettings) (dropped : ℕ) (records : List Record) → s.limit < 2 ^ 64 → broken_by s dropped records ≡ None → IsSound (fresh i s.harts records)

-- each step of a ready hart keeps it sound
abbrev pub SoundnessStays : Type 0
SoundnessStays = (now : Joining) (h : ℕ) → IsSound now → SoundIf (ready_step now h)

-- take an instruction of a retained interval from which a chain of program order and kept Edges leads to another. Every
-- prefix of an allowed order that has the other has it too, and earlier. The chain may lead through intervals that were
-- given up
abbrev pub ChainsAreKept : Type 0
ChainsAreKept = (i : Program) (harts : ℕ) (records : List Record) (order : List ℕ) (w : Walk) → IsSound (fresh i harts records) → IsBegun i harts records order w
    → (y h ic : ℕ) → Did w.taken y h ic → (s j : ℕ) → Leads records s j h ic → IsToDo (fresh i harts records) s j → (x : ℕ) × Did w.taken x s j × (y < x)

-- if instructions have times that the kept Edges follow, some hart is ready until all are done
abbrev pub NeverStuck : Type 0
NeverStuck = (now : Joining) (time : ℕ → ℕ → ℕ) → HaveTimes now.records time → choice now ≡ NoneReady → ⊥
