-- All harts of a joint replay, as its parts make them.
use Rattle.std.specs.Prelude.{◌≡◌, ◌+◌, ℕ, true, List, [], ◌∷◌, length, map, take, slice_get, Option, Some}
use Rattle.joint_replay.specs.Common.{Program, Record, Content, ReplayError}
use Rattle.joint_replay.specs.declared.incoming_edges.IncomingEdge.{IncomingEdge}
use Rattle.joint_replay.specs.Lanes.{Lane}
use Rattle.joint_replay.specs.Harts.{HartLane}
use Rattle.joint_replay.specs.Joining.{Joining, is_passed, lanes_from}
use Rattle.joint_replay.specs.Sources.{edges_into}
use Rattle.joint_replay.specs.Calls.{IsReached}

-- what each hart has left
abbrev pub lanes_of : List HartLane → List Lane
lanes_of harts = map (λ (l : HartLane). l.lane) harts

-- the joint replay with these harts
abbrev pub joining : Program → List Record → List HartLane → List (ℕ × ℕ) → Option ReplayError → Joining
joining i records harts memory refused = record { program = i; records = records; lanes = lanes_of harts; memory = memory; refused = refused }

-- the harts by their numbers, from one on, each with the program and the records
abbrev pub AreHarts : Program → List Record → ℕ → List HartLane → Type 0
AreHarts i records h [] = Unit {0}
AreHarts i records h (l ∷ ls) = (l.program ≡ i) × (l.records ≡ records) × (l.hart ≡ h) × AreHarts i records (h + 1) ls

-- an allowed order led here
pub record IsTogether (i : Program) (log : Content) (count : ℕ) (harts : List HartLane) (memory : List (ℕ × ℕ)) (refused : Option ReplayError) : Type 0 where
  pub count_is : count ≡ length harts
  pub number : log.head.settings.harts ≡ count
  pub own : AreHarts i log.records 0 harts
  pub reached : IsReached (length harts) (joining i log.records harts memory refused)

-- the sources of these Edges are passed
abbrev pub ArePassed : List Lane → List IncomingEdge → Type 0
ArePassed lanes [] = Unit {0}
ArePassed lanes (s ∷ ss) = (is_passed (slice_get lanes s.hart) s.ic ≡ true) × ArePassed lanes ss

-- of the Edges into each hart, the first so many have passed sources
pub record AreMet (records : List Record) (harts : List HartLane) (met : List ℕ) : Type 0 where
  pub count : length met ≡ length harts
  pub passed : (h n : ℕ) → slice_get met h ≡ Some n → ArePassed (lanes_of harts) (take n (edges_into h records))

-- so many harts before their first steps
pub record AreBegun (i : Program) (records : List Record) (count : ℕ) (harts : List HartLane) : Type 0 where
  pub lanes : lanes_of harts ≡ lanes_from i records 0 count
  pub own : AreHarts i records 0 harts
  pub length_is : length harts ≡ count
