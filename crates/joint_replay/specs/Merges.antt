-- Allowed orders, said of the harts' lists alone: merges in which each point stands after the sources of the Edges into it.
use Rattle.std.specs.Prelude.{◌≡◌, ◌⊎◌, ◌↔◌, ℕ, ◌<◌, ◌≤◌, ◌^◌, ◌==◌, nat_lt, true, false, List, [], ◌∷◌, ◌++◌, map, reverse, slice_get, Option, Some, None, Err}
use Rattle.joint_replay.specs.Common.{Program, EndMark, Row, RawSettings, HartState, Record, broken_by, ReplayError, Outcome, Done, Refused, Replayed, Interval, interval_of, replayed, after_row}
use Rattle.joint_replay.specs.declared.kinds.Coming.{Coming}
use Rattle.joint_replay.specs.declared.kinds.Readiness.TheVariants.{Ready}
use Rattle.joint_replay.specs.Points.{intervals_in, first_count, is_below, ordering_points}
use Rattle.joint_replay.specs.Lanes.{Lane, Item, Passing, Doing, Ending, point_of}
use Rattle.joint_replay.specs.declared.kinds.Next.TheVariants.{Hart, AllDone, NoneReady}
use Rattle.joint_replay.specs.Joining.{Joining, Taken, Walk, fresh, coming, readiness, choice, next_step}
use Rattle.joint_replay.specs.Orders.{IsBegun, IsAllowed}
use Rattle.joint_replay.specs.Calls.{IsReached}
use Rattle.joint_replay.specs.Ways.{ArePoints, Has, InCursors}
use Rattle.joint_replay.specs.Sound.{HasEdge}

-- ---- the list of a hart

-- the rows of a replay from a state on, then the interval's end, then what comes after it; if the replay is refused, the list
-- ends with its rows
abbrev pub rows_then : Program → ℕ → EndMark → Outcome → HartState → List Row → List Item → List Item
rows_then i number mark o state [] later = elim o [ Done ↦ Ending number mark ∷ later | Refused e ↦ [] ]
rows_then i number mark o state (r ∷ rs) later = Doing state r ∷ rows_then i number mark o (after_row i state r) rs later

-- an interval's part of a hart's list, and what comes after it
abbrev pub interval_then : Program → Option Interval → ℕ → Replayed → List Item → List Item
interval_then i None number x later = later
interval_then i (Some v) number x later = rows_then i number v.mark x.outcome v.start x.rows later

-- the rows and ends of hart h's intervals with these numbers
abbrev pub intervals_items : Program → List Record → ℕ → List ℕ → List Item
intervals_items i records h [] = []
intervals_items i records h (n ∷ ns) = interval_then i (interval_of h n records) n (replayed i records h n) (intervals_items i records h ns)

-- the list of hart h of so many: it passes its ordering points, then it does the rows and ends of its retained intervals
abbrev pub items_of : Program → ℕ → List Record → ℕ → List Item
items_of i harts records h = elim (nat_lt h harts) [
  | true ↦ map (λ (p : ℕ). Passing p) (ordering_points h records) ++ intervals_items i records h (intervals_in h records)
  | false ↦ []
]

-- an interval's replay isn't refused
abbrev pub outcome_done : Option Interval → Replayed → Type 0
outcome_done None x = Unit {0}
outcome_done (Some v) x = x.outcome ≡ Done

-- no replay of hart h's intervals with these numbers is refused
abbrev pub AreUnrefused : Program → List Record → ℕ → List ℕ → Type 0
AreUnrefused i records h [] = Unit {0}
AreUnrefused i records h (n ∷ ns) = outcome_done (interval_of h n records) (replayed i records h n) × AreUnrefused i records h ns

-- ---- orders

-- what hart h does in an order, which is given first step first
abbrev pub own : ℕ → List Taken → List Item
own h [] = []
own h (t ∷ ts) = elim (t.hart == h) [ true ↦ t.item ∷ own h ts | false ↦ own h ts ]

-- the harts of an order's steps
abbrev pub harts_of : List Taken → List ℕ
harts_of ts = map (λ (t : Taken). t.hart) ts

-- an order with one step more
abbrev pub one_more : List Taken → ℕ → Item → List Taken
one_more ts h item = ts ++ record { hart = h; item = item } ∷ []

-- these are the first items of a list
pub record IsFront (front all : List Item) : Type 0 where
  pub rest : List Item
  pub parts : front ++ rest ≡ all

-- the item is instruction `count`, passed or done; a fault's row and an end are none
abbrev pub IsAt : ℕ → Item → Type 0
IsAt count (Passing ic) = ic ≡ count
IsAt count (Doing before row) = (row.ic ≡ count) × (row.fault ≡ None)
IsAt count (Ending n m) = ⊥

-- instruction `count` of a hart stands at place x of an order, from 0
pub record Stands (steps : List Taken) (x hart count : ℕ) : Type 0 where
  pub step : Taken
  pub at : slice_get steps x ≡ Some step
  pub hart_is : step.hart ≡ hart
  pub item : IsAt count step.item

-- a beginning of a merge of the harts' lists, in which each point stands after the source of every kept Edge into it
pub record IsMerge (i : Program) (harts : ℕ) (records : List Record) (steps : List Taken) : Type 0 where
  pub own : (h : ℕ) → IsFront (own h steps) (items_of i harts records h)
  pub after : (y h ic s j : ℕ) → Stands steps y h ic → HasEdge records h ic s j → (x : ℕ) × Stands steps x s j × (x < y)

-- the whole of such a merge: each hart did all of its list, and no replay is refused
pub record IsWhole (i : Program) (harts : ℕ) (records : List Record) (steps : List Taken) : Type 0 where
  pub merge : IsMerge i harts records steps
  pub all : (h : ℕ) → own h steps ≡ items_of i harts records h
  pub unrefused : (h : ℕ) → h < harts → AreUnrefused i records h (intervals_in h records)

-- instruction j of hart s is passed after these steps: all ordering points of s up to it are, and if it is not below the first
-- retained count, s has done it
pub record IsPassed (records : List Record) (steps : List Taken) (s j : ℕ) : Type 0 where
  pub points : (p : ℕ) → Has (ordering_points s records) p → p ≤ j → (x : ℕ) × Stands steps x s p
  pub row : is_below (first_count s records) j ≡ false → (x : ℕ) × Stands steps x s j

-- ---- walks are such orders

-- the steps of a walk, first step first
abbrev pub steps_of : Walk → List Taken
steps_of w = reverse w.taken

-- the point that a hart's next step is at, if it is at one
abbrev pub point_at : Joining → ℕ → Option ℕ
point_at j h = elim (slice_get j.lanes h) [ None ↦ None | Some lane ↦ point_of lane ]

-- the hart has a next step, and it is refused
abbrev pub IsRefusedAt : Joining → ℕ → Type 0
IsRefusedAt j h = (e : ReplayError) × (next_step j h ≡ Some (Err e))

-- the steps of each walk are a beginning of such a merge, and each beginning of one is the steps of a walk; so it is with whole
-- ones
pub record AreMerges (i : Program) (harts : ℕ) (records : List Record) : Type 0 where
  pub sound : (order : List ℕ) (w : Walk) → IsBegun i harts records order w → IsMerge i harts records (steps_of w) × (harts_of (steps_of w) ≡ order)
  pub complete : (steps : List Taken) → IsMerge i harts records steps → (w : Walk) × IsBegun i harts records (harts_of steps) w × (steps_of w ≡ steps)
  pub allowed : (order : List ℕ) (w : Walk) → IsAllowed i harts records order w → IsWhole i harts records (steps_of w) × (harts_of (steps_of w) ≡ order)
  pub whole : (steps : List Taken) → IsWhole i harts records steps → (w : Walk) × IsAllowed i harts records (harts_of steps) w × (steps_of w ≡ steps)

-- after these steps a hart is ready if the order with the hart's next item is such a beginning again; if it is ready, the order
-- is one, or the hart's replay is refused there. Refused or not, a step at a point is ready exactly if the sources of all Edges
-- into the point stand in the order, and any other step is ready
pub record IsReadyThere (i : Program) (harts : ℕ) (records : List Record) (steps : List Taken) (j : Joining) (h : ℕ) : Type 0 where
  pub admitted : readiness j h ≡ Ready → ((item : Item) × IsMerge i harts records (one_more steps h item)) ⊎ IsRefusedAt j h
  pub ready : (item : Item) → IsMerge i harts records (one_more steps h item) → readiness j h ≡ Ready
  pub waits : (ic : ℕ) → point_at j h ≡ Some ic → (readiness j h ≡ Ready) ↔ ((s n : ℕ) → HasEdge records h ic s n → (x : ℕ) × Stands steps x s n)
  pub free : (c : Coming) → coming j h ≡ Some c → point_at j h ≡ None → readiness j h ≡ Ready

-- the hart that is chosen is the lowest one of which an item is admitted, or its replay is refused there. If none is ready,
-- no item is admitted. All are done if and only if the order is whole
pub record IsChosenThere (i : Program) (harts : ℕ) (records : List Record) (steps : List Taken) (j : Joining) : Type 0 where
  pub chosen : (h : ℕ) → choice j ≡ Hart h → ((item : Item) × IsMerge i harts records (one_more steps h item)) ⊎ IsRefusedAt j h
  pub lowest : (h k : ℕ) (item : Item) → choice j ≡ Hart h → IsMerge i harts records (one_more steps k item) → h ≤ k
  pub none : (h : ℕ) (item : Item) → choice j ≡ NoneReady → IsMerge i harts records (one_more steps h item) → ⊥
  pub done : (choice j ≡ AllDone) ↔ IsWhole i harts records steps

-- which harts are ready after these steps, and which is chosen
pub record Admits (i : Program) (harts : ℕ) (records : List Record) (steps : List Taken) (j : Joining) : Type 0 where
  pub ready : (h : ℕ) → IsReadyThere i harts records steps j h
  pub next : IsChosenThere i harts records steps j

-- the walk that led to the state of a joint replay is a prefix of such a merge; until a refusal it determines which harts
-- are ready
pub record IsAtMerge (harts : ℕ) (j : Joining) : Type 0 where
  pub reached : IsReached harts j
  pub merge : IsMerge j.program harts j.records (steps_of reached.walk)
  pub admits : j.refused ≡ None → Admits j.program harts j.records (steps_of reached.walk) j

-- ---- the laws

-- a kept Edge names instruction k of hart h, as its target or as its source
abbrev pub IsNamed : List Record → ℕ → ℕ → Type 0
IsNamed records h k = ((s j : ℕ) × HasEdge records h k s j) ⊎ ((n ic : ℕ) × HasEdge records n ic h k)

-- the ordering points of a hart ascend, each once, and are just those that kept Edges name below its first Header's count, or
-- all that they name if it has none
pub record ArePointsOf (records : List Record) (h : ℕ) : Type 0 where
  pub ascend : ArePoints (ordering_points h records) []
  pub named : (k : ℕ) → Has (ordering_points h records) k → IsNamed records h k × (is_below (first_count h records) k ≡ true)
  pub all : (k : ℕ) → IsNamed records h k → is_below (first_count h records) k ≡ true → Has (ordering_points h records) k

-- in all records, the ordering points of a hart are those
abbrev pub PointsAreNamed : Type 0
PointsAreNamed = (records : List Record) (h : ℕ) → ArePointsOf records h

-- each source of a kept Edge is an ordering point of its hart, or an instruction of its retained intervals
abbrev pub AreSources : Joining → Type 0
AreSources j = (h ic s n : ℕ) → HasEdge j.records h ic s n → (lane : Lane) × (slice_get j.lanes s ≡ Some lane) × (Has lane.points n ⊎ InCursors lane.cursors n)

-- in each log in order, each source of a kept Edge is there
abbrev pub SourcesAreThere : Type 0
SourcesAreThere = (i : Program) (s : RawSettings) (dropped : ℕ) (records : List Record) → s.limit < 2 ^ 64 → broken_by s dropped records ≡ None → AreSources (fresh i s.harts records)

-- in each log in order, walks are the merges of the harts' lists in which each point stands after the sources of the kept Edges
-- into it
abbrev pub WalksAreMerges : Type 0
WalksAreMerges = (i : Program) (s : RawSettings) (dropped : ℕ) (records : List Record) → s.limit < 2 ^ 64 → broken_by s dropped records ≡ None → AreMerges i s.harts records

-- after each walk the harts that are ready are those whose next item a merge that respects the Edges admits
abbrev pub ReadyIsAdmitted : Type 0
ReadyIsAdmitted = (i : Program) (s : RawSettings) (dropped : ℕ) (records : List Record) → s.limit < 2 ^ 64 → broken_by s dropped records ≡ None
    → (order : List ℕ) (w : Walk) → IsBegun i s.harts records order w → Admits i s.harts records (steps_of w) w.now

-- in a merge that respects the Edges, the source of a kept Edge stands if and only if it is passed
abbrev pub PassedIsStanding : Type 0
PassedIsStanding = (i : Program) (b : RawSettings) (dropped : ℕ) (records : List Record) → b.limit < 2 ^ 64 → broken_by b dropped records ≡ None
    → (steps : List Taken) → IsMerge i b.harts records steps → (h ic s j : ℕ) → HasEdge records h ic s j → ((x : ℕ) × Stands steps x s j) ↔ IsPassed records steps s j
