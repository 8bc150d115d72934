-- What a race report answers.
use Rattle.std.specs.Prelude.{◌≡◌, ◌≢◌, ◌⊎◌, ◌≤◌, ◌<◌, ℕ, List, ◌++◌, length, Option, Some, None, Result, Ok, Err}
use Rattle.race_report.specs.Common.{Program, Row, HartState, Item, Joining, Taken, Ran, fresh, next_step, run_all}
use Rattle.log_order.specs.Content.{Content}
use Rattle.hart_replay.specs.declared.error.ReplayError.TheVariants as replay
use Rattle.joint_replay.specs.declared.error.JointError.{JointError}
use Rattle.joint_replay.specs.declared.error.JointError.TheVariants as why
use Rattle.race_report.specs.declared.calls.Asked.{Asked}
use Rattle.race_report.specs.declared.error.RaceError.{RaceError}
use Rattle.race_report.specs.declared.error.RaceError.TheVariants.{Joint, TooMany, OutOfMemory}
use Rattle.race_report.specs.declared.gathered.Gathered.{Gathered}
use Rattle.race_report.specs.declared.race.Race.{Race}
use Rattle.race_report.specs.Points.{Accessing, accessing, asked_by, touch_of, point_in, points_of}
use Rattle.race_report.specs.Races.{race_count, races_of}
use Rattle.race_report.specs.Gathering.{IsState}

-- the joint replay of a log, the lowest ready hart first
abbrev pub joint_of : Program → Content → Ran
joint_of i log = run_all (fresh i log.head.settings.harts log.records)

-- the points of a joint replay, in the order in which it does them
abbrev pub points_in : Ran → List Accessing
points_in r = points_of r.walk.taken

-- the report of a joint replay of so many harts: if it stops, why it does; else if there are more than `most` races, that
-- there are; else all races. It may run out of memory at any time; whether a later step would be refused isn't known then
abbrev pub IsReport : ℕ → ℕ → Ran → Result (List Race) RaceError → Type 0
IsReport harts most r (Ok races) = (r.stopped ≡ None) × (race_count (points_in r) ≤ most) × (races ≡ races_of harts (points_in r))
IsReport harts most r (Err (Joint e)) = (r.stopped ≡ Some e) × (e ≢ why.OutOfMemory)
IsReport harts most r (Err (TooMany max)) = (r.stopped ≡ None) × (most < race_count (points_in r)) × (max ≡ most)
IsReport harts most r (Err OutOfMemory) = Unit {0}

-- ---- its parts

-- how an error of the joint replay is told: running out of memory as such, and any other as what it is
abbrev pub TellsReport : JointError → RaceError → Type 0
TellsReport e (Joint f) = (f ≡ e) × (f ≢ why.OutOfMemory)
TellsReport e (TooMany max) = ⊥
TellsReport e OutOfMemory = e ≡ why.OutOfMemory

-- a joint replay stops with an error
abbrev pub Stops : Joining → RaceError → Type 0
Stops j (Joint e) = ((run_all j).stopped ≡ Some e) × (e ≢ why.OutOfMemory)
Stops j (TooMany max) = ⊥
Stops j OutOfMemory = Unit {0}

-- a joint replay found no memory itself
abbrev pub RanOutOfMemory : Joining → Type 0
RanOutOfMemory j = j.refused ≡ Some replay.OutOfMemory

-- or it stopped for no refusal
abbrev pub IsUnrefused : Joining → Type 0
IsUnrefused j = (j.refused ≡ None) ⊎ RanOutOfMemory j

-- a row of a hart that asked this before it is taken in, if the hart was there
abbrev pub TakesRow : ℕ → ℕ → Option Asked → Row → Gathered → Result (Unit {0}) RaceError → Gathered → Type 0
TakesRow h most None row g result next = (e : RaceError) → result ≡ Err e → e ≡ OutOfMemory
TakesRow h most (Some asked) row g (Ok u) next = (harts : ℕ) (run : List Accessing) (before : HartState) → h < harts → asked ≡ asked_by before
    → IsState harts most run g → IsState harts most (run ++ accessing h row (touch_of before row)) next
TakesRow h most (Some asked) row g (Err e) next = e ≡ OutOfMemory

-- a step of hart h is done, and its point is taken in
abbrev pub Advances : ℕ → ℕ → Joining → Gathered → Result (Unit {0}) RaceError → Joining → Gathered → Type 0
Advances h most old g (Ok u) new next = (item : Item) × (next_step old h ≡ Some (Ok (item, new)))
    × ((harts : ℕ) (run : List Accessing) → h < harts → IsState harts most run g → IsState harts most (run ++ point_in h item) next)
Advances h most old g (Err e) new next = Stops old e

-- there are so many harts, and a run
abbrev pub HasState : ℕ → ℕ → Gathered → Type 0
HasState h most g = (harts : ℕ) × (run : List Accessing) × (h < harts) × IsState harts most run g

-- a joint replay got from one state to another, without a refusal, and all its points so far are taken in
pub record IsOnTheWay (harts most : ℕ) (first now : Joining) (g : Gathered) : Type 0 where
  pub done : List Taken
  pub taken : (run_all first).walk.taken ≡ (run_all now).walk.taken ++ done
  pub stopped : (run_all first).stopped ≡ (run_all now).stopped
  pub none : now.refused ≡ None
  pub count : length now.lanes ≡ harts
  pub state : IsState harts most (points_of done) g

-- all points are taken in, or why the joint replay stops
abbrev pub Gathers : ℕ → ℕ → Ran → Result Gathered RaceError → Type 0
Gathers harts most r (Ok g) = (r.stopped ≡ None) × IsState harts most (points_in r) g
Gathers harts most r (Err (Joint e)) = (r.stopped ≡ Some e) × (e ≢ why.OutOfMemory)
Gathers harts most r (Err (TooMany max)) = ⊥
Gathers harts most r (Err OutOfMemory) = Unit {0}

-- all points of the steps that are left are taken in, or why the joint replay stops, from wherever it began
abbrev pub GathersRest : ℕ → Joining → Gathered → Result (Unit {0}) RaceError → Gathered → Type 0
GathersRest most now g (Ok u) next = (harts : ℕ) (first : Joining) → IsOnTheWay harts most first now g → Gathers harts most (run_all first) (Ok next)
GathersRest most now g (Err e) next = (harts : ℕ) (first : Joining) → IsOnTheWay harts most first now g → Gathers harts most (run_all first) (Err e)

-- ... of all steps of a joint replay
abbrev pub GathersInto : ℕ → ℕ → Ran → Result (Unit {0}) RaceError → Gathered → Type 0
GathersInto harts most r (Ok u) g = Gathers harts most r (Ok g)
GathersInto harts most r (Err e) g = Gathers harts most r (Err e)
