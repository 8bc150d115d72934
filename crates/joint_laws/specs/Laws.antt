-- What the joint replay of a recording's log says of the run. "The latest" is of the steps that were taken; "later in the run"
-- is by the places of the run's points.
use Rattle.std.specs.Prelude.{◌≡◌, ℕ, ◌+◌, ◌<◌, ◌≤◌, List, [], ◌∷◌, ◌++◌, map, slice_get, Some, None, Ok}
use Rattle.joint_laws.specs.Common.{Contains, Row, HartState, Record, AtPlaces, Point, MeetAt, Touches, Writes, NoneReady, Did, IsToDo, Joining, Taken, Walk, Ran, fresh, readiness, choice, next_step, run_all, Item, Doing, word_in, word_after, IsBegun}
use Rattle.sha2.specs.Sha256.{sha256}
use Rattle.log_order.specs.Content.{Content, IsContent}
use Rattle.log_blocks.specs.File.{IsSpelled}
use Rattle.run_files.specs.Files.{file_of}
use Rattle.row_laws.specs.States.{IsRowOfTurn, state_after}
use Rattle.joint_replay.specs.declared.kinds.Readiness.TheVariants.{Ready}
use Rattle.joint_replay.specs.Calls.{state_at, IsReached}
use Rattle.joint_replay.specs.Sound.{IsSound}
use Rattle.joint_laws.specs.Recordings.{Recording, IsRecorded, IsLogOf, IsRetained, Allowed, begin, kept, points_of, rows_of_hart, first_state, retained_rows, memory_right_after}
use Rattle.joint_laws.specs.Steps.{DidPoint, DidBefore, IsLastTold, rows_done}

-- The recording's own log is a log of it
abbrev pub OwnLogsAreLogs : Type 0
OwnLogsAreLogs = (r : Recording) → IsRecorded r → IsLogOf r (kept r)

-- The joint replay of a log of a recording begins sound
abbrev pub BeginsSound : Type 0
BeginsSound = (r : Recording) (records : List Record) → IsLogOf r records → IsSound (begin r records)

-- ---- each beginning of an allowed order

-- Race order. Take two points that access a common word, one of them writing it, the earlier one of a retained interval. Once
-- the later one's row is done, that of the earlier one was done before it. So each word's retained writes come as recorded, and
-- each of its retained reads stands between the same retained writes
abbrev pub KeepsOrder : Recording → List Record → Walk → Type 0
KeepsOrder r records w = (word m n y : ℕ) (c : AtPlaces (MeetAt word) (points_of r) m n) → IsRetained r records c.first
    → DidPoint w.taken y c.second → (x : ℕ) × DidPoint w.taken x c.first × (y < x)

-- No order gets stuck: all harts are done, or one is ready
abbrev pub GoesOn : Recording → List Record → Walk → Type 0
GoesOn r records w = choice w.now ≡ NoneReady → ⊥

-- The step of a ready hart is not refused
abbrev pub IsNotRefused : Recording → List Record → Walk → Type 0
IsNotRefused r records w = (h : ℕ) → readiness w.now h ≡ Ready → (x : Item × Joining) × (next_step w.now h ≡ Some (Ok x))

-- Each hart's rows so far are the first of its retained intervals' part of the run's
abbrev pub HasFirstRows : Recording → List Record → Walk → Type 0
HasFirstRows r records w = (h : ℕ) → h < r.settings.harts → (rest : List Row) × (rows_done h w.taken ++ rest ≡ retained_rows r records h)

-- Each row so far was done from the state that the run had before it
abbrev pub HasStates : Recording → List Record → Walk → Type 0
HasStates r records w = (x : ℕ) (t : Taken) (before : HartState) (row : Row) → slice_get w.taken x ≡ Some t → t.item ≡ Doing before row
    → IsRowOfTurn r.settings r.program r.input r.turns t.hart before row

-- a state that hart h had in the run: that after some of its rows
pub record IsStateOfRun (r : Recording) (h : ℕ) (s : HartState) : Type 0 where
  pub front : List Row
  pub back : List Row
  pub rows : rows_of_hart r h ≡ front ++ back
  pub state : s ≡ state_after r.program (first_state r h) front

-- The state that is shown of a hart is one that it had in the run
abbrev pub HasShownStates : Recording → List Record → Walk → Type 0
HasShownStates r records w = (h : ℕ) (s : HartState) → state_at w.now h ≡ Some s → IsStateOfRun r h s

-- a word that the joint memory has is the recorded word right after the latest row that stored or loaded it. No retained write
-- of it that was done came later in the run than that row
pub record IsRecordedWord (r : Recording) (w : Walk) (a word : ℕ) : Type 0 where
  pub step : ℕ
  pub last : IsLastTold w.taken a step
  pub place : ℕ
  pub point : Point
  pub at : slice_get (points_of r) place ≡ Some point
  pub did : DidPoint w.taken step point
  pub touches : Touches a point
  pub value : word ≡ memory_right_after r point a
  pub no_later : (n y : ℕ) (q : Point) → slice_get (points_of r) n ≡ Some q → Writes a q → DidPoint w.taken y q → n ≤ place

-- Memory: so it is with each word after each beginning of an allowed order
abbrev pub HasMemory : Recording → List Record → Walk → Type 0
HasMemory r records w = (a word : ℕ) → word_in w.now.memory a ≡ Some word → IsRecordedWord r w a word

-- words stand by ascending address, from an address on; so each has one value
abbrev pub WordsAscend : ℕ → List (ℕ × ℕ) → Type 0
WordsAscend low [] = Unit {0}
WordsAscend low (m ∷ ms) = (low ≤ m.0) × WordsAscend (m.0 + 1) ms

-- The list of the known words is by ascending address, and each of its words is the known one at its address
abbrev pub HasWordsOnce : Recording → List Record → Walk → Type 0
HasWordsOnce r records w = WordsAscend 0 w.now.memory × ((m : ℕ × ℕ) → Contains w.now.memory m → word_in w.now.memory m.0 ≡ Some m.1)

-- The known words are what the steps tell: the word at an address is that of the latest step that tells one, unless a later step
-- fills bytes of it. So it is for any records, those that no recording made too
abbrev pub WordsAreByTheSteps : Type 0
WordsAreByTheSteps = (r : Recording) (records : List Record) (order : List ℕ) (w : Walk) → IsBegun r.program r.settings.harts records order w
    → (a : ℕ) → word_in w.now.memory a ≡ word_after (map (λ (t : Taken). t.item) w.taken) a

-- What was done is of a retained interval
abbrev pub DoesRetained : Recording → List Record → Walk → Type 0
DoesRetained r records w = (x h k : ℕ) → Did w.taken x h k → IsToDo (begin r records) h k

-- ---- whole orders

-- Race order. In a whole allowed order each instruction of a retained interval was done, once. Two such points that access a
-- common word, one of them writing it, stand in it as they were recorded
pub record StandsInOrder (r : Recording) (records : List Record) (w : Walk) : Type 0 where
  pub done : (h k : ℕ) → IsToDo (begin r records) h k → (x : ℕ) × Did w.taken x h k
  pub once : (x y h k : ℕ) → Did w.taken x h k → Did w.taken y h k → x ≡ y
  pub order : (word m n : ℕ) (both : AtPlaces (MeetAt word) (points_of r) m n) → IsRetained r records both.first → IsRetained r records both.second
      → DidBefore w.taken both.first both.second

-- In a whole allowed order each hart's rows are its retained intervals' part of the run's
abbrev pub HasRows : Recording → List Record → Walk → Type 0
HasRows r records w = (h : ℕ) → h < r.settings.harts → rows_done h w.taken ≡ retained_rows r records h

-- a run with the lowest ready hart first goes through a whole allowed order, and isn't stopped
pub record RanToTheEnd (r : Recording) (records : List Record) : Type 0 where
  pub order : List ℕ
  pub allowed : Allowed r records order (run_all (begin r records)).walk
  pub stopped : (run_all (begin r records)).stopped ≡ None

-- The lowest ready hart first, the joint replay of each log of a recording takes a whole allowed order and isn't stopped
abbrev pub RunsToTheEnd : Type 0
RunsToTheEnd = (r : Recording) (records : List Record) → IsLogOf r records → RanToTheEnd r records

-- ---- all of it, of the run that a text tells

-- the joint replay says the run. It took an allowed order to the end and wasn't stopped; the order keeps the recorded one. Its
-- rows are the recorded ones, done from the recorded states, and each word known at the end is the recorded one
pub record SaysTheRun (r : Recording) (records : List Record) (x : Ran) : Type 0 where
  pub stopped : x.stopped ≡ None
  pub order : List ℕ
  pub allowed : Allowed r records order x.walk
  pub keeps : StandsInOrder r records x.walk
  pub rows : HasRows r records x.walk
  pub states : HasStates r records x.walk
  pub ascend : WordsAscend 0 x.walk.now.memory
  pub words : (m : ℕ × ℕ) → Contains x.walk.now.memory m → IsRecordedWord r x.walk m.0 m.1

-- The joint replay of each log of a recording says the run
abbrev pub JointReplaysSayTheRun : Type 0
JointReplaysSayTheRun = (r : Recording) (records : List Record) → IsLogOf r records → SaysTheRun r records (run_all (begin r records))

-- a log says so, and the recording's file is its spelling
pub record IsFileOf (r : Recording) (d : Content) : Type 0 where
  pub content : IsContent d
  pub bytes : IsSpelled (file_of r.settings r.program (sha256 r.elf) r.input r.turns) d

-- The joint replay of what the recording's file says, says the run
abbrev pub JointFilesSayTheRun : Type 0
JointFilesSayTheRun = (r : Recording) (d : Content) → IsRecorded r → IsFileOf r d → SaysTheRun r d.records (run_all (fresh r.program d.head.settings.harts d.records))

-- ---- of a joint replay at any time

-- The point that a joint replay of a log of the recording reached by a walk. The walk keeps the recorded order, and its rows
-- are the first recorded ones. The states that the joint replay shows are the run's, and its known words the recorded ones
pub record SaysSoFar (r : Recording) (j : Joining) (w : Walk) : Type 0 where
  pub keeps : KeepsOrder r j.records w
  pub rows : HasFirstRows r j.records w
  pub states : (h : ℕ) (s : HartState) → state_at j h ≡ Some s → IsStateOfRun r h s
  pub words : (a word : ℕ) → word_in j.memory a ≡ Some word → IsRecordedWord r w a word

-- Each joint replay that an allowed order led to says the run so far, even if memory ran out since
abbrev pub ReachedSayTheRun : Type 0
ReachedSayTheRun = (r : Recording) (j : Joining) → IsLogOf r j.records → j.program ≡ r.program → (reached : IsReached r.settings.harts j) → SaysSoFar r j reached.walk
