-- The laws of race reports.
use Rattle.std.specs.Prelude.{◌≡◌, ◌<◌, ◌^◌, ◌↔◌, ◌⊎◌, ℕ, List, [], ◌∷◌, slice_get, Some, None}
use Rattle.race_report.specs.Common.{Program, Row, Record, In, IsConflict, fresh, run_all}
use Rattle.bn_base.specs.declared.settings.RawSettings.{RawSettings}
use Rattle.log_order.specs.Order.{broken_by}
use Rattle.race_report.specs.declared.race.Race.{Race}
use Rattle.race_report.specs.Points.{Accessing, points_of}
use Rattle.race_report.specs.Races.{IsRace, race_at, races_of, whole_point}

-- the tests say what a race is: the two places are one, with that word, exactly if the test gives the word
abbrev pub TestsSayRaces : Type 0
TestsSayRaces = (run : List Accessing) (m n word : ℕ) → (race_at run m n ≡ Some word) ↔ IsRace run m n word

-- each point is of a hart of the log, and of two points of a hart the later one has the higher count
pub record AreCounted (harts : ℕ) (run : List Accessing) : Type 0 where
  pub harts_below : (m : ℕ) (p : Accessing) → slice_get run m ≡ Some p → p.hart < harts
  pub rise : (m n : ℕ) (p q : Accessing) → slice_get run m ≡ Some p → slice_get run n ≡ Some q → p.hart ≡ q.hart → m < n → p.row.ic < q.row.ic

-- the points of the joint replay of each log in order are counted so
abbrev pub PointsAreCounted : Type 0
PointsAreCounted = (i : Program) (s : RawSettings) (dropped : ℕ) (records : List Record) → s.limit < 2 ^ 64
    → broken_by s dropped records ≡ None → AreCounted s.harts (points_of (run_all (fresh i s.harts records)).walk.taken)

-- a race with the rows of its points
pub record IsRaceOf (run : List Accessing) (r : Race) : Type 0 where
  pub m : ℕ
  pub n : ℕ
  pub word : ℕ
  pub race : IsRace run m n word
  pub first : Accessing
  pub second : Accessing
  pub first_at : slice_get run m ≡ Some first
  pub second_at : slice_get run n ≡ Some second
  pub is : r ≡ record { first = first.row; second = second.row; word = word }

-- the list of all races has exactly the races
abbrev pub RacesAreListed : Type 0
RacesAreListed = (harts : ℕ) (run : List Accessing) → AreCounted harts run → (r : Race) → In (races_of harts run) r ↔ IsRaceOf run r

-- ---- the order of the list

-- the row of each point is its hart's
abbrev pub HaveOwnRows : List Accessing → Type 0
HaveOwnRows run = (m : ℕ) (p : Accessing) → slice_get run m ≡ Some p → p.row.hart ≡ p.hart

-- in the joint replay of each log, a forged one too, the row of each point is its hart's
abbrev pub PointsHaveOwnRows : Type 0
PointsHaveOwnRows = (i : Program) (s : RawSettings) (records : List Record) → HaveOwnRows (points_of (run_all (fresh i s.harts records)).walk.taken)

-- the order of rows: by hart and then by count
abbrev pub IsRowBefore : Row → Row → Type 0
IsRowBefore r s = (r.hart < s.hart) ⊎ ((r.hart ≡ s.hart) × (r.ic < s.ic))

-- the order of races: by the first row, and if these agree by the second
abbrev pub IsRaceBefore : Race → Race → Type 0
IsRaceBefore x y = IsRowBefore x.first y.first ⊎ ((x.first.hart ≡ y.first.hart) × (x.first.ic ≡ y.first.ic) × IsRowBefore x.second y.second)

-- each race is below all that follow it; so none is there twice
abbrev pub Ascend : List Race → Type 0
Ascend [] = Unit {0}
Ascend (x ∷ xs) = ((y : Race) → In xs y → IsRaceBefore x y) × Ascend xs

-- the list of all races ascends
abbrev pub RacesAscend : Type 0
RacesAscend = (harts : ℕ) (run : List Accessing) → AreCounted harts run → HaveOwnRows run → Ascend (races_of harts run)

-- the report of each log in order has each race once, by hart and count of the first and then of the second
abbrev pub ReportsAscend : Type 0
ReportsAscend = (i : Program) (s : RawSettings) (dropped : ℕ) (records : List Record) → s.limit < 2 ^ 64 → broken_by s dropped records ≡ None
    → Ascend (races_of s.harts (points_of (run_all (fresh i s.harts records)).walk.taken))

-- ---- other orders of the same points

-- two lists have the same points, and two that conflict have the same order in both
pub record AreAlike (run other : List Accessing) : Type 0 where
  pub there : (m : ℕ) (p : Accessing) → slice_get run m ≡ Some p → (j : ℕ) × (slice_get other j ≡ Some p)
  pub back : (j : ℕ) (p : Accessing) → slice_get other j ≡ Some p → (m : ℕ) × (slice_get run m ≡ Some p)
  pub order : (m n j k : ℕ) (p q : Accessing) → slice_get run m ≡ Some p → slice_get run n ≡ Some q → slice_get other j ≡ Some p → slice_get other k ≡ Some q
      → IsConflict (whole_point m p) (whole_point n q) → m < n → j < k

-- two such lists have the same races: these depend on the order of conflicting points alone
abbrev pub RacesGoByConflicts : Type 0
RacesGoByConflicts = (harts : ℕ) (run other : List Accessing) → AreCounted harts run → AreCounted harts other → HaveOwnRows run → AreAlike run other
    → races_of harts run ≡ races_of harts other
