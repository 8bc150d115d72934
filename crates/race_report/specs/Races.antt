-- Races: conflicting points that no chain of program order and synchronisation orders. A point is determined by its place among the points
-- of the joint replay.
use Rattle.std.specs.Prelude.{◌≡◌, ◌≤◌, ◌<◌, ℕ, zero, suc, ◌+◌, ◌==◌, nat_lt, Bool, true, false, not, cond, ◌&&◌}
use Rattle.std.specs.Prelude.{List, [], ◌∷◌, ◌++◌, filter, map, length, min, slice_get, Option, Some, None}
use Rattle.race_report.specs.Common.{list_any, Row, Point, Access, MeetAt, IsConflict, clashes, before}
use Rattle.race_log.specs.Netzer.{Before}
use Rattle.race_report.specs.declared.race.Race.{Race}
use Rattle.race_report.specs.declared.touch.Touch.{Touch}
use Rattle.race_report.specs.declared.meeting.Meeting.{Meeting}
use Rattle.race_report.specs.Points.{Accessing, accesses_of}

-- ---- what a race is

-- the point at a place, with these accesses
abbrev pub with_accesses : ℕ → ℕ → List Access → Point
with_accesses hart place accesses = record { hart = hart; count = place; turn = place; accesses = accesses }

-- a point with its accesses
abbrev pub whole_point : ℕ → Accessing → Point
whole_point place p = with_accesses p.hart place (accesses_of p.touch)

-- a point with its accesses if it is a sync point, and with none if it isn't
abbrev pub sync_accesses : Touch → List Access
sync_accesses t = elim t.syncs [ true ↦ accesses_of t | false ↦ [] ]

-- the point at a place, with its accesses if it is a sync point
abbrev pub sync_point : ℕ → Accessing → Point
sync_point place p = with_accesses p.hart place (sync_accesses p.touch)

-- all points, of which those that aren't sync points conflict with none
abbrev pub syncs_from : ℕ → List Accessing → List Point
syncs_from place [] = []
syncs_from place (p ∷ ps) = sync_point place p ∷ syncs_from (suc place) ps

-- one point is ordered before another: a chain leads there. Its steps lead from a point to a later one of its hart, or from a
-- sync point to a later sync point that conflicts with it
abbrev pub IsOrdered : List Accessing → ℕ → ℕ → Type 0
IsOrdered run = Before (syncs_from 0 run)

-- the lowest word that both access and one of them writes
pub record IsLowest (p q : Point) (word : ℕ) : Type 0 where
  pub meet : MeetAt word p q
  pub lowest : (other : ℕ) → MeetAt other p q → word ≤ other

-- the points at two places conflict, and the earlier one isn't ordered before the other
pub record IsRace (run : List Accessing) (m n word : ℕ) : Type 0 where
  pub earlier : m < n
  pub first : Accessing
  pub second : Accessing
  pub first_at : slice_get run m ≡ Some first
  pub second_at : slice_get run n ≡ Some second
  pub conflict : IsConflict (whole_point m first) (whole_point n second)
  pub unordered : IsOrdered run m n → ⊥
  pub word_is : IsLowest (whole_point m first) (whole_point n second) word

-- ---- the same by tests that compute

-- the lesser of two words, of which the first may be missing
abbrev pub lesser : Option ℕ → ℕ → Option ℕ
lesser None w = Some w
lesser (Some v) w = Some (min v w)

-- the least of some numbers, and of one before them
abbrev pub least_from : Option ℕ → List ℕ → Option ℕ
least_from o [] = o
least_from o (w ∷ ws) = least_from (lesser o w) ws

-- the words of the second's accesses that the first accesses too, if one of the two writes
abbrev pub shared : List Access → List Access → List ℕ
shared first second = map (λ x. x.word) (filter (λ x. list_any (λ y. clashes y x) first) second)

-- whether they may be a race: the first is the earlier one, they are of different harts, and it isn't ordered before the other
abbrev pub is_apart : List Accessing → ℕ → ℕ → Accessing → Accessing → Bool
is_apart run m n p q = nat_lt m n && (not (p.hart == q.hart) && not (before (syncs_from 0 run) m n))

-- the lowest word of the race of two points, if they are one
abbrev pub race_word : List Accessing → ℕ → ℕ → Accessing → Accessing → Option ℕ
race_word run m n p q = cond (is_apart run m n p q) (least_from None (shared (accesses_of p.touch) (accesses_of q.touch))) None

-- the word of the race of two places, if they are one
unfoldable pub race_at : List Accessing → ℕ → ℕ → Option ℕ
race_at run m n = elim (slice_get run m) [ None ↦ None | Some p ↦ elim (slice_get run n) [ None ↦ None | Some q ↦ race_word run m n p q ] ]

-- ---- all races

-- the race with place n, if there is one
abbrev pub meeting_at : ℕ → Option ℕ → List Meeting
meeting_at n None = []
meeting_at n (Some w) = record { second = n; word = w } ∷ []

-- the races of place m with places below n, by ascending second place
unfoldable pub meetings_below : List Accessing → ℕ → ℕ → List Meeting
meetings_below run m zero = []
meetings_below run m (suc n) = meetings_below run m n ++ meeting_at n (race_at run m n)

-- all races of place m with later places, by ascending place
abbrev pub meetings_of : List Accessing → ℕ → List Meeting
meetings_of run m = meetings_below run m (length run)

-- how many races there are whose first place is below m
abbrev pub count_below : List Accessing → ℕ → ℕ
count_below run zero = 0
count_below run (suc m) = count_below run m + length (meetings_of run m)

-- how many races there are
abbrev pub race_count : List Accessing → ℕ
race_count run = count_below run (length run)

-- the row of the point at a place, if that is of hart g
abbrev pub row_if : ℕ → Option Accessing → Option Row
row_if g None = None
row_if g (Some p) = cond (p.hart == g) (Some p.row) None

-- the row of the point at place n, if that is of hart g
abbrev pub row_of : List Accessing → ℕ → ℕ → Option Row
row_of run n g = row_if g (slice_get run n)

-- the race of two rows, if they are there
abbrev pub race_by : Option Accessing → Option Row → ℕ → List Race
race_by None other word = []
race_by (Some p) None word = []
race_by (Some p) (Some row) word = record { first = p.row; second = row; word = word } ∷ []

-- the race of place m with another, if that one is of hart g
abbrev pub race_if : List Accessing → ℕ → ℕ → Meeting → List Race
race_if run m g x = race_by (slice_get run m) (row_of run x.second g) x.word

-- those of several meetings
abbrev pub races_with : List Accessing → ℕ → ℕ → List Meeting → List Race
races_with run m g [] = []
races_with run m g (x ∷ xs) = race_if run m g x ++ races_with run m g xs

-- the races of place m with the points of the harts below g, hart by hart
abbrev pub races_by_second : List Accessing → ℕ → ℕ → List Race
races_by_second run m zero = []
races_by_second run m (suc g) = races_by_second run m g ++ races_with run m g (meetings_of run m)

-- the point at place m is of hart h
abbrev pub is_at : List Accessing → ℕ → ℕ → Bool
is_at run m h = elim (slice_get run m) [ None ↦ false | Some p ↦ p.hart == h ]

-- the races whose first place is below m and of hart h
abbrev pub races_by_place : ℕ → List Accessing → ℕ → ℕ → List Race
races_by_place harts run h zero = []
races_by_place harts run h (suc m) = races_by_place harts run h m ++ cond (is_at run m h) (races_by_second run m harts) []

-- the races whose first is of a hart below h
abbrev pub races_by_first : ℕ → List Accessing → ℕ → List Race
races_by_first harts run zero = []
races_by_first harts run (suc h) = races_by_first harts run h ++ races_by_place harts run h (length run)

-- all races, each once: by the hart of the first and its place, and then by the hart of the second and its place
abbrev pub races_of : ℕ → List Accessing → List Race
races_of harts run = races_by_first harts run harts
