-- The text of a race report.
use Rattle.std.specs.Prelude.{◌≡◌, ◌≤◌, ℕ, List, ◌++◌, codes, decimal, length, None, Result, Ok, Err}
use Rattle.race_report.specs.Common.{flat_map, Row, Ran}
use Rattle.rv_text.specs.Instructions.{hex8}
use Rattle.rv_text.specs.Rows.{row_text}
use Rattle.race_report.specs.declared.error.RaceError.{RaceError}
use Rattle.race_report.specs.declared.race.Race.{Race}
use Rattle.race_report.specs.Races.{race_count, races_of}
use Rattle.race_report.specs.Reports.{points_in, IsReport}

-- a point by its hart and count
unfoldable pub place_text : Row → List ℕ
place_text r = codes " " ++ decimal r.hart ++ codes " " ++ decimal r.ic

-- the line of a race, and the lines of its rows
unfoldable pub race_text : Race → List ℕ
race_text r = codes "race" ++ place_text r.first ++ place_text r.second ++ codes " " ++ hex8 r.word ++ codes "\n" ++ row_text r.first ++ row_text r.second

-- the line of how many there are
unfoldable pub count_text : ℕ → List ℕ
count_text n = codes "races " ++ decimal n ++ codes "\n"

-- the text of all races
abbrev pub races_text : List Race → List ℕ
races_text races = flat_map race_text races ++ count_text (length races)

-- the text of the report of a joint replay of so many harts, which lists at most so many; or why there is none
abbrev pub IsReportText : ℕ → ℕ → Ran → Result (List ℕ) RaceError → Type 0
IsReportText harts most r (Ok text) = (r.stopped ≡ None) × (race_count (points_in r) ≤ most) × (text ≡ races_text (races_of harts (points_in r)))
IsReportText harts most r (Err e) = IsReport harts most r (Err e)
