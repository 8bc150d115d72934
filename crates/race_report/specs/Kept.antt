-- What is kept of a joint replay's points.
use Rattle.std.specs.Prelude.{ℕ, List}
use Rattle.race_report.specs.declared.race_lists.RaceLists.{RaceLists}
use Rattle.race_report.specs.declared.meeting.Meeting.{Meeting}
use Rattle.race_report.specs.declared.track.Track.{Track}
use Rattle.race_report.specs.Found.{lists_in}
use Rattle.race_report.specs.Tracks.{IsTrackedIn}

-- the races of each place
abbrev pub lists_of : RaceLists → List (List Meeting)
lists_of f = lists_in f.lists.items

-- the places of hart h's accesses of the word, the latest first
abbrev pub IsTracked : Track → ℕ → ℕ → List ℕ → Type 0
IsTracked t h w ps = IsTrackedIn t.heads.items t.entries.items h w ps
