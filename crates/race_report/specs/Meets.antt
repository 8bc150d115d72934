-- What a point's races and accesses add to what is kept.
use Rattle.std.specs.Prelude.{◌≡◌, ◌<◌, ◌++◌, ◌%◌, ℕ, List}
use Rattle.race_report.specs.Common.{Row, HartState, count_of}
use Rattle.race_report.specs.declared.calls.Asked.{Asked}
use Rattle.race_report.specs.declared.race_lists.RaceLists.{RaceLists}
use Rattle.race_report.specs.declared.gathered.Gathered.{Gathered}
use Rattle.race_report.specs.declared.meets.Reached.{Reached}
use Rattle.race_report.specs.declared.touch.Touch.{Touch}
use Rattle.race_report.specs.declared.track.Track.{Track}
use Rattle.race_report.specs.Found.{met_harts, met_words}
use Rattle.race_report.specs.Gathering.{IsState}
use Rattle.race_report.specs.Kept.{IsTracked, lists_of}
use Rattle.race_report.specs.Points.{Accessing, accessing, asked_by, touch_of, words_from}

-- a track has these places of each hart's accesses of each word
abbrev pub HasPlaces : Track → (ℕ → ℕ → List ℕ) → Type 0
HasPlaces track places = (g w : ℕ) → w % 4 ≡ 0 → IsTracked track g w (places g w)

-- the races of a point with all tracked accesses of one word were added
abbrev pub MetWord : Track → (harts : ℕ) → (word : ℕ) → Reached → (old new : RaceLists) → Type 0
MetWord track harts word point old new = (places : ℕ → List ℕ) → ((g : ℕ) → IsTracked track g word (places g))
    → lists_of new ≡ met_harts point.place word point.hart (count_of point.known) places harts (lists_of old)

-- the races of a point with all tracked accesses of its words were added
abbrev pub MetWords : Track → (harts : ℕ) → Touch → Reached → (old new : RaceLists) → Type 0
MetWords track harts touch point old new = (places : ℕ → ℕ → List ℕ) → HasPlaces track places
    → lists_of new ≡ met_words point.place point.hart (count_of point.known) places harts (words_from touch.first touch.count) (lists_of old)

-- a row of a hart that asked this before it was taken in, with all that it accesses
abbrev pub TookRow : (hart : ℕ) → Asked → Row → (most : ℕ) → (old new : Gathered) → Type 0
TookRow hart asked row most old new = (harts : ℕ) (run : List Accessing) (before : HartState) → hart < harts → asked ≡ asked_by before
    → IsState harts most run old → IsState harts most (run ++ accessing hart row (touch_of before row)) new
