-- What `races` and `slice` answer of a log that says an end of a recording.
use Rattle.bugnet.proofs.Common.{◌≡◌, ◌<◌, ◌^◌, ℕ, Bool, true, false, nat_lt, List, length, Option, Some, None, ◌∙◌, ap, refl, arith, sha256, Head, Content, fresh, run_all, Replayed, Interval, interval_of, replayed, replayed_in, JointError, JointReplaysSayTheRun, Recording, IsLogOf, EndsSuffice, Record, race_count, races_of, points_in, text_of, FileNames, Told, refused, Either, TooLong, RacesLine, SliceLine, names_in, joint_run, races_listed, races_unless, races_in, races_with, slice_told, slice_with, ReadingsAreUnique, SavedHaveTheirLimit, ConvertedHaveTheirLimit}
use Rattle.race_report.specs.declared.race.Race.{Race}
use Rattle.report_laws.specs.Laws.{SayTheRun, RacesSayTheRun}
use Rattle.slice_back.specs.Slices.{slice_in}
use Rattle.log_commands.specs.declared.names.Role.TheVariants as role
use Rattle.bugnet.specs.Traced.{races_kept, RacesAreTold, ListsRaces, PrintedRacesSayTheRun, slice_kept, SlicesAreTold}
use Rattle.bugnet.proofs.Jointly.{is-log, pair-so}
use Rattle.bugnet.proofs.Suffices.{then-so}

-- the joint replay of a log that says this isn't stopped
races-so : JointReplaysSayTheRun → (names : FileNames) (most : ℕ) (r : Recording) (d : Content) → IsLogOf r d.records → d.head ≡ record { settings = r.settings; digest = sha256 r.elf }
    → races_with names most d r.program ≡ races_kept names r d.records most
races-so law names most r d log head =
    ap (λ (h : Head). races_in names most h.settings.harts (run_all (fresh r.program h.settings.harts d.records))) head
    ∙ ap (λ (o : Option JointError). races_unless o names most r.settings.harts (joint_run r d.records)) (law r d.records log).stopped

pub races_told : ReadingsAreUnique → JointReplaysSayTheRun → SavedHaveTheirLimit → ConvertedHaveTheirLimit → RacesAreTold
races_told readings law saved converted log elf most files r h what is =
    let names = names_in (RacesLine log elf most) in
    let d = h.says.log in
    then-so (nat_lt 67108864 (length r.elf)) _ _ _ (λ (by : what ≡ races_with names most d r.program). by ∙ races-so law names most r d (is-log log elf files r h) h.says.head)
    (pair-so (record { one_reading = readings }) (record { saved = saved; converted = converted }) (races_with names most) names files r h what is)

-- what is told is a text of races if its status is 0: else there are too many, or the program file is too long
listed : (many : Bool) (names : FileNames) (most : ℕ) (races : List Race) (r : Recording) (records : List Record) (what : Told) → SayTheRun r records races → what ≡ races_listed many names most races → what.status ≡ 0
    → ListsRaces r records what
unfolding refused
listed true names most races r records what say e zero =
    let twenty : what.status ≡ 20 = ap (λ (t : Told). t.status) e in
    absurd (omega (arith, zero, twenty))
listed false names most races r records what say e zero = record { races = races; text = e; run = say }

lists : (long : Bool) (names : FileNames) (most : ℕ) (r : Recording) (records : List Record) (what : Told) → SayTheRun r records (races_of r.settings.harts (points_in (joint_run r records)))
    → Either long (what ≡ refused names (TooLong role.Elf)) (what ≡ races_kept names r records most) → what.status ≡ 0 → ListsRaces r records what
unfolding refused
lists true names most r records what say e zero =
    let five : what.status ≡ 5 = ap (λ (t : Told). t.status) e in
    absurd (omega (arith, zero, five))
lists false names most r records what say e zero =
    let points = points_in (joint_run r records) in
    listed (nat_lt most (race_count points)) names most (races_of r.settings.harts points) r records what say e zero

pub printed_say : RacesAreTold → RacesSayTheRun → PrintedRacesSayTheRun
printed_say told say log elf most files r h what is zero =
    let records = h.says.log.records in
    lists (nat_lt 67108864 (length r.elf)) (names_in (RacesLine log elf most)) most r records what (say r records (is-log log elf files r h)) (told log elf most files r h what is) zero

-- the slice in an interval of a log of the recording
kept-told : EndsSuffice → (names : FileNames) (r : Recording) (d : Content) (hart interval ic : ℕ) (o : Option Interval) → IsLogOf r d.records → interval_of hart interval d.records ≡ o
    → slice_with names hart interval ic d r.program ≡ slice_kept names r hart interval ic o
kept-told law names r d hart interval ic None log e =
    ap (λ (o : Option Interval). slice_told names (text_of hart ic (slice_in ic o (replayed_in r.program hart interval o)))) e
kept-told law names r d hart interval ic (Some v) log e =
    let is = log.recording in
    let small : r.settings.limit < 2 ^ 63 = omega (arith, is.setting.limit_high) in
    ap (λ (o : Option Interval). slice_told names (text_of hart ic (slice_in ic o (replayed r.program d.records hart interval)))) e
    ∙ ap (λ (y : Replayed). slice_told names (text_of hart ic (slice_in ic (Some v) y)))
    (law r.settings r.program r.input r.turns hart interval small (record { legal = is.legal; over = is.over }) d.records log.end v e)

pub slices_told : ReadingsAreUnique → EndsSuffice → SavedHaveTheirLimit → ConvertedHaveTheirLimit → SlicesAreTold
slices_told readings law saved converted log elf hart interval ic files r h what is =
    let names = names_in (SliceLine log elf hart interval ic) in
    let d = h.says.log in
    then-so (nat_lt 67108864 (length r.elf)) _ _ _ (λ (by : what ≡ slice_with names hart interval ic d r.program).
    by ∙ kept-told law names r d hart interval ic (interval_of hart interval d.records) (is-log log elf files r h) refl)
    (pair-so (record { one_reading = readings }) (record { saved = saved; converted = converted }) (slice_with names hart interval ic) names files r h what is)
