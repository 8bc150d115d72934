-- What is shown of small recordings.
use Rattle.std.specs.Prelude.{ℕ, List, [], drop, map}
use Rattle.log_record.specs.declared.record.Record.{Record}
use Rattle.run_model.specs.Examples.{program_of, recorded}
use Rattle.run_model.specs.Examples.{Recording as Example}
use Rattle.joint_laws.specs.Recordings.{Recording}
use Rattle.race_report.specs.Examples.{named}
use Rattle.race_report.specs.Points.{Accessing}
use Rattle.race_report.specs.Races.{races_of}
use Rattle.report_laws.specs.Laws.{replayed_points}
use Rattle.report_laws.specs.Recorded.{recorded_points}

-- the file's bytes don't matter here
abbrev pub recording_of : Example → Recording
recording_of e = record { settings = e.settings; program = program_of e; elf = []; input = e.input; turns = e.turns }

-- its records but the first ones
abbrev pub records_from : ℕ → Example → List Record
records_from dropped e = drop dropped (recorded e).stream

-- the hart and the count of each point
abbrev pub names_of : List Accessing → List (ℕ × ℕ)
names_of run = map (λ p. (p.hart, p.row.ic)) run

-- the points by hart and count, as the run did them, and as the joint replay does
abbrev pub recorded_names : ℕ → Example → List (ℕ × ℕ)
recorded_names dropped e = names_of (recorded_points (recording_of e) (records_from dropped e))

-- the same of the points as the joint replay does them
abbrev pub replayed_names : ℕ → Example → List (ℕ × ℕ)
replayed_names dropped e = names_of (replayed_points (recording_of e) (records_from dropped e))

-- the races as the run did them, by hart and count of both, and the word
abbrev pub recorded_races : ℕ → Example → List (ℕ × ℕ × ℕ × ℕ × ℕ)
recorded_races dropped e = map named (races_of e.settings.harts (recorded_points (recording_of e) (records_from dropped e)))
