-- What a demonstration begins with, and what its parts hand on.
use Rattle.std.specs.Prelude.{◌≡◌, ◌≤◌, ◌+◌, ℕ, [], length, Some, None}
use Rattle.bn_base.specs.Programs.{Program}
use Rattle.sha2.specs.Sha256.{sha256}
use Rattle.log_order.specs.Content.{Content}
use Rattle.log_file.specs.Layout.{file_bytes}
use Rattle.hart_replay.specs.Replay.{Done, Interval, Replayed, interval_of, replayed}
use Rattle.joint_replay.specs.Joining.{fresh, run_all}
use Rattle.run_model.specs.declared.start.Start.{Start}
use Rattle.demo_run.specs.Demonstration.{demo, demo_settings, demo_program, demo_elf, demo_log, demo_turns, instructions_of}
use Rattle.demo_run.specs.declared.recording.DemoRecording.{DemoRecording}

-- the program, its settings, no input, and the digest of its file
pub record IsStart (seed : ℕ) (s : Start) : Type 0 where
  pub image : s.image ≡ demo_program seed
  pub settings : s.settings ≡ demo_settings
  pub input : s.input.items ≡ []
  pub digest : s.digest ≡ sha256 (demo_elf seed)

-- the run is counted, and its log written
pub record IsRecordedRun (seed : ℕ) (r : DemoRecording) : Type 0 where
  pub turns : r.turns ≡ length (demo_turns seed)
  pub instructions : r.instructions ≡ instructions_of (demo seed)
  pub file : r.file.items ≡ file_bytes (demo_log seed)

-- a replay goes to the End of an interval, and has a row for each of its instructions at most, and one of a fault
pub record ComesToEnd (v : Interval) (r : Replayed) : Type 0 where
  pub done : r.outcome ≡ Done
  pub few : length r.rows ≤ v.mark.ic + 1

-- the replay of each interval of which a log has the Header comes to its End
abbrev pub AllComeToEnd : Program → Content → Type 0
AllComeToEnd i d = (h n : ℕ) (v : Interval) → interval_of h n d.records ≡ Some v → ComesToEnd v (replayed i d.records h n)

-- no step of the joint replay of a log is refused, and no order of them gets stuck
abbrev pub GoesThrough : Program → Content → Type 0
GoesThrough i d = (run_all (fresh i d.head.settings.harts d.records)).stopped ≡ None
