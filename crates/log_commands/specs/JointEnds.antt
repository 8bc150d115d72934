-- How the command `joint` prints.
use Rattle.std.specs.Prelude.{◌≡◌, ◌⊎◌, Some, None, Result, OnOk, IfErr}
use Rattle.hart_replay.specs.declared.error.ReplayError.TheVariants as replay
use Rattle.log_commands.specs.Common.{Joining, Ran, run_all, joint_text, steps_text, Stream}
use Rattle.log_commands.specs.Names.{FileNames}
use Rattle.log_commands.specs.Told.{Told}
use Rattle.log_commands.specs.Outside.{SendsUntil}
use Rattle.log_commands.specs.Joined.{joint_with, stop_of}
use Rattle.log_commands.specs.declared.pairs.JointReading.{JointReading}
use Rattle.log_commands.specs.declared.refusal.Refusal.{Refusal}
use Rattle.log_commands.specs.declared.refusal.Refusal.TheVariants as why

-- what `joint` tells of a log and its program that were loaded
abbrev pub told_of_joint : FileNames → JointReading → Told
told_of_joint names r = joint_with names r.log r.image

-- the definition stops so, or memory ran out for the replay itself: no other refusal is told as out of memory
abbrev pub IsOutOfMemory : Ran → Joining → Type 0
IsOutOfMemory r now = (stop_of r ≡ Some why.OutOfMemory) ⊎ (now.refused ≡ Some replay.OutOfMemory)

-- the lines of all steps were sent, and the run ended there, or was refused; or a prefix of them was sent
pub record SendsSteps (old new : Joining) (before after : Stream) (result : Result (Unit {0}) Refusal) : Type 0 where
  pub sends : SendsUntil (steps_text (run_all old).walk.taken) (stop_of (run_all old)) before after result
  pub now : OnOk result ((run_all old).walk.now ≡ new)
  pub memory : IfErr result (λ refusal. refusal ≡ why.OutOfMemory → IsOutOfMemory (run_all old) new)

-- those of all steps, and then of the known words, were sent, or it was refused; or a prefix of them was sent
pub record SendsJoint (old new : Joining) (before after : Stream) (result : Result (Unit {0}) Refusal) : Type 0 where
  pub sends : SendsUntil (joint_text (run_all old)) (stop_of (run_all old)) before after result
  pub memory : IfErr result (λ refusal. refusal ≡ why.OutOfMemory → (stop_of (run_all old) ≡ None) ⊎ IsOutOfMemory (run_all old) new)
