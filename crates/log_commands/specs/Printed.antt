-- What a replay prints on out.
use Rattle.std.specs.Prelude.{◌≡◌, ◌⊎◌, List, [], ◌++◌, ℕ, Result, Ok, Err, IfErr}
use Rattle.log_commands.specs.Common.{EndMark, Outcome, Done, Refused, Replayed, Replaying, outcome_only, ReplayError, end_text, AppendsShort, Stream}
use Rattle.hart_replay.specs.declared.error.ReplayError.TheVariants as replay
use Rattle.log_commands.specs.Outside.{Sends}
use Rattle.log_commands.specs.Texts.{begin_text, rows_text}
use Rattle.log_commands.specs.declared.replay_lines.ReplayEnd.{ReplayEnd}
use Rattle.log_commands.specs.declared.replay_lines.ReplayEnd.TheVariants as ending
use Rattle.log_commands.specs.declared.refusal.Refusal.{Refusal}
use Rattle.log_commands.specs.declared.refusal.Refusal.TheVariants as why

-- how a replay ended
abbrev pub outcome_of : ReplayEnd → Outcome
outcome_of ending.Done = Done
outcome_of (ending.Stopped error) = Refused error

-- the ending is that of the outcome
abbrev pub EndsAs : Outcome → ReplayEnd → Type 0
EndsAs outcome ending = outcome_of ending ≡ outcome

-- the end that an error of a replay makes; out of memory is none
abbrev pub ending_of : ReplayError → Result ReplayEnd Refusal
ending_of replay.OutOfMemory = Err why.OutOfMemory
ending_of error = Ok (ending.Stopped error)

-- the line after the rows, if the end was reached
abbrev pub end_of_interval : (hart interval : ℕ) → EndMark → Outcome → List ℕ
end_of_interval hart interval mark Done = end_text hart interval mark
end_of_interval hart interval mark (Refused error) = []

-- the rows that are left of a replay, and the line after them
abbrev pub rest_text : (hart interval : ℕ) → EndMark → Replayed → List ℕ
rest_text hart interval mark r = rows_text r.rows ++ end_of_interval hart interval mark r.outcome

-- all that is printed of an interval that begins at this count and has this mark
abbrev pub text_from : (hart interval ic : ℕ) → EndMark → Replayed → List ℕ
text_from hart interval ic mark r = begin_text hart interval ic ++ rest_text hart interval mark r

-- if memory ran out, a line of the text is missing
abbrev pub LacksALine : List ℕ → (old new : Stream) → Refusal → Type 0
LacksALine text old new refusal = refusal ≡ why.OutOfMemory → AppendsShort old.text new.text text

-- or it ran out for the replay itself. So no other refusal of a replay is told as out of memory
abbrev pub IsCutShort : List ℕ → (now : Replaying) → (old new : Stream) → Refusal → Type 0
IsCutShort text now old new refusal = refusal ≡ why.OutOfMemory → (now.left ≡ outcome_only (Refused replay.OutOfMemory)) ⊎ AppendsShort old.text new.text text

-- a text was sent, and the replay ends so; or a prefix of it was sent
pub record SendsReplay (text : List ℕ) (outcome : Outcome) (now : Replaying) (old new : Stream) (result : Result ReplayEnd Refusal) : Type 0 where
  pub sends : Sends text (EndsAs outcome) old new result
  pub memory : IfErr result (IsCutShort text now old new)
