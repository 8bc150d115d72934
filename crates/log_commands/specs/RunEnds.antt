-- How a recording ends, and its status.
use Rattle.std.specs.Prelude.{◌≡◌, ℕ, List, codes, ◌⊎◌}
use Rattle.log_commands.specs.declared.answer.RunEnd.{RunEnd}
use Rattle.log_commands.specs.declared.answer.RunEnd.TheVariants as ends
use Rattle.log_commands.specs.Statuses.{code}
use Rattle.log_commands.specs.declared.status.Status.TheVariants as exit

-- the status of a recording that ended so
abbrev pub end_status : RunEnd → ℕ
end_status ends.Done = code exit.Done
end_status ends.Fault = code exit.Fault
end_status ends.Limit = code exit.Limit

-- the word of the summary for it
unfoldable pub end_word : RunEnd → List ℕ
end_word ends.Done = codes "done"
end_word ends.Fault = codes "fault"
end_word ends.Limit = codes "limit"

-- a recording is done: the run ended in no fault and no limit, in a fault, or by the limit
abbrev pub IsRecorded : ℕ → Type 0
IsRecorded status = (status ≡ code exit.Done) ⊎ ((status ≡ code exit.Fault) ⊎ (status ≡ code exit.Limit))
