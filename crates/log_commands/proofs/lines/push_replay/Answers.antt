use Rattle.log_commands.proofs.Common.{replay_said}
use Rattle.log_commands.proofs.lines.push_replay.Goals as goal

pub returns-in-EndDiffers : goal.returns-in-EndDiffers
unfolding replay_said
returns-in-EndDiffers c = rw c.in-EndDiffers.is c.push_ends.ensures
