use Rattle.step_debugger.proofs.Common.{ap, sym, refused_by}
use Rattle.step_debugger.proofs.moves.refused_by.Goals as goal

pub returns-in-Replay : goal.returns-in-Replay
returns-in-Replay c = sym (ap refused_by c.in-Replay.is)
