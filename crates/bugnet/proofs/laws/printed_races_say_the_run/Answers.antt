use Rattle.bugnet.proofs.Traces.{printed_say}
use Rattle.bugnet.proofs.laws.printed_races_say_the_run.Goals as goal

pub returns : goal.returns
returns c = printed_say c.races_are_told.ensures c.races_say_the_run.ensures
