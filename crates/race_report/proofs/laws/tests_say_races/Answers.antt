use Rattle.race_report.proofs.Agreeing.{tests_say_races as say}
use Rattle.race_report.proofs.laws.tests_say_races.Goals as goal

pub returns : goal.returns
returns c = say c.tests_decide.ensures.before
