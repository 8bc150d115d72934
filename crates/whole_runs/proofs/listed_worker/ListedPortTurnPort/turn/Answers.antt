use Rattle.std.proofs.lemmas.Option.{IfSome_then}
use Rattle.whole_runs.proofs.listed_worker.ListedPortTurnPort.turn.Goals as goal

pub returns-clause-fits : goal.returns-clause-fits
returns-clause-fits g c = IfSome_then c.in_ok-taken.taken c.in_ok-taken.ensures.taken (λ r own. own.served.fits)

pub returns-clause-answered : goal.returns-clause-answered
returns-clause-answered g c = IfSome_then c.in_ok-taken.taken c.in_ok-taken.ensures.taken (λ r own. own.answers)
