use Rattle.run_model.proofs.Histories.{access_stands}
use Rattle.run_model.proofs.caches.access.Goals as goal

pub returns-clause-stands : goal.returns-clause-stands
returns-clause-stands c = λ settings events a. access_stands settings c.args.caches.now c.touch-warm.new.caches c.drop_from_others.new.caches c.args.hart c.args.span events c.requires.hart c.touch-warm.ensures.touched c.drop_from_others.ensures a
