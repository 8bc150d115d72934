use Rattle.rv_meaning.specs.Execute.{absorbed}
use Rattle.run_model.proofs.Owns.{next_here, own_here}
use Rattle.run_model.proofs.trace.take_turn.Goals as goal

pub returns-clause-next : goal.returns-clause-next
returns-clause-next c =
    next_here c.args.settings.now c.args.call c.args.ask.now.want c.args.reply c.args.own.now c.absorb.new.self (absorbed c.args.ask.now c.args.reply) c.of-next.result c.absorb.ensures c.of-next.ensures

pub returns-clause-own : goal.returns-clause-own
returns-clause-own c =
    own_here c.args.load c.args.own.now c.absorb.new.self c.take.new.self (absorbed c.args.ask.now c.args.reply) c.of-next.result c.skipped_after-skipped.result c.append_next.new.log.bytes c.absorb.ensures c.skipped_after-skipped.ensures c.take.ensures
