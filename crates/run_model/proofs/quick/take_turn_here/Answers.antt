use Rattle.run_model.proofs.Common.{None, absorbed, ask_here}
use Rattle.run_model.proofs.Owns.{next_here, own_here}
use Rattle.run_model.proofs.quick.take_turn_here.Goals as goal

pub returns-clause-next : goal.returns-clause-next
returns-clause-next c =
    next_here c.args.settings.now None c.args.want.now c.args.reply c.args.own.now c.absorb_here.new.self (absorbed (ask_here c.args.own.now c.args.want.now) c.args.reply) c.of-next.result c.absorb_here.ensures c.of-next.ensures

pub returns-clause-own : goal.returns-clause-own
returns-clause-own c =
    own_here c.args.load c.args.own.now c.absorb_here.new.self c.take.new.self (absorbed (ask_here c.args.own.now c.args.want.now) c.args.reply) c.of-next.result c.skipped_after-skipped.result c.append_next.new.log.bytes c.absorb_here.ensures c.skipped_after-skipped.ensures c.take.ensures
