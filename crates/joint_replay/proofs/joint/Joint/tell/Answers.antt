use Rattle.joint_replay.specs.Moves.{stepped_by}
use Rattle.joint_replay.proofs.Telling.{chosen_there, chosen_ready, told_step}
use Rattle.joint_replay.proofs.joint.Joint.tell.Goals as goal

pub step_into-requires-clause-there : goal.step_into-requires-clause-there
step_into-requires-clause-there c = chosen_there c.args.self.now c.args.hart c.requires.lowest

pub step_into-requires-clause-ready : goal.step_into-requires-clause-ready
step_into-requires-clause-ready c = chosen_ready c.args.self.now c.args.hart c.requires.lowest

pub returns-in-Ok-write_moved : goal.returns-in-Ok-write_moved
returns-in-Ok-write_moved c =
    told_step c.args.self.now c.step_into.new.self c.args.hart (stepped_by c.args.hart c.in-Ok.moved c.step_into.new.did) c.args.out.now c.write_moved.new.text c.requires.none c.requires.lowest c.in-Ok.ensures c.in-Ok-write_moved.ensures.ok
