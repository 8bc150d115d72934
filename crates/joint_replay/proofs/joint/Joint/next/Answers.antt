use Rattle.joint_replay.proofs.Common.{Bool, ◌+◌, drop, ap, ◌∙◌, length, arith, Joining, choice_from}
use Rattle.joint_replay.proofs.Choosing.{lanes_length, is_lowest, waits_on, is_done}
use Rattle.joint_replay.proofs.joint.Joint.next.Goals as goal
use Rattle.joint_replay.proofs.joint.Joint.next.Goals.{in-Waits, in-Done}

pub returns-in-Ready : goal.returns-in-Ready
returns-in-Ready c = is_lowest c.args.self.now c.loop-hart.hart c.loop-hart.waiting c.ready.result (omega (arith, c.loop-hart-test.true, c.self.invariant.0.count_is, lanes_length c.self.inside.lanes.items, ap (λ (j : Joining). length j.lanes) c.self.view_is)) c.ready.ensures c.in-Ready.is c.loop-hart.invariant

pub loop-hart-preserved : goal.loop-hart-preserved
loop-hart-preserved c = elim c.match-ready.branch [
  | in-Waits w ↦
      ap (λ (b : Bool). choice_from c.args.self.now.records c.args.self.now.lanes (c.loop-hart.hart + 1) (drop (c.loop-hart.hart + 1) c.args.self.now.lanes) b) w.waiting-is
      ∙ waits_on c.args.self.now c.loop-hart.hart c.loop-hart.waiting c.ready.result w.in-Waits.hart w.in-Waits.ic (omega (arith, c.loop-hart-test.true, c.self.invariant.0.count_is, lanes_length c.self.inside.lanes.items, ap (λ (j : Joining). length j.lanes) c.self.view_is)) c.ready.ensures w.in-Waits.is c.loop-hart.invariant
  | in-Done w ↦
      ap (λ (b : Bool). choice_from c.args.self.now.records c.args.self.now.lanes (c.loop-hart.hart + 1) (drop (c.loop-hart.hart + 1) c.args.self.now.lanes) b) w.waiting-is
      ∙ is_done c.args.self.now c.loop-hart.hart c.loop-hart.waiting c.ready.result (omega (arith, c.loop-hart-test.true, c.self.invariant.0.count_is, lanes_length c.self.inside.lanes.items, ap (λ (j : Joining). length j.lanes) c.self.view_is)) c.ready.ensures w.in-Done.is c.loop-hart.invariant
]
