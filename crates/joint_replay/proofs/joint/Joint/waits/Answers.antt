use Rattle.joint_replay.proofs.Common.{◌+◌, slice_index_or, drop, subst, sources_into, IncomingEdge}
use Rattle.joint_replay.proofs.MetSources.{waits_from}
use Rattle.joint_replay.proofs.Waiting.{IsLeft, opened_at, is_past}
use Rattle.joint_replay.proofs.joint.Joint.waits.Goals as goal

pub loop-place-init : goal.loop-place-init
loop-place-init c =
    waits_from c.self.inside.image.now c.self.inside.log.now c.self.inside.harts c.self.inside.lanes.items c.self.inside.memory.words c.self.inside.refused c.self.inside.met.items c.args.self.now
    c.self.view_is c.self.invariant.0 c.self.invariant.1 c.args.hart c.requires c.args.ic c.index.result.now c.edges-sources.result.now c.index-place.result.now c.index.ensures c.edges-sources.ensures.all c.edges-sources.ensures.order c.index-place.ensures

pub returns-then-source-ic : goal.returns-then-source-ic
returns-then-source-ic c =
    let none : IncomingEdge = record { target = 0; hart = 0; ic = 0 } in
    let left = subst (IsLeft c.args.self.now.lanes c.args.ic (sources_into c.args.self.now.records c.args.hart c.args.ic)) (opened_at c.edges-sources.result.now c.loop-place.place none c.loop-place-test.true) c.loop-place.invariant in
    is_past c.args.self.now.lanes c.args.ic (sources_into c.args.self.now.records c.args.hart c.args.ic) (slice_index_or c.edges-sources.result.now c.loop-place.place none) (drop (c.loop-place.place + 1) c.edges-sources.result.now) c.if-source-ic.true left
