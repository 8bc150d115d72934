use Rattle.joint_replay.proofs.Common.{List, length, take, sym, ◌∙◌, subst, IncomingEdge, ArePassed}
use Rattle.joint_replay.proofs.MetSources.{edges_are, more_passed, all_passed}
use Rattle.joint_replay.proofs.joint.Joint.first_unpassed.Goals as goal

pub loop-place-init : goal.loop-place-init
loop-place-init c =
    let same = edges_are c.self.inside.image.now c.self.inside.log.now c.self.inside.harts c.self.inside.lanes.items c.self.inside.memory.words c.self.inside.refused c.self.inside.met.items c.args.self.now
    c.self.view_is c.self.invariant.0 c.self.invariant.1 c.args.hart c.requires.there c.index.result.now c.edges-sources.result.now c.index.ensures c.edges-sources.ensures.all in
    subst (λ (ss : List IncomingEdge). ArePassed c.args.self.now.lanes (take c.args.met ss)) (sym same) c.requires.before

pub returns-then-not-is_passed : goal.returns-then-not-is_passed
returns-then-not-is_passed c =
    let same = edges_are c.self.inside.image.now c.self.inside.log.now c.self.inside.harts c.self.inside.lanes.items c.self.inside.memory.words c.self.inside.refused c.self.inside.met.items c.args.self.now
    c.self.view_is c.self.invariant.0 c.self.invariant.1 c.args.hart c.requires.there c.index.result.now c.edges-sources.result.now c.index.ensures c.edges-sources.ensures.all in
    subst (λ (ss : List IncomingEdge). ArePassed c.args.self.now.lanes (take c.loop-place.place ss)) same c.loop-place.invariant

pub loop-place-preserved : goal.loop-place-preserved
loop-place-preserved c =
    let none : IncomingEdge = record { target = 0; hart = 0; ic = 0 } in
    more_passed c.args.self.now.lanes c.loop-place.place c.edges-sources.result.now none c.loop-place-test.true c.loop-place.invariant (sym c.is_passed.ensures ∙ c.if-not-is_passed.false)

pub returns : goal.returns
returns c =
    let same = edges_are c.self.inside.image.now c.self.inside.log.now c.self.inside.harts c.self.inside.lanes.items c.self.inside.memory.words c.self.inside.refused c.self.inside.met.items c.args.self.now
    c.self.view_is c.self.invariant.0 c.self.invariant.1 c.args.hart c.requires.there c.index.result.now c.edges-sources.result.now c.index.ensures c.edges-sources.ensures.all in
    subst (λ (ss : List IncomingEdge). ArePassed c.args.self.now.lanes (take (length c.edges-sources.result.now) ss)) same
    (all_passed c.args.self.now.lanes c.loop-place.place (length c.edges-sources.result.now) c.edges-sources.result.now c.loop-place-test.false c.loop-place.invariant)
