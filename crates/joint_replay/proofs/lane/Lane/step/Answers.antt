use Rattle.joint_replay.proofs.Common.{Bool, subst, ap, ◌∙◌, Some, Ok, Err, given, Running, HartLane, hart_lane, CursorSteps, LaneSteps}
use Rattle.joint_replay.specs.declared.lane.Moved.TheVariants as to
use Rattle.joint_replay.proofs.LaneMoves.{passes, gives_in, ends_in, refuses_in, no_keys}
use Rattle.joint_replay.proofs.lane.Lane.step.Goals as goal

pub returns-in-Some : goal.returns-in-Some
returns-in-Some c =
    subst (λ (o : HartLane). LaneSteps o (Ok (to.Passed c.in-Some.ic)) c.args.did.now (hart_lane c.self.inside.image.now c.self.inside.log.now.records c.self.inside.hart c.pop_first.new.self.keys c.self.inside.cursor c.self.inside.later.items)) c.self.view_is
    (passes c.self.inside.image.now c.self.inside.log.now.records c.self.inside.hart c.self.inside.later.items c.self.inside.points.keys c.pop_first.new.self.keys c.self.inside.cursor c.in-Some.ic c.args.did.now c.in-Some.ensures.removal)

pub returns-in-Ok-true : goal.returns-in-Ok-true
returns-in-Ok-true c =
    subst (λ (o : HartLane). LaneSteps o (Ok to.Row) c.step.new.did (hart_lane c.self.inside.image.now c.self.inside.log.now.records c.self.inside.hart c.pop_first.new.self.keys (Some c.step.new.self) c.self.inside.later.items)) c.self.view_is
    (gives_in c.self.inside.image.now c.self.inside.log.now.records c.self.inside.hart c.self.inside.later.items c.self.inside.points.keys c.pop_first.new.self.keys c.self.inside.cursor c.in-Some-cursor.cursor c.step.new.self c.step.new.did
    c.in-Some-cursor.is c.self.invariant.0.program (no_keys c.self.inside.points.keys c.in-None.ensures.variant.1) (c.in-None.ensures.unchanged ∙ no_keys c.self.inside.points.keys c.in-None.ensures.variant.1) (subst (λ (b : Bool). CursorSteps c.in-Some-cursor.cursor (given (Ok b) c.step.new.did) c.step.new.self) c.in-Ok-true.field-0-test c.in-Ok-true.ensures))

pub returns-in-Ok-false : goal.returns-in-Ok-false
returns-in-Ok-false c =
    subst (λ (o : HartLane). LaneSteps o (Ok (to.Ended c.cursor.inside.number c.mark.result)) c.step.new.did (hart_lane c.self.inside.image.now c.self.inside.log.now.records c.self.inside.hart c.pop_first.new.self.keys c.begin_next.new.cursor c.begin_next.new.later.items)) c.self.view_is
    (ends_in c.self.inside.image.now c.self.inside.log.now.records c.self.inside.hart c.self.inside.later.items c.self.inside.points.keys c.pop_first.new.self.keys c.self.inside.cursor c.in-Some-cursor.cursor c.step.new.self c.begin_next.new.cursor c.begin_next.new.later.items
    c.cursor.inside.number c.mark.result c.step.new.did c.in-Some-cursor.is (no_keys c.self.inside.points.keys c.in-None.ensures.variant.1) (c.in-None.ensures.unchanged ∙ no_keys c.self.inside.points.keys c.in-None.ensures.variant.1) (subst (λ (b : Bool). CursorSteps c.in-Some-cursor.cursor (given (Ok b) c.step.new.did) c.step.new.self) c.in-Ok-false.field-0-test c.in-Ok-false.ensures) (ap (λ (r : Running). r.cursor.number) c.cursor.view_is) (c.mark.ensures ∙ ap (λ (r : Running). r.cursor.mark) c.cursor.view_is) c.begin_next.ensures.cursors)

pub returns-in-Err : goal.returns-in-Err
returns-in-Err c =
    subst (λ (o : HartLane). LaneSteps o (Err c.in-Err.error) c.step.new.did (hart_lane c.self.inside.image.now c.self.inside.log.now.records c.self.inside.hart c.pop_first.new.self.keys (Some c.step.new.self) c.self.inside.later.items)) c.self.view_is
    (refuses_in c.self.inside.image.now c.self.inside.log.now.records c.self.inside.hart c.self.inside.later.items c.self.inside.points.keys c.pop_first.new.self.keys c.self.inside.cursor c.in-Some-cursor.cursor c.step.new.self c.in-Err.error
    c.in-Some-cursor.is (no_keys c.self.inside.points.keys c.in-None.ensures.variant.1) (c.in-None.ensures.unchanged ∙ no_keys c.self.inside.points.keys c.in-None.ensures.variant.1) c.in-Err.ensures)
