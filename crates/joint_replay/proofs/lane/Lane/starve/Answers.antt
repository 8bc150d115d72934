use Rattle.joint_replay.proofs.Common.{subst, Some, HartLane, hart_lane, LaneRefuses}
use Rattle.joint_replay.proofs.LaneMoves.{refuses_in, no_keys}
use Rattle.joint_replay.proofs.lane.Lane.starve.Goals as goal

pub returns-in-Some-cursor : goal.returns-in-Some-cursor
returns-in-Some-cursor c =
    subst (λ (o : HartLane). LaneRefuses o c.starve.result (hart_lane c.self.inside.image.now c.self.inside.log.now.records c.self.inside.hart c.self.inside.points.keys (Some c.starve.new.self) c.self.inside.later.items)) c.self.view_is
    (refuses_in c.self.inside.image.now c.self.inside.log.now.records c.self.inside.hart c.self.inside.later.items c.self.inside.points.keys c.self.inside.points.keys c.self.inside.cursor c.in-Some-cursor.cursor c.starve.new.self c.starve.result
    c.in-Some-cursor.is (no_keys c.self.inside.points.keys c.in-None.ensures.variant.1) (no_keys c.self.inside.points.keys c.in-None.ensures.variant.1) c.starve.ensures)
