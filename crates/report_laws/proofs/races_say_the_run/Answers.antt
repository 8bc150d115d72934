use Rattle.report_laws.proofs.Whole.{Known, races_say_the_run}
use Rattle.report_laws.proofs.races_say_the_run.Goals as goal

pub returns : goal.returns
returns c =
    let known : Known = record {
      counted = c.points_are_counted.ensures;
      listed = c.races_are_listed.ensures;
      ascend = c.races_ascend.ensures;
      conflicts = c.races_go_by_conflicts.ensures;
      streams = c.streams_are_in_order.ensures;
      stays = c.order_stays_without_the_first_records.ensures;
      stand = c.points_stand_as_recorded.ensures.order;
      alike = c.points_stand_as_recorded.ensures.conflicts;
      joint = c.joint_replays_say_the_run.ensures;
      order = c.points_are_in_order.ensures.turns;
      by_counts = c.points_stand_by_counts.ensures;
      rows = c.turn_rows_are_rows.ensures;
      tell = c.rows_tell_runs.ensures;
    } in
    races_say_the_run known
