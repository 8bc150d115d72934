use Rattle.report_laws.proofs.Alike.{Known, stand_as_recorded, conflicts_stand_as_recorded}
use Rattle.report_laws.proofs.points_stand_as_recorded.Goals as goal

pub returns : goal.returns
returns c =
    let known : Known = record {
      points = c.points_are_recorded.ensures;
      joint = c.joint_replays_say_the_run.ensures;
      retained = c.what_was_done_is_retained.ensures;
      order = c.points_are_in_order.ensures.turns;
      stand = c.points_stand_by_counts.ensures;
      of_turns = c.points_are_of_turns.ensures;
      rows = c.turn_rows_are_rows.ensures;
      counted = c.the_rows_of_a_hart_are_counted.ensures;
    } in
    record { order = stand_as_recorded known; conflicts = conflicts_stand_as_recorded known }
