use Rattle.hart_replay.proofs.Common.{ap, HartState, after}
use Rattle.hart_replay.proofs.interval_cursor.IntervalCursor.done.Goals as goal

pub returns-clause-row : goal.returns-clause-row
returns-clause-row c = c.write_row.ensures c.args.self.now.hart c.args.self.now.image.now c.args.self.now.state (after c.args.want.now c.args.reply c.args.self.now.state) c.requires.here (ap (λ (s : HartState). s.x) c.absorb_in_place.ensures)
