use Rattle.log_commands.proofs.Common.{◌≡◌, ◌++◌, drop, positions_text}
use Rattle.log_commands.proofs.lines.push_positions.Given as goal

abbrev pub invariant-loop-position : goal.invariant-loop-position
invariant-loop-position l = l.text ++ positions_text (drop l.position-index l.positions) ≡ l.fn.text ++ positions_text l.positions
