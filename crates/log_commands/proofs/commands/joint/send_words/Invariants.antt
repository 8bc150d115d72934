use Rattle.log_commands.proofs.Common.{length, known_from}
use Rattle.log_commands.proofs.Joins.{Lists}
use Rattle.log_commands.proofs.commands.joint.send_words.Given as goal

abbrev pub invariant-words : goal.invariant-words
invariant-words g l = Lists l.joint.memory l.from l.text (g.O.Sink.stream l.fn.out).text (g.O.Sink.stream l.out).text (g.O.Sink.stream l.fn.out).faults (g.O.Sink.stream l.out).faults

-- the words that are left
abbrev pub decreases-words : goal.decreases-words
decreases-words g l = length (known_from l.from l.joint.memory)
