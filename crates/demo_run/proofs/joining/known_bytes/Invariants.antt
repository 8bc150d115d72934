use Rattle.demo_run.proofs.Common.{length, known_from}
use Rattle.demo_run.proofs.Joins.{Lists}
use Rattle.demo_run.proofs.joining.known_bytes.Given as goal

abbrev pub invariant-words : goal.invariant-words
invariant-words l = Lists l.joint.memory l.from l.bytes.items

-- the words that are left
abbrev pub decreases-words : goal.decreases-words
decreases-words l = length (known_from l.from l.joint.memory)
