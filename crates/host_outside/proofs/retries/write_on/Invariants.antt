-- A failed write appends nothing.
use Rattle.std.specs.Io.KnownBytes.{Keeps}
use Rattle.host_outside.proofs.retries.write_on.Given as goal

abbrev pub invariant-loop-tried : goal.invariant-loop-tried
invariant-loop-tried g l = Keeps (g.W.Write.contents l.initial.writer) (g.W.Write.contents l.writer)
