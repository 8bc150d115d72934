use Rattle.std.proofs.Common.{◌-◌, length}
use Rattle.step_debugger.proofs.Bytes.{SoFar}
use Rattle.step_debugger.proofs.lines.LineReader.next.Given as goal

abbrev pub invariant-bytes : goal.invariant-bytes
invariant-bytes g l = SoFar l.fn.self.count l.self (g.I.Source.source l.fn.source) (g.I.Source.source l.source) g.I.Source.note (g.O.Sink.stream l.out)

abbrev pub decreases-bytes : goal.decreases-bytes
decreases-bytes g l = 257 - length l.self.line
