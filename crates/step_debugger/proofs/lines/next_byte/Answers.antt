use Rattle.std.proofs.Common.{arith}
use Rattle.step_debugger.proofs.Bytes.{no_byte}
use Rattle.step_debugger.proofs.lines.next_byte.Goals as goal

pub returns-then-count-eq0-clause-given : goal.returns-then-count-eq0-clause-given
returns-then-count-eq0-clause-given g c = no_byte (g.I.Source.source c.args.source.now).left (g.I.Source.source c.read.new.self).left c.in-Ok.count c.read.new.buffer c.if-count-eq0.true (omega (arith, c.read.auto.buffer)) c.in-Ok.ensures.moved c.in-Ok.ensures.end
