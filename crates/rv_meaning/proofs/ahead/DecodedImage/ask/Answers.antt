use Rattle.rv_meaning.proofs.Common.{true, is_some, ap, subst, Option, IfSome, Program, Says, Asking, instruction_at, Op}
use Rattle.std.specs.Borrow.{Bor}
use Rattle.rv_meaning.proofs.DecodedAhead.{asks_here}
use Rattle.rv_meaning.proofs.ahead.DecodedImage.ask.Goals as goal

pub returns-then-ask_memory : goal.returns-then-ask_memory
returns-then-ask_memory c =
    let i = c.args.self.now in let s = c.args.state.now in
    let says : Says c.in-Some.op.now (instruction_at i s) = subst (λ (o : Option (Bor Op)). IfSome o (λ op. Says op.now (instruction_at i s))) c.in-Some.is c.requires.found in
    let asking = subst (λ (j : Program). Asking true j (instruction_at i s) s.x c.ask_memory.new.want) c.self.view_is (c.if-ask_memory.ensures (instruction_at i s) says) in
    asks_here i c.args.left s c.ask_memory.new.want (c.requires.some (ap is_some c.in-Some.is)) asking
