use Rattle.rv_meaning.proofs.Common.{◌≡◌, true, false, ap, subst, Program, code_at, Walking, Asking, instruction_in, Want, Load}
use Rattle.rv_meaning.proofs.DecodedAhead.{asks_here}
use Rattle.rv_meaning.proofs.walk.Walk.word_load.Goals as goal

pub returns-in-Some : goal.returns-in-Some
returns-in-Some c left ic some =
    let w : Walking = c.args.self.now in
    let want : Want = Load c.in-Some.addr 4 false c.args.op.now.rd in
    let same : c.self.inside.image.now ≡ w.program = ap (λ (v : Walking). v.program) c.self.view_is in
    let asking : Asking true w.program (instruction_in (code_at w.program w.pc)) c.args.x.now want =
    subst (λ (j : Program). Asking true j (instruction_in (code_at w.program w.pc)) c.args.x.now want) same (c.in-Some.ensures (instruction_in (code_at w.program w.pc)) c.requires) in
    asks_here w.program left (record { pc = w.pc; x = c.args.x.now; ic = ic }) want some asking
