use Rattle.rv_meaning.proofs.Common.{◌≡◌, true, ap, subst, slice_index, Program, code_at, Walking, Asking, instruction_in, Want, Store}
use Rattle.rv_meaning.proofs.DecodedAhead.{asks_here}
use Rattle.rv_meaning.proofs.walk.Walk.word_store.Goals as goal

pub returns-in-Some : goal.returns-in-Some
returns-in-Some c left ic some =
    let w : Walking = c.args.self.now in
    let want : Want = Store c.in-Some.addr 4 (slice_index c.args.x.now c.args.op.now.rs2) in
    let same : c.self.inside.image.now ≡ w.program = ap (λ (v : Walking). v.program) c.self.view_is in
    let asking : Asking true w.program (instruction_in (code_at w.program w.pc)) c.args.x.now want =
    subst (λ (j : Program). Asking true j (instruction_in (code_at w.program w.pc)) c.args.x.now want) same (c.in-Some.ensures (instruction_in (code_at w.program w.pc)) c.requires) in
    asks_here w.program left (record { pc = w.pc; x = c.args.x.now; ic = ic }) want some asking
