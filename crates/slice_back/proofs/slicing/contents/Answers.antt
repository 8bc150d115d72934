use Rattle.slice_back.proofs.Common.{◌∙◌, ◌++◌, ◌+◌, ◌-◌, ap, sym, slice_index, registers_from, register_if, has_register}
use Rattle.slice_back.proofs.Backs.{registers-more, registers-all}
use Rattle.slice_back.proofs.slicing.contents.Goals as goal

pub loop-number-preserved : goal.loop-number-preserved
loop-number-preserved c =
    let x = c.args.x.now in
    let used = has_register c.args.set.now in
    let q = c.loop-number.number in
    let more = registers_from x used (q + 1) (32 - (q + 1)) in
    c.in_ok-push_register.ensures more
    ∙ ap (λ r. c.loop-number.regs.items ++ register_if (used r) (r, slice_index x r) more) c.new.ensures
    ∙ ap (λ rs. c.loop-number.regs.items ++ rs) (sym (registers-more x used q c.loop-number-test.true))
    ∙ c.loop-number.invariant

pub returns : goal.returns
returns c = registers-all c.args.x.now (has_register c.args.set.now) c.loop-number.number c.loop-number.regs.items c.loop-number-test.false c.loop-number.invariant
