use Rattle.rv_meaning.proofs.Common.{◌==◌, not, nat_lt, refl, branch, is_done, jump}
use Rattle.rv_decode.specs.declared.name.Name.TheVariants as ns
use Rattle.rv_meaning.proofs.QuietOps.{step_says}
use Rattle.rv_meaning.proofs.ops.do_quiet.Goals as goal

pub returns-in-Beq-clause-done : goal.returns-in-Beq-clause-done
returns-in-Beq-clause-done c i o says =
    step_says ns.Beq i c.args.op.now o (is_done c.branch-src1.result) _ _ c.args.x.now _ (λ d. branch (c.src1-in-Beq.result == c.src2-in-Beq.result) _) says c.in-Beq.is refl (λ d h. c.branch-src1.ensures.done c.args.x.now) (λ d h ic. cc)

pub returns-in-Bne-clause-done : goal.returns-in-Bne-clause-done
returns-in-Bne-clause-done c i o says =
    step_says ns.Bne i c.args.op.now o (is_done c.branch-src1-in-Bne.result) _ _ c.args.x.now _ (λ d. branch (not (c.src1-in-Bne.result == c.src2-in-Bne.result)) _) says c.in-Bne.is refl (λ d h. c.branch-src1-in-Bne.ensures.done c.args.x.now) (λ d h ic. cc)

pub returns-in-Blt-clause-done : goal.returns-in-Blt-clause-done
returns-in-Blt-clause-done c i o says =
    step_says ns.Blt i c.args.op.now o (is_done c.branch-less.result) _ _ c.args.x.now _ (λ d. branch c.less-in-Blt.result _) says c.in-Blt.is refl (λ d h. c.branch-less.ensures.done c.args.x.now) (λ d h ic. cc)

pub returns-in-Bge-clause-done : goal.returns-in-Bge-clause-done
returns-in-Bge-clause-done c i o says =
    step_says ns.Bge i c.args.op.now o (is_done c.branch-less-in-Bge.result) _ _ c.args.x.now _ (λ d. branch (not c.less-in-Bge.result) _) says c.in-Bge.is refl (λ d h. c.branch-less-in-Bge.ensures.done c.args.x.now) (λ d h ic. cc)

pub returns-in-Bltu-clause-done : goal.returns-in-Bltu-clause-done
returns-in-Bltu-clause-done c i o says =
    step_says ns.Bltu i c.args.op.now o (is_done c.branch-src1-in-Bltu.result) _ _ c.args.x.now _ (λ d. branch (nat_lt c.src1-in-Bltu.result c.src2-in-Bltu.result) _) says c.in-Bltu.is refl (λ d h. c.branch-src1-in-Bltu.ensures.done c.args.x.now) (λ d h ic. cc)

pub returns-in-Bgeu-clause-done : goal.returns-in-Bgeu-clause-done
returns-in-Bgeu-clause-done c i o says =
    step_says ns.Bgeu i c.args.op.now o (is_done c.branch-src1-in-Bgeu.result) _ _ c.args.x.now _ (λ d. branch (not (nat_lt c.src1-in-Bgeu.result c.src2-in-Bgeu.result)) _) says c.in-Bgeu.is refl (λ d h. c.branch-src1-in-Bgeu.ensures.done c.args.x.now) (λ d h ic. cc)

pub returns-in-Jal-clause-done : goal.returns-in-Jal-clause-done
returns-in-Jal-clause-done c i o says =
    step_says ns.Jal i c.args.op.now o (is_done c.jump.result) _ _ c.args.x.now c.jump.new.x (λ d. jump d _) says c.in-Jal.is refl (λ d h. c.jump.ensures.done d h.rd) (λ d h ic. cc)

pub returns-in-Jalr-clause-done : goal.returns-in-Jalr-clause-done
returns-in-Jalr-clause-done c i o says =
    step_says ns.Jalr i c.args.op.now o (is_done c.jump-in-Jalr.result) _ _ c.args.x.now c.jump-in-Jalr.new.x (λ d. jump d _) says c.in-Jalr.is refl (λ d h. c.jump-in-Jalr.ensures.done d h.rd) (λ d h ic. cc)
