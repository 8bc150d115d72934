use Rattle.log_commands.proofs.Common.{refl, IsPrinted, joint_with, Answers, IsByLog, pair_of}
use Rattle.log_commands.proofs.Answering.{passed-on, unpaired-so, paired-so}
use Rattle.log_commands.proofs.commands.joint.evaluate.Goals as goal

pub returns-in_err-pair : goal.returns-in_err-pair
returns-in_err-pair c =
    passed-on (Answers IsPrinted (λ names. IsByLog names c.args.log.now (pair_of (joint_with names) names c.args.elf.now))) _ c.from_residual.result c.from_residual.ensures.1
    (unpaired-so IsPrinted c.args.log.now c.args.elf.now (λ names. joint_with names) _ c.in_err-pair.ensures.is c.in_err-pair.ensures.own)

pub returns : goal.returns
returns c =
    paired-so IsPrinted c.args.log.now c.args.elf.now c.in_ok-pair.pair (λ names. joint_with names) _ c.in_ok-pair.ensures.is (record { gives = λ names. refl; own = λ before now. tt; kind = tt })
