use Rattle.log_commands.proofs.Common.{IsMade, races_with, Answers, IsByLog, pair_of}
use Rattle.log_commands.proofs.Answering.{passed-on, unpaired-so, paired-so}
use Rattle.log_commands.proofs.commands.races.evaluate.Goals as goal

pub returns-in_err-pair : goal.returns-in_err-pair
returns-in_err-pair c =
    passed-on (Answers IsMade (λ names. IsByLog names c.args.log.now (pair_of (races_with names c.args.most) names c.args.elf.now))) _ c.from_residual.result c.from_residual.ensures.1
    (unpaired-so IsMade c.args.log.now c.args.elf.now (λ names. races_with names c.args.most) _ c.in_err-pair.ensures.is c.in_err-pair.ensures.own)

pub returns : goal.returns
returns c =
    paired-so IsMade c.args.log.now c.args.elf.now c.in_ok-pair.pair (λ names. races_with names c.args.most) c.races_of.result c.in_ok-pair.ensures.is c.races_of.ensures
