use Rattle.log_commands.proofs.Common.{Makes, IsPairOfBytes, IsOwn, JointReading}
use Rattle.log_commands.proofs.Answering.{passed-on, paired, unpaired}
use Rattle.log_commands.proofs.pairs.read_pair.Goals as goal

pub returns-in_err-log-clause-is : goal.returns-in_err-log-clause-is
returns-in_err-log-clause-is c =
    passed-on (Makes (IsPairOfBytes c.args.log.now c.args.elf.now)) _ c.from_residual.result c.from_residual.ensures.1 (unpaired c.args.log.now c.args.elf.now _ c.in_err-log.ensures.says)

pub returns-in_err-log-clause-own : goal.returns-in_err-log-clause-own
returns-in_err-log-clause-own c = passed-on (λ r. IsOwn {A = JointReading} r) _ c.from_residual.result c.from_residual.ensures.1 c.in_err-log.ensures.own

pub returns-clause-is : goal.returns-clause-is
returns-clause-is c = paired c.args.log.now c.args.elf.now c.in_ok-log.log c.pair_by.result c.in_ok-log.ensures.says c.pair_by.ensures.is
