use Rattle.log_commands.proofs.Common.{◌≡◌, rules, bytes_eq, sha256, Makes, where_same, IsOwn, JointReading}
use Rattle.log_commands.proofs.Answering.{passed-on}
use Rattle.log_commands.proofs.pairs.pair_by.Goals as goal

pub returns-in_err-image-clause-is : goal.returns-in_err-image-clause-is
returns-in_err-image-clause-is c =
    passed-on (Makes (λ result. result ≡ where_same (bytes_eq (sha256 c.args.elf.now) c.args.log.head.digest) c.args.elf.now c.args.log)) c.in_err-image.field-0.0 c.from_residual.result c.from_residual.ensures.1 (search rules)

pub returns-in_err-image-clause-own : goal.returns-in_err-image-clause-own
returns-in_err-image-clause-own c = passed-on (λ r. IsOwn {A = JointReading} r) _ c.from_residual.result c.from_residual.ensures.1 c.in_err-image.ensures.own
