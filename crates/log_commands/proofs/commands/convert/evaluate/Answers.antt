use Rattle.log_commands.proofs.Common.{Answers, IsByLog, renewed, IsRenewed}
use Rattle.log_commands.proofs.Answering.{passed-on, unread, read}
use Rattle.log_commands.proofs.commands.convert.evaluate.Goals as goal

pub returns-in_err-log : goal.returns-in_err-log
returns-in_err-log c =
    passed-on (Answers IsRenewed (λ names. IsByLog names c.args.origin.now renewed)) _ c.from_residual.result c.from_residual.ensures.1
    (unread IsRenewed c.args.origin.now (λ names. renewed) _ c.in_err-log.ensures.says c.in_err-log.ensures.own)

pub returns : goal.returns
returns c = read IsRenewed c.args.origin.now c.in_ok-log.log (λ names. renewed) c.renew.result c.in_ok-log.ensures.says c.renew.ensures
