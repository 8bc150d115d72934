use Rattle.log_commands.proofs.Common.{refl, Ok, Answers, IsByLog, list_of, IsMade, Listed}
use Rattle.log_commands.proofs.Answering.{passed-on, unread, read}
use Rattle.log_commands.proofs.commands.list.evaluate.Goals as goal

pub returns-in_err-log : goal.returns-in_err-log
returns-in_err-log c =
    passed-on (Answers IsMade (λ names. IsByLog names c.args.log.now list_of)) _ c.from_residual.result c.from_residual.ensures.1
    (unread IsMade c.args.log.now (λ names. list_of) _ c.in_err-log.ensures.says c.in_err-log.ensures.own)

pub returns : goal.returns
returns c =
    read IsMade c.args.log.now c.in_ok-log.log (λ names. list_of) (Ok (Listed c.in_ok-log.log)) c.in_ok-log.ensures.says
    (record { gives = λ names. refl; own = λ before now. tt; kind = tt })
