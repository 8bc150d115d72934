use Rattle.bugnet.proofs.Common.{between, world, passed-on, RepliesTo}
use Rattle.bugnet.proofs.Replied.{leaves-other, line-refused, line-acted}
use Rattle.bugnet.proofs.replies.reply.Goals as goal

pub returns-in_err-answer : goal.returns-in_err-answer
returns-in_err-answer g c = λ o.
    passed-on (RepliesTo o _ _ g.S.Store.note (between (world _ _ _) (world _ _ _))) _ c.from_residual.result c.from_residual.ensures.1
    (line-refused o _ _ g.S.Store.note _ _ _ _ _ c.requires.named (c.in_err-answer.ensures o))

pub returns : goal.returns
returns g c = λ o.
    line-acted o _ c.args.names.now g.S.Store.note _ _ _ _ _ c.in_ok-answer.answer c.act.result c.requires.named c.requires.no_session
    (λ status k same told. leaves-other o _ status k.old.store.files k.new.store.files c.requires.no_recording) (c.in_ok-answer.ensures o) c.act.ensures
