use Rattle.bugnet.proofs.Common.{◌∙◌, ap, subst, Err, command_in, WordsError, world, FileNames, Refuses, Refusal, words_refusal, code}
use Rattle.bugnet.proofs.Replied.{words-answered}
use Rattle.bugnet.proofs.program.obey.Goals as goal

pub returns-in-Err : goal.returns-in-Err
returns-in-Err g c =
    let w = world (g.S.Store.stored c.args.files.now) (g.O.Sink.stream c.args.out.now) (g.X.Sink.stream c.args.err.now) in
    let end = g.X.Sink.stream c.refuse.new.err in
    words-answered c.args.schedule (command_in c.args.words.now) c.in-Err.error g.S.Store.note g.I.Source.source g.I.Source.note c.args.input.now w (code c.refuse.result) end
    (λ e. c.read_words.ensures.refused (c.in-Err.is ∙ ap (λ (x : WordsError). Err x) e))
    (subst (λ (n : FileNames). Refuses n (words_refusal c.in-Err.error) (code c.refuse.result) w.err end) c.none.ensures
    (subst (λ (r : Refusal). Refuses c.none.result r (code c.refuse.result) w.err end) c.words_refusal.ensures c.refuse.ensures))
