use Rattle.bugnet.proofs.Common.{◌≡◌, sym, refl, Err, seen, Answer, none-fell, refusal_in, line_roles, needed_roles, Some}
use Rattle.bugnet.proofs.LineAnswers.{words-line, words-cause, demo-words}
use Rattle.bugnet.proofs.LineCalls.{words-first}
use Rattle.bugnet.proofs.replies.answer_to.Goals as goal

pub returns-in-Some : goal.returns-in-Some
returns-in-Some g c = λ o.
    let line = seen c.args.command.now in
    let names = c.args.names.now in
    let old = g.S.Store.stored c.args.files.now in
    let e : refusal_in line ≡ Some c.in-Some.refusal = sym c.in-Some.ensures in
    record {
      told = words-line o line old.files names c.in-Some.refusal c.requires.named c.requires.no_recording e;
      same = refl;
      asks = refl;
      later = none-fell old.counts;
      cause = words-cause line c.in-Some.refusal old.counts old.counts c.requires.no_recording e;
      calls = words-first Answer g.S.Store.note names (refusal_in line) c.in-Some.refusal (line_roles line) (needed_roles line) old.noted (Err c.in-Some.refusal) e;
      prints = λ p. tt;
      records = tt;
      demo = demo-words line names c.in-Some.refusal e;
    }
