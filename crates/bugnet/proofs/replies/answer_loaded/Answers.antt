use Rattle.bugnet.proofs.Common.{◌≡◌, ◌∙◌, List, subst, sym, Err, seen, LoadsUpTo, CallsTo, noted_after, loads_of, Answer, Role, passed-on, own-loads, refusal_in, line_roles, AnswersLine, needed_roles, None}
use Rattle.bugnet.proofs.LineAnswers.{stops-line, gives-line, cause-line, needed-same, demo-loads, kind-fits, kind-printed}
use Rattle.bugnet.proofs.LineCalls.{words-pass}
use Rattle.bugnet.proofs.replies.answer_loaded.Goals as goal

pub returns-in_err-inputs : goal.returns-in_err-inputs
returns-in_err-inputs g c = λ o.
    let line = seen c.args.command.now in
    let names = c.args.names.now in
    let old = g.S.Store.stored c.args.files.now in
    let new = g.S.Store.stored c.load_inputs.new.files in
    let x = c.in_err-inputs.field-0.0 in
    let h = c.in_err-inputs.ensures in
    let e : refusal_in line ≡ None = c.requires.passes in
    let upto : LoadsUpTo names (line_roles line) (line_roles line) g.S.Store.note old.noted new.noted x =
    subst (λ (rs : List Role). LoadsUpTo names rs rs g.S.Store.note old.noted new.noted x) c.roles_of.ensures h.calls in
    passed-on (AnswersLine o line names g.S.Store.note old new) x c.from_residual.result c.from_residual.ensures.1
    (record {
      told = stops-line o line old.files names c.roles_of.result.now x c.requires.named c.roles_of.ensures c.requires.no_session c.requires.no_recording e h.loads;
      same = h.only.same;
      asks = h.only.asks;
      later = h.only.later;
      cause = cause-line (refusal_in line) old.counts new.counts (Err x) e h.only.cause;
      calls = words-pass Answer g.S.Store.note names (refusal_in line) (line_roles line) (needed_roles line) old.noted new.noted (Err x) e
          (subst (λ (rs : List Role). LoadsUpTo names (line_roles line) rs g.S.Store.note old.noted new.noted x) (sym (needed-same line c.requires.no_recording)) upto);
      prints = λ p. tt;
      records = tt;
      demo = demo-loads line names x (λ empty. h.none (c.roles_of.ensures ∙ empty));
    })

pub returns : goal.returns
returns g c = λ o.
    let line = seen c.args.command.now in
    let names = c.args.names.now in
    let old = g.S.Store.stored c.args.files.now in
    let new = g.S.Store.stored c.load_inputs.new.files in
    let h = c.in_ok-inputs.ensures in
    let made = c.evaluate.ensures.answers in
    let e : refusal_in line ≡ None = c.requires.passes in
    record {
      told = gives-line o line old.files names c.roles_of.result.now c.in_ok-inputs.inputs c.evaluate.result c.requires.named c.roles_of.ensures c.requires.no_session c.requires.no_recording e h.loads made;
      same = h.only.same;
      asks = h.only.asks;
      later = h.only.later;
      cause = cause-line (refusal_in line) old.counts new.counts c.evaluate.result e (made.own old.counts new.counts);
      calls = words-pass Answer g.S.Store.note names (refusal_in line) (line_roles line) (needed_roles line) old.noted new.noted c.evaluate.result e
          (subst (λ (rs : List Role). CallsTo names (line_roles line) rs g.S.Store.note old.noted new.noted c.evaluate.result) (sym (needed-same line c.requires.no_recording))
          (own-loads Answer g.S.Store.note names (line_roles line) old.noted new.noted c.evaluate.result
          (subst (λ (rs : List Role). new.noted ≡ noted_after g.S.Store.note names old.noted (loads_of rs)) c.roles_of.ensures h.calls) made.own));
      prints = λ p. kind-printed line c.evaluate.result made.kind p;
      records = kind-fits line c.evaluate.result made.kind;
      demo = c.evaluate.ensures.demo names;
    }
