use Rattle.bugnet.proofs.Common.{refl, inl, Ok, Err, is_some, first_bad, RecordLine, seen_recording, record_roles, elf_roles, Answer, Recorded, OutOfMemory, none-fell, passed-on, with-any, setting_refusal, scheduling_by, IsRecordingBy, is_clash, AnswersLine}
use Rattle.bugnet.proofs.LineAnswers.{cause-line}
use Rattle.bugnet.proofs.Begins.{words-refused, words-cause, start-refused, run-recorded}
use Rattle.bugnet.proofs.LineCalls.{words-first, words-pass, memory-loads, record-calls}
use Rattle.bugnet.proofs.RecordLoads.{record-answers, record-cause, record-lean}
use Rattle.bugnet.proofs.commands.record.evaluate.Goals as goal

pub returns-in_err-settings-clause-answers : goal.returns-in_err-settings-clause-answers
returns-in_err-settings-clause-answers g c = λ o makes.
    let r = c.args.options.now in
    let names = c.args.names.now in
    let how = scheduling_by (seen_recording r) o in
    let old = g.S.Store.stored c.args.files.now in
    let x = c.in_err-settings.field-0.0 in
    let h = c.in_err-settings.ensures.refused in
    let clash = is_clash how.lean names.log names.book in
    let has = is_some r.input in
    passed-on (AnswersLine o (RecordLine (seen_recording r)) names g.S.Store.note old old) x c.from_residual.result c.from_residual.ensures.1
    (record {
      told = record-answers old.files names r o has (Err x) c.requires.named refl (words-refused old.files names r.settings how has x h);
      same = refl;
      asks = refl;
      later = none-fell old.counts;
      cause = record-cause names r o how old.counts old.counts (Err x) c.requires.named refl (words-cause (first_bad r.settings) clash old.counts old.counts x h);
      calls = record-calls Answer g.S.Store.note names r o how has old.noted old.noted (Err x) c.requires.named refl refl
          (words-first Answer g.S.Store.note names (setting_refusal (first_bad r.settings) clash) x (record_roles has) elf_roles old.noted (Err x) h);
      prints = λ p. absurd p;
      records = tt;
      demo = tt;
    })

pub returns-in_err-start-clause-answers : goal.returns-in_err-start-clause-answers
returns-in_err-start-clause-answers g c = λ o makes.
    let r = c.args.options.now in
    let names = c.args.names.now in
    let how = scheduling_by (seen_recording r) o in
    let has = c.is_some.result in
    let old = g.S.Store.stored c.args.files.now in
    let new = g.S.Store.stored c.load_files.new.files in
    let x = c.in_err-start.field-0.0 in
    let ok = c.in_ok-settings.ensures.ok in
    let h = c.in_err-start.ensures.loads in
    let words = setting_refusal (first_bad r.settings) (is_clash how.lean names.log names.book) in
    passed-on (AnswersLine o (RecordLine (seen_recording r)) names g.S.Store.note old new) x c.from_residual-in_err-start.result c.from_residual-in_err-start.ensures.1
    (record {
      told = record-answers old.files names r o has (Err x) c.requires.named c.is_some.ensures (start-refused old.files names r.settings c.in_ok-settings.settings how has x ok.0 ok.1 (h.told how));
      same = h.only.same;
      asks = h.only.asks;
      later = h.only.later;
      cause = record-cause names r o how old.counts new.counts (Err x) c.requires.named refl (cause-line words old.counts new.counts (Err x) ok.1 h.only.cause);
      calls = record-calls Answer g.S.Store.note names r o how has old.noted new.noted (Err x) c.requires.named refl c.is_some.ensures
          (words-pass Answer g.S.Store.note names words (record_roles has) elf_roles old.noted new.noted (Err x) ok.1 h.calls);
      prints = λ p. absurd p;
      records = tt;
      demo = tt;
    })

pub returns-in_err-run-clause-answers : goal.returns-in_err-run-clause-answers
returns-in_err-run-clause-answers g c = λ o makes.
    let r = c.args.options.now in
    let names = c.args.names.now in
    let how = scheduling_by (seen_recording r) o in
    let has = c.is_some.result in
    let old = g.S.Store.stored c.args.files.now in
    let new = g.S.Store.stored c.load_files.new.files in
    let ok = c.in_ok-settings.ensures.ok in
    let h = c.in_ok-start.ensures.loads in
    let words = setting_refusal (first_bad r.settings) (is_clash how.lean names.log names.book) in
    passed-on (AnswersLine o (RecordLine (seen_recording r)) names g.S.Store.note old new) OutOfMemory c.from_residual-in_err-run.result c.from_residual-in_err-run.ensures.1
    (record {
      told = with-any old.files _ (λ files. inl (inl refl));
      same = h.only.same;
      asks = h.only.asks;
      later = h.only.later;
      cause = record-cause names r o how old.counts new.counts (Err OutOfMemory) c.requires.named refl (cause-line words old.counts new.counts (Err OutOfMemory) ok.1 tt);
      calls = record-calls Answer g.S.Store.note names r o how has old.noted new.noted (Err OutOfMemory) c.requires.named refl c.is_some.ensures
          (words-pass Answer g.S.Store.note names words (record_roles has) elf_roles old.noted new.noted (Err OutOfMemory) ok.1 (memory-loads g.S.Store.note names (record_roles has) elf_roles old.noted new.noted h.calls));
      prints = λ p. absurd p;
      records = tt;
      demo = tt;
    })

pub returns-clause-answers : goal.returns-clause-answers
returns-clause-answers g c = λ o makes.
    let r = c.args.options.now in
    let names = c.args.names.now in
    let how = scheduling_by (seen_recording r) o in
    let has = c.is_some.result in
    let old = g.S.Store.stored c.args.files.now in
    let new = g.S.Store.stored c.load_files.new.files in
    let ok = c.in_ok-settings.ensures.ok in
    let h = c.in_ok-start.ensures.loads in
    let run = c.in_ok-run.run' in
    let made : IsRecordingBy c.in_ok-start.start how run = makes c.in_ok-start.start run (_, c.in_ok-run.ensures, refl) in
    let words = setting_refusal (first_bad r.settings) (is_clash how.lean names.log names.book) in
    record {
      told = record-answers old.files names r o has (Ok (Recorded run)) c.requires.named c.is_some.ensures
          (run-recorded old.files names r.settings c.in_ok-settings.settings how has c.in_ok-start.start run ok.0 ok.1 (h.told how) made.told);
      same = h.only.same;
      asks = h.only.asks;
      later = h.only.later;
      cause = record-cause names r o how old.counts new.counts (Ok (Recorded run)) c.requires.named refl (cause-line words old.counts new.counts (Ok (Recorded run)) ok.1 tt);
      calls = record-calls Answer g.S.Store.note names r o how has old.noted new.noted (Ok (Recorded run)) c.requires.named refl c.is_some.ensures
          (words-pass Answer g.S.Store.note names words (record_roles has) elf_roles old.noted new.noted (Ok (Recorded run)) ok.1 h.calls);
      prints = λ p. absurd p;
      records = record-lean r o how (Recorded run) refl made.lean;
      demo = tt;
    }
