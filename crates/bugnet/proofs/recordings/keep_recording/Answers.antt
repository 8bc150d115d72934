use Rattle.bugnet.proofs.Common.{Option, subst, sym, Files, RecordLine, seen_recording, between, world, passed-on, RepliesTo, HasElf}
use Rattle.bugnet.proofs.Leaves.{call-leaves}
use Rattle.bugnet.proofs.RecordLoads.{record-bytes}
use Rattle.bugnet.proofs.Replied.{line-refused, line-acted}
use Rattle.bugnet.proofs.recordings.keep_recording.Goals as goal

pub returns-in_err-answer : goal.returns-in_err-answer
returns-in_err-answer g c = λ o makes.
    let line = RecordLine (seen_recording c.args.options.now) in
    let names = c.args.names.now in
    let old = g.S.Store.stored c.args.files.now in
    let new = g.S.Store.stored c.evaluate.new.files in
    let out = g.O.Sink.stream c.args.out.now in
    let err = g.X.Sink.stream c.args.err.now in
    passed-on (RepliesTo o line names g.S.Store.note (between (world old out err) (world new out err))) _ c.from_residual.result c.from_residual.ensures.1
    (line-refused o line names g.S.Store.note old new out err _ c.requires.named (c.in_err-answer.ensures.answers o makes))

pub returns : goal.returns
returns g c = λ o makes.
    let r = c.args.options.now in
    let line = RecordLine (seen_recording r) in
    let names = c.args.names.now in
    let old = g.S.Store.stored c.args.files.now in
    let mid = g.S.Store.stored c.evaluate.new.files in
    let out = g.O.Sink.stream c.args.out.now in
    let err = g.X.Sink.stream c.args.err.now in
    let new = world (g.S.Store.stored c.act.new.files) (g.O.Sink.stream c.act.new.out) (g.X.Sink.stream c.act.new.err) in
    line-acted o line names g.S.Store.note old mid out err new c.in_ok-answer.answer c.act.result c.requires.named tt
    (λ status k same told.
    call-leaves c.seeds_are_whole.ensures c.files_keep_to_their_size.ensures c.logs_are_contents.ensures o line status k
    (subst (λ (known : Option Files). HasElf line known) (sym same) (record-bytes old.files names r c.requires.named c.in_ok-answer.ensures.bytes)) told)
    (c.in_ok-answer.ensures.answers o makes) c.act.ensures
