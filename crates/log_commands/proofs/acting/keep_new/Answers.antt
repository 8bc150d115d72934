use Rattle.log_commands.proofs.Common.{ActsTo, done_of, world, Renewed}
use Rattle.log_commands.proofs.Answering.{passed-on}
use Rattle.log_commands.proofs.Kept.{new-unsaved, new-kept}
use Rattle.log_commands.proofs.acting.keep_new.Goals as goal

pub returns-in_err-save_file : goal.returns-in_err-save_file
returns-in_err-save_file g c = λ err.
    let names = c.args.names.now in
    let old = g.S.Store.stored c.args.files.now in
    let new = g.S.Store.stored c.save_file.new.files in
    let out = g.O.Sink.stream c.args.out.now in
    passed-on {B = Unit {0}} (λ r. ActsTo names (Renewed c.args.new.now) g.S.Store.note (world old out err) (world new out err) (done_of r)) _ c.from_residual.result c.from_residual.ensures.1
    (new-unsaved names c.args.new.now g.S.Store.note old new out err _
    (rw c.deref.ensures.value at c.in_err-save_file.ensures))

pub returns : goal.returns
returns g c = λ err.
    new-kept _ c.args.new.now g.S.Store.note _ _ _ _ err c.send_check.result
    (rw c.deref.ensures.value at c.in_ok-save_file.ensures) c.send_check.ensures
