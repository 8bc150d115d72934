use Rattle.bugnet.proofs.Common.{[], Ok, Err, Start, IsByInput, input_roles, passed-on, only-first, load-stops, IsRun, LoadsStart}
use Rattle.log_commands.specs.declared.names.Role.TheVariants.{Input}
use Rattle.bugnet.proofs.Begins.{no-input, input-refused, input-taken}
use Rattle.bugnet.proofs.LineCalls.{no-input-loads, input-loads}
use Rattle.bugnet.proofs.commands.record.load_input.Goals as goal

pub returns-then-not-has_input : goal.returns-then-not-has_input
returns-then-not-has_input g c =
    let old = g.S.Store.stored c.args.files.now in
    record {
      told = λ how. no-input c.args.has_input old.files c.args.names.now how c.args.start c.if-not-has_input.true c.requires;
      only = only-first old c.args.start;
      calls = no-input-loads g.S.Store.note c.args.names.now c.args.has_input old.noted c.if-not-has_input.true;
    }

pub returns-in_err-input : goal.returns-in_err-input
returns-in_err-input g c =
    let s = c.args.start in
    let names = c.args.names.now in
    let old = g.S.Store.stored c.args.files.now in
    let new = g.S.Store.stored c.fetch.new.files in
    let x = c.in_err-input.field-0.0 in
    let f = c.in_err-input.ensures in
    passed-on (LoadsStart names (λ how files. IsByInput c.args.has_input files names (IsRun s.settings s.image s.digest how)) (input_roles c.args.has_input) [] g.S.Store.note old new) x c.from_residual.result c.from_residual.ensures.1
    (record {
      told = λ how. input-refused c.args.has_input old.files names how x (IsRun s.settings s.image s.digest how) c.if-not-has_input.false f.told;
      only = record { same = f.same; asks = f.asks; later = f.later; cause = f.cause };
      calls = input-loads Start g.S.Store.note names c.args.has_input [] old.noted new.noted (Err x) c.if-not-has_input.false
          (load-stops g.S.Store.note names Input [] [] old.noted new.noted x f.called f.stops);
    })

pub returns : goal.returns
returns g c =
    let s = c.args.start in
    let names = c.args.names.now in
    let old = g.S.Store.stored c.args.files.now in
    let new = g.S.Store.stored c.fetch.new.files in
    let f = c.in_ok-input.ensures in
    record {
      told = λ how. input-taken c.args.has_input old.files names how (record s { input = c.in_ok-input.input }) c.in_ok-input.input (IsRun s.settings s.image s.digest how) c.if-not-has_input.false f.told (λ what run. run);
      only = record { same = f.same; asks = f.asks; later = f.later; cause = tt };
      calls = input-loads Start g.S.Store.note names c.args.has_input [] old.noted new.noted (Ok c.args.start) c.if-not-has_input.false f.called;
    }
