use Rattle.bugnet.proofs.Common.{Option, false, subst, [], Result, Ok, Err, IfOk, sha256, Files, image_of, Start, input_roles, elf_roles, record_roles, WithFiles, passed-on, only-then, load-stops, then-loads, IsByProgram, IsByNames, BeginsBy, LoadsStart}
use Rattle.log_commands.specs.declared.names.Role.TheVariants.{Elf}
use Rattle.bugnet.proofs.Begins.{begins-stopped, begins-loaded, holds-bytes}
use Rattle.bugnet.proofs.commands.record.load_files.Goals as goal

pub returns-in_err-elf-clause-loads : goal.returns-in_err-elf-clause-loads
returns-in_err-elf-clause-loads g c =
    let names = c.args.names.now in
    let s = c.args.settings.now in
    let old = g.S.Store.stored c.args.files.now in
    let new = g.S.Store.stored c.fetch.new.files in
    let x = c.in_err-elf.field-0.0 in
    let f = c.in_err-elf.ensures in
    passed-on (LoadsStart names (λ how files. IsByNames false files names s how c.args.has_input) (record_roles c.args.has_input) elf_roles g.S.Store.note old new) x c.from_residual.result c.from_residual.ensures.1
    (record {
      told = λ how. begins-stopped old.files names how Elf 67108864 x (λ files elf what. IsByProgram (image_of elf s) files names s how c.args.has_input (sha256 elf) what) f.told;
      only = record { same = f.same; asks = f.asks; later = f.later; cause = f.cause };
      calls = load-stops g.S.Store.note names Elf (input_roles c.args.has_input) elf_roles old.noted new.noted x f.called f.stops;
    })

pub returns-clause-loads : goal.returns-clause-loads
returns-clause-loads g c =
    let names = c.args.names.now in
    let s = c.args.settings.now in
    let old = g.S.Store.stored c.args.files.now in
    let mid = g.S.Store.stored c.fetch.new.files in
    let new = g.S.Store.stored c.load_start.new.files in
    let elf = c.in_ok-elf.elf in
    let f = c.in_ok-elf.ensures in
    let loads = c.load_start.ensures.loads in
    record {
      told = λ how. begins-loaded old.files names how Elf 67108864 elf c.load_start.result (λ files elf what. IsByProgram (image_of elf s) files names s how c.args.has_input (sha256 elf) what) f.told
          (subst (λ (k : Option Files). WithFiles k (λ files. BeginsBy names how (λ f. IsByProgram (image_of elf.items s) f names s how c.args.has_input (sha256 elf.items)) files c.load_start.result)) f.same
          (rw c.deref.ensures.value at (loads.told how)));
      only = only-then old mid new elf c.load_start.result (record { same = f.same; asks = f.asks; later = f.later; cause = tt }) loads.only.same loads.only.asks loads.only.later loads.only.cause;
      calls = then-loads Start g.S.Store.note names Elf (input_roles c.args.has_input) [] old.noted mid.noted new.noted c.load_start.result f.called loads.calls;
    }

pub returns-clause-bytes : goal.returns-clause-bytes
returns-clause-bytes g c =
    let old = g.S.Store.stored c.args.files.now in
    by c.load_start.result (holds-bytes old.files c.args.names.now.elf Elf 67108864 c.in_ok-elf.elf (rw c.deref.ensures.value at c.load_start.ensures.bytes) c.in_ok-elf.ensures.told)
  where
    by : {A E P : Type 0} (r : Result A E) → P → IfOk r (λ x. P)
    by (Ok x) p = p
    by (Err e) p = tt
