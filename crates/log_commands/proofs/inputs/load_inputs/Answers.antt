use Rattle.log_commands.proofs.Common.{◌≡◌, ◌+◌, ◌∷◌, get_or, drop, add-one, drop-cons, refl, LoadsAll, bytes_of, limit_of, Elf}
use Rattle.log_commands.proofs.Answering.{passed-on}
use Rattle.log_commands.proofs.FileCalls.{called-more, called-stops, some-left}
use Rattle.log_commands.proofs.Fetched.{so_far-more, so_far-stopped, only-then}
use Rattle.log_commands.proofs.inputs.load_inputs.Goals as goal

pub returns-in_err-bytes : goal.returns-in_err-bytes
returns-in_err-bytes g c =
    let roles = c.args.roles.now in
    let k = c.loop-role.role-index in
    let r = get_or roles k Elf in
    let at : drop k roles ≡ r ∷ drop (k + 1) roles = rw add-one (drop-cons roles k Elf c.loop-role-test.true) in
    let so_far = c.loop-role.invariant in
    let f = c.in_err-bytes.ensures in
    passed-on (LoadsAll c.args.names.now roles g.S.Store.note _ _) _ c.from_residual.result c.from_residual.ensures.1
    (record {
      loads = so_far-stopped _ _ c.args.names.now roles _ (limit_of _) (drop k roles) (drop (k + 1) roles) (bytes_of c.loop-role.inputs) _
          so_far.only.same refl at so_far.reached f.told;
      only = only-then _ _ _ c.loop-role.inputs _ so_far.only f.same f.asks f.later f.cause;
      calls = called-stops g.S.Store.note c.args.names.now roles (drop k roles) (drop (k + 1) roles) _ (limit_of _) _ _ _ _
          refl at so_far.called f.called f.stops;
      none = λ empty. some-left roles (drop k roles) (drop (k + 1) roles) _ so_far.called.made empty at so_far.called.parts;
    })

pub loop-role-preserved : goal.loop-role-preserved
loop-role-preserved g c =
    let roles = c.args.roles.now in
    let k = c.loop-role.role-index in
    let r = get_or roles k Elf in
    let at : drop k roles ≡ r ∷ drop (k + 1) roles = rw add-one (drop-cons roles k Elf c.loop-role-test.true) in
    let so_far = c.loop-role.invariant in
    let f = c.in_ok-bytes.ensures in
    record {
      reached = so_far-more _ _ c.args.names.now roles _ (limit_of _) (drop k roles) (drop (k + 1) roles) (bytes_of c.loop-role.inputs) (bytes_of c.put.new.self) c.in_ok-bytes.bytes
          so_far.only.same refl at c.put.ensures so_far.reached f.told;
      only = only-then _ _ _ c.loop-role.inputs _ so_far.only f.same f.asks f.later tt;
      called = called-more g.S.Store.note c.args.names.now roles (drop k roles) (drop (k + 1) roles) _ (limit_of _) _ _ _
          refl at so_far.called f.called;
    }
