use Rattle.bugnet.proofs.Common.{[], refl, sha256, image_of, input_roles, none-fell, passed-on, IsByProgram, LoadsStart}
use Rattle.bugnet.proofs.Begins.{begins-refused, begins-program}
use Rattle.bugnet.proofs.LineCalls.{own-first}
use Rattle.bugnet.proofs.commands.record.load_start.Goals as goal

pub returns-in_err-image-clause-loads : goal.returns-in_err-image-clause-loads
returns-in_err-image-clause-loads g c =
    passed-on (LoadsStart _ (λ how files. IsByProgram (image_of _ _) files _ _ how c.args.has_input (sha256 _)) (input_roles c.args.has_input) [] g.S.Store.note _ _) _ c.from_residual.result c.from_residual.ensures.1
    (record {
      told = λ how. begins-refused _ _ _ _ how c.args.has_input (sha256 _) _ c.in_err-image.ensures.loaded;
      only = record { same = refl; asks = refl; later = none-fell _; cause = c.in_err-image.ensures.own _ _ };
      calls = own-first g.S.Store.note _ (input_roles c.args.has_input) _ _ c.in_err-image.ensures.own;
    })

pub returns-clause-loads : goal.returns-clause-loads
returns-clause-loads g c =
    let loads = c.load_input.ensures in
    record {
      told = λ how. begins-program _ _ _ c.args.settings.now how c.args.has_input (sha256 _) c.in_ok-image.image c.load_input.result c.in_ok-image.ensures.loaded (rw c.digest_of.ensures at (loads.told how));
      only = loads.only;
      calls = loads.calls;
    }
