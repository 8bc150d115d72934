use Rattle.log_blocks.proofs.Common.{sym, subst, refl, TestsSalvaged, told, IsSalvageRefusal, SalvageError}
use Rattle.log_blocks.proofs.Tested.{size_bound}
use Rattle.log_blocks.proofs.Salvaged.{behind, taken_is, damage_is, head_is}
use Rattle.log_blocks.proofs.Tallied.{kept_ok}
use Rattle.log_blocks.proofs.salvaging.test_in.Goals as goal

pub test_blocks-requires-clause-bound : goal.test_blocks-requires-clause-bound
test_blocks-requires-clause-bound c = size_bound c.args.bytes.now c.args.settings _ c.in_ok-walk.walk.size c.requires.fault c.requires.settings refl c.in_ok-walk.ensures.walked.few

pub returns-in-Ok-clause-tested : goal.returns-in-Ok-clause-tested
returns-in-Ok-clause-tested c = taken_is (TestsSalvaged c.args.bytes.now) (λ e. IsSalvageRefusal c.args.bytes.now (told e)) c.test_blocks.result c.in-Ok.tested c.in-Ok.is (
    kept_ok c.args.bytes.now _ _ _ c.in_ok-walk.walk.rest c.in_ok-walk.walk.size c.in_ok-walk.walk.sizes.items _ c.read_u64.result c.dropped_before-dropped.result c.test_blocks.result
    (behind c.args.bytes.now c.requires.fault) c.in_ok-walk.ensures.walked c.in_ok-walk.ensures.some (head_is c.args.bytes.now c.args.settings c.program_in.result c.requires.settings c.program_in.ensures) c.read_u64.ensures
    (rw c.tail-blocks.ensures at c.dropped_before-dropped.ensures) (rw c.tail-blocks.ensures at c.test_blocks.ensures))

pub returns-clause-refused : goal.returns-clause-refused
returns-clause-refused c = subst (λ (e : SalvageError). IsSalvageRefusal c.args.bytes.now e) (sym c.told.ensures) (damage_is (TestsSalvaged c.args.bytes.now) (λ e. IsSalvageRefusal c.args.bytes.now (told e)) c.test_blocks.result c.in-Err.damage c.in-Err.is (
    kept_ok c.args.bytes.now _ _ _ c.in_ok-walk.walk.rest c.in_ok-walk.walk.size c.in_ok-walk.walk.sizes.items _ c.read_u64.result c.dropped_before-dropped.result c.test_blocks.result
    (behind c.args.bytes.now c.requires.fault) c.in_ok-walk.ensures.walked c.in_ok-walk.ensures.some (head_is c.args.bytes.now c.args.settings c.program_in.result c.requires.settings c.program_in.ensures) c.read_u64.ensures
    (rw c.tail-blocks.ensures at c.dropped_before-dropped.ensures) (rw c.tail-blocks.ensures at c.test_blocks.ensures)))
