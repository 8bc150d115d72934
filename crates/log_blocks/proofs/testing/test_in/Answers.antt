use Rattle.log_blocks.proofs.Common.{refl, arith, TestsRead, IsSecondRefusal, MatchResult}
use Rattle.log_blocks.proofs.Tested.{size_bound}
use Rattle.log_blocks.proofs.Salvaged.{behind, if_ok, if_err, head_is}
use Rattle.log_blocks.proofs.Tallied.{tests_ok}
use Rattle.log_blocks.proofs.testing.test_in.Goals.{After-test_blocks}
use Rattle.log_blocks.proofs.testing.test_in.Goals as goal

pub test_blocks-requires-clause-bound : goal.test_blocks-requires-clause-bound
test_blocks-requires-clause-bound c = size_bound c.args.bytes.now c.args.settings _ c.in_ok-walk.walk.size c.requires.fault c.requires.settings refl c.in_ok-walk.ensures.walked.few

tests : (c : After-test_blocks) → MatchResult c.test_blocks.result (TestsRead c.args.bytes.now) (IsSecondRefusal c.args.bytes.now)
tests c =
    tests_ok c.read_numbers_are_written.ensures.bytes c.numbers_have_their_width.ensures c.tags_tell_sizes.ensures.tag c.args.bytes.now (λ i. omega (arith, c.type_inv.bytes i)) _ _ _ c.in_ok-walk.walk.rest c.in_ok-walk.walk.size c.in_ok-walk.walk.sizes.items _ c.read_u64-dropped.result c.test_blocks.result
    (behind c.args.bytes.now c.requires.fault) c.in_ok-walk.ensures.walked c.in_ok-walk.ensures.all c.in_ok-walk.ensures.size
    (head_is c.args.bytes.now c.args.settings c.program_in.result c.requires.settings c.program_in.ensures) c.read_u64-dropped.ensures
    (rw c.tail.ensures at c.test_blocks.ensures)

pub returns-clause-tested : goal.returns-clause-tested
returns-clause-tested c = if_ok (TestsRead c.args.bytes.now) (IsSecondRefusal c.args.bytes.now) c.test_blocks.result (tests (goal.at.returns-clause-tested c).After-test_blocks)

pub returns-clause-refused : goal.returns-clause-refused
returns-clause-refused c = if_err (TestsRead c.args.bytes.now) (IsSecondRefusal c.args.bytes.now) c.test_blocks.result (tests (goal.at.returns-clause-refused c).After-test_blocks)
