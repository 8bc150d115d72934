use Rattle.std.proofs.Common.{refl}
use Rattle.log_blocks.proofs.Tallied.{tests_blocks}
use Rattle.log_blocks.proofs.testing.test_blocks.Goals as goal

pub returns-in-Ok : goal.returns-in-Ok
returns-in-Ok c = λ pieces l. tests_blocks c.args.head c.args.dropped _ pieces _ refl (c.in_ok-records.ensures pieces l) (c.in-Ok.ensures pieces l)
