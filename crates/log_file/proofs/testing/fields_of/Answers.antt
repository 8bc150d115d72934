use Rattle.std.proofs.Common.{refl}
use Rattle.log_file.proofs.Tests.{tests_fields}
use Rattle.log_file.proofs.testing.fields_of.Goals as goal

pub returns-in-Ok-clause-tested : goal.returns-in-Ok-clause-tested
returns-in-Ok-clause-tested c =
    tests_fields c.args.signed.now c.args.settings c.read_u64-dropped.result _ c.raw-range.ensures.in_range c.requires.settings refl c.digest_in.ensures c.read_u64-dropped.ensures c.read_u64-dropped.type_inv
    c.requires.long c.requires.bound (rw c.tail.ensures at c.in-Ok.ensures.counted)
