use Rattle.std.proofs.Common.{rules}
use Rattle.host_outside.proofs.AtEnd.{ends_exactly}
use Rattle.host_outside.proofs.streams.ReaderSourceSource.read.Goals as goal

pub returns-in-Ok-clause-bound : goal.returns-in-Ok-clause-bound
returns-in-Ok-clause-bound g c = search (rules, ends_exactly)

pub returns-in-Ok-clause-moved : goal.returns-in-Ok-clause-moved
returns-in-Ok-clause-moved g c = search (rules, ends_exactly)

pub returns-in-Ok-clause-end : goal.returns-in-Ok-clause-end
returns-in-Ok-clause-end g c = search (rules, ends_exactly)

pub returns-in-Ok-clause-kept : goal.returns-in-Ok-clause-kept
returns-in-Ok-clause-kept g c = search (rules, ends_exactly)

pub returns-in-Ok-clause-later : goal.returns-in-Ok-clause-later
returns-in-Ok-clause-later g c = search (rules, ends_exactly)

pub returns-in-Ok-clause-called : goal.returns-in-Ok-clause-called
returns-in-Ok-clause-called g c = search (rules, ends_exactly)

pub returns-in-Ok-clause-cause : goal.returns-in-Ok-clause-cause
returns-in-Ok-clause-cause g c = search (rules, ends_exactly)

pub returns-in-Err-clause-bound : goal.returns-in-Err-clause-bound
returns-in-Err-clause-bound g c = search (rules, ends_exactly)

pub returns-in-Err-clause-moved : goal.returns-in-Err-clause-moved
returns-in-Err-clause-moved g c = search (rules, ends_exactly)

pub returns-in-Err-clause-end : goal.returns-in-Err-clause-end
returns-in-Err-clause-end g c = search (rules, ends_exactly)

pub returns-in-Err-clause-kept : goal.returns-in-Err-clause-kept
returns-in-Err-clause-kept g c = search (rules, ends_exactly)

pub returns-in-Err-clause-later : goal.returns-in-Err-clause-later
returns-in-Err-clause-later g c = search (rules, ends_exactly)

pub returns-in-Err-clause-called : goal.returns-in-Err-clause-called
returns-in-Err-clause-called g c = search (rules, ends_exactly)

pub returns-in-Err-clause-cause : goal.returns-in-Err-clause-cause
returns-in-Err-clause-cause g c = search (rules, ends_exactly)
