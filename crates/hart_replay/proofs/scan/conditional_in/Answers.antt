use Rattle.std.proofs.Common.{rules}
use Rattle.hart_replay.proofs.Puts.{conditionals_of_load}
use Rattle.hart_replay.proofs.scan.conditional_in.Goals as goal

pub returns-then-of-hart : goal.returns-then-of-hart
returns-then-of-hart c = search (rules, conditionals_of_load)

pub returns-else-of-hart : goal.returns-else-of-hart
returns-else-of-hart c = search (rules, conditionals_of_load)

pub returns-then-of-hart-2 : goal.returns-then-of-hart-2
returns-then-of-hart-2 c = search (rules, conditionals_of_load)

pub returns-else-of-hart-2 : goal.returns-else-of-hart-2
returns-else-of-hart-2 c = search (rules, conditionals_of_load)

pub returns-then-of-hart-3 : goal.returns-then-of-hart-3
returns-then-of-hart-3 c = search (rules, conditionals_of_load)

pub returns-else-of-hart-3 : goal.returns-else-of-hart-3
returns-else-of-hart-3 c = search (rules, conditionals_of_load)

pub returns-in-Header : goal.returns-in-Header
returns-in-Header c = search (rules, conditionals_of_load)

pub returns-in-FirstLoad : goal.returns-in-FirstLoad
returns-in-FirstLoad c = search (rules, conditionals_of_load)

pub returns-in-Edge : goal.returns-in-Edge
returns-in-Edge c = search (rules, conditionals_of_load)
