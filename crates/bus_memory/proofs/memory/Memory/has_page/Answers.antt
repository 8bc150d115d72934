use Rattle.std.proofs.Common.{arith, ◌∙◌}
use Rattle.bus_memory.proofs.Laws.{has_page_at, no_page_test, mapped_at}
use Rattle.bus_memory.proofs.memory.Memory.has_page.Goals as goal

pub returns-then-number-len-clause-value : goal.returns-then-number-len-clause-value
returns-then-number-len-clause-value c =
    rw (← c.self.view_is) (c.is_made.ensures.value ∙ has_page_at c.self.inside.pages.items c.page_of-number.result c.args.addr c.index.result.now c.page_of-number.ensures (omega (arith, c.self.inside.pages.ok)) c.index.ensures)

pub returns-then-number-len-clause-mapped : goal.returns-then-number-len-clause-mapped
returns-then-number-len-clause-mapped c made =
    rw (← c.self.view_is) (mapped_at c.self.inside.pages.items c.args.addr (omega (arith, c.self.inside.pages.ok)))

pub returns-else-number-len-clause-value : goal.returns-else-number-len-clause-value
returns-else-number-len-clause-value c =
    rw (← c.self.view_is) (no_page_test c.self.inside.pages.items c.page_of-number.result c.len.result c.args.addr c.page_of-number.ensures (omega (arith, c.self.inside.pages.ok)) (omega arith))
