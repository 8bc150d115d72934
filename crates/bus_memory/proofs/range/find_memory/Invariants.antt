use Rattle.bus_memory.proofs.Common.{◌≡◌, contents_of, HaveWords}
use Rattle.bus_memory.proofs.range.find_memory.Given as goal

abbrev pub invariant-loop-number : goal.invariant-loop-number
invariant-loop-number l = record { same : contents_of l.pages ≡ contents_of l.fn.pages; found : HaveWords l.pages l.first l.number }
