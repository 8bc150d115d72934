use Rattle.bus_memory.proofs.Common.{◌≡◌, ◌||◌, ◌&&◌, ℕ, false, nat_le, nat_lt, get_or, contents_of, HaveWords}
use Rattle.bus_memory.proofs.range.make.Given as goal

abbrev pub invariant-loop-number : goal.invariant-loop-number
invariant-loop-number l = record {
  words : (contents_of l.pages).words ≡ (contents_of l.fn.pages).words;
  made : (m : ℕ) → get_or (contents_of l.pages).made m false ≡ (get_or (contents_of l.fn.pages).made m false || (nat_le l.first m && nat_lt m l.number));
  found : HaveWords l.pages l.number l.end;
}
