use Rattle.rv_meaning.proofs.Common.{◌≡◌, ◌≤◌, ◌<◌, ◌+◌, ◌*◌, ◌^◌, true, is_some, length, code_at, IsAhead}
use Rattle.rv_meaning.proofs.ahead.decoded_from.Given as goal

-- the words up to the address, which is below 2 ^ 32, are decoded; if there are some, the first is code
abbrev pub invariant-loop : goal.invariant-loop
invariant-loop l = IsAhead l.image l.first l.ops.items × (l.addr ≡ l.first + 4 * length l.ops.items) × (0 < length l.ops.items → is_some (code_at l.image l.first) ≡ true) × (l.addr < 2 ^ 32) × (length l.ops.items ≤ l.counter)
