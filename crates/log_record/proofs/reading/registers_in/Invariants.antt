use Rattle.log_record.proofs.Common.{◌≡◌, ◌++◌, ◌∷◌, ◌+◌, ◌-◌, ◌*◌, length, take, words_at}
use Rattle.log_record.proofs.reading.registers_in.Given as goal

abbrev pub invariant-loop-number : goal.invariant-loop-number
invariant-loop-number l = record {
  count : length l.contents ≡ 32;
  read : take l.number l.contents ++ words_at (32 - l.number) (18 + 4 * l.number) l.bytes ≡ 0 ∷ words_at 31 22 l.bytes;
}
