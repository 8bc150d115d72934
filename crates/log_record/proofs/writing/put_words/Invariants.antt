use Rattle.log_record.proofs.Common.{◌≡◌, ◌++◌, ◌+◌, ◌*◌, length, drop, flat_map, number_bytes}
use Rattle.log_record.proofs.writing.put_words.Given as goal

abbrev pub invariant-loop-word : goal.invariant-loop-word
invariant-loop-word l = record {
  written : l.bytes ++ flat_map (number_bytes 4) (drop l.word-index l.words) ≡ l.fn.bytes ++ flat_map (number_bytes 4) l.words;
  length_is : length l.bytes ≡ length l.fn.bytes + 4 * l.word-index;
}
