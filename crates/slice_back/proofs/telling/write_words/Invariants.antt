use Rattle.slice_back.proofs.Common.{◌≡◌, ◌++◌, drop, flat_map, word_line}
use Rattle.slice_back.proofs.telling.write_words.Given as goal

abbrev pub invariant-loop-one : goal.invariant-loop-one
invariant-loop-one l = l.text ++ flat_map word_line (drop l.one-index l.words) ≡ l.fn.text ++ flat_map word_line l.words
