use Rattle.elf_loader.proofs.Common.{◌≡◌, ◌+◌, ◌*◌, map, vec_len, range_with_len, first_word, word_of}
use Rattle.elf_loader.proofs.program_header.ProgramHeader.file_words.Given as goal

abbrev pub invariant-loop-k : goal.invariant-loop-k
invariant-loop-k l = record {
  words : l.words.items ≡ map (λ k. word_of l.bytes l.self (4 * (first_word l.self + k))) (range_with_len 0 l.k);
  len : vec_len l.words ≡ l.k;
}
