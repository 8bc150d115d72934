use Rattle.elf_loader.proofs.Common.{ap, ◌+◌, ◌*◌, ◌∙◌, ◌≡◌, map, arith, range_with_len, first_word, word_of, file_words, words_touched}
use Rattle.elf_loader.proofs.Words.{grown}
use Rattle.elf_loader.proofs.program_header.ProgramHeader.file_words.Goals as goal

pub loop-k-preserved : goal.loop-k-preserved
loop-k-preserved c = record {
  words = grown (λ k. word_of c.args.bytes.now c.args.self.now (4 * (first_word c.args.self.now + k))) c.loop-k.k _ _ _ c.in_ok-push.ensures.items c.loop-k.invariant.words
      (c.word.ensures ∙ ap (λ first. word_of c.args.bytes.now c.args.self.now (4 * (first + c.loop-k.k))) c.first_word-first.ensures);
  len = c.in_ok-push.ensures.len ∙ ap (λ n. n + 1) c.loop-k.invariant.len;
}

pub returns : goal.returns
unfolding file_words
returns c =
    let whole : c.loop-k.k ≡ words_touched c.args.self.now.vaddr c.args.self.now.filesz = omega (arith, c.words_touched-count.ensures.value) in record {
      words = c.loop-k.invariant.words ∙ ap (λ n. map (λ k. word_of c.args.bytes.now c.args.self.now (4 * (first_word c.args.self.now + k))) (range_with_len 0 n)) whole;
      len = c.loop-k.invariant.len ∙ whole;
    }
