use Rattle.elf_loader.proofs.Memory.{share-words}
use Rattle.elf_loader.proofs.laws.segments_share_words_that_both_touch.Goals as goal

pub returns : goal.returns
returns c = share-words
