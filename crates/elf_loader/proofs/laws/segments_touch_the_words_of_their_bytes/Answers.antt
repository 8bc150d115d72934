use Rattle.elf_loader.proofs.Memory.{touches-bytes}
use Rattle.elf_loader.proofs.laws.segments_touch_the_words_of_their_bytes.Goals as goal

pub returns : goal.returns
returns c = touches-bytes
