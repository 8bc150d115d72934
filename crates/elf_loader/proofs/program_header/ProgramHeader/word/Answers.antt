use Rattle.std.proofs.Common.{refl, ◌∙◌, arith}
use Rattle.elf_loader.proofs.Words.{word_of-inside}
use Rattle.elf_loader.proofs.program_header.ProgramHeader.word.Goals as goal

pub returns-then-addr-start : goal.returns-then-addr-start
returns-then-addr-start c = c.read_u32.ensures ∙ word_of-inside c.args.bytes.now c.args.self.now c.args.addr _ (omega arith) (omega arith) refl
