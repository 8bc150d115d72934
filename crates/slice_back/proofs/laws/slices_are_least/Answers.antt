use Rattle.slice_back.proofs.LeastLaws.{rows_least, registers_before, words_taken}
use Rattle.slice_back.proofs.laws.slices_are_least.Goals as goal

pub returns-clause-rows : goal.returns-clause-rows
returns-clause-rows c = rows_least

pub returns-clause-registers : goal.returns-clause-registers
returns-clause-registers c = registers_before

pub returns-clause-words : goal.returns-clause-words
returns-clause-words c = words_taken
