use Rattle.std.proofs.Common.{arith}
use Rattle.race_log.proofs.SizeLemmas.{not_all_used}
use Rattle.race_log.proofs.words.KeptWords.look_through.Goals.{else-is_full-via-then-is_full+else-len-self, else-is_full-via-else-is_full}
use Rattle.race_log.proofs.words.KeptWords.look_through.Goals as goal

pub returns-else-is_full-clause-growth : goal.returns-else-is_full-clause-growth
returns-else-is_full-clause-growth c = λ all. elim c.else-is_full.branch [
  | else-is_full-via-then-is_full+else-len-self w ↦ omega (arith, w.if-len-self.false, w.len.ensures, c.is_full.new.self.table.ok)
  | else-is_full-via-else-is_full w ↦ absurd (not_all_used c.is_full.new.self (c.is_full.ensures.left w.if-is_full.false) all)
]
