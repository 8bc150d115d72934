use Rattle.std.proofs.Common.{◌∙◌, arith, drop, length-drop, ap}
use Rattle.std.proofs.lemmas.List.{take_all}
use Rattle.bn_base.proofs.registers.Registers.others.Goals as goal

pub returns-clause-value : goal.returns-clause-value
returns-clause-value c = let t = c.self.told in take_all 31 (drop 1 c.self.inside.contents) (simp length-drop (omega arith)) ∙ ap (drop 1) c.self.view_is
