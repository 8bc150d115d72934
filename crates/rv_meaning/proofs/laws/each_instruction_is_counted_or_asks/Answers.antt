use Rattle.rv_meaning.proofs.Common.{subst, Step}
use Rattle.rv_meaning.proofs.Orderly.{IsSound, step_sound}
use Rattle.rv_meaning.proofs.laws.each_instruction_is_counted_or_asks.Goals as goal

pub returns-clause-counted : goal.returns-clause-counted
returns-clause-counted c i s t e = subst (λ (x : Step). IsSound i s x) e (step_sound i s)

pub returns-clause-asks : goal.returns-clause-asks
returns-clause-asks c i s w e = subst (λ (x : Step). IsSound i s x) e (step_sound i s)
