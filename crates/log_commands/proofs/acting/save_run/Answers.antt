use Rattle.log_commands.proofs.Common.{SavesAll, ap, option_map, not, is_some, ℕ, Option}
use Rattle.std.specs.declared.vec.Vec.{Vec}
use Rattle.std.specs.declared.alloc.Global.{Global}
use Rattle.log_commands.proofs.Answering.{passed-on}
use Rattle.log_commands.proofs.Kept.{log-refused, log-kept, list-kept}
use Rattle.log_commands.proofs.acting.save_run.Goals as goal

pub returns-in_err-save_file : goal.returns-in_err-save_file
returns-in_err-save_file g c = passed-on (SavesAll _ _ _ _ _ _) _ _ c.from_residual.ensures.1 (log-refused _ _ _ _ _ _ _ (rw c.deref.ensures.value at c.in_err-save_file.ensures))

pub returns-in-None : goal.returns-in-None
returns-in-None g c = log-kept _ _ _ _ _ _
    (ap (λ (o : Option (Vec ℕ Global)). option_map (λ (l : Vec ℕ Global). l.items) o) c.in-None.is) (ap (λ (o : Option (Vec ℕ Global)). not (is_some o)) c.in-None.is)
    (rw c.deref.ensures.value at c.in_ok-save_file.ensures)

pub returns-in-Some : goal.returns-in-Some
returns-in-Some g c = list-kept _ _ _ c.in-Some.list.items _ _ _ _ _
    (ap (λ (o : Option (Vec ℕ Global)). option_map (λ (l : Vec ℕ Global). l.items) o) c.in-Some.is) (ap (λ (o : Option (Vec ℕ Global)). not (is_some o)) c.in-Some.is)
    (rw c.deref.ensures.value at c.in_ok-save_file.ensures) (rw c.deref-in-Some.ensures.value at c.save_file-in-Some.ensures)
