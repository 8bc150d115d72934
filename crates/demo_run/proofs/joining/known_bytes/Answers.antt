use Rattle.std.proofs.Common.{List, ℕ, sym, subst}
use Rattle.demo_run.proofs.Joins.{Lists, lists-none}
use Rattle.demo_run.proofs.joining.known_bytes.Goals as goal

pub words-init : goal.words-init
words-init c = subst (λ (t : List ℕ). Lists c.args.joint.now.memory 0 t) (sym c.new-bytes.ensures.items) (lists-none c.args.joint.now.memory)
