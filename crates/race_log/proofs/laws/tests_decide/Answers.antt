use Rattle.race_log.proofs.Agree.{writes_is, is_writes, conflict_is, is_conflict_at, order_is, is_order, clash_is, is_clash}
use Rattle.race_log.proofs.EdgeLaws.{before_is, is_before, edge_is, is_edge}
use Rattle.race_log.proofs.laws.tests_decide.Goals as goal

pub returns-clause-writes : goal.returns-clause-writes
returns-clause-writes c = λ word p. (writes_is word p, is_writes word p)

pub returns-clause-points : goal.returns-clause-points
returns-clause-points c = λ p q. (conflict_is p q, is_conflict_at p q)

pub returns-clause-program : goal.returns-clause-program
returns-clause-program c = λ run m n. (order_is run m n, is_order run m n)

pub returns-clause-conflict : goal.returns-clause-conflict
returns-clause-conflict c = λ run m n. (clash_is run m n, is_clash run m n)

pub returns-clause-before : goal.returns-clause-before
returns-clause-before c = λ run m n. (before_is run m n, is_before run m n)

pub returns-clause-edge : goal.returns-clause-edge
returns-clause-edge c = λ run m n. (edge_is run m n, is_edge run m n)
