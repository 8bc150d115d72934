use Rattle.race_report.proofs.Common.{ℕ, Joining, steps_left, IsOnTheWay}
use Rattle.race_report.proofs.reporting.gather_all.Given as goal

-- all points so far are taken in, from wherever the way began
abbrev pub invariant-steps : goal.invariant-steps
invariant-steps l = record {
  there : (harts : ℕ) × (first : Joining) × IsOnTheWay harts l.fn.most first l.joint l.gathered;
  on : (harts : ℕ) (first : Joining) → IsOnTheWay harts l.fn.most first l.fn.joint l.fn.gathered → IsOnTheWay harts l.fn.most first l.joint l.gathered;
}

-- the steps that are left
abbrev pub decreases-steps : goal.decreases-steps
decreases-steps l = steps_left l.joint.lanes
