use Rattle.std.proofs.Common.{◌≡◌, ℕ, length, ap, ◌∙◌, replicate, arith}
use Rattle.log_record.specs.declared.head.Head.{Head}
use Rattle.joint_replay.proofs.Beginning.{is_together}
use Rattle.joint_replay.proofs.MetSources.{none_met}
use Rattle.joint_replay.proofs.joint.Joint.begin.Goals as goal

pub invariant_of-result : goal.invariant_of-result
invariant_of-result c =
    let count : c.len.result ≡ length c.in-Ok.lanes.items = omega (arith, c.len.ensures, c.in-Ok.lanes.ok) in (
      is_together c.args.image.now c.args.log.now c.harts.result c.in-Ok.lanes.items c.new.result.words c.in-Ok.ensures (c.harts.ensures.value ∙ ap (λ (h : Head). h.settings.harts) c.head.ensures.value) c.new.ensures,
      none_met c.args.log.now.records c.in-Ok.lanes.items c.in-Ok-none_met.met.items (c.in-Ok-none_met.ensures ∙ ap (λ (n : ℕ). replicate {A = ℕ} n 0) count),
    )
