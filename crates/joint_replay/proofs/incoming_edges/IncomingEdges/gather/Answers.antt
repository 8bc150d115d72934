use Rattle.joint_replay.proofs.Common.{◌≡◌, subst, sym, ap, ◌∙◌, ℕ, ◌≤◌, edges_into, AscendFrom}
use Rattle.joint_replay.proofs.Ascents.{log_edges_ascend, all_gathered, none_left}
use Rattle.joint_replay.proofs.incoming_edges.IncomingEdges.gather.Goals as goal

pub invariant_of-result : goal.invariant_of-result
invariant_of-result c =
    let same : c.records-records.result.now ≡ c.args.log.now.records = c.records-records.ensures.value in
    let is : c.loop-place.edges.items ≡ edges_into c.args.hart c.args.log.now.records =
    all_gathered c.args.hart (edges_into c.args.hart c.args.log.now.records) c.loop-place.edges.items _ (none_left c.args.hart c.loop-place.place c.records-records.result.now (subst (λ (n : ℕ). n ≤ c.loop-place.place) c.len-place-end.ensures.value c.loop-place-test.false)) (c.loop-place.invariant ∙ ap (edges_into c.args.hart) same) in
    (is, subst (AscendFrom 0) (sym is) (log_edges_ascend c.edges_ascend.ensures c.args.log.now.head.settings c.args.log.now.dropped c.args.log.now.records c.records-records.ensures.whole.order c.args.hart c.requires))
