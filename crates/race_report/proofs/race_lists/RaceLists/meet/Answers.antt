use Rattle.std.proofs.Common.{◌≡◌, ap, arith, length}
use Rattle.race_report.proofs.Lists.{lists_length, list_at, lists_set, total_set, set_length, grown_by, not_grown}
use Rattle.race_report.proofs.race_lists.RaceLists.meet.Goals as goal

pub index_mut-requires : goal.index_mut-requires
index_mut-requires c = omega (arith, c.requires, c.args.self.now.lists.ok, lists_length c.args.self.now.lists.items)

pub invariant_of-self : goal.invariant_of-self
invariant_of-self c =
    let vs = c.args.self.now.lists.items in
    let u = c.index_mut.result.now in
    let v = c.meet_in.new.list in
    let sum = total_set c.args.first vs u v (list_at vs c.args.first u c.requires c.index_mut.ensures.value) in
    let same : length v.items ≡ length u.items = ap length c.in_err-meet_in.ensures.err in
    record { counted = omega (arith, sum, same, c.args.self.now.counted) }

pub returns-in_err-meet_in-clause-same : goal.returns-in_err-meet_in-clause-same
returns-in_err-meet_in-clause-same c = set_length c.args.self.now.lists.items c.args.first c.meet_in.new.list

pub invariant_of-self-then-branch : goal.invariant_of-self-then-branch
invariant_of-self-then-branch c =
    let vs = c.args.self.now.lists.items in
    let u = c.index_mut.result.now in
    let v = c.meet_in.new.list in
    let sum = total_set c.args.first vs u v (list_at vs c.args.first u c.requires c.index_mut.ensures.value) in
    record { counted = omega (arith, sum, grown_by _ _ _ c.in_ok-meet_in.ensures.grown c.if-branch.true, c.in-Some.ensures, c.args.self.now.counted) }

pub invariant_of-self-else-branch : goal.invariant_of-self-else-branch
invariant_of-self-else-branch c =
    let vs = c.args.self.now.lists.items in
    let u = c.index_mut.result.now in
    let v = c.meet_in.new.list in
    let sum = total_set c.args.first vs u v (list_at vs c.args.first u c.requires c.index_mut.ensures.value) in
    record { counted = omega (arith, sum, not_grown _ _ _ c.in_ok-meet_in.ensures.grown c.if-branch.false, c.args.self.now.counted) }

pub returns-then-branch-clause-same : goal.returns-then-branch-clause-same
returns-then-branch-clause-same c = set_length c.args.self.now.lists.items c.args.first c.meet_in.new.list

pub returns-else-branch-clause-same : goal.returns-else-branch-clause-same
returns-else-branch-clause-same c = set_length c.args.self.now.lists.items c.args.first c.meet_in.new.list

pub returns-then-branch-clause-met : goal.returns-then-branch-clause-met
returns-then-branch-clause-met c =
    let vs = c.args.self.now.lists.items in
    lists_set c.args.second c.args.word c.args.first vs c.index_mut.result.now c.meet_in.new.list (list_at vs c.args.first c.index_mut.result.now c.requires c.index_mut.ensures.value) c.in_ok-meet_in.ensures.met

pub returns-else-branch-clause-met : goal.returns-else-branch-clause-met
returns-else-branch-clause-met c =
    let vs = c.args.self.now.lists.items in
    lists_set c.args.second c.args.word c.args.first vs c.index_mut.result.now c.meet_in.new.list (list_at vs c.args.first c.index_mut.result.now c.requires c.index_mut.ensures.value) c.in_ok-meet_in.ensures.met
