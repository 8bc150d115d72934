use Rattle.std.proofs.Common.{arith, slice_index, vec_len}
use Rattle.race_log.proofs.EpochLemmas.{settled_full, push_counts, push_between}
use Rattle.race_log.proofs.BoundLemmas.{push_grows}
use Rattle.race_log.proofs.epochs.Epochs.grow.Goals as goal

pub invariant_of-self : goal.invariant_of-self
invariant_of-self c =
    let old = c.args.self.now in
    let news = c.push.new.self.items in
    let size = push_between _ (vec_len old.table) (vec_len c.push.new.self) c.push.ensures.len in
    record {
      each_hart = old.each_hart;
      within = omega (arith, size.0, old.within, old.table.ok, c.push.new.self.ok);
      first = settled_full old.table.items news old.next 0 c.requires old.first;
      few = omega (arith, size.1, c.if-len.false, old.table.ok, c.push.new.self.ok);
      settled = λ hart. settled_full old.table.items news old.next (slice_index old.present hart) c.requires (old.settled hart);
    }

pub returns-in_err-push-clause-counts : goal.returns-in_err-push-clause-counts
returns-in_err-push-clause-counts c = λ i h. push_counts _ c.args.self.now.table.items c.push.new.self.items _ c.new.ensures c.push.ensures.items i h

pub returns-in_err-push-clause-settled : goal.returns-in_err-push-clause-settled
returns-in_err-push-clause-settled c = λ i settled. settled_full c.args.self.now.table.items c.push.new.self.items c.args.self.now.next i c.requires settled

pub returns-clause-counts : goal.returns-clause-counts
returns-clause-counts c = λ i h. push_counts _ c.args.self.now.table.items c.push.new.self.items _ c.new.ensures c.push.ensures.items i h

pub returns-clause-settled : goal.returns-clause-settled
returns-clause-settled c = λ i settled. settled_full c.args.self.now.table.items c.push.new.self.items c.args.self.now.next i c.requires settled

pub returns-in_err-push-clause-grows : goal.returns-in_err-push-clause-grows
returns-in_err-push-clause-grows c = push_grows _ c.args.self.now.table.items c.push.new.self.items _ c.push.ensures.items

pub returns-clause-grows : goal.returns-clause-grows
returns-clause-grows c = push_grows _ c.args.self.now.table.items c.push.new.self.items _ c.push.ensures.items
