use Rattle.race_log.proofs.Common.{◌<◌, refl, arith, true, length, slice_set, slice_index, length-set, Epoch}
use Rattle.race_log.proofs.EpochLemmas.{settled_full, mark_counts, mark_here, mark_stays}
use Rattle.race_log.proofs.BoundLemmas.{marks_set}
use Rattle.race_log.proofs.epochs.Epochs.mark.Goals as goal

pub invariant_of-self : goal.invariant_of-self
invariant_of-self c =
    let old = c.args.self.now in
    let s : Epoch = record { times = c.index_mut.result.now.times; used = true } in
    let size = length-set old.table.items c.args.epoch s in
    record {
      each_hart = old.each_hart;
      within = omega (arith, size, old.within);
      first = settled_full old.table.items (slice_set old.table.items c.args.epoch s) old.next 0 c.requires.full old.first;
      few = omega (arith, size, old.few);
      settled = λ hart. settled_full old.table.items (slice_set old.table.items c.args.epoch s) old.next (slice_index old.present hart) c.requires.full (old.settled hart);
    }

pub returns-then-epoch-len-clause-counts : goal.returns-then-epoch-len-clause-counts
returns-then-epoch-len-clause-counts c = λ i h.
    let table = c.args.self.now.table.items in
    let low : c.args.epoch < length table = omega (arith, c.if-epoch-len.true, c.args.self.now.table.ok) in
    mark_counts table c.args.epoch c.index_mut.result.now true low c.index_mut.ensures.value i h

pub returns-then-epoch-len-clause-marks : goal.returns-then-epoch-len-clause-marks
returns-then-epoch-len-clause-marks c = λ i t.
    let table = c.args.self.now.table.items in
    let s : Epoch = record { times = c.index_mut.result.now.times; used = true } in
    let low : c.args.epoch < length table = omega (arith, c.if-epoch-len.true, c.args.self.now.table.ok) in
    mark_stays table c.args.epoch i s low refl t

pub returns-then-epoch-len-clause-marked : goal.returns-then-epoch-len-clause-marked
returns-then-epoch-len-clause-marked c = λ low.
    let s : Epoch = record { times = c.index_mut.result.now.times; used = true } in
    mark_here c.args.self.now.table.items c.args.epoch s low refl

pub returns-then-epoch-len-clause-few : goal.returns-then-epoch-len-clause-few
returns-then-epoch-len-clause-few c =
    let s : Epoch = record { times = c.index_mut.result.now.times; used = true } in
    marks_set c.args.self.now.table.items c.args.epoch s
