use Rattle.race_log.proofs.Common.{◌≡◌, ◌<◌, ◌∙◌, arith, refl, false, length, slice_set, slice_index, length-set, Epoch}
use Rattle.race_log.proofs.EpochLemmas.{settled_full, mark_counts}
use Rattle.race_log.proofs.BoundLemmas.{unmarked, no_marks}
use Rattle.race_log.proofs.epochs.Epochs.unmark.Goals as goal

pub invariant_of-self : goal.invariant_of-self
invariant_of-self c =
    let old = c.loop-place.self in
    let s : Epoch = record { times = c.index_mut.result.now.times; used = false } in
    let full : old.next ≡ length old.table.items = omega (arith, c.loop-place.invariant.next, c.loop-place.invariant.size, c.requires) in
    let size = length-set old.table.items c.loop-place.place s in
    record {
      each_hart = old.each_hart;
      within = omega (arith, size, old.within);
      first = settled_full old.table.items (slice_set old.table.items c.loop-place.place s) old.next 0 full old.first;
      few = omega (arith, size, old.few);
      settled = λ hart. settled_full old.table.items (slice_set old.table.items c.loop-place.place s) old.next (slice_index old.present hart) full (old.settled hart);
    }

pub loop-place-preserved : goal.loop-place-preserved
loop-place-preserved c =
    let old = c.loop-place.self in
    let s : Epoch = record { times = c.index_mut.result.now.times; used = false } in
    let low : c.loop-place.place < length old.table.items = omega (arith, c.loop-place-test.true, c.loop-place.invariant.size, c.args.self.now.table.ok, old.table.ok) in
    record {
      counts = λ i h. mark_counts old.table.items c.loop-place.place c.index_mut.result.now false low c.index_mut.ensures.value i h ∙ c.loop-place.invariant.counts i h;
      present = c.loop-place.invariant.present;
      next = c.loop-place.invariant.next;
      none = λ i most. unmarked old.table.items c.loop-place.place i s most low refl (c.loop-place.invariant.none i);
      size = length-set old.table.items c.loop-place.place s ∙ c.loop-place.invariant.size;
    }

pub returns-clause-none : goal.returns-clause-none
returns-clause-none c =
    let now = c.loop-place.self in
    no_marks now.table.items (λ i low. c.loop-place.invariant.none i (omega (arith, low, c.loop-place-test.false, c.loop-place.auto.place-end, c.loop-place.invariant.size, now.table.ok, c.args.self.now.table.ok)))
