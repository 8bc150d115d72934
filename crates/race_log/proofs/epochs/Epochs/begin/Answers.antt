use Rattle.race_log.proofs.Common.{◌∙◌, arith, ap, slice_get, slice_set, length-set, get_or-set_same, Epoch, counts_of}
use Rattle.race_log.proofs.PageLemmas.{get_here, get_there}
use Rattle.race_log.proofs.EpochLemmas.{is_free, begin_low, settled_apart, settled_begin, settled_now_begin}
use Rattle.race_log.proofs.epochs.Epochs.begin.Goals as goal

pub invariant_of-self : goal.invariant_of-self
invariant_of-self c =
    let old = c.args.self.now in
    let table = old.table.items in
    let s : Epoch = record { times = c.args.times.now; used = c.index_mut.result.now.used } in
    let low = begin_low table old.next c.requires.room in
    let size = length-set table old.next s in
    record {
      each_hart = length-set old.present c.args.hart old.next ∙ old.each_hart;
      within = omega (arith, low, size);
      first = settled_begin table old.next 0 s old.first;
      few = omega (arith, size, old.few);
      settled = settled_now_begin table old.next old.present c.args.hart s (omega (arith, c.requires.hart, old.each_hart)) old.settled;
    }

pub returns-clause-counts : goal.returns-clause-counts
returns-clause-counts c = λ i settled h.
    let old = c.args.self.now in
    let s : Epoch = record { times = c.args.times.now; used = c.index_mut.result.now.used } in
    ap (λ o. counts_of o h) (get_there old.table.items old.next i s (settled_apart old.table.items old.next i settled (is_free old.table.items old.next c.requires.room)))

pub returns-clause-settled : goal.returns-clause-settled
returns-clause-settled c = λ i settled.
    settled_begin c.args.self.now.table.items c.args.self.now.next i (record { times = c.args.times.now; used = c.index_mut.result.now.used }) settled

pub returns-clause-present : goal.returns-clause-present
returns-clause-present c = λ h.
    let old = c.args.self.now in
    let s : Epoch = record { times = c.args.times.now; used = c.index_mut.result.now.used } in
    ap (λ i. counts_of (slice_get (slice_set old.table.items old.next s) i) h)
    (get_or-set_same old.present c.args.hart old.next 0 (omega (arith, c.requires.hart, old.each_hart)))
    ∙ ap (λ o. counts_of o h) (get_here old.table.items old.next s (begin_low old.table.items old.next c.requires.room))
