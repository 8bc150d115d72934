use Rattle.race_log.proofs.Common.{◌+◌, ◌∙◌, ap, sym, true, false, slice_get, count_of, latest, write_in, reads_in, found_as}
use Rattle.race_log.proofs.Rounds.{latest-append}
use Rattle.race_log.proofs.SlotLemmas.{reads_not_sources}
use Rattle.race_log.proofs.search.latest_of.Goals as goal

pub returns-then-writes : goal.returns-then-writes
returns-then-writes c = λ counts.
    let here = write_in counts (slice_get c.args.page.now c.args.at) in
    let rest = reads_in counts c.args.page.now (c.args.at + 1) 0 c.args.harts in
    let before = found_as counts c.args.best in
    let wrote = c.if-writes.true in
    rw wrote (c.latest_read.ensures counts
    ∙ (ap (λ best. latest c.args.hart true (count_of c.args.times.now) best rest) (rw wrote at (c.later_write-best.ensures counts))
    ∙ sym (latest-append c.args.hart true (count_of c.args.times.now) before here rest)))

pub returns-else-writes : goal.returns-else-writes
returns-else-writes c = λ counts.
    let here = write_in counts (slice_get c.args.page.now c.args.at) in
    let rest = reads_in counts c.args.page.now (c.args.at + 1) 0 c.args.harts in
    let before = found_as counts c.args.best in
    let read = c.if-writes.false in
    let w = c.later_write-best.ensures counts in
    let none = reads_not_sources c.args.hart (count_of c.args.times.now) counts (latest c.args.hart false (count_of c.args.times.now) before here) c.args.page.now (c.args.at + 1) 0 c.args.harts in
    rw read (rw read at w ∙ (sym none ∙ sym (latest-append c.args.hart false (count_of c.args.times.now) before here rest)))
