use Rattle.race_log.proofs.Common.{◌+◌, length, slice_get, arith, ap, length-append, read_in, reads_in}
use Rattle.race_log.proofs.SweepLemmas.{read_next}
use Rattle.race_log.proofs.sweep.held_reads.Goals as goal

pub loop-other-preserved : goal.loop-other-preserved
loop-other-preserved c =
    let i = c.loop-other.invariant in
    let n = c.loop-other.other in
    let page = c.args.page.now in
    record {
      held = λ counts.
          let next = ap length (read_next counts page c.args.at n) in
          let parts = length-append (reads_in counts page c.args.at 0 n) (read_in counts n (slice_get page (c.args.at + n))) in
          omega (arith, next, parts, i.held counts, c.held_read-held.ensures.held counts n);
      few = omega (arith, i.few, c.held_read-held.ensures.few);
    }
