use Rattle.race_log.proofs.Common.{◌∙◌, ◌&&◌, ◌||◌, not, nat_lt, ℕ, sym, ap, ap₂, count_of, has_bit, times_of}
use Rattle.race_log.proofs.AccessLemmas.{read_times}
use Rattle.race_log.proofs.Swept.{below_next, below_none}
use Rattle.race_log.proofs.shadow.Shadow.known_to_all.Goals as goal

pub loop-hart-init : goal.loop-hart-init
loop-hart-init c = record { known = λ hart count. sym (below_none _) }

pub loop-hart-preserved : goal.loop-hart-preserved
loop-hart-preserved c =
    let s = c.args.self.now in
    let k = c.loop-hart.hart in
    let read = read_times s k c.index.result.now c.loop-hart-test.true c.index.ensures in
    record {
      known = λ hart count. c.least_with-least.ensures hart count
          ∙ (ap₂ (λ a b. a && b) (c.loop-hart.invariant.known hart count)
          (ap (λ b. not b || nat_lt count (count_of c.index.result.now hart)) c.has_bit.ensures
          ∙ ap (λ (f : ℕ → ℕ). not (has_bit c.args.live k) || nat_lt count (f hart)) (sym read))
          ∙ sym (below_next (λ g. not (has_bit c.args.live g) || nat_lt count (times_of s g hart)) k));
    }
