use Rattle.race_log.proofs.Common.{◌∙◌, sym, ap, ◌++◌, ◌≡◌, ◌-◌, ℕ, arith, append_assoc, append-nil, length-append, length, count_of, gathered, merged, kept_by, kept_in, epoch_counts}
use Rattle.race_log.proofs.Rounds.{sources_step, counts_step, sources_done, counts_done, sources_zero, counts_zero}
use Rattle.race_log.proofs.search.find_sources.Goals as goal

pub loop-round-preserved : goal.loop-round-preserved
loop-round-preserved c =
    let kept = gathered (kept_in c.args.words.now) c.args.first c.args.count in
    let p = c.push.ensures in
    let k = kept_by (epoch_counts c.args.words.now.epochs) c.in-Some.k.mode c.in-Some.k.hart c.in-Some.k.turn c.in-Some.k.after c.in-Some.k.epoch in
    let merges : (h : ℕ) → count_of c.merge_after.new.times h ≡ merged (count_of c.loop-round.times) k.times h =
    c.merge_after.ensures in
    let s = sources_step c.args.hart c.args.writes (count_of c.loop-round.times) kept c.args.most c.loop-round.round k
    (count_of c.merge_after.new.times) c.loop-round-test.true (sym c.in-Some.ensures) merges in
    let t = counts_step c.args.hart c.args.writes (count_of c.loop-round.times) kept c.args.most c.loop-round.round k
    (count_of c.merge_after.new.times) c.loop-round-test.true (sym c.in-Some.ensures) merges in
    record {
      none = λ e. absurd (omega (arith, e, simp length-append at (ap length p)));
      few = omega (arith, c.loop-round.invariant.few, simp length-append at (ap length p));
      found = rw (p, append_assoc) (ap (λ xs. c.loop-round.edges ++ xs) (sym s) ∙ c.loop-round.invariant.found);
      counts = sym t ∙ c.loop-round.invariant.counts;
    }

pub returns-after-loop-round-clause-sources : goal.returns-after-loop-round-clause-sources
returns-after-loop-round-clause-sources c =
    let kept = gathered (kept_in c.args.words.now) c.args.first c.args.count in
    let none : c.args.most - c.loop-round.round ≡ 0 = omega (arith, c.loop-round-test.false) in
    let s = rw (none, sources_zero c.args.hart c.args.writes (count_of c.loop-round.times) kept) at c.loop-round.invariant.found in
    sym (append-nil c.loop-round.edges) ∙ s

pub returns-after-loop-round-clause-counts : goal.returns-after-loop-round-clause-counts
returns-after-loop-round-clause-counts c =
    let kept = gathered (kept_in c.args.words.now) c.args.first c.args.count in
    let none : c.args.most - c.loop-round.round ≡ 0 = omega (arith, c.loop-round-test.false) in
    let s = rw (none, counts_zero c.args.hart c.args.writes (count_of c.loop-round.times) kept) at c.loop-round.invariant.counts in
    λ h. ap (λ (f : ℕ → ℕ). f h) s

pub returns-in-None-clause-sources : goal.returns-in-None-clause-sources
returns-in-None-clause-sources c =
    let kept = gathered (kept_in c.args.words.now) c.args.first c.args.count in
    let s = rw (sources_done c.args.hart c.args.writes (count_of c.loop-round.times) kept (c.args.most - c.loop-round.round) (sym c.in-None.ensures))
    at c.loop-round.invariant.found in
    sym (append-nil c.loop-round.edges) ∙ s

pub returns-in-None-clause-counts : goal.returns-in-None-clause-counts
returns-in-None-clause-counts c =
    let kept = gathered (kept_in c.args.words.now) c.args.first c.args.count in
    let s = rw (counts_done c.args.hart c.args.writes (count_of c.loop-round.times) kept (c.args.most - c.loop-round.round) (sym c.in-None.ensures))
    at c.loop-round.invariant.counts in
    λ h. ap (λ (f : ℕ → ℕ). f h) s
