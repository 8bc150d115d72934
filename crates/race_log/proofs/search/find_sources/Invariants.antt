use Rattle.race_log.proofs.Common.{◌≡◌, ◌≤◌, ◌-◌, ◌++◌, ℕ, length, count_of, sources, counts_after, gathered, kept_in}
use Rattle.race_log.proofs.search.find_sources.Given as goal

abbrev pub invariant-loop-round : goal.invariant-loop-round
invariant-loop-round l =
    let kept = gathered (kept_in l.words) l.first l.count in record {
      none : length l.edges ≡ 0 → (h : ℕ) → count_of l.times h ≡ count_of l.initial.times h;
      few : length l.edges ≤ l.round;
      found : l.edges ++ sources l.hart l.writes (l.most - l.round) (count_of l.times) kept
          ≡ sources l.hart l.writes l.most (count_of l.initial.times) kept;
      counts : counts_after l.hart l.writes (l.most - l.round) (count_of l.times) kept
          ≡ counts_after l.hart l.writes l.most (count_of l.initial.times) kept;
    }
