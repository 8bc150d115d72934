use Rattle.whole_runs.proofs.Common.{◌≡◌, ◌-◌, replicate, most_turns, HasTaken}
use Rattle.whole_runs.proofs.turns.finish_lone.Given as goal

abbrev pub invariant-taking : goal.invariant-taking
invariant-taking g l = record {
  began : l.now.began ≡ l.fn.bus.began;
  taken : HasTaken g.B.Book.tells l.now (replicate l.now.turns 0);
}

abbrev pub decreases-taking : goal.decreases-taking
decreases-taking g l = most_turns l.now.began.settings - l.now.turns
