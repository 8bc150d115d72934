use Rattle.rv_meaning.proofs.Common.{◌≡◌, ◌≤◌, ◌+◌, ◌-◌, ◌^◌, ℕ, min, length, None, Program, LeadsTo, IsAhead, pc_of}
use Rattle.rv_meaning.proofs.ahead.run_quiet.Given as goal

-- what was done was quiet, and no op stopped it
abbrev pub invariant-quiet : goal.invariant-quiet
invariant-quiet l = record {
  none : l.found ≡ None;
  end : l.here ≤ l.over;
  few : l.over ≤ l.here + 2 ^ 62;
  low : l.over ≤ 2 ^ 62 + 2 ^ 30;
  stop : l.past ≡ min l.over (length l.ops);
  left : l.over - l.here ≤ l.fn.end - l.fn.place;
  runs : (i : Program) (more : ℕ) → IsAhead i l.first l.ops → LeadsTo i (l.fn.end - l.fn.place + more) (pc_of l.first l.fn.place) l.fn.x (l.over - l.here + more) (pc_of l.first l.here) l.x;
}

abbrev pub decreases-quiet : goal.decreases-quiet
decreases-quiet l = l.over - l.here
