use Rattle.std.proofs.Common.{◌≡◌, ◌≤◌, IsTrue}
use Rattle.race_log.specs.Represents.{harts_of, lasts, next_turn, next_count}
use Rattle.base_tests.proofs.races.sixteen.Given as goal

abbrev pub invariant-loads : goal.invariant-loads
invariant-loads l = record {
  harts : harts_of l.shadow ≡ harts_of l.fn.shadow;
  turns : next_turn l.shadow ≤ l.at;
  counts : next_count l.shadow 0 ≤ l.at;
  lasting : IsTrue (lasts l.shadow 0);
}
