use Rattle.run_model.proofs.Common.{◌≡◌, ◌≤◌, ◌-◌, true, Run, IsOnWay, IsUnguarded, HasTurned, hart_in, IsRun, parts, is_live}
use Rattle.run_model.proofs.plain.Plain.turns_on.Given as goal

abbrev pub invariant-turns : goal.invariant-turns
invariant-turns l = record {
  start : l.self.start ≡ l.initial.self.start;
  live : is_live (parts l.self) 0 ≡ true;
  more : l.initial.self.turns ≤ l.self.turns;
  below : l.self.turns ≤ l.last;
  turned : (run : Run) → IsRun (parts l.initial.self) run → HasTurned (parts l.initial.self) (parts l.self) run (l.self.turns - l.initial.self.turns);
  program : l.walk.program ≡ l.self.start.image;
  way : IsOnWay l.self.start.settings (hart_in l.self.trace.harts.items 0) l.walk l.end;
  limit : IsUnguarded l.self.start.settings (hart_in l.self.trace.harts.items 0).headed l.limit;
}

abbrev pub decreases-turns : goal.decreases-turns
decreases-turns l = l.last - l.self.turns
