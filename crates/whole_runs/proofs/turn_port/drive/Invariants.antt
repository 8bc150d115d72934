use Rattle.whole_runs.specs.HartTurns.{IsDriven, IsLed, place_at}
use Rattle.whole_runs.proofs.turn_port.drive.Given as goal

abbrev pub invariant-loop : goal.invariant-loop
invariant-loop g l = record {
  driven : IsDriven g.D.TurnPort.tells l.settings l.code l.hart (place_at l.fn.first) (g.D.TurnPort.taken l.port) (place_at l.place);
  led : IsLed g.D.TurnPort.answers l.settings l.code l.hart (place_at l.fn.first) (place_at l.place);
}
