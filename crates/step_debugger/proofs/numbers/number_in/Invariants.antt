use Rattle.step_debugger.proofs.Common.{◌≡◌, ◌<◌, ◌^◌, drop, number_in}
use Rattle.step_debugger.proofs.Digits.{more}
use Rattle.step_debugger.proofs.numbers.number_in.Given as goal

abbrev pub invariant-loop-place : goal.invariant-loop-place
invariant-loop-place l = record {
  spells : more l.base l.number (drop l.place l.text) ≡ number_in l.base l.text;
  small : l.number < 16 ^ l.place;
}
