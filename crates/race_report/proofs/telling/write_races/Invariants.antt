use Rattle.race_report.proofs.Common.{◌≡◌, ◌++◌, drop, flat_map}
use Rattle.race_report.specs.Texts.{race_text}
use Rattle.race_report.proofs.telling.write_races.Given as goal

abbrev pub invariant-loop-race : goal.invariant-loop-race
invariant-loop-race l = l.text ++ flat_map race_text (drop l.race-index l.races) ≡ l.fn.text ++ flat_map race_text l.races
