-- The examples, by computation.
use Rattle.report_laws.proofs.Common.{◌≡◌, [], ◌∷◌, refl, race_at, meetings_below, recorded_points}
use Rattle.le_numbers.specs.Numbers.{number_bytes}
use Rattle.race_log.specs.Tests.{at_places, leads, any_below, before, edge, greatest_first, edges_into}
use Rattle.run_model.specs.Examples.{a_relay, a_line_lost}
use Rattle.run_model.specs.Turn.{serve}
use Rattle.joint_laws.specs.Examples.{a_short_relay}
use Rattle.report_laws.specs.Examples.{recorded_names, replayed_names, recorded_races}

pub relay_names : recorded_names 0 a_relay ≡ (0, 4) ∷ (1, 3) ∷ (1, 4) ∷ (2, 4) ∷ (2, 5) ∷ []
unfolding serve at_places leads any_below before edge greatest_first edges_into number_bytes recorded_points
relay_names = refl

pub relay_races : recorded_races 0 a_relay ≡ (0, 4, 1, 3, 0x20000) ∷ (0, 4, 2, 5, 0x20000) ∷ (1, 4, 2, 4, 0x20004) ∷ []
unfolding serve at_places leads any_below before edge greatest_first edges_into number_bytes recorded_points race_at meetings_below
relay_races = refl

pub late_names : recorded_names 4 a_short_relay ≡ (0, 4) ∷ (1, 4) ∷ (2, 4) ∷ []
unfolding serve at_places leads any_below before edge greatest_first edges_into number_bytes recorded_points
late_names = refl

pub late_races : recorded_races 4 a_short_relay ≡ (1, 4, 2, 4, 0x20004) ∷ []
unfolding serve at_places leads any_below before edge greatest_first edges_into number_bytes recorded_points race_at meetings_below
late_races = refl

pub line_names : recorded_names 0 a_line_lost ≡ (0, 2) ∷ (1, 2) ∷ (0, 3) ∷ []
unfolding serve at_places leads any_below before edge greatest_first edges_into number_bytes recorded_points
line_names = refl

pub line_replayed : replayed_names 0 a_line_lost ≡ (0, 2) ∷ (0, 3) ∷ (1, 2) ∷ []
unfolding serve at_places leads any_below before edge greatest_first edges_into number_bytes
line_replayed = refl

-- what a relay shows
pub ruleset relay = (relay_names, relay_races, late_names, late_races)
