-- Small logs and their races, by computation.
use Rattle.race_report.proofs.Common.{◌≡◌, [], ◌∷◌, refl, at_places, leads, any_below, before, race_at, meetings_below}
use Rattle.joint_replay.specs.Examples.{filled_word}
use Rattle.race_report.specs.Examples.{relay, passed_message, early_message, reserved_message, missed_message, races_in, count_in}

pub relay_races : races_in 3 relay ≡ (0, 4, 1, 3, 0x20000) ∷ (0, 4, 2, 5, 0x20000) ∷ (1, 4, 2, 4, 0x20004) ∷ []
unfolding at_places leads any_below before race_at meetings_below
relay_races = refl

pub relay_count : count_in relay ≡ 3
unfolding at_places leads any_below before race_at meetings_below
relay_count = refl

pub passed_races : races_in 2 passed_message ≡ []
unfolding at_places leads any_below before race_at meetings_below
passed_races = refl

pub early_races : races_in 2 early_message ≡ (0, 2, 1, 3, 0x20004) ∷ []
unfolding at_places leads any_below before race_at meetings_below
early_races = refl

pub filled_races : races_in 2 filled_word ≡ (0, 2, 1, 6, 0x20000) ∷ (1, 6, 0, 3, 0x20000) ∷ []
unfolding at_places leads any_below before race_at meetings_below
filled_races = refl

pub reserved_races : races_in 2 reserved_message ≡ []
unfolding at_places leads any_below before race_at meetings_below
reserved_races = refl

pub missed_races : races_in 2 missed_message ≡ (0, 2, 1, 3, 0x20004) ∷ []
unfolding at_places leads any_below before race_at meetings_below
missed_races = refl
