-- Small recordings, replayed.
use Rattle.replay_laws.proofs.Common.{◌≡◌, [], ◌∷◌, map, Some, None, refl, at_places, leads, any_below, before, edge, greatest_first, edges_into, Done, Refused, replayed, NoInterval, LoadMissing, ScMissing, RecordsLeft, EndDiffers, FirstLoad, serve, mark}
use Rattle.le_numbers.specs.Numbers.{number_bytes}
use Rattle.log_ring.specs.Kept.{kept}
use Rattle.run_model.specs.Examples.{recorded, program_of, first_header, end, an_exit, two_loads_of_a_word, a_conditional_store, a_fault, a_filled_word, a_guarded_load, a_late_fault, a_late_fault_unguarded, row_of_a_fault}
use Rattle.replay_laws.specs.Examples.{replay_of, a_short_log, without, another_exit}

pub a_fault_is_replayed : replay_of a_fault 0 0 ≡ record { rows = row_of_a_fault ∷ []; outcome = Done }
unfolding serve kept number_bytes
a_fault_is_replayed = refl

pub a_filled_word_is_loaded_again : map (λ r. r.load) (replay_of a_filled_word 0 0).rows ≡ None ∷ None ∷ Some (0x20000, 0) ∷ Some (0x20000, 2054781047) ∷ None ∷ None ∷ []
unfolding serve kept number_bytes at_places leads any_below before edge greatest_first edges_into
a_filled_word_is_loaded_again = refl

pub the_last_interval_is_replayed : map (λ r. r.ic) (replay_of a_short_log 0 1).rows ≡ 3 ∷ 4 ∷ []
unfolding serve kept number_bytes
the_last_interval_is_replayed = refl

pub the_first_interval_is_gone : replay_of a_short_log 0 0 ≡ record { rows = []; outcome = Refused (NoInterval 0 0) }
unfolding serve kept number_bytes
the_first_interval_is_gone = refl

pub a_guarded_load_has_its_rows : map (λ r. r.ic) (replay_of a_guarded_load 0 1).rows ≡ 10 ∷ 11 ∷ []
unfolding serve kept at_places leads any_below before edge greatest_first edges_into number_bytes
a_guarded_load_has_its_rows = refl

pub a_guarded_load_is_done : (replay_of a_guarded_load 0 1).outcome ≡ Done
unfolding serve kept at_places leads any_below before edge greatest_first edges_into number_bytes
a_guarded_load_is_done = refl

pub the_interval_before_is_gone : replay_of a_guarded_load 0 0 ≡ record { rows = []; outcome = Refused (NoInterval 0 0) }
unfolding serve kept at_places leads any_below before edge greatest_first edges_into number_bytes
the_interval_before_is_gone = refl

pub a_late_fault_has_its_row : map (λ r. r.ic) (replay_of a_late_fault 1 1).rows ≡ 2 ∷ []
unfolding serve kept at_places leads any_below before edge greatest_first edges_into number_bytes
a_late_fault_has_its_row = refl

pub a_late_fault_is_done : (replay_of a_late_fault 1 1).outcome ≡ Done
unfolding serve kept at_places leads any_below before edge greatest_first edges_into number_bytes
a_late_fault_is_done = refl

pub a_late_fault_is_lost : replay_of a_late_fault_unguarded 1 0 ≡ record { rows = []; outcome = Refused (NoInterval 1 0) }
unfolding serve kept at_places leads any_below before edge greatest_first edges_into number_bytes
a_late_fault_is_lost = refl

pub a_load_is_missing : (replayed (program_of two_loads_of_a_word) (without 2 two_loads_of_a_word) 0 0).outcome ≡ Refused (LoadMissing 0 1 0x20000)
unfolding serve at_places leads any_below before edge greatest_first edges_into
a_load_is_missing = refl

pub a_conditional_is_missing : (replayed (program_of a_conditional_store) (without 3 a_conditional_store) 0 0).outcome ≡ Refused (ScMissing 0 2)
unfolding serve at_places leads any_below before edge greatest_first edges_into
a_conditional_is_missing = refl

pub a_record_is_left : (replayed (program_of an_exit) (first_header an_exit 0 ∷ FirstLoad 0 0 7 ∷ end 0 3 3 5 ∷ []) 0 0).outcome ≡ Refused (RecordsLeft 0 1)
a_record_is_left = refl

pub an_end_differs : (replayed (program_of another_exit) (recorded an_exit).stream 0 0).outcome ≡ Refused (EndDiffers 0 (mark 3 3 5) (mark 3 3 6))
unfolding serve at_places leads any_below before edge greatest_first edges_into
an_end_differs = refl
