-- The races of small recordings, worked out by hand.
use Rattle.race_laws.proofs.Common.{◌≡◌, ◌∷◌, [], true, false, refl, Edge, at_places, leads, any_below, before, edge, greatest_first, edges_into, edges_of_first, conflict, serve, edges_in, netzer_records}
use Rattle.le_numbers.specs.Numbers.{number_bytes}
use Rattle.log_ring.specs.Kept.{kept}
use Rattle.run_model.specs.Examples.{recorded, a_relay}
use Rattle.run_laws.specs.Examples.{a_relay_of_intervals}
use Rattle.race_laws.specs.Examples.{names, headers_in, kept_of_size}

pub relay_names : names a_relay ≡ (0, 4) ∷ (1, 3) ∷ (1, 4) ∷ (2, 4) ∷ (2, 5) ∷ []
unfolding serve
relay_names = refl

pub relay_edges : netzer_records (recorded a_relay).points ≡ Edge 1 3 0 4 ∷ Edge 2 4 1 4 ∷ []
unfolding serve at_places leads any_below before edge greatest_first edges_into edges_of_first
relay_edges = refl

pub relay_conflict : conflict (recorded a_relay).points 0 4 ≡ true
unfolding serve at_places
relay_conflict = refl

pub relay_no_edge : edge (recorded a_relay).points 0 4 ≡ false
unfolding serve at_places leads any_below before edge
relay_no_edge = refl

pub kept_headers : headers_in (kept_of_size 581 a_relay_of_intervals) ≡ (0, 1, 4) ∷ (2, 1, 4) ∷ (1, 1, 4) ∷ []
unfolding serve at_places leads any_below before edge greatest_first edges_into number_bytes kept
kept_headers = refl

pub kept_edges : edges_in (kept_of_size 581 a_relay_of_intervals) ≡ Edge 1 3 0 4 ∷ Edge 2 4 1 4 ∷ []
unfolding serve at_places leads any_below before edge greatest_first edges_into number_bytes kept
kept_edges = refl
