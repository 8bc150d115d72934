-- The examples, by computation.
use Rattle.joint_laws.proofs.Common.{length, ◌≡◌, [], ◌∷◌, Some, replicate, refl, at_places, leads, any_below, before, edge, greatest_first, edges_into, is_whole, serve}
use Rattle.le_numbers.specs.Numbers.{number_bytes}
use Rattle.joint_laws.specs.Examples.{orders_from, merges, allowed_of, words_after, a_short_relay, late_relay, relay_orders, a_spoiled_store, late_store, store_orders}

pub relay_whole : is_whole a_short_relay
unfolding serve at_places leads any_below before edge greatest_first edges_into number_bytes
relay_whole = (refl, refl)

pub relay_is : orders_from 7 late_relay ≡ relay_orders
unfolding serve at_places leads any_below before edge greatest_first edges_into number_bytes
relay_is = refl

pub relay_words : words_after late_relay relay_orders ≡ replicate 18 (Some ((0x20000, 3) ∷ (0x20004, 3) ∷ []))
unfolding serve at_places leads any_below before edge greatest_first edges_into number_bytes
relay_words = refl

pub relay_others : allowed_of late_relay (merges 7 (2 ∷ 3 ∷ 2 ∷ [])) ≡ relay_orders
unfolding serve at_places leads any_below before edge greatest_first edges_into number_bytes
relay_others = refl

pub relay_merges : length (merges 7 (2 ∷ 3 ∷ 2 ∷ [])) ≡ 210
relay_merges = refl

pub store_whole : is_whole a_spoiled_store
unfolding serve at_places leads any_below before edge greatest_first edges_into number_bytes
store_whole = (refl, refl)

pub store_is : orders_from 6 late_store ≡ store_orders
unfolding serve at_places leads any_below before edge greatest_first edges_into number_bytes
store_is = refl

pub store_others : allowed_of late_store (merges 6 (3 ∷ 3 ∷ [])) ≡ store_orders
unfolding serve at_places leads any_below before edge greatest_first edges_into number_bytes
store_others = refl

pub store_words : words_after late_store store_orders ≡ replicate 10 (Some ((0x20000, 2) ∷ []))
unfolding serve at_places leads any_below before edge greatest_first edges_into number_bytes
store_words = refl
