-- What several files of proofs/ cite of other crates and of specs/. They import it from here, by one line.
pub use Rattle.std.proofs.Common.{All, AllPairs, Bool, Contains, Global, IsTrue, List, None, Option, Some, Vec, [], add-one, ap, append-nil, append_assoc, ap₂, arith, bit_and, cond, eq-eqb, false, filter, get_or-set_other, get_or-set_same, if◌then◌else◌, inl, inr, length, length-append, length-set, lt-ltb, ltb-true, map, max, min, nat_lt, not, refl, slice_get, slice_index, slice_index_or, slice_set, subst, subst₂, suc, sym, true, vec_len, zero, ℕ, ◌%◌, ◌&&◌, ◌*◌, ◌++◌, ◌+◌, ◌-◌, ◌/◌, ◌<◌, ◌==◌, ◌||◌, ◌↔◌, ◌∙◌, ◌∷◌, ◌≡◌, ◌≢◌, ◌≤◌, ◌⊎◌}
pub use Rattle.std.proofs.Math.Nat.{add-mul, min-zero, mul-add, zero-min}
pub use Rattle.std.proofs.lemmas.Bool.{cases_eq, cases_lt, false≢true}
pub use Rattle.std.proofs.lemmas.List.Elements.{All-push, filter-append}
pub use Rattle.std.proofs.lemmas.List.Folds.{Any-from_list_any, list_any-from_Any, list_any_at}
pub use Rattle.std.proofs.lemmas.Option.{get_or_from_slice_get, slice_get-get_or, slice_get_read}
pub use Rattle.std.specs.List.{Any, list_any}
pub use Rattle.vector_time.specs.Times.{count_of}
pub use Rattle.vector_time.specs.declared.times.Times.{Times}
pub use Rattle.race_log.specs.ByCount.{IsEdgeBetween, IsInOrder, IsLatestPoint, IsPointAt, IsTimesOf, IsUpTo, Leads, Step}
unfoldable pub use Rattle.race_log.specs.Examples.{failed_conditional, filled_word, neighbours, relay, two_loads, two_readers, two_words}
pub use Rattle.race_log.specs.Holds.{CountsOf, OwnUpTo, TimesOf, UpTo}
pub use Rattle.race_log.specs.Kept.{AllKnow, In, Kept, KeptAt, Replaces, Suffices, access_point, accesses_from, after, is_write, stays}
pub use Rattle.race_log.specs.Merges.{AreKeptEdges, IsMerge, IsMergeBegun, IsNext, Precedes, Respects, StandsIn, all_kept, count_up, is_of_hart, own_list, own_part, place}
pub use Rattle.race_log.specs.Netzer.{AtPlaces, Before, Chain, Chosen, Conflict, Either, EndingAfter, IsEdge, OtherThan, ProgramOrder}
pub use Rattle.race_log.specs.Netzer.Chain.{more, one}
pub use Rattle.race_log.specs.Points.{Access, IsConflict, IsSameHart, MeetAt, Point, Touches, Writes}
pub use Rattle.race_log.specs.Represents.{KnowsSame, RepresentsAccesses, TakesIn, edges_of, harts_of, held_of, is_known, is_live, kept_of, lasting_of, lasts, next_count, next_turn, times_of, words_of}
pub use Rattle.race_log.specs.Search.{gathered, is_source, latest, merged, newer}
unfoldable pub use Rattle.race_log.specs.Search.{counts_after, sources}
pub use Rattle.race_log.specs.Slots.{AreFull, AreSettled, AreSettledNow, IsSettledPage, StaysSettled, counts_in, counts_of, counts_past, found_as, is_marked, is_settled, kept_by, kept_here, marks_in, read_in, reads_in, slots_in, slots_of, word_in, write_in}
pub use Rattle.race_log.specs.Sweep.{GivesUp, accessed_below, has_bit, held_below, is_covered, uncovered}
unfoldable pub use Rattle.race_log.specs.Sweep.{all_below, sum_below}
pub use Rattle.race_log.specs.Tests.{clashes, conflict, either, is_conflict, is_same_hart, name_of, of_both, program_order, sources_into, touches, writes_word}
unfoldable pub use Rattle.race_log.specs.Tests.{any_below, at_places, before, edge, edges_into, edges_of_first, greatest_first, leads}
pub use Rattle.race_log.specs.Words.{AreAllUsed, HasPages, HasRoom, IsAsLarge, KeepsAccess, MakesPages, counts_at, epoch_counts, epoch_of, has_epoch, has_room, kept_in, kept_now, kept_of_slot, page_of, place_of, present_counts, size_of}
pub use Rattle.race_log.specs.declared.epochs.Epoch.{Epoch}
pub use Rattle.race_log.specs.declared.mode.Mode.{Mode}
pub use Rattle.race_log.specs.declared.mode.Mode.TheVariants.{Read, Write}
pub use Rattle.race_log.specs.declared.shadow.Shadow.{Shadow}
pub use Rattle.race_log.specs.declared.slot.Slot.{Slot}
pub use Rattle.race_log.specs.declared.words.KeptWords.{KeptWords}
