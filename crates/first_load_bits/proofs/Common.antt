-- What several files of proofs/ cite of other crates and of specs/. They import it from here, by one line.
pub use Rattle.std.proofs.Common.{All, AllPairs, Bool, IsTrue, List, None, Option, Some, [], add-one, add-zero, ap, append-nil, append_assoc, ap₂, arith, bit_and, bit_or, drop, drop-set-lt, drop_at, drop_of_length-le, eq-eqb, eq-zero-or-pos, eqb-true, false, get_or, get_or-drop, get_or-take, if◌then◌else◌, inl, inr, is_some, length, length-append, length-drop, length-take, length-take-le, lt-ltb, ltb-false, ltb-true, map, mul_comm, nat_lt, ne_eqb, not, pow-add, pow_mono, pow_pos, refl, set, subst, suc, sym, take, take-append-drop, take_all, take_at, true, true≢false, zero, ℕ, ◌%◌, ◌&&◌, ◌*◌, ◌++◌, ◌+◌, ◌-◌, ◌/◌, ◌<◌, ◌==◌, ◌^◌, ◌||◌, ◌↔◌, ◌∙◌, ◌∷◌, ◌≡◌, ◌≢◌, ◌≤◌, ◌⊎◌}
pub use Rattle.std.proofs.Math.Nat.{div-add-mod', div-div-eq-div-mul, div-zero}
pub use Rattle.std.proofs.lemmas.Bool.{and_from, and_parts, cases_Bool, cases_eq, cases_lt, cases_order, false≢true, or_left, or_right}
pub use Rattle.std.proofs.lemmas.Bool.Decides.{eqb_tells, nat_tests}
pub use Rattle.std.proofs.lemmas.List.{drop-set-add, get_or_default, length-map, map-append, set-get_or, take-set-le}
pub use Rattle.std.proofs.lemmas.List.Elements.{All-cons, All-drop, All-get_or, All-head, All-nil, All-replicate, All-same, All-set, All-tail, All-take, All-weaker}
pub use Rattle.std.proofs.lemmas.List.Kept.{AllPairs-cons}
pub use Rattle.std.proofs.lemmas.Nat.{and_mask, div-mul-add, mod_below, one_shl, ones_cat, row_fits, zero_from_ones}
pub use Rattle.std.specs.Int.{bit_at, is_power_of_two}
pub use Rattle.first_load_bits.specs.Cached.{AreKept, contents, sets_below}
pub use Rattle.first_load_bits.specs.Events.{Clear, Drop, Event, Geometry, IsDropOf, IsTouchOf, Touch, line_of, line_start, second_of, set_of, word_of}
pub use Rattle.first_load_bits.specs.History.{Falls, HasOthers, IsBelow, IsHeld, IsSecond, IsSinceTouch, IsUndropped, IsWarm}
pub use Rattle.first_load_bits.specs.Lines.{Levels, Line, all_but, behind, bits_known, bits_of, cleared, in_front, is_set, levels, lines, lines_below, lost, place_of, put, put_in, put_lost, taken_out, touched_line}
pub use Rattle.first_load_bits.specs.Represents.{Contents, Level, RepresentsEvents, first_level, lines_of, second_level, ways_of}
pub use Rattle.first_load_bits.specs.Steps.{IsBitsBelow, IsFallen, IsListed, IsPutBelow, IsTakenBelow, IsTakenListed, IsTouch, with_ways, with_ways_below}
pub use Rattle.first_load_bits.specs.Warm.{below, except, fallen_among, falls, fewer, held, later_lines, listed, second_history, warm, with_fall, with_first, without}
pub use Rattle.first_load_bits.specs.Ways.{AreApart, HasLine, IsPlaceFor, given_up, has_line, has_other, known_bits, latest_first, line_in, of_age}
pub use Rattle.first_load_bits.specs.declared.way.Way.{Way}
