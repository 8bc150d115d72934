-- What several files of proofs/ cite of other crates and of specs/. They import it from here, by one line.
pub use Rattle.std.proofs.Common.{Bool, List, None, Option, [], ap, arith, cond, eq-eqb, eqb-true, ext_get_or, false, get_or, get_or-set_other, get_or-set_same, inl, inr, length, length-set, nat_le, nat_lt, ne_eqb, refl, rules, set, slice_index_or, subst, sym, true, vec_len, ℕ, ◌%◌, ◌&&◌, ◌*◌, ◌+◌, ◌-◌, ◌/◌, ◌<◌, ◌||◌, ◌∙◌, ◌∷◌, ◌≡◌, ◌≤◌, ◌⊎◌}
pub use Rattle.std.proofs.lemmas.Bool.{cases_eq, cases_lt, false≢true}
pub use Rattle.std.proofs.lemmas.List.{get_or_default, get_or_past, length-map}
pub use Rattle.bn_base.specs.Programs.{AreApart, Part, Program, end_of, first_at, first_in, is_in, part_at, part_or}
pub use Rattle.bus_memory.specs.Contents.{Contents, HasPages, HoldsMap, has_page, is_touched, shares_page, updated}
pub use Rattle.bus_memory.specs.Frames.{AreMade, Frame, HaveWords, IsFirstFrame, no_frame, word_of}
unfoldable pub use Rattle.bus_memory.specs.Frames.{contents_of}
