-- What several files of proofs/ cite of other crates and of specs/. They import it from here, by one line.
pub use Rattle.std.proofs.Common.{All, Bool, Contains, Err, IsPermutation, List, None, Ok, Option, Some, [], ap, ap₂, arith, cond, count_by, drop, false, filter, find, get_or, get_or-drop, if◌then◌else◌, inl, inr, is_none, is_some, leb, leb-false, leb-true, length, ltb, ltb-false, map, max, nat_le, nat_lt, not, option_map, refl, rules, slice_index, subst, suc, sym, take, true, vec_len, zero, ℕ, ◌%◌, ◌&&◌, ◌*◌, ◌++◌, ◌+◌, ◌-◌, ◌/◌, ◌<◌, ◌==◌, ◌^◌, ◌||◌, ◌↔◌, ◌∙◌, ◌∷◌, ◌≡◌, ◌≤◌, ◌⊎◌}
pub use Rattle.std.proofs.lemmas.Bool.{and_parts, cases_lt, or_parts}
pub use Rattle.std.proofs.lemmas.List.{get_or-map, get_or_past, length-map}
pub use Rattle.std.proofs.lemmas.List.Elements.{All-cons, All-contains, All-head, All-map, All-nil, All-tail, All-weaker, filter_passes}
pub use Rattle.std.proofs.lemmas.List.FromFn.{get_or-map-range_with_len, length-map-range_with_len, map-range_with_len_more}
pub use Rattle.std.proofs.lemmas.List.Sorted.{All-permutation, Contains-permutation, IsNonDecreasingBy-from_sort_by_key, IsPermutation-cons, IsPermutation-middle, IsPermutation-refl, IsPermutation-sym, IsPermutation-trans, sum_by-IsPermutation}
pub use Rattle.std.specs.List.{AllByRecursion, list_any, range_with_len}
pub use Rattle.bn_base.specs.Programs.{AreApart, IsPart, Part, Program, code_at, code_in, end_of, first_in, heap_start, highest_end, is_in, is_writable, may_load, part_at, part_or, word_in}
pub use Rattle.bn_base.specs.Ranges.{IsSetting, default_settings}
pub use Rattle.bn_base.specs.declared.settings.RawSettings.{RawSettings}
pub use Rattle.le_numbers.specs.Numbers.{AreBytes}
unfoldable pub use Rattle.le_numbers.specs.Numbers.{number_at, number_bytes}
pub use Rattle.elf_loader.specs.Headers.{file_header, header}
unfoldable pub use Rattle.elf_loader.specs.Headers.{table}
pub use Rattle.elf_loader.specs.Loaded.{is_cut_off, is_interpreter, is_outside, starts_outside, touching, unless, when}
unfoldable pub use Rattle.elf_loader.specs.Loaded.{header_refusal, image_of, program_of, refusal, segment_refusal}
pub use Rattle.elf_loader.specs.Segments.{IsLoadable, before_higher, by_address, byte_in, file_end, first_word, has_code, has_flag, is_code, is_segment, memory_end, part_of, share, touches, word_after, word_of, words_touched}
unfoldable pub use Rattle.elf_loader.specs.Segments.{file_words, segments}
pub use Rattle.elf_loader.specs.declared.error.ElfError.{ElfError}
pub use Rattle.elf_loader.specs.declared.error.ElfError.TheVariants.{EntryOutside, NeedsCompressed, NeedsE, NoSegment, NotElf, NotRv32, NotStatic, Outside, SegmentsTouch, TooMany, Truncated}
pub use Rattle.elf_loader.specs.declared.file_header.FileHeader.{FileHeader}
pub use Rattle.elf_loader.specs.declared.program_header.ProgramHeader.{ProgramHeader}
