-- What several files of proofs/ cite of other crates and of specs/. They import it from here, by one line.
pub use Rattle.std.proofs.Common.{Bool, Err, IsErr, IsTrue, List, None, Ok, Option, Result, Some, [], ap, append-nil, append_assoc, ap₂, arith, drop, drop-drop, eqb, false, if◌then◌else◌, is_ok, length, length-append, length-drop, length-set, map, ne_eqb, refl, set, slice_index, subst, suc, sym, take, take_all, true, zero, ℕ, ◌*◌, ◌++◌, ◌+◌, ◌-◌, ◌<◌, ◌^◌, ◌∙◌, ◌∷◌, ◌≡◌, ◌≤◌}
pub use Rattle.std.proofs.lemmas.List.{append_cancel_left, get_or_append_left, map-append, take_more_set}
pub use Rattle.std.specs.List.{AllByRecursion, flat_map}
pub use Rattle.bn_base.specs.declared.end_mark.EndMark.{EndMark}
pub use Rattle.le_numbers.specs.Laws.{AreRead, AreWritten, Fit, HaveTheirWidth}
pub use Rattle.le_numbers.specs.Numbers.{AreBytes, number_at, number_bytes}
pub use Rattle.log_record.specs.Entries.{IsKept, entry_of, header_with, record_of, state_of, states_of}
unfoldable pub use Rattle.log_record.specs.Reading.{edge_in, end_in, first_load_in, header_in, record_in, words_at}
pub use Rattle.log_record.specs.Spelling.{AreRegisters, BeginsWith, FitsFields, bytes_of, is_mark, is_marked, size_of, tag_of}
pub use Rattle.log_record.specs.declared.record.Record.{Record}
pub use Rattle.log_record.specs.declared.record.Record.TheVariants.{Edge, End, FirstLoad, Header, ScFailed, ScOk}
pub use Rattle.log_record.specs.declared.stored_record.StoredRecord.{StoredRecord}
