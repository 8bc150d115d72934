-- What several files of proofs/ cite of other crates and of specs/. They import it from here, by one line.
pub use Rattle.std.proofs.Common.{Bool, Err, IfErr, IfOk, IsTrue, List, MatchResult, None, Ok, Option, Result, Some, [], ap, append-nil, append_assoc, ap₂, arith, cond, drop, drop-drop, drop_at, eq-eqb, eqb, eqb-true, false, get_or-drop, if◌then◌else◌, inl, inr, le-ltb, length, length-append, length-drop, length-take, length-take-le, ltb, ltb-false, nat_le, not, refl, replicate, rules, slice_index, subst, suc, sym, take, take-append-drop, take_at, true, zero, ℕ, ◌%◌, ◌&&◌, ◌++◌, ◌+◌, ◌-◌, ◌<◌, ◌==◌, ◌^◌, ◌||◌, ◌∙◌, ◌∷◌, ◌≡◌, ◌≢◌, ◌≤◌, ◌⊎◌}
pub use Rattle.std.proofs.lemmas.Grind.{common_steps}
pub use Rattle.std.proofs.lemmas.List.{get_or_append_left, get_or_past, take-replicate}
pub use Rattle.std.proofs.lemmas.Slice.Eq.{bytes_eq-Decides}
pub use Rattle.std.specs.List.{AllByRecursion, flat_map, list_any}
pub use Rattle.std.specs.Str.{bytes_eq}
pub use Rattle.bn_base.specs.Ranges.{IsSetting, checked, checked_by, first_bad, is_between, is_memory_size, is_small_power, most_harts}
pub use Rattle.bn_base.specs.declared.settings.BadSetting.{BadSetting}
pub use Rattle.bn_base.specs.declared.settings.RawSettings.{RawSettings}
pub use Rattle.le_numbers.specs.Laws.{AreWritten, Fit, HaveTheirWidth}
pub use Rattle.le_numbers.specs.Numbers.{AreBytes}
unfoldable pub use Rattle.le_numbers.specs.Numbers.{number_at, number_bytes}
pub use Rattle.log_order.specs.Content.{Content, IsContent, content}
pub use Rattle.log_order.specs.Order.{at_place, broken_by, broken_in, is_late, order_break, order_limits_of, step, ◌>>=◌}
unfoldable pub use Rattle.log_order.specs.Order.{after_all, broken, end_break, late_edge}
pub use Rattle.log_order.specs.Rules.{fresh, is_unfinished, number_of}
pub use Rattle.log_order.specs.declared.walk.OrderBreak.{OrderBreak}
pub use Rattle.log_record.specs.Laws.{AreRead, BeginNoOther, TellTheirSize}
pub use Rattle.log_record.specs.Spelling.{BeginsWith, Fits, bytes_of, is_marked, size_of, total}
pub use Rattle.log_record.specs.declared.head.Head.{Head}
pub use Rattle.log_record.specs.declared.record.Record.{Record}
pub use Rattle.log_record.specs.declared.record.Record.TheVariants.{Edge, End, FirstLoad, Header, ScFailed, ScOk}
pub use Rattle.sha2.specs.Sha256.{sha256}
pub use Rattle.log_file.specs.Counts.{CountsFile, IsCounted, IsTallied, IsWalked, Tells, TestsFields, TestsFile, Walks, counts_of, header_count, headers_of}
pub use Rattle.log_file.specs.Faults.{file_fault, later_fault, setting_fault, signed_of}
unfoldable pub use Rattle.log_file.specs.Faults.{head_fault}
pub use Rattle.log_file.specs.File.{AreInOrder, BreaksOrder, HasFields, IsRecordsFault, IsRefusal, NoRecord}
pub use Rattle.log_file.specs.Laws.{AreNotRefused, HaveTheirSize, SayOneThing}
pub use Rattle.log_file.specs.Layout.{IsVersion1, digest_in, dropped_in, file_bytes, head_in, settings_in, size_in}
unfoldable pub use Rattle.log_file.specs.Layout.{magic, settings_bytes, signed_bytes}
pub use Rattle.log_file.specs.declared.counting.LogCounts.{LogCounts}
pub use Rattle.log_file.specs.declared.error.FileError.{FileError}
pub use Rattle.log_file.specs.declared.error.FileError.TheVariants.{BadHead, BadMagic, BadOrder, BadRecord, BadVersion, DigestDiffers, LengthDiffers, OutOfMemory, Short}
