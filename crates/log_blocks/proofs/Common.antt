-- What several files of proofs/ cite of other crates and of specs/. They import it from here, by one line.
pub use Rattle.std.proofs.Common.{Bool, Err, IfErr, IfOk, IsTrue, List, MatchResult, None, Ok, Option, Result, Some, [], add-one, ap, append-nil, append_assoc, ap₂, arith, cond, drop, drop-drop, drop_at, eq-eqb, eqb, eqb-true, false, get_or, get_or-drop, if◌then◌else◌, inl, inr, le-ltb, length, length-append, length-drop, length-take-le, ltb, ltb-false, nat_le, nat_lt, not, refl, rules, slice_index, subst, suc, sym, take, take-append-drop, take_at, true, zero, ℕ, ◌%◌, ◌&&◌, ◌*◌, ◌++◌, ◌+◌, ◌-◌, ◌<◌, ◌==◌, ◌^◌, ◌||◌, ◌∙◌, ◌∷◌, ◌≡◌, ◌≢◌, ◌≤◌, ◌⊎◌}
pub use Rattle.std.proofs.Math.Seq.{drop-cons, take-length}
pub use Rattle.std.proofs.lemmas.Grind.{flat_map-append}
pub use Rattle.std.proofs.lemmas.List.{drop-take, drop_all, get_or_append_left, get_or_past, take_more}
pub use Rattle.std.proofs.lemmas.List.Concat.{flat_map-cons}
pub use Rattle.std.proofs.lemmas.Slice.Eq.{bytes_eq-Decides}
pub use Rattle.std.specs.List.{AllByRecursion, flat_map}
pub use Rattle.std.specs.Str.{bytes_eq}
pub use Rattle.std.proofs.lemmas.Bool.{and_parts, eqb-false, not-false, not-true}
pub use Rattle.bn_base.specs.Ranges.{IsSetting, checked, checked_by, first_bad, is_between, is_small_power, most_harts}
pub use Rattle.bn_base.specs.declared.settings.RawSettings.{RawSettings}
pub use Rattle.le_numbers.specs.Laws.{AreRead, AreWritten, Fit, HaveTheirWidth}
pub use Rattle.le_numbers.specs.Numbers.{AreBytes, number_at}
unfoldable pub use Rattle.le_numbers.specs.Numbers.{number_bytes}
pub use Rattle.log_file.specs.Blocks.{Block, all_sealed, block_size, blocks_of, cut_from, last_block, numbered, sealed, total_of}
pub use Rattle.log_file.specs.Counts.{IsTallied, Tells, header_count, headers_of}
pub use Rattle.log_file.specs.File.{NoRecord}
pub use Rattle.log_file.specs.Laws.{AreNotBad}
pub use Rattle.log_file.specs.Layout.{IsVersion1, file_bytes, file_bytes2}
unfoldable pub use Rattle.log_file.specs.Layout.{head_bytes2, magic, settings_bytes, signed_bytes}
pub use Rattle.log_file.specs.declared.error.FileError.{FileError}
pub use Rattle.log_file.specs.declared.error.FileError.TheVariants.{BadHead, BadMagic, BadOrder, BadRecord, BadVersion, DigestDiffers, LengthDiffers, OutOfMemory, Short}
pub use Rattle.log_order.specs.Content.{Content, IsContent, content}
pub use Rattle.log_order.specs.Order.{broken_by, order_break}
pub use Rattle.log_order.specs.declared.walk.OrderBreak.{OrderBreak}
pub use Rattle.log_record.specs.Laws.{BeginNoOther, FitLater, TellTheirSize}
pub use Rattle.log_record.specs.Spelling.{Fits, FitsFields, bytes_of, is_marked, size_of, tag_of, total}
pub use Rattle.log_record.specs.declared.head.Head.{Head}
pub use Rattle.log_record.specs.declared.record.Record.{Record}
pub use Rattle.log_record.specs.declared.record.Record.TheVariants.{Edge, End, FirstLoad, Header, ScFailed, ScOk}
pub use Rattle.sha2.proofs.Facts256.{length-sha256}
pub use Rattle.sha2.specs.Sha256.{sha256}
pub use Rattle.log_blocks.specs.Counts.{CountsBlocks, CountsFile, RenewsSalvaged, TestsBlocks, TestsRead, TestsSalvaged}
pub use Rattle.log_blocks.specs.Cuts.{IsNext, first_wrong, is_block, piece_end, records_in}
pub use Rattle.log_blocks.specs.Faults.{is_second, later_fault}
unfoldable pub use Rattle.log_blocks.specs.Faults.{head_fault}
pub use Rattle.log_blocks.specs.Fields.{blocks_in, dropped_in, head_digest, head_in, kept_digest, program_in, settings_in, size_in}
pub use Rattle.log_blocks.specs.File.{BreaksOrder, CutOtherwise, HasBlocks, IsFirstRefusal, IsHeadFault, IsRead, IsRecordsFault, IsRefusal, IsSalvageFault, IsSalvageRefusal, IsSalvaged, IsSecondRefusal, IsSpelled, IsWalkFault, NoneIsLeft, dropped_before, told}
pub use Rattle.log_blocks.specs.Laws.{AreFew, AreNotRefused, AreSmall, FirstAreUnique, HaveTheirSize, LastBlocksAreAnEnd, NameTheirVersion, RefusalsAreUnique, SalvageRefusalsAreUnique, SalvagedAreAnEnd, SalvagedAreNotRefused, SalvagedAreUnique, SavedHaveTheirLimit, SayOneThing, pieces_of}
pub use Rattle.log_blocks.specs.Pieces.{IsWalk, Piece, Walked, before_in, gathered, is_sized, left_in, len_in, piece, piece_body, piece_bytes, piece_in, piece_of, pieces_bytes, start_in}
unfoldable pub use Rattle.log_blocks.specs.Pieces.{is_good}
pub use Rattle.log_blocks.specs.Readings.{AreReadOrRefused, AreSalvagedOrRefused, FilesAreRead, ReadingsAreUnique, Reads, Salvages, SalvagesAreUnique, WholeAreSalvaged}
pub use Rattle.log_blocks.specs.Walks.{AreAt, AreLaid, HasSeen, HasWalked, IsAt, sizes_of}
pub use Rattle.log_blocks.specs.declared.damage.Damage.{Damage}
pub use Rattle.log_blocks.specs.declared.damage.Damage.TheVariants.{BadBlock, File}
pub use Rattle.log_blocks.specs.declared.damage.SalvageError.{SalvageError}
