-- What several files of specs/ and src/ cite of other crates. They import it from here, by one line.
pub use Rattle.std.specs.List.{AllByRecursion, flat_map}
pub use Rattle.std.specs.Str.{bytes_eq}
pub use Rattle.le_numbers.specs.Numbers.{AreBytes, number_at, number_bytes}
pub use Rattle.log_file.specs.Blocks.{Block, all_sealed, block_size, blocks_of, cut_from}
pub use Rattle.log_file.specs.Counts.{Tells, counts_in, counts_of}
pub use Rattle.log_file.specs.Layout.{IsVersion1, file_bytes, file_bytes2, head_bytes2, magic, saved_bytes}
pub use Rattle.log_file.specs.declared.error.FileError.{FileError}
pub use Rattle.log_file.specs.declared.error.FileError.TheVariants.{BadHead, BadMagic, BadOrder, BadRecord, BadVersion, DigestDiffers, LengthDiffers, OutOfMemory, Short}
pub use Rattle.log_order.specs.Content.{Content, IsContent, content}
pub use Rattle.log_record.specs.Spelling.{Fits, bytes_of, total}
pub use Rattle.log_record.specs.declared.head.Head.{Head}
pub use Rattle.log_record.specs.declared.record.Record.{Record}
pub use Rattle.log_record.specs.declared.record.Record.TheVariants.{Header, ScOk}
pub use Rattle.sha2.specs.Sha256.{sha256}
