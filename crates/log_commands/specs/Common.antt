-- What several files of specs/ and src/ cite of other crates. They import it from here, by one line.
pub use Rattle.std.specs.Io.KnownBytes.{Appends}
pub use Rattle.std.specs.List.{flat_map}
pub use Rattle.std.specs.Str.{bytes_eq}
pub use Rattle.std.specs.declared.alloc.Global.{Global}
pub use Rattle.bn_base.specs.Programs.{Program}
pub use Rattle.bn_base.specs.Ranges.{IsSetting, setting_name}
pub use Rattle.bn_base.specs.declared.end_mark.EndMark.{EndMark}
pub use Rattle.bn_base.specs.declared.settings.RawSettings.{RawSettings}
pub use Rattle.bn_outside.specs.Counts.{Counts, NoneFell, Rose, counted}
pub use Rattle.bn_outside.specs.Files.{Files, SameElsewhere, Stored, WhereTold}
pub use Rattle.bn_outside.specs.Streams.{AppendsPart, AppendsShort, Stream}
pub use Rattle.elf_loader.specs.Loaded.{image_of}
pub use Rattle.elf_loader.specs.declared.error.ElfError.{ElfError}
pub use Rattle.hart_replay.specs.Coming.{Replaying, outcome_only}
pub use Rattle.hart_replay.specs.Replay.{Done, Interval, Outcome, Refused, Replayed, interval_of, replayed}
pub use Rattle.hart_replay.specs.declared.error.ReplayError.{ReplayError}
pub use Rattle.hart_replay.specs.declared.error.ReplayError.TheVariants.{NoInterval}
pub use Rattle.joint_replay.specs.Joining.{Joining, Ran, fresh, run_all}
pub use Rattle.joint_replay.specs.Texts.{joint_text, steps_text}
pub use Rattle.joint_replay.specs.declared.error.JointError.{JointError}
pub use Rattle.log_blocks.specs.Readings.{Reads, Salvages}
pub use Rattle.log_blocks.specs.declared.damage.Damage.{Damage}
pub use Rattle.log_file.specs.Layout.{file_bytes2, saved_bytes}
pub use Rattle.log_order.specs.Content.{Content, IsContent}
pub use Rattle.run_model.specs.declared.error.TurnError.{TurnError}
pub use Rattle.rv_text.specs.Instructions.{hex8}
pub use Rattle.rv_text.specs.Marks.{end_text, mark_text}
pub use Rattle.sha2.specs.Sha256.{sha256}
