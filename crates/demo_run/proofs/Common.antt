-- What several files of proofs/ cite of other crates and of specs/. They import it from here, by one line.
pub use Rattle.std.proofs.Common.{Bool, Err, List, None, Ok, Option, Result, Some, [], ap, arith, drop, false, if◌then◌else◌, length, length-append, length-take, nat_lt, not, refl, slice_index, slice_index_or, subst, suc, sym, take, true, zero, ℕ, ◌&&◌, ◌*◌, ◌++◌, ◌+◌, ◌-◌, ◌/◌, ◌<◌, ◌==◌, ◌^◌, ◌∙◌, ◌∷◌, ◌≡◌, ◌≤◌}
pub use Rattle.std.proofs.lemmas.List.Concat.{flat_map-cons}
pub use Rattle.std.specs.List.{flat_map, list_all, list_any}
pub use Rattle.bn_base.specs.Programs.{Program}
pub use Rattle.bn_base.specs.declared.end_mark.EndMark.{EndMark}
pub use Rattle.bn_base.specs.declared.settings.RawSettings.{RawSettings}
pub use Rattle.guest_gen.specs.Code.{code}
pub use Rattle.guest_gen.specs.declared.kind.Kind.{Kind}
pub use Rattle.hart_replay.specs.Replay.{Done, Interval, Replayed, interval_of, replayed}
pub use Rattle.joint_replay.specs.Joining.{Joining, fresh, run_all}
pub use Rattle.joint_replay.specs.Memory.{known_from}
pub use Rattle.joint_replay.specs.Runs.{Advances, IsFirstTaken, RunsGoOn}
pub use Rattle.le_numbers.specs.Numbers.{AreBytes}
unfoldable pub use Rattle.le_numbers.specs.Numbers.{number_at, number_bytes}
pub use Rattle.log_file.specs.Counts.{counts_of}
pub use Rattle.log_file.specs.Layout.{IsVersion1, file_bytes, file_bytes2, saved_bytes}
pub use Rattle.log_order.specs.Content.{Content, content}
pub use Rattle.log_record.specs.declared.record.Record.{Record}
pub use Rattle.run_model.specs.Runs.{run_of, seeded, start}
pub use Rattle.joint_laws.specs.Recordings.{IsRecorded, kept, recorded}
pub use Rattle.demo_run.specs.Demonstration.{counts_in, demo, demo_elf, demo_log, demo_program, figures_of, instructions_of, known_words, rows_in, word_bytes}
unfoldable pub use Rattle.demo_run.specs.Demonstration.{demo_settings, demo_turns}
pub use Rattle.demo_run.specs.Laws.{DemonstrationsAreRecordings, GuestsAreLoaded}
pub use Rattle.demo_run.specs.Starts.{AllComeToEnd, ComesToEnd, GoesThrough, IsStart}
