-- What several files of specs/ and src/ cite of other crates. They import it from here, by one line.
pub use Rattle.bn_base.specs.Programs.{Program}
pub use Rattle.bn_base.specs.declared.settings.RawSettings.{RawSettings}
pub use Rattle.hart_replay.specs.Replay.{Done, Interval, Outcome, Refused, Replayed, interval_of, replayed}
pub use Rattle.hart_replay.specs.declared.error.ReplayError.TheVariants.{EndDiffers, LoadMissing, NoInterval, RecordsLeft, ScMissing}
pub use Rattle.log_record.specs.declared.record.Record.{Record}
pub use Rattle.run_model.specs.Examples.{Recording, a_call_at_full_length, a_conditional_store, a_fault, a_filled_word, a_guarded_load, a_late_fault, a_late_fault_unguarded, an_exit, end, first_header, program_of, recorded, row_of_a_fault, two_loads_of_a_word}
pub use Rattle.run_model.specs.KeptRecords.{IsEndOf, kept_of}
pub use Rattle.run_model.specs.Machine.{answer, call_of}
pub use Rattle.run_model.specs.Turn.{Run, ask_at, asked_run, begun_anew, is_guarded, is_orderly, mark, next_of, serve_call, span_of, turn}
