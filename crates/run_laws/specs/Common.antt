-- What several files of specs/ and src/ cite of other crates. They import it from here, by one line.
pub use Rattle.bn_base.specs.Programs.{Program}
pub use Rattle.bn_base.specs.Ranges.{IsSetting, default_settings}
pub use Rattle.bn_base.specs.declared.end_mark.EndMark.{EndMark}
pub use Rattle.bn_base.specs.declared.settings.RawSettings.{RawSettings}
pub use Rattle.bn_outside.specs.declared.turn_row.TurnRow.{TurnRow}
pub use Rattle.log_record.specs.Spelling.{tag_of, total}
pub use Rattle.log_record.specs.declared.record.Record.{Record}
pub use Rattle.log_record.specs.declared.record.Record.TheVariants.{Edge, End, FirstLoad, Header, ScFailed, ScOk}
pub use Rattle.run_model.specs.Examples.{Recording, a_byte_store, a_call_at_full_length, a_conditional_store, a_fault, a_filled_word, a_limit, a_line_lost, a_line_put_out, a_relay, a_reservation_lost, a_skipped_load, an_exit, end, is_whole, marks, one_a_time, program_of, recorded, relay_words, two_loads_of_a_word}
pub use Rattle.run_model.specs.KeptRecords.{IsEndOf, kept_of}
pub use Rattle.run_model.specs.Runs.{chosen, draw, is_live, legal_from, most_turns, run_from, run_of, seeded, start, start_hart, start_state}
pub use Rattle.run_model.specs.Turn.{Run, ask_at, bytes_since, is_guarded, is_orderly, mark, serve, turn}
pub use Rattle.rv_meaning.specs.Execute.{absorbed, ask_of}
pub use Rattle.rv_meaning.specs.declared.asks.Ask.{Ask}
pub use Rattle.rv_meaning.specs.declared.asks.Reply.TheVariants.{Answer}
pub use Rattle.rv_meaning.specs.declared.asks.Want.{Want}
pub use Rattle.rv_meaning.specs.declared.asks.Want.TheVariants.{Cut, Faulted, Load, System}
