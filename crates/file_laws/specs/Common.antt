-- What several files of specs/ and src/ cite of other crates. They import it from here, by one line.
pub use Rattle.std.specs.List.{AllByRecursion, flat_map}
pub use Rattle.bn_base.specs.Programs.{Program}
pub use Rattle.bn_base.specs.Ranges.{IsSetting}
pub use Rattle.bn_base.specs.declared.settings.RawSettings.{RawSettings}
pub use Rattle.bn_outside.specs.declared.turn_row.TurnRow.{TurnRow}
pub use Rattle.hart_replay.specs.Replay.{Done, Interval, interval_of, replayed}
pub use Rattle.le_numbers.specs.Numbers.{AreBytes, number_bytes}
pub use Rattle.log_order.specs.Content.{Content, IsContent, content}
pub use Rattle.log_order.specs.Order.{after_all, broken_by, order_break, order_limits_of}
pub use Rattle.log_ring.specs.Kept.{Held, HoldsLog}
pub use Rattle.run_laws.specs.History.{IsLawful, after_rows, are_orderly}
pub use Rattle.run_model.specs.Examples.{Recording, an_exit, program_of}
pub use Rattle.run_model.specs.KeptRecords.{IsEndOf, content_of, dropped_of, kept_of}
pub use Rattle.run_model.specs.Rows.{rows_in}
pub use Rattle.run_model.specs.Runs.{has_finished, legal_from, run_of, start, start_state}
pub use Rattle.run_model.specs.Turn.{Run, ask_at}
pub use Rattle.rv_meaning.specs.declared.asks.Want.TheVariants.{Faulted, Store}
