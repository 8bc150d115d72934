-- What several files of specs/ and src/ cite of other crates. They import it from here, by one line.
pub use Rattle.bn_base.specs.Programs.{Program, code_at}
pub use Rattle.bn_base.specs.declared.row.Row.{Row}
pub use Rattle.bn_base.specs.declared.settings.RawSettings.{RawSettings}
pub use Rattle.bn_base.specs.declared.state.HartState.{HartState}
pub use Rattle.hart_replay.specs.Coming.{after_row}
pub use Rattle.race_log.specs.Kept.{access_point}
pub use Rattle.race_log.specs.Points.{Point, Writes}
pub use Rattle.race_log.specs.declared.mode.Mode.TheVariants.{Read, Write}
pub use Rattle.run_model.specs.Machine.{call_of, filled, word_count}
pub use Rattle.run_model.specs.Rows.{rows_in, rows_of, turn_rows}
pub use Rattle.run_model.specs.Runs.{legal_from, run_of, start}
pub use Rattle.run_model.specs.Turn.{Run, ask_at, is_orderly, turn}
pub use Rattle.rv_meaning.specs.Rows.{at_address}
pub use Rattle.rv_meaning.specs.Words.{aligned}
