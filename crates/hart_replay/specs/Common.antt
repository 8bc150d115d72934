-- What several files of specs/ and src/ cite of other crates. They import it from here, by one line.
pub use Rattle.bn_base.specs.Programs.{Program, code_at}
pub use Rattle.bn_base.specs.declared.end_mark.EndMark.{EndMark}
pub use Rattle.bn_base.specs.declared.row.Row.{Row}
pub use Rattle.bn_base.specs.declared.state.HartState.{HartState}
pub use Rattle.log_record.specs.declared.record.Record.{Record}
pub use Rattle.rv_decode.specs.Seen.{seen}
pub use Rattle.rv_meaning.specs.Execute.{Asks, Quiet, absorbed, after, ask_of, count_up, step}
pub use Rattle.rv_meaning.specs.Lookups.{destination, done_row, fetched}
pub use Rattle.rv_meaning.specs.Rows.{call_row, fault_row, instruction_in, known, row_of}
pub use Rattle.rv_meaning.specs.Words.{aligned}
pub use Rattle.rv_meaning.specs.declared.asks.Reply.{Reply}
pub use Rattle.rv_meaning.specs.declared.asks.Reply.TheVariants.{Answer, Over, ScFailed, ScOk, Stored, Word}
pub use Rattle.rv_meaning.specs.declared.asks.Want.{Want}
pub use Rattle.rv_meaning.specs.declared.asks.Want.TheVariants.{Amo, Cut, Faulted, Load, LoadReserved, Store, StoreConditional, System}
