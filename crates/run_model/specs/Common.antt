-- What several files of specs/ and src/ cite of other crates. They import it from here, by one line.
pub use Rattle.bn_base.specs.Programs.{Part, Program, code_at, first_at, heap_start, may_load}
pub use Rattle.bn_base.specs.Ranges.{IsSetting, default_settings}
pub use Rattle.bn_base.specs.declared.row.Row.{Row}
pub use Rattle.bn_base.specs.declared.settings.RawSettings.{RawSettings}
pub use Rattle.bn_base.specs.declared.state.HartState.{HartState}
pub use Rattle.bus_memory.specs.Contents.{HasPages, HoldsMap, has_page, updated}
pub use Rattle.first_load_bits.specs.Events.{Clear, Drop, Event, Touch}
pub use Rattle.first_load_bits.specs.Represents.{Contents, RepresentsEvents, geometry_of, no_contents}
pub use Rattle.first_load_bits.specs.declared.warm.Warm.{Warm}
pub use Rattle.log_record.specs.Spelling.{is_mark, is_marked, tag_of, total}
pub use Rattle.log_record.specs.declared.record.Record.{Record}
pub use Rattle.log_record.specs.declared.record.Record.TheVariants.{Edge, End, FirstLoad, Header, ScFailed, ScOk}
pub use Rattle.log_ring.specs.Kept.{HoldsLog, held, kept}
pub use Rattle.race_log.specs.Kept.{access_point, after}
pub use Rattle.race_log.specs.Points.{Point}
pub use Rattle.race_log.specs.Represents.{KnowsSame, RepresentsAccesses, harts_of, kept_of, lasting_of, lasts, next_count, next_turn, reserved_range, times_of, unswept_of, words_of}
pub use Rattle.race_log.specs.declared.mode.Mode.TheVariants.{Read, Write}
pub use Rattle.race_log.specs.declared.shadow.Shadow.{Shadow}
pub use Rattle.rv_meaning.specs.Access.{amo_result, stored_word}
pub use Rattle.rv_meaning.specs.Ahead.{AsksThere, Walking}
pub use Rattle.rv_meaning.specs.Execute.{Asks, Quiet, absorbed, ask_of, count_up, step}
pub use Rattle.rv_meaning.specs.Orderly.{is_aligned, is_cut, is_reply_to, orderly, passes}
pub use Rattle.rv_meaning.specs.Rows.{call_row, fault_row, instruction_in, row_of}
pub use Rattle.rv_meaning.specs.Words.{add, aligned, bytes_at, with_bytes}
pub use Rattle.rv_meaning.specs.declared.asks.Ask.{Ask}
pub use Rattle.rv_meaning.specs.declared.asks.Reply.{Reply}
pub use Rattle.rv_meaning.specs.declared.asks.Want.{Want}
pub use Rattle.rv_meaning.specs.declared.asks.Want.TheVariants.{Amo, Cut, Faulted, Load, LoadReserved, Store, StoreConditional, System}
pub use Rattle.system_calls.specs.Calls.{IsWithin, plan_of, stream_size}
pub use Rattle.system_calls.specs.declared.effect.Plan.{Plan}
pub use Rattle.system_calls.specs.declared.kernel.Kernel.{Kernel}
