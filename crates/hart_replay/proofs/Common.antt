-- What several files of proofs/ cite of other crates and of specs/. They import it from here, by one line.
pub use Rattle.std.proofs.Common.{Bool, Err, IfErr, IsTrue, List, None, Ok, OnOk, Option, Result, Some, [], add-zero, add_assoc, ap, arith, bit_and, bit_or, cond, drop, eq-eqb, false, get_or, get_or-set_other, get_or-set_same, if◌then◌else◌, inl, inr, is_some, length, length-drop, lt-ltb, nat_eq, nat_lt, ne_eqb, not, refl, replicate, rules, set, slice_get, slice_index, slice_set, subst, suc, sym, take, true, zero, ℕ, ◌%◌, ◌&&◌, ◌*◌, ◌++◌, ◌+◌, ◌-◌, ◌/◌, ◌<◌, ◌==◌, ◌^◌, ◌||◌, ◌∙◌, ◌∷◌, ◌≡◌, ◌≢◌, ◌≤◌, ◌⊎◌}
pub use Rattle.std.proofs.lemmas.Bool.{cases_eq, cases_lt, false≢true}
pub use Rattle.std.proofs.lemmas.Bool.Decides.{eqb_tells, nat_tests}
pub use Rattle.std.proofs.lemmas.Option.{get_or_from_slice_get, slice_get_past, slice_get_read}
pub use Rattle.bn_base.specs.Faults.{fault_number}
pub use Rattle.bn_base.specs.Programs.{Program, code_at}
pub use Rattle.bn_base.specs.declared.end_mark.EndMark.{EndMark}
pub use Rattle.bn_base.specs.declared.fault.Fault.{Fault}
pub use Rattle.bn_base.specs.declared.row.Row.{Row}
pub use Rattle.bn_base.specs.declared.state.HartState.{HartState}
pub use Rattle.log_record.specs.declared.record.Record.{Record}
pub use Rattle.log_record.specs.declared.record.Record.TheVariants.{Edge, End, FirstLoad, Header, ScFailed, ScOk}
pub use Rattle.rv_meaning.specs.Access.{amo_result, stored_word}
pub use Rattle.rv_meaning.specs.Execute.{Asks, Quiet, Step, absorbed, after, ask_of, count_up, count_up_if, step}
pub use Rattle.rv_meaning.specs.Lookups.{destination, fetched}
pub use Rattle.rv_meaning.specs.Rows.{at_address, call_row, fault_row, instruction_in, known, row_of}
pub use Rattle.rv_meaning.specs.Words.{aligned}
pub use Rattle.rv_meaning.specs.declared.asks.Ask.{Ask}
pub use Rattle.rv_meaning.specs.declared.asks.Reply.{Reply}
pub use Rattle.rv_meaning.specs.declared.asks.Reply.TheVariants.{Answer, Over, Stored, Word}
pub use Rattle.rv_meaning.specs.declared.asks.Want.{Want}
pub use Rattle.rv_meaning.specs.declared.asks.Want.TheVariants.{Amo, Cut, Faulted, Load, LoadReserved, Store, StoreConditional, System}
pub use Rattle.hart_replay.specs.Coming.{Begins, Replaying, Stepped, a_word_comes, after_row, outcome_only, reply_in, to_come, with_rows, without_rows}
pub use Rattle.hart_replay.specs.Cursors.{CursorDoes, DoneAndKept, answered, cursor_to_come, interval_of_cursor, next_of, position_of, side_of}
pub use Rattle.hart_replay.specs.DecodeCaches.{AreLookups, CacheOf, IsLookup}
pub use Rattle.hart_replay.specs.Directories.{and_page, is_of, listed, page_at, page_in, place_for, place_in, stands_at}
unfoldable pub use Rattle.hart_replay.specs.Directories.{page_count, pages_of}
pub use Rattle.hart_replay.specs.Pages.{Frame, Known, cleared, marked, word_at, word_in, word_of}
pub use Rattle.hart_replay.specs.Replay.{Done, Interval, Logged, Next, On, Outcome, Position, Refused, Replayed, Stop, after_ask, after_sc, ask_step, call_reason, ended, fault_end, finish, first, found, interval_from, interval_of, left_over, logged, logged_from, missing, nothing, one_step, onto, or_else, put, puts, replayed_in, slot, steps, taken_from, word_for}
pub use Rattle.hart_replay.specs.Scans.{IsWaiting, Pending, conditionals_in, due, first_of, loads_in, mark_in, met, rest_of}
pub use Rattle.hart_replay.specs.Sides.{Alike, Does, Goes, Keeps, KeepsWord, Side, call_answer, fault_in, interval_at, later, left_by, outcome_of, position_at, rows_below, side, side_to_come, word_due, word_row}
unfoldable pub use Rattle.hart_replay.specs.Sides.{word_count}
pub use Rattle.hart_replay.specs.declared.decode_cache.Lookup.{Lookup}
pub use Rattle.hart_replay.specs.declared.error.ReplayError.{ReplayError}
pub use Rattle.hart_replay.specs.declared.error.ReplayError.TheVariants.{EndDiffers, LoadMissing, OutOfMemory, RecordsLeft, ScMissing}
pub use Rattle.hart_replay.specs.declared.interval_cursor.IntervalCursor.{IntervalCursor}
pub use Rattle.hart_replay.specs.declared.words.TaggedPage.{TaggedPage}
