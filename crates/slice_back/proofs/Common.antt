-- What several files of proofs/ cite of other crates and of specs/. They import it from here, by one line.
pub use Rattle.std.proofs.Common.{Bool, Err, IsSome, List, None, Ok, Option, Result, Some, [], add-one, ap, append-nil, append_assoc, arith, bit_and, bit_or, bit_xor, cond, drop, false, get_or, if◌then◌else◌, inl, inr, is_some, length, length-drop, map, nat_lt, not, refl, replicate, reverse, set, slice_get, slice_index, subst, suc, sym, take, true, zero, ℕ, ◌%◌, ◌&&◌, ◌*◌, ◌++◌, ◌+◌, ◌-◌, ◌/◌, ◌<◌, ◌==◌, ◌^◌, ◌||◌, ◌↔◌, ◌∙◌, ◌∷◌, ◌≡◌, ◌≢◌, ◌≤◌, ◌⊎◌}
pub use Rattle.std.proofs.lemmas.Bool.{and_from, and_parts, eq-eqb, eqb-true, not-true, or_cases, or_left, or_right, not_from_false}
pub use Rattle.std.proofs.Math.Seq.{drop-cons}
pub use Rattle.std.proofs.lemmas.Bool.Decides.{eqb_tells}
pub use Rattle.std.proofs.lemmas.Grind.{common_steps}
pub use Rattle.std.specs.List.{flat_map}
pub use Rattle.bn_base.specs.Faults.{fault_number}
unfoldable pub use Rattle.bn_base.specs.Faults.{fault_name}
pub use Rattle.bn_base.specs.Programs.{Program, code_at, may_load, may_store}
pub use Rattle.bn_base.specs.Registers.{put_reg}
pub use Rattle.bn_base.specs.declared.end_mark.EndMark.{EndMark}
pub use Rattle.bn_base.specs.declared.fault.Fault.{Fault}
pub use Rattle.bn_base.specs.declared.fault.Fault.TheVariants.{FetchOutside, LoadMisaligned, LoadOutside, StoreMisaligned, StoreOutside, StoreReadOnly, TargetMisaligned}
pub use Rattle.bn_base.specs.declared.row.Row.{Row}
pub use Rattle.bn_base.specs.declared.state.HartState.{HartState}
pub use Rattle.hart_replay.specs.Laws.{AreMetByPlace}
pub use Rattle.hart_replay.specs.Replay.{Done, Interval, Logged, Next, On, Outcome, Position, Refused, Replayed, Stop, after_ask, after_sc, ask_step, call_reason, ended, fault_end, finish, first, found, interval_of, left_over, logged, missing, nothing, one_step, onto, or_else, put, puts, replayed, replayed_in, slot, steps, word_for}
pub use Rattle.hart_replay.specs.Scans.{IsWaiting, Pending, due, loads_in, met, scanned}
pub use Rattle.hart_replay.specs.Sides.{call_answer, call_reg}
pub use Rattle.hart_replay.specs.declared.error.ReplayError.TheVariants.{EndDiffers, ScMissing}
pub use Rattle.log_record.specs.declared.record.Record.{Record}
pub use Rattle.rv_decode.specs.Table.{Instruction, decoded, fits, row_in, spelled, spelled_by, table}
pub use Rattle.rv_decode.specs.declared.name.Name.{Name}
pub use Rattle.rv_meaning.specs.Access.{amo_result, loaded_value, stored_word}
pub use Rattle.rv_meaning.specs.Execute.{Asks, Quiet, Step, absorbed, after, amo, branch, count_up, count_up_if, executed, fetched, imm, is_exit, jump, load, load_or, meaning, near, next_at, next_with, reg, src1, src2, step, store, store_or, there}
pub use Rattle.rv_meaning.specs.Rows.{at_address, call_row, fault_row, instruction_in, known, row_of, written}
pub use Rattle.rv_meaning.specs.Words.{add, aligned, div_signed, div_unsigned, flag, high_mixed, high_signed, high_unsigned, less, mul, rem_signed, rem_unsigned, shift_left, shift_right, shift_right_signed, sub}
pub use Rattle.rv_meaning.specs.declared.asks.Ask.{Ask}
pub use Rattle.rv_meaning.specs.declared.asks.Reply.{Reply}
pub use Rattle.rv_meaning.specs.declared.asks.Reply.TheVariants.{Answer, Over, Stored, Word}
pub use Rattle.rv_meaning.specs.declared.asks.Want.{Want}
pub use Rattle.rv_meaning.specs.declared.asks.Want.TheVariants.{Amo, Cut, Faulted, Load, LoadReserved, Store, StoreConditional, System}
pub use Rattle.slice_back.specs.Agreeing.{AllAlike, AreAlike, RowsUpTo, SliceSuffices, WordsAgree, address_of, bare, took_word}
pub use Rattle.slice_back.specs.Needs.{InSlice, Needs, TakenBy, at, passes}
pub use Rattle.slice_back.specs.Passes.{TellsLive}
pub use Rattle.slice_back.specs.Sets.{has_register}
pub use Rattle.slice_back.specs.Slices.{Live, before, gives, in_slice, is_last, live, live_before, note, noted, noted_from, passed, register_if, row_if, slice_branches, slice_in, slice_of, slice_or, slice_regs, slice_rows, slice_words, stores_live, taken, up_to, wanted, word_if, writes_live}
unfoldable pub use Rattle.slice_back.specs.Slices.{registers_from}
pub use Rattle.slice_back.specs.Texts.{IsTextAnswer, slice_text, text_of}
unfoldable pub use Rattle.slice_back.specs.Texts.{branch_line, head_text, register_line, word_line}
pub use Rattle.slice_back.specs.Uses.{is_branch, is_call, is_of, is_part_store, is_word, part_stored, reads, stores_part, stores_word, takes_word, took, used_word, uses_register, uses_word, word_of, writes_register}
pub use Rattle.slice_back.specs.declared.error.SliceError.{SliceError}
pub use Rattle.slice_back.specs.declared.error.SliceError.TheVariants.{NoRow, OutOfMemory, Replay}
pub use Rattle.slice_back.specs.declared.lists.Slice.{Slice}
pub use Rattle.slice_back.specs.declared.noted.Noted.{Noted}
