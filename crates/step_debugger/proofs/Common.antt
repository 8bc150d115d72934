-- What several files of proofs/ cite of other crates and of specs/. They import it from here, by one line.
pub use Rattle.std.proofs.Common.{Bool, Err, List, None, Ok, Option, Result, Some, [], ap, append-nil, append_assoc, ap₂, arith, codes, drop, false, get_or, inl, inr, length, length-append, map, nat_lt, pow-suc, refl, replicate, slice_get, slice_set, subst, suc, sym, take, take_all, true, zero, ℕ, ◌*◌, ◌++◌, ◌+◌, ◌-◌, ◌<◌, ◌^◌, ◌∙◌, ◌∷◌, ◌≡◌, ◌≤◌, ◌⊎◌}
pub use Rattle.std.proofs.lemmas.Option.{same_Some}
pub use Rattle.std.proofs.KnownBytes.{Appends-nil, Appends-trans, Consumes-nil, Consumes-trans}
pub use Rattle.std.proofs.lemmas.List.{drop_more, take-append-le}
pub use Rattle.std.specs.Io.KnownBytes.{Appends, Consumes}
pub use Rattle.back_step.specs.Traces.{Trace, Trailed, entry_of, trace_step, with_entry}
pub use Rattle.bn_outside.specs.Counts.{Rose}
pub use Rattle.bn_outside.specs.Streams.{AppendsPart, AppendsShort, ConsumesAll, EndsExactly, ReadNote, Stream, Supply, noted_after}
pub use Rattle.joint_replay.specs.Joining.{Joining, choice, move, next_step, readiness, steps_left}
pub use Rattle.step_debugger.specs.Answers.{Answer, Moves, Session, answer, begin_at, go_by, go_on, go_past, hart_place, places_from, says, step_by, step_up_to, stop_before, stop_below, stop_unless}
unfoldable pub use Rattle.step_debugger.specs.Answers.{address_text, at_text, four_text, half_text, hart_done_text, hart_text, place_text, point_text, register_text, stop_text, two_text, waits_text, word_text}
pub use Rattle.step_debugger.specs.Commands.{command_of}
pub use Rattle.step_debugger.specs.Goings.{Gathers, GoesOnce, IsAnswered, SendsPart, StaysUnrefused, StepsOnce, Stops, StopsApart, refused_by, session_of}
pub use Rattle.step_debugger.specs.Lines.{EndsTooMany, Input, NextLine, NoLine, Reading, ReadsLine, RefusalsStay, StopsAt, TakesByte, ends_in, input_from, input_limit, input_of, is_line_feed, is_too_long, line_limit, reads_for, with_line}
pub use Rattle.step_debugger.specs.Numbers.{digit_in, number_in, placed, sum_of}
pub use Rattle.step_debugger.specs.Transcript.{AnswersInTurn, Debugged, Debugs, EndsAll, EndsThere, EndsWithLine, InTurn, IsReadOnce, ReadsUpTo, StopsAtEnd, StopsAtLine, Told, WritesUpTo, answered_in, answers, behind, goes_on_by, lines_in, result_by, transcript_from}
pub use Rattle.step_debugger.specs.Turns.{AnswersLine, CutsLine, LineApart, TakesLine}
pub use Rattle.step_debugger.specs.declared.error.DebugError.{DebugError}
pub use Rattle.step_debugger.specs.declared.error.DebugError.TheVariants.{Joint, LineTooLong, OutOfMemory, ReadFault, TooMuch, WriteFault}
pub use Rattle.step_debugger.specs.declared.session.Ending.{Ending}
pub use Rattle.step_debugger.specs.declared.session.Ending.TheVariants.{GoesOn, Quits, Refused}
