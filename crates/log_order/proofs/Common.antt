-- What several files of proofs/ cite of other crates and of specs/. They import it from here, by one line.
pub use Rattle.std.proofs.Common.{Bool, Err, List, None, Ok, Option, Result, Some, [], ap, append_assoc, arith, eq-eqb, false, if◌then◌else◌, le-leb, length, length-append, length-set, lt-ltb, max, nat_le, nat_lt, ne_eqb, not, refl, replicate, slice_get, slice_set, subst, suc, sym, true, zero, ℕ, ◌&&◌, ◌++◌, ◌+◌, ◌<◌, ◌==◌, ◌^◌, ◌||◌, ◌∙◌, ◌∷◌, ◌≡◌, ◌≢◌, ◌≤◌}
pub use Rattle.std.specs.List.{AllByRecursion, list_any}
pub use Rattle.std.proofs.lemmas.Bool.{and_from, and_parts, le-ltb, lt-leb, not-false, or_from, or_parts}
pub use Rattle.bn_base.specs.declared.end_mark.EndMark.{EndMark}
pub use Rattle.log_record.specs.Spelling.{bytes_of, hart_of, total}
pub use Rattle.log_record.specs.declared.record.Record.{Record}
pub use Rattle.log_record.specs.declared.record.Record.TheVariants.{Edge, End, FirstLoad, Header, ScFailed, ScOk}
pub use Rattle.log_order.specs.Order.{at_place, broken_by, broken_in, has_source, is_from, is_late, is_past, order_break, order_limits_of, step_at, ◌>>=◌}
unfoldable pub use Rattle.log_order.specs.Order.{after_all, broken, end_break, late_edge, step}
pub use Rattle.log_order.specs.Rules.{after_one, fresh, goes_on, has_edge, has_end, is_awaited, is_done, is_number, is_unfinished, next_number, phase_after, takes_header, takes_other}
unfoldable pub use Rattle.log_order.specs.Rules.{after_edge, after_end, after_header, after_other}
pub use Rattle.log_order.specs.Weak.{AreWeak, IsWeak, IsWeakNumber, IsWeakPhase}
pub use Rattle.log_order.specs.declared.view.HartView.{HartView}
pub use Rattle.log_order.specs.declared.view.OrderLimits.{OrderLimits}
pub use Rattle.log_order.specs.declared.view.Phase.{Phase}
pub use Rattle.log_order.specs.declared.view.Phase.TheVariants.{Awaiting, Done, Open, Unknown}
pub use Rattle.log_order.specs.declared.walk.OrderBreak.{OrderBreak}
