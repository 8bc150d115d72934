-- What several files of proofs/ cite of other crates and of specs/. They import it from here, by one line.
pub use Rattle.std.proofs.Common.{Bool, Err, List, None, Ok, OnOk, Option, Result, Some, [], add-mul, ap, append-nil, append_assoc, arith, div-add-mod', drop, eq-eqb, false, inl, inr, is_err, length, length-append, length-take-le, map, mul-le-mul_right, one-mul, refl, slice_get, slice_index_or, subst, suc, sym, take, take-append-drop, take-take, take_all, true, zero, ℕ, ◌%◌, ◌&&◌, ◌*◌, ◌++◌, ◌+◌, ◌-◌, ◌/◌, ◌<◌, ◌==◌, ◌∙◌, ◌∷◌, ◌≡◌, ◌≢◌, ◌≤◌, ◌⊎◌}
pub use Rattle.std.proofs.lemmas.Option.{same_Some, slice_get_within}
pub use Rattle.std.proofs.lemmas.Bool.{cases_eq, cases_lt, false≢true}
pub use Rattle.std.proofs.lemmas.List.{drop-take, drop_more, take-append-le, take_more}
pub use Rattle.hart_replay.specs.declared.error.ReplayError.{ReplayError}
pub use Rattle.joint_replay.specs.Calls.{Steps, bare, state_at, stepped_of}
pub use Rattle.joint_replay.specs.Joining.{Joining, Walk, begun, coming, first_waited, fresh, is_passed, longer, move, next_step, readiness, readiness_of, waits_for}
pub use Rattle.joint_replay.specs.Lanes.{Cursor, Doing, Ending, Item, Lane, Passing, coming_of, lane_step, point_of, state_of}
pub use Rattle.joint_replay.specs.Orders.{ready_step, walk_on}
pub use Rattle.joint_replay.specs.declared.kinds.Readiness.{Readiness}
pub use Rattle.back_step.specs.Traces.{IsGoneBack, Trace, Trailed, cut, entries_of, entry_of, entry_told, harts_of, state_after}
pub use Rattle.back_step.specs.Trails.{CanTake, GoesOnFrom, HasCopies, IsBackAt, IsTrail, LeadsBy, Took, trailed, with_copy}
pub use Rattle.back_step.specs.declared.entry.Entry.{Entry}
