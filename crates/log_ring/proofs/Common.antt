-- What several files of proofs/ cite of other crates and of specs/. They import it from here, by one line.
pub use Rattle.std.proofs.Common.{Bool, IsTrue, List, None, Option, Some, [], ap, append-nil, append_assoc, ap₂, arith, drop, drop_at, inl, inr, le-leb, length, length-append, refl, slice_get, slice_index, subst, suc, sym, unwrap_or, zero, ℕ, ◌*◌, ◌++◌, ◌+◌, ◌-◌, ◌^◌, ◌<◌, ◌==◌, ◌↔◌, ◌∙◌, ◌∷◌, ◌≡◌, ◌≤◌}
pub use Rattle.std.specs.List.{AllByRecursion, flat_map}
pub use Rattle.circular_buffer.specs.Buffer.{Buffer, buffer, keep_last}
pub use Rattle.log_record.specs.Laws.{AreRead, TellTheirSize}
pub use Rattle.log_record.specs.Spelling.{Fits, bytes_of, size_of, total}
pub use Rattle.log_record.specs.declared.record.Record.{Record}
pub use Rattle.log_record.specs.declared.record.Record.TheVariants.{Edge, End, FirstLoad, Header, ScFailed, ScOk}
pub use Rattle.log_ring.specs.Kept.{AppendsAll, GivesUp, Held, HoldsLog, held}
unfoldable pub use Rattle.log_ring.specs.Kept.{kept}
pub use Rattle.log_ring.specs.Whole.{IsWhole, Oldest, records_in}
unfoldable pub use Rattle.log_ring.specs.Whole.{cut}
