-- What several files of proofs/ cite of other crates and of specs/. They import it from here, by one line.
pub use Rattle.std.proofs.Common.{Bool, Err, IfErr, IsErrAnd, List, None, Ok, Option, Result, Some, [], ap, append-nil, append_assoc, arith, drop, drop-cons, eqb-true, false, get_or, get_or-take, inl, inr, length, lt-ltb, nat_lt, refl, replicate, slice_get, subst, suc, sym, take, take-append-drop, take-take, take_all, true, zero, ℕ, ◌&&◌, ◌++◌, ◌+◌, ◌-◌, ◌<◌, ◌==◌, ◌∙◌, ◌∷◌, ◌≡◌, ◌≢◌, ◌≤◌, ◌⊎◌}
pub use Rattle.std.proofs.lemmas.List.{drop_all, get_or-replicate, take-replicate}
pub use Rattle.bn_base.specs.Programs.{Program}
pub use Rattle.bn_base.specs.declared.settings.RawSettings.{RawSettings}
pub use Rattle.log_file.specs.Layout.{file_bytes, file_bytes2, saved_bytes}
unfoldable pub use Rattle.log_file.specs.Layout.{head_bytes2, magic, settings_bytes, signed_bytes}
pub use Rattle.log_order.specs.Content.{Content, content}
pub use Rattle.log_ring.specs.Kept.{Held, HoldsLog, kept}
pub use Rattle.run_model.specs.KeptRecords.{content_of, dropped_of, kept_of}
pub use Rattle.run_model.specs.Lists.{error_from, unfinished}
pub use Rattle.run_model.specs.Represents.Alone.{CanTurn, HasTurned, HaveStopped, HaveTurned, run_alone}
pub use Rattle.run_model.specs.Represents.Plain.{IsRun, PlainParts}
pub use Rattle.run_model.specs.Represents.Turning.{parts}
pub use Rattle.run_model.specs.Runs.{is_live, live_harts, run_from, run_of, start}
pub use Rattle.run_model.specs.Turn.{Run, ask_at, is_orderly, served_if, turn}
unfoldable pub use Rattle.run_model.specs.Turn.{serve}
pub use Rattle.run_model.specs.declared.error.TurnError.TheVariants.{IllegalTurn, NotFinished, OutOfMemory}
pub use Rattle.run_model.specs.declared.start.Start.{Start}
pub use Rattle.log_file.specs.Common.{sha256}
pub use Rattle.run_files.specs.Audits.{BeginsWithZeros, DifferFirst, FilesNumberTheirVersion, IsSealed, IsVerdict, StandsBefore, VerdictsAreUnique, bytes_in, error_in, is_version2, sealed, verdict_from}
