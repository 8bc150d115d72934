-- What is handed over after a whole run.
use Rattle.std.specs.Prelude.{◌≡◌, ℕ, Bool, true, false, List, length}
use Rattle.whole_runs.specs.Common.{AllByRecursion, RawSettings, TurnRow, has_finished, are_orderly, IsLawful, Began, marks, first_run, run_after, Closed}
use Rattle.log_record.specs.Spelling.{Fits}
use Rattle.log_ring.specs.Kept.{HoldsLog}
use Rattle.log_order.specs.Content.{IsContent}
use Rattle.run_laws.specs.Ends.{AreLastMarks}
use Rattle.file_laws.specs.Recorded.{ring_content}
use Rattle.whole_runs.specs.Lists.{list_run, list_rows, is_legal, is_finished}

-- a closed bus after the turns of a legal and finished list. It has the streams, the last marks, the number of turns, the log
-- of the run in its ring, and the rows, if a book told them
pub record IsClosed {B : _} (tells : Bool) (b : Began) (list : List ℕ) (closed : Closed B) (rows : List TurnRow) : Type 0 where
  pub legal : is_legal b list ≡ true
  pub over : is_finished b list ≡ true
  pub finished : closed.finished ≡ true
  pub out : closed.out.items ≡ (list_run b list).machine.out
  pub err : closed.err.items ≡ (list_run b list).machine.err
  pub ends : closed.ends.items ≡ marks 0 b.settings.harts (list_run b list).harts
  pub turns : closed.turns ≡ length list
  pub size : closed.ring.size ≡ b.settings.log_size
  pub log : HoldsLog closed.ring (list_run b list).stream
  pub told : tells ≡ true → rows ≡ list_rows b list

-- A closed bus after lawful rows, all of orderly asks, that leave no hart live. It has the streams, the last marks, the
-- number of turns, and in the ring the log, whose records fit their fields. The last kept End of a hart has its last mark
pub record IsOfRows {B : _} (b : Began) (closed : Closed B) (rows : List TurnRow) : Type 0 where
  pub lawful : IsLawful b.settings b.image (first_run b) rows
  pub orderly : are_orderly b.settings b.image (first_run b) rows ≡ true
  pub over : has_finished b.settings (run_after b false rows) ≡ true
  pub out : closed.out.items ≡ (run_after b false rows).machine.out
  pub err : closed.err.items ≡ (run_after b false rows).machine.err
  pub ends : closed.ends.items ≡ marks 0 b.settings.harts (run_after b false rows).harts
  pub turns : closed.turns ≡ (run_after b false rows).turns
  pub log : HoldsLog closed.ring (run_after b false rows).stream
  pub fit : AllByRecursion (Fits 2) closed.ring.records
  pub last_marks : AreLastMarks closed.ring.records closed.ends.items

-- with each digest of 32 bytes as that of the program's file, its ring holds what a log of these settings can say
abbrev pub HoldsContent : {B : _} → RawSettings → Closed B → Type 0
HoldsContent c closed = (digest : List ℕ) → length digest ≡ 32 → IsContent (ring_content c digest closed.ring)
