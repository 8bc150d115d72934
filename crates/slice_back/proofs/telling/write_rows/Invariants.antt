use Rattle.slice_back.proofs.Common.{◌≡◌, ◌++◌, drop, flat_map}
use Rattle.rv_text.specs.Rows.{row_text}
use Rattle.slice_back.proofs.telling.write_rows.Given as goal

abbrev pub invariant-loop-row : goal.invariant-loop-row
invariant-loop-row l = l.text ++ flat_map row_text (drop l.row-index l.rows) ≡ l.fn.text ++ flat_map row_text l.rows
