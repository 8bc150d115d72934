-- The texts of marks and of the ends of intervals.
use Rattle.std.specs.Prelude.{ℕ, List, ◌++◌, codes, decimal}
use Rattle.bn_base.specs.EndMarks.{reason_word}
use Rattle.bn_base.specs.declared.end_mark.EndMark.{EndMark}
use Rattle.rv_text.specs.Instructions.{hex8}

-- how an interval ended: the count, the reason and the value
unfoldable pub mark_text : EndMark → List ℕ
mark_text mark = decimal mark.ic ++ codes " " ++ reason_word mark.reason ++ codes " " ++ hex8 mark.value

-- the line of an interval's end
unfoldable pub end_text : ℕ → ℕ → EndMark → List ℕ
end_text hart interval mark = codes "end " ++ decimal hart ++ codes " " ++ decimal interval ++ (codes " " ++ mark_text mark ++ codes "\n")
