-- The text of a joint replay.
use Rattle.std.specs.Prelude.{ℕ, List, [], ◌∷◌, ◌++◌, codes, decimal, Some, None}
use Rattle.std.specs.List.{flat_map}
use Rattle.rv_text.specs.Instructions.{hex8}
use Rattle.rv_text.specs.Rows.{row_text}
use Rattle.rv_text.specs.Marks.{end_text}
use Rattle.joint_replay.specs.declared.kinds.Stepped.{Stepped}
use Rattle.joint_replay.specs.declared.kinds.Stepped.TheVariants.{Passed, Did, Ended}
use Rattle.joint_replay.specs.Lanes.{Item, Passing, Doing, Ending}
use Rattle.joint_replay.specs.Joining.{Taken, Ran}

-- the line of an ordering point
unfoldable pub pass_text : ℕ → ℕ → List ℕ
pass_text hart ic = codes "pass " ++ decimal hart ++ codes " " ++ decimal ic ++ codes "\n"

-- the line of a known word
unfoldable pub known_text : ℕ × ℕ → List ℕ
known_text m = codes "word " ++ hex8 m.0 ++ codes "=" ++ hex8 m.1 ++ codes "\n"

-- the line of a step, as a caller is told of it
abbrev pub stepped_text : Stepped → List ℕ
stepped_text (Passed h ic) = pass_text h ic
stepped_text (Did row) = row_text row
stepped_text (Ended h n m) = end_text h n m

-- the line of a step
abbrev pub item_text : ℕ → Item → List ℕ
item_text h (Passing ic) = pass_text h ic
item_text h (Doing before row) = row_text row
item_text h (Ending n m) = end_text h n m

-- the lines of steps, which are given latest first
abbrev pub steps_text : List Taken → List ℕ
steps_text [] = []
steps_text (t ∷ ts) = steps_text ts ++ item_text t.hart t.item

-- the lines of the known words
abbrev pub memory_text : List (ℕ × ℕ) → List ℕ
memory_text ms = flat_map known_text ms

-- the text of the command `joint`: the steps, and then the known words, unless it stopped
abbrev pub joint_text : Ran → List ℕ
joint_text r = elim r.stopped [ None ↦ steps_text r.walk.taken ++ memory_text r.walk.now.memory | Some e ↦ steps_text r.walk.taken ]
