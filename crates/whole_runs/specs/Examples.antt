-- Schedules that a number draws, and lists that are followed, worked out by hand.
use Rattle.std.specs.Prelude.{ℕ, List, [], ◌∷◌}
use Rattle.whole_runs.specs.Common.{default_settings, Manner}
use Rattle.run_model.specs.Examples.{Recording, program_of}
use Rattle.whole_runs.specs.Drawn.{drawn_list}
use Rattle.whole_runs.specs.Followed.{followed}

-- three harts, each of which takes three turns of one instruction: jal zero to itself, up to the limit
abbrev pub three_turns_each : Recording
three_turns_each = record { words = 0x0000006f ∷ []; settings = record default_settings { harts = 3; interval = 1; limit = 3 }; input = []; turns = [] }

-- the hart of each of its turns, as a number draws them
abbrev pub takers : Manner → ℕ → List ℕ
takers m number = drawn_list m three_turns_each.settings (program_of three_turns_each) [] number

-- the hart of each of its turns, if it follows a list
abbrev pub followers : List ℕ → List ℕ
followers list = followed (record { image = program_of three_turns_each; settings = three_turns_each.settings; input = []; digest = [] }) list
