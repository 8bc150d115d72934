-- What the worked lines say.
use Rattle.std.specs.Prelude.{List, ◌∷◌, [], Option, Some, None, false, codes}
use Rattle.clap.specs.Words.{Text}
use Rattle.bn_base.specs.Ranges.{default_settings}
use Rattle.command_words.specs.Words.{Line, RecordingLine, line_of}

-- what words after the program's name say
abbrev pub said : List Text → Option Line
said words = line_of (codes "bugnet" ∷ words)

-- the recording of E with seed 5 under L and B, by default settings, without input and with a list of turns
abbrev pub plain : RecordingLine
plain = record { settings = default_settings; seed = Some 5; lean = false; input = None; elf = codes "E"; log = codes "L"; book = codes "B" }

-- the words of a recording with format 2 and a second level of caches
abbrev pub two_level_words : List Text
two_level_words = codes "record" ∷ codes "--format=2" ∷ codes "--sets2=4096" ∷ codes "E" ∷ codes "L" ∷ codes "B" ∷ codes "--seed=5" ∷ codes "--ways2=1" ∷ []

-- the recording that these words ask for
abbrev pub two_levels : RecordingLine
two_levels = record plain { settings = record default_settings { format = 2; sets2 = 4096; ways2 = 1 } }
