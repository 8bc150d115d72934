-- A store that notes how much it was given, and the saves of small logs.
use Rattle.std.specs.Prelude.{◌+◌, [], ◌∷◌, length, Option, Some, None}
use Rattle.bn_outside.specs.StoreCalls.{LoadCall, SaveCall}
use Rattle.log_commands.specs.FileCalls.{Note}
use Rattle.log_commands.specs.Told.{Saved}

-- it notes 1 for each call, and the number of a save's bytes
abbrev pub by_size : Note
by_size noted (LoadCall name limit) = noted + 1
by_size noted (SaveCall name bytes) = noted + 1 + length bytes

-- a log of two bytes, alone
abbrev pub a_log : Option Saved
a_log = Some (record { log = 7 ∷ 8 ∷ []; book = None })

-- the same log with a list of one turn
abbrev pub a_recording : Option Saved
a_recording = Some (record { log = 7 ∷ 8 ∷ []; book = Some (0 ∷ []) })
