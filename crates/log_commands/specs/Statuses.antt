-- The numbers that the process ends with.
use Rattle.std.specs.Prelude.{ℕ}
use Rattle.log_commands.specs.declared.status.Status.{Status}
use Rattle.log_commands.specs.declared.status.Status.TheVariants as exit

-- the number of each status
abbrev pub code : Status → ℕ
code exit.Done = 0
code exit.WordsRefused = 2
code exit.StoreFailed = 3
code exit.Missing = 4
code exit.TooLong = 5
code exit.ElfRefused = 6
code exit.LogRefused = 7
code exit.ProgramDiffers = 8
code exit.OutOfMemory = 9
code exit.Fault = 10
code exit.Limit = 11
code exit.ReadFailed = 12
code exit.WriteFailed = 13
code exit.NoInterval = 14
code exit.ReplayStopped = 15
code exit.FileDiffers = 16
code exit.BookRefused = 17
code exit.CommandsTooLong = 18
code exit.NothingLeft = 19
code exit.TooManyRaces = 20
code exit.NoRow = 21
