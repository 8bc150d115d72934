-- The replays of small recordings.
use Rattle.std.specs.Prelude.{ℕ, ◌==◌, ◌∷◌, [], not, filter, List}
use Rattle.replay_laws.specs.Common.{Record, Replayed, replayed, Recording, program_of, recorded, an_exit, a_call_at_full_length, kept_of}
use Rattle.log_record.specs.Spelling.{tag_of}

-- the replay of interval n of hart h from what is kept of a recording
abbrev pub replay_of : Recording → (h n : ℕ) → Replayed
replay_of e h n = replayed (program_of e) (kept_of e.settings (recorded e)) h n

-- two intervals, of which the log has room for the second alone
abbrev pub a_short_log : Recording
a_short_log = record a_call_at_full_length { settings = record a_call_at_full_length.settings { log_size = 300 } }

-- the records of a recording but for those of this tag
abbrev pub without : ℕ → Recording → List Record
without tag e = filter (λ r. not (tag_of r == tag)) (recorded e).stream

-- a program that exits with 6, in the place of one that exits with 5
abbrev pub another_exit : Recording
another_exit = record an_exit { words = 0x00600513 ∷ 0x05d00893 ∷ 0x00000073 ∷ [] }
