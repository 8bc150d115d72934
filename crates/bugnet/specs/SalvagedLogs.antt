-- What is salvaged of a recording's damaged file is replayed as it was recorded.
use Rattle.std.specs.Prelude.{◌≡◌, ◌≤◌, ℕ, List, ◌∷◌, ◌++◌, length, Some, None}
use Rattle.bugnet.specs.Common.{sha256, Files, ReplayLine, Interval, interval_of, Block, blocks_of, file_bytes2, Content, kept_of, dropped_of, run_of, IsRecording, Told, printed}
use Rattle.log_blocks.specs.Fields.{head_in}
use Rattle.log_blocks.specs.File.{IsSalvaged}
use Rattle.log_blocks.specs.Laws.{pieces_of}
use Rattle.bugnet.specs.Answers.{IsAnswer}
use Rattle.bugnet.specs.Headline.{Part, run_text, SaysEnd}

-- a log is salvaged of these bytes, and what is undamaged of them is a recording's: the head, and at the end some of its
-- blocks, all from some one on
pub record SalvagesRun (p : Part) (bytes : List ℕ) (d : Content) : Type 0 where
  pub recording : IsRecording p.settings p.program p.elf p.input p.turns
  pub salvaged : IsSalvaged bytes d
  pub head : head_in bytes ≡ record { settings = p.settings; digest = sha256 p.elf }
  pub front : List Block
  pub first : Block
  pub back : List Block
  pub blocks : blocks_of (dropped_of p.settings (run_of p.settings p.program p.input p.turns)) (kept_of p.settings (run_of p.settings p.program p.input p.turns)) ≡ front ++ first ∷ back
  pub pieces : salvaged.pieces ≡ pieces_of (first ∷ back)

-- What is saved of it says an end of the recording's records
abbrev pub SalvagedSayEnds : Type 0
SalvagedSayEnds = (p : Part) (bytes : List ℕ) (d : Content) → SalvagesRun p bytes d → SaysEnd p.settings p.program p.elf p.input p.turns (file_bytes2 d)

-- The replay of each interval whose Header a salvaged log has prints the recorded run's rows
abbrev pub SalvagedAreReplayed : Type 0
SalvagedAreReplayed = (p : Part) (bytes : List ℕ) (d : Content) → SalvagesRun p bytes d → (v : Interval) → interval_of p.hart p.number d.records ≡ Some v → length p.elf ≤ 67108864
    → (files : Files) (log elf : List ℕ) → files log ≡ Some (file_bytes2 d) → files elf ≡ Some p.elf
    → (what : Told) → IsAnswer None (Some (ReplayLine log elf p.hart p.number)) files what → what ≡ printed (run_text p v)
