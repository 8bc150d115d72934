-- What holds of all recorded runs.
use Rattle.std.specs.Prelude.{◌≡◌, ℕ, true, List}
use Rattle.race_laws.specs.Common.{Program, RawSettings, TurnRow, Run, start, run_of, legal_from, after_rows, IsLawful}
use Rattle.bn_base.specs.Ranges.{IsSetting}

-- it holds of the run of each legal list of turns
abbrev pub OfLists : (RawSettings → Run → Type 0) → Type 0
OfLists Law = (c : RawSettings) (i : Program) (input b : List ℕ) → IsSetting c → legal_from c i (start c i input) b ≡ true
    → Law c (run_of c i input b)

-- it holds of the run after any lawful rows, whatever their harts asked
abbrev pub OfRows : (RawSettings → Run → Type 0) → Type 0
OfRows Law = (c : RawSettings) (i : Program) (input : List ℕ) (rows : List TurnRow) → IsSetting c → IsLawful c i (start c i input) rows
    → Law c (after_rows c i (start c i input) rows)
