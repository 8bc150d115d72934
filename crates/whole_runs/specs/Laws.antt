-- What holds of lists of turns.
use Rattle.std.specs.Prelude.{◌≡◌, ◌↔◌, ℕ, true, List, map, None}
use Rattle.bn_outside.specs.declared.schedule.Schedule.{Schedule}
use Rattle.whole_runs.specs.Common.{Program, IsSetting, RawSettings, TurnRow, Run, start, run_of, legal_from, has_finished, seeded, rows_from, Began}
use Rattle.whole_runs.specs.Lists.{is_legal, is_finished, error_of}
use Rattle.whole_runs.specs.Scheduled.{scheduled}

-- the list that a number gives is legal and finished
abbrev pub SeededListsEnd : Type 0
SeededListsEnd = (c : RawSettings) (i : Program) (input : List ℕ) (seed : ℕ) → IsSetting c
    → let b = seeded c i input seed in (legal_from c i (start c i input) b ≡ true) × (has_finished c (run_of c i input b) ≡ true)

-- the list of a schedule is legal and finished, whether a number draws it or it is given
abbrev pub ScheduledListsEnd : Type 0
ScheduledListsEnd = (schedule : Schedule) (b : Began) → IsSetting b.settings → (is_legal b (scheduled schedule b) ≡ true) × (is_finished b (scheduled schedule b) ≡ true)

-- the harts of the rows of a list are the list
abbrev pub RowsNameTheirHarts : Type 0
RowsNameTheirHarts = (c : RawSettings) (i : Program) (run : Run) (b : List ℕ) → map (λ (r : TurnRow). r.hart) (rows_from c i run b) ≡ b

-- nothing is wrong with a list exactly if it is legal and finished
abbrev pub WholeRunsHaveNoError : Type 0
WholeRunsHaveNoError = (b : Began) (list : List ℕ) → (error_of b list ≡ None) ↔ ((is_legal b list ≡ true) × (is_finished b list ≡ true))
