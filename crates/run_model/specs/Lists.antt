-- Why a list of turns isn't a whole run.
use Rattle.std.specs.Prelude.{ℕ, ◌+◌, true, false, List, [], ◌∷◌, Option, Some, None}
use Rattle.run_model.specs.Common.{Program, RawSettings}
use Rattle.run_model.specs.Turn.{Run, turn}
use Rattle.run_model.specs.Runs.{start, is_live, live_harts}
use Rattle.run_model.specs.declared.error.TurnError.{TurnError}
use Rattle.run_model.specs.declared.error.TurnError.TheVariants.{IllegalTurn, NotFinished}

-- the lowest of the harts that are live after the last turn
abbrev pub unfinished : List ℕ → Option TurnError
unfinished [] = None
unfinished (k ∷ ks) = Some (NotFinished k)

-- the first turn whose hart isn't live then, if the list begins with turn `at`; else the lowest hart that is live after
-- the last turn; None if the list is legal and finished
abbrev pub error_from : RawSettings → Program → Run → ℕ → List ℕ → Option TurnError
error_from c i run at [] = unfinished (live_harts 0 c.harts run.harts)
error_from c i run at (k ∷ ks) = elim (is_live c run k) [ true ↦ error_from c i (turn c i run k) (at + 1) ks | false ↦ Some (IllegalTurn at k) ]

-- what is wrong with a list from the start on
abbrev pub list_error : RawSettings → Program → (input list : List ℕ) → Option TurnError
list_error c i input list = error_from c i (start c i input) 0 list
