-- The list of a run that follows a given list as far as it is legal.
use Rattle.std.specs.Prelude.{◌≡◌, ℕ, true, false, List, [], ◌∷◌, ◌++◌}
use Rattle.whole_runs.specs.Common.{Program, RawSettings, Run, turn, Began, first_run}
use Rattle.run_model.specs.Runs.{is_live}
use Rattle.whole_runs.specs.Lists.{is_legal, is_finished, seeded_after}

-- the turns of a list up to the first whose hart isn't live then
abbrev pub legal_prefix_from : RawSettings → Program → Run → List ℕ → List ℕ
legal_prefix_from c i run [] = []
legal_prefix_from c i run (k ∷ ks) = elim (is_live c run k) [ true ↦ k ∷ legal_prefix_from c i (turn c i run k) ks | false ↦ [] ]

-- the turns of a list up to the first whose hart isn't live then, from what a run begins with
abbrev pub legal_prefix : Began → List ℕ → List ℕ
legal_prefix b list = legal_prefix_from b.settings b.image (first_run b) list

-- the turns of a list up to the first whose hart isn't live then, and after them those of seed 0
abbrev pub followed : Began → List ℕ → List ℕ
followed b list = legal_prefix b list ++ seeded_after b (legal_prefix b list) 0

-- a legal and finished list is followed to its end, and nothing comes after it
abbrev pub WholeListsAreFollowed : Type 0
WholeListsAreFollowed = (b : Began) (list : List ℕ) → is_legal b list ≡ true → is_finished b list ≡ true → followed b list ≡ list
