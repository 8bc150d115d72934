-- What a log retains of a fault suffices.
use Rattle.std.specs.Prelude.{◌≡◌, ℕ, List, [], ◌∷◌, ◌++◌}
use Rattle.file_laws.specs.Common.{Program, RawSettings, Faulted, replayed, Done, kept_of, rows_in, start, run_of, ask_at}
use Rattle.bn_base.specs.declared.fault.Fault.{Fault}
use Rattle.run_laws.specs.Retained.{IsGuarding}
use Rattle.replay_laws.specs.Law.{IsWhole}

-- With format 2, if the run ends in a fault, the fault's interval is replayed from what the log keeps, as it was recorded
abbrev pub FaultsAreReplayed : Type 0
FaultsAreReplayed = (c : RawSettings) (i : Program) (input b : List ℕ) (k : ℕ) (kind : Fault) (value : ℕ) → IsGuarding c → IsWhole c i input (b ++ k ∷ [])
    → (ask_at c i ((run_of c i input b).harts k)).want ≡ Faulted kind value
    → let run = run_of c i input (b ++ k ∷ []) in let n = (run.harts k).number in
    replayed i (kept_of c run) k n ≡ record { rows = rows_in c i (start c i input) (b ++ k ∷ []) k n; outcome = Done }
