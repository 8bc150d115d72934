-- What is traced before the first turn.
use Rattle.std.specs.Prelude.{◌≡◌, ℕ, List, ◌++◌, length}
use Rattle.run_model.specs.Common.{Program, RawSettings, Record}
use Rattle.run_model.specs.declared.log.Log.{Log}
use Rattle.run_model.specs.declared.hart.Hart.{Hart}
use Rattle.run_model.specs.Runs.{start_state, start_hart, first_headers}
use Rattle.run_model.specs.Represents.Harts.{AreHarts}
use Rattle.run_model.specs.Represents.Logs.{Took, IsLog}

-- hart k before its first turn
abbrev pub first_hart : RawSettings → Program → ℕ → Hart
first_hart c i k = start_hart k (start_state c i k)

-- the first n harts, and the log that took their Headers
pub record AreFirst (c : RawSettings) (i : Program) (n : ℕ) (old : Log) (harts : List Hart) (new : Log) : Type 0 where
  pub len : length harts ≡ n
  pub each : AreHarts harts (first_hart c i)
  pub log : (rs : List Record) → IsLog old rs → IsLog new (rs ++ first_headers c i 0 n)
  pub took : Took old n new
