-- What holds of the records that are kept of a run.
use Rattle.std.specs.Prelude.{◌≡◌, ℕ, ◌==◌, true, List, replicate, Ok}
use Rattle.file_laws.specs.Common.{AllByRecursion, Program, IsSetting, RawSettings, TurnRow, Held, HoldsLog, after_all, order_limits_of, Content, content, Run, start, has_finished, after_rows, are_orderly, IsLawful}
use Rattle.log_record.specs.declared.record.Record.{Record}
use Rattle.log_record.specs.Spelling.{Fits}
use Rattle.log_order.specs.declared.view.HartView.{HartView}
use Rattle.log_order.specs.Rules.{fresh}
use Rattle.log_order.specs.Suffix.{IsEarly}

-- how many instructions each hart has done
abbrev pub counts_of : Run → ℕ → ℕ
counts_of run k = (run.harts k).state.ic

-- Records keep the rules of single records, if each hart begins as it does in a log that gave up so many before. Each of
-- their Edges comes from an instruction that its source, which has done so many, has done
pub record KeepsRules (c : RawSettings) (counts : ℕ → ℕ) (dropped : ℕ) (records : List Record) : Type 0 where
  pub views : List HartView
  pub ran : after_all (order_limits_of c) 0 (replicate c.harts (fresh (dropped == 0))) records ≡ Ok views
  pub early : AllByRecursion (IsEarly counts) records

-- a ring of the log's size holds the log of the run that lawful rows led to, whoever made their asks: all of these were
-- orderly, and no hart is live any more. That each of its records fits its fields is a fact of a ring's type
pub record HoldsLogOfRows (c : RawSettings) (i : Program) (input : List ℕ) (rows : List TurnRow) (ring : Held) : Type 0 where
  pub setting : IsSetting c
  pub lawful : IsLawful c i (start c i input) rows
  pub orderly : are_orderly c i (start c i input) rows ≡ true
  pub over : has_finished c (after_rows c i (start c i input) rows) ≡ true
  pub log : HoldsLog ring (after_rows c i (start c i input) rows).stream
  pub size : ring.size ≡ c.log_size
  pub fit : AllByRecursion (Fits 2) ring.records

-- what the log of a ring says, the program's file having this digest
abbrev pub ring_content : RawSettings → List ℕ → Held → Content
ring_content c digest ring = content (record { settings = c; digest = digest }) ring.dropped ring.records
