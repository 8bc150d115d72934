-- What the log keeps of a run.
use Rattle.std.specs.Prelude.{ℕ, ◌-◌, ◌≡◌, List, ◌++◌, length}
use Rattle.run_model.specs.Common.{RawSettings, Record, kept}
use Rattle.log_order.specs.Content.{Content, content}
use Rattle.run_model.specs.Turn.{Run}

-- the records that the log keeps of a run: the longest suffix of the stream that fits its size
abbrev pub kept_of : RawSettings → Run → List Record
kept_of c run = kept c.log_size run.stream

-- how many records were given up
abbrev pub dropped_of : RawSettings → Run → ℕ
dropped_of c run = length run.stream - length (kept_of c run)

-- what the log of a run says, the program's file having this digest
abbrev pub content_of : RawSettings → List ℕ → Run → Content
content_of c digest run = content (record { settings = c; digest = digest }) (dropped_of c run) (kept_of c run)

-- ---- the end of a stream, wherever it begins: what the log keeps, or what is read of a file of which the front is lost

-- the records are the last ones of the stream
pub record IsEndOf (stream rs : List Record) : Type 0 where
  pub front : List Record
  pub parts : stream ≡ front ++ rs
