-- What a log says.
use Rattle.std.specs.Prelude.{◌≡◌, ℕ, ◌<◌, ◌≤◌, ◌^◌, List, length, None}
use Rattle.log_order.specs.Common.{AllByRecursion, IsSetting, Record, Fits, total}
use Rattle.log_record.specs.declared.head.Head.{Head}
use Rattle.log_order.specs.Order.{broken_by}

-- the head, how many records were given up, and those that are kept
pub record Content : Type 0 where
  pub head : Head
  pub dropped : ℕ
  pub records : List Record

-- a log's head, how many records were dropped before, and the records that are kept
abbrev pub content : Head → ℕ → List Record → Content
content head dropped records = record { head = head; dropped = dropped; records = records }

-- a log can say so: its settings are in range, its numbers fit, its version has its records, and these have at most log-size bytes and are in order
pub record IsContent (c : Content) : Type 0 where
  pub settings : IsSetting c.head.settings
  pub digest : length c.head.digest ≡ 32
  pub dropped : c.dropped < 2 ^ 64
  pub fit : AllByRecursion (Fits c.head.settings.format) c.records
  pub bound : total c.records ≤ c.head.settings.log_size
  pub order : broken_by c.head.settings c.dropped c.records ≡ None
