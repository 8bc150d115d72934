-- What the guard counts, and what a log retains by it: each hart's present Header at the hart's own turns, and the interval of
-- a fault.
use Rattle.std.specs.Prelude.{◌≡◌, ◌≤◌, ◌<◌, ◌+◌, ◌^◌, ◌==◌, ℕ, Bool, true, false, List, [], ◌∷◌, ◌++◌, Some}
use Rattle.std.specs.List.{AllByRecursion}
use Rattle.run_laws.specs.Common.{IsSetting, Program, EndMark, RawSettings, Faulted, Record, Header, FirstLoad, ScOk, ScFailed, Edge, End, total, kept_of, start, run_of, legal_from, Run, ask_at, bytes_since, mark}
use Rattle.bn_base.specs.Faults.{fault_number}
use Rattle.bn_base.specs.declared.fault.Fault.{Fault}
use Rattle.run_laws.specs.Ends.{last_end}

-- format 2, and those of its ranges that say something here: at most 16 harts, an interval of 1 at least, a limit of 2^40 at
-- most, and a log of 16,384 bytes at least
pub record IsGuarding (c : RawSettings) : Type 0 where
  pub format : c.format ≡ 2
  pub harts_high : c.harts ≤ 16
  pub interval_low : 1 ≤ c.interval
  pub limit_high : c.limit ≤ 2 ^ 40
  pub log_size_low : 16384 ≤ c.log_size

-- the Header of hart k's interval of that number, which began at that count, is among the records
pub record HasHeader (k number begun : ℕ) (rs : List Record) : Type 0 where
  pub front : List Record
  pub back : List Record
  pub pc : ℕ
  pub x : List ℕ
  pub parts : rs ≡ front ++ Header k number begun pc x ∷ back

-- a hart's interval has its Header among the records, and the hart's last End after it has that mark
pub record HasEnded (k number begun : ℕ) (m : EndMark) (rs : List Record) : Type 0 where
  pub header : HasHeader k number begun rs
  pub end : last_end k header.back ≡ Some m

-- whether a record is a Header of hart k
abbrev pub is_header_of : ℕ → Record → Bool
is_header_of k (Header j n ic pc x) = k == j
is_header_of k (FirstLoad j skip value) = false
is_header_of k (ScOk j) = false
is_header_of k (ScFailed j) = false
is_header_of k (Edge j ic s from) = false
is_header_of k (End j mark) = false

-- The Header of hart k's present interval is in the stream, and is the hart's last one. The bytes that the guard counts are those
-- of the records from it on, itself included, to the stream's end
pub record CountsFromHeader (run : Run) (k : ℕ) : Type 0 where
  pub header : HasHeader k (run.harts k).number (run.harts k).begun run.stream
  pub latest : AllByRecursion (λ (r : Record). is_header_of k r ≡ false) header.back
  pub bytes : bytes_since run k ≡ total (Header k (run.harts k).number (run.harts k).begun header.pc header.x ∷ header.back)

-- The guard counts each hart's bytes from its Header, after the turns of any legal list
abbrev pub GuardCountsFromHeaders : Type 0
GuardCountsFromHeaders = (c : RawSettings) (i : Program) (input b : List ℕ) (k : ℕ) → IsSetting c → legal_from c i (start c i input) b ≡ true → k < c.harts → CountsFromHeader (run_of c i input b) k

-- With format 2 a hart's present Header is kept right after each of its turns that leaves it live
abbrev pub HeadersAreKept : Type 0
HeadersAreKept = (c : RawSettings) (i : Program) (input b : List ℕ) (k : ℕ) → IsGuarding c → legal_from c i (start c i input) (b ++ k ∷ []) ≡ true
    → let run = run_of c i input (b ++ k ∷ []) in let h = run.harts k in
    h.live ≡ true → HasHeader k h.number h.begun (kept_of c run)

-- If the run ends in a fault, the interval of the fault is retained: its Header is kept, and after it its End with the fault
abbrev pub FaultsAreKept : Type 0
FaultsAreKept = (c : RawSettings) (i : Program) (input b : List ℕ) (k : ℕ) (kind : Fault) (value : ℕ) → IsGuarding c → legal_from c i (start c i input) (b ++ k ∷ []) ≡ true
    → (ask_at c i ((run_of c i input b).harts k)).want ≡ Faulted kind value
    → let run = run_of c i input (b ++ k ∷ []) in let h = run.harts k in
    HasEnded k h.number h.begun (mark h.state.ic (16 + fault_number kind) value) (kept_of c run)
