-- What is kept of a bus is in order.
use Rattle.bus_core.proofs.Common.{◌≡◌, ℕ, Bool, true, false, not, ◌&&◌, List, length, replicate, None, refl, ap, subst, IsSetting, RawSettings, Record, broken_by, Held, HoldsLog, TurnRow, Run, has_finished, after_rows, are_orderly, RingsKeepTheRules, LogsOfRowsAreContents, Began, Seen, AreTold, IsLogged, first_run, halted_if, run_after}
use Rattle.std.specs.List.{AllByRecursion}
use Rattle.log_record.specs.Spelling.{Fits}
use Rattle.file_laws.specs.Recorded.{counts_of, KeepsRules, HoldsLogOfRows}
use Rattle.bus_core.proofs.LastMarks.{halted_stream}

halted_counts : (b : Bool) (c : RawSettings) (run : Run) (dropped : ℕ) (rs : List Record) → KeepsRules c (counts_of run) dropped rs → KeepsRules c (counts_of (halted_if b run)) dropped rs
halted_counts true c run dropped rs k = record { views = k.views; ran = k.ran; early = k.early }
halted_counts false c run dropped rs k = k

-- the records of a ring after rows, and after a halt
pub rules_are : RingsKeepTheRules → (b : Began) (halted disordered : Bool) (rows : List TurnRow) (ring : Held) → IsSetting b.settings → AreTold b disordered rows → HoldsLog ring (run_after b halted rows).stream → ring.size ≡ b.settings.log_size
    → KeepsRules b.settings (counts_of (run_after b halted rows)) ring.dropped ring.records
rules_are law b halted disordered rows ring setting told log size =
    let run = after_rows b.settings b.image (first_run b) rows in
    halted_counts halted b.settings run ring.dropped ring.records
    (law b.settings b.image b.input rows ring setting told.lawful (subst (λ (rs : List Record). HoldsLog ring rs) (halted_stream halted run) log) size)

-- ---- once the run is finished

ended_of : (halted disordered over : Bool) → (not halted && not disordered && over) ≡ true → (halted ≡ false) × (disordered ≡ false) × (over ≡ true)
ended_of false false over e = (refl, refl, e)
ended_of false true over e = cc
ended_of true disordered over e = cc

orderly_if : (disordered orderly : Bool) → disordered ≡ not orderly → disordered ≡ false → orderly ≡ true
orderly_if disordered true e d = refl
orderly_if disordered false e d = cc

abbrev a_digest : List ℕ
a_digest = replicate 32 0

thirty_two : length a_digest ≡ 32
thirty_two = refl

pub order_is : LogsOfRowsAreContents → (s : Seen) (rows : List TurnRow) (ring : Held) → IsSetting s.began.settings → IsLogged s ring rows → ring.size ≡ s.began.settings.log_size → AllByRecursion (Fits 2) ring.records
    → (not s.halted && not s.disordered && has_finished s.began.settings (run_after s.began s.halted rows)) ≡ true → broken_by s.began.settings ring.dropped ring.records ≡ None
order_is law s rows ring setting l size fit whole =
    let b = s.began in
    let end = ended_of s.halted s.disordered (has_finished b.settings (run_after b s.halted rows)) whole in
    let same = ap (λ (x : Bool). run_after b x rows) end.0 in
    let holds : HoldsLogOfRows b.settings b.image b.input rows ring = record {
      setting = setting;
      lawful = l.told.lawful;
      orderly = orderly_if s.disordered (are_orderly b.settings b.image (first_run b) rows) l.told.orderly end.1;
      over = subst (λ (r : Run). has_finished b.settings r ≡ true) same end.2;
      log = subst (λ (r : Run). HoldsLog ring r.stream) same l.log;
      size = size;
      fit = fit;
    } in
    (law b.settings b.image b.input a_digest rows ring holds thirty_two).order
