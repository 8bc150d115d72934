-- The races of a recording's log.
use Rattle.report_laws.proofs.Common.{◌≡◌, ◌↔◌, ℕ, ◌+◌, sym, ap, ◌∙◌, subst, arith, List, ◌++◌, length, None, RawSettings, Record, StandByCounts, In, HasOrder, OfLists, TurnRowsAreRows, RowsTellRuns, run_all, AreCounted, HaveOwnRows, IsRaceOf, PointsAreCounted, RacesAreListed, RacesAscend, RacesGoByConflicts, races_of, OwnLogsAreLogs, JointReplaysSayTheRun, Recording, IsLogOf, begin, kept, points_of, recorded, replayed_points, StandAsRecorded, ConflictsStandAsRecorded, SayTheRun, RacesSayTheRun, ReportsSayTheRun, recorded_points}
use Rattle.sha2.specs.Sha256.{sha256}
use Rattle.log_order.specs.Content.{Content}
use Rattle.log_order.specs.Order.{broken_by}
use Rattle.file_laws.specs.Laws.{FilesSayTheRun, StreamsAreInOrder}
use Rattle.run_model.specs.KeptRecords.{content_of}
use Rattle.race_report.specs.declared.race.Race.{Race}
use Rattle.race_report.specs.Reports.{joint_of, points_in}
use Rattle.report_laws.proofs.Alike.{of_turn}
use Rattle.report_laws.proofs.Rows.{row_hart}
use Rattle.report_laws.proofs.Steps.{step_of}

abbrev pub OrderStays : Type 0
OrderStays = (s : RawSettings) (dropped : ℕ) (front back : List Record) → broken_by s dropped (front ++ back) ≡ None → broken_by s (dropped + length front) back ≡ None

pub record Known : Type 0 where
  pub counted : PointsAreCounted
  pub listed : RacesAreListed
  pub ascend : RacesAscend
  pub conflicts : RacesGoByConflicts
  pub streams : StreamsAreInOrder
  pub stays : OrderStays
  pub stand : StandAsRecorded
  pub alike : ConflictsStandAsRecorded
  pub joint : JointReplaysSayTheRun
  pub order : OfLists HasOrder
  pub by_counts : StandByCounts
  pub rows : TurnRowsAreRows
  pub tell : RowsTellRuns

module _ (known : Known) (r : Recording) (records : List Record) (log : IsLogOf r records) where
  replayed_counted : AreCounted r.settings.harts (replayed_points r records)
  replayed_counted =
      let high = log.recording.setting.limit_high in
      let all : broken_by r.settings 0 (recorded r).stream ≡ None = known.streams r.settings r.program r.elf r.input r.turns log.recording in
      known.counted r.program r.settings (0 + length log.end.front) records (omega (arith, high))
      (known.stays r.settings 0 log.end.front records (sym (ap (broken_by r.settings 0) log.end.parts) ∙ all))

  recorded_counted : AreCounted r.settings.harts (recorded_points r records)
  recorded_counted = record {
    harts_below = λ m p e. (let a = (known.alike r records log).back m p e in replayed_counted.harts_below a.0 p a.1);
    rise = λ m n p q e f same low.
        (let x = known.stand r records log m n p q e f low in
        let order = known.order r.settings r.program r.input r.turns log.recording.setting log.recording.legal in
        let up = (known.by_counts.counts (points_of r) order x.0 x.1 x.2.point x.3.point x.2.at x.3.at (x.2.hart ∙ (same ∙ sym x.3.hart))).0 x.4 in
        let a = x.2.count in
        let b = x.3.count in
        omega (arith, up, a, b));
  }

  own_rows : HaveOwnRows (replayed_points r records)
  own_rows m p e =
      let s = step_of (run_all (begin r records)).walk.taken m p e in
      row_hart known.rows known.tell r log.recording p.hart s.1.point.before p.row (of_turn r records (known.joint r records log) s.0 p s.1)

  pub say_the_run : SayTheRun r records (races_of r.settings.harts (replayed_points r records))
  say_the_run =
      let same : races_of r.settings.harts (replayed_points r records) ≡ races_of r.settings.harts (recorded_points r records) =
      known.conflicts r.settings.harts (replayed_points r records) (recorded_points r records) replayed_counted recorded_counted own_rows (known.alike r records log) in
      record {
        are = same;
        each = λ x. subst (λ (races : List Race). In races x ↔ IsRaceOf (recorded_points r records) x) (sym same) (known.listed r.settings.harts (recorded_points r records) recorded_counted x);
        ascend = known.ascend r.settings.harts (replayed_points r records) replayed_counted own_rows;
      }

pub races_say_the_run : Known → RacesSayTheRun
races_say_the_run known r records log = say_the_run known r records log

pub reports_say_the_run : RacesSayTheRun → OwnLogsAreLogs → FilesSayTheRun → ReportsSayTheRun
reports_say_the_run say own files r d is file most races report =
    let it : d ≡ content_of r.settings (sha256 r.elf) (recorded r) = files r.settings r.program r.elf r.input r.turns is d file.content file.bytes in
    subst (λ (c : Content). races ≡ races_of c.head.settings.harts (points_in (joint_of r.program c)) → SayTheRun r c.records races) (sym it)
    (λ e. subst (SayTheRun r (kept r)) (sym e) (say r (kept r) (own r is))) report.2
