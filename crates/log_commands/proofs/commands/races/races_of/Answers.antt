use Rattle.log_commands.proofs.Common.{inr, run_all, joined, ◌≡◌, ℕ, Bool, List, Option, ◌∙◌, ap, sym, Ok, Err, Counts, JointError, Ran, FileNames, joint_refusal, refused, printed, races_listed, races_unless, races_in, RefusalCause, TooManyRaces}
use Rattle.joint_replay.specs.declared.error.JointError.TheVariants as joint
use Rattle.race_report.specs.Races.{race_count, races_of}
use Rattle.race_report.specs.Reports.{points_in}
use Rattle.race_report.specs.Texts.{IsReportText}
use Rattle.race_report.specs.declared.error.RaceError.TheVariants.{Joint, TooMany}
use Rattle.log_commands.proofs.Loads.{passes, fits}
use Rattle.log_commands.proofs.commands.races.races_of.Goals as goal

-- The races of a log.
-- they are listed
races-listed : (names : FileNames) (most harts : ℕ) (r : Ran) (text : List ℕ) → IsReportText harts most r (Ok text) → printed text ≡ races_in names most harts r
races-listed names most harts r text is =
    let few = ap (λ (b : Bool). races_listed b names most (races_of harts (points_in r))) (fits most (race_count (points_in r)) is.1) in
    ap printed is.2 ∙ sym few ∙ sym (ap (λ (o : Option JointError). races_unless o names most harts r) is.0)

-- there are too many
races-refused : (names : FileNames) (most harts max : ℕ) (r : Ran) → IsReportText harts most r (Err (TooMany max)) → refused names (TooManyRaces max) ≡ races_in names most harts r
races-refused names most harts max r is =
    let many = ap (λ (b : Bool). races_listed b names most (races_of harts (points_in r))) (passes most (race_count (points_in r)) is.1) in
    ap (λ (n : ℕ). refused names (TooManyRaces n)) is.2 ∙ sym many ∙ sym (ap (λ (o : Option JointError). races_unless o names most harts r) is.0)

-- the joint replay stopped
races-halted : (names : FileNames) (most harts : ℕ) (r : Ran) (e : JointError) → IsReportText harts most r (Err (Joint e)) → refused names (joint_refusal e) ≡ races_in names most harts r
races-halted names most harts r e is = sym (ap (λ (o : Option JointError). races_unless o names most harts r) is.0)

-- it is no refusal by a store
own-joint : (e : JointError) (before now : Counts) → RefusalCause before now (joint_refusal e)
own-joint (joint.Replay e) before now = tt
own-joint e before now = tt

pub returns-in-Ok : goal.returns-in-Ok
returns-in-Ok c =
    let d = c.args.reading.now.log in
    record {
      gives = λ names. races-listed names c.args.most d.head.settings.harts (run_all (joined d c.args.reading.now.image)) c.in-Ok.text c.in-Ok.ensures;
      own = λ before now. tt;
      kind = tt;
    }

pub returns-in-Err-Joint : goal.returns-in-Err-Joint
returns-in-Err-Joint c =
    let d = c.args.reading.now.log in
    rw c.of_joint.ensures (record {
      gives = λ names. inr (races-halted names c.args.most d.head.settings.harts (run_all (joined d c.args.reading.now.image)) c.in-Err-Joint.error (rw c.in-Err-Joint.field-0-is at c.in-Err-Joint.ensures));
      own = λ before now. own-joint c.in-Err-Joint.error before now;
      kind = tt;
    })

pub returns-in-Err-TooMany : goal.returns-in-Err-TooMany
returns-in-Err-TooMany c =
    let d = c.args.reading.now.log in
    record {
      gives = λ names. inr (races-refused names c.args.most d.head.settings.harts c.in-Err-TooMany.max (run_all (joined d c.args.reading.now.image)) (rw c.in-Err-TooMany.field-0-is at c.in-Err-TooMany.ensures));
      own = λ before now. tt;
      kind = tt;
    }
