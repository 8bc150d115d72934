use Rattle.run_files.proofs.Common.{◌∙◌, sym, ap, subst, RawSettings, Content, Held, HoldsLog, run_of, bytes_in, is_version2, IsVerdict, ◌≡◌, ℕ, List, length, arith, kept, content, Run, content_of, kept_of, dropped_of}
use Rattle.log_record.specs.declared.head.Head.{Head}
use Rattle.run_files.proofs.auditing.audit_known.Goals as goal

-- The log file of a run.

-- what a ring says that holds the log of a run
content_is : (c : RawSettings) (digest : List ℕ) (ring : Held) (run : Run) → HoldsLog ring run.stream → ring.size ≡ c.log_size
    → content (record { settings = c; digest = digest }) ring.dropped ring.records ≡ content_of c digest run
content_is c digest ring run holds size =
    let head : Head = record { settings = c; digest = digest } in
    let records : ring.records ≡ kept_of c run = holds.latest ∙ ap (λ (n : ℕ). kept n run.stream) size in
    let many : length ring.records ≡ length (kept_of c run) = ap length records in
    let dropped : ring.dropped ≡ dropped_of c run = omega (arith, holds.counted, many) in
    ap (λ (n : ℕ). content head n ring.records) dropped ∙ ap (content head (dropped_of c run)) records

pub returns-clause-verdict : goal.returns-clause-verdict
returns-clause-verdict c =
    let from = c.args.from.now in let list = c.args.list.now in
    let run = run_of from.settings from.image from.input.items list in
    let recorded = c.into_recorded-recorded in
    let holds = subst (λ (r : Held). HoldsLog r run.stream) (sym recorded.ensures.ring) c.in-Ok.ensures.run.trace.log.holds in
    let size = recorded.ensures.size ∙ ap (λ (s : RawSettings). s.log_size) c.in-Ok.ensures.settings in
    subst (λ (d : Content). IsVerdict (bytes_in (is_version2 c.args.log.now) d) c.args.log.now c.in-Ok-verdict_on.verdict) (content_is from.settings from.digest recorded.result.ring run holds size) c.in-Ok-verdict_on.ensures
