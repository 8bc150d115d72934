use Rattle.file_laws.proofs.Common.{◌≡◌, sym, ap, ◌∙◌, arith, Some, Content, kept_of, run_of, interval_of, replayed}
use Rattle.file_laws.proofs.files_suffice.Goals as goal

pub returns : goal.returns
returns c s i elf input b r d known e h n v found =
    let same = c.files_say_the_run.ensures s i elf input b r d known e in
    let kept : interval_of h n (kept_of s (run_of s i input b)) ≡ Some v = sym (ap (λ (x : Content). interval_of h n x.records) same) ∙ found in
    ap (λ (x : Content). replayed i x.records h n) same
    ∙ c.the_log_suffices.ensures s i input b h n (omega (arith, r.setting.limit_high)) (record { legal = r.legal; over = r.over }) v kept
