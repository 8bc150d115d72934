-- What is read of a file, and what is salvaged of a damaged one.
use Rattle.file_laws.proofs.Common.{◌≡◌, List, ◌++◌, append_assoc, Result, Ok, sym, ap, ◌∙◌, arith, sha256, Record, Content, Run, run_of, kept_of, content_of, IsEndOf, KeptIsAnEnd, EndsSuffice, LogsAreContents, SalvagedFilesSuffice}
use Rattle.log_blocks.specs.declared.damage.Damage.{Damage}
use Rattle.log_blocks.specs.Cuts.{records_in}
use Rattle.log_blocks.specs.Laws.{SalvagedAreAnEnd}

abbrev pub says : Content → Result Content Damage
says d = Ok d

pub same_log : (c d : Content) → says c ≡ says d → c ≡ d
same_log c d e = cc

-- the last ones of the last records are the last ones of all
an_end : (stream kept front rs : List Record) → IsEndOf stream kept → kept ≡ front ++ rs → IsEndOf stream rs
an_end stream kept front rs e is = record { front = e.front ++ front; parts = e.parts ∙ ap (λ (t : List Record). e.front ++ t) is ∙ sym (append_assoc e.front front rs) }

pub salvaged_suffice : LogsAreContents → SalvagedAreAnEnd → KeptIsAnEnd → EndsSuffice → SalvagedFilesSuffice
salvaged_suffice contents salvaged ends suffice c i elf input b r front p back cut head dropped place d has =
    let run : Run = run_of c i input b in
    let log : Content = content_of c (sha256 elf) run in
    let parts = salvaged log (contents c i elf input b r) front p back cut head dropped place d has in
    let end : IsEndOf run.stream d.records = an_end run.stream (kept_of c run) (records_in front) d.records (ends c run) parts.0 in
    (end, λ h n v found. suffice c i input b h n (omega (arith, r.setting.limit_high)) (record { legal = r.legal; over = r.over }) d.records end v found)
