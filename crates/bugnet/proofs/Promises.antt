-- All that a whole call of the program promises, from what its command does.
use Rattle.bugnet.proofs.Common.{ℕ, Option, Schedule, Line, Call, Note, Reading, AuditsAgree, EachCanBeDone, Headline, JointHeadline, Does, Runs}
use Rattle.bugnet.proofs.Agrees.{call-audits}
use Rattle.bugnet.proofs.Complete.{call-done}
use Rattle.bugnet.proofs.Jointly.{prints-jointly}
use Rattle.bugnet.proofs.LineCalls.{call-shape}
use Rattle.bugnet.proofs.LineTells.{answers-keep, answers-few}
use Rattle.bugnet.proofs.Scheduled.{tells-any}
use Rattle.bugnet.proofs.Suffices.{prints-run}

pub runs : {I : Type 0} → Headline → JointHeadline → EachCanBeDone → AuditsAgree → (o : Option Schedule) (line : Option Line) (status : ℕ) (note : Note) (i : Reading I) (k : Call) → Does o line status note i k → Runs o line status note i k
runs headline joint can audits o line status note i k does =
    let replies = does.replies in
    let counted = replies.obeys.counted in
    let told = tells-any o line status k replies.obeys.told in
    record {
      told = replies.obeys.told;
      words = replies.obeys.words;
      headline = prints-run headline line status k told;
      jointly = prints-jointly joint line status k told;
      done = call-done can line status k told;
      kept = answers-keep o line status k replies.obeys.told;
      others = answers-few o line status k replies.obeys.told;
      still = replies.still;
      saves = replies.saves;
      calls = replies.calls;
      shape = call-shape o note line status k replies.calls;
      demo = replies.demo;
      recorded = replies.recorded;
      session = does.session;
      first = does.first;
      begins = does.begins;
      unread = does.unread;
      audited = call-audits audits line status k told;
      failed = counted.failed;
      missing = counted.missing;
      long = counted.long;
      read = does.read;
      write = counted.write;
      later = counted.counts;
      out_later = counted.later.out;
      err_later = counted.later.err;
      read_later = does.read_later;
    }
