-- What a hart is answered is the machine's.
use Rattle.whole_runs.proofs.Common.{◌≡◌, ℕ, ◌<◌, Bool, true, false, List, subst, Result, Ok, Err, IfOk, TurnRow, Ask, Reply, after_rows, Seen, IsState, IsTold, first_run, run_after, HasTaken, list_run, AnswersTurn, AnswersAsk, row_of}
use Rattle.run_model.specs.Runs as runs
use Rattle.bus_core.specs.Bus.{is_live}
use Rattle.bus_core.proofs.OwnTurn.{row_is}
use Rattle.bus_core.proofs.Rows.{lawful_snoc}
use Rattle.whole_runs.proofs.OwnTurns.{Replies, Flags, Asks}
use Rattle.whole_runs.proofs.Live.{live_in}
use Rattle.whole_runs.proofs.Rows.{legal_snoc}

-- ---- after rows

pub answers_ask : (s : Seen) (rows : List TurnRow) (k : ℕ) (ask : Ask) (r : Reply × Bool) → IsTold s rows → s.halted ≡ false → k < s.began.settings.harts → is_live s k ≡ true → Replies s k ask r → Flags s k ask r → AnswersAsk k ask r
answers_ask s rows k ask r told running within live replies flags =
    let b = s.began in
    let run = after_rows b.settings b.image (first_run b) rows in
    let state : IsState s run = subst (λ (h : Bool). IsState s (run_after b h rows)) running told.state in
    record {
      began = b;
      rows = rows;
      lawful = lawful_snoc b.settings b.image (first_run b) rows (row_of k ask r) told.told.lawful (live_in b.settings run s.harts k state.harts within live) (replies run state) (flags run state);
    }

-- ---- after the turns of a list

pub served_answers : {E : Type 0} (tells : Bool) (s : Seen) (k : ℕ) (ask : Ask) (result : Result (Reply × Bool) E) → k < s.began.settings.harts → is_live s k ≡ true → Asks s k ask → IfOk result (Replies s k ask) → IfOk result (Flags s k ask)
    → IfOk result (λ r. (list : List ℕ) → HasTaken tells s list → AnswersTurn s.began k ask r)
served_answers tells s k ask (Ok r) within live own replies flags = λ list h.
    let b = s.began in
    let run = list_run b list in
    record {
      list = list;
      legal = legal_snoc b.settings b.image (first_run b) list k h.legal (live_in b.settings run s.harts k h.state.harts within live);
      row_is = row_is b run k ask r.0 r.1 (own run h.state) (replies run h.state) (flags run h.state);
    }
served_answers tells s k ask (Err e) within live own replies flags = tt
