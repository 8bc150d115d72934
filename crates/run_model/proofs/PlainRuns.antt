-- A turn of a plain machine, put together from the steps of the code.
use Rattle.run_model.proofs.Common.{◌≡◌, ℕ, ◌+◌, ◌++◌, false, List, ◌∙◌, sym, ap, subst, Option, Some, None, append_assoc, RawSettings, absorbed, Ask, Want, Load, Store, LoadReserved, StoreConditional, Amo, System, Cut, Faulted, Reply, Plan, Warm, Record, total, IsLog, Shadow, RepresentsAccesses, Hart, Trace, answer, Run, serve_call, span_of, next_of, hart_after, harts_after, events_after, skipped_after, warmth, loading, word_before, point_of, points_after, edge_records, load_record, sc_record, next_records, run_over_records, AreCaches, AreHarts, IsTrace, IsRaceReady, everyone}
use Rattle.rv_meaning.specs.declared.asks.Reply.TheVariants as replies
use Rattle.run_model.proofs.Bytes.{total_append}

-- five lists after a first one
pub six_lists : (a e l s n o : List Record) → a ++ e ++ l ++ s ++ n ++ o ≡ a ++ (e ++ (l ++ (s ++ (n ++ o))))
six_lists a e l s n o =
    append_assoc (a ++ e ++ l ++ s) n o ∙ append_assoc (a ++ e ++ l) s (n ++ o) ∙ append_assoc (a ++ e) l (s ++ (n ++ o)) ∙ append_assoc a e (l ++ (s ++ (n ++ o)))

-- what the steps leave of the trace, by the turn's number, the number of harts, the hart before and after the access,
-- whether its loaded word was warm, that word and the reply
pub record Traced (c : RawSettings) (run : Run) (k : ℕ) (ask : Ask) (call : Option Plan) (turns n : ℕ) (g h : Hart) (load : Option Warm) (word : ℕ) (reply : Reply) (t : Trace) : Type 0 where
  pub harts : AreHarts t.harts.items (harts_after (next_of c call h ask.want reply (absorbed ask reply).ic) k (hart_after (next_of c call h ask.want reply (absorbed ask reply).ic) (absorbed ask reply) (skipped_after load h.skipped) t.log.bytes h) run.harts)
  pub caches : AreCaches c t.caches (events_after (next_of c call h ask.want reply (absorbed ask reply).ic) k call (span_of call ask.want reply) run.events)
  pub shadow : RepresentsAccesses (points_after (point_of k ask.state.ic turns (span_of call ask.want reply)) run.points) everyone t.shadow
  pub log : IsLog t.log (run.stream ++ edge_records (point_of k ask.state.ic turns (span_of call ask.want reply)) run.points ++ load_record load k g.skipped word ++ sc_record reply k
      ++ next_records (next_of c call h ask.want reply (absorbed ask reply).ic) k h.number (absorbed ask reply) ++ run_over_records (next_of c call h ask.want reply (absorbed ask reply).ic) k n run.harts)

as_many : (a b more : ℕ) → a ≡ b → b + more ≡ a + more
as_many a b more e = ap (λ (n : ℕ). n + more) (sym e)

traced_is : (c : RawSettings) (run : Run) (k : ℕ) (ask : Ask) (call : Option Plan) (t : Trace)
    → Traced c run k ask call run.turns c.harts (run.harts k) (run.harts k) (warmth c (loading ask.want) (run.events k)) (word_before run.machine.memory (loading ask.want)) (answer c call run.machine k ask).reply t
    → run.bytes ≡ total run.stream → IsTrace c t (serve_call c run k ask false call).run
traced_is c run k ask call t e before =
    let after = (serve_call c run k ask false call).run in
    let log : IsLog t.log after.stream = subst (λ (rs : List Record). IsLog t.log rs) (six_lists run.stream _ _ _ _ _) e.log in
    let bytes : t.log.bytes ≡ after.bytes = log.bytes ∙ total_append run.stream _ ∙ as_many run.bytes (total run.stream) _ before in
    let h = run.harts k in
    let reply = (answer c call run.machine k ask).reply in
    let s = absorbed ask reply in
    let next = next_of c call h ask.want reply s.ic in
    record {
      harts = subst (λ (n : ℕ). AreHarts t.harts.items (harts_after next k (hart_after next s (skipped_after (warmth c (loading ask.want) (run.events k)) h.skipped) n h) run.harts)) bytes e.harts;
      caches = e.caches;
      shadow = e.shadow;
      log = log;
      bytes = bytes;
    }

pub traced : (c : RawSettings) (run : Run) (k : ℕ) (ask : Ask) (call : Option Plan) (turns n : ℕ) (g h : Hart) (load : Option Warm) (word : ℕ) (reply : Reply) (t : Trace)
    → turns ≡ run.turns → n ≡ c.harts → g ≡ run.harts k → h ≡ run.harts k → load ≡ warmth c (loading ask.want) (run.events k) → word ≡ word_before run.machine.memory (loading ask.want) → reply ≡ (answer c call run.machine k ask).reply
    → Traced c run k ask call turns n g h load word reply t → run.bytes ≡ total run.stream → IsTrace c t (serve_call c run k ask false call).run
traced c run k ask call turns n g h load word reply t et en eg eh el ew er e before =
    let w = warmth c (loading ask.want) (run.events k) in
    let b = word_before run.machine.memory (loading ask.want) in
    traced_is c run k ask call t
    (subst (λ (r : Reply). Traced c run k ask call run.turns c.harts (run.harts k) (run.harts k) w b r t) er
    (subst (λ (x : ℕ). Traced c run k ask call run.turns c.harts (run.harts k) (run.harts k) w x reply t) ew
    (subst (λ (l : Option Warm). Traced c run k ask call run.turns c.harts (run.harts k) (run.harts k) l word reply t) el
    (subst (λ (x : Hart). Traced c run k ask call run.turns c.harts (run.harts k) x load word reply t) eh
    (subst (λ (x : Hart). Traced c run k ask call run.turns c.harts x h load word reply t) eg
    (subst (λ (x : ℕ). Traced c run k ask call run.turns x g h load word reply t) en
    (subst (λ (x : ℕ). Traced c run k ask call x n g h load word reply t) et e))))))) before

-- the race log is ready for the access, whatever the reply
pub race_ready : (s : Shadow) (call : Option Plan) (want : Want) (reply : Reply) → IsRaceReady s (span_of call want replies.ScOk) → IsRaceReady s (span_of call want reply)
race_ready s (Some p) want reply e = e
race_ready s None want reply e = by_want want reply e
  where
    by_want : (want : Want) (reply : Reply) → IsRaceReady s (span_of None want replies.ScOk) → IsRaceReady s (span_of None want reply)
    by_want (Load a w g rd) reply e = e
    by_want (LoadReserved a rd) reply e = e
    by_want (Store a w v) reply e = e
    by_want (Amo a o rd v) reply e = e
    by_want (StoreConditional a rd v) (replies.Word w) e = tt
    by_want (StoreConditional a rd v) replies.Stored e = tt
    by_want (StoreConditional a rd v) replies.ScOk e = e
    by_want (StoreConditional a rd v) replies.ScFailed e = tt
    by_want (StoreConditional a rd v) (replies.Answer x) e = tt
    by_want (StoreConditional a rd v) replies.Went e = tt
    by_want (StoreConditional a rd v) replies.Over e = tt
    by_want (System number args) reply e = e
    by_want Cut reply e = e
    by_want (Faulted kind value) reply e = e
