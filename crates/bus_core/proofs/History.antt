-- The rows that led to what a bus keeps.
use Rattle.bus_core.proofs.Common.{◌≡◌, ℕ, ◌+◌, Bool, true, false, not, ◌||◌, List, [], ◌∷◌, ◌++◌, length, refl, sym, ◌∙◌, ap, subst, Ask, Reply, TurnRow, Start, PlainParts, IsRun, everyone, Run, Served, serve, turn, ask_at, is_orderly, halted, hart_in, Held, HoldsLog, NotesDecide, after_rows, are_orderly, seen, IsState, IsHistory, IsKept, IsLogged, AreTold, Seen, began_of, first_run, run_after, halted_if, row, IsSetting, RingsKeepTheRules}
use Rattle.run_model.specs.Represents.Turning.{is_live}
use Rattle.bus_core.proofs.OwnTurn.{ask_is, own_orderly, or_not_true}
use Rattle.bus_core.proofs.Order.{rules_are}
use Rattle.bus_core.proofs.Rows.{after_snoc, lawful_snoc, orderly_snoc, not_both, live_as, none_is_live}

-- the run after rows, and what an ask comes to in a run
abbrev pub ran : PlainParts → List TurnRow → Run
ran p rows = after_rows p.start.settings p.start.image (first_run (began_of p.start)) rows

abbrev pub served : PlainParts → Run → ℕ → Ask → Served
served p run k ask = serve p.start.settings p.start.image run k ask

false_true : true ≡ false → ⊥
false_true e = cc

-- a bus with a live hart wasn't halted
pub live_runs : (p : PlainParts) (h d : Bool) (rows : List TurnRow) (k : ℕ) → IsHistory p h d rows → is_live p k ≡ true → h ≡ false
live_runs p true d rows k is live = absurd (false_true (none_is_live p.trace.harts.items (ran p rows).harts k is.run.trace.harts live))
live_runs p false d rows k is live = refl

-- a row more, of a bus that wasn't halted
row_more : (p q : PlainParts) (d d' o : Bool) (rows : List TurnRow) (k : ℕ) (ask : Ask) (reply : Reply) (guarded : Bool) → length p.trace.harts.items ≡ p.start.settings.harts → is_live p k ≡ true → q.start ≡ p.start
    → (reply ≡ (served p (ran p rows) k ask).reply) × (guarded ≡ (served p (ran p rows) k ask).guarded) × IsRun q (served p (ran p rows) k ask).run → o ≡ is_orderly p.start.settings p.start.image ((ran p rows).harts k) ask → d' ≡ (d || not o)
    → IsHistory p false d rows → IsHistory q false d' (rows ++ row k ask reply guarded ∷ [])
row_more p q d d' o rows k ask reply guarded len live same s asks ed h =
    let c = p.start.settings in let i = p.start.image in
    let first = first_run (began_of p.start) in
    let run = ran p rows in
    let r = row k ask reply guarded in
    record {
      told = subst (λ (t : Start). AreTold (began_of t) d' (rows ++ r ∷ [])) (sym same) (record {
        lawful = lawful_snoc c i first rows r h.told.lawful (live_as c run p.trace.harts.items k h.run.trace.harts len live) s.0 s.1;
        orderly = not_both (are_orderly c i first rows) (is_orderly c i (run.harts k) ask) d o d' h.told.orderly asks ed ∙ sym (ap not (orderly_snoc c i first rows r));
      });
      run = subst (λ (t : Start). IsRun q (run_after (began_of t) false (rows ++ r ∷ []))) (sym same)
          (subst (λ (x : Run). IsRun q x) (sym (after_snoc c i first rows r)) s.2);
    }

-- what one ask that was served says of the machine before and after it
abbrev pub Serves : PlainParts → PlainParts → ℕ → Ask → Reply → Bool → Type 0
Serves p q k ask reply guarded = (run : Run) → IsRun p run → (reply ≡ (served p run k ask).reply) × (guarded ≡ (served p run k ask).guarded) × IsRun q (served p run k ask).run

history_more : (p q : PlainParts) (h d d' o : Bool) (rows : List TurnRow) (k : ℕ) (ask : Ask) (reply : Reply) (guarded : Bool) → length p.trace.harts.items ≡ p.start.settings.harts → is_live p k ≡ true → q.start ≡ p.start → Serves p q k ask reply guarded
    → ((run : Run) → IsRun p run → o ≡ is_orderly p.start.settings p.start.image (run.harts k) ask) → d' ≡ (d || not o) → IsHistory p h d rows → IsHistory q h d' (rows ++ row k ask reply guarded ∷ [])
history_more p q true d d' o rows k ask reply guarded len live same s asks ed is = absurd (false_true (live_runs p true d rows k is live))
history_more p q false d d' o rows k ask reply guarded len live same s asks ed is = row_more p q d d' o rows k ask reply guarded len live same (s _ is.run) (asks _ is.run) ed is

-- the same of what a bus keeps
pub kept_more : (tells : Bool) (old new : List TurnRow) (p q : PlainParts) (h d d' o : Bool) (k : ℕ) (ask : Ask) (reply : Reply) (guarded : Bool) → (tells ≡ true → new ≡ old ++ row k ask reply guarded ∷ [])
    → length p.trace.harts.items ≡ p.start.settings.harts → is_live p k ≡ true → q.start ≡ p.start → Serves p q k ask reply guarded → ((run : Run) → IsRun p run → o ≡ is_orderly p.start.settings p.start.image (run.harts k) ask) → d' ≡ (d || not o)
    → IsKept tells old p h d → IsKept tells new q h d'
kept_more tells old new p q h d d' o k ask reply guarded told_is len live same s asks ed kept = record {
  told = λ t. subst (λ (rs : List TurnRow). IsHistory q h d' rs) (sym (told_is t)) (history_more p q h d d' o old k ask reply guarded len live same s asks ed (kept.told t));
  some = (kept.some.0 ++ row k ask reply guarded ∷ [], history_more p q h d d' o kept.some.0 k ask reply guarded len live same s asks ed kept.some.1);
}

-- a turn more, in which the hart asked what it asks next
pub history_turned : (p q : PlainParts) (h d : Bool) (rows : List TurnRow) (k : ℕ) (ask : Ask) → length p.trace.harts.items ≡ p.start.settings.harts → is_live p k ≡ true → q.start ≡ p.start
    → is_orderly p.start.settings p.start.image (hart_in p.trace.harts.items k) ask ≡ true → ask ≡ ask_at p.start.settings p.start.image (hart_in p.trace.harts.items k)
    → ((run : Run) → IsRun p run → IsRun q (turn p.start.settings p.start.image run k)) → IsHistory p h d rows → (rs : List TurnRow) × IsHistory q h d rs
history_turned p q true d rows k ask len live same o asks turns is = absurd (false_true (live_runs p true d rows k is live))
history_turned p q false d rows k ask len live same o asks turns h =
    let run : Run = ran p rows in
    let s = served p run k ask in
    let after : IsRun q s.run = subst (λ (a : Ask). IsRun q (served p run k a).run) (sym (ask_is p run k ask h.run live asks)) (turns run h.run) in
    (rows ++ row k ask s.reply s.guarded ∷ [], row_more p q d d true rows k ask s.reply s.guarded len live same (refl, refl, after) (own_orderly p run k ask h.run live o) (or_not_true d) h)

-- ---- other changes

-- a halt
halted_twice : (h : Bool) (run : Run) → halted (halted_if h run) ≡ halted run
halted_twice true run = refl
halted_twice false run = refl

pub history_halted : (p q : PlainParts) (h d : Bool) (rows : List TurnRow) → q.start ≡ p.start → ((run : Run) → IsRun p run → IsRun q (halted run)) → IsHistory p h d rows → IsHistory q true d rows
history_halted p q h d rows same halts is = record {
  told = subst (λ (t : Start). AreTold (began_of t) d rows) (sym same) is.told;
  run = subst (λ (t : Start). IsRun q (run_after (began_of t) true rows)) (sym same)
      (subst (λ (x : Run). IsRun q x) (halted_twice h (after_rows p.start.settings p.start.image (first_run (began_of p.start)) rows)) (halts _ is.run));
}

-- more memory alone
history_same : (p q : PlainParts) (h d : Bool) (rows : List TurnRow) → q.start ≡ p.start → ((run : Run) → IsRun p run → IsRun q run) → IsHistory p h d rows → IsHistory q h d rows
history_same p q h d rows same stays is = record {
  told = subst (λ (t : Start). AreTold (began_of t) d rows) (sym same) is.told;
  run = subst (λ (t : Start). IsRun q (run_after (began_of t) h rows)) (sym same) (stays _ is.run);
}

pub kept_same : (tells : Bool) (old new : List TurnRow) (p q : PlainParts) (h d : Bool) → new ≡ old → q.start ≡ p.start → ((run : Run) → IsRun p run → IsRun q run) → IsKept tells old p h d → IsKept tells new q h d
kept_same tells old new p q h d is same stays kept = record {
  told = λ t. subst (λ (rs : List TurnRow). IsHistory q h d rs) (sym is) (history_same p q h d old same stays (kept.told t));
  some = (kept.some.0, history_same p q h d kept.some.0 same stays kept.some.1);
}

-- ---- what is seen of a bus

-- what is seen of it represents the runs that its parts represent
pub state_is : (p : PlainParts) (h d : Bool) (told : List TurnRow) (run : Run) → IsRun p run → IsState (seen p h d told) run
state_is p h d told run is = record {
  machine = is.machine;
  harts = is.trace.harts;
  caches = is.trace.caches;
  points = record { shadow = p.trace.shadow; same = refl; stands = is.trace.shadow };
  log = is.trace.log.holds;
  counted = is.trace.log.bytes;
  bytes = is.trace.bytes;
  turns = is.turns;
}

-- and for no others
pub run_is : NotesDecide → (p : PlainParts) (h d : Bool) (told : List TurnRow) (run : Run) → IsState (seen p h d told) run → IsRun p run
run_is decide p h d told run is = record {
  machine = is.machine;
  trace = record {
    harts = is.harts;
    caches = is.caches;
    shadow = decide is.points.shadow p.trace.shadow is.points.same run.points everyone is.points.stands;
    log = record { holds = is.log; bytes = is.counted };
    bytes = is.bytes;
  };
  turns = is.turns;
}

-- the same of what is seen, which represents no others
pub run_seen : NotesDecide → (p : PlainParts) (h d : Bool) (told : List TurnRow) (s : Seen) (run : Run) → seen p h d told ≡ s → IsState s run → IsRun p run
run_seen decide p h d told s run e is = run_is decide p h d told run (subst (λ (x : Seen). IsState x run) (sym e) is)

-- its turns are one more, if those of each run are
pub turns_more : (p : PlainParts) (h d : Bool) (told : List TurnRow) (s : Seen) (rows : List TurnRow) (n : ℕ) → seen p h d told ≡ s → IsHistory p h d rows → ((run : Run) → IsRun p run → n ≡ run.turns + 1) → n ≡ s.turns + 1
turns_more p h d told s rows n e is more = more _ is.run ∙ ap (λ (m : ℕ). m + 1) (sym is.run.turns ∙ ap (λ (x : Seen). x.turns) e)

-- rows that led to what is kept, and its ring
pub logged_is : RingsKeepTheRules → (p : PlainParts) (h d : Bool) (told rows : List TurnRow) (ring : Held) → IsSetting p.start.settings → ring.size ≡ p.start.settings.log_size → ring ≡ p.trace.log.ring → IsHistory p h d rows → IsLogged (seen p h d told) ring rows
logged_is law p h d told rows ring setting size e is =
    let log : HoldsLog ring (run_after (began_of p.start) h rows).stream = subst (λ (r : Held). HoldsLog r (run_after (began_of p.start) h rows).stream) (sym e) is.run.trace.log.holds in record {
      told = is.told;
      state = state_is p h d told (run_after (began_of p.start) h rows) is.run;
      log = log;
      rules = rules_are law (began_of p.start) h d rows ring setting is.told log size;
    }
