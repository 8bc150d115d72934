-- A turn of a plain machine in two steps: a hart's ask is answered and its words are accessed, then what comes next is done.
use Rattle.run_model.proofs.Common.{◌≡◌, ℕ, ◌+◌, ◌*◌, ◌-◌, ◌^◌, ◌<◌, ◌≤◌, ◌==◌, ◌++◌, Bool, true, false, List, [], length, get_or, refl, sym, ◌∙◌, ap, subst, arith, IsTrue, is_some, if◌then◌else◌, Option, Some, None, Vec, Global, append-nil, slice_get-get_or, Program, RawSettings, absorbed, aligned, add, count_up, is_reply_to, Ask, Want, Load, Store, Reply, Plan, Warm, Event, Record, Read, Write, RepresentsAccesses, Hart, Trace, Span, GoesOn, MachineParts, PlainParts, parts, Machine, IsMachine, answer, call_of, Run, IsRun, IsRaceReady, IsTraceFit, EachTurnMovesOn, IsOneOn, AsksHere, EndsTurn, IsNoted, ask_here, span, span_of, serve_call, next_of, skipped_after, point_of, edge_records, load_record, sc_record, warmth, loading, is_loading, word_before, events_after, hart_after, AreCaches, AreHarts, hart_in, steps_in, touched_word, touches, taken, IsLog, is_marked_next, clears, everyone, inl, inr, eqb_tells, harts_after, turns_left, IsHartFit, Point, harts_by, with_ends}
use Rattle.rv_meaning.specs.declared.asks.Reply.TheVariants as replies
use Rattle.run_model.specs.declared.plain.Plain.{Plain}
use Rattle.run_model.specs.Represents.Accessed.{CanFinish, CanNote, IsAccessed}
use Rattle.run_model.specs.Represents.Alone.{CanAccessAlone}
use Rattle.run_model.specs.Represents.Tracing.{CachesGoOn, next_by, with_access}
use Rattle.run_model.proofs.Asked.{IsAsked, as_it_is, asked_counts, eqb_same, few_skipped, few_steps, few_steps_more, if_false, if_true, low_number, some_room}
use Rattle.run_model.proofs.Fits.{fewer_left, no_more_left}
use Rattle.run_model.proofs.LoneTurns.{one_on}
use Rattle.run_model.proofs.Meant.{is_meant, meant}
use Rattle.run_model.proofs.MoveOn.{one_up}
use Rattle.run_model.proofs.Owns.{hart_at, hart_of_run}
use Rattle.run_model.proofs.PlainFits.{in_new, like_fit, moves_as, next_marked, one_less, other_at, other_hart, own_at, own_hart, two_ifs}
use Rattle.run_model.proofs.PlainRuns.{traced}

-- the call planned for hart k's ask, the word before its access and the reply are those of the machine
pub record IsGiven (c : RawSettings) (i : Program) (m : Machine) (k : ℕ) (ask : Ask) (call : Option Plan) (reply : Reply) (word : ℕ) : Type 0 where
  pub call_is : call ≡ call_of i m ask.want
  pub word_is : word ≡ word_before m.memory (loading ask.want)
  pub reply_is : reply ≡ (answer c call m k ask).reply

-- the parts can answer hart k's ask so, and what is traced then took in its access
pub record HasAccessed (p : PlainParts) (a : Trace) (k : ℕ) (ask : Ask) (call : Option Plan) (reply : Reply) (load : Option Warm) (word : ℕ) : Type 0 where
  pub asked : IsAsked p.start.settings p.start.image p.trace p.turns k ask
  pub given : (m : Machine) → IsMachine p.start.input.items p.machine m → IsGiven p.start.settings p.start.image m k ask call reply word
  pub fits : IsTrue (is_reply_to ask.want reply)
  pub load_is : (c : RawSettings) (events : ℕ → List Event) → AreCaches c p.trace.caches events → load ≡ warmth c (loading ask.want) (events k)
  pub loads : is_some load ≡ true → is_loading (loading ask.want) ≡ true
  pub caches : (c : RawSettings) (events : ℕ → List Event) → AreCaches c p.trace.caches events → AreCaches c a.caches (events_after GoesOn k call (span_of call ask.want reply) events)
  pub noted : IsNoted p.trace.shadow a.shadow p.turns k ask.state.ic (span_of call ask.want reply)
  pub holds : (points : List Point) (rs : List Record) → RepresentsAccesses points everyone p.trace.shadow → IsLog p.trace.log rs → IsLog a.log (with_access p.trace.harts.items p.turns k call ask reply load word points rs)
  pub harts : a.harts ≡ p.trace.harts
  pub count : length a.caches ≡ length p.trace.caches
  pub steps : (j : ℕ) → steps_in a.caches j ≡ (if j == k then steps_in p.trace.caches j + touches (touched_word call (span_of call ask.want reply)) else steps_in p.trace.caches j)
  pub took : taken a.log.ring ≤ taken p.trace.log.ring + 18
  pub size : a.log.ring.size ≡ p.trace.log.ring.size

-- from one to the other what is traced took in what comes next for hart k
pub record HasFinished (c : RawSettings) (a f : Trace) (k : ℕ) (ask : Ask) (call : Option Plan) (reply : Reply) (load : Option Warm) : Type 0 where
  pub harts : (g : ℕ → Hart) → AreHarts a.harts.items g → AreHarts f.harts.items (harts_by c call a.harts.items k ask reply load f.log.bytes g)
  pub holds : (g : ℕ → Hart) (rs : List Record) → AreHarts a.harts.items g → IsLog a.log rs → IsLog f.log (with_ends c call a.harts.items k ask reply g rs)
  pub caches : (s : RawSettings) (span : Option Span) (events : ℕ → List Event) → CachesGoOn s (next_by c call a.harts.items k ask reply) k call span events a.caches f.caches
  pub finished : EndsTurn a f k (next_by c call a.harts.items k ask reply)

-- the turn is that of the run
pub turned_run : {p : PlainParts} {a : Trace} {k : ℕ} {ask : Ask} {call : Option Plan} {reply : Reply} {load : Option Warm} {word : ℕ} (f : Trace) (machine : MachineParts) (run : Run)
    → HasAccessed p a k ask call reply load word → HasFinished p.start.settings a f k ask call reply load
    → ((m : Machine) → IsMachine p.start.input.items p.machine m → IsMachine p.start.input.items machine (answer p.start.settings call m k ask).machine)
    → IsRun p run → IsRun (record { start = p.start; machine = machine; trace = f; turns = p.turns + 1 }) (serve_call p.start.settings run k ask false call).run
turned_run {p} {a} {k} {ask} {call} {reply} {load} {word} f machine run e n stands is =
    let c = p.start.settings in
    let gives = e.given run.machine is.machine in
    let own : hart_in p.trace.harts.items k ≡ run.harts k = hart_of_run p.trace.harts.items k run.harts is.trace.harts (omega (arith, e.asked.within, e.asked.harts)) in
    let are : AreHarts a.harts.items run.harts = subst (λ (v : Vec Hart Global). AreHarts v.items run.harts) (sym e.harts) is.trace.harts in
    record {
      machine = stands run.machine is.machine;
      trace = traced c run k ask call p.turns _ (hart_in p.trace.harts.items k) (hart_in a.harts.items k) load word reply f is.turns (ap (λ (v : Vec Hart Global). length v.items) e.harts ∙ e.asked.harts) own
          (ap (λ (v : Vec Hart Global). hart_in v.items k) e.harts ∙ own) (e.load_is c run.events is.trace.caches) gives.word_is gives.reply_is
          (record {
            harts = n.harts run.harts are;
            caches = n.caches c (span_of call ask.want reply) run.events (e.caches c run.events is.trace.caches);
            shadow = n.finished.shadow.stands _ (e.noted.stands run.points is.trace.shadow);
            log = n.holds run.harts _ are (e.holds run.points run.stream is.trace.shadow is.trace.log);
          })
          (sym is.trace.bytes ∙ is.trace.log.bytes);
      turns = ap (λ (i : ℕ). i + 1) is.turns;
    }

-- after the turn the counts fit the settings
pub turned_fits : EachTurnMovesOn → {p : PlainParts} {a : Trace} {k : ℕ} {ask : Ask} {call : Option Plan} {reply : Reply} {load : Option Warm} {word : ℕ} (f : Trace)
    → HasAccessed p a k ask call reply load word → HasFinished p.start.settings a f k ask call reply load → IsTraceFit p.start.settings f (p.turns + 1)
turned_fits each {p} {a} {k} {ask} {call} {reply} {load} {word} f e n =
    let c = p.start.settings in let q = e.asked in
    let gives = e.given (meant p.start.input.items p.machine) (is_meant p.start.input.items p.machine) in
    let middle : Trace = record f { shadow = a.shadow } in
    let h = hart_in p.trace.harts.items k in
    let old : ℕ → Hart = hart_in p.trace.harts.items in
    let new : ℕ → Hart = hart_in f.harts.items in
    let s = absorbed ask reply in
    let next = next_by c call p.trace.harts.items k ask reply in
    let own = hart_after next s (skipped_after load h.skipped) f.log.bytes h in
    let on = moves_as c p.start.image _ h k ask call reply gives.call_is gives.reply_is (each c p.start.image (meant p.start.input.items p.machine) h k ask (omega (arith, q.settings.limit_high)) q.own.fit q.live q.orderly) in
    let len = n.finished.len ∙ ap (λ (v : Vec Hart Global). length v.items) e.harts in
    let old_are : AreHarts p.trace.harts.items old = λ j below. slice_get-get_or p.trace.harts.items j _ below in
    let new_are : AreHarts f.harts.items (harts_after next k own old) =
    subst (λ (v : Vec Hart Global). AreHarts v.items old → AreHarts f.harts.items (harts_by c call v.items k ask reply load f.log.bytes old)) e.harts (n.harts old) old_are in
    let steps : (j : ℕ) → steps_in f.caches j ≡ (if j == k then steps_in p.trace.caches j + touches (touched_word call (span_of call ask.want reply)) + clears next else steps_in p.trace.caches j) =
    λ j. two_ifs (j == k) _ _ _ _ _ (subst (λ (v : Vec Hart Global). steps_in f.caches j ≡ (if j == k then steps_in a.caches j + clears (next_by c call v.items k ask reply) else steps_in a.caches j)) e.harts (n.finished.steps j)) (e.steps j) in
    let at : (j : ℕ) → j < c.harts → new j ≡ harts_after next k own old j = λ j below. in_new f.harts.items j (harts_after next k own old) new_are (omega (arith, below, len, q.harts)) in
    let own_is : new k ≡ own = at k q.within ∙ own_at k k next own old (eqb_same k) in
    let fewer : turns_left c (new k) < turns_left c h = subst (λ (x : Hart). turns_left c x < turns_left c h) (sym own_is) (fewer_left next c h ask.state.ic s (span_of call ask.want reply) (loading ask.want) (skipped_after load h.skipped) f.log.bytes q.live q.own.fit on) in
    let no_more : (j : ℕ) → j < c.harts → turns_left c (new j) ≤ turns_left c (old j) = λ j below. elim (eqb_tells j k) [
      | inl o ↦ subst (λ (i : ℕ). turns_left c (new i) ≤ turns_left c (old i)) (sym o.1) (omega (arith, fewer))
      | inr o ↦ subst (λ (x : Hart). turns_left c x ≤ turns_left c (old j)) (sym (at j below ∙ other_at j k next own old o.0)) (no_more_left next c (old j))
    ] in
    let less = one_less c c.harts k old new q.within no_more fewer in
    like_fit c middle f (p.turns + 1)
    (record {
      settings = q.settings;
      few = q.few;
      harts = len ∙ q.harts;
      caches = n.finished.count ∙ e.count ∙ q.caches;
      shadow = e.noted.harts ∙ q.shadow;
      each = λ j below. elim (eqb_tells j k) [
        | inl o ↦ subst (λ (i : ℕ). IsHartFit c middle i) (sym o.1) (own_hart c p.trace middle k ask call reply load next q.settings.interval_low q.live q.own on own_is e.loads (steps k ∙ if_true (k == k) _ _ (eqb_same k)) e.noted.next e.noted.lasting)
        | inr o ↦ other_hart c p.trace middle j next (q.others j below o.1) (at j below ∙ other_at j k next own old o.0) (steps j ∙ if_false (j == k) _ _ o.0) (e.noted.others j o.1) e.noted.lasting
      ];
      turn = e.noted.turn_is;
      left = omega (arith, less, q.left);
      log = omega (arith, e.took, n.finished.took, q.log);
      log_size = n.finished.size ∙ e.size ∙ q.log_size;
    })
    (record { harts = refl; caches = refl; shadow = n.finished.shadow; log = refl })

-- the race log can take in an orderly ask's access
pub may_note : EachTurnMovesOn → {c : RawSettings} {i : Program} {t : Trace} {turns k : ℕ} {ask : Ask} (words : Option Span) → IsAsked c i t turns k ask → IsRaceReady t.shadow words → CanNote t.shadow turns k ask.state.ic words
may_note each {c} {i} {t} {turns} {k} {ask} words q ready =
    let counts = asked_counts each c i t turns k ask q in
    record {
      shadow = omega (arith, q.within, q.shadow);
      few = omega (arith, q.shadow, q.few);
      ic = omega (arith, counts.limit, q.settings.limit_high);
      ready = ready;
      turns = q.turn;
      counts = omega (arith, counts.from, q.own.count);
      lasting = q.own.lasting q.live;
    }

-- what comes next can be done
pub may_finish : EachTurnMovesOn → {p : PlainParts} {a : Trace} {k : ℕ} {ask : Ask} {call : Option Plan} {reply : Reply} {load : Option Warm} {word : ℕ} → HasAccessed p a k ask call reply load word → CanFinish p.start.settings call a k ask reply
may_finish each {p} {a} {k} {ask} {call} {reply} {load} {word} e =
    let c = p.start.settings in
    let q = e.asked in
    let m = meant p.start.input.items p.machine in
    let gives = e.given m (is_meant p.start.input.items p.machine) in
    let h : Hart = hart_in p.trace.harts.items k in
    let len : length a.harts.items ≡ length p.trace.harts.items = ap (λ (v : Vec Hart Global). length v.items) e.harts in
    record {
      hart = omega (arith, q.within, q.harts, len);
      few = omega (arith, q.few, q.harts, len);
      caches = omega (arith, q.within, q.caches, e.count);
      steps = few_steps_more c h (steps_in p.trace.caches k) _ (touched_word call (span_of call ask.want reply)) q.own.fit q.settings.limit_high q.own.steps (e.steps k ∙ if_true (k == k) _ _ (eqb_same k));
      shadow = e.noted.harts ∙ q.shadow ∙ sym (len ∙ q.harts);
      fits = e.fits;
      number = subst (λ (v : Vec Hart Global). (hart_in v.items k).number < 2 ^ 62) (sym e.harts) (low_number c h q.own.fit q.settings.limit_high);
      skipped = subst (λ (v : Vec Hart Global). (hart_in v.items k).skipped < 2 ^ 32 - 1) (sym e.harts) (few_skipped c h q.own.fit q.settings.interval_high);
      marked = subst (λ (v : Vec Hart Global). IsTrue (is_marked_next (next_by c call v.items k ask reply))) (sym e.harts) (next_marked each c p.start.image m p.trace p.turns k ask call reply q gives.call_is gives.reply_is);
      room = some_room c p.turns _ (taken a.log.ring) 18 q.few q.settings.limit_high q.left (omega (arith, q.log, e.took)) (omega arith);
    }

-- ---- in the hart's own place

-- the ask of a hart in its present state is an orderly one
pub asked_here : (p : Plain) (k : ℕ) (want : Want) → AsksHere (parts p) k want → IsAsked p.start.settings p.start.image p.trace p.turns k (ask_here (hart_in p.trace.harts.items k) want)
asked_here p k want asks = as_it_is p.start.settings p.start.image p.trace p.turns k (ask_here (hart_in p.trace.harts.items k) want) p.fits asks.hart asks.live asks.orderly

-- the count at which a hart of the list is
ic_at : (hs : List Hart) (k : ℕ) (x : Hart) → k < length hs → x ≡ get_or hs k x → x.state.ic ≡ (hart_in hs k).state.ic
ic_at hs k x within e = ap (λ (y : Hart). y.state.ic) (hart_at hs k x within e)

-- the words can be accessed by a lone hart
pub may_access_alone : EachTurnMovesOn → (p : Plain) (want : Want) (x : Hart) (words : Span) → AsksHere (parts p) 0 want → p.start.settings.harts ≡ 1 → x ≡ get_or p.trace.harts.items 0 x → words.first + 4 * words.count ≤ 2 ^ 32 → CanAccessAlone p.trace p.turns x.state.ic words
may_access_alone each p want x words asks alone at addresses =
    let h = hart_in p.trace.harts.items 0 in
    let q = asked_here p 0 want asks in
    let counts = asked_counts each p.start.settings p.start.image p.trace p.turns 0 (ask_here h want) q in
    let within : 0 < length p.trace.harts.items = omega (arith, q.within, q.harts) in
    let ic : x.state.ic ≡ h.state.ic = ic_at p.trace.harts.items 0 x within at in
    record {
      hart = within;
      caches = omega (arith, q.within, q.caches);
      steps = few_steps p.start.settings h (steps_in p.trace.caches 0) q.own.fit q.settings.limit_high q.own.steps;
      addresses = addresses;
      note = record {
        alone = q.shadow ∙ alone;
        ic = omega (arith, ic, counts.limit, q.settings.limit_high);
        turns = q.turn;
        counts = omega (arith, ic, counts.from, q.own.count);
        lasting = q.own.lasting q.live;
      };
      room = some_room p.start.settings p.turns _ (taken p.trace.log.ring) 17 q.few q.settings.limit_high q.left (omega (arith, q.log)) (omega arith);
    }

-- an access of the words that the ask names, at the hart's own count, after which the reply adds no record
accessed : (p : Plain) (k : ℕ) (want : Want) (x : Hart) (a : Trace) (words : Span) (reply : Reply) (load : Option Warm) (word : ℕ) → AsksHere (parts p) k want → x ≡ get_or p.trace.harts.items k x
    → ((m : Machine) → IsMachine p.start.input.items p.machine m → IsGiven p.start.settings p.start.image m k (ask_here (hart_in p.trace.harts.items k) want) None reply word) → IsTrue (is_reply_to want reply)
    → ((c : RawSettings) (events : ℕ → List Event) → AreCaches c p.trace.caches events → load ≡ warmth c (loading want) (events k)) → (is_some load ≡ true → is_loading (loading want) ≡ true)
    → Some words ≡ span_of None want reply → [] ≡ sc_record reply k → IsAccessed p.trace a p.turns k x.state.ic words load word
    → HasAccessed (parts p) a k (ask_here (hart_in p.trace.harts.items k) want) None reply load word
accessed p k want x a words reply load word asks at given fits load_is loads names none e =
    let t = p.trace in
    let h : Hart = hart_in t.harts.items k in
    let q = asked_here p k want asks in
    let ic = ic_at t.harts.items k x (omega (arith, q.within, q.harts)) at in
    let logged : ℕ → Option Span → List Point → List Record → List Record → List Record = λ n s points rs ys. rs ++ edge_records (point_of k n p.turns s) points ++ load_record load k h.skipped word ++ ys in
    record {
      asked = q;
      given = given;
      fits = fits;
      load_is = load_is;
      loads = loads;
      caches = λ c events are. subst (λ (s : Option Span). AreCaches c a.caches (events_after GoesOn k None s events)) names (e.caches c events are);
      noted = subst (λ (s : Option Span). IsNoted t.shadow a.shadow p.turns k h.state.ic s) names (subst (λ (n : ℕ). IsNoted t.shadow a.shadow p.turns k n (Some words)) ic e.noted);
      holds = λ points rs stands held.
          subst (λ (ys : List Record). IsLog a.log (logged h.state.ic (span_of None want reply) points rs ys)) none
          (subst (λ (s : Option Span). IsLog a.log (logged h.state.ic s points rs [])) names
          (subst (λ (n : ℕ). IsLog a.log (logged n (Some words) points rs [])) ic (subst (λ (ys : List Record). IsLog a.log ys) (sym (append-nil _)) (e.holds points rs stands held))));
      harts = e.harts;
      count = e.count;
      steps = λ j. subst (λ (s : Option Span). steps_in a.caches j ≡ (if j == k then steps_in t.caches j + touches (touched_word None s) else steps_in t.caches j)) names (e.steps j);
      took = omega (arith, e.took);
      size = e.size;
    }

-- a load has accessed its word, and its reply is the word before it
pub loaded : (p : Plain) (k a w : ℕ) (g : Bool) (rd : ℕ) (x : Hart) (t : Trace) (warm : Warm) (word : ℕ) → AsksHere (parts p) k (Load a w g rd) → x ≡ get_or p.trace.harts.items k x
    → ((input : List ℕ) (m : Machine) → IsMachine input p.machine m → word ≡ word_before m.memory (Some (aligned a)))
    → ((c : RawSettings) (events : ℕ → List Event) → AreCaches c p.trace.caches events → Some warm ≡ warmth c (Some (aligned a)) (events k))
    → IsAccessed p.trace t p.turns k x.state.ic (span (aligned a) 1 Read) (Some warm) word
    → HasAccessed (parts p) t k (ask_here (hart_in p.trace.harts.items k) (Load a w g rd)) None (replies.Word word) (Some warm) word
loaded p k a w g rd x t warm word asks at value load e =
    accessed p k (Load a w g rd) x t (span (aligned a) 1 Read) (replies.Word word) (Some warm) word asks at (λ m is. record { call_is = refl; word_is = value _ m is; reply_is = ap (λ (n : ℕ). replies.Word n) (value _ m is) }) refl load (λ s. refl) refl refl e

-- a store of a whole word loads none
warm_by : (b : Bool) (c : RawSettings) (a : ℕ) (es : List Event) → elim b as (λ x. Option Warm) [ true ↦ None | false ↦ warmth c (Some a) es ] ≡ warmth c (elim b as (λ x. Option ℕ) [ true ↦ None | false ↦ Some a ]) es
warm_by true c a es = refl
warm_by false c a es = refl

-- a store has accessed its word, and has loaded it unless it stores the whole of it
pub stored : (p : Plain) (k a w v : ℕ) (x : Hart) (t : Trace) (reply : Reply) (load : Option Warm) (word : ℕ) → AsksHere (parts p) k (Store a w v) → x ≡ get_or p.trace.harts.items k x → reply ≡ replies.Stored
    → ((input : List ℕ) (m : Machine) → IsMachine input p.machine m → word ≡ word_before m.memory (loading (Store a w v)))
    → ((c : RawSettings) (events : ℕ → List Event) → AreCaches c p.trace.caches events → load ≡ elim (w == 4) as (λ y. Option Warm) [ true ↦ None | false ↦ warmth c (Some (aligned a)) (events k) ])
    → (is_some load ≡ true → (w == 4) ≡ false) → IsAccessed p.trace t p.turns k x.state.ic (span (aligned a) 1 Write) load word
    → HasAccessed (parts p) t k (ask_here (hart_in p.trace.harts.items k) (Store a w v)) None reply load word
stored p k a w v x t reply load word asks at is value load_is loads e =
    accessed p k (Store a w v) x t (span (aligned a) 1 Write) reply load word asks at (λ m stands. record { call_is = refl; word_is = value _ m stands; reply_is = is })
    (subst (λ (r : Reply). IsTrue (is_reply_to (Store a w v) r)) (sym is) refl) (λ c events are. load_is c events are ∙ warm_by (w == 4) c (aligned a) (events k))
    (λ s. ap (λ (b : Bool). is_loading (elim b as (λ y. Option ℕ) [ true ↦ None | false ↦ Some (aligned a) ])) (loads s)) refl (subst (λ (r : Reply). [] ≡ sc_record r k) (sym is) refl) e

-- what comes next can be done, also by the harts after the access, which are the same
pub may_finish_here : EachTurnMovesOn → {p : PlainParts} {a : Trace} {k : ℕ} {want : Want} {reply : Reply} {load : Option Warm} {word : ℕ}
    → HasAccessed p a k (ask_here (hart_in p.trace.harts.items k) want) None reply load word → CanFinish p.start.settings None a k (ask_here (hart_in a.harts.items k) want) reply
may_finish_here each {p} {a} {k} {want} {reply} e = subst (λ (v : Vec Hart Global). CanFinish p.start.settings None a k (ask_here (hart_in v.items k) want) reply) (sym e.harts) (may_finish each e)

-- what comes next was done by the harts before the access, if by those after it
pub finished_here : {p : PlainParts} {a : Trace} {k : ℕ} {want : Want} {reply : Reply} {load : Option Warm} {word : ℕ} (f : Trace)
    → HasAccessed p a k (ask_here (hart_in p.trace.harts.items k) want) None reply load word → HasFinished p.start.settings a f k (ask_here (hart_in a.harts.items k) want) None reply load
    → HasFinished p.start.settings a f k (ask_here (hart_in p.trace.harts.items k) want) None reply load
finished_here {p} {a} {k} {want} {reply} {load} f e n = subst (λ (v : Vec Hart Global). HasFinished p.start.settings a f k (ask_here (hart_in v.items k) want) None reply load) e.harts n

-- ---- after which the one hart continues

-- the one hart continues, also by the harts after the access
pub goes_on_here : {p : PlainParts} {a : Trace} {want : Want} {reply : Reply} {load : Option Warm} {word : ℕ} (given : Reply) → let h = hart_in p.trace.harts.items 0 in
    HasAccessed p a 0 (ask_here h want) None reply load word → reply ≡ given → next_of p.start.settings None h want given (absorbed (ask_here h want) given).ic ≡ GoesOn
    → next_by p.start.settings None a.harts.items 0 (ask_here (hart_in a.harts.items 0) want) reply ≡ GoesOn
goes_on_here {p} {a} {want} {reply} given e same on =
    subst (λ (v : Vec Hart Global). next_by p.start.settings None v.items 0 (ask_here (hart_in v.items 0) want) reply ≡ GoesOn) (sym e.harts)
    (subst (λ (r : Reply). next_by p.start.settings None p.trace.harts.items 0 (ask_here (hart_in p.trace.harts.items 0) want) r ≡ GoesOn) (sym same) on)

-- the one hart is one instruction further
pub turned_one : {p : PlainParts} {a : Trace} {want : Want} {reply : Reply} {load : Option Warm} {word : ℕ} (f : Trace) (given : Reply) → let h = hart_in p.trace.harts.items 0 in let s = absorbed (ask_here h want) given in
    HasAccessed p a 0 (ask_here h want) None reply load word → HasFinished p.start.settings a f 0 (ask_here h want) None reply load → reply ≡ given → next_of p.start.settings None h want given s.ic ≡ GoesOn
    → s.pc ≡ add h.state.pc 4 → s.ic ≡ count_up h.state.ic → IsOneOn h (hart_in f.harts.items 0)
turned_one {p} {a} {want} {reply} {load} f given e n same on pc ic =
    let c = p.start.settings in
    let q = e.asked in
    let h : Hart = hart_in p.trace.harts.items 0 in
    let ask : Ask = ask_here h want in
    let own : Hart → Reply → Hart = λ (y : Hart) (r : Reply). hart_after (next_of c None y want r (absorbed ask r).ic) (absorbed ask r) (skipped_after load y.skipped) f.log.bytes y in
    let are : AreHarts a.harts.items (hart_in a.harts.items) = λ j below. slice_get-get_or a.harts.items j _ below in
    let now = hart_of_run f.harts.items 0 _ (n.harts (hart_in a.harts.items) are) (omega (arith, q.within, q.harts, ap (λ (v : Vec Hart Global). length v.items) e.harts, n.finished.len)) in
    one_on h (hart_in f.harts.items 0) (next_of c None h want given (absorbed ask given).ic) (absorbed ask given) (skipped_after load h.skipped) f.log.bytes on
    (now ∙ ap (λ (v : Vec Hart Global). own (hart_in v.items 0) reply) e.harts ∙ ap (λ (r : Reply). own h r) same) pc (ic ∙ one_up h.state.ic (omega (arith, q.own.fit.limit, q.settings.limit_high)))
