-- One turn of a recording: its records keep the rules, and leave the harts' views as the harts are.
use Rattle.file_laws.proofs.Common.{◌≡◌, ℕ, zero, suc, ◌+◌, ◌<◌, ◌≤◌, ◌^◌, Bool, true, false, not, ◌&&◌, Option, Some, None, List, [], ◌∷◌, ◌++◌, length, refl, sym, ◌∙◌, ap, subst, arith, append_assoc, inl, inr, ◌==◌, slice_get, nat_le, nat_lt, if◌then◌else◌, AllByRecursion, eqb_tells, append-nil, Program, IsSetting, RawSettings, HartState, absorbed, is_cut, is_counted, passes, Ask, Want, Reply, Warm, Plan, Point, Record, ScOk, ScFailed, Edge, End, total, order_limits_of, Keeps, IsEarly, Hart, TurnEnd, GoesOn, NewInterval, RunOver, Span, Answered, answer, call_of, Run, Served, serve, is_guarded, by_guard, begun_anew, guarded_run, guard_records, after_ask, span_of, next_of, loading, warmth, skipped_after, word_before, budget, point_of, points_after, edge_records, load_record, sc_record, next_records, stopped_records, run_over_records, hart_after, other_after, harts_after, is_orderly, mark, IsFit, IsRested, is_there, is_on, MovesOn, anew, EachTurnMovesOn, EachTurnFits, OthersStayFit, GuardedAsksFit, turns_left, counts_of, and_parts, eqb-true, not-true, leb-true, ltb-true, eqb_same, budget_interval, budget_limit, own_is, other_is, own_state, other_state, uncut, served, ListedEdges}
use Rattle.rv_meaning.specs.declared.asks.Reply.TheVariants as replies
use Rattle.first_load_bits.specs.declared.warm.Warm.TheVariants as answers
use Rattle.file_laws.proofs.Views.{OrderLaws, Views, IsOpen, IsView, Took, took_none, took_both, took_edges, took_load, took_conditional, open_later, AreSources}
use Rattle.file_laws.proofs.Nexts.{EndsAs, IsWithin, next_ends, ends_on, guard_ends, took_next}
use Rattle.file_laws.proofs.Sources.{ArePoints, sources_are, edges_early, points_go_on}
use Rattle.file_laws.proofs.Stops.{stops}

-- the laws that are used here
pub record Laws : Type 0 where
  pub order : OrderLaws
  pub listed : ListedEdges
  pub moves : EachTurnMovesOn
  pub fits : EachTurnFits
  pub others : OthersStayFit
  pub guarded : GuardedAsksFit

-- what holds of a run all of whose asks were orderly, also once a guard has begun an interval: the records keep the rules, and leave
-- the view of each hart that the hart has
pub record Underway (c : RawSettings) (run : Run) : Type 0 where
  pub views : Views
  pub keeps : Keeps (order_limits_of c) c.harts 0 run.stream views
  pub size : length views ≡ c.harts
  pub view : (j : ℕ) → j < c.harts → IsView (run.harts j) (slice_get views j)
  pub fit : (j : ℕ) → IsFit c (run.harts j)
  pub early : AllByRecursion (IsEarly (counts_of run)) run.stream
  pub points : ArePoints c.harts (counts_of run) run.points

-- and between two turns
pub record Recording (c : RawSettings) (run : Run) : Type 0 where
  pub views : Views
  pub keeps : Keeps (order_limits_of c) c.harts 0 run.stream views
  pub size : length views ≡ c.harts
  pub view : (j : ℕ) → j < c.harts → IsView (run.harts j) (slice_get views j)
  pub fit : (j : ℕ) → IsRested c (run.harts j)
  pub early : AllByRecursion (IsEarly (counts_of run)) run.stream
  pub points : ArePoints c.harts (counts_of run) run.points

abbrev pub underway : (c : RawSettings) (run : Run) → Recording c run → Underway c run
underway c run known = record { views = known.views; keeps = known.keeps; size = known.size; view = known.view; fit = λ j. (known.fit j).fit; early = known.early; points = known.points }

-- ---- lists of early records

pub all_both : {X : Type 0} (P : X → Type 0) (xs ys : List X) → AllByRecursion P xs → AllByRecursion P ys → AllByRecursion P (xs ++ ys)
all_both P [] ys a b = b
all_both P (x ∷ xs) ys a b = (a.0, all_both P xs ys a.1 b)

early_one : (counts later : ℕ → ℕ) (r : Record) → ((s : ℕ) → counts s ≤ later s) → IsEarly counts r → IsEarly later r
early_one counts later (Edge h ic s j) on e = omega (arith, e, on s)
early_one counts later r on e = tt

pub early_later : (counts later : ℕ → ℕ) (rs : List Record) → ((s : ℕ) → counts s ≤ later s) → AllByRecursion (IsEarly counts) rs → AllByRecursion (IsEarly later) rs
early_later counts later [] on a = tt
early_later counts later (r ∷ rs) on a = (early_one counts later r on a.0, early_later counts later rs on a.1)

load_early : (load : Option Warm) (counts : ℕ → ℕ) (k skipped word : ℕ) → AllByRecursion (IsEarly counts) (load_record load k skipped word)
load_early (Some answers.Cold) counts k skipped word = (tt, tt)
load_early load counts k skipped word = tt

conditional_early : (reply : Reply) (counts : ℕ → ℕ) (k : ℕ) → AllByRecursion (IsEarly counts) (sc_record reply k)
conditional_early replies.ScOk counts k = (tt, tt)
conditional_early replies.ScFailed counts k = (tt, tt)
conditional_early reply counts k = tt

next_early : (next : TurnEnd) (counts : ℕ → ℕ) (k number : ℕ) (s : HartState) → AllByRecursion (IsEarly counts) (next_records next k number s)
next_early GoesOn counts k number s = tt
next_early (NewInterval reason value) counts k number s = (tt, (tt, tt))
next_early next counts k number s = (tt, tt)

stop_early : (b : Bool) (counts : ℕ → ℕ) (j ic : ℕ) (rs : List Record) → AllByRecursion (IsEarly counts) rs → AllByRecursion (IsEarly counts) (elim b as (λ x. List Record) [ true ↦ End j (mark ic 5 0) ∷ rs | false ↦ rs ])
stop_early true counts j ic rs a = (tt, a)
stop_early false counts j ic rs a = a

stops_early : (counts : ℕ → ℕ) (k j n : ℕ) (harts : ℕ → Hart) → AllByRecursion (IsEarly counts) (stopped_records k j n harts)
stops_early counts k j zero harts = tt
stops_early counts k j (suc n) harts = stop_early (not (j == k) && (harts j).live) counts j (harts j).state.ic (stopped_records k (j + 1) n harts) (stops_early counts k (j + 1) n harts)

over_early : (next : TurnEnd) (counts : ℕ → ℕ) (k n : ℕ) (harts : ℕ → Hart) → AllByRecursion (IsEarly counts) (run_over_records next k n harts)
over_early (RunOver reason value) counts k n harts = stops_early counts k 0 n harts
over_early next counts k n harts = tt

-- ---- the harts after a turn

-- the hart whose turn it was, where the stream has so many bytes now, and the count of each hart
abbrev pub own_hart : RawSettings → Run → ℕ → Ask → TurnEnd → HartState → ℕ → Hart
own_hart c run k ask next s bytes = hart_after next s (skipped_after (warmth c (loading ask.want) (run.events k)) (run.harts k).skipped) bytes (run.harts k)

abbrev counts_after : RawSettings → Run → ℕ → Ask → TurnEnd → HartState → ℕ → ℕ → ℕ
counts_after c run k ask next s bytes j = (harts_after next k (own_hart c run k ask next s bytes) run.harts j).state.ic

counts_go_on : (c : RawSettings) (run : Run) (k : ℕ) (ask : Ask) (next : TurnEnd) (s : HartState) (bytes : ℕ) → (run.harts k).state.ic ≤ s.ic → (j : ℕ) → counts_of run j ≤ counts_after c run k ask next s bytes j
counts_go_on c run k ask next s bytes on j = elim (eqb_tells j k) [
  | inl p ↦
      let e = ap (λ (x : HartState). x.ic) (ap (λ (h : Hart). h.state) (own_is next k j (own_hart c run k ask next s bytes) run.harts p.0) ∙ own_state next s (skipped_after (warmth c (loading ask.want) (run.events k)) (run.harts k).skipped) bytes (run.harts k)) in
      let old : counts_of run j ≡ counts_of run k = ap (counts_of run) p.1 in
      omega (arith, e, old, on)
  | inr p ↦
      let e = ap (λ (x : HartState). x.ic) (ap (λ (h : Hart). h.state) (other_is next k j (own_hart c run k ask next s bytes) run.harts p.0) ∙ other_state next (run.harts j)) in
      omega (arith, e)
]

own_count : (c : RawSettings) (run : Run) (k : ℕ) (ask : Ask) (next : TurnEnd) (s : HartState) (bytes : ℕ) → counts_after c run k ask next s bytes k ≡ s.ic
own_count c run k ask next s bytes = ap (λ (h : Hart). h.state.ic) (own_is next k k (own_hart c run k ask next s bytes) run.harts (eqb_same k)) ∙ ap (λ (x : HartState). x.ic) (own_state next s (skipped_after (warmth c (loading ask.want) (run.events k)) (run.harts k).skipped) bytes (run.harts k))

-- ---- where the asking instruction is

pub turn_within : (c : RawSettings) (h : Hart) (asked after : ℕ) (next : TurnEnd) (span : Option Span) (load : Option ℕ) → IsFit c h → MovesOn c h asked after next span load → IsWithin c h after
turn_within c h asked after next span load fit on = record {
  low = omega (arith, fit.skipped, on.from, on.low);
  high = omega (arith, on.high, budget_interval c h, fit.interval, fit.skipped);
  limit = omega (arith, on.high, budget_limit c h, fit.limit);
}

-- ---- the records of a turn

took_point : Laws → (c : RawSettings) (run : Run) (k ic : ℕ) (span : Option Span) (s : HartState) (asked : ℕ) (next : TurnEnd) (load : Option ℕ) (known : Underway c run) → IsSetting c → MovesOn c (run.harts k) asked s.ic next span load
    → IsOpen ((run.harts k).number + 1) (run.harts k).begun (run.harts k).state.ic (slice_get known.views k)
    → Took (order_limits_of c) c.harts run.stream known.views k (edge_records (point_of k asked run.turns span) run.points) (IsOpen ((run.harts k).number + 1) (run.harts k).begun s.ic)
took_point laws c run k ic None s asked next load known setting on v =
    took_none (order_limits_of c) c.harts run.stream known.views k (IsOpen ((run.harts k).number + 1) (run.harts k).begun s.ic) known.keeps
    (open_later ((run.harts k).number + 1) (run.harts k).begun (run.harts k).state.ic s.ic (slice_get known.views k) (omega (arith, on.from, on.low)) v)
took_point laws c run k ic (Some x) s asked next load known setting on v =
    let h = run.harts k in
    let up : s.ic ≡ asked + 1 = on.accessed refl in
    let within = turn_within c h asked s.ic next (Some x) load (known.fit k) on in
    let sources : AreSources c.harts c.limit k _ = sources_are laws.listed run.points _ c.harts c.limit (counts_of run) known.points (λ j. (known.fit j).limit) in
    subst (λ (n : ℕ). Took (order_limits_of c) c.harts run.stream known.views k (edge_records (point_of k asked run.turns (Some x)) run.points) (IsOpen (h.number + 1) h.begun n)) (sym up)
    (took_edges laws.order (order_limits_of c) c.harts run.stream known.views k asked (h.number + 1) h.begun _ known.keeps known.size
    (open_later (h.number + 1) h.begun h.state.ic (asked + 1) (slice_get known.views k) (omega (arith, on.from)) v) sources
    (omega (arith, up, within.limit)) (omega (arith, (known.fit k).skipped, on.from)) (omega (arith, up, within.high)))

-- all records of the turn but those of the harts that it stops
abbrev own_records : RawSettings → Run → ℕ → Ask → Reply → Option Span → TurnEnd → HartState → List Record
own_records c run k ask reply span next s =
    edge_records (point_of k ask.state.ic run.turns span) run.points
    ++ (load_record (warmth c (loading ask.want) (run.events k)) k (run.harts k).skipped (word_before run.machine.memory (loading ask.want)) ++ (sc_record reply k ++ next_records next k (run.harts k).number s))

took_turn : Laws → (c : RawSettings) (run : Run) (k : ℕ) (ask : Ask) (reply : Reply) (span : Option Span) (next : TurnEnd) (s : HartState) (bytes : ℕ) (known : Underway c run) → IsSetting c → k < c.harts → (run.harts k).live ≡ true
    → MovesOn c (run.harts k) ask.state.ic s.ic next span (loading ask.want) → EndsAs c (run.harts k) s.ic next
    → Took (order_limits_of c) c.harts run.stream known.views k (own_records c run k ask reply span next s) (IsView (own_hart c run k ask next s bytes))
took_turn laws c run k ask reply span next s bytes known setting there live on so =
    let h = run.harts k in
    let t = order_limits_of c in
    let n = c.harts in
    let number = h.number + 1 in
    let load = warmth c (loading ask.want) (run.events k) in
    let word = word_before run.machine.memory (loading ask.want) in
    let P = IsOpen number h.begun s.ic in
    let within = turn_within c h ask.state.ic s.ic next span (loading ask.want) (known.fit k) on in
    let edges = took_point laws c run k ask.state.ic span s ask.state.ic next (loading ask.want) known setting on ((known.view k there).in_interval live) in
    let es : List Record = edge_records (point_of k ask.state.ic run.turns span) run.points in
    let loads = took_load laws.order t n (run.stream ++ es) edges.views k s.ic number h.begun load h.skipped word edges.keeps edges.own in
    let ls : List Record = load_record load k h.skipped word in
    let conditionals = took_conditional laws.order t n ((run.stream ++ es) ++ ls) loads.views k s.ic number h.begun reply loads.keeps loads.own in
    let cs : List Record = sc_record reply k in
    let small : is_on next ≡ true → h.number < 2 ^ 41 = λ p. omega (arith, (known.fit k).number, (known.fit k).skipped, on.on p, within.limit, setting.limit_high) in
    let last = took_next next laws.order c n (((run.stream ++ es) ++ ls) ++ cs) conditionals.views k h s (skipped_after load h.skipped) bytes conditionals.keeps live small conditionals.own within (ends_on next c h s.ic so) in
    let Q = IsView (own_hart c run k ask next s bytes) in
    let ns : List Record = next_records next k h.number s in
    took_both t n run.stream known.views k es (ls ++ (cs ++ ns)) P Q edges
    (took_both t n (run.stream ++ es) edges.views k ls (cs ++ ns) P Q loads (took_both t n ((run.stream ++ es) ++ ls) loads.views k cs ns P Q conditionals last))

-- ---- the run after a turn

-- the records of the turn, and the views after them
record Turned (c : RawSettings) (stream more : List Record) (harts : ℕ → Hart) : Type 0 where
  views : Views
  keeps : Keeps (order_limits_of c) c.harts 0 (stream ++ more) views
  size : length views ≡ c.harts
  view : (j : ℕ) → j < c.harts → IsView (harts j) (slice_get views j)

-- the other harts' views stay, unless the run is over
with_others : (c : RawSettings) (run : Run) (k : ℕ) (own : Hart) (next : TurnEnd) (known : Underway c run) (rs : List Record) → ((h : Hart) → other_after next h ≡ h)
    → Took (order_limits_of c) c.harts run.stream known.views k rs (IsView own) → Turned c run.stream rs (harts_after next k own run.harts)
with_others c run k own next known rs stay took = record {
  views = took.views;
  keeps = took.keeps;
  size = took.size ∙ known.size;
  view = λ j within. elim (eqb_tells j k) [
    | inl p ↦ (let here : IsView own (slice_get took.views j) = subst (λ (x : ℕ). IsView own (slice_get took.views x)) (sym p.1) took.own in subst (λ (h : Hart). IsView h (slice_get took.views j)) (sym (own_is next k j own run.harts p.0)) here)
    | inr p ↦ subst (λ (h : Hart). IsView h (slice_get took.views j)) (sym (other_is next k j own run.harts p.0 ∙ stay (run.harts j))) (subst (IsView (run.harts j)) (sym (took.others j p.0)) (known.view j within))
  ];
}

-- if it is, the live ones are stopped
with_stops : OrderLaws → (c : RawSettings) (run : Run) (k : ℕ) (own : Hart) (reason value : ℕ) (known : Underway c run) (rs : List Record) → Took (order_limits_of c) c.harts run.stream known.views k rs (IsView own)
    → Turned c run.stream (rs ++ stopped_records k 0 c.harts run.harts) (harts_after (RunOver reason value) k own run.harts)
with_stops laws c run k own reason value known rs took =
    let next = RunOver reason value in
    let stop = stops laws c c.harts (run.stream ++ rs) took.views k 0 c.harts run.harts took.keeps known.fit
    (λ i low high apart. subst (IsView (run.harts i)) (sym (took.others i apart)) (known.view i (omega (arith, high)))) in record {
      views = stop.views;
      keeps = subst (λ (x : List Record). Keeps (order_limits_of c) c.harts 0 x stop.views) (append_assoc run.stream rs (stopped_records k 0 c.harts run.harts)) stop.keeps;
      size = stop.size ∙ (took.size ∙ known.size);
      view = λ j within. elim (eqb_tells j k) [
        | inl p ↦
            let here : IsView own (slice_get stop.views k) = subst (IsView own) (sym stop.own) took.own in
            let there : IsView own (slice_get stop.views j) = subst (λ (x : ℕ). IsView own (slice_get stop.views x)) (sym p.1) here in
            subst (λ (h : Hart). IsView h (slice_get stop.views j)) (sym (own_is next k j own run.harts p.0)) there
        | inr p ↦ subst (λ (h : Hart). IsView h (slice_get stop.views j)) (sym (other_is next k j own run.harts p.0)) (stop.inside j (omega arith) (omega (arith, within)) p.0)
      ];
    }

turned_by : (next : TurnEnd) → OrderLaws → (c : RawSettings) (run : Run) (k : ℕ) (own : Hart) (known : Underway c run) (rs : List Record) → Took (order_limits_of c) c.harts run.stream known.views k rs (IsView own)
    → Turned c run.stream (rs ++ run_over_records next k c.harts run.harts) (harts_after next k own run.harts)
turned_by (RunOver reason value) laws c run k own known rs took = with_stops laws c run k own reason value known rs took
turned_by next laws c run k own known rs took = subst (λ (x : List Record). Turned c run.stream x (harts_after next k own run.harts)) (sym (append-nil rs)) (with_others c run k own next known rs (λ h. refl) took)

-- ---- the whole turn

points_on : (span : Option Span) (k asked turn n : ℕ) (counts later : ℕ → ℕ) (points : List Point) → ArePoints n counts points → ((s : ℕ) → counts s ≤ later s) → k < n → (is_there span ≡ true → asked < later k)
    → ArePoints n later (points_after (point_of k asked turn span) points)
points_on None k asked turn n counts later points are on there below = λ m q e. (let old = are m q e in (old.0, omega (arith, old.1, on q.hart)))
points_on (Some x) k asked turn n counts later points are on there below = points_go_on points _ n counts later are on there (below refl)

fit_after : Laws → (c : RawSettings) (run : Run) (k : ℕ) (ask : Ask) (span : Option Span) (next : TurnEnd) (s : HartState) (bytes : ℕ) → IsSetting c → IsFit c (run.harts k) → ((j : ℕ) → (j == k) ≡ false → IsRested c (run.harts j)) → (run.harts k).live ≡ true
    → MovesOn c (run.harts k) ask.state.ic s.ic next span (loading ask.want) → (j : ℕ) → IsRested c (harts_after next k (own_hart c run k ask next s bytes) run.harts j)
fit_after laws c run k ask span next s bytes setting fit rest live on j = elim (eqb_tells j k) [
  | inl p ↦ subst (IsRested c) (sym (own_is next k j (own_hart c run k ask next s bytes) run.harts p.0)) (laws.fits c (run.harts k) ask.state.ic bytes s next span (loading ask.want) (run.events k) setting.interval_low live fit on).0
  | inr p ↦ subst (IsRested c) (sym (other_is next k j (own_hart c run k ask next s bytes) run.harts p.0)) (laws.others c (run.harts j) next (rest j p.0)).0
]

-- the records of the turn are early
turn_early : Laws → (c : RawSettings) (run : Run) (k : ℕ) (ask : Ask) (reply : Reply) (span : Option Span) (next : TurnEnd) (s : HartState) (later : ℕ → ℕ) → Underway c run → ((j : ℕ) → counts_of run j ≤ later j)
    → AllByRecursion (IsEarly later) (own_records c run k ask reply span next s ++ run_over_records next k c.harts run.harts)
turn_early laws c run k ask reply span next s later known on =
    let es = edge_records (point_of k ask.state.ic run.turns span) run.points in
    let load = warmth c (loading ask.want) (run.events k) in
    let ls = load_record load k (run.harts k).skipped (word_before run.machine.memory (loading ask.want)) in
    let cs = sc_record reply k in
    let ns = next_records next k (run.harts k).number s in
    let E = IsEarly later in
    all_both E (es ++ (ls ++ (cs ++ ns))) (run_over_records next k c.harts run.harts)
    (all_both E es (ls ++ (cs ++ ns)) (edges_early laws.listed (point_of k ask.state.ic run.turns span) run.points c.harts c.limit (counts_of run) later known.points (λ j. (known.fit j).limit) on)
    (all_both E ls (cs ++ ns) (load_early load later k (run.harts k).skipped (word_before run.machine.memory (loading ask.want)))
    (all_both E cs ns (conditional_early reply later k) (next_early next later k (run.harts k).number s))))
    (over_early next later k c.harts run.harts)

regrouped : (e l s n o : List Record) → (e ++ (l ++ (s ++ n))) ++ o ≡ e ++ (l ++ (s ++ (n ++ o)))
regrouped e l s n o = append_assoc e (l ++ (s ++ n)) o ∙ ap (λ (x : List Record). e ++ x) (append_assoc l (s ++ n) o ∙ ap (λ (x : List Record). l ++ x) (append_assoc s n o))

after_kept : Laws → (c : RawSettings) (run : Run) (k : ℕ) (ask : Ask) (call : Option Plan) (answered : Answered) (span : Option Span) (next : TurnEnd) (s : HartState) → IsSetting c → Underway c run → ((j : ℕ) → (j == k) ≡ false → IsRested c (run.harts j)) → k < c.harts → (run.harts k).live ≡ true
    → MovesOn c (run.harts k) ask.state.ic s.ic next span (loading ask.want) → EndsAs c (run.harts k) s.ic next → Recording c (after_ask c run k ask call answered span next s)
after_kept laws c run k ask call answered span next s setting known rest there live on so =
    let bytes = (after_ask c run k ask call answered span next s).bytes in
    let own : Hart = own_hart c run k ask next s bytes in
    let later = counts_after c run k ask next s bytes in
    let rs : List Record = own_records c run k ask answered.reply span next s in
    let os : List Record = run_over_records next k c.harts run.harts in
    let count_on = counts_go_on c run k ask next s bytes (omega (arith, on.from, on.low)) in
    let took = took_turn laws c run k ask answered.reply span next s bytes known setting there live on so in
    let turned = turned_by next laws.order c run k own known rs took in
    let regroup = regrouped (edge_records (point_of k ask.state.ic run.turns span) run.points) (load_record (warmth c (loading ask.want) (run.events k)) k (run.harts k).skipped (word_before run.machine.memory (loading ask.want))) (sc_record answered.reply k) (next_records next k (run.harts k).number s) os in
    record {
      views = turned.views;
      keeps = subst (λ (x : List Record). Keeps (order_limits_of c) c.harts 0 (run.stream ++ x) turned.views) regroup turned.keeps;
      size = turned.size;
      view = turned.view;
      fit = fit_after laws c run k ask span next s bytes setting (known.fit k) rest live on;
      early = subst (λ (x : List Record). AllByRecursion (IsEarly later) (run.stream ++ x)) regroup
          (all_both (IsEarly later) run.stream (rs ++ os) (early_later (counts_of run) later run.stream count_on known.early) (turn_early laws c run k ask answered.reply span next s later known count_on));
      points = points_on span k ask.state.ic run.turns c.harts (counts_of run) later run.points known.points count_on there (λ p. omega (arith, on.accessed p, own_count c run k ask next s bytes));
    }

-- ---- the guard

-- the run in which an ask is answered
abbrev pub asking : RawSettings → Run → ℕ → Ask → Run
asking c run k ask = guarded_run (is_guarded c run k ask.want) run k ask.state

-- a guarded ask is of format 2, and no cut
pub guard_is : (c : RawSettings) (run : Run) (k : ℕ) (want : Want) → is_guarded c run k want ≡ true → (c.format ≡ 2) × (is_cut want ≡ false)
guard_is c run k want e =
    let p = and_parts (c.format == 2) _ e in
    (eqb-true c.format 2 p.0, not-true (is_cut want) (and_parts (not (is_cut want)) _ p.1).0)

-- the count of an ask that isn't a cut is within the budget
record IsCounted (c : RawSettings) (h : Hart) (asked : ℕ) : Type 0 where
  low : h.state.ic ≤ asked
  high : asked < h.state.ic + budget c h

counted_at : (c : RawSettings) (i : Program) (h : Hart) (ask : Ask) → is_cut ask.want ≡ false → is_orderly c i h ask ≡ true → IsCounted c h ask.state.ic
counted_at c i h ask cut o =
    let count : is_counted h.state.ic (budget c h) ask.want ask.state.ic ≡ true = (and_parts (is_counted h.state.ic (budget c h) ask.want ask.state.ic) (passes i ask.want) o).0 in
    let p = and_parts (nat_le h.state.ic ask.state.ic) (nat_lt ask.state.ic (h.state.ic + budget c h))
    (sym (ap (λ (b : Bool). if b then ask.state.ic == h.state.ic + budget c h else nat_le h.state.ic ask.state.ic && nat_lt ask.state.ic (h.state.ic + budget c h)) cut) ∙ count) in
    record { low = leb-true h.state.ic ask.state.ic p.0; high = ltb-true ask.state.ic (h.state.ic + budget c h) p.1 }

-- the hart that begins an interval at its ask, and the others, once it has
pub anew_is : (run : Run) (k j : ℕ) (s : HartState) → (j == k) ≡ true → (begun_anew run k s).harts j ≡ anew s (run.bytes + total (guard_records run k s)) (run.harts k)
anew_is run k j s e = own_is by_guard k j (anew s (run.bytes + total (guard_records run k s)) (run.harts k)) run.harts e

pub anew_other : (run : Run) (k j : ℕ) (s : HartState) → (j == k) ≡ false → (begun_anew run k s).harts j ≡ run.harts j
anew_other run k j s e = other_is by_guard k j (anew s (run.bytes + total (guard_records run k s)) (run.harts k)) run.harts e

-- a guard leaves the records in order
anew_kept : Laws → (c : RawSettings) (i : Program) (run : Run) (k : ℕ) (ask : Ask) → IsSetting c → Recording c run → k < c.harts → (run.harts k).live ≡ true → is_orderly c i (run.harts k) ask ≡ true → is_cut ask.want ≡ false
    → Underway c (begun_anew run k ask.state)
anew_kept laws c i run k ask setting known there live o cut =
    let h = run.harts k in
    let s = ask.state in
    let bytes = run.bytes + total (guard_records run k s) in
    let own : Hart = anew s bytes h in
    let fit = known.fit k in
    let at = counted_at c i h ask cut o in
    let within : IsWithin c h s.ic = record {
      low = omega (arith, fit.fit.skipped, at.low);
      high = omega (arith, at.high, budget_interval c h, fit.fit.interval, fit.fit.skipped);
      limit = omega (arith, at.high, budget_limit c h, fit.fit.limit);
    } in
    let small : is_on by_guard ≡ true → h.number < 2 ^ 41 = λ p. omega (arith, fit.number live, fit.fit.skipped, at.low, at.high, budget_limit c h, fit.fit.limit, setting.limit_high) in
    let open_now = open_later (h.number + 1) h.begun h.state.ic s.ic (slice_get known.views k) at.low ((known.view k there).in_interval live) in
    let took = took_next by_guard laws.order c c.harts run.stream known.views k h s 0 bytes known.keeps live small open_now within (guard_ends c h s.ic) in
    let turned = with_others c run k own by_guard (underway c run known) (guard_records run k s) (λ h. refl) took in
    let on : (j : ℕ) → counts_of run j ≤ counts_of (begun_anew run k s) j = λ j. elim (eqb_tells j k) [
      | inl p ↦ omega (arith, ap (λ (x : Hart). x.state.ic) (anew_is run k j s p.0), ap (counts_of run) p.1, at.low)
      | inr p ↦ omega (arith, ap (λ (x : Hart). x.state.ic) (anew_other run k j s p.0))
    ] in
    record {
      views = turned.views;
      keeps = turned.keeps;
      size = turned.size;
      view = turned.view;
      fit = λ j. elim (eqb_tells j k) [
        | inl p ↦ subst (IsFit c) (sym (anew_is run k j s p.0)) (laws.guarded c i h bytes ask setting.interval_low fit live o cut).0
        | inr p ↦ subst (IsFit c) (sym (anew_other run k j s p.0)) (known.fit j).fit
      ];
      early = all_both (IsEarly (counts_of (begun_anew run k s))) run.stream (guard_records run k s) (early_later (counts_of run) (counts_of (begun_anew run k s)) run.stream on known.early) (tt, (tt, tt));
      points = points_on None k s.ic run.turns c.harts (counts_of run) (counts_of (begun_anew run k s)) run.points known.points on there (λ p. absurd cc);
    }

pub asking_kept : (g : Bool) → Laws → (c : RawSettings) (i : Program) (run : Run) (k : ℕ) (ask : Ask) → IsSetting c → Recording c run → k < c.harts → (run.harts k).live ≡ true → is_orderly c i (run.harts k) ask ≡ true → (g ≡ true → is_cut ask.want ≡ false)
    → Underway c (guarded_run g run k ask.state)
asking_kept true laws c i run k ask setting known there live o cut = anew_kept laws c i run k ask setting known there live o (cut refl)
asking_kept false laws c i run k ask setting known there live o cut = underway c run known

-- what is known of the hart that asks, and of the others
pub record IsAsking (c : RawSettings) (i : Program) (run now : Run) (k : ℕ) (ask : Ask) : Type 0 where
  pub live : (now.harts k).live ≡ true
  pub orderly : is_orderly c i (now.harts k) ask ≡ true
  pub left : (j : ℕ) → turns_left c (now.harts j) ≤ turns_left c (run.harts j)
  pub others : (j : ℕ) → (j == k) ≡ false → IsRested c (now.harts j)

pub asks : (g : Bool) → Laws → (c : RawSettings) (i : Program) (run : Run) (k : ℕ) (ask : Ask) → IsSetting c → Recording c run → (run.harts k).live ≡ true → is_orderly c i (run.harts k) ask ≡ true → (g ≡ true → is_cut ask.want ≡ false)
    → IsAsking c i run (guarded_run g run k ask.state) k ask
asks false laws c i run k ask setting known live o cut = record { live = live; orderly = o; left = λ j. omega arith; others = λ j apart. known.fit j }
asks true laws c i run k ask setting known live o cut =
    let s = ask.state in
    let bytes = run.bytes + total (guard_records run k s) in
    let f = laws.guarded c i (run.harts k) bytes ask setting.interval_low (known.fit k) live o (cut refl) in
    let own = anew_is run k k s (eqb_same k) in
    record {
      live = ap (λ (x : Hart). x.live) own ∙ live;
      orderly = subst (λ (x : Hart). is_orderly c i x ask ≡ true) (sym own) f.1;
      left = λ j. elim (eqb_tells j k) [
        | inl p ↦ subst (λ (n : ℕ). turns_left c ((begun_anew run k s).harts n) ≤ turns_left c (run.harts n)) (sym p.1) (subst (λ (x : Hart). turns_left c x ≤ turns_left c (run.harts k)) (sym own) f.2)
        | inr p ↦ subst (λ (x : Hart). turns_left c x ≤ turns_left c (run.harts j)) (sym (anew_other run k j s p.0)) (omega arith)
      ];
      others = λ j apart. subst (IsRested c) (sym (anew_other run k j s apart)) (known.fit j);
    }

-- a live hart's orderly ask is recorded
pub turn_kept : Laws → (c : RawSettings) (i : Program) (run : Run) (k : ℕ) (ask : Ask) → IsSetting c → Recording c run → k < c.harts → (run.harts k).live ≡ true → is_orderly c i (run.harts k) ask ≡ true → Recording c (serve c i run k ask).run
turn_kept laws c i run k ask setting known there live o =
    let g = is_guarded c run k ask.want in
    let at : Run = asking c run k ask in
    let h = at.harts k in
    let call : Option Plan = call_of i run.machine ask.want in
    let answered : Answered = answer c call run.machine k ask in
    let s : HartState = absorbed ask answered.reply in
    let next : TurnEnd = next_of c call h ask.want answered.reply s.ic in
    let now = asking_kept g laws c i run k ask setting known there live o (uncut c run k ask.want) in
    let a = asks g laws c i run k ask setting known live o (uncut c run k ask.want) in
    let on = laws.moves c i run.machine h k ask (omega (arith, setting.limit_high)) (now.fit k) a.live a.orderly in
    let so = next_ends call c h ask.want answered.reply s.ic setting.interval_low in
    subst (λ (x : Served). Recording c x.run) (sym (served c i run k ask o)) (after_kept laws c at k ask call answered (span_of call ask.want answered.reply) next s setting now a.others there a.live on so)
