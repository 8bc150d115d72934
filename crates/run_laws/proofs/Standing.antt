-- Each hart's present Header stands among the records, and a run counts the bytes after it.
use Rattle.run_laws.proofs.Common.{◌≡◌, ℕ, zero, suc, ◌+◌, ◌*◌, ◌<◌, ◌≤◌, Bool, true, false, Option, Some, None, List, [], ◌∷◌, ◌++◌, length, refl, sym, ◌∙◌, ap, subst, arith, append_assoc, inl, inr, ◌==◌, not, ◌&&◌, slice_get, nat_lt, eqb_tells, Program, RawSettings, HartState, absorbed, Ask, Plan, Point, after, sources_into, Warm, Reply, Record, Header, End, total, Hart, TurnEnd, GoesOn, NewInterval, RunOver, Span, IsRested, anew, Answered, answer, call_of, Run, Served, serve, turn, ask_at, is_orderly, after_ask, budget, by_guard, guarded_run, guard_records, header, mark, hart_after, other_after, next_records, stopped_records, run_over_records, span_of, point_of, points_after, loading, warmth, skipped_after, edges_from, edge_records, load_record, sc_record, word_before, header_size, start, start_state, first_headers, run_from, legal_from, ArePointsOf, is_header_of, ne_eqb, and_parts, ltb-true, eqb_same, total_append, headers_have, same_Some}
use Rattle.std.specs.List.{AllByRecursion}
use Rattle.first_load_bits.specs.declared.warm.Warm.TheVariants as answers
use Rattle.rv_meaning.specs.declared.asks.Reply.TheVariants as replies
use Rattle.run_laws.proofs.Registers.{asking_registers, absorbed_registers}
use Rattle.run_laws.proofs.Turns.{Laws, IsRanged, ordered, legal_first, served, moved, stayed, turn_left, fit_start, guarded_at, asked_at, state_of, next_at}

-- ---- records without a Header of hart h

abbrev pub NoHeader : ℕ → List Record → Type 0
NoHeader h rs = AllByRecursion (λ (r : Record). is_header_of h r ≡ false) rs

none_in_both : (h : ℕ) (xs ys : List Record) → NoHeader h xs → NoHeader h ys → NoHeader h (xs ++ ys)
none_in_both h [] ys a b = b
none_in_both h (x ∷ xs) ys a b = (a.0, none_in_both h xs ys a.1 b)

none_in_edges : (h k ic : ℕ) (ss : List (ℕ × ℕ)) → NoHeader h (edges_from k ic ss)
none_in_edges h k ic [] = tt
none_in_edges h k ic (s ∷ ss) = (refl, none_in_edges h k ic ss)

pub none_in_point : (h : ℕ) (point : Option Point) (points : List Point) → NoHeader h (edge_records point points)
none_in_point h None points = tt
none_in_point h (Some p) points = none_in_edges h p.hart p.count (sources_into (after points p) (length points))

pub none_in_load : (h : ℕ) (load : Option Warm) (k skipped word : ℕ) → NoHeader h (load_record load k skipped word)
none_in_load h (Some answers.Cold) k skipped word = (refl, tt)
none_in_load h load k skipped word = tt

pub none_in_conditional : (h : ℕ) (reply : Reply) (k : ℕ) → NoHeader h (sc_record reply k)
none_in_conditional h replies.ScOk k = (refl, tt)
none_in_conditional h replies.ScFailed k = (refl, tt)
none_in_conditional h reply k = tt

none_by : (b : Bool) (h : ℕ) (j ic : ℕ) (rs : List Record) → NoHeader h rs → NoHeader h (elim b as (λ x. List Record) [ true ↦ End j (mark ic 5 0) ∷ rs | false ↦ rs ])
none_by true h j ic rs none = (refl, none)
none_by false h j ic rs none = none

none_in_stops : (h k j n : ℕ) (harts : ℕ → Hart) → NoHeader h (stopped_records k j n harts)
none_in_stops h k j zero harts = tt
none_in_stops h k j (suc n) harts = none_by (not (j == k) && (harts j).live) h j (harts j).state.ic (stopped_records k (j + 1) n harts) (none_in_stops h k (j + 1) n harts)

none_in_over : (h : ℕ) (next : TurnEnd) (k n : ℕ) (harts : ℕ → Hart) → NoHeader h (run_over_records next k n harts)
none_in_over h (RunOver r v) k n harts = none_in_stops h k 0 n harts
none_in_over h next k n harts = tt

-- another hart's next Header is none of h
none_in_next : (h : ℕ) (next : TurnEnd) (k number : ℕ) (s : HartState) → (h == k) ≡ false → NoHeader h (next_records next k number s)
none_in_next h GoesOn k number s apart = tt
none_in_next h (NewInterval r v) k number s apart = (refl, (apart, tt))
none_in_next h next k number s apart = (refl, tt)

-- the Edges, the first load and the store-conditional of a turn have none
pub record NoneBefore (h : ℕ) (es ls cs : List Record) : Type 0 where
  pub edges : NoHeader h es
  pub loads : NoHeader h ls
  pub conditionals : NoHeader h cs

none_in_turn : (h : ℕ) (es ls cs ns os : List Record) → NoneBefore h es ls cs → NoHeader h ns → NoHeader h os → NoHeader h (es ++ (ls ++ (cs ++ (ns ++ os))))
none_in_turn h es ls cs ns os before next over =
    none_in_both h es _ before.edges (none_in_both h ls _ before.loads (none_in_both h cs _ before.conditionals (none_in_both h ns os next over)))

-- ---- one hart's Header

-- the Header of hart k's present interval, t being the hart, is in the stream, no later one of the hart is, and the stream's bytes
-- are those up to it and those after it
pub record StandsIn (stream : List Record) (bytes k : ℕ) (t : Hart) : Type 0 where
  pub front : List Record
  pub back : List Record
  pub pc : ℕ
  pub x : List ℕ
  pub parts : stream ≡ front ++ Header k t.number t.begun pc x ∷ back
  pub size : length x ≡ 32
  pub latest : NoHeader k back
  pub since : bytes ≡ t.headed + total back

-- a hart whose interval is the same
record IsSame (t u : Hart) : Type 0 where
  number : u.number ≡ t.number
  begun : u.begun ≡ t.begun
  headed : u.headed ≡ t.headed

grown : (stream rs : List Record) (bytes k : ℕ) (t u : Hart) → StandsIn stream bytes k t → IsSame t u → NoHeader k rs → StandsIn (stream ++ rs) (bytes + total rs) k u
grown stream rs bytes k t u s e none = record {
  front = s.front;
  back = s.back ++ rs;
  pc = s.pc;
  x = s.x;
  parts = ap (λ (y : List Record). y ++ rs) s.parts
      ∙ (append_assoc s.front (Header k t.number t.begun s.pc s.x ∷ s.back) rs
      ∙ (ap (λ (n : ℕ). s.front ++ Header k n t.begun s.pc s.x ∷ (s.back ++ rs)) (sym e.number)
      ∙ ap (λ (n : ℕ). s.front ++ Header k u.number n s.pc s.x ∷ (s.back ++ rs)) (sym e.begun)));
  size = s.size;
  latest = none_in_both k s.back rs s.latest none;
  since = omega (arith, s.since, total_append s.back rs, e.headed);
}

-- a Header that has just been appended
newest : (front : List Record) (bytes k number : ℕ) (s : HartState) (t : Hart) → t.number ≡ number → t.begun ≡ s.ic → t.headed ≡ bytes → length s.x ≡ 32 → StandsIn (front ++ header k number s ∷ []) bytes k t
newest front bytes k number s t e f g size = record {
  front = front;
  back = [];
  pc = s.pc;
  x = s.x;
  parts = ap (λ (n : ℕ). front ++ Header k n s.ic s.pc s.x ∷ []) (sym e) ∙ ap (λ (n : ℕ). front ++ Header k t.number n s.pc s.x ∷ []) (sym f);
  size = size;
  latest = tt;
  since = omega (arith, g);
}

push_out : (xs ys : List Record) (z : Record) (zs : List Record) → zs ≡ ys ++ z ∷ [] → xs ++ zs ≡ (xs ++ ys) ++ z ∷ []
push_out xs ys z zs e = ap (λ (y : List Record). xs ++ y) e ∙ sym (append_assoc xs ys (z ∷ []))

-- the records of hart k's turn
abbrev pub turn_records : TurnEnd → (es ls cs : List Record) → (k number n : ℕ) → HartState → (ℕ → Hart) → List Record
turn_records next es ls cs k number n s harts = es ++ (ls ++ (cs ++ (next_records next k number s ++ run_over_records next k n harts)))

-- the Header of the hart whose turn it was
pub own_stands : (next : TurnEnd) (stream es ls cs : List Record) (bytes k n skipped : ℕ) (s : HartState) (t : Hart) (harts : ℕ → Hart) → length s.x ≡ 32 → StandsIn stream bytes k t → NoneBefore k es ls cs
    → let rs = turn_records next es ls cs k t.number n s harts in StandsIn (stream ++ rs) (bytes + total rs) k (hart_after next s skipped (bytes + total rs) t)
own_stands GoesOn stream es ls cs bytes k n skipped s t harts size st none =
    grown stream _ bytes k t _ st (record { number = refl; begun = refl; headed = refl }) (none_in_turn k es ls cs (next_records GoesOn k t.number s) (run_over_records GoesOn k n harts) none tt (none_in_over k GoesOn k n harts))
own_stands (NewInterval r v) stream es ls cs bytes k n skipped s t harts size st none =
    let rs : List Record = turn_records (NewInterval r v) es ls cs k t.number n s harts in
    let last : Record = header k (t.number + 1) s in
    let ending : List Record = End k (mark s.ic r v) ∷ [] in
    let u : Hart = hart_after (NewInterval r v) s skipped (bytes + total rs) t in
    let pre : List Record = stream ++ (es ++ (ls ++ (cs ++ ending))) in
    let whole : stream ++ rs ≡ pre ++ last ∷ [] = push_out stream _ last _ (push_out es _ last _ (push_out ls _ last _ (push_out cs ending last _ refl))) in
    subst (λ (y : List Record). StandsIn y (bytes + total rs) k u) (sym whole) (newest pre (bytes + total rs) k (t.number + 1) s u refl refl refl size)
own_stands next stream es ls cs bytes k n skipped s t harts size st none =
    grown stream _ bytes k t _ st (record { number = refl; begun = refl; headed = refl }) (none_in_turn k es ls cs (next_records next k t.number s) (run_over_records next k n harts) none (refl, tt) (none_in_over k next k n harts))

-- if the run is over, the turn's records follow it too
pub over_back : (r v : ℕ) (stream es ls cs : List Record) (bytes k n skipped : ℕ) (s : HartState) (t : Hart) (harts : ℕ → Hart) (size : length s.x ≡ 32) (st : StandsIn stream bytes k t) (none : NoneBefore k es ls cs)
    → (own_stands (RunOver r v) stream es ls cs bytes k n skipped s t harts size st none).back ≡ st.back ++ turn_records (RunOver r v) es ls cs k t.number n s harts
unfolding own_stands grown
over_back r v stream es ls cs bytes k n skipped s t harts size st none = refl

stopped_same : (b : Bool) (t : Hart) → IsSame t (elim b as (λ x. Hart) [ true ↦ record t { live = false; mark = Some (mark t.state.ic 5 0) } | false ↦ t ])
stopped_same true t = record { number = refl; begun = refl; headed = refl }
stopped_same false t = record { number = refl; begun = refl; headed = refl }

other_same : (next : TurnEnd) (t : Hart) → IsSame t (other_after next t)
other_same (RunOver r v) t = stopped_same t.live t
other_same next t = record { number = refl; begun = refl; headed = refl }

-- ---- all harts' Headers

abbrev pub Stands : Run → ℕ → Type 0
Stands run j = StandsIn run.stream run.bytes j (run.harts j)

-- the guard, hart k being in state s
pub guard_stands : (g : Bool) (run : Run) (k j : ℕ) (s : HartState) → length s.x ≡ 32 → Stands run j → Stands (guarded_run g run k s) j
guard_stands false run k j s size st = st
guard_stands true run k j s size st = elim (eqb_tells j k) [
  | inl p ↦ subst (λ (x : ℕ). StandsIn (run.stream ++ guard_records run k s) (run.bytes + total (guard_records run k s)) x ((guarded_run true run k s).harts x)) (sym p.1)
      (subst (λ (x : Hart). StandsIn (run.stream ++ guard_records run k s) (run.bytes + total (guard_records run k s)) k x)
      (sym (ap (λ (b : Bool). elim b as (λ x. Hart) [ true ↦ anew s (run.bytes + total (guard_records run k s)) (run.harts k) | false ↦ run.harts k ]) (eqb_same k)))
      (own_stands by_guard run.stream [] [] [] run.bytes k 0 0 s (run.harts k) run.harts size (subst (λ (x : ℕ). StandsIn run.stream run.bytes x (run.harts x)) p.1 st) (record { edges = tt; loads = tt; conditionals = tt })))
  | inr p ↦ subst (λ (x : Hart). StandsIn (run.stream ++ guard_records run k s) (run.bytes + total (guard_records run k s)) j x)
      (sym (ap (λ (b : Bool). elim b as (λ x. Hart) [ true ↦ anew s (run.bytes + total (guard_records run k s)) (run.harts k) | false ↦ run.harts j ]) p.0))
      (grown run.stream (guard_records run k s) run.bytes j (run.harts j) (run.harts j) st (record { number = refl; begun = refl; headed = refl })
      (none_in_next j by_guard k (run.harts k).number s p.0))
]

-- the answer
ask_stands : (c : RawSettings) (run : Run) (k j : ℕ) (ask : Ask) (call : Option Plan) (answered : Answered) (span : Option Span) (next : TurnEnd) (s : HartState) → length s.x ≡ 32 → Stands run j
    → Stands (after_ask c run k ask call answered span next s) j
ask_stands c run k j ask call answered span next s size st =
    let new : Run = after_ask c run k ask call answered span next s in
    let es : List Record = edge_records (point_of k ask.state.ic run.turns span) run.points in
    let load = warmth c (loading ask.want) (run.events k) in
    let ls : List Record = load_record load k (run.harts k).skipped (word_before run.machine.memory (loading ask.want)) in
    let cs : List Record = sc_record answered.reply k in
    let own : Hart = hart_after next s (skipped_after load (run.harts k).skipped) new.bytes (run.harts k) in
    let none : (h : ℕ) → NoneBefore h es ls cs = λ h. record { edges = none_in_point h _ run.points; loads = none_in_load h load k _ _; conditionals = none_in_conditional h answered.reply k } in
    elim (eqb_tells j k) [
      | inl p ↦ subst (λ (x : ℕ). StandsIn new.stream new.bytes x (new.harts x)) (sym p.1)
          (subst (λ (x : Hart). StandsIn new.stream new.bytes k x) (sym (ap (λ (b : Bool). elim b as (λ x. Hart) [ true ↦ own | false ↦ other_after next (run.harts k) ]) (eqb_same k)))
          (own_stands next run.stream es ls cs run.bytes k c.harts (skipped_after load (run.harts k).skipped) s (run.harts k) run.harts size (subst (λ (x : ℕ). StandsIn run.stream run.bytes x (run.harts x)) p.1 st) (none k)))
      | inr p ↦ subst (λ (x : Hart). StandsIn new.stream new.bytes j x) (sym (ap (λ (b : Bool). elim b as (λ x. Hart) [ true ↦ own | false ↦ other_after next (run.harts j) ]) p.0))
          (grown run.stream _ run.bytes j (run.harts j) (other_after next (run.harts j)) st (other_same next (run.harts j))
          (none_in_turn j es ls cs _ _ (none j) (none_in_next j next k (run.harts k).number s p.0) (none_in_over j next k c.harts run.harts)))
    ]

-- ---- what holds of the runs of legal lists

pub record Held (c : RawSettings) (run : Run) : Type 0 where
  pub rested : (j : ℕ) → IsRested c (run.harts j)
  pub registers : (j : ℕ) → length (run.harts j).state.x ≡ 32
  pub points : ArePointsOf c.harts run.points
  pub stands : (j : ℕ) → j < c.harts → StandsIn run.stream run.bytes j (run.harts j)

-- the run after the answer to hart k's next ask
abbrev pub answered_at : RawSettings → Program → Run → ℕ → Run
answered_at c i run k =
    let ask = ask_at c i (run.harts k) in
    let call = call_of i run.machine ask.want in
    let answered = answer c call run.machine k ask in
    after_ask c (asked_at c i run k) k ask call answered (span_of call ask.want answered.reply) (next_at c i run k) (state_of c i run k)

pub turn_is : (c : RawSettings) (i : Program) (run : Run) (k : ℕ) → is_orderly c i (run.harts k) (ask_at c i (run.harts k)) ≡ true → turn c i run k ≡ answered_at c i run k
turn_is c i run k o = ap (λ (x : Served). x.run) (served c i run k (ask_at c i (run.harts k)) o)

-- the state in which hart k asks, and that after the reply, have its registers
pub asked_size : (c : RawSettings) (i : Program) (run : Run) (k : ℕ) → Held c run → length (ask_at c i (run.harts k)).state.x ≡ 32
asked_size c i run k h = asking_registers i (budget c (run.harts k)) (run.harts k).state ∙ h.registers k

pub state_size : (c : RawSettings) (i : Program) (run : Run) (k : ℕ) → Held c run → length (state_of c i run k).x ≡ 32
state_size c i run k h = absorbed_registers (ask_at c i (run.harts k)) _ ∙ asked_size c i run k h

before_or_last : (points : List Point) (p : Point) (m : ℕ) (q : Point) → slice_get (after points p) m ≡ Some q → (n : ℕ) → ArePointsOf n points → p.hart < n → q.hart < n
before_or_last [] p zero q e n are low = subst (λ (x : Point). x.hart < n) (same_Some p q e) low
before_or_last [] p (suc m) q e n are low = cc
before_or_last (x ∷ xs) p zero q e n are low = are 0 q e
before_or_last (x ∷ xs) p (suc m) q e n are low = before_or_last xs p m q e n (λ j r f. are (suc j) r f) low

points_on : (span : Option Span) (k asked turns n : ℕ) (points : List Point) → ArePointsOf n points → k < n → ArePointsOf n (points_after (point_of k asked turns span) points)
points_on None k asked turns n points are low = are
points_on (Some x) k asked turns n points are low = λ m q e. before_or_last points _ m q e n are low

-- a turn keeps it
pub turn_held : Laws → (c : RawSettings) (i : Program) (run : Run) (k : ℕ) → IsRanged c → Held c run → k < c.harts → (run.harts k).live ≡ true → Held c (turn c i run k)
turn_held laws c i run k setting h low live =
    let ask = ask_at c i (run.harts k) in
    let o : is_orderly c i (run.harts k) ask ≡ true = ordered laws.asks c i (run.harts k) (omega (arith, setting.limit_high)) (h.rested k).fit in
    let own : ((turn c i run k).harts k).state ≡ absorbed ask (serve c i run k ask).reply = moved c i run k o in
    let new : StandsOf c (answered_at c i run k) = λ j within. standing c i run k j h within in
    record {
      rested = (turn_left laws c i run k setting h.rested live).fit;
      registers = λ j. elim (eqb_tells j k) [
        | inl p ↦ subst (λ (x : ℕ). length ((turn c i run k).harts x).state.x ≡ 32) (sym p.1)
            (ap (λ (s : HartState). length s.x) own ∙ (absorbed_registers ask (serve c i run k ask).reply ∙ asked_size c i run k h))
        | inr p ↦ ap (λ (s : HartState). length s.x) (stayed c i run k j o p.0) ∙ h.registers j
      ];
      points = subst (λ (r : Run). ArePointsOf c.harts r.points) (sym (turn_is c i run k o)) (points_on _ k ask.state.ic run.turns c.harts run.points h.points low);
      stands = subst (λ (r : Run). StandsOf c r) (sym (turn_is c i run k o)) new;
    }
  where
    StandsOf : RawSettings → Run → Type 0
    StandsOf c run = (j : ℕ) → j < c.harts → StandsIn run.stream run.bytes j (run.harts j)

    standing : (c : RawSettings) (i : Program) (run : Run) (k j : ℕ) → Held c run → j < c.harts → StandsIn (answered_at c i run k).stream (answered_at c i run k).bytes j ((answered_at c i run k).harts j)
    standing c i run k j h within =
        let ask = ask_at c i (run.harts k) in
        let call = call_of i run.machine ask.want in
        let answered = answer c call run.machine k ask in
        ask_stands c (asked_at c i run k) k j ask call answered (span_of call ask.want answered.reply) (next_at c i run k) (state_of c i run k) (state_size c i run k h)
        (guard_stands (guarded_at c i run k) run k j ask.state (asked_size c i run k h) (h.stands j within))

-- ---- at the start

-- the first Headers, parted at one of them
record Parted (c : RawSettings) (i : Program) (k n j : ℕ) : Type 0 where
  front : List Record
  back : List Record
  parts : first_headers c i k n ≡ front ++ header j 0 (start_state c i j) ∷ back
  latest : NoHeader j back
  bytes : header_size * (j + 1) + total back ≡ header_size * (k + n)

none_in_headers : (c : RawSettings) (i : Program) (h k n : ℕ) → h < k → NoHeader h (first_headers c i k n)
none_in_headers c i h k zero low = tt
none_in_headers c i h k (suc n) low = (ne_eqb h k (λ e. omega (arith, low, e)), none_in_headers c i h (k + 1) n (omega (arith, low)))

parted : (c : RawSettings) (i : Program) (k n j : ℕ) → k ≤ j → j < k + n → Parted c i k n j
parted c i k zero j low high = absurd (omega (arith, low, high))
parted c i k (suc n) j low high = elim (eqb_tells k j) [
  | inl p ↦ record {
    front = [];
    back = first_headers c i (k + 1) n;
    parts = ap (λ (x : ℕ). header x 0 (start_state c i x) ∷ first_headers c i (k + 1) n) p.1;
    latest = none_in_headers c i j (k + 1) n (omega (arith, p.1));
    bytes = (let z = headers_have c i (k + 1) n in omega (arith, z, p.1));
  }
  | inr p ↦ (let r = parted c i (k + 1) n j (omega (arith, low, p.1)) (omega (arith, high)) in record {
    front = header k 0 (start_state c i k) ∷ r.front;
    back = r.back;
    parts = ap (λ (rs : List Record). header k 0 (start_state c i k) ∷ rs) r.parts;
    latest = r.latest;
    bytes = omega (arith, r.bytes);
  })
]

pub start_held : (c : RawSettings) (i : Program) (input : List ℕ) → IsRanged c → Held c (start c i input)
start_held c i input setting = record {
  rested = λ j. fit_start c j (start_state c i j) refl setting.interval_low;
  registers = λ j. refl;
  points = λ m q e. absurd (none m q e);
  stands = λ j within. (let p = parted c i 0 c.harts j (omega arith) (omega (arith, within)) in record { front = p.front; back = p.back; pc = (start_state c i j).pc; x = (start_state c i j).x; parts = p.parts; size = refl; latest = p.latest; since = omega (arith, p.bytes) });
}
  where
    none : (m : ℕ) (q : Point) → slice_get [] m ≡ Some q → ⊥
    none zero q e = cc
    none (suc m) q e = cc

pub list_held : Laws → (c : RawSettings) (i : Program) (run : Run) (b : List ℕ) → IsRanged c → Held c run → legal_from c i run b ≡ true → Held c (run_from c i run b)
list_held laws c i run [] setting h e = h
list_held laws c i run (k ∷ ks) setting h e =
    let first = legal_first c i run k ks e in
    let live = and_parts (nat_lt k c.harts) (run.harts k).live first.0 in
    list_held laws c i (turn c i run k) ks setting (turn_held laws c i run k setting h (ltb-true k c.harts live.0) live.1) first.1
