-- A log has room for the records from a hart's present Header on, right after each turn of the hart.
use Rattle.run_laws.proofs.Common.{◌≡◌, ℕ, zero, suc, ◌+◌, ◌-◌, ◌*◌, ◌<◌, ◌≤◌, ◌==◌, Bool, true, false, not, ◌&&◌, nat_le, nat_lt, Option, Some, None, List, [], ◌∷◌, ◌++◌, drop, length, refl, sym, ◌∙◌, ap, subst, arith, inl, inr, ◌⊎◌, if◌then◌else◌, option_or, Program, EndMark, RawSettings, HartState, absorbed, is_cut, Ask, Want, Cut, Faulted, Reply, Warm, Point, after, sources_into, Record, Header, FirstLoad, Edge, End, total, Hart, TurnEnd, GoesOn, NewInterval, HartOver, RunOver, IsFit, anew, Machine, answer, call_of, start, run_of, run_from, legal_from, Run, turn, ask_at, is_orderly, is_guarded, guarded_run, guard_records, bytes_since, budget, counted, next_of, mark, hart_after, other_after, next_records, stopped_records, run_over_records, edges_from, edge_records, load_record, sc_record, loading, warmth, skipped_after, word_before, point_of, span_of, last_end, ArePointsOf, EdgesAreFew, IsGuarding, HasHeader, HasEnded, GuardCountsFromHeaders, HeadersAreKept, FaultsAreKept, le-leb, ltb-false, leb-false, eqb-true, and_parts, ltb-true, eqb_same, total-cons, total_append, length-append, flat_map, bytes_of}
use Rattle.bn_base.specs.Faults.{fault_number}
use Rattle.bn_base.specs.declared.fault.Fault.{Fault}
use Rattle.rv_meaning.specs.declared.asks.Reply.TheVariants as replies
use Rattle.first_load_bits.specs.declared.warm.Warm.TheVariants as answers
use Rattle.log_ring.specs.Kept.{kept}
use Rattle.run_model.specs.KeptRecords.{kept_of}
use Rattle.run_laws.proofs.Converse.{run_append}
use Rattle.run_laws.proofs.LastEnds.{last_of_both, own_end, stops_own}
use Rattle.run_laws.proofs.Standing.{StandsIn, NoneBefore, none_in_point, none_in_load, none_in_conditional, over_back, Held, turn_records, own_stands, guard_stands, answered_at, turn_is, asked_size, state_size, start_held, list_held}
use Rattle.run_laws.proofs.Turns.{Laws, IsRanged, ranged, asking, ordered, legal_first, guarded_at, asked_at, state_of, next_at}
use Rattle.le_numbers.specs.Numbers.{number_bytes}

-- ---- the bytes of each kind of record

words_have : (xs : List ℕ) → length (flat_map (number_bytes 4) xs) ≡ 4 * length xs
unfolding number_bytes
words_have [] = refl
words_have (x ∷ xs) = omega (arith, length-append (number_bytes 4 x) (flat_map (number_bytes 4) xs), word_has x, words_have xs)
  where
    word_has : (x : ℕ) → length (number_bytes 4 x) ≡ 4
    word_has x = refl

behind_22 : (n : ℕ) → n ≡ 124 → suc (suc (suc (suc (suc (suc (suc (suc (suc (suc (suc (suc (suc (suc (suc (suc (suc (suc (suc (suc (suc (suc (n)))))))))))))))))))))) ≡ 146
behind_22 n e = ap (λ (n : ℕ). suc (suc (suc (suc (suc (suc (suc (suc (suc (suc (suc (suc (suc (suc (suc (suc (suc (suc (suc (suc (suc (suc (n))))))))))))))))))))))) e

header_size_is : (h n ic pc : ℕ) (x : List ℕ) → length (drop 1 x) ≡ 31 → length (bytes_of (Header h n ic pc x)) ≡ 146
unfolding number_bytes
header_size_is h n ic pc x e = behind_22 (length (flat_map (number_bytes 4) (drop 1 x))) (omega (arith, words_have (drop 1 x), e))

load_size_is : (h skip value : ℕ) → length (bytes_of (FirstLoad h skip value)) ≡ 10
unfolding number_bytes
load_size_is h skip value = refl

edge_size_is : (h ic s j : ℕ) → length (bytes_of (Edge h ic s j)) ≡ 19
unfolding number_bytes
edge_size_is h ic s j = refl

end_size_is : (h : ℕ) (mark : EndMark) → length (bytes_of (End h mark)) ≡ 15
unfolding number_bytes
end_size_is h mark = refl

-- ---- those of a turn's records

edges_bytes : (k ic : ℕ) (ss : List (ℕ × ℕ)) → total (edges_from k ic ss) ≡ 19 * length ss
edges_bytes k ic [] = refl
edges_bytes k ic (s ∷ ss) = omega (arith, total-cons (Edge k ic s.0 s.1) (edges_from k ic ss), edge_size_is k ic s.0 s.1, edges_bytes k ic ss)

point_bytes : EdgesAreFew → (point : Option Point) (points : List Point) (n : ℕ) → ArePointsOf n points → total (edge_records point points) ≤ 19 * n
point_bytes few None points n are = omega arith
point_bytes few (Some p) points n are = omega (arith, edges_bytes p.hart p.count (sources_into (after points p) (length points)), few points p n are)

load_bytes : (load : Option Warm) (k skipped word : ℕ) → total (load_record load k skipped word) ≤ 10
load_bytes (Some answers.Cold) k skipped word = omega (arith, total-cons (FirstLoad k skipped word) [], load_size_is k skipped word)
load_bytes load k skipped word = omega arith

conditional_bytes : (reply : Reply) (k : ℕ) → total (sc_record reply k) ≤ 2
conditional_bytes replies.ScOk k = omega arith
conditional_bytes reply k = omega arith

stop_bytes : (b : Bool) (j ic n : ℕ) (rs : List Record) → total rs ≤ 15 * n → total (elim b as (λ x. List Record) [ true ↦ End j (mark ic 5 0) ∷ rs | false ↦ rs ]) ≤ 15 * suc n
stop_bytes true j ic n rs h = omega (arith, h, total-cons (End j (mark ic 5 0)) rs, end_size_is j (mark ic 5 0))
stop_bytes false j ic n rs h = omega (arith, h)

stops_bytes : (k j n : ℕ) (harts : ℕ → Hart) → total (stopped_records k j n harts) ≤ 15 * n
stops_bytes k j zero harts = omega arith
stops_bytes k j (suc n) harts = stop_bytes (not (j == k) && (harts j).live) j (harts j).state.ic n (stopped_records k (j + 1) n harts) (stops_bytes k (j + 1) n harts)

over_bytes : (next : TurnEnd) (k n : ℕ) (harts : ℕ → Hart) → total (run_over_records next k n harts) ≤ 15 * n
over_bytes (RunOver r v) k n harts = stops_bytes k 0 n harts
over_bytes next k n harts = omega arith

-- the End of a turn that begins no interval
abbrev pub Begins : TurnEnd → Bool
Begins (NewInterval r v) = true
Begins next = false

end_bytes : (next : TurnEnd) (k number : ℕ) (s : HartState) → Begins next ≡ false → total (next_records next k number s) ≤ 15
end_bytes GoesOn k number s e = omega arith
end_bytes (NewInterval r v) k number s e = cc
end_bytes (HartOver r v) k number s e = omega (arith, total-cons (End k (mark s.ic r v)) [], end_size_is k (mark s.ic r v))
end_bytes (RunOver r v) k number s e = omega (arith, total-cons (End k (mark s.ic r v)) [], end_size_is k (mark s.ic r v))

four_parts : (e l s n o : List Record) → total (e ++ (l ++ (s ++ (n ++ o)))) ≡ total e + (total l + (total s + (total n + total o)))
four_parts e l s n o = omega (arith, total_append e (l ++ (s ++ (n ++ o))), total_append l (s ++ (n ++ o)), total_append s (n ++ o), total_append n o)

header_bytes : (k n begun pc : ℕ) (x : List ℕ) (back : List Record) → length x ≡ 32 → total (Header k n begun pc x ∷ back) ≡ 146 + total back
header_bytes k n begun pc x back e = omega (arith, total-cons (Header k n begun pc x) back, header_size_is k n begun pc x (others x e))
  where
    others : (x : List ℕ) → length x ≡ 32 → length (drop 1 x) ≡ 31
    others [] e = cc
    others (y ∷ ys) e = omega (arith, e)

-- the guard counts all from the hart's Header on
pub guard_counts : Laws → GuardCountsFromHeaders
guard_counts laws c i input b k setting legal within =
    let range : IsRanged c = ranged c setting in
    let st = (list_held laws c i (start c i input) b range (start_held c i input range) legal).stands k within in
    let t : Hart = (run_of c i input b).harts k in
    record {
      header = record { front = st.front; back = st.back; pc = st.pc; x = st.x; parts = st.parts };
      latest = st.latest;
      bytes = omega (arith, st.since, header_bytes k t.number t.begun st.pc st.x st.back st.size);
    }

-- ---- what is kept

kept_back : (size : ℕ) (front back : List Record) → total back ≤ size → (more : List Record) × (kept size (front ++ back) ≡ more ++ back)
unfolding kept
kept_back size [] [] fits = ([], refl)
kept_back size [] (r ∷ rs) fits = ([], ap (λ (b : Bool). if b then r ∷ rs else kept size rs) (le-leb (total (r ∷ rs)) size fits))
kept_back size (x ∷ front) back fits = by (nat_le (total (x ∷ (front ++ back))) size) (kept_back size front back fits)
  where
    by : (b : Bool) → (more : List Record) × (kept size (front ++ back) ≡ more ++ back) → (more : List Record) × ((if b then x ∷ (front ++ back) else kept size (front ++ back)) ≡ more ++ back)
    by true rest = (x ∷ front, refl)
    by false rest = rest

-- a Header that has room with all after it is kept
header_kept : (stream : List Record) (bytes k size : ℕ) (t : Hart) (st : StandsIn stream bytes k t) → 146 + total st.back ≤ size → HasHeader k t.number t.begun (kept size stream)
header_kept stream bytes k size t st room =
    let all : List Record = Header k t.number t.begun st.pc st.x ∷ st.back in
    let p = kept_back size st.front all (omega (arith, room, header_bytes k t.number t.begun st.pc st.x st.back st.size)) in
    record { front = p.0; back = st.back; pc = st.pc; x = st.x; parts = ap (kept size) st.parts ∙ p.1 }

-- ---- the room after a Header

three : (a b d : Bool) → a ≡ true → b ≡ false → (a && (not b && d)) ≡ false → d ≡ false
three true false d e f h = h
three true true d e f h = cc
three false b d e f h = cc

-- if an ask that isn't a cut is answered, half of the log has room for all from the hart's Header on
pub half_room : (g : Bool) (c : RawSettings) (run : Run) (k : ℕ) (want : Want) (s : HartState) → IsGuarding c → is_cut want ≡ false → is_guarded c run k want ≡ g → 2 * bytes_since (guarded_run g run k s) k ≤ c.log_size
half_room true c run k want s guarding cut e =
    let headed : ((guarded_run true run k s).harts k).headed ≡ run.bytes + total (guard_records run k s) =
    ap (λ (b : Bool). (elim b as (λ x. Hart) [ true ↦ anew s (run.bytes + total (guard_records run k s)) (run.harts k) | false ↦ run.harts k ]).headed) (eqb_same k) in
    omega (arith, headed, guarding.log_size_low)
half_room false c run k want s guarding cut e =
    ltb-false c.log_size (2 * bytes_since run k) (three (c.format == 2) (is_cut want) (nat_lt c.log_size (2 * bytes_since run k)) (ap (λ (n : ℕ). n == 2) guarding.format) cut e)

-- ---- a cut ends its hart's interval

-- what a cut leads to: the next interval, or the hart's end at the limit
abbrev pub Cuts : TurnEnd → Type 0
Cuts GoesOn = ⊥
Cuts (RunOver r v) = ⊥
Cuts next = Unit {0}

cuts_by : (x y : Bool) → (x ≡ false → y ≡ false → ⊥) → Cuts (elim x as (λ z. TurnEnd) [ true ↦ HartOver 7 0 | false ↦ elim y as (λ z. TurnEnd) [ true ↦ NewInterval 1 0 | false ↦ GoesOn ] ])
cuts_by true y f = tt
cuts_by false true f = tt
cuts_by false false f = f refl refl

full : (c : RawSettings) (t : Hart) (ic : ℕ) → IsFit c t → ic ≡ t.state.ic + budget c t → nat_le c.limit ic ≡ false → nat_le c.interval (ic - t.begun) ≡ false → ⊥
full c t ic f e low short = absurd (omega (arith, f.skipped, f.interval, f.limit, e, leb-false c.limit ic low, leb-false c.interval (ic - t.begun) short))

counted_cuts : (c : RawSettings) (t : Hart) (ic : ℕ) → IsFit c t → ic ≡ t.state.ic + budget c t → Cuts (counted c t ic)
counted_cuts c t ic f e = cuts_by (nat_le c.limit ic) (nat_le c.interval (ic - t.begun)) (full c t ic f e)

cut_state : (b : Bool) (s : HartState) → absorbed (record { state = s; want = Cut }) (if b then replies.Over else replies.Went) ≡ s
cut_state true s = refl
cut_state false s = refl

cut_count : (t : Hart) (c : RawSettings) (i : Program) (w : Want) (s : HartState) → w ≡ Cut → is_orderly c i t (record { state = s; want = w }) ≡ true → s.ic ≡ t.state.ic + budget c t
cut_count t c i w s e o = same (subst (λ (x : Want). is_orderly c i t (record { state = s; want = x }) ≡ true) e o)
  where
    same : is_orderly c i t (record { state = s; want = Cut }) ≡ true → s.ic ≡ t.state.ic + budget c t
    same o = eqb-true s.ic (t.state.ic + budget c t) (and_parts (s.ic == t.state.ic + budget c t) true o).0

-- what comes after the answer to a want in a state
abbrev pub next_to : RawSettings → Program → Machine → ℕ → Hart → Want → HartState → TurnEnd
next_to c i m k t w s =
    let ask : Ask = record { state = s; want = w } in
    let reply = (answer c (call_of i m w) m k ask).reply in
    next_of c (call_of i m w) t w reply (absorbed ask reply).ic

pub cut_next : (c : RawSettings) (i : Program) (m : Machine) (k : ℕ) (t : Hart) (w : Want) (s : HartState) → w ≡ Cut → IsFit c t → is_orderly c i t (record { state = s; want = w }) ≡ true → Cuts (next_to c i m k t w s)
cut_next c i m k t w s e f o =
    subst (λ (x : Want). Cuts (next_to c i m k t x s)) (sym e)
    (counted_cuts c t (absorbed (record { state = s; want = Cut }) (if nat_le c.limit s.ic then replies.Over else replies.Went)).ic f (ap (λ (u : HartState). u.ic) (cut_state (nat_le c.limit s.ic) s) ∙ cut_count t c i w s e o))

pub cut_or : (w : Want) → (w ≡ Cut) ⊎ (is_cut w ≡ false)
cut_or Cut = inl refl
cut_or w = inr refl

-- ---- a turn

-- the Header after a turn, by what comes after it
pub own_kept : (next : TurnEnd) (stream es ls cs : List Record) (bytes k n skipped size : ℕ) (s : HartState) (t : Hart) (harts : ℕ → Hart) → length s.x ≡ 32 → StandsIn stream bytes k t → NoneBefore k es ls cs → 146 ≤ size
    → (Begins next ≡ false → 146 + (bytes - t.headed) + (total es + total ls + total cs + 15 + 15 * n) ≤ size)
    → let rs = turn_records next es ls cs k t.number n s harts in let u = hart_after next s skipped (bytes + total rs) t in HasHeader k u.number u.begun (kept size (stream ++ rs))
own_kept next stream es ls cs bytes k n skipped size s t harts registers st none some room =
    let rs : List Record = turn_records next es ls cs k t.number n s harts in
    let u : Hart = hart_after next s skipped (bytes + total rs) t in
    let new : StandsIn (stream ++ rs) (bytes + total rs) k u = own_stands next stream es ls cs bytes k n skipped s t harts registers st none in
    header_kept (stream ++ rs) (bytes + total rs) k size u new (by next room new)
  where
    by : (next : TurnEnd) → (Begins next ≡ false → 146 + (bytes - t.headed) + (total es + total ls + total cs + 15 + 15 * n) ≤ size)
        → let rs = turn_records next es ls cs k t.number n s harts in let u = hart_after next s skipped (bytes + total rs) t in
        (new : StandsIn (stream ++ rs) (bytes + total rs) k u) → 146 + total new.back ≤ size
    by (NewInterval r v) room new = omega (arith, new.since, some)
    by next room new =
        omega (arith, new.since, st.since, room refl, four_parts es ls cs (next_records next k t.number s) (run_over_records next k n harts), end_bytes next k t.number s refl, over_bytes next k n harts)

-- the laws that are used here
pub record RetainLaws : Type 0 where
  pub turns : Laws
  pub few : EdgesAreFew

-- all of the turn's records but a Header have room, where its ask isn't a cut
turn_room : RetainLaws → (c : RawSettings) (i : Program) (run : Run) (k : ℕ) → IsGuarding c → Held c run → is_cut (ask_at c i (run.harts k)).want ≡ false
    → let r = asked_at c i run k in let ask = ask_at c i (run.harts k) in let call = call_of i run.machine ask.want in let reply = (answer c call run.machine k ask).reply in
    146 + (r.bytes - (r.harts k).headed)
    + (total (edge_records (point_of k ask.state.ic run.turns (span_of call ask.want reply)) run.points) + total (load_record (warmth c (loading ask.want) (r.events k)) k (r.harts k).skipped (word_before run.machine.memory (loading ask.want))) + total (sc_record reply k) + 15 + 15 * c.harts)
    ≤ c.log_size
turn_room laws c i run k guarding h cut =
    let r = asked_at c i run k in
    let ask = ask_at c i (run.harts k) in
    let call = call_of i run.machine ask.want in
    let reply = (answer c call run.machine k ask).reply in
    omega (
      arith,
      half_room (guarded_at c i run k) c run k ask.want ask.state guarding cut refl,
      point_bytes laws.few (point_of k ask.state.ic run.turns (span_of call ask.want reply)) run.points c.harts h.points,
      load_bytes (warmth c (loading ask.want) (r.events k)) k (r.harts k).skipped (word_before run.machine.memory (loading ask.want)),
      conditional_bytes reply k,
      guarding.harts_high,
      guarding.log_size_low,
    )

-- the Header of the hart before the answer
asked_stands : (c : RawSettings) (i : Program) (run : Run) (k : ℕ) → Held c run → k < c.harts → StandsIn (asked_at c i run k).stream (asked_at c i run k).bytes k ((asked_at c i run k).harts k)
asked_stands c i run k h low = guard_stands (guarded_at c i run k) run k k (ask_at c i (run.harts k)).state (asked_size c i run k h) (h.stands k low)

-- no Header stands before the End of the turn
none_before : (c : RawSettings) (i : Program) (run : Run) (k : ℕ) → let r = asked_at c i run k in let ask = ask_at c i (run.harts k) in let call = call_of i run.machine ask.want in let reply = (answer c call run.machine k ask).reply in
    NoneBefore k (edge_records (point_of k ask.state.ic run.turns (span_of call ask.want reply)) run.points) (load_record (warmth c (loading ask.want) (r.events k)) k (r.harts k).skipped (word_before run.machine.memory (loading ask.want))) (sc_record reply k)
none_before c i run k = record { edges = none_in_point k _ run.points; loads = none_in_load k _ k _ _; conditionals = none_in_conditional k _ k }

-- the hart after the turn
own_is : (c : RawSettings) (i : Program) (run : Run) (k : ℕ) → let r = asked_at c i run k in let a = answered_at c i run k in
    a.harts k ≡ hart_after (next_at c i run k) (state_of c i run k) (skipped_after (warmth c (loading (ask_at c i (run.harts k)).want) (r.events k)) (r.harts k).skipped) a.bytes (r.harts k)
own_is c i run k =
    let r = asked_at c i run k in
    let own : Hart = hart_after (next_at c i run k) (state_of c i run k) (skipped_after (warmth c (loading (ask_at c i (run.harts k)).want) (r.events k)) (r.harts k).skipped) (answered_at c i run k).bytes (r.harts k) in
    ap (λ (b : Bool). elim b as (λ x. Hart) [ true ↦ own | false ↦ other_after (next_at c i run k) (r.harts k) ]) (eqb_same k)

-- its Header is kept where its ask isn't a cut, or begins an interval
answer_kept : RetainLaws → (c : RawSettings) (i : Program) (run : Run) (k : ℕ) → IsGuarding c → Held c run → k < c.harts → (is_cut (ask_at c i (run.harts k)).want ≡ false) ⊎ (Begins (next_at c i run k) ≡ true)
    → let a = answered_at c i run k in HasHeader k (a.harts k).number (a.harts k).begun (kept c.log_size a.stream)
answer_kept laws c i run k guarding h low how =
    let r = asked_at c i run k in
    let ask = ask_at c i (run.harts k) in
    let call = call_of i run.machine ask.want in
    let answered = answer c call run.machine k ask in
    let es = edge_records (point_of k ask.state.ic run.turns (span_of call ask.want answered.reply)) run.points in
    let load = warmth c (loading ask.want) (r.events k) in
    let ls = load_record load k (r.harts k).skipped (word_before run.machine.memory (loading ask.want)) in
    let cs = sc_record answered.reply k in
    subst (λ (u : Hart). HasHeader k u.number u.begun (kept c.log_size (answered_at c i run k).stream)) (sym (own_is c i run k))
    (own_kept (next_at c i run k) r.stream es ls cs r.bytes k c.harts (skipped_after load (r.harts k).skipped) c.log_size (state_of c i run k) (r.harts k) r.harts (state_size c i run k h)
    (asked_stands c i run k h low) (none_before c i run k) (omega (arith, guarding.log_size_low)) (by how))
  where
    by : (is_cut (ask_at c i (run.harts k)).want ≡ false) ⊎ (Begins (next_at c i run k) ≡ true) → Begins (next_at c i run k) ≡ false
        → let r = asked_at c i run k in let ask = ask_at c i (run.harts k) in let call = call_of i run.machine ask.want in let reply = (answer c call run.machine k ask).reply in
        146 + (r.bytes - (r.harts k).headed)
        + (total (edge_records (point_of k ask.state.ic run.turns (span_of call ask.want reply)) run.points) + total (load_record (warmth c (loading ask.want) (r.events k)) k (r.harts k).skipped (word_before run.machine.memory (loading ask.want))) + total (sc_record reply k) + 15 + 15 * c.harts)
        ≤ c.log_size
    by (inl cut) e = turn_room laws c i run k guarding h cut
    by (inr begins) e = absurd (false_true (sym e ∙ begins))
      where
        false_true : false ≡ true → ⊥
        false_true e = cc

-- a live hart after a cut has begun an interval
live_begins : (next : TurnEnd) (s : HartState) (skipped bytes : ℕ) (t : Hart) → Cuts next → (hart_after next s skipped bytes t).live ≡ true → Begins next ≡ true
live_begins (NewInterval r v) s skipped bytes t cuts live = refl
live_begins (HartOver r v) s skipped bytes t cuts live = absurd (not_live live)
  where
    not_live : false ≡ true → ⊥
    not_live e = cc
live_begins GoesOn s skipped bytes t cuts live = absurd cuts
live_begins (RunOver r v) s skipped bytes t cuts live = absurd cuts

turn_header : RetainLaws → (c : RawSettings) (i : Program) (run : Run) (k : ℕ) → IsGuarding c → Held c run → k < c.harts → (run.harts k).live ≡ true → ((turn c i run k).harts k).live ≡ true
    → HasHeader k ((turn c i run k).harts k).number ((turn c i run k).harts k).begun (kept_of c (turn c i run k))
turn_header laws c i run k guarding h low live after =
    let setting : IsRanged c = record { interval_low = guarding.interval_low; limit_high = guarding.limit_high } in
    let ask = ask_at c i (run.harts k) in
    let r = asked_at c i run k in
    let o : is_orderly c i (run.harts k) ask ≡ true = ordered laws.turns.asks c i (run.harts k) (omega (arith, guarding.limit_high)) (h.rested k).fit in
    let a = asking laws.turns c i run k setting (h.rested k) live in
    let is : turn c i run k ≡ answered_at c i run k = turn_is c i run k o in
    let on : ((answered_at c i run k).harts k).live ≡ true = sym (ap (λ (x : Run). (x.harts k).live) is) ∙ after in
    let lives : (hart_after (next_at c i run k) (state_of c i run k) (skipped_after (warmth c (loading ask.want) (r.events k)) (r.harts k).skipped) (answered_at c i run k).bytes (r.harts k)).live ≡ true =
    sym (ap (λ (x : Hart). x.live) (own_is c i run k)) ∙ on in
    subst (λ (x : Run). HasHeader k (x.harts k).number (x.harts k).begun (kept_of c x)) (sym is)
    (answer_kept laws c i run k guarding h low (elim (cut_or ask.want) [
      | inr cut ↦ inl cut
      | inl e ↦ inr (live_begins (next_at c i run k) (state_of c i run k) _ _ (r.harts k) (cut_next c i run.machine k (r.harts k) ask.want ask.state e a.fit a.orderly) lives)
    ]))

-- ---- the laws

-- a list with one turn more
record IsLast (c : RawSettings) (i : Program) (run : Run) (k : ℕ) : Type 0 where
  below : k < c.harts
  live : (run.harts k).live ≡ true

last_turn : (c : RawSettings) (i : Program) (run : Run) (b : List ℕ) (k : ℕ) → legal_from c i run (b ++ k ∷ []) ≡ true → (legal_from c i run b ≡ true) × IsLast c i (run_from c i run b) k
last_turn c i run [] k e = (let live = and_parts (nat_lt k c.harts) (run.harts k).live (legal_first c i run k [] e).0 in (refl, record { below = ltb-true k c.harts live.0; live = live.1 }))
last_turn c i run (j ∷ b) k e =
    let first = legal_first c i run j (b ++ k ∷ []) e in
    let rest = last_turn c i (turn c i run j) b k first.1 in
    (ap (λ (x : Bool). elim x as (λ y. Bool) [ true ↦ legal_from c i (turn c i run j) b | false ↦ false ]) first.0 ∙ rest.0, rest.1)

pub headers_kept : RetainLaws → HeadersAreKept
headers_kept laws c i input b k guarding legal live =
    let setting : IsRanged c = record { interval_low = guarding.interval_low; limit_high = guarding.limit_high } in
    let first : Run = start c i input in
    let l = last_turn c i first b k legal in
    let run : Run = run_from c i first b in
    let h : Held c run = list_held laws.turns c i first b setting (start_held c i input setting) l.0 in
    let is : run_of c i input (b ++ k ∷ []) ≡ turn c i run k = run_append c i first b (k ∷ []) in
    subst (λ (x : Run). HasHeader k (x.harts k).number (x.harts k).begun (kept_of c x)) (sym is)
    (turn_header laws c i run k guarding h l.1.below l.1.live (sym (ap (λ (x : Run). (x.harts k).live) is) ∙ live))

-- ---- faults

ends_behind : (k : ℕ) (m : EndMark) (xs ys : List Record) → last_end k ys ≡ Some m → last_end k (xs ++ ys) ≡ Some m
ends_behind k m xs ys e = last_of_both k xs ys ∙ ap (λ (z : Option EndMark). option_or z (last_end k xs)) e

-- after the Header stands the End with which the hart's turn ended the run
ended_by : (reason value : ℕ) (stream es ls cs : List Record) (bytes k n skipped size : ℕ) (s : HartState) (t : Hart) (harts : ℕ → Hart) → length s.x ≡ 32 → StandsIn stream bytes k t → NoneBefore k es ls cs → 146 ≤ size
    → 146 + (bytes - t.headed) + (total es + total ls + total cs + 15 + 15 * n) ≤ size
    → let rs = turn_records (RunOver reason value) es ls cs k t.number n s harts in let u = hart_after (RunOver reason value) s skipped (bytes + total rs) t in
    HasEnded k u.number u.begun (mark s.ic reason value) (kept size (stream ++ rs))
unfolding own_kept header_kept
ended_by reason value stream es ls cs bytes k n skipped size s t harts registers st none some room =
    let m : EndMark = mark s.ic reason value in
    let stops : List Record = stopped_records k 0 n harts in
    let own : last_end k (End k m ∷ stops) ≡ Some m =
    ap (λ (z : Option EndMark). option_or z (last_end k (End k m ∷ []))) (stops_own k k 0 n harts (eqb_same k)) ∙ own_end k k m (eqb_same k) in
    record {
      header = own_kept (RunOver reason value) stream es ls cs bytes k n skipped size s t harts registers st none some (λ e. room);
      end = ap (last_end k) (over_back reason value stream es ls cs bytes k n skipped s t harts registers st none)
          ∙ ends_behind k m st.back _ (ends_behind k m es _ (ends_behind k m ls _ (ends_behind k m cs (End k m ∷ stops) own)));
    }

answer_ended : RetainLaws → (c : RawSettings) (i : Program) (run : Run) (k : ℕ) (kind : Fault) (value : ℕ) → IsGuarding c → Held c run → k < c.harts → (ask_at c i (run.harts k)).want ≡ Faulted kind value
    → let a = answered_at c i run k in HasEnded k (a.harts k).number (a.harts k).begun (mark (a.harts k).state.ic (16 + fault_number kind) value) (kept c.log_size a.stream)
answer_ended laws c i run k kind value guarding h low fault =
    let r = asked_at c i run k in
    let ask = ask_at c i (run.harts k) in
    let call = call_of i run.machine ask.want in
    let answered = answer c call run.machine k ask in
    let es = edge_records (point_of k ask.state.ic run.turns (span_of call ask.want answered.reply)) run.points in
    let load = warmth c (loading ask.want) (r.events k) in
    let ls = load_record load k (r.harts k).skipped (word_before run.machine.memory (loading ask.want)) in
    let cs = sc_record answered.reply k in
    let t : Hart = r.harts k in
    let s : HartState = state_of c i run k in
    let reason : ℕ = 16 + fault_number kind in
    let uncut : is_cut ask.want ≡ false = ap is_cut fault in
    let next : next_at c i run k ≡ RunOver reason value = ap (λ (w : Want). next_to c i run.machine k t w ask.state) fault in
    subst (λ (u : Hart). HasEnded k u.number u.begun (mark u.state.ic reason value) (kept c.log_size (answered_at c i run k).stream)) (sym (own_is c i run k))
    (subst
    (λ (x : TurnEnd). let rs = turn_records x es ls cs k t.number c.harts s r.harts in let u = hart_after x s (skipped_after load t.skipped) (r.bytes + total rs) t in
    HasEnded k u.number u.begun (mark u.state.ic reason value) (kept c.log_size (r.stream ++ rs))) (sym next)
    (ended_by reason value r.stream es ls cs r.bytes k c.harts (skipped_after load t.skipped) c.log_size s t r.harts (state_size c i run k h) (asked_stands c i run k h low) (none_before c i run k) (omega (arith, guarding.log_size_low))
    (turn_room laws c i run k guarding h uncut)))

pub faults_kept : RetainLaws → FaultsAreKept
faults_kept laws c i input b k kind value guarding legal fault =
    let setting : IsRanged c = record { interval_low = guarding.interval_low; limit_high = guarding.limit_high } in
    let first : Run = start c i input in
    let l = last_turn c i first b k legal in
    let run : Run = run_from c i first b in
    let h : Held c run = list_held laws.turns c i first b setting (start_held c i input setting) l.0 in
    let o : is_orderly c i (run.harts k) (ask_at c i (run.harts k)) ≡ true = ordered laws.turns.asks c i (run.harts k) (omega (arith, guarding.limit_high)) (h.rested k).fit in
    let is : run_of c i input (b ++ k ∷ []) ≡ answered_at c i run k = run_append c i first b (k ∷ []) ∙ turn_is c i run k o in
    subst (λ (x : Run). HasEnded k (x.harts k).number (x.harts k).begun (mark (x.harts k).state.ic (16 + fault_number kind) value) (kept_of c x)) (sym is)
    (answer_ended laws c i run k kind value guarding h l.1.below fault)
