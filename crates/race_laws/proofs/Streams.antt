-- The Edges of a stream, turn by turn.
use Rattle.race_laws.proofs.Common.{◌≡◌, ℕ, zero, suc, ◌+◌, Bool, true, false, not, ◌&&◌, ◌==◌, refl, sym, ap, ap₂, ◌∙◌, List, [], ◌∷◌, ◌++◌, length, Option, Some, None, map, append-nil, Program, RawSettings, HartState, TurnRow, absorbed, Ask, Reply, Warm, Point, after, sources_into, edges_of_first, Record, Header, ScOk, ScFailed, Edge, End, Hart, TurnEnd, GoesOn, RunOver, answer, call_of, Run, serve, served_if, is_guarded, guarded_run, guard_records, is_orderly, turn, ask_at, span_of, next_of, loading, warmth, word_before, point_of, points_after, edges_from, edge_records, load_record, sc_record, mark, next_records, stopped_records, run_over_records, start, first_headers, run_from, after_rows, edges_in, edge_record, netzer_records, HasNetzersEdges, EdgesAreNetzers}
use Rattle.std.proofs.lemmas.List.{map-append}
use Rattle.rv_meaning.specs.declared.asks.Reply.TheVariants as replies
use Rattle.first_load_bits.specs.declared.warm.Warm.TheVariants as answers
use Rattle.race_laws.proofs.Places.{led_to, all_after}

-- ---- records that are neither Edges nor Headers

abbrev pub IsPlain : Record → Type 0
IsPlain (Header k n ic pc x) = ⊥
IsPlain (Edge k ic s j) = ⊥
IsPlain r = Unit {0}

abbrev pub ArePlain : List Record → Type 0
ArePlain [] = Unit {0}
ArePlain (r ∷ rs) = IsPlain r × ArePlain rs

pub load_plain : (o : Option Warm) (k skipped word : ℕ) → ArePlain (load_record o k skipped word)
load_plain (Some answers.Cold) k skipped word = (tt, tt)
load_plain o k skipped word = tt

pub sc_plain : (r : Reply) (k : ℕ) → ArePlain (sc_record r k)
sc_plain replies.ScOk k = (tt, tt)
sc_plain replies.ScFailed k = (tt, tt)
sc_plain r k = tt

stopped_if : (x : Bool) (k ic : ℕ) (rest : List Record) → ArePlain rest → ArePlain (elim x as (λ y. List Record) [ true ↦ End k (mark ic 5 0) ∷ rest | false ↦ rest ])
stopped_if true k ic rest p = (tt, p)
stopped_if false k ic rest p = p

stopped_plain : (count own k : ℕ) (harts : ℕ → Hart) → ArePlain (stopped_records own k count harts)
stopped_plain zero own k harts = tt
stopped_plain (suc count) own k harts =
    stopped_if (not (k == own) && (harts k).live) k (harts k).state.ic (stopped_records own (k + 1) count harts) (stopped_plain count own (k + 1) harts)

pub over_plain : (x : TurnEnd) (k count : ℕ) (harts : ℕ → Hart) → ArePlain (run_over_records x k count harts)
over_plain (RunOver r y) k count harts = stopped_plain count k 0 harts
over_plain x k count harts = tt

-- ---- the Edges among them

edges_append : (xs ys : List Record) → edges_in (xs ++ ys) ≡ edges_in xs ++ edges_in ys
edges_append [] ys = refl
edges_append (Edge k ic s j ∷ xs) ys = ap (λ rs. Edge k ic s j ∷ rs) (edges_append xs ys)
edges_append (r ∷ xs) ys = edges_append xs ys

plain_edges : (xs ys : List Record) → ArePlain xs → edges_in (xs ++ ys) ≡ edges_in ys
plain_edges [] ys p = refl
plain_edges (Header k n ic pc x ∷ xs) ys p = absurd p.0
plain_edges (Edge k ic s j ∷ xs) ys p = absurd p.0
plain_edges (r ∷ xs) ys p = plain_edges xs ys p.1

next_edges : (x : TurnEnd) (k number : ℕ) (s : HartState) (ys : List Record) → edges_in (next_records x k number s ++ ys) ≡ edges_in ys
next_edges GoesOn k number s ys = refl
next_edges x k number s ys = refl

-- what comes after the Edges of a turn
abbrev pub rest_of : Option Warm → (k skipped word : ℕ) → Reply → TurnEnd → (number : ℕ) → HartState → (count : ℕ) → (ℕ → Hart) → List Record
rest_of o k skipped word reply next number s count harts =
    load_record o k skipped word ++ (sc_record reply k ++ (next_records next k number s ++ run_over_records next k count harts))

rest_edges : (o : Option Warm) (k skipped word : ℕ) (reply : Reply) (next : TurnEnd) (number : ℕ) (s : HartState) (count : ℕ) (harts : ℕ → Hart)
    → edges_in (rest_of o k skipped word reply next number s count harts) ≡ []
rest_edges o k skipped word reply next number s count harts =
    let over = run_over_records next k count harts in
    plain_edges (load_record o k skipped word) (sc_record reply k ++ (next_records next k number s ++ over)) (load_plain o k skipped word)
    ∙ (plain_edges (sc_record reply k) (next_records next k number s ++ over) (sc_plain reply k)
    ∙ (next_edges next k number s over
    ∙ (sym (ap edges_in (append-nil over)) ∙ plain_edges over [] (over_plain next k count harts))))

edges_are_edges : (k ic : ℕ) (sources : List (ℕ × ℕ)) → edges_in (edges_from k ic sources) ≡ edges_from k ic sources
edges_are_edges k ic [] = refl
edges_are_edges k ic (source ∷ sources) = ap (λ rs. Edge k ic source.0 source.1 ∷ rs) (edges_are_edges k ic sources)

edges_mapped : (b : Point) (sources : List (ℕ × ℕ)) → map edge_record (led_to b sources) ≡ edges_from b.hart b.count sources
edges_mapped b [] = refl
edges_mapped b (source ∷ sources) = ap (λ rs. Edge b.hart b.count source.0 source.1 ∷ rs) (edges_mapped b sources)

netzer_after : (o : Option Point) (points : List Point) → netzer_records (points_after o points) ≡ netzer_records points ++ edge_records o points
netzer_after None points = sym (append-nil (netzer_records points))
netzer_after (Some b) points =
    ap (map edge_record) (all_after points b)
    ∙ (map-append edge_record _ _
    ∙ ap (λ rs. netzer_records points ++ rs) (edges_mapped b (sources_into (after points b) (length points))))

records_edges : (o : Option Point) (points : List Point) → edges_in (edge_records o points) ≡ edge_records o points
records_edges None points = refl
records_edges (Some b) points = edges_are_edges b.hart b.count (sources_into (after points b) (length points))

stream_after : (o : Option Point) (points : List Point) (stream rest : List Record) → edges_in rest ≡ [] → edges_in stream ≡ netzer_records points
    → edges_in (stream ++ (edge_records o points ++ rest)) ≡ netzer_records (points_after o points)
stream_after o points stream rest none is =
    edges_append stream (edge_records o points ++ rest)
    ∙ (ap₂ (λ xs ys. xs ++ ys) is (edges_append (edge_records o points) rest ∙ (ap₂ (λ xs ys. xs ++ ys) (records_edges o points) none ∙ append-nil (edge_records o points)))
    ∙ sym (netzer_after o points))

-- ---- turns

-- the guard adds no Edge
guarded_edges : (g : Bool) (run : Run) (k : ℕ) (s : HartState) → HasNetzersEdges run → HasNetzersEdges (guarded_run g run k s)
guarded_edges true run k s is = edges_append run.stream (guard_records run k s) ∙ (append-nil (edges_in run.stream) ∙ is)
guarded_edges false run k s is = is

served_edges : (x : Bool) (c : RawSettings) (i : Program) (run : Run) (k : ℕ) (ask : Ask) → HasNetzersEdges run → HasNetzersEdges (served_if x c i run k ask).run
served_edges false c i run k ask is = is
served_edges true c i run k ask is =
    let call = call_of i run.machine ask.want in
    let reply : Reply = (answer c call run.machine k ask).reply in
    let s : HartState = absorbed ask reply in
    let g = is_guarded c run k ask.want in
    let at : Run = guarded_run g run k ask.state in
    let h : Hart = at.harts k in
    let next : TurnEnd = next_of c call h ask.want reply s.ic in
    stream_after (point_of k ask.state.ic run.turns (span_of call ask.want reply)) run.points at.stream _
    (rest_edges (warmth c (loading ask.want) (at.events k)) k h.skipped (word_before run.machine.memory (loading ask.want)) reply next h.number s c.harts at.harts) (guarded_edges g run k ask.state is)

ask_edges : (c : RawSettings) (i : Program) (run : Run) (k : ℕ) (ask : Ask) → HasNetzersEdges run → HasNetzersEdges (serve c i run k ask).run
unfolding serve
ask_edges c i run k ask is = served_edges (is_orderly c i (run.harts k) ask) c i run k ask is

rows_edges : (c : RawSettings) (i : Program) (run : Run) (rows : List TurnRow) → HasNetzersEdges run → HasNetzersEdges (after_rows c i run rows)
rows_edges c i run [] is = is
rows_edges c i run (r ∷ rows) is = rows_edges c i (serve c i run r.hart r.ask).run rows (ask_edges c i run r.hart r.ask is)

turns_edges : (c : RawSettings) (i : Program) (run : Run) (b : List ℕ) → HasNetzersEdges run → HasNetzersEdges (run_from c i run b)
turns_edges c i run [] is = is
turns_edges c i run (k ∷ ks) is = turns_edges c i (turn c i run k) ks (ask_edges c i run k (ask_at c i (run.harts k)) is)

headers_edges : (c : RawSettings) (i : Program) (k count : ℕ) → edges_in (first_headers c i k count) ≡ []
headers_edges c i k zero = refl
headers_edges c i k (suc count) = headers_edges c i (k + 1) count

start_edges : (c : RawSettings) (i : Program) (input : List ℕ) → HasNetzersEdges (start c i input)
unfolding edges_of_first
start_edges c i input = headers_edges c i 0 c.harts

pub edges_are_netzers : EdgesAreNetzers
edges_are_netzers = record {
  turns = λ c i input b. turns_edges c i (start c i input) b (start_edges c i input);
  rows = λ c i input rows. rows_edges c i (start c i input) rows (start_edges c i input);
}
