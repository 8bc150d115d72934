-- The Headers of a stream: the Edges into all later points of the hart come after each.
use Rattle.race_laws.proofs.Common.{◌≡◌, ℕ, zero, suc, ◌+◌, ◌<◌, ◌≤◌, ◌⊎◌, ◌↔◌, refl, inl, inr, arith, sym, ap, ap₂, ◌∙◌, subst, List, [], ◌∷◌, ◌++◌, length, slice_get, Option, Some, None, Contains, IsTrue, slice_get_within, Program, RawSettings, HartState, Reply, Warm, Point, IsEdge, In, after, edge, edges_into, sources_into, name_of, Record, Header, Edge, Hart, TurnEnd, GoesOn, NewInterval, points_after, edges_from, edge_records, load_record, sc_record, next_records, run_over_records, first_headers, edge_record, edge_between, contains_in, get_old, get_new, in_after}
use Rattle.race_laws.proofs.Places.{longer, same_edge}
use Rattle.race_laws.proofs.Members.{in_left, in_right, in_map}
use Rattle.race_laws.proofs.Streams.{ArePlain, load_plain, sc_plain, over_plain, rest_of}

-- ---- what comes after a Header

-- a Header of the hart with this count stood before the points from place `first` on: these are all that the hart has from
-- the count on, and the Edges into them are after it
pub record IsHead (points : List Point) (hart ic : ℕ) (rest : List Record) : Type 0 where
  pub first : ℕ
  pub within : first ≤ length points
  pub since : (m : ℕ) (p : Point) → slice_get points m ≡ Some p → p.hart ≡ hart → ic ≤ p.count → first ≤ m
  pub behind : (m n : ℕ) → first ≤ n → IsEdge points m n → In rest (edge_between points m n)

-- if the record is a Header
abbrev pub IsHeadIf : List Point → Record → List Record → Type 0
IsHeadIf points (Header k n ic pc x) rest = IsHead points k ic rest
IsHeadIf points r rest = Unit {0}

abbrev pub Heads : List Point → List Record → Type 0
Heads points [] = Unit {0}
Heads points (r ∷ rs) = IsHeadIf points r rs × Heads points rs

-- ---- more points, and more records

-- all new edges have their Edges among the new records
pub record Grows (old new : List Point) (records : List Record) : Type 0 where
  pub long : length old ≤ length new
  pub points : (m : ℕ) (p : Point) → slice_get new m ≡ Some p → (slice_get old m ≡ Some p) ⊎ (length old ≤ m)
  pub edges : (m n : ℕ) → IsEdge new m n → (IsEdge old m n × (edge_between old m n ≡ edge_between new m n)) ⊎ In records (edge_between new m n)

head_grows : (old new : List Point) (records rest : List Record) (hart ic : ℕ) → Grows old new records → IsHead old hart ic rest → IsHead new hart ic (rest ++ records)
head_grows old new records rest hart ic g h = record {
  first = h.first;
  within = omega (arith, h.within, g.long);
  since = λ m p e same low. elim (g.points m p e) [
    | inl o ↦ h.since m p o same low
    | inr past ↦ omega (arith, h.within, past)
  ];
  behind = λ m n low e. elim (g.edges m n e) [
    | inl o ↦ in_left rest records (edge_between new m n) (subst (In rest) o.1 (h.behind m n low o.0))
    | inr i ↦ in_right rest records (edge_between new m n) i
  ];
}

head_if_grows : (old new : List Point) (records : List Record) → Grows old new records → (r : Record) (rest : List Record) → IsHeadIf old r rest → IsHeadIf new r (rest ++ records)
head_if_grows old new records g (Header k n ic pc x) rest h = head_grows old new records rest k ic g h
head_if_grows old new records g r rest h = tt

heads_grow : (old new : List Point) (rs records : List Record) → Grows old new records → Heads old rs → Heads new records → Heads new (rs ++ records)
heads_grow old new [] records g h now = now
heads_grow old new (r ∷ rs) records g h now = (head_if_grows old new records g r rs h.0, heads_grow old new rs records g h.1 now)

-- ---- the laws of edges that are used here

pub record EdgeLaws : Type 0 where
  pub decide : (run : List Point) (m n : ℕ) → IsTrue (edge run m n) ↔ IsEdge run m n
  pub listed : (run : List Point) (m n : ℕ) → Contains (edges_into run n) m ↔ IsEdge run m n

edge_old : EdgeLaws → (run : List Point) (b : Point) (m n : ℕ) → n < length run → IsEdge (after run b) m n → IsEdge run m n
edge_old laws run b m n low e = (laws.decide run m n).0 (sym (same_edge run b m n low) ∙ (laws.decide (after run b) m n).1 e)

between_old : (run : List Point) (b : Point) (m n : ℕ) → m < n → n < length run → edge_between run m n ≡ edge_between (after run b) m n
between_old run b m n up low = ap₂ (λ p q. edge_record (name_of p, name_of q)) (sym (get_old run b n low)) (sym (get_old run b m (omega (arith, up, low))))

in_edges : (k ic : ℕ) (sources : List (ℕ × ℕ)) (source : ℕ × ℕ) → In sources source → In (edges_from k ic sources) (edge_record ((k, ic), source))
in_edges k ic [] source h = absurd h
in_edges k ic (s ∷ sources) source (inl e) = inl (ap (λ (t : ℕ × ℕ). edge_record ((k, ic), t)) e)
in_edges k ic (s ∷ sources) source (inr h) = inr (in_edges k ic sources source h)

-- the Edges into a new point are its records
edge_new : EdgeLaws → (run : List Point) (b : Point) (m : ℕ) → IsEdge (after run b) m (length run) → In (edge_records (Some b) run) (edge_between (after run b) m (length run))
edge_new laws run b m e =
    let listed = contains_in (edges_into (after run b) (length run)) m ((laws.listed (after run b) m (length run)).1 e) in
    let source = name_of (slice_get (after run b) m) in
    let named = in_map (λ j. name_of (slice_get (after run b) j)) (edges_into (after run b) (length run)) m listed in
    subst (λ p. In (edge_records (Some b) run) (edge_record (name_of p, source))) (sym (get_new run b))
    (in_edges b.hart b.count (sources_into (after run b) (length run)) source named)

point_grows : EdgeLaws → (o : Option Point) (points : List Point) (rest : List Record) → Grows points (points_after o points) (edge_records o points ++ rest)
point_grows laws None points rest = record {
  long = omega arith;
  points = λ m p e. inl e;
  edges = λ m n e. inl (e, refl);
}
point_grows laws (Some b) points rest = record {
  long = (let e = longer points b in omega (arith, e));
  points = λ m p e. elim (in_after points b m p e) [
    | inl o ↦ inl o.1
    | inr n ↦ inr (omega (arith, n.0))
  ];
  edges = λ m n e. elim (in_after points b n e.conflicts.second e.conflicts.second_at) [
    | inl o ↦ inl (edge_old laws points b m n o.0 e, between_old points b m n e.conflicts.earlier o.0)
    | inr l ↦ inr (in_left (edge_records (Some b) points) rest (edge_between (after points b) m n)
        (subst (λ (k : ℕ). In (edge_records (Some b) points) (edge_between (after points b) m k)) (sym l.0) (edge_new laws points b m (subst (IsEdge (after points b) m) l.0 e))))
  ];
}

-- ---- the records of a turn

plain_heads : (points : List Point) (xs ys : List Record) → ArePlain xs → Heads points ys → Heads points (xs ++ ys)
plain_heads points [] ys p h = h
plain_heads points (Header k n ic pc x ∷ xs) ys p h = absurd p.0
plain_heads points (Edge k ic s j ∷ xs) ys p h = absurd p.0
plain_heads points (r ∷ xs) ys p h = (tt, plain_heads points xs ys p.1 h)

only_plain : (points : List Point) (xs : List Record) → ArePlain xs → Heads points xs
only_plain points [] p = tt
only_plain points (Header k n ic pc x ∷ xs) p = absurd p.0
only_plain points (Edge k ic s j ∷ xs) p = absurd p.0
only_plain points (r ∷ xs) p = (tt, only_plain points xs p.1)

edges_heads : (points : List Point) (k ic : ℕ) (sources : List (ℕ × ℕ)) (ys : List Record) → Heads points ys → Heads points (edges_from k ic sources ++ ys)
edges_heads points k ic [] ys h = h
edges_heads points k ic (s ∷ sources) ys h = (tt, edges_heads points k ic sources ys h)

records_heads : (points : List Point) (o : Option Point) (old : List Point) (ys : List Record) → Heads points ys → Heads points (edge_records o old ++ ys)
records_heads points None old ys h = h
records_heads points (Some b) old ys h = edges_heads points b.hart b.count (sources_into (after old b) (length old)) ys h

-- the hart has no point from this count on
abbrev pub IsPast : List Point → (hart ic : ℕ) → Type 0
IsPast points hart ic = (m : ℕ) (p : Point) → slice_get points m ≡ Some p → p.hart ≡ hart → p.count < ic

-- a Header at the end
last_head : (points : List Point) (hart ic : ℕ) (rest : List Record) → IsPast points hart ic → IsHead points hart ic rest
last_head points hart ic rest past = record {
  first = length points;
  within = omega arith;
  since = λ m p e same low. absurd (omega (arith, low, past m p e same));
  behind = λ m n low e. absurd (omega (arith, low, slice_get_within points n e.conflicts.second e.conflicts.second_at));
}

next_heads : (x : TurnEnd) (points : List Point) (k number : ℕ) (s : HartState) (ys : List Record) → IsPast points k s.ic → Heads points ys → Heads points (next_records x k number s ++ ys)
next_heads GoesOn points k number s ys past h = h
next_heads (NewInterval r y) points k number s ys past h = (tt, (last_head points k s.ic ys past, h))
next_heads x points k number s ys past h = (tt, h)

rest_heads : (points : List Point) (o : Option Warm) (k skipped word : ℕ) (reply : Reply) (next : TurnEnd) (number : ℕ) (s : HartState) (count : ℕ) (harts : ℕ → Hart)
    → IsPast points k s.ic → Heads points (rest_of o k skipped word reply next number s count harts)
rest_heads points o k skipped word reply next number s count harts past =
    let over = run_over_records next k count harts in
    plain_heads points (load_record o k skipped word) (sc_record reply k ++ (next_records next k number s ++ over)) (load_plain o k skipped word)
    (plain_heads points (sc_record reply k) (next_records next k number s ++ over) (sc_plain reply k)
    (next_heads next points k number s over past (only_plain points over (over_plain next k count harts))))

-- a turn's records
pub heads_after : EdgeLaws → (point : Option Point) (points : List Point) (stream : List Record) (o : Option Warm) (k skipped word : ℕ) (reply : Reply) (next : TurnEnd) (number : ℕ) (s : HartState) (count : ℕ)
    (harts : ℕ → Hart)
    → IsPast (points_after point points) k s.ic → Heads points stream
    → Heads (points_after point points) (stream ++ (edge_records point points ++ rest_of o k skipped word reply next number s count harts))
heads_after laws point points stream o k skipped word reply next number s count harts past h =
    let rest = rest_of o k skipped word reply next number s count harts in
    heads_grow points (points_after point points) stream (edge_records point points ++ rest) (point_grows laws point points rest) h
    (records_heads (points_after point points) point points rest (rest_heads (points_after point points) o k skipped word reply next number s count harts past))

-- the first Headers
pub first_heads : (c : RawSettings) (i : Program) (k count : ℕ) → Heads [] (first_headers c i k count)
first_heads c i k zero = tt
first_heads c i k (suc count) = (last_head [] k 0 (first_headers c i (k + 1) count) (λ m p e same. cc), first_heads c i (k + 1) count)

-- ---- a Header among records

pub drop_heads : (points : List Point) (front rs : List Record) → Heads points (front ++ rs) → Heads points rs
drop_heads points [] rs h = h
drop_heads points (r ∷ front) rs h = drop_heads points front rs h.1

-- the records after it
pub record Found (points : List Point) (rs : List Record) (hart ic : ℕ) : Type 0 where
  pub rest : List Record
  pub head : IsHead points hart ic rest
  pub among : (r : Record) → In rest r → In rs r

pub find_head : (points : List Point) (rs : List Record) (k n ic pc : ℕ) (x : List ℕ) → In rs (Header k n ic pc x) → Heads points rs → Found points rs k ic
find_head points [] k n ic pc x i h = absurd i
find_head points (r ∷ rs) k n ic pc x (inl e) h = record { rest = rs; head = subst (λ (q : Record). IsHeadIf points q rs) e h.0; among = λ q i. inr i }
find_head points (r ∷ rs) k n ic pc x (inr i) h =
    let f = find_head points rs k n ic pc x i h.1 in record { rest = f.rest; head = f.head; among = λ q j. inr (f.among q j) }
