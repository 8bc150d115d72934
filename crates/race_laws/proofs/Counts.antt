-- The Edges of a stream, by hart and count.
use Rattle.race_laws.proofs.Common.{◌≡◌, ℕ, zero, suc, ◌<◌, ◌≤◌, ◌⊎◌, refl, inl, inr, arith, sym, ap, ap₂, ◌∙◌, subst, subst₂, List, [], ◌∷◌, length, slice_get, map, Option, Some, slice_get_within, eqb_tells, RawSettings, Record, Edge, Point, IsConflict, ProgramOrder, Conflict, Either, Chain, IsEdge, OtherThan, one, more, IsInOrder, StandByCounts, In, name_of, edges_into, sources_into, edges_of_first, all_edges, Run, edges_in, edge_record, edge_between, HasNetzersEdges, HasEdgesOfInstructions, HasNoImpliedEdge, HasLeastEdges, cases_lt, contains_in, in_contains}
use Rattle.race_laws.specs.Pairs.{StepBy, LeadsBy, IsConflictAt, IsEdgeAt, EdgeAmong, OtherEdge, OrderConflicts}
use Rattle.race_laws.specs.Pairs.StepBy.{onward, across}
use Rattle.race_laws.specs.Pairs.LeadsBy.{by_one, by_more}
use Rattle.race_laws.proofs.Members.{in_left, in_right, in_map}
use Rattle.race_laws.proofs.Heads.{EdgeLaws}
use Rattle.race_laws.proofs.Alone.{edges_alone}
use Rattle.race_laws.proofs.Whole.{EdgesStandForCounts}
use Rattle.race_log.proofs.EdgeLaws.{one_point}

-- ---- points and their places

same_place : (run : List Point) (m n : ℕ) (p q : Point) → m ≡ n → slice_get run m ≡ Some p → slice_get run n ≡ Some q → p ≡ q
same_place run m n p q is e f = one_point run n p q (subst (λ (k : ℕ). slice_get run k ≡ Some p) is e) f

-- places whose points conflict, and whose instructions are a pair
abbrev pub ConflictingPair : List Point → (ℕ → ℕ → ℕ → ℕ → Type 0) → ℕ → ℕ → Type 0
ConflictingPair points Pair m n = Conflict points m n × Pair (name_of (slice_get points m)).0 (name_of (slice_get points m)).1 (name_of (slice_get points n)).0 (name_of (slice_get points n)).1

module _ (by : StandByCounts) (run : List Point) (up : IsInOrder run) where
  ordered : (m n : ℕ) (p q : Point) → slice_get run m ≡ Some p → slice_get run n ≡ Some q → p.hart ≡ q.hart → p.count < q.count → ProgramOrder run m n
  ordered m n p q e f hart low = record { earlier = (by.counts run up m n p q e f hart).1 low; first = p; second = q; first_at = e; second_at = f; related = hart }

  -- a point of the hart with no higher count has the same place or an earlier one
  up_to : (m n : ℕ) (p q : Point) → slice_get run m ≡ Some p → slice_get run n ≡ Some q → p.hart ≡ q.hart → p.count ≤ q.count → (m ≡ n) ⊎ ProgramOrder run m n
  up_to m n p q e f hart most = elim (cases_lt m n) [
    | inl low ↦ inr (record { earlier = low; first = p; second = q; first_at = e; second_at = f; related = hart })
    | inr past ↦ elim (cases_lt n m) [
      | inl less ↦ absurd (omega (arith, most, (by.counts run up n m q p f e (sym hart)).0 less))
      | inr none ↦ inl (omega (arith, past, none))
    ]
  ]

  -- ---- pairs of places for a pair of instructions

  record Stands (At : ℕ → ℕ → Type 0) (h i g j : ℕ) : Type 0 where
    first : ℕ
    second : ℕ
    p : Point
    q : Point
    p_at : slice_get run first ≡ Some p
    q_at : slice_get run second ≡ Some q
    p_hart : p.hart ≡ h
    p_count : p.count ≡ i
    q_hart : q.hart ≡ g
    q_count : q.count ≡ j
    pair : At first second

  -- a conflict of instructions is one of places
  conflict_stands : (h i g j : ℕ) → IsConflictAt run h i g j → Stands (Conflict run) h i g j
  conflict_stands h i g j c = record {
    first = c.first_at.place;
    second = c.second_at.place;
    p = c.first;
    q = c.second;
    p_at = c.first_at.at;
    q_at = c.second_at.at;
    p_hart = c.first_at.hart_is;
    p_count = c.first_at.count_is;
    q_hart = c.second_at.hart_is;
    q_count = c.second_at.count_is;
    pair = record {
      earlier = (by.turns run up c.first_at.place c.second_at.place c.first c.second c.first_at.at c.second_at.at).1 c.earlier;
      first = c.first;
      second = c.second;
      first_at = c.first_at.at;
      second_at = c.second_at.at;
      related = c.conflict;
    };
  }

  -- and one of places is one of instructions
  conflict_at : (m n : ℕ) (c : Conflict run m n) → IsConflictAt run c.first.hart c.first.count c.second.hart c.second.count
  conflict_at m n c = record {
    first = c.first;
    second = c.second;
    first_at = record { place = m; at = c.first_at; hart_is = refl; count_is = refl };
    second_at = record { place = n; at = c.second_at; hart_is = refl; count_is = refl };
    earlier = (by.turns run up m n c.first c.second c.first_at c.second_at).0 c.earlier;
    conflict = c.related;
  }

  -- ---- chains

  abbrev Chains : (ℕ → ℕ → Type 0) → ℕ → ℕ → Type 0
  Chains At m n = Chain (Either (ProgramOrder run) At) m n

  from_pair : {At : ℕ → ℕ → Type 0} {m k n : ℕ} → (m ≡ k) ⊎ ProgramOrder run m k → At k n → Chains At m n
  from_pair {At = At} {n = n} (inl e) a = one (inr (subst (λ (x : ℕ). At x n) (sym e) a))
  from_pair (inr o) a = more (one (inl o)) (inr a)

  then_pair : {At : ℕ → ℕ → Type 0} {l m k n : ℕ} → Chains At l m → (m ≡ k) ⊎ ProgramOrder run m k → At k n → Chains At l n
  then_pair {At = At} {n = n} c (inl e) a = more c (inr (subst (λ (x : ℕ). At x n) (sym e) a))
  then_pair c (inr o) a = more (more c (inl o)) (inr a)

  then_up : {At : ℕ → ℕ → Type 0} {l m n : ℕ} → Chains At l m → (m ≡ n) ⊎ ProgramOrder run m n → Chains At l n
  then_up {At = At} {l = l} c (inl e) = subst (λ (x : ℕ). Chain (Either (ProgramOrder run) At) l x) e c
  then_up c (inr o) = more c (inl o)

  -- a chain of instructions leads along places, from one at its beginning or earlier to one at its end or later
  places_lead : {Pair : ℕ → ℕ → ℕ → ℕ → Type 0} {At : ℕ → ℕ → Type 0} → ((h i g j : ℕ) → Pair h i g j → Stands At h i g j) → {h i g j : ℕ} → LeadsBy Pair h i g j
      → (m n : ℕ) (p q : Point) → slice_get run m ≡ Some p → slice_get run n ≡ Some q → p.hart ≡ h → p.count ≤ i → q.hart ≡ g → j ≤ q.count → Chains At m n
  places_lead stand (by_one (onward low)) m n p q e f ph pc qh qc = one (inl (ordered m n p q e f (ph ∙ sym qh) (omega (arith, low, pc, qc))))
  places_lead stand {h = h} {i = i} {g = g} {j = j} (by_one (across x)) m n p q e f ph pc qh qc =
      let s = stand h i g j x in
      then_up (from_pair (up_to m s.first p s.p e s.p_at (ph ∙ sym s.p_hart) (omega (arith, pc, s.p_count))) s.pair)
      (up_to s.second n s.q q s.q_at f (s.q_hart ∙ sym qh) (omega (arith, qc, s.q_count)))
  places_lead stand (by_more d (onward low)) m n p q e f ph pc qh qc = places_lead stand d m n p q e f ph pc qh (omega (arith, low, qc))
  places_lead stand {g = g} {j = j} (by_more {hart_on = hart} {count_on = count} d (across x)) m n p q e f ph pc qh qc =
      let s = stand hart count g j x in
      then_up (then_pair (places_lead stand d m s.first p s.p e s.p_at ph pc s.p_hart (omega (arith, s.p_count))) (inl refl) s.pair)
      (up_to s.second n s.q q s.q_at f (s.q_hart ∙ sym qh) (omega (arith, qc, s.q_count)))

  -- a step of places is one of instructions
  step_by : {Pair : ℕ → ℕ → ℕ → ℕ → Type 0} {At : ℕ → ℕ → Type 0}
      → ((m n : ℕ) (p q : Point) → slice_get run m ≡ Some p → slice_get run n ≡ Some q → At m n → Pair p.hart p.count q.hart q.count)
      → (m n : ℕ) (p q : Point) → slice_get run m ≡ Some p → slice_get run n ≡ Some q → Either (ProgramOrder run) At m n → StepBy Pair p.hart p.count q.hart q.count
  step_by {Pair = Pair} names m n p q e f (inl o) =
      let first = ap (λ (x : Point). x.hart) (one_point run m p o.first e o.first_at) in
      let second = ap (λ (x : Point). x.hart) (one_point run n q o.second f o.second_at) in
      let hart : p.hart ≡ q.hart = first ∙ (o.related ∙ sym second) in
      subst (λ x. StepBy Pair p.hart p.count x q.count) hart (onward ((by.counts run up m n p q e f hart).0 o.earlier))
  step_by names m n p q e f (inr a) = across (names m n p q e f a)

  -- a chain of places leads along instructions
  instructions_lead : {Pair : ℕ → ℕ → ℕ → ℕ → Type 0} {At : ℕ → ℕ → Type 0}
      → ((m n : ℕ) (p q : Point) → slice_get run m ≡ Some p → slice_get run n ≡ Some q → At m n → Pair p.hart p.count q.hart q.count)
      → ((m n : ℕ) → At m n → Conflict run m n)
      → {m n : ℕ} → Chain (Either (ProgramOrder run) At) m n → (p q : Point) → slice_get run m ≡ Some p → slice_get run n ≡ Some q → LeadsBy Pair p.hart p.count q.hart q.count
  instructions_lead names are {m = m} {n = n} (one s) p q e f = by_one (step_by names m n p q e f s)
  instructions_lead {At = At} names are {n = n} (more {k = k} c s) p q e f =
      let r = begins k n s in
      by_more (instructions_lead names are c p r.0 e r.1) (step_by names k n r.0 q r.1 f s)
    where
      begins : (k n : ℕ) → Either (ProgramOrder run) At k n → (p : Point) × (slice_get run k ≡ Some p)
      begins k n (inl o) = (o.first, o.first_at)
      begins k n (inr a) = (let c = are k n a in (c.first, c.first_at))

-- ---- the Edges of a stream

-- an Edge of the records is among them
among_records : (rs : List Record) (r : Record) → In (edges_in rs) r → In rs r
among_records [] r i = absurd i
among_records (Edge k ic s j ∷ rs) r (inl e) = inl e
among_records (Edge k ic s j ∷ rs) r (inr i) = inr (among_records rs r i)
among_records (entry ∷ rs) r i = inr (among_records rs r i)

last_or_before : (n k : ℕ) → n < suc k → (n ≡ k) ⊎ (n < k)
last_or_before n k h = elim (eqb_tells n k) [
  | inl e ↦ inl e.1
  | inr e ↦ inr (omega (arith, h, e.1))
]

-- the instructions at two places, the one at the second first
abbrev named : List Point → ℕ → ℕ → (ℕ × ℕ) × (ℕ × ℕ)
named points m n = (name_of (slice_get points n), name_of (slice_get points m))

-- the sources of a place, with it
abbrev led_to : List Point → ℕ → List ((ℕ × ℕ) × (ℕ × ℕ))
led_to points n = map (λ source. (name_of (slice_get points n), source)) (sources_into points n)

-- each edge is listed
listed : EdgeLaws → (points : List Point) (count m n : ℕ) → n < count → IsEdge points m n → In (edges_of_first points count) (named points m n)
unfolding edges_of_first
listed laws points zero m n low e = absurd (omega (arith, low))
listed laws points (suc count) m n low e = elim (last_or_before n count low) [
  | inl is ↦
      let last : IsEdge points m count = subst (IsEdge points m) is e in
      let source = in_map (λ k. name_of (slice_get points k)) (edges_into points count) m (contains_in (edges_into points count) m ((laws.listed points m count).1 last)) in
      let pair : In (led_to points count) (named points m count) = in_map (λ (s : ℕ × ℕ). (name_of (slice_get points count), s)) (sources_into points count) (name_of (slice_get points m)) source in
      in_right (edges_of_first points count) (led_to points count) (named points m n) (subst (λ (k : ℕ). In (led_to points count) (named points m k)) (sym is) pair)
  | inr under ↦ in_left (edges_of_first points count) (led_to points count) (named points m n) (listed laws points count m n under e)
]

module _ (by : StandByCounts) (laws : EdgeLaws) (c : RawSettings) (run : Run) (is : HasNetzersEdges run) (up : IsInOrder run.points) where
  -- an edge's Edge is in the stream
  in_stream : (m n : ℕ) (p q : Point) → slice_get run.points m ≡ Some p → slice_get run.points n ≡ Some q → IsEdge run.points m n → EdgeAmong run.stream p.hart p.count q.hart q.count
  in_stream m n p q e f edge =
      let pair = listed laws run.points (length run.points) m n (slice_get_within run.points n q f) edge in
      let there = in_map edge_record (all_edges run.points) (named run.points m n) pair in
      let r = edge_between run.points m n in
      let among : In run.stream r = among_records run.stream r (subst (λ (xs : List Record). In xs r) (sym is) there) in
      let same : r ≡ Edge q.hart q.count p.hart p.count = ap₂ (λ (a b : Option Point). edge_record (name_of a, name_of b)) f e in
      in_contains run.stream (Edge q.hart q.count p.hart p.count) (subst (In run.stream) same among)

  -- and an Edge of the stream is that of an edge
  edge_stands : (h i g j : ℕ) → EdgeAmong run.stream h i g j → Stands by run.points up (IsEdge run.points) h i g j
  edge_stands h i g j among =
      let found = edges_alone laws c run is run.stream (record { front = []; parts = refl }) g j h i among in
      let k = found.2.edge.conflicts in
      let same : ◌≡◌ {A = Record} (Edge k.second.hart k.second.count k.first.hart k.first.count) (Edge g j h i) =
      sym (ap₂ (λ (a b : Option Point). edge_record (name_of a, name_of b)) k.second_at k.first_at) ∙ found.3 in
      record {
        first = found.0;
        second = found.1;
        p = k.first;
        q = k.second;
        p_at = k.first_at;
        q_at = k.second_at;
        p_hart = cc;
        p_count = cc;
        q_hart = cc;
        q_count = cc;
        pair = found.2.edge;
      }

  pub of_instructions : EdgesStandForCounts → HasEdgesOfInstructions c run
  of_instructions counts h i g j = (there, back)
    where
      there : EdgeAmong run.stream h i g j → IsEdgeAt run.points h i g j
      there among =
          let s = edge_stands h i g j among in
          record {
            first = s.p;
            second = s.q;
            first_at = record { place = s.first; at = s.p_at; hart_is = s.p_hart; count_is = s.p_count };
            second_at = record { place = s.second; at = s.q_at; hart_is = s.q_hart; count_is = s.q_count };
            edge = (counts run.points up s.first s.second s.p s.q s.p_at s.q_at).0 s.pair;
          }

      back : IsEdgeAt run.points h i g j → EdgeAmong run.stream h i g j
      back e =
          let edge = (counts run.points up e.first_at.place e.second_at.place e.first e.second e.first_at.at e.second_at.at).1 e.edge in
          let among = in_stream e.first_at.place e.second_at.place e.first e.second e.first_at.at e.second_at.at edge in
          subst₂ (λ x y. EdgeAmong run.stream h i x y) e.second_at.hart_is e.second_at.count_is
          (subst₂ (λ x y. EdgeAmong run.stream x y e.second.hart e.second.count) e.first_at.hart_is e.first_at.count_is among)

  -- ---- no Edge is implied

  pub none_implied : ((points : List Point) (m n : ℕ) → IsEdge points m n → Chain (Either (ProgramOrder points) (OtherThan m n (IsEdge points))) m n → ⊥) → HasNoImpliedEdge c run
  none_implied law h i g j among chain =
      let s = edge_stands h i g j among in
      law run.points s.first s.second s.pair
      (places_lead by run.points up (other s) chain s.first s.second s.p s.q s.p_at s.q_at s.p_hart (omega (arith, s.p_count)) s.q_hart (omega (arith, s.q_count)))
    where
      other : (s : Stands by run.points up (IsEdge run.points) h i g j) (k ic l jc : ℕ) → OtherEdge run.stream (Edge g j h i) k ic l jc
          → Stands by run.points up (OtherThan s.first s.second (IsEdge run.points)) k ic l jc
      other s k ic l jc x =
          let t = edge_stands k ic l jc x.0 in
          record {
            first = t.first;
            second = t.second;
            p = t.p;
            q = t.q;
            p_at = t.p_at;
            q_at = t.q_at;
            p_hart = t.p_hart;
            p_count = t.p_count;
            q_hart = t.q_hart;
            q_count = t.q_count;
            pair = (t.pair, λ both. x.1 (alike s t both.0 both.1));
          }
        where
          alike : (s : Stands by run.points up (IsEdge run.points) h i g j) (t : Stands by run.points up (IsEdge run.points) k ic l jc)
              → t.first ≡ s.first → t.second ≡ s.second → Edge l jc k ic ≡ Edge g j h i
          alike s t a b =
              let p = same_place run.points t.first s.first t.p s.p a t.p_at s.p_at in
              let q = same_place run.points t.second s.second t.q s.q b t.q_at s.q_at in
              let one : k ≡ h = sym t.p_hart ∙ (ap (λ (x : Point). x.hart) p ∙ s.p_hart) in
              let two : ic ≡ i = sym t.p_count ∙ (ap (λ (x : Point). x.count) p ∙ s.p_count) in
              let three : l ≡ g = sym t.q_hart ∙ (ap (λ (x : Point). x.hart) q ∙ s.q_hart) in
              let four : jc ≡ j = sym t.q_count ∙ (ap (λ (x : Point). x.count) q ∙ s.q_count) in
              ap₂ (λ x y. Edge x y k ic) three four ∙ ap₂ (λ x y. Edge g j x y) one two

  -- ---- the Edges are the least set

  ordered_so : ((points : List Point) (m n : ℕ) → Conflict points m n → Chain (Either (ProgramOrder points) (IsEdge points)) m n) → OrderConflicts run.points (EdgeAmong run.stream)
  ordered_so law = record { are = are; order = order }
    where
      are : (h i g j : ℕ) → EdgeAmong run.stream h i g j → IsConflictAt run.points h i g j
      are h i g j among =
          let s = edge_stands h i g j among in
          let k = s.pair.conflicts in
          let p = one_point run.points s.first s.p k.first s.p_at k.first_at in
          let q = one_point run.points s.second s.q k.second s.q_at k.second_at in
          record {
            first = s.p;
            second = s.q;
            first_at = record { place = s.first; at = s.p_at; hart_is = s.p_hart; count_is = s.p_count };
            second_at = record { place = s.second; at = s.q_at; hart_is = s.q_hart; count_is = s.q_count };
            earlier = (by.turns run.points up s.first s.second s.p s.q s.p_at s.q_at).0 k.earlier;
            conflict = subst₂ IsConflict (sym p) (sym q) k.related;
          }

      order : (h i g j : ℕ) → IsConflictAt run.points h i g j → LeadsBy (EdgeAmong run.stream) h i g j
      order h i g j x =
          let s = conflict_stands by run.points up h i g j x in
          let led = instructions_lead by run.points up in_stream (λ m n e. e.conflicts) (law run.points s.first s.second s.pair) s.p s.q s.p_at s.q_at in
          subst₂ (λ a b. LeadsBy (EdgeAmong run.stream) h i a b) s.q_hart s.q_count
          (subst₂ (λ a b. LeadsBy (EdgeAmong run.stream) a b s.q.hart s.q.count) s.p_hart s.p_count led)

  names_at : {At : ℕ → ℕ → Type 0} {h i g j : ℕ} (s : Stands by run.points up At h i g j) → (name_of (slice_get run.points s.first) ≡ (h, i)) × (name_of (slice_get run.points s.second) ≡ (g, j))
  names_at s = (ap name_of s.p_at ∙ ap₂ (λ x y. (x, y)) s.p_hart s.p_count, ap name_of s.q_at ∙ ap₂ (λ x y. (x, y)) s.q_hart s.q_count)

  -- the law of the least set, over places
  abbrev pub EdgesNeeded : (ℕ → ℕ → Type 0) → Type 0
  EdgesNeeded Pair = ((m n : ℕ) → Pair m n → Conflict run.points m n) → ((m n : ℕ) → Conflict run.points m n → Chain (Either (ProgramOrder run.points) Pair) m n)
      → (m n : ℕ) → IsEdge run.points m n → Pair m n

  least_so : (Pair : ℕ → ℕ → ℕ → ℕ → Type 0) → EdgesNeeded (ConflictingPair run.points Pair) → OrderConflicts run.points Pair → (h i g j : ℕ) → EdgeAmong run.stream h i g j → Pair h i g j
  least_so Pair law so h i g j among =
      let s = edge_stands h i g j among in
      let names = names_at s in
      subst₂ (λ (a b : ℕ × ℕ). Pair a.0 a.1 b.0 b.1) names.0 names.1 (law (λ m n x. x.0) order s.first s.second s.pair).1
    where
      stand : (h i g j : ℕ) → Pair h i g j → Stands by run.points up (ConflictingPair run.points Pair) h i g j
      stand h i g j x =
          let k = conflict_stands by run.points up h i g j (so.are h i g j x) in
          let names = names_at k in
          record {
            first = k.first;
            second = k.second;
            p = k.p;
            q = k.q;
            p_at = k.p_at;
            q_at = k.q_at;
            p_hart = k.p_hart;
            p_count = k.p_count;
            q_hart = k.q_hart;
            q_count = k.q_count;
            pair = (k.pair, subst₂ (λ (a b : ℕ × ℕ). Pair a.0 a.1 b.0 b.1) (sym names.0) (sym names.1) x);
          }

      order : (m n : ℕ) → Conflict run.points m n → Chain (Either (ProgramOrder run.points) (ConflictingPair run.points Pair)) m n
      order m n k =
          places_lead by run.points up stand (so.order k.first.hart k.first.count k.second.hart k.second.count (conflict_at by run.points up m n k))
          m n k.first k.second k.first_at k.second_at refl (omega arith) refl (omega arith)

  pub least_set : ((points : List Point) (m n : ℕ) → Conflict points m n → Chain (Either (ProgramOrder points) (IsEdge points)) m n)
      → (Name : Type 0) (Pair : Name → ℕ → ℕ → ℕ → ℕ → Type 0) → ((of : Name) → EdgesNeeded (ConflictingPair run.points (Pair of))) → HasLeastEdges Name Pair c run
  least_set order Name Pair law = record { order = ordered_so order; least = λ of. least_so (Pair of) (law of) }
