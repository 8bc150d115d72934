-- The laws of a run's edges.
use Rattle.race_log.proofs.Common.{◌≡◌, ℕ, true, false, not, ◌&&◌, ◌⊎◌, refl, inl, inr, sym, ◌∙◌, ap, List, slice_get, Some, Point, IsConflict, IsSameHart, AtPlaces, ProgramOrder, Conflict, Either, Chain, Before, IsEdge, OtherThan, either, any_below, conflict, program_order, before, edge}
use Rattle.race_log.proofs.BoolFacts.{and_left, and_right, both, or_split, or_first, or_second, known, not_true, true_not, some_below, below_some}
use Rattle.race_log.proofs.Agree.{order_is, is_order, clash_is, is_clash}
use Rattle.race_log.proofs.Chains.{Rises, chain_rises, chain_map, leads_chain, chain_leads, steps_rise, pair_needed, conflict_led}

pub places_rise : (Related : Point → Point → Type 0) (run : List Point) → Rises (AtPlaces Related run)
places_rise Related run m n a = a.earlier

-- there is one point at a place
pub one_point : (run : List Point) (m : ℕ) (p q : Point) → slice_get run m ≡ Some p → slice_get run m ≡ Some q → p ≡ q
one_point run m p q e f = cc

pub orders_apart : (run : List Point) (m n : ℕ) → Conflict run m n → ProgramOrder run m n → ⊥
orders_apart run m n c o =
    let first = ap (λ (x : Point). x.hart) (one_point run m c.first o.first c.first_at o.first_at) in
    let second = ap (λ (x : Point). x.hart) (one_point run n c.second o.second c.second_at o.second_at) in
    c.related.apart (first ∙ (o.related ∙ sym second))

pub all_rise : (run : List Point) → Rises (Either (ProgramOrder run) (Conflict run))
all_rise run = steps_rise (ProgramOrder run) (Conflict run) (places_rise IsSameHart run) (places_rise IsConflict run) (orders_apart run)

step_is : (run : List Point) (m n : ℕ) → either (program_order run) (conflict run) m n ≡ true → Either (ProgramOrder run) (Conflict run) m n
step_is run m n h = elim (or_split (program_order run m n) (conflict run m n) h) [
  | inl o ↦ inl (order_is run m n o)
  | inr c ↦ inr (clash_is run m n c)
]

is_step : (run : List Point) (m n : ℕ) → Either (ProgramOrder run) (Conflict run) m n → either (program_order run) (conflict run) m n ≡ true
is_step run m n (inl o) = or_first (program_order run m n) (conflict run m n) (is_order run m n o)
is_step run m n (inr c) = or_second (program_order run m n) (conflict run m n) (is_clash run m n c)

pub before_is : (run : List Point) (m n : ℕ) → before run m n ≡ true → Before run m n
unfolding before
before_is run m n h = chain_map (step_is run) (leads_chain (either (program_order run) (conflict run)) m n n h)

pub is_before : (run : List Point) (m n : ℕ) → Before run m n → before run m n ≡ true
unfolding before
is_before run m n c = chain_leads (either (program_order run) (conflict run)) (λ a b s. all_rise run a b (step_is run a b s)) (chain_map (is_step run) c)

pub edge_is : (run : List Point) (m n : ℕ) → edge run m n ≡ true → IsEdge run m n
unfolding edge
edge_is run m n h = record {
  conflicts = clash_is run m n (and_left (conflict run m n) (not (any_below (λ k. before run m k && before run k n) n)) h);
  no_third = λ k c d. not_true (any_below (λ k. before run m k && before run k n) n)
      (and_right (conflict run m n) (not (any_below (λ k. before run m k && before run k n) n)) h)
      (below_some (λ k. before run m k && before run k n) n k (chain_rises (all_rise run) d)
      (both (before run m k) (before run k n) (is_before run m k c) (is_before run k n d)));
}

third_of : (run : List Point) (m n : ℕ) → any_below (λ k. before run m k && before run k n) n ≡ true
    → (k : ℕ) × Before run m k × Before run k n
third_of run m n h =
    let t = some_below (λ k. before run m k && before run k n) n h in (
      t.0,
      before_is run m t.0 (and_left (before run m t.0) (before run t.0 n) t.2),
      before_is run t.0 n (and_right (before run m t.0) (before run t.0 n) t.2),
    )

pub is_edge : (run : List Point) (m n : ℕ) → IsEdge run m n → edge run m n ≡ true
unfolding edge
is_edge run m n e = both (conflict run m n) (not (any_below (λ k. before run m k && before run k n) n)) (is_clash run m n e.conflicts)
    (true_not (any_below (λ k. before run m k && before run k n) n) (λ h. let t = third_of run m n h in e.no_third t.0 t.1 t.2))

clear_edge : (run : List Point) (m n : ℕ) → Conflict run m n → any_below (λ k. before run m k && before run k n) n ≡ false → edge run m n ≡ true
unfolding edge
clear_edge run m n c h = both (conflict run m n) (not (any_below (λ k. before run m k && before run k n) n)) (is_clash run m n c) (rw h)

edge_or_third : (run : List Point) (m n : ℕ) → Conflict run m n → IsEdge run m n ⊎ ((k : ℕ) × Before run m k × Before run k n)
edge_or_third run m n c = elim (known (any_below (λ k. before run m k && before run k n) n)) [
  | inl h ↦ inr (third_of run m n h)
  | inr h ↦ inl (edge_is run m n (clear_edge run m n c h))
]

-- a chain of program order and edges leads along each conflict
pub edges_lead : (run : List Point) (m n : ℕ) → Conflict run m n → Chain (Either (ProgramOrder run) (IsEdge run)) m n
edges_lead run m n c = conflict_led (ProgramOrder run) (Conflict run) (places_rise IsSameHart run) (places_rise IsConflict run) (orders_apart run)
    (IsEdge run) (edge_or_third run) m n c

-- any pairs whose chains order the conflicts have each edge
pub edges_needed : (run : List Point) (Pair : ℕ → ℕ → Type 0) → ((a b : ℕ) → Pair a b → Conflict run a b)
    → ((a b : ℕ) → Conflict run a b → Chain (Either (ProgramOrder run) Pair) a b)
    → (m n : ℕ) → IsEdge run m n → Pair m n
edges_needed run Pair are order m n e =
    pair_needed (ProgramOrder run) (Conflict run) (places_rise IsSameHart run) (places_rise IsConflict run) (orders_apart run)
    Pair are m n e.conflicts e.no_third (order m n e.conflicts)

-- no edge follows from program order and the others
pub edge_stands_alone : (run : List Point) (m n : ℕ) → IsEdge run m n
    → Chain (Either (ProgramOrder run) (OtherThan m n (IsEdge run))) m n → ⊥
edge_stands_alone run m n e c =
    let has = pair_needed (ProgramOrder run) (Conflict run) (places_rise IsSameHart run) (places_rise IsConflict run) (orders_apart run)
    (OtherThan m n (IsEdge run)) (λ a b k. k.0.conflicts) m n e.conflicts e.no_third c in
    has.1 (refl, refl)
