-- Chains of program order and kept Edges, by hart and count.
use Rattle.joint_laws.proofs.Common.{◌≡◌, ℕ, zero, suc, ◌<◌, inl, inr, refl, ap, ◌∙◌, subst, subst₂, arith, List, [], ◌∷◌, length, slice_get, slice_index_or, Some, Contains, Record, Edge, Point, IsSameHart, IsInOrder, name_of, edge_record, edge_between, KeptEdge, HasEdge, StepTo, Leads, one as lead_one, ChainsLead, pair_at}
use Rattle.race_log.specs.Netzer.{ProgramOrder, Either, Chain, one, more}
use Rattle.joint_replay.specs.Chains.{more as lead_more}
use Rattle.joint_laws.proofs.Moves.{some_is}

get_index : {X : Type 0} (xs : List X) (k : ℕ) (x d : X) → slice_get xs k ≡ Some x → slice_index_or xs k d ≡ x
get_index [] k x d e = cc
get_index (y ∷ ys) zero x d e = some_is y x (Some y) refl e
get_index (y ∷ ys) (suc k) x d e = get_index ys k x d e

abbrev pub of_edge : (ℕ → ℕ → ℕ → ℕ → ℕ) → Record → ℕ
of_edge f (Edge x y z w) = f x y z w
of_edge f r = 0

has_edge : (rs : List Record) (h ic s j k : ℕ) → k < length rs → slice_index_or rs k (Edge h ic s j) ≡ Edge h ic s j → HasEdge rs h ic s j
has_edge [] h ic s j k low e = absurd (omega arith)
has_edge (Edge a n b c ∷ rs) h ic s j zero low e = inl (ap (of_edge (λ x y z w. x)) e, ap (of_edge (λ x y z w. y)) e, ap (of_edge (λ x y z w. z)) e, ap (of_edge (λ x y z w. w)) e)
has_edge (Edge a n b c ∷ rs) h ic s j (suc k) low e = inr (has_edge rs h ic s j k (omega arith) e)
has_edge rs h ic s j zero low e = cc
has_edge (r ∷ rs) h ic s j (suc k) low e = has_edge rs h ic s j k (omega arith) e

module _ (records : List Record) (points : List Point) (order : IsInOrder points) where
  step_to : (m n : ℕ) → Either (ProgramOrder points) (KeptEdge records points) m n → (p q : Point) → slice_get points m ≡ Some p → slice_get points n ≡ Some q → StepTo records p.hart p.count q.hart q.count
  step_to m n (inl own) p q e f =
      let first : own.first ≡ p = some_is own.first p (slice_get points m) own.first_at e in
      let second : own.second ≡ q = some_is own.second q (slice_get points n) own.second_at f in
      let same : p.hart ≡ q.hart = subst₂ IsSameHart first second own.related in
      inl (same, pair_at (λ a b. a.hart ≡ b.hart → a.count < b.count) points m n p q order.counts own.earlier e f same)
  step_to m n (inr kept) p q e f =
      let is : edge_between points m n ≡ Edge q.hart q.count p.hart p.count = ap (λ o. edge_record (name_of o, name_of (slice_get points m))) f ∙ ap (λ o. edge_record ((q.hart, q.count), name_of o)) e in
      let c = subst (Contains records) is kept.kept in
      inr (has_edge records q.hart q.count p.hart p.count c.0 c.1 c.2)

  point_at : (m n : ℕ) → Either (ProgramOrder points) (KeptEdge records points) m n → (p : Point) × (slice_get points m ≡ Some p)
  point_at m n (inl own) = (own.first, own.first_at)
  point_at m n (inr kept) = (kept.edge.conflicts.first, kept.edge.conflicts.first_at)

  along : {m n : ℕ} → Chain (Either (ProgramOrder points) (KeptEdge records points)) m n → (p q : Point) → slice_get points m ≡ Some p → slice_get points n ≡ Some q → Leads records p.hart p.count q.hart q.count
  along (one {m = m} {n = n} step) p q e f = lead_one (step_to m n step p q e f)
  along (more {m = m} {k = k} {n = n} before step) p q e f = let r = point_at k n step in lead_more (along before p r.0 e r.1) (step_to k n step r.0 q r.1 f)

pub chains_lead : ChainsLead
chains_lead records points m n p q order chain e f = along records points order chain p q e f
