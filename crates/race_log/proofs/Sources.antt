-- Kept accesses of a new point's words, and when they are sources of edges into it.
use Rattle.race_log.proofs.Common.{◌≡◌, ◌≢◌, ℕ, ◌<◌, ◌≤◌, Bool, true, not, ◌&&◌, ◌||◌, ◌⊎◌, ◌==◌, refl, inl, inr, arith, sym, ap, ◌∙◌, List, length, slice_get, Some, nat_lt, lt-ltb, ltb-true, Point, Before, Conflict, IsEdge, one, touches, writes_word, name_of, is_of_hart, IsInOrder, UpTo, OwnUpTo, CountsOf, Kept, is_write, after, In, KeptAt, Suffices, is_source}
use Rattle.race_log.proofs.BoolFacts.{and_left, and_right, both, or_split, or_first, or_second, known, not_true, true_not, same_number, other_number}
use Rattle.race_log.proofs.Agree.{same_test}
use Rattle.race_log.proofs.Chains.{chain_rises}
use Rattle.race_log.proofs.EdgeLaws.{all_rise, orders_apart, one_point}
use Rattle.race_log.proofs.MergeLaws.{of_hart_at}
use Rattle.race_log.proofs.CountLaws.{pair_at, less_or, before_up}
use Rattle.race_log.proofs.RangeLemmas.{IsOfOneKind}
use Rattle.race_log.proofs.Next.{before_old, before_new, last_step, step_last, own_order, order_own, new_conflict, conflict_new}

pub up_join : (run : List Point) {m k n : ℕ} → UpTo run m k → UpTo run k n → UpTo run m n
up_join run (inl e) u = rw e u
up_join run (inr c) u = inr (before_up c u)

-- a kept access of one of the new point's words, at its place
pub record Candidate (run : List Point) (b : Point) (writes : Bool) (ks : List Kept) (j : ℕ) : Type 0 where
  pub access : Kept
  pub among : In ks access
  pub word : ℕ
  pub kept : KeptAt run word j access
  pub touched : touches word b ≡ true
  pub meets : (is_write access.mode || writes) ≡ true

-- the accesses are those kept of the new point's words
pub record Ready (run : List Point) (live : ℕ → Bool) (harts : ℕ) (b : Point) (ks : List Kept) : Type 0 where
  pub each : (k : Kept) → In ks k → (j : ℕ) × (w : ℕ) × KeptAt run w j k × (touches w b ≡ true)
  pub cover : (w : ℕ) → touches w b ≡ true → (vs : List Kept) × Suffices run live w vs × ((k : Kept) → In vs k → In ks k)
  pub in_order : IsInOrder run
  pub few : (m : ℕ) (p : Point) → slice_get run m ≡ Some p → p.hart < harts
  pub lives : live b.hart ≡ true

pub self_covered : (run : List Point) (w j : ℕ) (k : Kept) → KeptAt run w j k → k.ic < k.times k.hart
self_covered run w j k at = rw (at.hart, at.count) (at.times.covered j at.point at.at (inl refl))

pub same_source : (run : List Point) (w j : ℕ) (k : Kept) → KeptAt run w j k → (k.hart, k.ic) ≡ name_of (slice_get run j)
same_source run w j k at = rw at.at (λ i. (at.hart i, at.count i))

module _ (run : List Point) (b : Point) (writes : Bool) (kind : IsOfOneKind b writes) (ks : List Kept) (live : ℕ → Bool) (harts : ℕ)
    (ready : Ready run live harts b ks) where
  -- place r conflicts with the new point
  abbrev pub Clashes : ℕ → Type 0
  Clashes r = Conflict (after run b) r (length run)

  -- an edge into the new point comes from place r
  abbrev pub NewEdge : ℕ → Type 0
  NewEdge r = IsEdge (after run b) r (length run)

  -- place r is before the new point
  abbrev pub NewBefore : ℕ → Type 0
  NewBefore r = Before (after run b) r (length run)

  -- a conflicting place is, or is before, a candidate that conflicts, or one of the hart's own
  reach : (r : ℕ) → Clashes r → ((j : ℕ) × Candidate run b writes ks j × UpTo run r j × Clashes j) ⊎ OwnUpTo run b.hart r
  reach r c =
      let p = new_conflict run b r c in
      let w = kind.word p.0 p.2 in
      let v = ready.cover w.0 w.1 in
      elim (or_split (writes_word w.0 p.0) writes w.3) [
        | inl t ↦ elim (v.1.writes r p.0 p.1 t) [
          | inl a ↦ by_hart w.0 a.0 a.1 (v.2 a.1 a.2) w.1 a.3 a.4 (or_first (writes_word w.0 a.3.point) writes (sym a.3.written ∙ a.5))
          | inr all ↦ inr (all b.hart ready.lives)
        ]
        | inr t ↦ elim (v.1.accesses r p.0 p.1 w.2) [
          | inl a ↦ by_hart w.0 a.0 a.1 (v.2 a.1 a.2) w.1 a.3 a.4 (or_second (writes_word w.0 a.3.point) writes t)
          | inr all ↦ inr (all b.hart ready.lives)
        ]
      ]
    where
      by_hart : (w j : ℕ) (k : Kept) → In ks k → touches w b ≡ true → (at : KeptAt run w j k) → UpTo run r j → (writes_word w at.point || writes) ≡ true
          → ((j : ℕ) × Candidate run b writes ks j × UpTo run r j × Clashes j) ⊎ OwnUpTo run b.hart r
      by_hart w j k among in_b at up wrote = elim (known (at.point.hart == b.hart)) [
        | inl e ↦ inr (j, of_hart_at run b.hart j at.point at.at (same_number at.point.hart b.hart e), up)
        | inr e ↦ inl (
          j,
          record { access = k; among = among; word = w; kept = at; touched = in_b; meets = rw at.written wrote },
          up,
          conflict_new run b j at.point at.at (kind.conflict at.point w (other_number at.point.hart b.hart e) in_b at.touched wrote),
        )
      ]

  -- the set that the counts represent, after the sources from the bound on
  pub record Told (S : ℕ → Type 0) (bound : ℕ) : Type 0 where
    pub down : (m k : ℕ) → S k → Before run m k → S m
    pub own : (m : ℕ) → OwnUpTo run b.hart m → S m
    pub sound : (m : ℕ) → S m → OwnUpTo run b.hart m ⊎ ((k : ℕ) × (bound ≤ k) × Clashes k × UpTo run m k)
    pub passed : (k : ℕ) → Candidate run b writes ks k → Clashes k → S k ⊎ (k < bound)

  own_down : (m k : ℕ) → Before run m k → OwnUpTo run b.hart k → OwnUpTo run b.hart m
  own_down m k c o = (o.0, o.1, inr (before_up c o.2))

  -- if each candidate that conflicts is in the set or no later, one that isn't in the set is an edge's source
  pub edge_from : (S : ℕ → Type 0) (bound j : ℕ) → Told S bound → ((k : ℕ) → Candidate run b writes ks k → Clashes k → S k ⊎ (k ≤ j))
      → Clashes j → (S j → ⊥) → NewEdge j
  edge_from S bound j told no_later c fresh = record {
    conflicts = c;
    no_third = λ q before_q q_before.
        let l = last_step run b q q_before in
        let q_low : q < length run = low q l.0 l.1 l.2 in
        let to_r = before_up (before_old run b q_low before_q) l.2 in
        elim l.3 [
          | inl p ↦ fresh (told.own j (l.0, own_order run b l.0 p, inr to_r))
          | inr d ↦ elim (reach l.0 d) [
            | inl k ↦
                let on = before_up to_r k.2 in
                elim (no_later k.0 k.1 k.3) [
                  | inl s ↦ fresh (told.down j k.0 s on)
                  | inr early ↦ let up = chain_rises (all_rise run) on in absurd (omega arith)
                ]
            | inr o ↦ fresh (told.own j (own_down j l.0 to_r o))
          ]
        ];
  }
    where
      low : (q r : ℕ) → r < length run → UpTo run q r → q < length run
      low q r h (inl e) = omega arith
      low q r h (inr d) = let up = chain_rises (all_rise run) d in omega arith

  -- a place in the set isn't an edge's source below the bound
  pub not_edge : (S : ℕ → Type 0) (bound j : ℕ) → Told S bound → j < bound → S j → NewEdge j → ⊥
  not_edge S bound j told low s e = elim (told.sound j s) [
    | inl o ↦ from_own o.0 o.1 o.2
    | inr k ↦ from_kept k.0 k.1 k.2 k.3
  ]
    where
      from_own : (q : ℕ) → is_of_hart b.hart (slice_get run q) ≡ true → UpTo run j q → ⊥
      from_own q o (inl is) =
          let p = order_own run b q o in
          orders_apart (after run b) j (length run) e.conflicts (rw is p)
      from_own q o (inr c) = e.no_third q (before_new run b c) (one (inl (order_own run b q o)))

      from_kept : (k : ℕ) → bound ≤ k → Clashes k → UpTo run j k → ⊥
      from_kept k high c (inl is) = absurd (omega arith)
      from_kept k high c (inr d) = e.no_third k (before_new run b d) (one (inr c))

  pub set_before : (S : ℕ → Type 0) (bound : ℕ) → Told S bound → (m : ℕ) → S m → NewBefore m
  set_before S bound told m s = elim (told.sound m s) [
    | inl o ↦ step_last run b m o.0 o.2 (inl (order_own run b o.0 o.1))
    | inr k ↦ step_last run b m k.0 k.3 (inr k.2)
  ]

  pub before_set : (S : ℕ → Type 0) (bound : ℕ) → Told S bound → ((k : ℕ) → Candidate run b writes ks k → Clashes k → S k) → (m : ℕ) → NewBefore m → S m
  before_set S bound told all m c =
      let l = last_step run b m c in
      elim l.3 [
        | inl p ↦ told.own m (l.0, own_order run b l.0 p, l.2)
        | inr d ↦ elim (reach l.0 d) [
          | inl k ↦ to m k.0 (all k.0 k.1 k.3) (up_join run l.2 k.2)
          | inr o ↦ told.own m (o.0, o.1, up_join run l.2 o.2)
        ]
      ]
    where
      to : (m k : ℕ) → S k → UpTo run m k → S m
      to m k s (inl e) = rw e s
      to m k s (inr u) = told.down m k s u

  -- a kept access that is a source conflicts, and isn't in the set that the counts represent
  pub taken : (S : ℕ → Type 0) (counts : ℕ → ℕ) (w j : ℕ) (k : Kept) → CountsOf run S counts → KeptAt run w j k → touches w b ≡ true
      → is_source b.hart writes counts k ≡ true → Clashes j × (S j → ⊥)
  taken S counts w j k holds at in_b h =
      let first = and_left (not (k.hart == b.hart) && (is_write k.mode || writes)) (not (nat_lt k.ic (counts k.hart))) h in
      let fresh = and_right (not (k.hart == b.hart) && (is_write k.mode || writes)) (not (nat_lt k.ic (counts k.hart))) h in
      let apart = and_left (not (k.hart == b.hart)) (is_write k.mode || writes) first in
      let wrote = and_right (not (k.hart == b.hart)) (is_write k.mode || writes) first in (
        conflict_new run b j at.point at.at (kind.conflict at.point w
            (λ e. not_true (k.hart == b.hart) apart (same_test k.hart b.hart (at.hart ∙ e))) in_b at.touched (rw at.written at wrote)),
        λ s. let covered = holds.covered j at.point at.at s in
            not_true (nat_lt k.ic (counts k.hart)) fresh (rw (at.hart, at.count) (lt-ltb at.point.count (counts at.point.hart) covered)),
      )

  -- a candidate that conflicts is a source, or in the set
  pub source_or : (S : ℕ → Type 0) (counts : ℕ → ℕ) (j : ℕ) (c : Candidate run b writes ks j) → CountsOf run S counts → Clashes j
      → (is_source b.hart writes counts c.access ≡ true) ⊎ S j
  source_or S counts j c holds clash =
      let k = c.access in let at = c.kept in
      let p = new_conflict run b j clash in
      let is = one_point run j p.0 at.point p.1 at.at in
      let apart : k.hart ≢ b.hart = λ e. p.2.apart (ap (λ (x : Point). x.hart) is ∙ (sym at.hart ∙ e)) in
      elim (known (nat_lt k.ic (counts k.hart))) [
        | inl low ↦
            let less : k.ic < counts k.hart = ltb-true k.ic (counts k.hart) low in
            inr (holds.covers j at.point at.at (rw (at.hart, at.count) at less))
        | inr high ↦
            inl (both (not (k.hart == b.hart) && (is_write k.mode || writes)) (not (nat_lt k.ic (counts k.hart)))
            (both (not (k.hart == b.hart)) (is_write k.mode || writes) (true_not (k.hart == b.hart) (λ t. apart (same_number k.hart b.hart t))) c.meets) (rw high))
      ]

  -- kept places stand in the order of their turns
  pub turn_order : (w v j i : ℕ) (k o : Kept) → KeptAt run w j k → KeptAt run v i o → o.turn ≤ k.turn → i ≤ j
  turn_order w v j i k o at_k at_o low = elim (less_or j i) [
    | inl less ↦
        let up = pair_at (λ p q. p.turn < q.turn) run j i at_k.point at_o.point ready.in_order.turns less at_k.at at_o.at in
        let e = at_k.turn in let f = at_o.turn in absurd (omega arith)
    | inr no_less ↦ no_less
  ]

  -- an edge comes from a candidate, or from what the hart knows
  pub edge_kept : (e : ℕ) → NewEdge e → Candidate run b writes ks e ⊎ OwnUpTo run b.hart e
  edge_kept e d = elim (reach e d.conflicts) [
    | inl k ↦ from_kept k.0 k.1 k.2 k.3
    | inr o ↦ inr o
  ]
    where
      from_kept : (j : ℕ) → Candidate run b writes ks j → UpTo run e j → Clashes j → Candidate run b writes ks e ⊎ OwnUpTo run b.hart e
      from_kept j c (inl is) clash = inl (rw is c)
      from_kept j c (inr u) clash = absurd (d.no_third j (before_new run b u) (one (inr clash)))

  -- before the first round
  pub start_told : Told (OwnUpTo run b.hart) (length run)
  start_told = record {
    down = λ m k o c. own_down m k c o;
    own = λ m o. o;
    sound = λ m o. inl o;
    passed = λ k c clash. inr clash.earlier;
  }
