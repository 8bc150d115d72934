use Rattle.joint_laws.proofs.Common.{◌≡◌, ℕ, zero, suc, ◌+◌, ◌<◌, ◌≤◌, inl, inr, refl, subst, arith, List, [], ◌∷◌, slice_get, Option, Some, None, eqb_tells, Program, Record, Interval, interval_of, replayed, IsInOrder, Point, OfLists, IsSinceHeader, HasOrder, OrdersConflicts, ReplayedAreSinceHeaders, intervals_in, with_cursor, cursors_of, lane_of, lanes_from, InCursors, ChainsAreKept, Leads, IsLeft, one as lead_one, ChainsLead, points_of, OfBeginnings, BeginsSound, KeepsOrder, pair_at, Did, IsToDo, Walk, Lane, StepsPass, SoundnessStays, StandsInOrder, Recording, Allowed, OfWholeOrders, begin}
use Rattle.joint_laws.proofs.Once.{IsDoneOnce, done_once}
use Rattle.joint_laws.proofs.Rows.{all_done, nothing_comes}
use Rattle.joint_laws.proofs.the_race_order_is_kept.Goals as goal

-- Race order: chains of the run, in allowed orders.
-- an instruction that is to do is of an interval that can be replayed
found : (i : Program) (records : List Record) (h : ℕ) (ns : List ℕ) (k : ℕ) → InCursors (cursors_of i records h ns) k → (n : ℕ) × (v : Interval) × (interval_of h n records ≡ Some v) × (v.start.ic ≤ k)
found i records h [] k e = absurd e
found i records h (n ∷ ns) k e = by (interval_of h n records) refl e (found i records h ns k)
  where
    by : (o : Option Interval) → interval_of h n records ≡ o → InCursors (with_cursor o n (replayed i records h n) (cursors_of i records h ns)) k
        → (InCursors (cursors_of i records h ns) k → (n : ℕ) × (v : Interval) × (interval_of h n records ≡ Some v) × (v.start.ic ≤ k)) → (n : ℕ) × (v : Interval) × (interval_of h n records ≡ Some v) × (v.start.ic ≤ k)
    by None is e rest = rest e
    by (Some v) is e rest = (n, v, is, e.0)

-- and of its hart's own lane
own_lane : (i : Program) (records : List Record) (n k h c : ℕ) → IsLeft (slice_get (lanes_from i records k n) h) c → InCursors (lane_of i records (k + h)).cursors c
own_lane i records zero k h c e = absurd e
own_lane i records (suc n) k zero c e = let same : k ≡ k + 0 = omega arith in subst (λ m. InCursors (lane_of i records m).cursors c) same e
own_lane i records (suc n) k (suc h) c e = let same : k + 1 + h ≡ k + suc h = omega arith in subst (λ m. InCursors (lane_of i records m).cursors c) same (own_lane i records n (k + 1) h c e)

keeps_order : BeginsSound → ChainsAreKept → OfLists HasOrder → OfLists OrdersConflicts → ReplayedAreSinceHeaders → ChainsLead → OfBeginnings KeepsOrder
keeps_order starts chains in_order conflicts since leads r records order w log b word m n y c retained did =
    let p : Point = c.first in
    let q : Point = c.second in
    let setting = log.recording.setting in
    let sound = starts r records log in
    let points_in_order : IsInOrder (points_of r) = in_order r.settings r.program r.input r.turns setting log.recording.legal in
    let is_since : IsSinceHeader records (points_of r) m =
    (let lane = own_lane r.program records r.settings.harts 0 p.hart p.count retained in
    let same : 0 + p.hart ≡ p.hart = omega arith in
    let f = found r.program records p.hart (intervals_in p.hart records) p.count (subst (λ h. InCursors (lane_of r.program records h).cursors p.count) same lane) in
    since records (points_of r) p.hart f.0 f.1 f.2 m p c.first_at refl f.3) in
    let chain : Leads records p.hart p.count q.hart q.count = elim (eqb_tells p.hart q.hart) [
      | inl same ↦ lead_one (inl (same.1, pair_at (λ a b. a.hart ≡ b.hart → a.count < b.count) (points_of r) m n p q points_in_order.counts c.earlier c.first_at c.second_at same.1))
      | inr apart ↦ leads records (points_of r) m n p q points_in_order
          (conflicts r.settings r.program r.input r.turns setting log.recording.legal records log.end m n is_since (record { earlier = c.earlier; first = p; second = q; first_at = c.first_at; second_at = c.second_at; related = record { apart = apart.1; word = word; meet = c.related } }))
          c.first_at c.second_at
    ] in
    chains r.program r.settings.harts records order w sound b y q.hart q.count did p.hart p.count chain retained

-- ---- in whole allowed orders

-- at the end nothing is to do
none_left : (r : Recording) (records : List Record) (order : List ℕ) (w : Walk) → Allowed r records order w → (h k : ℕ) → IsToDo w.now h k → ⊥
none_left r records order w a h k t = by (slice_get w.now.lanes h) (λ lane at. nothing_comes lane.points lane.cursors (all_done w.now.records w.now.lanes w.now.lanes 0 a.whole h lane at)) t
  where
    by : (o : Option Lane) → ((lane : Lane) → o ≡ Some lane → lane.cursors ≡ []) → IsLeft o k → ⊥
    by None none l = l
    by (Some lane) none l = subst (λ cs. InCursors cs k) (none lane refl) l

-- so all that was to do was done
was_done : (r : Recording) (records : List Record) (order : List ℕ) (w : Walk) → Allowed r records order w → IsDoneOnce (begin r records) w → (h k : ℕ) → IsToDo (begin r records) h k → (x : ℕ) × Did w.taken x h k
was_done r records order w a once h k t = elim (once.left h k t) [ inl d ↦ d | inr l ↦ absurd (none_left r records order w a h k l) ]

stands_in_order : StepsPass → SoundnessStays → BeginsSound → OfBeginnings KeepsOrder → OfWholeOrders StandsInOrder
stands_in_order pass stay starts keeps r records order w log a = record {
  done = λ h k t. was_done r records order w a once h k t;
  once = once.once;
  order = λ word m n c kept_p kept_q.
      (let y = was_done r records order w a once c.second.hart c.second.count kept_q in
      let x = keeps r records order w log a.begun word m n y.0 c kept_p y.1 in
      (x.0, y.0, x.1, y.1, x.2));
}
  where
    once : IsDoneOnce (begin r records) w
    once = done_once pass stay r records order w (starts r records log) a.begun

pub returns-clause-begun : goal.returns-clause-begun
returns-clause-begun c = keeps_order c.joint_replays_begin_sound.ensures c.chains_are_kept.ensures c.points_are_in_order.ensures.turns c.kept_edges_order_conflicts.ensures.turns c.replayed_points_are_since_headers.ensures c.chains_lead.ensures

pub returns-clause-whole : goal.returns-clause-whole
returns-clause-whole c =
    stands_in_order c.steps_pass_their_points.ensures c.soundness_stays.ensures c.joint_replays_begin_sound.ensures
    (keeps_order c.joint_replays_begin_sound.ensures c.chains_are_kept.ensures c.points_are_in_order.ensures.turns c.kept_edges_order_conflicts.ensures.turns c.replayed_points_are_since_headers.ensures c.chains_lead.ensures)
