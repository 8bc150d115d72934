-- The lists of schedules.
use Rattle.whole_runs.proofs.Common.{◌≡◌, ℕ, zero, suc, ◌-◌, ◌<◌, ◌≤◌, Bool, true, false, ◌&&◌, ◌==◌, nat_lt, List, [], ◌∷◌, ◌++◌, length, length-append, refl, sym, ◌∙◌, ap, subst, arith, inl, inr, Some, Program, RawSettings, Hart, Run, turn, run_from, legal_from, is_live, any_live, live_harts, draw, chosen, seeded_from, most_turns, first_run, list_run, without, RunsEnd, current, drawn_from, taker, after, Drawing, legal_prefix, legal_prefix_from, ScheduledListsEnd}
use Rattle.bn_outside.specs.declared.schedule.Manner.{Manner}
use Rattle.bn_outside.specs.declared.schedule.Manner.TheVariants.{Bursts, Sleeper}
use Rattle.bn_outside.specs.declared.schedule.Schedule.TheVariants.{Drawn, Listed}
use Rattle.bus_core.proofs.Rows.{second_of}
use Rattle.run_laws.proofs.Converse.{lists_go_on}
use Rattle.whole_runs.specs.Drawn.{or_else}
use Rattle.whole_runs.proofs.Rows.{legal_cons}
use Rattle.whole_runs.proofs.Live.{decide, any_first, chosen_live}
use Rattle.whole_runs.proofs.Draws.{current_same, current_other, drawn_first, drawn_none}
use Rattle.whole_runs.proofs.Follows.{prefix_live, prefix_over}
use Rattle.whole_runs.proofs.Seeds.{IsSpent, spent_more, over_by, seeded_legal, seeded_spent}

-- ---- whoever takes a turn is live

-- a hart that is live though another is taken for one that isn't
without_live : (harts : ℕ → Hart) (k j : ℕ) → (without (Some k) harts j).live ≡ true → (harts j).live ≡ true
without_live harts k j e = by (j == k) _ (harts j) refl e
  where
    by : (b : Bool) (over own : Hart) → over.live ≡ false → (elim b as (λ z. Hart) [ true ↦ over | false ↦ own ]).live ≡ true → own.live ≡ true
    by true over own dead live = absurd cc
    by false over own dead live = live

awake_live : (c : RawSettings) (run : Run) (k x : ℕ) → is_live c (record run { harts = without (Some k) run.harts }) x ≡ true → is_live c run x ≡ true
awake_live c run k x e = by (nat_lt x c.harts) (without (Some k) run.harts x).live (run.harts x).live e (without_live run.harts k x)
  where
    by : (a b d : Bool) → (a && b) ≡ true → (b ≡ true → d ≡ true) → (a && d) ≡ true
    by true b d e f = f e
    by false b d e f = e

taker_live : (m : Manner) (c : RawSettings) (run : Run) (d : Drawing) → any_live c.harts run.harts ≡ true → is_live c run (taker m c run (current m c run d)) ≡ true
taker_live Bursts c run d any = elim (decide (nat_lt 0 d.left && is_live c run d.hart)) [
  | inl p ↦ subst (λ (x : Drawing). is_live c run x.hart ≡ true) (current_same Bursts c run d p) (second_of (nat_lt 0 d.left) (is_live c run d.hart) p)
  | inr p ↦ subst (λ (x : Drawing). is_live c run x.hart ≡ true) (current_other Bursts c run d p) (chosen_live c run (draw d.number) any)
]
taker_live Sleeper c run d any =
    let now = current Sleeper c run d in
    by now.hart (draw now.number) (live_harts 0 c.harts (without (Some now.hart) run.harts)) refl
  where
    by : (k s : ℕ) (others : List ℕ) → live_harts 0 c.harts (without (Some k) run.harts) ≡ others → is_live c run (chosen s (or_else others (live_harts 0 c.harts run.harts))) ≡ true
    by k s [] e = chosen_live c run s any
    by k s (x ∷ xs) e =
        let awake = record run { harts = without (Some k) run.harts } in
        let some : 0 < length (live_harts 0 c.harts (without (Some k) run.harts)) = omega (arith, ap (λ (ks : List ℕ). length ks) e) in
        subst (λ (ks : List ℕ). is_live c run (chosen s ks) ≡ true) e
        (awake_live c run k (chosen s (live_harts 0 c.harts (without (Some k) run.harts))) (chosen_live c awake s (any_first c.harts (without (Some k) run.harts) some)))

-- ---- lists that a number draws

drawn_legal : (m : Manner) (c : RawSettings) (i : Program) (run : Run) (d : Drawing) (n : ℕ) → legal_from c i run (drawn_from m c i run d n) ≡ true
drawn_legal m c i run d zero = refl
drawn_legal m c i run d (suc n) =
    let now = current m c run d in
    let k = taker m c run now in
    elim (decide (any_live c.harts run.harts)) [
      | inl p ↦ subst (λ (xs : List ℕ). legal_from c i run xs ≡ true) (sym (drawn_first m c i run d n p))
          (legal_cons c i run k (drawn_from m c i (turn c i run k) (after m now) n) (taker_live m c run d p) (drawn_legal m c i (turn c i run k) (after m now) n))
      | inr p ↦ subst (λ (xs : List ℕ). legal_from c i run xs ≡ true) (sym (drawn_none m c i run d (suc n) p)) refl
    ]

drawn_spent : (m : Manner) (c : RawSettings) (i : Program) (run : Run) (d : Drawing) (n : ℕ) → IsSpent c i run n (drawn_from m c i run d n)
unfolding IsSpent
drawn_spent m c i run d zero = inr refl
drawn_spent m c i run d (suc n) =
    let now = current m c run d in
    let k = taker m c run now in
    elim (decide (any_live c.harts run.harts)) [
      | inl p ↦ subst (λ (xs : List ℕ). IsSpent c i run (suc n) xs) (sym (drawn_first m c i run d n p))
          (spent_more c i run n k (drawn_from m c i (turn c i run k) (after m now) n) (drawn_spent m c i (turn c i run k) (after m now) n))
      | inr p ↦ subst (λ (xs : List ℕ). IsSpent c i run (suc n) xs) (sym (drawn_none m c i run d (suc n) p)) (inl p)
    ]

-- ---- lists that are followed

prefix_legal : (c : RawSettings) (i : Program) (run : Run) (b : List ℕ) → legal_from c i run (legal_prefix_from c i run b) ≡ true
prefix_legal c i run [] = refl
prefix_legal c i run (k ∷ ks) = elim (decide (is_live c run k)) [
  | inl p ↦ subst (λ (xs : List ℕ). legal_from c i run xs ≡ true) (sym (prefix_live c i run k ks p)) (legal_cons c i run k (legal_prefix_from c i (turn c i run k) ks) p (prefix_legal c i (turn c i run k) ks))
  | inr p ↦ subst (λ (xs : List ℕ). legal_from c i run xs ≡ true) (sym (prefix_over c i run k ks p)) refl
]

-- turns that are spent after others, and those too, if there aren't too many of them
spent_after : (c : RawSettings) (i : Program) (run : Run) (n : ℕ) (first more : List ℕ) → length first ≤ n → IsSpent c i (run_from c i run first) (n - length first) more → IsSpent c i run n (first ++ more)
unfolding IsSpent
spent_after c i run n first more few (inl p) = inl (ap (λ (r : Run). any_live c.harts r.harts) (lists_go_on.run c i run first more) ∙ p)
spent_after c i run n first more few (inr p) = inr (omega (arith, few, p, length-append first more))

-- ---- the list of a schedule

pub scheduled_ends : RunsEnd → ScheduledListsEnd
scheduled_ends ends (Drawn manner number) b setting =
    let c = b.settings in
    let i = b.image in
    let d : Drawing = record { hart = 0; left = 0; number = number } in
    let list = drawn_from manner c i (first_run b) d (most_turns c) in
    let legal = drawn_legal manner c i (first_run b) d (most_turns c) in
    (legal, over_by ends c i b.input list setting legal (drawn_spent manner c i (first_run b) d (most_turns c)))
scheduled_ends ends (Listed given) b setting =
    let c = b.settings in
    let i = b.image in
    let first = legal_prefix b given.now in
    let run = list_run b first in
    let more = seeded_from c i run 0 (most_turns c - length first) in
    let legal = prefix_legal c i (first_run b) given.now in
    let all = lists_go_on.legal c i (first_run b) first more legal (seeded_legal c i run 0 (most_turns c - length first)) in
    let few = ends c i b.input first setting legal in
    (all, over_by ends c i b.input (first ++ more) setting all (spent_after c i (first_run b) (most_turns c) first more few (seeded_spent c i run 0 (most_turns c - length first))))
