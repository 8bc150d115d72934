-- A hart's rows have its counts, one after another.
use Rattle.replay_laws.proofs.Common.{◌≡◌, ℕ, zero, suc, ◌+◌, ◌<◌, ◌^◌, Bool, true, false, List, [], ◌∷◌, ◌++◌, length, map, refl, sym, ◌∙◌, ap, arith, subst, inl, inr, ◌==◌, None, if◌then◌else◌, range_with_len, false≢true, eqb_tells, append-nil, Program, Row, RawSettings, HartState, Step, Quiet, Asks, step, Want, Cut, Reply, row_of, Hart, TurnEnd, GoesOn, NewInterval, RunOver, Run, budget, quiet_rows, want_rows}
use Rattle.replay_laws.proofs.Asked.{reply_to}
use Rattle.replay_laws.proofs.Coming.{IsServed, equal_flip}
use Rattle.replay_laws.proofs.Counts.{Fit, Move, Moves, moved_run, want_at, asked_at, next_state, next_by, state_by, own_harts, other_harts, own_fit, begun_fit}
use Rattle.replay_laws.proofs.Lengths.{extra, quiet_count, rows_by, move_count}
use Rattle.replay_laws.proofs.ServedRows.{served_all, all_skip, all_own, over_live, dead_of}
use Rattle.replay_laws.proofs.Small.{new_small}
use Rattle.replay_laws.proofs.Way.{Sound}

-- the first of the rows has that count, and each of the others one more
abbrev pub Numbered : ℕ → List Row → Type 0
Numbered from [] = Unit {0}
Numbered from (r ∷ rs) = (r.ic ≡ from) × Numbered (from + 1) rs

pub numbered_range : (from : ℕ) (rs : List Row) → Numbered from rs → map (λ r. r.ic) rs ≡ range_with_len from (length rs)
numbered_range from [] h = refl
numbered_range from (r ∷ rs) h = ap (λ n. n ∷ map (λ x. x.ic) rs) h.0 ∙ ap (λ ns. from ∷ ns) (numbered_range (from + 1) rs h.1)

numbered_append : (from to : ℕ) (rs qs : List Row) → Numbered from rs → from + length rs ≡ to → Numbered to qs → Numbered from (rs ++ qs)
numbered_append from to [] qs h e k = subst (λ n. Numbered n qs) (let z : to ≡ from = omega (arith, e) in z) k
numbered_append from to (r ∷ rs) qs h e k = (h.0, numbered_append (from + 1) to rs qs h.1 (omega (arith, e)) k)

-- ---- a move

quiet_at : (c : RawSettings) (i : Program) (h n : ℕ) (s : HartState) (x : Step) → Sound c i → step i s ≡ x → s.ic + suc n < 2 ^ 64
    → ((t : HartState) → t.ic + n < 2 ^ 64 → Numbered t.ic (quiet_rows h i n t))
    → Numbered s.ic (elim x as (λ y. List Row) [ Quiet t ↦ row_of h i s t None None ∷ quiet_rows h i n t | Asks k ↦ [] ])
quiet_at c i h n s (Quiet t) z e b rest =
    let up : t.ic ≡ s.ic + 1 = omega (arith, z.counts s t e) in
    (refl, subst (λ m. Numbered m (quiet_rows h i n t)) up (rest t (omega arith)))
quiet_at c i h n s (Asks k) z e b rest = tt

quiet_numbered : (c : RawSettings) (i : Program) (h n : ℕ) (s : HartState) → Sound c i → s.ic + n < 2 ^ 64 → Numbered s.ic (quiet_rows h i n s)
quiet_numbered c i h zero s z b = tt
quiet_numbered c i h (suc n) s z b = quiet_at c i h n s (step i s) z refl b (λ t g. quiet_numbered c i h n t z g)

want_numbered : (w : Want) (h : ℕ) (i : Program) (m : ℕ → ℕ) (s t : HartState) (r : Reply) → Numbered s.ic (want_rows h i m w s t r)
want_numbered Cut h i m s t r = tt
want_numbered w h i m s t r = (refl, tt)

turn_numbered : (c : RawSettings) (i : Program) (guard : Bool) (run : Run) (h : ℕ) → Sound c i → Fit c (run.harts h) → Numbered (run.harts h).state.ic (rows_by c i guard run h)
turn_numbered c i true run h z f = quiet_numbered c i h (budget c (run.harts h)) (run.harts h).state z (let g = f.within in let b = z.limit in omega (arith, g, b))
turn_numbered c i false run h z f =
    let t : Hart = run.harts h in
    let n : ℕ = budget c t in
    let bound : t.state.ic + n < 2 ^ 64 = (let g = f.within in let b = z.limit in omega (arith, g, b)) in
    numbered_append t.state.ic (asked_at c i run h).ic (quiet_rows h i n t.state) _ (quiet_numbered c i h n t.state z bound) (quiet_count c i h n t.state z bound)
    (want_numbered (want_at c i run h) h i run.machine.memory (asked_at c i run h) (next_state c i run h) (reply_to c i run.machine h (want_at c i run h) (asked_at c i run h)))

-- ---- over a list of moves

dead_all : (c : RawSettings) (i : Program) (h : ℕ) (ks : List Move) (run : Run) → (run.harts h).live ≡ false → IsServed c i run ks → served_all c i run ks h ≡ []
dead_all c i h [] run e l = refl
dead_all c i h (Moves guard k ∷ ks) run e l = elim (eqb_tells k h) [
  | inl p ↦ absurd (false≢true (sym e ∙ (ap (λ x. (run.harts x).live) (sym p.1) ∙ l.1)))
  | inr p ↦ all_skip c i guard run ks h k p.0 ∙ dead_all c i h ks (moved_run c i guard run k)
      (ap (λ (x : Hart). x.live) (other_harts c i guard run h k (next_by c i guard run k) refl (equal_flip k h p.1)) ∙ dead_of (next_by c i guard run k) (run.harts h) e) l.2
]

-- what is to be shown of h's rows from a run on
abbrev Goal : RawSettings → Program → ℕ → List Move → Run → Type 0
Goal c i h ks run = Numbered (run.harts h).state.ic (served_all c i run ks h)

-- a move without the row of a fault
goes_numbered : (c : RawSettings) (i : Program) (guard : Bool) (h : ℕ) (ks : List Move) (run : Run) → Sound c i → Fit c (run.harts h)
    → ((moved_run c i guard run h).harts h).state ≡ state_by c i guard run h → extra (next_by c i guard run h) ≡ 0 → Goal c i h ks (moved_run c i guard run h) → Goal c i h (Moves guard h ∷ ks) run
goes_numbered c i guard h ks run z f is none rest =
    let rows : List Row = rows_by c i guard run h in
    let turn : (run.harts h).state.ic + length rows ≡ (state_by c i guard run h).ic + extra (next_by c i guard run h) = move_count c i guard run h z f in
    let to : (run.harts h).state.ic + length rows ≡ ((moved_run c i guard run h).harts h).state.ic =
    (let e : ((moved_run c i guard run h).harts h).state.ic ≡ (state_by c i guard run h).ic = ap (λ (s : HartState). s.ic) is in omega (arith, turn, none, e)) in
    subst (Numbered (run.harts h).state.ic) (sym (all_own c i guard run ks h))
    (numbered_append (run.harts h).state.ic ((moved_run c i guard run h).harts h).state.ic rows (served_all c i (moved_run c i guard run h) ks h) (turn_numbered c i guard run h z f) to rest)

-- the last one
last_numbered : (c : RawSettings) (i : Program) (guard : Bool) (h : ℕ) (ks : List Move) (run : Run) → Sound c i → Fit c (run.harts h) → ((moved_run c i guard run h).harts h).live ≡ false
    → IsServed c i (moved_run c i guard run h) ks → Goal c i h (Moves guard h ∷ ks) run
last_numbered c i guard h ks run z f dead l =
    let rows : List Row = rows_by c i guard run h in
    let is : served_all c i run (Moves guard h ∷ ks) h ≡ rows = all_own c i guard run ks h ∙ (ap (λ x. rows ++ x) (dead_all c i h ks (moved_run c i guard run h) dead l) ∙ append-nil rows) in
    subst (Numbered (run.harts h).state.ic) (sym is) (turn_numbered c i guard run h z f)

own_numbered : (n : TurnEnd) (c : RawSettings) (i : Program) (guard : Bool) (h : ℕ) (ks : List Move) (run : Run) → Sound c i → Fit c (run.harts h) → IsServed c i (moved_run c i guard run h) ks
    → next_by c i guard run h ≡ n → (Fit c ((moved_run c i guard run h).harts h) → Goal c i h ks (moved_run c i guard run h)) → Goal c i h (Moves guard h ∷ ks) run
own_numbered GoesOn c i guard h ks run z f l e rest =
    goes_numbered c i guard h ks run z f (ap (λ (x : Hart). x.state) (own_harts c i guard run h GoesOn e)) (ap extra e) (rest (own_fit c i guard run h z e f))
own_numbered (NewInterval r x) c i guard h ks run z f l e rest =
    goes_numbered c i guard h ks run z f (ap (λ (y : Hart). y.state) (own_harts c i guard run h (NewInterval r x) e))
    (ap extra e ∙ ap (λ (b : Bool). if b then 1 else 0) (new_small c i guard run h r x e)) (rest (begun_fit c i guard run h r x z e f))
own_numbered n c i guard h ks run z f l e rest = last_numbered c i guard h ks run z f (ap (λ (y : Hart). y.live) (own_harts c i guard run h n e)) l

other_numbered : (n : TurnEnd) (c : RawSettings) (i : Program) (guard : Bool) (h k : ℕ) (ks : List Move) (run : Run) → Fit c (run.harts h) → IsServed c i (moved_run c i guard run k) ks
    → (k == h) ≡ false
    → (h == k) ≡ false → next_by c i guard run k ≡ n → (Fit c ((moved_run c i guard run k).harts h) → Goal c i h ks (moved_run c i guard run k)) → Goal c i h (Moves guard k ∷ ks) run
other_numbered n c i guard h k ks run f l p q e rest = subst (Numbered (run.harts h).state.ic) (sym (all_skip c i guard run ks h k p)) (by_next n e)
  where
    left : (moved_run c i guard run k).harts h ≡ run.harts h → Numbered (run.harts h).state.ic (served_all c i (moved_run c i guard run k) ks h)
    left is = subst (λ (x : Hart). Numbered x.state.ic (served_all c i (moved_run c i guard run k) ks h)) is (rest (subst (λ (x : Hart). Fit c x) (sym is) f))

    by_next : (y : TurnEnd) → next_by c i guard run k ≡ y → Numbered (run.harts h).state.ic (served_all c i (moved_run c i guard run k) ks h)
    by_next (RunOver r x) d =
        subst (Numbered (run.harts h).state.ic)
        (sym (dead_all c i h ks (moved_run c i guard run k) (ap (λ (y : Hart). y.live) (other_harts c i guard run h k (RunOver r x) d q) ∙ over_live r x (run.harts h)) l)) tt
    by_next y d = left (other_harts c i guard run h k y d q)

pub numbered : (c : RawSettings) (i : Program) (h : ℕ) (ks : List Move) (run : Run) → Sound c i → IsServed c i run ks → Fit c (run.harts h) → Goal c i h ks run
numbered c i h [] run z l f = tt
numbered c i h (Moves guard k ∷ ks) run z l f = elim (eqb_tells k h) [
  | inl p ↦ subst (λ (j : ℕ). IsServed c i (moved_run c i guard run j) ks → Goal c i h (Moves guard j ∷ ks) run) (sym p.1)
      (λ d. own_numbered (next_by c i guard run h) c i guard h ks run z f d refl (λ y. numbered c i h ks (moved_run c i guard run h) z d y)) l.2
  | inr p ↦ other_numbered (next_by c i guard run k) c i guard h k ks run f l.2 p.0 (equal_flip k h p.1) refl (λ y. numbered c i h ks (moved_run c i guard run k) z l.2 y)
]
