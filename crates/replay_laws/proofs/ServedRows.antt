-- The rows of an interval over a list of moves whose asks are orderly, until there are none any more.
use Rattle.replay_laws.proofs.Common.{◌≡◌, ℕ, ◌<◌, ◌≤◌, Bool, true, false, ◌&&◌, List, [], ◌∷◌, ◌++◌, refl, sym, ◌∙◌, ap, arith, subst, inl, inr, ◌==◌, Some, false≢true, eq-eqb, eqb_tells, Program, Row, RawSettings, Hart, TurnEnd, GoesOn, RunOver, Run, other_after, ne_eqb, and_right, and_left, and_from}
use Rattle.replay_laws.proofs.Coming.{IsServed, equal_flip}
use Rattle.replay_laws.proofs.Counts.{Move, Moves, moved_run, next_by, own_harts, other_harts}
use Rattle.replay_laws.proofs.Lengths.{rows_by}

-- a move's rows before more, if it is one of the interval
abbrev pub rows_if : Bool → List Row → List Row → List Row
rows_if x now more = elim x [ true ↦ now ++ more | false ↦ more ]

-- the rows of hart h in its interval n
abbrev pub served_rows : RawSettings → Program → Run → List Move → ℕ → ℕ → List Row
served_rows c i run [] h n = []
served_rows c i run (Moves guard k ∷ ks) h n = rows_if (k == h && ((run.harts h).number == n)) (rows_by c i guard run h) (served_rows c i (moved_run c i guard run k) ks h n)

pub rows_skip : (c : RawSettings) (i : Program) (guard : Bool) (run : Run) (ks : List Move) (h k n : ℕ) → (k == h && ((run.harts h).number == n)) ≡ false
    → served_rows c i run (Moves guard k ∷ ks) h n ≡ served_rows c i (moved_run c i guard run k) ks h n
rows_skip c i guard run ks h k n e = ap (λ x. rows_if x (rows_by c i guard run h) (served_rows c i (moved_run c i guard run k) ks h n)) e

pub rows_own : (c : RawSettings) (i : Program) (guard : Bool) (run : Run) (ks : List Move) (h : ℕ)
    → served_rows c i run (Moves guard h ∷ ks) h (run.harts h).number ≡ rows_by c i guard run h ++ served_rows c i (moved_run c i guard run h) ks h (run.harts h).number
rows_own c i guard run ks h =
    ap (λ x. rows_if x (rows_by c i guard run h) (served_rows c i (moved_run c i guard run h) ks h (run.harts h).number))
    (and_from (h == h) ((run.harts h).number == (run.harts h).number) (eq-eqb h h refl) (eq-eqb (run.harts h).number (run.harts h).number refl))

-- all rows of hart h
abbrev pub served_all : RawSettings → Program → Run → List Move → ℕ → List Row
served_all c i run [] h = []
served_all c i run (Moves guard k ∷ ks) h = rows_if (k == h) (rows_by c i guard run h) (served_all c i (moved_run c i guard run k) ks h)

pub all_skip : (c : RawSettings) (i : Program) (guard : Bool) (run : Run) (ks : List Move) (h k : ℕ) → (k == h) ≡ false
    → served_all c i run (Moves guard k ∷ ks) h ≡ served_all c i (moved_run c i guard run k) ks h
all_skip c i guard run ks h k e = ap (λ x. rows_if x (rows_by c i guard run h) (served_all c i (moved_run c i guard run k) ks h)) e

pub all_own : (c : RawSettings) (i : Program) (guard : Bool) (run : Run) (ks : List Move) (h : ℕ)
    → served_all c i run (Moves guard h ∷ ks) h ≡ rows_by c i guard run h ++ served_all c i (moved_run c i guard run h) ks h
all_own c i guard run ks h = ap (λ x. rows_if x (rows_by c i guard run h) (served_all c i (moved_run c i guard run h) ks h)) (eq-eqb h h refl)

-- ---- the number of a hart's interval never falls

number_own : (n : TurnEnd) (c : RawSettings) (i : Program) (guard : Bool) (run : Run) (h : ℕ) → next_by c i guard run h ≡ n → (run.harts h).number ≤ ((moved_run c i guard run h).harts h).number
number_own GoesOn c i guard run h e = subst (λ (x : Hart). (run.harts h).number ≤ x.number) (sym (own_harts c i guard run h GoesOn e)) (omega arith)
number_own n c i guard run h e = subst (λ (y : Hart). (run.harts h).number ≤ y.number) (sym (own_harts c i guard run h n e)) (omega arith)

-- a hart that the run's end stops
abbrev stopped_if : Bool → Hart → Hart
stopped_if x t = elim x [ true ↦ record t { live = false; mark = Some (record { ic = t.state.ic; reason = 5; value = 0 }) } | false ↦ t ]

stopped_number : (x : Bool) (t : Hart) → (stopped_if x t).number ≡ t.number
stopped_number true t = refl
stopped_number false t = refl

stopped_live : (x : Bool) (t : Hart) → t.live ≡ x → (stopped_if x t).live ≡ false
stopped_live true t e = refl
stopped_live false t e = e

pub number_of : (n : TurnEnd) (t : Hart) → (other_after n t).number ≡ t.number
number_of (RunOver r x) t = stopped_number t.live t
number_of n t = refl

pub number_up : (c : RawSettings) (i : Program) (guard : Bool) (run : Run) (h k : ℕ) → (run.harts h).number ≤ ((moved_run c i guard run k).harts h).number
number_up c i guard run h k = elim (eqb_tells k h) [
  | inl p ↦ subst (λ (j : ℕ). (run.harts h).number ≤ ((moved_run c i guard run j).harts h).number) (sym p.1) (number_own (next_by c i guard run h) c i guard run h refl)
  | inr p ↦ (let e : ((moved_run c i guard run k).harts h).number ≡ (run.harts h).number = ap (λ (x : Hart). x.number)
      (other_harts c i guard run h k (next_by c i guard run k) refl (equal_flip k h p.1)) ∙ number_of (next_by c i guard run k) (run.harts h) in omega (arith, e))
]

-- ---- no rows after an interval's end

pub gone_rows : (c : RawSettings) (i : Program) (h n : ℕ) (ks : List Move) (run : Run) → n < (run.harts h).number → served_rows c i run ks h n ≡ []
gone_rows c i h n [] run b = refl
gone_rows c i h n (Moves guard k ∷ ks) run b =
    let up = number_up c i guard run h k in
    rows_skip c i guard run ks h k n (and_right (k == h) ((run.harts h).number == n) (ne_eqb (run.harts h).number n (λ q. absurd (omega arith)))) ∙ gone_rows c i h n ks
    (moved_run c i guard run k) (omega (arith, up))

pub over_live : (r x : ℕ) (t : Hart) → (other_after (RunOver r x) t).live ≡ false
over_live r x t = stopped_live t.live t refl

pub dead_of : (n : TurnEnd) (t : Hart) → t.live ≡ false → (other_after n t).live ≡ false
dead_of (RunOver r x) t e = over_live r x t
dead_of n t e = e

pub dead_rows : (c : RawSettings) (i : Program) (h n : ℕ) (ks : List Move) (run : Run) → (run.harts h).live ≡ false → IsServed c i run ks → served_rows c i run ks h n ≡ []
dead_rows c i h n [] run e l = refl
dead_rows c i h n (Moves guard k ∷ ks) run e l = elim (eqb_tells k h) [
  | inl p ↦ absurd (false≢true (sym e ∙ (ap (λ x. (run.harts x).live) (sym p.1) ∙ l.1)))
  | inr p ↦ rows_skip c i guard run ks h k n (and_left (k == h) ((run.harts h).number == n) p.0) ∙ dead_rows c i h n ks (moved_run c i guard run k)
      (ap (λ (x : Hart). x.live) (other_harts c i guard run h k (next_by c i guard run k) refl (equal_flip k h p.1)) ∙ dead_of (next_by c i guard run k) (run.harts h) e) l.2
]
