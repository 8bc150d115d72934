-- A row of a turn is that of a quiet instruction, or that of the ask.
use Rattle.row_laws.proofs.Common.{◌≡◌, ℕ, zero, suc, ◌≤◌, List, [], ◌∷◌, ◌++◌, length, None, refl, sym, ◌∙◌, ap, subst, inl, inr, arith, ◌⊎◌, length-append, Program, Row, RawSettings, HartState, Step, Quiet, Asks, ask_of, step, Ask, Want, Load, Reply, row_of, after_row, quiet_rows, want_rows, Run, budget, state_after, TurnHasRow, want_at, asked_at}
use Rattle.row_laws.proofs.Along.{by_step, ask_by, quiet_row, asked_rows}

pub heads : {X : Type 0} (x y : X) (xs ys : List X) → x ∷ xs ≡ y ∷ ys → x ≡ y
heads x y xs ys e = cc

pub rests : {X : Type 0} (x y : X) (xs ys : List X) → x ∷ xs ≡ y ∷ ys → xs ≡ ys
rests x y xs ys e = cc

-- the row of a quiet instruction at a state
pub record IsQuietRow (h : ℕ) (i : Program) (before : HartState) (r : Row) : Type 0 where
  pub next : HartState
  pub quiet : step i before ≡ Quiet next
  pub row : row_of h i before next None None ≡ r

-- r stands among quiet rows where the state is s, or among the rows w that follow them from the ask on
abbrev Split : ℕ → Program → Ask → HartState → Row → List Row → List Row → Type 0
Split h i a s r back w = IsQuietRow h i s r ⊎ ((more : List Row) × (s ≡ state_after i a.state more) × (w ≡ more ++ r ∷ back))

split_at : (h : ℕ) (i : Program) (n : ℕ) (s : HartState) (x : Step) (front : List Row) (r : Row) (back w : List Row) → step i s ≡ x → by_step h i n s x ++ w ≡ front ++ r ∷ back
    → ((t : HartState) (f : List Row) → quiet_rows h i n t ++ w ≡ f ++ r ∷ back → Split h i (ask_of i n t) (state_after i t f) r back w)
    → Split h i (ask_by i n s x) (state_after i s front) r back w
split_at h i n s (Quiet t) [] r back w e is rest = inl (record { next = t; quiet = e; row = heads (row_of h i s t None None) r (quiet_rows h i n t ++ w) back is })
split_at h i n s (Quiet t) (f ∷ fs) r back w e is rest =
    let same : row_of h i s t None None ≡ f = heads (row_of h i s t None None) f (quiet_rows h i n t ++ w) (fs ++ r ∷ back) is in
    let to : after_row i s f ≡ t = ap (after_row i s) (sym same) ∙ quiet_row i h s t e in
    subst (λ (u : HartState). Split h i (ask_of i n t) (state_after i u fs) r back w) (sym to)
    (rest t fs (rests (row_of h i s t None None) f (quiet_rows h i n t ++ w) (fs ++ r ∷ back) is))
split_at h i n s (Asks k) front r back w e is rest = inr (front, refl, is)

split : (h : ℕ) (i : Program) (n : ℕ) (s : HartState) (front : List Row) (r : Row) (back w : List Row) → quiet_rows h i n s ++ w ≡ front ++ r ∷ back
    → Split h i (ask_of i n s) (state_after i s front) r back w
split h i zero s front r back w is = inr (front, refl, is)
split h i (suc n) s front r back w is = split_at h i n s (step i s) front r back w refl is (λ t f g. split h i n t f r back w g)

want_short : (w : Want) (h : ℕ) (i : Program) (m : ℕ → ℕ) (s t : HartState) (r : Reply) → length (want_rows h i m w s t r) ≤ 1
want_short (Load a wd g rd) h i m s t r = omega arith
want_short w h i m s t r = omega arith

single : (w more back : List Row) (r : Row) → length w ≤ 1 → w ≡ more ++ r ∷ back → (more ≡ []) × (w ≡ r ∷ [])
single w [] [] r short e = (refl, e)
single w [] (b ∷ bs) r short e = let l : length w ≡ length (r ∷ b ∷ bs) = ap length e in absurd (omega (arith, short, l))
single w (m ∷ ms) back r short e = let l : length w ≡ length (m ∷ (ms ++ r ∷ back)) = ap length e in absurd (omega (arith, short, l, length-append ms (r ∷ back)))

-- the row of a turn's ask
pub record IsAskRow (c : RawSettings) (i : Program) (run : Run) (h : ℕ) (before : HartState) (r : Row) : Type 0 where
  pub state : before ≡ asked_at c i run h
  pub row : asked_rows c i run.machine h (want_at c i run h) (asked_at c i run h) ≡ r ∷ []

pub turn_row : (c : RawSettings) (i : Program) (run : Run) (h : ℕ) (before : HartState) (r : Row) → TurnHasRow c i run h before r → IsQuietRow h i before r ⊎ IsAskRow c i run h before r
turn_row c i run h before r has =
    let w : List Row = asked_rows c i run.machine h (want_at c i run h) (asked_at c i run h) in
    elim (split h i (budget c (run.harts h)) (run.harts h).state has.front r has.back w has.rows_are) [
      | inl q ↦ inl (subst (λ (u : HartState). IsQuietRow h i u r) (sym has.state) q)
      | inr q ↦ (let one = single w q.0 has.back r (want_short (want_at c i run h) h i run.machine.memory (asked_at c i run h) _ _) q.2 in
          inr (record { state = has.state ∙ (q.1 ∙ ap (state_after i (asked_at c i run h)) one.0); row = one.1 }))
    ]

-- and so the row of the ask is one of the turn
pub ask_row : (c : RawSettings) (i : Program) (run : Run) (h : ℕ) (r : Row)
    → state_after i (run.harts h).state (quiet_rows h i (budget c (run.harts h)) (run.harts h).state) ≡ asked_at c i run h
    → asked_rows c i run.machine h (want_at c i run h) (asked_at c i run h) ≡ r ∷ [] → TurnHasRow c i run h (asked_at c i run h) r
ask_row c i run h r to e =
    let q : List Row = quiet_rows h i (budget c (run.harts h)) (run.harts h).state in
    record { front = q; back = []; rows_are = ap (λ x. q ++ x) e; state = sym to }
