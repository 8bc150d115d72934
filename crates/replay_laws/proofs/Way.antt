-- The replay of an interval goes through a turn's quiet instructions, and gives their rows.
use Rattle.replay_laws.proofs.Common.{◌≡◌, ℕ, zero, suc, ◌+◌, ◌-◌, ◌<◌, ◌≤◌, ◌^◌, Bool, true, false, List, [], ◌∷◌, ◌++◌, None, refl, ◌∙◌, ap, arith, inl, inr, ◌⊎◌, Program, Row, RawSettings, HartState, Step, Quiet, Asks, ask_of, step, count_up, is_cut, passes, orderly, Ask, Want, Cut, ExitsAloneEnd, row_of, known, Interval, Position, Replayed, Next, steps, finish, ask_step, onto, On, Stop, quiet_rows}

-- what is known of the program's steps and of the settings
pub record Sound (c : RawSettings) (i : Program) : Type 0 where
  pub counts : (s t : HartState) → step i s ≡ Quiet t → t.ic ≡ count_up s.ic
  pub passing : (s : HartState) (w : Want) → step i s ≡ Asks w → (is_cut w ≡ false) × (passes i w ≡ true)
  pub orderly : (n : ℕ) (s : HartState) → s.ic + n < 2 ^ 64 → orderly i s.ic n (ask_of i n s) ≡ true
  pub limit : c.limit < 2 ^ 63
  pub exits : ExitsAloneEnd

-- p with another state, rows and flag
abbrev pub moved : Position → HartState → List Row → Bool → Position
moved p t rows called = record { state = t; loads = p.loads; conditionals = p.conditionals; rows = rows; called = called }

-- from p the replay comes by quiet instructions, with rows qs, to state t
pub record Way (i : Program) (h : ℕ) (v : Interval) (p : Position) (t : HartState) (qs : List Row) : Type 0 where
  pub rows_now : List Row
  pub called_now : Bool
  pub walks : (m : ℕ) → steps i h v (t.ic - p.state.ic + m) p ≡ steps i h v m (moved p t rows_now called_now)
  pub rows : (more : List Row) → onto rows_now more ≡ onto p.rows (qs ++ more)
  pub words : (a : ℕ) → known a rows_now ≡ known a p.rows
  pub from : p.state.ic ≤ t.ic

-- an ask that comes after at most n quiet instructions
abbrev pub Came : Program → ℕ → ℕ → Ask → Type 0
Came i from n a = ((a.want ≡ Cut) × (a.state.ic ≡ from + n)) ⊎ ((step i a.state ≡ Asks a.want) × (a.state.ic < from + n))

stay : (i : Program) (h : ℕ) (v : Interval) (p : Position) → Way i h v p p.state []
stay i h v p =
    record { rows_now = p.rows; called_now = p.called; walks = λ m. ap (λ n. steps i h v n p) (omega arith); rows = λ more. refl; words = λ a. refl; from = omega arith }

-- p after a quiet instruction to state t
abbrev quietly : Program → ℕ → Position → HartState → Position
quietly i h p t = moved p t (row_of h i p.state t None None ∷ p.rows) false

one_quiet : (i : Program) (h : ℕ) (v : Interval) (p : Position) (t : HartState) (m : ℕ) → step i p.state ≡ Quiet t
    → steps i h v (suc m) p ≡ steps i h v m (quietly i h p t)
one_quiet i h v p t m e =
    ap (λ x. elim (elim x as (λ y. Next) [ Quiet u ↦ On (quietly i h p u) | Asks k ↦ ask_step i h v p k ]) as (λ y. Replayed) [ On q ↦ steps i h v m q | Stop o ↦ finish p.rows o ]) e

further : (i : Program) (h : ℕ) (v : Interval) (p : Position) (t u : HartState) (qs : List Row) → step i p.state ≡ Quiet t → t.ic ≡ p.state.ic + 1
    → Way i h v (quietly i h p t) u qs → Way i h v p u (row_of h i p.state t None None ∷ qs)
further i h v p t u qs e c r = record {
  rows_now = r.rows_now;
  called_now = r.called_now;
  walks =
      λ m. (let n : u.ic - p.state.ic + m ≡ suc (u.ic - t.ic + m) = omega (arith, r.from) in ap (λ x. steps i h v x p) n ∙ (one_quiet i h v p t (u.ic - t.ic + m) e ∙ r.walks m));
  rows = λ more. r.rows more;
  words = λ a. r.words a;
  from = omega (arith, r.from);
}

came_on : (i : Program) (a b n : ℕ) (k : Ask) → b ≡ a + 1 → Came i b n k → Came i a (suc n) k
came_on i a b n k e (inl p) = inl (p.0, omega (arith, p.1))
came_on i a b n k e (inr p) = inr (p.0, omega (arith, p.1))

-- the way to the first ask, and how that came
abbrev Goes : Program → ℕ → Interval → ℕ → Position → Ask → List Row → Type 0
Goes i h v n p a qs = Way i h v p a.state qs × Came i p.state.ic n a

way_at : (c : RawSettings) (i : Program) (h : ℕ) (v : Interval) (n : ℕ) (p : Position) (x : Step) → Sound c i → step i p.state ≡ x → p.state.ic + suc n < 2 ^ 64
    → ((q : Position) → q.state.ic + n < 2 ^ 64 → Goes i h v n q (ask_of i n q.state) (quiet_rows h i n q.state))
    → Goes i h v (suc n) p (elim x as (λ y. Ask) [ Quiet t ↦ ask_of i n t | Asks k ↦ record { state = p.state; want = k } ])
    (elim x as (λ y. List Row) [ Quiet t ↦ row_of h i p.state t None None ∷ quiet_rows h i n t | Asks k ↦ [] ])
way_at c i h v n p (Quiet t) z e b rest =
    let up : t.ic ≡ p.state.ic + 1 = omega (arith, z.counts p.state t e) in
    let r = rest (quietly i h p t) (omega arith) in
    (further i h v p t (ask_of i n t).state (quiet_rows h i n t) e up r.0, came_on i p.state.ic t.ic n (ask_of i n t) up r.1)
way_at c i h v n p (Asks k) z e b rest = (stay i h v p, inr (e, omega arith))

-- the quiet instructions of a turn, in the replay
pub way : (c : RawSettings) (i : Program) (h : ℕ) (v : Interval) (n : ℕ) (p : Position) → Sound c i → p.state.ic + n < 2 ^ 64
    → Goes i h v n p (ask_of i n p.state) (quiet_rows h i n p.state)
way c i h v zero p z b = (stay i h v p, inl (refl, omega arith))
way c i h v (suc n) p z b = way_at c i h v n p (step i p.state) z refl b (λ q g. way c i h v n q z g)
