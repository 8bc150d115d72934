-- The moves of a list of turns: a guarded one is two.
use Rattle.replay_laws.proofs.Common.{◌≡◌, ℕ, zero, suc, ◌+◌, ◌<◌, ◌≤◌, Bool, true, false, ◌&&◌, List, [], ◌∷◌, ◌++◌, refl, sym, ◌∙◌, ap, arith, subst, inl, inr, ◌==◌, false≢true, eq-eqb, eqb_tells, append_assoc, Program, Row, RawSettings, HartState, Step, Quiet, Asks, step, is_cut, Ask, Want, row_of, None, Hart, answer, call_of, quiet_rows, ask_rows, quiet_part, ask_part, turn_rows, turn_rows_in, rows_if as rows_of_part, Run, turn, ask_at, budget, is_guarded, by_guard, and_left}
use Rattle.replay_laws.proofs.Asked.{served_turn}
use Rattle.replay_laws.proofs.Counts.{Fit, Move, Moves, moved_run, asked_at, own_harts, own_came}
use Rattle.replay_laws.proofs.ServedRows.{rows_if}
use Rattle.replay_laws.proofs.Splits.{splits, asks, uncut}
use Rattle.replay_laws.proofs.Way.{Sound, Came}

-- whether hart k's next turn is guarded
abbrev pub guarded_at : RawSettings → Program → Run → ℕ → Bool
guarded_at c i run k = is_guarded c run k (ask_at c i (run.harts k)).want

-- a turn's moves before more
abbrev pub moves_by : Bool → ℕ → List Move → List Move
moves_by true k ms = Moves true k ∷ Moves false k ∷ ms
moves_by false k ms = Moves false k ∷ ms

abbrev pub moves_of : RawSettings → Program → Run → List ℕ → List Move
moves_of c i run [] = []
moves_of c i run (k ∷ ks) = moves_by (guarded_at c i run k) k (moves_of c i (turn c i run k) ks)

-- the run in which a guarded ask is answered
abbrev pub begun_at : RawSettings → Program → Run → ℕ → Run
begun_at c i run k = moved_run c i true run k

-- the run in which hart k's ask is answered
abbrev pub answering : RawSettings → Program → Bool → Run → ℕ → Run
answering c i true run k = begun_at c i run k
answering c i false run k = run

-- ---- the run after a turn

-- an ask that isn't a cut has room in the interval and below the limit
room_by : (c : RawSettings) (i : Program) (t : Hart) (a : Ask) → is_cut a.want ≡ false → t.state.ic ≤ a.state.ic → t.state.ic ≤ c.limit → Came i t.state.ic (budget c t) a
    → (0 < c.interval) × (a.state.ic < c.limit)
room_by c i t a cut from within (inl p) = absurd (false≢true (sym cut ∙ ap is_cut p.0))
room_by c i t a cut from within (inr p) = (omega (arith, p.1, from, within), omega (arith, p.1, from, within))

room : (c : RawSettings) (i : Program) (run : Run) (k : ℕ) → Sound c i → Fit c (run.harts k) → is_cut (ask_at c i (run.harts k)).want ≡ false → (0 < c.interval) × ((asked_at c i run k).ic < c.limit)
room c i run k z f cut = let r = own_came c i (run.harts k) k z f in room_by c i (run.harts k) (ask_at c i (run.harts k)) cut r.1 f.within r.0

-- the ask is the same once the hart has begun its next interval
pub asks_same : (c : RawSettings) (i : Program) (run : Run) (k : ℕ) → Sound c i → Fit c (run.harts k) → guarded_at c i run k ≡ true
    → (turn c i run k ≡ served_turn c i (begun_at c i run k) k) × (ask_at c i ((begun_at c i run k).harts k) ≡ ask_at c i (run.harts k))
asks_same c i run k z f g =
    let r = room c i run k z f (uncut c run k (ask_at c i (run.harts k)).want g) in
    splits.guarded c i run k (z.orderly (budget c (run.harts k)) (run.harts k).state (omega (arith, f.within, z.limit))) g r.0 r.1

-- a turn is one without a guard, in the run in which its ask is answered
pub turn_is : (guard : Bool) (c : RawSettings) (i : Program) (run : Run) (k : ℕ) → Sound c i → Fit c (run.harts k) → guarded_at c i run k ≡ guard → turn c i run k ≡ served_turn c i (answering c i guard run k) k
turn_is true c i run k z f g = (asks_same c i run k z f g).0
turn_is false c i run k z f g = splits.plain c i run k (z.orderly (budget c (run.harts k)) (run.harts k).state (omega (arith, f.within, z.limit))) g

-- ---- its rows

no_quiet : (h : ℕ) (i : Program) (n : ℕ) (s : HartState) (w : Want) → step i s ≡ Asks w → quiet_rows h i n s ≡ []
no_quiet h i zero s w e = refl
no_quiet h i (suc n) s w e = ap (λ (x : Step). elim x as (λ y. List Row) [ Quiet t ↦ row_of h i s t None None ∷ quiet_rows h i n t | Asks v ↦ [] ]) e

-- the hart that has begun its next interval
begun_hart : (c : RawSettings) (i : Program) (run : Run) (k : ℕ) → (((begun_at c i run k).harts k).state ≡ asked_at c i run k) × (((begun_at c i run k).harts k).number ≡ (run.harts k).number + 1)
begun_hart c i run k = let e = own_harts c i true run k by_guard refl in (ap (λ (x : Hart). x.state) e, ap (λ (x : Hart). x.number) e)

-- its rows are the asking one's alone
rows_again : (c : RawSettings) (i : Program) (run : Run) (k : ℕ) → Sound c i → Fit c (run.harts k) → guarded_at c i run k ≡ true → turn_rows c i (begun_at c i run k) k ≡ ask_part c i run k
rows_again c i run k z f g =
    let begun : Run = begun_at c i run k in
    let a : Ask = ask_at c i (run.harts k) in
    let n : ℕ = budget c (begun.harts k) in
    let asking : step i a.state ≡ Asks a.want = asks i (budget c (run.harts k)) (run.harts k).state (uncut c run k a.want g) in
    let none : quiet_part c i begun k ≡ [] = ap (λ (s : HartState). quiet_rows k i n s) (begun_hart c i run k).0 ∙ no_quiet k i n a.state a.want asking in
    ap (λ rows. rows ++ ask_part c i begun k) none
    ∙ ap (λ (x : Ask). ask_rows k i run.machine.memory x (answer c (call_of i run.machine x.want) run.machine k x).reply) (asks_same c i run k z f g).1

-- the rows of hart h in its interval n, of hart k's turn before more
abbrev rows_in_turn : RawSettings → Program → Run → (h n : ℕ) → List Row → Bool → List Row
rows_in_turn c i run h n more b = elim b [ true ↦ turn_rows_in c i run h n ++ more | false ↦ more ]

-- and all its rows
abbrev rows_turn : RawSettings → Program → Run → ℕ → List Row → Bool → List Row
rows_turn c i run h more b = elim b [ true ↦ turn_rows c i run h ++ more | false ↦ more ]

-- the rows of an own turn in interval n, by whether it is guarded
abbrev rows_parted : RawSettings → Program → Run → (h n : ℕ) → Bool → List Row
rows_parted c i run h n guard =
    rows_of_part ((run.harts h).number == n) (quiet_part c i run h)
    ++ rows_of_part (elim guard as (λ x. ℕ) [ true ↦ (run.harts h).number + 1 | false ↦ (run.harts h).number ] == n) (ask_part c i run h)

part_first : (b : Bool) (now more : List Row) → rows_of_part b now ++ more ≡ rows_if b now more
part_first true now more = refl
part_first false now more = refl

both_first : (b : Bool) (qs ws more : List Row) → (rows_of_part b qs ++ rows_of_part b ws) ++ more ≡ rows_if b (qs ++ ws) more
both_first true qs ws more = refl
both_first false qs ws more = refl

each_first : (a b : Bool) (qs ws more : List Row) → (rows_of_part a qs ++ rows_of_part b ws) ++ more ≡ rows_if a qs (rows_if b ws more)
each_first a b qs ws more =
    append_assoc (rows_of_part a qs) (rows_of_part b ws) more
    ∙ (ap (λ rows. rows_of_part a qs ++ rows) (part_first b ws more) ∙ part_first a qs (rows_if b ws more))

and_true : (a b : Bool) → a ≡ true → (a && b) ≡ b
and_true true b e = refl
and_true false b e = absurd (false≢true e)

-- the rows of a turn without a guard are of one interval
pub rows_plain : (c : RawSettings) (i : Program) (run : Run) (k h n : ℕ) (more : List Row) → guarded_at c i run k ≡ false
    → rows_in_turn c i run h n more (k == h) ≡ rows_if (k == h && ((run.harts h).number == n)) (turn_rows c i run h) more
rows_plain c i run k h n more g = elim (eqb_tells k h) [
  | inr p ↦ ap (rows_in_turn c i run h n more) p.0
      ∙ sym (ap (λ b. rows_if b (turn_rows c i run h) more) (and_left (k == h) ((run.harts h).number == n) p.0))
  | inl p ↦ ap (rows_in_turn c i run h n more) p.0
      ∙ (ap (λ b. rows_parted c i run h n b ++ more) (sym (ap (guarded_at c i run) p.1) ∙ g)
      ∙ (both_first ((run.harts h).number == n) (quiet_part c i run h) (ask_part c i run h) more
      ∙ sym (ap (λ b. rows_if b (turn_rows c i run h) more) (and_true (k == h) ((run.harts h).number == n) p.0))))
]

-- those of a guarded turn are of two
pub rows_guarded : (c : RawSettings) (i : Program) (run : Run) (k h n : ℕ) (more : List Row) → Sound c i → Fit c (run.harts k) → guarded_at c i run k ≡ true
    → rows_in_turn c i run h n more (k == h)
    ≡ rows_if (k == h && ((run.harts h).number == n)) (quiet_part c i run h) (rows_if (k == h && (((begun_at c i run k).harts h).number == n)) (turn_rows c i (begun_at c i run k) h) more)
rows_guarded c i run k h n more z f g = elim (eqb_tells k h) [
  | inr p ↦ (let begun : Run = begun_at c i run k in
      ap (rows_in_turn c i run h n more) p.0
      ∙ sym (ap (λ b. rows_if b (quiet_part c i run h) (rows_if (k == h && ((begun.harts h).number == n)) (turn_rows c i begun h) more)) (and_left (k == h) ((run.harts h).number == n) p.0)
      ∙ ap (λ b. rows_if b (turn_rows c i begun h) more) (and_left (k == h) ((begun.harts h).number == n) p.0)))
  | inl p ↦ subst
      (λ (j : ℕ). Fit c (run.harts j) → guarded_at c i run j ≡ true
      → rows_in_turn c i run h n more (j == h)
      ≡ rows_if (j == h && ((run.harts h).number == n)) (quiet_part c i run h) (rows_if (j == h && (((begun_at c i run j).harts h).number == n)) (turn_rows c i (begun_at c i run j) h) more)) (sym p.1)
      (λ f g. own f g (eq-eqb h h refl)) f g
]
  where
    own : Fit c (run.harts h) → guarded_at c i run h ≡ true → (h == h) ≡ true
        → rows_in_turn c i run h n more (h == h)
        ≡ rows_if (h == h && ((run.harts h).number == n)) (quiet_part c i run h) (rows_if (h == h && (((begun_at c i run h).harts h).number == n)) (turn_rows c i (begun_at c i run h) h) more)
    own f g e =
        let begun : Run = begun_at c i run h in
        let here : Bool = (run.harts h).number == n in
        let next : Bool = (begun.harts h).number == n in
        let up : next ≡ ((run.harts h).number + 1 == n) = ap (λ (m : ℕ). m == n) (begun_hart c i run h).1 in
        ap (rows_in_turn c i run h n more) e
        ∙ (ap (λ b. rows_parted c i run h n b ++ more) g
        ∙ (each_first here ((run.harts h).number + 1 == n) (quiet_part c i run h) (ask_part c i run h) more
        ∙ (ap (λ b. rows_if here (quiet_part c i run h) (rows_if b (ask_part c i run h) more)) (sym up)
        ∙ (ap (λ rows. rows_if here (quiet_part c i run h) (rows_if next rows more)) (sym (rows_again c i run h z f g))
        ∙ (ap (λ b. rows_if here (quiet_part c i run h) (rows_if b (turn_rows c i begun h) more)) (sym (and_true (h == h) next e))
        ∙ ap (λ b. rows_if b (quiet_part c i run h) (rows_if (h == h && next) (turn_rows c i begun h) more)) (sym (and_true (h == h) here e)))))))

-- and all of them are those of its two moves
pub all_guarded : (c : RawSettings) (i : Program) (run : Run) (k h : ℕ) (more : List Row) → Sound c i → Fit c (run.harts k) → guarded_at c i run k ≡ true
    → rows_turn c i run h more (k == h) ≡ rows_if (k == h) (quiet_part c i run h) (rows_if (k == h) (turn_rows c i (begun_at c i run k) h) more)
all_guarded c i run k h more z f g = elim (eqb_tells k h) [
  | inr p ↦ ap (rows_turn c i run h more) p.0
      ∙ sym (ap (λ b. rows_if b (quiet_part c i run h) (rows_if b (turn_rows c i (begun_at c i run k) h) more)) p.0)
  | inl p ↦ ap (rows_turn c i run h more) p.0
      ∙ (append_assoc (quiet_part c i run h) (ask_part c i run h) more
      ∙ (ap (λ rows. quiet_part c i run h ++ (rows ++ more)) (sym (own p.1))
      ∙ sym (ap (λ b. rows_if b (quiet_part c i run h) (rows_if b (turn_rows c i (begun_at c i run k) h) more)) p.0)))
]
  where
    own : k ≡ h → turn_rows c i (begun_at c i run k) h ≡ ask_part c i run h
    own e = subst (λ (j : ℕ). turn_rows c i (begun_at c i run k) j ≡ ask_part c i run j) e (rows_again c i run k z f g)
