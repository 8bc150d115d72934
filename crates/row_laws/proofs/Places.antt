-- The turns of rows and points.
use Rattle.row_laws.proofs.Common.{◌≡◌, ℕ, ◌+◌, true, false, List, [], ◌∷◌, ◌++◌, length, Option, Some, None, refl, sym, ◌∙◌, ap, subst, inl, inr, arith, ◌==◌, ◌⊎◌, slice_get, eqb_tells, length-append, Program, Row, RawSettings, HartState, Point, rows_of, turn_rows, start, run_from, Run, turn, points_after, state_after, HasRow, TurnHasRow, AsksOrderly, Adds, RowsAreOfTurns, PointsAreOfTurns, want_at, asked_at, point_at, in_after, equal_flip, span_to, none-some}
use Rattle.row_laws.proofs.Along.{turn_last, after_append}
use Rattle.row_laws.proofs.Cases.{heads, rests}
use Rattle.row_laws.proofs.Lists.{Known, AreMoves, all_move, rows_by}
use Rattle.row_laws.proofs.Telling.{adds_point}
use Rattle.row_laws.proofs.Writers.{point_is}
use Rattle.row_laws.proofs.Asked.{turn_served, Moves}

-- ---- rows

split : (xs ys front : List Row) (r : Row) (back : List Row) → xs ++ ys ≡ front ++ r ∷ back
    → ((more : List Row) × (xs ≡ front ++ r ∷ more)) ⊎ ((more : List Row) × (front ≡ xs ++ more) × (ys ≡ more ++ r ∷ back))
split [] ys front r back e = inr (front, refl, e)
split (x ∷ xs) ys [] r back e = inl (xs, ap (λ y. y ∷ xs) (heads x r (xs ++ ys) back e))
split (x ∷ xs) ys (f ∷ fs) r back e =
    let same : x ≡ f = heads x f (xs ++ ys) (fs ++ r ∷ back) e in
    elim (split xs ys fs r back (rests x f (xs ++ ys) (fs ++ r ∷ back) e)) [
      | inl p ↦ inl (p.0, ap (λ y. y ∷ xs) same ∙ ap (λ ys. f ∷ ys) p.1)
      | inr p ↦ inr (p.0, ap (λ y. y ∷ fs) (sym same) ∙ ap (λ ys. x ∷ ys) p.1, p.2)
    ]

-- a row of hart h over the turns of a list is that of a turn
pub record Found (c : RawSettings) (i : Program) (run : Run) (b : List ℕ) (h : ℕ) (before : HartState) (r : Row) : Type 0 where
  pub front : List ℕ
  pub back : List ℕ
  pub turns : b ≡ front ++ h ∷ back
  pub has : TurnHasRow c i (run_from c i run front) h before r

later : (c : RawSettings) (i : Program) (run : Run) (k : ℕ) (ks : List ℕ) (h : ℕ) (before : HartState) (r : Row) → Found c i (turn c i run k) ks h before r → Found c i run (k ∷ ks) h before r
later c i run k ks h before r f = record { front = k ∷ f.front; back = f.back; turns = ap (λ x. k ∷ x) f.turns; has = f.has }

no_rows : (front : List Row) (r : Row) (back : List Row) → [] ≡ front ++ r ∷ back → ⊥
no_rows front r back e = let l : 0 ≡ length (front ++ r ∷ back) = ap length e in absurd (omega (arith, l, length-append front (r ∷ back)))

abbrev pub IsFound : RawSettings → Program → ℕ → HartState → Row → List ℕ → Run → Type 0
IsFound c i h before r b run = HasRow i (run.harts h).state (rows_of c i run b h) before r → Found c i run b h before r

own_found : (c : RawSettings) (i : Program) (h k : ℕ) (ks : List ℕ) (run : Run) (before : HartState) (r : Row) → Moves c i run k → (k == h) ≡ true → k ≡ h
    → IsFound c i h before r ks (turn c i run k) → IsFound c i h before r (k ∷ ks) run
own_found c i h k ks run before r o e is rest has =
    let more : List Row = rows_of c i (turn c i run k) ks h in
    let rows : turn_rows c i run h ++ more ≡ has.front ++ r ∷ has.back = sym (ap (λ x. rows_by x (turn_rows c i run h) more) e) ∙ has.rows_are in
    let last : state_after i (run.harts h).state (turn_rows c i run h) ≡ ((turn c i run k).harts h).state =
    turn_last c i run h (subst (Moves c i run) is o) ∙ ap (λ j. ((turn c i run j).harts h).state) (sym is) in
    elim (split (turn_rows c i run h) more has.front r has.back rows) [
      | inl p ↦ record { front = []; back = ks; turns = ap (λ j. j ∷ ks) is; has = record { front = has.front; back = p.0; rows_are = p.1; state = has.state } }
      | inr p ↦ later c i run k ks h before r (rest (record {
        front = p.0;
        back = has.back;
        rows_are = p.2;
        state = has.state ∙ (ap (state_after i (run.harts h).state) p.1
            ∙ (after_append i (run.harts h).state (turn_rows c i run h) p.0
            ∙ ap (λ (u : HartState). state_after i u p.0) last));
      }))
    ]

other_found : (c : RawSettings) (i : Program) (h k : ℕ) (ks : List ℕ) (run : Run) (before : HartState) (r : Row) → Moves c i run k → (k == h) ≡ false → (h == k) ≡ false
    → IsFound c i h before r ks (turn c i run k) → IsFound c i h before r (k ∷ ks) run
other_found c i h k ks run before r o e f rest has =
    let more : List Row = rows_of c i (turn c i run k) ks h in
    later c i run k ks h before r (rest (record {
      front = has.front;
      back = has.back;
      rows_are = sym (ap (λ x. rows_by x (turn_rows c i run h) more) e) ∙ has.rows_are;
      state = has.state ∙ ap (λ (u : HartState). state_after i u has.front) (sym (o.others h f));
    }))

pub found : (c : RawSettings) (i : Program) (h : ℕ) (before : HartState) (r : Row) (b : List ℕ) (run : Run) → AreMoves c i run b → IsFound c i h before r b run
found c i h before r [] run o has = absurd (no_rows has.front r has.back has.rows_are)
found c i h before r (k ∷ ks) run o has = elim (eqb_tells k h) [
  | inl p ↦ own_found c i h k ks run before r o.0 p.0 p.1 (λ x. found c i h before r ks (turn c i run k) o.1 x) has
  | inr p ↦ other_found c i h k ks run before r o.0 p.0 (equal_flip k h p.1) (λ x. found c i h before r ks (turn c i run k) o.1 x) has
]

pub rows_are_of_turns : Known → RowsAreOfTurns
rows_are_of_turns known c i input b h before r setting legal has =
    let f = found c i h before r b (start c i input) (all_move known c i input [] b setting legal) has in
    record { front = f.front; back = f.back; turns = f.turns; has = f.has }

-- ---- points

record Placed (c : RawSettings) (i : Program) (run : Run) (b : List ℕ) (m : ℕ) (p : Point) : Type 0 where
  front : List ℕ
  back : List ℕ
  turns : b ≡ front ++ p.hart ∷ back
  turn_is : p.turn ≡ run.turns + length front
  place : m ≡ length (run_from c i run front).points
  adds : Adds c i (run_from c i run front) p.hart p

abbrev IsPlaced : RawSettings → Program → ℕ → Point → List ℕ → Run → Type 0
IsPlaced c i m p b run = (slice_get run.points m ≡ Some p) ⊎ Placed c i run b m p

-- a turn's point, or one before
new_point : (o : Option Point) (ps : List Point) (m : ℕ) (p : Point) → slice_get (points_after o ps) m ≡ Some p → (slice_get ps m ≡ Some p) ⊎ ((m ≡ length ps) × (o ≡ Some p))
new_point None ps m p e = inl e
new_point (Some q) ps m p e = elim (in_after ps q m p e) [ inl old ↦ inl old.1 | inr new ↦ inr (new.0, ap Some new.1) ]

by_turn : (c : RawSettings) (i : Program) (run : Run) (k : ℕ) (ks : List ℕ) (m : ℕ) (p : Point) → AsksOrderly c i run k → IsPlaced c i m p ks (turn c i run k) → IsPlaced c i m p (k ∷ ks) run
by_turn c i run k ks m p o (inl e) =
    elim (new_point (point_at c i run k) run.points m p (sym (ap (λ (x : Run). slice_get x.points m) (turn_served c i run k o)) ∙ e)) [
      | inl old ↦ inl old
      | inr new ↦ (let is = point_is k (asked_at c i run k).ic run.turns (span_to c i run.machine k (want_at c i run k) (asked_at c i run k)) p new.1 in
          inr (record {
            front = [];
            back = ks;
            turns = ap (λ j. j ∷ ks) (sym is.0);
            turn_is = omega (arith, is.2);
            place = new.0;
            adds = subst (λ j. Adds c i run j p) (sym is.0) (adds_point c i run k p o new.1);
          }))
    ]
by_turn c i run k ks m p o (inr x) =
    let up : (turn c i run k).turns ≡ run.turns + 1 = ap (λ (y : Run). y.turns) (turn_served c i run k o) in
    inr (record { front = k ∷ x.front; back = x.back; turns = ap (λ y. k ∷ y) x.turns; turn_is = omega (arith, up, x.turn_is); place = x.place; adds = x.adds })

placed : (c : RawSettings) (i : Program) (m : ℕ) (p : Point) (b : List ℕ) (run : Run) → AreMoves c i run b → slice_get (run_from c i run b).points m ≡ Some p → IsPlaced c i m p b run
placed c i m p [] run o e = inl e
placed c i m p (k ∷ ks) run o e = by_turn c i run k ks m p o.0.asks (placed c i m p ks (turn c i run k) o.1 e)

pub points_are_of_turns : Known → PointsAreOfTurns
points_are_of_turns known c i input b m p setting legal e = elim (placed c i m p b (start c i input) (all_move known c i input [] b setting legal) e) [
  | inl old ↦ absurd (none-some p old)
  | inr x ↦ record { front = x.front; back = x.back; turns = x.turns; turn_is = (let t = x.turn_is in omega (arith, t)); place = x.place; adds = x.adds }
]
