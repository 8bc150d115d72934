-- Over the turns of a legal list.
use Rattle.row_laws.proofs.Common.{◌≡◌, ℕ, Bool, true, false, List, [], ◌∷◌, ◌++◌, refl, sym, ◌∙◌, ap, subst, inl, inr, ◌==◌, eqb_tells, append_assoc, Program, IsSetting, Row, RawSettings, HartState, rows_of, turn_rows, start, run_of, run_from, legal_from, Run, turn, OwnAsksAreOrderly, TurnsMoveTheirHart, state_after, AreRowsFrom, AsksOrderly, RowsTellRuns, run_append, legal_front, equal_flip}
use Rattle.row_laws.proofs.Along.{turn_each, turn_last, each_append, after_append}
use Rattle.row_laws.proofs.Asked.{Moves, moves}

-- what the laws of lists stand on
pub record Known : Type 0 where
  pub asks : OwnAsksAreOrderly
  pub moves : TurnsMoveTheirHart

-- each turn's ask is orderly, and moves its hart
abbrev pub AreMoves : RawSettings → Program → Run → List ℕ → Type 0
AreMoves c i run [] = Unit {0}
AreMoves c i run (k ∷ ks) = Moves c i run k × AreMoves c i (turn c i run k) ks

pub all_move : Known → (c : RawSettings) (i : Program) (input a b : List ℕ) → IsSetting c → legal_from c i (start c i input) (a ++ b) ≡ true → AreMoves c i (run_of c i input a) b
all_move known c i input a [] setting legal = tt
all_move known c i input a (k ∷ ks) setting legal =
    let asks : AsksOrderly c i (run_of c i input a) k = known.asks c i input a k setting (legal_front c i (start c i input) a (k ∷ ks) legal) in
    let here : Moves c i (run_of c i input a) k = moves known.moves c i (run_of c i input a) k asks in
    let rest : AreMoves c i (run_of c i input (a ++ k ∷ [])) ks =
    all_move known c i input (a ++ k ∷ []) ks setting (ap (legal_from c i (start c i input)) (append_assoc a (k ∷ []) ks) ∙ legal) in
    (here, subst (λ (x : Run). AreMoves c i x ks) (run_append c i (start c i input) a (k ∷ [])) rest)

-- the turns in front move their harts, and so do those after them
pub both_move : (c : RawSettings) (i : Program) (a b : List ℕ) (run : Run) → AreMoves c i run (a ++ b) → AreMoves c i run a × AreMoves c i (run_from c i run a) b
both_move c i [] b run o = (tt, o)
both_move c i (k ∷ ks) b run o = let p = both_move c i ks b (turn c i run k) o.1 in ((o.0, p.0), p.1)

-- ---- rows over the turns

abbrev pub rows_by : Bool → List Row → List Row → List Row
rows_by x now more = elim x [ true ↦ now ++ more | false ↦ more ]

-- rows from a state on lead to the hart's state after the turns
abbrev pub LeadTo : RawSettings → Program → ℕ → List ℕ → Run → HartState → List Row → Type 0
LeadTo c i h ks run s rows = AreRowsFrom h i s rows × (state_after i s rows ≡ ((run_from c i run ks).harts h).state)

along_own : (c : RawSettings) (i : Program) (h k : ℕ) (ks : List ℕ) (run : Run) → Moves c i run k → (k == h) ≡ true → k ≡ h
    → LeadTo c i h ks (turn c i run k) ((turn c i run k).harts h).state (rows_of c i (turn c i run k) ks h) → LeadTo c i h (k ∷ ks) run (run.harts h).state (rows_of c i run (k ∷ ks) h)
along_own c i h k ks run o e is rest =
    let s : HartState = (run.harts h).state in
    let later : List Row = rows_of c i (turn c i run k) ks h in
    let last : state_after i s (turn_rows c i run h) ≡ ((turn c i run k).harts h).state =
    turn_last c i run h (subst (Moves c i run) is o) ∙ ap (λ j. ((turn c i run j).harts h).state) (sym is) in
    subst (λ (x : Bool). LeadTo c i h (k ∷ ks) run s (rows_by x (turn_rows c i run h) later)) (sym e)
    ((
      each_append h i s (turn_rows c i run h) later (turn_each c i run h) (subst (λ (u : HartState). AreRowsFrom h i u later) (sym last) rest.0),
      after_append i s (turn_rows c i run h) later ∙ (ap (λ (u : HartState). state_after i u later) last ∙ rest.1),
    ))

along_other : (c : RawSettings) (i : Program) (h k : ℕ) (ks : List ℕ) (run : Run) → Moves c i run k → (k == h) ≡ false → (h == k) ≡ false
    → LeadTo c i h ks (turn c i run k) ((turn c i run k).harts h).state (rows_of c i (turn c i run k) ks h) → LeadTo c i h (k ∷ ks) run (run.harts h).state (rows_of c i run (k ∷ ks) h)
along_other c i h k ks run o e f rest =
    let s : HartState = (run.harts h).state in
    let later : List Row = rows_of c i (turn c i run k) ks h in
    let same : ((turn c i run k).harts h).state ≡ s = o.others h f in
    subst (λ (x : Bool). LeadTo c i h (k ∷ ks) run s (rows_by x (turn_rows c i run h) later)) (sym e)
    ((subst (λ (u : HartState). AreRowsFrom h i u later) same rest.0, ap (λ (u : HartState). state_after i u later) (sym same) ∙ rest.1))

pub along : (c : RawSettings) (i : Program) (h : ℕ) (b : List ℕ) (run : Run) → AreMoves c i run b → LeadTo c i h b run (run.harts h).state (rows_of c i run b h)
along c i h [] run o = (tt, refl)
along c i h (k ∷ ks) run o = elim (eqb_tells k h) [
  | inl p ↦ along_own c i h k ks run o.0 p.0 p.1 (along c i h ks (turn c i run k) o.1)
  | inr p ↦ along_other c i h k ks run o.0 p.0 (equal_flip k h p.1) (along c i h ks (turn c i run k) o.1)
]

pub rows_tell_runs : Known → RowsTellRuns
rows_tell_runs known c i input a b h setting legal =
    let r = along c i h b (run_of c i input a) (all_move known c i input a b setting legal) in
    (r.0, r.1 ∙ ap (λ (x : Run). (x.harts h).state) (sym (run_append c i (start c i input) a b)))
