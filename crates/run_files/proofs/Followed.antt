-- Lists that are followed turn by turn, and what is wrong with them.
use Rattle.run_files.proofs.Common.{◌≡◌, ℕ, suc, ◌+◌, ◌-◌, ◌<◌, ◌≤◌, Bool, true, false, ◌&&◌, nat_lt, List, [], ◌∷◌, ◌++◌, length, get_or, take, drop, drop-cons, refl, sym, ◌∙◌, ap, subst, arith, Option, Some, None, Result, Ok, Err, IfErr, IsErrAnd, take_all, drop_all, Program, RawSettings, IllegalTurn, NotFinished, OutOfMemory, Run, turn, run_from, is_live, live_harts, unfinished, error_from, PlainParts, StandsBefore, lt-ltb}
use Rattle.std.proofs.Math.Seq.{take-suc}
use Rattle.run_model.specs.declared.error.TurnError.{TurnError}
use Rattle.run_model.specs.declared.hart.Hart.{Hart}

-- ---- one turn more

run_snoc : (c : RawSettings) (i : Program) (run : Run) (b : List ℕ) (k : ℕ) → run_from c i run (b ++ k ∷ []) ≡ turn c i (run_from c i run b) k
run_snoc c i run [] k = refl
run_snoc c i run (j ∷ b) k = run_snoc c i (turn c i run j) b k

pub run_more : (c : RawSettings) (i : Program) (run : Run) (list : List ℕ) (at : ℕ) → at < length list → turn c i (run_from c i run (take at list)) (get_or list at 0) ≡ run_from c i run (take (at + 1) list)
run_more c i run list at within =
    let next : suc at ≡ at + 1 = omega arith in
    sym (run_snoc c i run (take at list) (get_or list at 0)) ∙ ap (λ (xs : List ℕ). run_from c i run xs) (sym (take-suc list at 0 within) ∙ ap (λ (n : ℕ). take n list) next)

-- ---- what is wrong from a turn on

pub first_live : (c : RawSettings) (i : Program) (run : Run) (at k : ℕ) (ks : List ℕ) → is_live c run k ≡ true → error_from c i run at (k ∷ ks) ≡ error_from c i (turn c i run k) (at + 1) ks
first_live c i run at k ks e = ap (λ (b : Bool). elim b as (λ z. Option TurnError) [ true ↦ error_from c i (turn c i run k) (at + 1) ks | false ↦ Some (IllegalTurn at k) ]) e

first_over : (c : RawSettings) (i : Program) (run : Run) (at k : ℕ) (ks : List ℕ) → is_live c run k ≡ false → error_from c i run at (k ∷ ks) ≡ Some (IllegalTurn at k)
first_over c i run at k ks e = ap (λ (b : Bool). elim b as (λ z. Option TurnError) [ true ↦ error_from c i (turn c i run k) (at + 1) ks | false ↦ Some (IllegalTurn at k) ]) e

pub wrong_here : (c : RawSettings) (i : Program) (run : Run) (list : List ℕ) (at : ℕ) → at < length list → is_live c run (get_or list at 0) ≡ false → error_from c i run at (drop at list) ≡ Some (IllegalTurn at (get_or list at 0))
wrong_here c i run list at within over = ap (λ (xs : List ℕ). error_from c i run at xs) (drop-cons list at 0 within) ∙ first_over c i run at (get_or list at 0) (drop (suc at) list) over

pub wrong_later : (c : RawSettings) (i : Program) (run : Run) (list : List ℕ) (at : ℕ) → at < length list → is_live c run (get_or list at 0) ≡ true → error_from c i run at (drop at list) ≡ error_from c i (turn c i run (get_or list at 0)) (at + 1) (drop (at + 1) list)
wrong_later c i run list at within live =
    let k = get_or list at 0 in
    let next : suc at ≡ at + 1 = omega arith in
    ap (λ (xs : List ℕ). error_from c i run at xs) (drop-cons list at 0 within) ∙ first_live c i run at k (drop (suc at) list) live ∙ ap (λ (n : ℕ). error_from c i (turn c i run k) (at + 1) (drop n list)) next

-- ---- at the end of the list

pub all_taken : (list : List ℕ) (at : ℕ) → length list ≤ at → take at list ≡ list
all_taken list at h = take_all at list h

pub wrong_at_end : (c : RawSettings) (i : Program) (run : Run) (list : List ℕ) (at : ℕ) → length list ≤ at → error_from c i run at (drop at list) ≡ unfinished (live_harts 0 c.harts run.harts)
wrong_at_end c i run list at h = ap (λ (xs : List ℕ). error_from c i run at xs) (drop_all at list h)

-- ---- the lowest live hart

second_and : (a b : Bool) → (a && b) ≡ true → b ≡ true
second_and true b e = e
second_and false b e = cc

not_and : (a b : Bool) → a ≡ true → (a && b) ≡ false → b ≡ false
not_and true b t e = e
not_and false b t e = cc

harts_if : (b : Bool) (k n : ℕ) (f : ℕ → Hart) → List ℕ
harts_if b k n f = elim b [ true ↦ k ∷ live_harts (k + 1) n f | false ↦ live_harts (k + 1) n f ]

harts_from : (k n : ℕ) (f : ℕ → Hart) (b : Bool) → k < n → (f k).live ≡ b → live_harts k (n - k) f ≡ harts_if b k (n - (k + 1)) f
unfolding harts_if
harts_from k n f b h e =
    let p : n - k ≡ suc (n - (k + 1)) = omega (arith, h) in
    ap (λ (m : ℕ). live_harts k m f) p ∙ ap (λ (b : Bool). elim b as (λ z. List ℕ) [ true ↦ k ∷ live_harts (k + 1) (n - (k + 1)) f | false ↦ live_harts (k + 1) (n - (k + 1)) f ]) e

pub lowest_here : (c : RawSettings) (run : Run) (k : ℕ) → k < c.harts → is_live c run k ≡ true → unfinished (live_harts k (c.harts - k) run.harts) ≡ Some (NotFinished k)
unfolding harts_if
lowest_here c run k h e = ap unfinished (harts_from k c.harts run.harts true h (second_and (nat_lt k c.harts) (run.harts k).live e))

pub lowest_later : (c : RawSettings) (run : Run) (k : ℕ) → k < c.harts → is_live c run k ≡ false → unfinished (live_harts k (c.harts - k) run.harts) ≡ unfinished (live_harts (k + 1) (c.harts - (k + 1)) run.harts)
unfolding harts_if
lowest_later c run k h e = ap unfinished (harts_from k c.harts run.harts false h (not_and (nat_lt k c.harts) (run.harts k).live (lt-ltb k c.harts h) e))

pub lowest_none : (c : RawSettings) (run : Run) (k : ℕ) → c.harts ≤ k → unfinished (live_harts k (c.harts - k) run.harts) ≡ None
lowest_none c run k h =
    let p : c.harts - k ≡ 0 = omega (arith, h) in
    ap (λ (m : ℕ). unfinished (live_harts k m run.harts)) p

-- ---- by the settings and the program that a machine keeps

pub kept_run : (P : Run → Type 0) (s t : RawSettings) (i j : Program) (run : Run) (list : List ℕ) → s ≡ t → i ≡ j → P (run_from s i run list) → P (run_from t j run list)
kept_run P s t i j run list e f x = subst (λ (c : RawSettings). P (run_from c j run list)) e (subst (λ (q : Program). P (run_from s q run list)) f x)

pub kept_error : (s t u : RawSettings) (i j : Program) (run : Run) (list : List ℕ) (found answer : Option TurnError) → s ≡ t → i ≡ j → u ≡ s
    → error_from s i run 0 list ≡ unfinished (live_harts 0 s.harts (run_from s i run list).harts)
    → found ≡ unfinished (live_harts 0 u.harts (run_from s i run list).harts) → found ≡ answer → error_from t j run 0 list ≡ answer
kept_error s t u i j run list found answer e f g legal told is =
    ap (λ (c : RawSettings). error_from c j run 0 list) (sym e) ∙ ap (λ (q : Program). error_from s q run 0 list) (sym f) ∙ legal
    ∙ ap (λ (c : RawSettings). unfinished (live_harts 0 c.harts (run_from s i run list).harts)) (sym g) ∙ sym told ∙ is

pub kept_stand : (s t : RawSettings) (i j : Program) (run : Run) (list : List ℕ) (p : PlainParts) → s ≡ t → i ≡ j → StandsBefore s i run list p → StandsBefore t j run list p
kept_stand s t i j run list p e f x = subst (λ (c : RawSettings). StandsBefore c j run list p) e (subst (λ (q : Program). StandsBefore s q run list p) f x)

-- no live hart is told as out of memory
pub never_memory : {P : Type 0} (ks : List ℕ) (found : Option TurnError) (e : TurnError) → found ≡ unfinished ks → found ≡ Some e → e ≡ OutOfMemory → P
never_memory [] found e is some m = absurd cc
never_memory (k ∷ ks) found e is some m = absurd cc

-- ---- an error that is passed on

pub any_err : (P : TurnError → Type 0) (r : Result (Unit {0}) TurnError) → ((e : TurnError) → P e) → IfErr r P
any_err P (Ok x) f = tt
any_err P (Err e) f = f e

pub that_err : (P : TurnError → Type 0) (e : TurnError) (r : Result (Unit {0}) TurnError) → IsErrAnd r (λ y. y ≡ e) → P e → IfErr r P
that_err P e (Ok x) h k = tt
that_err P e (Err y) h k = subst P (sym h) k
