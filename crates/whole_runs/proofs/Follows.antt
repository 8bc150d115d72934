-- The list of a run that follows a list.
use Rattle.whole_runs.proofs.Common.{◌≡◌, ℕ, ◌-◌, ◌<◌, ◌≤◌, Bool, true, false, List, [], ◌∷◌, ◌++◌, length, get_or, take, refl, sym, ◌∙◌, ap, subst, arith, inl, inr, Some, append-nil, take_all, Program, RawSettings, Run, turn, run_from, legal_from, is_live, has_finished, any_live, most_turns, IllegalTurn, Began, Seen, first_run, HasTaken, error_of, list_run, seeded_after, legal_prefix_from, legal_prefix, WholeListsAreFollowed}
use Rattle.run_laws.proofs.Turns.{legal_first}
use Rattle.whole_runs.proofs.Rows.{run_snoc}
use Rattle.whole_runs.proofs.Live.{decide}
use Rattle.whole_runs.proofs.Seeds.{seeded_none}
use Rattle.whole_runs.proofs.Taken.{turns_are}
use Rattle.whole_runs.proofs.Whole.{illegal_is}

pub prefix_live : (c : RawSettings) (i : Program) (run : Run) (k : ℕ) (ks : List ℕ) → is_live c run k ≡ true → legal_prefix_from c i run (k ∷ ks) ≡ k ∷ legal_prefix_from c i (turn c i run k) ks
prefix_live c i run k ks e = ap (λ (b : Bool). elim b as (λ z. List ℕ) [ true ↦ k ∷ legal_prefix_from c i (turn c i run k) ks | false ↦ [] ]) e

pub prefix_none : (c : RawSettings) (i : Program) (run : Run) (b : List ℕ) → length b ≡ 0 → legal_prefix_from c i run b ≡ []
prefix_none c i run [] e = refl
prefix_none c i run (k ∷ ks) e = absurd (omega (arith, e))

pub prefix_over : (c : RawSettings) (i : Program) (run : Run) (k : ℕ) (ks : List ℕ) → is_live c run k ≡ false → legal_prefix_from c i run (k ∷ ks) ≡ []
prefix_over c i run k ks e = ap (λ (b : Bool). elim b as (λ z. List ℕ) [ true ↦ k ∷ legal_prefix_from c i (turn c i run k) ks | false ↦ [] ]) e

-- a legal list is its own prefix
prefix_all : (c : RawSettings) (i : Program) (run : Run) (b : List ℕ) → legal_from c i run b ≡ true → legal_prefix_from c i run b ≡ b
prefix_all c i run [] legal = refl
prefix_all c i run (k ∷ ks) legal =
    let first = legal_first c i run k ks legal in
    prefix_live c i run k ks first.0 ∙ ap (λ (xs : List ℕ). k ∷ xs) (prefix_all c i (turn c i run k) ks first.1)

-- the next turn of a list, after those of another
pub prefix_more : (b : Began) (list : List ℕ) (k : ℕ) (ks : List ℕ) → is_live b.settings (list_run b list) k ≡ true
    → legal_prefix_from b.settings b.image (list_run b list) (k ∷ ks) ≡ k ∷ legal_prefix_from b.settings b.image (list_run b (list ++ k ∷ [])) ks
prefix_more b list k ks live =
    prefix_live b.settings b.image (list_run b list) k ks live
    ∙ ap (λ (r : Run). k ∷ legal_prefix_from b.settings b.image r ks) (sym (run_snoc b.settings b.image (first_run b) list k))

-- the prefix is one, and ends ahead of a hart that isn't live
pub prefix_take : (c : RawSettings) (i : Program) (run : Run) (b : List ℕ) → legal_prefix_from c i run b ≡ take (length (legal_prefix_from c i run b)) b
prefix_take c i run [] = refl
prefix_take c i run (k ∷ ks) = elim (decide (is_live c run k)) [
  | inl p ↦ subst (λ (xs : List ℕ). xs ≡ take (length xs) (k ∷ ks)) (sym (prefix_live c i run k ks p)) (ap (λ (xs : List ℕ). k ∷ xs) (prefix_take c i (turn c i run k) ks))
  | inr p ↦ subst (λ (xs : List ℕ). xs ≡ take (length xs) (k ∷ ks)) (sym (prefix_over c i run k ks p)) refl
]

pub prefix_stops : (c : RawSettings) (i : Program) (run : Run) (b : List ℕ) → length (legal_prefix_from c i run b) < length b → is_live c (run_from c i run (legal_prefix_from c i run b)) (get_or b (length (legal_prefix_from c i run b)) 0) ≡ false
prefix_stops c i run [] few = absurd (omega (arith, few))
prefix_stops c i run (k ∷ ks) few = elim (decide (is_live c run k)) [
  | inl p ↦
      let live = prefix_live c i run k ks p in
      let less : length (k ∷ legal_prefix_from c i (turn c i run k) ks) < length (k ∷ ks) = subst (λ (xs : List ℕ). length xs < length (k ∷ ks)) live few in
      subst (λ (xs : List ℕ). is_live c (run_from c i run xs) (get_or (k ∷ ks) (length xs) 0) ≡ false) (sym live) (prefix_stops c i (turn c i run k) ks (omega (arith, less)))
  | inr p ↦ subst (λ (xs : List ℕ). is_live c (run_from c i run xs) (get_or (k ∷ ks) (length xs) 0) ≡ false) (sym (prefix_over c i run k ks p)) p
]

-- a bus that took the turns of the prefix stopped ahead of a hart that isn't live, or at the end
pub stops_so : (tells : Bool) (b : Began) (s : Seen) (list : List ℕ) (at : ℕ) → s.began ≡ b → HasTaken tells s (legal_prefix b list) → at ≡ s.turns → at < length list → error_of b list ≡ Some (IllegalTurn at (get_or list at 0))
stops_so tells b s list at e h is less =
    let c = b.settings in
    let p = legal_prefix b list in
    let n : at ≡ length p = is ∙ turns_are tells s p h in
    let part : p ≡ take at list = prefix_take c b.image (first_run b) list ∙ ap (λ (m : ℕ). take m list) (sym n) in
    let stop = prefix_stops c b.image (first_run b) list (omega (arith, n, less)) in
    let here = subst (λ (m : ℕ). is_live c (list_run b p) (get_or list m 0) ≡ false) (sym n) stop in
    let dead = subst (λ (xs : List ℕ). is_live c (list_run b xs) (get_or list at 0) ≡ false) part here in
    illegal_is tells b s list at e (subst (λ (xs : List ℕ). HasTaken tells s xs) part h) less (subst (λ (x : Began). is_live x.settings (list_run x (take at list)) (get_or list at 0) ≡ false) (sym e) dead)

pub stops_last : (tells : Bool) (b : Began) (s : Seen) (list : List ℕ) (at : ℕ) → HasTaken tells s (legal_prefix b list) → at ≡ s.turns → length list ≤ at → HasTaken tells s list
stops_last tells b s list at h is most =
    let n : at ≡ length (legal_prefix b list) = is ∙ turns_are tells s (legal_prefix b list) h in
    let all = prefix_take b.settings b.image (first_run b) list ∙ ap (λ (m : ℕ). take m list) (sym n) ∙ take_all at list most in
    subst (λ (xs : List ℕ). HasTaken tells s xs) all h

none_live : (c : RawSettings) (run : Run) → has_finished c run ≡ true → any_live c.harts run.harts ≡ false
none_live c run over = by (any_live c.harts run.harts) over
  where
    by : (b : Bool) → (elim b as (λ z. Bool) [ true ↦ false | false ↦ true ]) ≡ true → b ≡ false
    by true e = sym e
    by false e = refl

pub whole_followed : WholeListsAreFollowed
whole_followed b list legal over =
    let same = prefix_all b.settings b.image (first_run b) list legal in
    let rest = seeded_none b.settings b.image (list_run b list) 0 (most_turns b.settings - length list) (none_live b.settings (list_run b list) over) in
    ap (λ (xs : List ℕ). xs ++ seeded_after b xs 0) same ∙ ap (λ (xs : List ℕ). list ++ xs) rest ∙ append-nil list
