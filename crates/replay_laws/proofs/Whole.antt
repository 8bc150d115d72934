-- Log sufficiency, over the runs of lists of turns.
use Rattle.replay_laws.proofs.Common.{◌≡◌, ℕ, zero, suc, ◌+◌, ◌-◌, ◌<◌, ◌^◌, Bool, true, false, ◌&&◌, List, [], ◌∷◌, ◌++◌, take, drop, length, map, Some, refl, sym, ◌∙◌, ap, arith, subst, inl, inr, ◌==◌, ◌⊎◌, nat_lt, range_with_len, false≢true, eqb_tells, Program, Row, RawSettings, HartState, Quiet, Asks, step, ask_of, count_up, is_cut, passes, orderly, Want, ExitsAloneEnd, Record, Interval, interval_of, interval_from, replayed_in, Hart, TurnEnd, GoesOn, NewInterval, RunOver, Run, other_after, turn, by_guard, start, run_of, run_from, legal_from, any_live, rows_in, rows_of, quiet_part, turn_rows, LogSuffices, EndsSuffice, RowsStandTogether, IntervalsBegin, RowsAreCounted, IsWhole, IsBeforeTurn, IsAtGuard, end_of, and_parts, ltb-true, cases_lt}
use Rattle.log_ring.specs.Kept.{kept}
use Rattle.run_model.specs.KeptRecords.{kept_of, IsEndOf}
use Rattle.replay_laws.proofs.Asked.{served_turn}
use Rattle.replay_laws.proofs.Coming.{IsServed, equal_flip}
use Rattle.replay_laws.proofs.Counts.{Fit, Move, Moves, moved_run, next_by, asked_at, log_from, own_harts, other_harts, own_fit, begun_fit}
use Rattle.replay_laws.proofs.Guarded.{guarded_at, moves_by, moves_of, begun_at, turn_is, rows_plain, rows_guarded, all_guarded}
use Rattle.replay_laws.proofs.Open.{Inv, suffices, done_with}
use Rattle.replay_laws.proofs.Begins.{Begins, start_fit, served_from, suffix_begins, suffix_absent, there}
use Rattle.replay_laws.proofs.ServedRows.{served_rows, served_all, rows_if, over_live}
use Rattle.replay_laws.proofs.Numbered.{numbered, numbered_range}
use Rattle.replay_laws.proofs.Parts.{part, from_now}
use Rattle.replay_laws.proofs.Way.{Sound}

-- ---- harts that are live

-- a hart that is live is fit
abbrev Early : RawSettings → Hart → Type 0
Early c t = Fit c t ⊎ (t.live ≡ false)

early_other : (n : TurnEnd) (c : RawSettings) (t : Hart) → Early c t → Early c (other_after n t)
early_other (RunOver r x) c t e = inr (over_live r x t)
early_other n c t e = e

fit_live : (c : RawSettings) (t : Hart) → Early c t → t.live ≡ true → Fit c t
fit_live c t (inl f) e = f
fit_live c t (inr d) e = absurd (false≢true (sym d ∙ e))

early_own : (n : TurnEnd) (c : RawSettings) (i : Program) (guard : Bool) (run : Run) (h : ℕ) → Sound c i → next_by c i guard run h ≡ n → Fit c (run.harts h)
    → Early c ((moved_run c i guard run h).harts h)
early_own GoesOn c i guard run h z e f = inl (own_fit c i guard run h z e f)
early_own (NewInterval y x) c i guard run h z e f = inl (begun_fit c i guard run h y x z e f)
early_own n c i guard run h z e f = inr (ap (λ (w : Hart). w.live) (own_harts c i guard run h n e))

all_early : (c : RawSettings) (i : Program) (guard : Bool) (run : Run) (k : ℕ) → Sound c i → Fit c (run.harts k) → ((j : ℕ) → Early c (run.harts j)) → (j : ℕ)
    → Early c ((moved_run c i guard run k).harts j)
all_early c i guard run k z f a j = elim (eqb_tells k j) [
  | inl p ↦ subst (λ (x : ℕ). Early c ((moved_run c i guard run k).harts x)) p.1 (early_own (next_by c i guard run k) c i guard run k z refl f)
  | inr p ↦ subst (λ (w : Hart). Early c w) (sym (other_harts c i guard run j k (next_by c i guard run k) refl (equal_flip k j p.1))) (early_other (next_by c i guard run k) c (run.harts j) (a j))
]

-- the hart that has begun its next interval is live, as it was
begun_live : (c : RawSettings) (i : Program) (run : Run) (k : ℕ) → (run.harts k).live ≡ true → ((begun_at c i run k).harts k).live ≡ true
begun_live c i run k e = ap (λ (w : Hart). w.live) (own_harts c i true run k by_guard refl) ∙ e

-- after a turn
turn_early : (guard : Bool) (c : RawSettings) (i : Program) (run : Run) (k : ℕ) → Sound c i → Fit c (run.harts k) → guarded_at c i run k ≡ guard → ((j : ℕ) → Early c (run.harts j)) → (j : ℕ) → Early c ((turn c i run k).harts j)
turn_early true c i run k z f g a j =
    let begun : Run = begun_at c i run k in
    subst (λ (r : Run). Early c (r.harts j)) (sym (turn_is true c i run k z f g))
    (all_early c i false begun k z (begun_fit c i true run k 6 0 z refl f) (all_early c i true run k z f a) j)
turn_early false c i run k z f g a j = subst (λ (r : Run). Early c (r.harts j)) (sym (turn_is false c i run k z f g)) (all_early c i false run k z f a j)

-- ---- a list that is legal and finished

at_true : (x b : Bool) → elim x as (λ y. Bool) [ true ↦ b | false ↦ false ] ≡ true → (x ≡ true) × (b ≡ true)
at_true true b e = (refl, e)
at_true false b e = absurd (false≢true e)

none_live : (x : Bool) → elim x as (λ y. Bool) [ true ↦ false | false ↦ true ] ≡ true → x ≡ false
none_live true e = sym e
none_live false e = refl

-- its run, and its rows, are those of the moves
record SameBy (c : RawSettings) (i : Program) (h n : ℕ) (ks : List ℕ) (run : Run) (ms : List Move) : Type 0 where
  runs : run_from c i run ks ≡ served_from c i run ms
  legal : IsServed c i run ms
  rows : rows_in c i run ks h n ≡ served_rows c i run ms h n
  all : rows_of c i run ks h ≡ served_all c i run ms h

abbrev Same : RawSettings → Program → (h n : ℕ) → List ℕ → Run → Type 0
Same c i h n ks run = SameBy c i h n ks run (moves_of c i run ks)

-- so it is with a turn more
same_turn : (guard : Bool) (c : RawSettings) (i : Program) (h n k : ℕ) (ks : List ℕ) (run : Run) → Sound c i → Fit c (run.harts k) → k < c.harts → (run.harts k).live ≡ true → guarded_at c i run k ≡ guard
    → Same c i h n ks (turn c i run k) → SameBy c i h n (k ∷ ks) run (moves_by guard k (moves_of c i (turn c i run k) ks))
same_turn true c i h n k ks run z f below live g rest =
    let ms : List Move = moves_of c i (turn c i run k) ks in
    let begun : Run = begun_at c i run k in
    let is : turn c i run k ≡ served_turn c i begun k = turn_is true c i run k z f g in
    let s : SameBy c i h n ks (served_turn c i begun k) ms = subst (λ (r : Run). SameBy c i h n ks r ms) is rest in
    let in_turn : rows_in c i (turn c i run k) ks h n ≡ served_rows c i (served_turn c i begun k) ms h n = ap (λ r. rows_in c i r ks h n) is ∙ s.rows in
    let of_turn : rows_of c i (turn c i run k) ks h ≡ served_all c i (served_turn c i begun k) ms h = ap (λ r. rows_of c i r ks h) is ∙ s.all in
    record {
      runs = ap (λ r. run_from c i r ks) is ∙ s.runs;
      legal = (below, live, (below, begun_live c i run k live, s.legal));
      rows = rows_guarded c i run k h n (rows_in c i (turn c i run k) ks h n) z f g
          ∙ ap (λ more. rows_if (k == h && ((run.harts h).number == n)) (quiet_part c i run h) (rows_if (k == h && ((begun.harts h).number == n)) (turn_rows c i begun h) more)) in_turn;
      all = all_guarded c i run k h (rows_of c i (turn c i run k) ks h) z f g ∙ ap (λ more. rows_if (k == h) (quiet_part c i run h) (rows_if (k == h) (turn_rows c i begun h) more)) of_turn;
    }
same_turn false c i h n k ks run z f below live g rest =
    let ms : List Move = moves_of c i (turn c i run k) ks in
    let is : turn c i run k ≡ served_turn c i run k = turn_is false c i run k z f g in
    let s : SameBy c i h n ks (served_turn c i run k) ms = subst (λ (r : Run). SameBy c i h n ks r ms) is rest in
    record {
      runs = ap (λ r. run_from c i r ks) is ∙ s.runs;
      legal = (below, live, s.legal);
      rows = rows_plain c i run k h n (rows_in c i (turn c i run k) ks h n) g
          ∙ ap (λ more. rows_if (k == h && ((run.harts h).number == n)) (turn_rows c i run h) more) (ap (λ r. rows_in c i r ks h n) is ∙ s.rows);
      all = ap (λ more. rows_if (k == h) (turn_rows c i run h) more) (ap (λ r. rows_of c i r ks h) is ∙ s.all);
    }

-- what a legal list says of its first turn
record FirstTurn (c : RawSettings) (i : Program) (run : Run) (k : ℕ) (ks : List ℕ) : Type 0 where
  below : k < c.harts
  live : (run.harts k).live ≡ true
  fit : Fit c (run.harts k)
  legal : legal_from c i (turn c i run k) ks ≡ true
  early : (j : ℕ) → Early c ((turn c i run k).harts j)

first_turn : (c : RawSettings) (i : Program) (run : Run) (k : ℕ) (ks : List ℕ) → Sound c i → ((j : ℕ) → Early c (run.harts j)) → legal_from c i run (k ∷ ks) ≡ true → FirstTurn c i run k ks
first_turn c i run k ks z a l =
    let p = at_true (nat_lt k c.harts && (run.harts k).live) (legal_from c i (turn c i run k) ks) l in
    let q = and_parts (nat_lt k c.harts) (run.harts k).live p.0 in
    let fit : Fit c (run.harts k) = fit_live c (run.harts k) (a k) q.1 in
    record { below = ltb-true k c.harts q.0; live = q.1; fit = fit; legal = p.1; early = turn_early (guarded_at c i run k) c i run k z fit refl a }

same_runs : (c : RawSettings) (i : Program) (h n : ℕ) → Sound c i → (ks : List ℕ) (run : Run) → ((j : ℕ) → Early c (run.harts j)) → legal_from c i run ks ≡ true
    → any_live c.harts (run_from c i run ks).harts ≡ false → Same c i h n ks run
same_runs c i h n z [] run a l f = record { runs = refl; legal = f; rows = refl; all = refl }
same_runs c i h n z (k ∷ ks) run a l f =
    let t = first_turn c i run k ks z a l in
    same_turn (guarded_at c i run k) c i h n k ks run z t.fit t.below t.live refl (same_runs c i h n z ks (turn c i run k) t.early t.legal f)

-- ---- where so many of its moves lead

-- hart h in the run `there`, with the moves that are left, is after some turns of the list, or in the next one, at a guarded ask
record IsReached (c : RawSettings) (i : Program) (h : ℕ) (b : List ℕ) (run there : Run) (ms : List Move) : Type 0 where
  past : List ℕ
  left : List ℕ
  turns : b ≡ past ++ left
  before : List Row
  begins : IsBeforeTurn (run_from c i run past) h (there.harts h).state before ⊎ IsAtGuard c i (run_from c i run past) left h (there.harts h).state before
  rows : rows_of c i (run_from c i run past) left h ≡ before ++ served_all c i there ms h

reached_later : (c : RawSettings) (i : Program) (h k : ℕ) (ks : List ℕ) (run there : Run) (ms : List Move) → IsReached c i h ks (turn c i run k) there ms → IsReached c i h (k ∷ ks) run there ms
reached_later c i h k ks run there ms r = record { past = k ∷ r.past; left = r.left; turns = ap (λ x. k ∷ x) r.turns; before = r.before; begins = r.begins; rows = r.rows }

-- so many of the moves are done
abbrev Reached : RawSettings → Program → ℕ → List ℕ → Run → List Move → ℕ → Type 0
Reached c i h b run ms m = IsReached c i h b run (served_from c i run (take m ms)) (drop m ms)

-- none
reached_none : (c : RawSettings) (i : Program) (h : ℕ) (b : List ℕ) (run : Run) (ms : List Move) → rows_of c i run b h ≡ served_all c i run ms h → Reached c i h b run ms 0
reached_none c i h b run ms e = record { past = []; left = b; turns = refl; before = []; begins = inl (record { state = refl; none = refl }); rows = e }

-- a guard's move, and not its turn
reached_guard : (c : RawSettings) (i : Program) (h k : ℕ) (ks : List ℕ) (run : Run) (ms : List Move) → guarded_at c i run k ≡ true → rows_of c i run (k ∷ ks) h ≡ served_all c i run (moves_by true k ms) h
    → IsReached c i h (k ∷ ks) run (begun_at c i run k) (Moves false k ∷ ms)
reached_guard c i h k ks run ms g e = elim (eqb_tells k h) [
  | inl p ↦ record {
    past = [];
    left = k ∷ ks;
    turns = refl;
    before = quiet_part c i run h;
    begins = inr (record { later = ks; turn = ap (λ j. j ∷ ks) p.1; guarded = ap (guarded_at c i run) (sym p.1) ∙ g; state = subst (λ (j : ℕ). ((begun_at c i run j).harts h).state ≡ asked_at c i run h) (sym p.1) (begun_state c i run h); quiet = refl });
    rows = e ∙ ap (λ (x : Bool). rows_if x (quiet_part c i run h) (served_all c i (begun_at c i run k) (Moves false k ∷ ms) h)) p.0;
  }
  | inr p ↦ record {
    past = [];
    left = k ∷ ks;
    turns = refl;
    before = [];
    begins = inl (record { state = ap (λ (w : Hart). w.state) (other_harts c i true run h k by_guard refl (equal_flip k h p.1)); none = refl });
    rows = e ∙ ap (λ (x : Bool). rows_if x (quiet_part c i run h) (served_all c i (begun_at c i run k) (Moves false k ∷ ms) h)) p.0;
  }
]
  where
    begun_state : (c : RawSettings) (i : Program) (run : Run) (h : ℕ) → ((begun_at c i run h).harts h).state ≡ asked_at c i run h
    begun_state c i run h = ap (λ (w : Hart). w.state) (own_harts c i true run h by_guard refl)

reached_turn : (guard : Bool) (c : RawSettings) (i : Program) (h k : ℕ) (ks : List ℕ) (run : Run) (m : ℕ) → Sound c i → Fit c (run.harts k) → guarded_at c i run k ≡ guard
    → rows_of c i run (k ∷ ks) h ≡ served_all c i run (moves_by guard k (moves_of c i (turn c i run k) ks)) h
    → ((d : ℕ) → Reached c i h ks (turn c i run k) (moves_of c i (turn c i run k) ks) d) → Reached c i h (k ∷ ks) run (moves_by guard k (moves_of c i (turn c i run k) ks)) m
reached_turn guard c i h k ks run zero z f g all rest = reached_none c i h (k ∷ ks) run (moves_by guard k (moves_of c i (turn c i run k) ks)) all
reached_turn false c i h k ks run (suc m) z f g all rest =
    let ms : List Move = moves_of c i (turn c i run k) ks in
    reached_later c i h k ks run (served_from c i (served_turn c i run k) (take m ms)) (drop m ms)
    (subst (λ (r : Run). IsReached c i h ks (turn c i run k) (served_from c i r (take m ms)) (drop m ms)) (turn_is false c i run k z f g) (rest m))
reached_turn true c i h k ks run (suc zero) z f g all rest = reached_guard c i h k ks run (moves_of c i (turn c i run k) ks) g all
reached_turn true c i h k ks run (suc (suc m)) z f g all rest =
    let ms : List Move = moves_of c i (turn c i run k) ks in
    reached_later c i h k ks run (served_from c i (served_turn c i (begun_at c i run k) k) (take m ms)) (drop m ms)
    (subst (λ (r : Run). IsReached c i h ks (turn c i run k) (served_from c i r (take m ms)) (drop m ms)) (turn_is true c i run k z f g) (rest m))

reached : (c : RawSettings) (i : Program) (h : ℕ) → Sound c i → (b : List ℕ) (run : Run) → ((j : ℕ) → Early c (run.harts j)) → legal_from c i run b ≡ true
    → any_live c.harts (run_from c i run b).harts ≡ false → (m : ℕ) → Reached c i h b run (moves_of c i run b) m
reached c i h z [] run a l f zero = reached_none c i h [] run [] refl
reached c i h z [] run a l f (suc m) = reached_none c i h [] run [] refl
reached c i h z (k ∷ ks) run a l f m =
    let t = first_turn c i run k ks z a l in
    reached_turn (guarded_at c i run k) c i h k ks run m z t.fit refl (same_runs c i h 0 z (k ∷ ks) run a l f).all (λ d. reached c i h z ks (turn c i run k) t.early t.legal f d)

-- ---- the laws

drop_front : (xs ys : List Record) → drop (length xs) (xs ++ ys) ≡ ys
drop_front [] ys = refl
drop_front (x ∷ xs) ys = drop_front xs ys

-- what the laws stand on: what is known of instructions, and of the calls that end a hart or the run
pub record Known : Type 0 where
  pub counts : (i : Program) (s t : HartState) → step i s ≡ Quiet t → t.ic ≡ count_up s.ic
  pub passing : (i : Program) (s : HartState) (w : Want) → step i s ≡ Asks w → (is_cut w ≡ false) × (passes i w ≡ true)
  pub orderly : (i : Program) (budget : ℕ) (s : HartState) → s.ic + budget < 2 ^ 64 → orderly i s.ic budget (ask_of i budget s) ≡ true
  pub exits : ExitsAloneEnd

-- and that what is kept is a suffix
abbrev pub KeepsSuffix : Type 0
KeepsSuffix = (size : ℕ) (rs : List Record) → (front : List Record) × (rs ≡ front ++ kept size rs)

sound : (c : RawSettings) (i : Program) → Known → c.limit < 2 ^ 63 → Sound c i
sound c i z limit = record { counts = z.counts i; passing = z.passing i; orderly = z.orderly i; limit = limit; exits = z.exits }

same_whole : (c : RawSettings) (i : Program) (input b : List ℕ) (h n : ℕ) → Sound c i → IsWhole c i input b → Same c i h n b (start c i input)
same_whole c i input b h n z whole =
    same_runs c i h n z b (start c i input) (λ j. inl (start_fit c i j input)) whole.legal (none_live (any_live c.harts (run_from c i (start c i input) b).harts) whole.over)

-- an end of the stream is what is left of it
end_is : (c : RawSettings) (i : Program) (input b : List ℕ) (h n : ℕ) (rs : List Record) → IsEndOf (run_of c i input b).stream rs → Same c i h n b (start c i input)
    → (m : ℕ) × (rs ≡ drop m (served_from c i (start c i input) (moves_of c i (start c i input) b)).stream)
end_is c i input b h n rs end s =
    let m = length end.front in
    let dropped : rs ≡ drop m (run_of c i input b).stream = sym (drop_front end.front rs) ∙ ap (drop m) (sym end.parts) in
    (m, dropped ∙ ap (λ (x : Run). drop m x.stream) s.runs)

-- an interval that begins there is one of the run's harts
kept_hart : (c : RawSettings) (i : Program) (input b : List ℕ) (h n : ℕ) (rs : List Record) → IsEndOf (run_of c i input b).stream rs → Same c i h n b (start c i input) → (v : Interval)
    → interval_of h n rs ≡ Some v → h < c.harts
kept_hart c i input b h n rs end s v e = elim (cases_lt h c.harts) [
  | inl g ↦ g
  | inr above ↦ (let k = end_is c i input b h n rs end s in
      absurd (false≢true (ap there (sym (ap (interval_of h n) k.1 ∙ suffix_absent c i input (moves_of c i (start c i input) b) h n above s.legal k.0) ∙ e))))
]

-- and it begins in the run
kept_begins : (c : RawSettings) (i : Program) (input b : List ℕ) (h n : ℕ) (rs : List Record) → IsEndOf (run_of c i input b).stream rs → Sound c i → h < c.harts → Same c i h n b (start c i input) → (v : Interval)
    → interval_of h n rs ≡ Some v → Begins c i (start c i input) (moves_of c i (start c i input) b) h n v
kept_begins c i input b h n rs end z g s v e =
    let k = end_is c i input b h n rs end s in
    suffix_begins c i input (moves_of c i (start c i input) b) h n z g s.legal k.0 v (ap (interval_of h n) (sym k.1) ∙ e)

-- the replay of an interval, at the point where the interval begins, is done
begun_done : (c : RawSettings) (i : Program) (h n : ℕ) (ks : List Move) (run : Run) (v : Interval) → Sound c i → h < c.harts → Begins c i run ks h n v
    → replayed_in i h n (Some v) ≡ done_with (served_rows c i run ks h n)
begun_done c i h n ks run v z g b =
    let w : Interval = interval_from (b.later.harts h).state (log_from c i b.later b.turns h) in
    let inv : Inv c i b.later b.turns h w 0 0 [] = record {
      fit = b.fit;
      holds =
          record { taken = []; loads_are = refl; place = (let e = b.fresh in omega (arith, e)); passed = []; conditionals_are = refl; slot_at = refl; mark_is = refl };
      agrees = λ a own y. absurd (false≢true (sym (b.cleared a) ∙ y));
    } in
    ap (λ x. replayed_in i h n (Some x)) b.is
    ∙ (suffices c i h w z g b.turns b.later b.legal 0 0 [] false inv
    ∙ (ap (λ x. done_with (served_rows c i b.later b.turns h x)) b.number
    ∙ ap done_with (sym b.rows)))

pub sufficiency : Known → EndsSuffice
sufficiency known c i input b h n limit whole rs end v e =
    let z : Sound c i = sound c i known limit in
    let s = same_whole c i input b h n z whole in
    let g : h < c.harts = kept_hart c i input b h n rs end s v e in
    ap (replayed_in i h n) e
    ∙ (begun_done c i h n (moves_of c i (start c i input) b) (start c i input) v z g (kept_begins c i input b h n rs end z g s v e)
    ∙ ap done_with (sym s.rows))

pub kept_end : KeepsSuffix → (c : RawSettings) (run : Run) → IsEndOf run.stream (kept_of c run)
kept_end suffix c run = let k = suffix c.log_size run.stream in record { front = k.0; parts = k.1 }

pub of_kept : EndsSuffice → KeepsSuffix → LogSuffices
of_kept ends suffix c i input b h n limit whole v e = ends c i input b h n limit whole (kept_of c (run_of c i input b)) (kept_end suffix c (run_of c i input b)) v e

pub togetherness : Known → RowsStandTogether
togetherness known c i input b h n limit whole rs end v e =
    let z : Sound c i = sound c i known limit in
    let s = same_whole c i input b h n z whole in
    let g : h < c.harts = kept_hart c i input b h n rs end s v e in
    s.rows
    ∙ (part c i h n (moves_of c i (start c i input) b) (start c i input) v z g refl (kept_begins c i input b h n rs end z g s v e)
    ∙ ap (λ (xs : List Row). take (end_of v - v.start.ic) (drop v.start.ic xs)) (sym s.all))

pub beginnings : Known → IntervalsBegin
beginnings known c i input b h n limit whole rs end v e =
    let z : Sound c i = sound c i known limit in
    let s = same_whole c i input b h n z whole in
    let g : h < c.harts = kept_hart c i input b h n rs end s v e in
    let first : Run = start c i input in
    let ms : List Move = moves_of c i first b in
    let x : Begins c i first ms h n v = kept_begins c i input b h n rs end z g s v e in
    let over = none_live (any_live c.harts (run_from c i first b).harts) whole.over in
    let t : IsReached c i h b first x.later x.turns =
    subst (λ ks. IsReached c i h b first x.later ks) (sym x.list)
    (subst (λ (r : Run). IsReached c i h b first r (drop x.place ms)) (sym x.reached) (reached c i h z b first (λ j. inl (start_fit c i j input)) whole.legal over x.place)) in
    let number : (x.later.harts h).number ≡ n = x.number in
    let post = from_now c i h n x.turns x.later (omega (arith, number)) in
    let begun : v.start ≡ (x.later.harts h).state = ap (λ (y : Interval). y.start) x.is in
    record {
      past = t.past;
      left = t.left;
      turns = t.turns;
      before = t.before;
      begins = subst (λ (u : HartState). IsBeforeTurn (run_from c i first t.past) h u t.before ⊎ IsAtGuard c i (run_from c i first t.past) t.left h u t.before) (sym begun) t.begins;
      more = post.0;
      rows = t.rows ∙ ap (λ rows. t.before ++ rows) (post.1 ∙ ap (λ rows. rows ++ post.0) (sym (s.rows ∙ x.rows)));
    }

pub counted : Known → RowsAreCounted
counted known c i input b h limit whole =
    let z : Sound c i = sound c i known limit in
    let s = same_whole c i input b h 0 z whole in
    subst (λ (rs : List Row). map (λ r. r.ic) rs ≡ range_with_len 0 (length rs)) (sym s.all) (numbered_range 0 _ (numbered c i h (moves_of c i (start c i input) b) (start c i input) z s.legal (start_fit c i h input)))
