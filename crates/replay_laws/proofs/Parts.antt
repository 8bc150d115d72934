-- An interval's rows stand together in the rows of its hart, from its Header's count to its End's.
use Rattle.replay_laws.proofs.Common.{◌≡◌, ℕ, ◌+◌, ◌-◌, ◌<◌, ◌≤◌, Bool, true, false, List, [], ◌∷◌, ◌++◌, length, length-append, take, drop, refl, sym, ◌∙◌, ap, arith, subst, inl, inr, ◌==◌, ◌≢◌, false≢true, eqb_tells, append_assoc, Program, EndMark, Row, RawSettings, Interval, Logged, Hart, TurnEnd, GoesOn, NewInterval, RunOver, Run, rows_at_end, end_of, and_left}
use Rattle.replay_laws.proofs.Begins.{Begins}
use Rattle.replay_laws.proofs.Coming.{IsServed, equal_flip, no_live, own_mark}
use Rattle.replay_laws.proofs.Counts.{Fit, Move, Moves, moved_run, next_by, state_by, log_from, other_turn_log, own_harts, other_harts, own_fit}
use Rattle.replay_laws.proofs.Lengths.{extra, rows_by, move_count}
use Rattle.replay_laws.proofs.ServedRows.{served_rows, served_all, all_skip, all_own, rows_skip, rows_own, number_up, gone_rows, dead_rows, over_live}
use Rattle.replay_laws.proofs.Turns.{end_log}
use Rattle.replay_laws.proofs.Way.{Sound}

-- ---- how many rows an open interval has still

abbrev mark_end : EndMark → ℕ
mark_end m = m.ic + rows_at_end m.reason

-- as many as from the hart's count to the End to come
abbrev Left : RawSettings → Program → ℕ → List Move → Run → Type 0
Left c i h ks run = (run.harts h).state.ic + length (served_rows c i run ks h (run.harts h).number) ≡ mark_end (log_from c i run ks h).mark

-- an own move that ends the interval
left_ended : (c : RawSettings) (i : Program) (guard : Bool) (h : ℕ) (ks : List Move) (run : Run) → Sound c i → Fit c (run.harts h)
    → served_rows c i (moved_run c i guard run h) ks h (run.harts h).number ≡ []
    → (state_by c i guard run h).ic + extra (next_by c i guard run h) ≡ mark_end (end_log (next_by c i guard run h) (state_by c i guard run h) (log_from c i (moved_run c i guard run h) ks h)).mark
    → Left c i h (Moves guard h ∷ ks) run
left_ended c i guard h ks run z f none e =
    let rows : List Row = rows_by c i guard run h in
    let is : length (served_rows c i run (Moves guard h ∷ ks) h (run.harts h).number) ≡ length rows + length (served_rows c i (moved_run c i guard run h) ks h (run.harts h).number) =
    ap length (rows_own c i guard run ks h) ∙ length-append rows (served_rows c i (moved_run c i guard run h) ks h (run.harts h).number) in
    let zero_more : length (served_rows c i (moved_run c i guard run h) ks h (run.harts h).number) ≡ 0 = ap length none in
    let turn = move_count c i guard run h z f in
    let now : (run.harts h).state.ic + length (served_rows c i run (Moves guard h ∷ ks) h (run.harts h).number) ≡ (state_by c i guard run h).ic + extra (next_by c i guard run h) =
    omega (arith, is, zero_more, turn) in
    now ∙ (e ∙ ap mark_end (sym (own_mark c i guard run ks h)))

-- the end of an interval, by what comes next
abbrev Ended : TurnEnd → Type 0
Ended GoesOn = false ≡ true
Ended n = Unit {0}

end_is : (n : TurnEnd) (c : RawSettings) (i : Program) (guard : Bool) (run : Run) (ks : List Move) (h : ℕ) → next_by c i guard run h ≡ n → Ended n
    → (state_by c i guard run h).ic + extra (next_by c i guard run h) ≡ mark_end (end_log (next_by c i guard run h) (state_by c i guard run h) (log_from c i (moved_run c i guard run h) ks h)).mark
end_is n c i guard run ks h e d =
    subst (λ (x : TurnEnd). (state_by c i guard run h).ic + extra x ≡ mark_end (end_log x (state_by c i guard run h) (log_from c i (moved_run c i guard run h) ks h)).mark) (sym e) (by n d)
  where
    by : (n : TurnEnd) → Ended n → (state_by c i guard run h).ic + extra n ≡ mark_end (end_log n (state_by c i guard run h) (log_from c i (moved_run c i guard run h) ks h)).mark
    by GoesOn d = absurd (false≢true d)
    by n d = refl

left_own : (n : TurnEnd) (c : RawSettings) (i : Program) (guard : Bool) (h : ℕ) (ks : List Move) (run : Run) → Sound c i → Fit c (run.harts h) → IsServed c i (moved_run c i guard run h) ks
    → next_by c i guard run h ≡ n → (Fit c ((moved_run c i guard run h).harts h) → Left c i h ks (moved_run c i guard run h)) → Left c i h (Moves guard h ∷ ks) run
left_own GoesOn c i guard h ks run z f l e rest =
    let is = own_harts c i guard run h GoesOn e in
    let number : ℕ = (run.harts h).number in
    let rows : List Row = rows_by c i guard run h in
    let more : List Row = served_rows c i (moved_run c i guard run h) ks h number in
    let later : (state_by c i guard run h).ic + length more ≡ mark_end (log_from c i (moved_run c i guard run h) ks h).mark =
    subst (λ (y : Hart). y.state.ic + length (served_rows c i (moved_run c i guard run h) ks h y.number) ≡ mark_end (log_from c i (moved_run c i guard run h) ks h).mark) is
    (rest (own_fit c i guard run h z e f)) in
    let sum : length (served_rows c i run (Moves guard h ∷ ks) h number) ≡ length rows + length more = ap length (rows_own c i guard run ks h) ∙ length-append rows more in
    let turn : (run.harts h).state.ic + length rows ≡ (state_by c i guard run h).ic + extra (next_by c i guard run h) = move_count c i guard run h z f in
    let none : extra (next_by c i guard run h) ≡ 0 = ap extra e in
    let now : (run.harts h).state.ic + length (served_rows c i run (Moves guard h ∷ ks) h number) ≡ (state_by c i guard run h).ic + length more = omega (arith, sum, turn, none) in
    let same : (log_from c i (moved_run c i guard run h) ks h).mark ≡ (log_from c i run (Moves guard h ∷ ks) h).mark =
    sym (own_mark c i guard run ks h ∙ ap (λ x. (end_log x (state_by c i guard run h) (log_from c i (moved_run c i guard run h) ks h)).mark) e) in
    now ∙ (later ∙ ap mark_end same)
left_own (NewInterval r x) c i guard h ks run z f l e rest =
    let is = own_harts c i guard run h (NewInterval r x) e in
    let more : (run.harts h).number < ((moved_run c i guard run h).harts h).number = subst (λ (y : Hart). (run.harts h).number < y.number) (sym is) (omega arith) in
    left_ended c i guard h ks run z f (gone_rows c i h (run.harts h).number ks (moved_run c i guard run h) more) (end_is (NewInterval r x) c i guard run ks h e tt)
left_own n c i guard h ks run z f l e rest =
    left_ended c i guard h ks run z f (dead_rows c i h (run.harts h).number ks (moved_run c i guard run h) (ap (λ (y : Hart). y.live) (own_harts c i guard run h n e)) l)
    (end_is n c i guard run ks h e tt)

left_other : (n : TurnEnd) (c : RawSettings) (i : Program) (guard : Bool) (h k : ℕ) (ks : List Move) (run : Run) → (k == h) ≡ false → (h == k) ≡ false → h < c.harts → Fit c (run.harts h)
    → IsServed c i (moved_run c i guard run k) ks → next_by c i guard run k ≡ n → (Fit c ((moved_run c i guard run k).harts h) → Left c i h ks (moved_run c i guard run k)) → Left c i h (Moves guard k ∷ ks) run
left_other n c i guard h k ks run p q b f l e rest = by_next n e
  where
    t : Hart
    t = run.harts h

    skip : served_rows c i run (Moves guard k ∷ ks) h t.number ≡ served_rows c i (moved_run c i guard run k) ks h t.number
    skip = rows_skip c i guard run ks h k t.number (and_left (k == h) (t.number == t.number) p)

    same : (moved_run c i guard run k).harts h ≡ t → log_from c i run (Moves guard k ∷ ks) h ≡ log_from c i (moved_run c i guard run k) ks h → Left c i h (Moves guard k ∷ ks) run
    same is log =
        let r : t.state.ic + length (served_rows c i (moved_run c i guard run k) ks h t.number) ≡ mark_end (log_from c i (moved_run c i guard run k) ks h).mark =
        subst (λ (y : Hart). y.state.ic + length (served_rows c i (moved_run c i guard run k) ks h y.number) ≡ mark_end (log_from c i (moved_run c i guard run k) ks h).mark) is
        (rest (subst (λ (y : Hart). Fit c y) (sym is) f)) in
        ap (λ x. t.state.ic + length x) skip ∙ (r ∙ ap (λ (y : Logged). mark_end y.mark) (sym log))

    by_next : (y : TurnEnd) → next_by c i guard run k ≡ y → Left c i h (Moves guard k ∷ ks) run
    by_next (RunOver r x) d =
        let dead : ((moved_run c i guard run k).harts h).live ≡ false = ap (λ (y : Hart). y.live) (other_harts c i guard run h k (RunOver r x) d q) ∙ over_live r x t in
        ap (λ y. t.state.ic + length y) (skip ∙ dead_rows c i h t.number ks (moved_run c i guard run k) dead l) ∙ ap (λ (y : Logged). mark_end y.mark)
        (sym (other_turn_log c i guard run ks h k (RunOver r x) d p q f.live b))
    by_next y d = same (other_harts c i guard run h k y d q) (other_turn_log c i guard run ks h k y d p q f.live b)

left : (c : RawSettings) (i : Program) (h : ℕ) (ks : List Move) (run : Run) → Sound c i → h < c.harts → IsServed c i run ks → Fit c (run.harts h) → Left c i h ks run
left c i h [] run z g e f = absurd (false≢true (no_live c.harts h run.harts g f.live e))
left c i h (Moves guard k ∷ ks) run z g e f = elim (eqb_tells k h) [
  | inl p ↦ subst (λ (j : ℕ). IsServed c i (moved_run c i guard run j) ks → Left c i h (Moves guard j ∷ ks) run) (sym p.1)
      (λ d. left_own (next_by c i guard run h) c i guard h ks run z f d refl (λ y. left c i h ks (moved_run c i guard run h) z g d y)) e.2
  | inr p ↦ left_other (next_by c i guard run k) c i guard h k ks run p.0 (equal_flip k h p.1) g f e.2 refl (λ y. left c i h ks (moved_run c i guard run k) z g e.2 y)
]

-- ---- its rows, and those after them

pub from_now : (c : RawSettings) (i : Program) (h n : ℕ) (ks : List Move) (run : Run) → n ≤ (run.harts h).number
    → (post : List Row) × (served_all c i run ks h ≡ served_rows c i run ks h n ++ post)
from_now c i h n [] run b = ([], refl)
from_now c i h n (Moves guard k ∷ ks) run b =
    let up = number_up c i guard run h k in
    let r = from_now c i h n ks (moved_run c i guard run k) (omega (arith, up)) in
    elim (eqb_tells (run.harts h).number n) [
      | inr q ↦ (
        served_all c i run (Moves guard k ∷ ks) h,
        ap (λ x. x ++ served_all c i run (Moves guard k ∷ ks) h)
            (sym (gone_rows c i h n (Moves guard k ∷ ks) run (let z : (run.harts h).number ≢ n = q.1 in omega (arith, z)))),
      )
      | inl q ↦ elim (eqb_tells k h) [
        | inr p ↦ (r.0, all_skip c i guard run ks h k p.0 ∙ (r.1 ∙ ap (λ x. x ++ r.0) (sym (rows_skip c i guard run ks h k n (and_left (k == h) ((run.harts h).number == n) p.0)))))
        | inl p ↦ (
          r.0,
          subst
              (λ (j : ℕ). served_all c i (moved_run c i guard run j) ks h ≡ served_rows c i (moved_run c i guard run j) ks h n ++ r.0 → served_all c i run
              (Moves guard j ∷ ks) h ≡ served_rows c i run (Moves guard j ∷ ks) h n ++ r.0) (sym p.1)
              (λ e. all_own c i guard run ks h ∙ (ap
              (λ x. rows_by c i guard run h ++ x) e ∙ (sym (append_assoc (rows_by c i guard run h) (served_rows c i (moved_run c i guard run h) ks h n) r.0) ∙ ap
              (λ x. x ++ r.0) (own q.1)))) r.1,
        )
      ]
    ]
  where
    own : (run.harts h).number ≡ n → rows_by c i guard run h ++ served_rows c i (moved_run c i guard run h) ks h n ≡ served_rows c i run (Moves guard h ∷ ks) h n
    own e = subst (λ (x : ℕ). rows_by c i guard run h ++ served_rows c i (moved_run c i guard run h) ks h x ≡ served_rows c i run (Moves guard h ∷ ks) h x) e (sym (rows_own c i guard run ks h))

-- ---- the part

drop_front : (xs ys : List Row) → drop (length xs) (xs ++ ys) ≡ ys
drop_front [] ys = refl
drop_front (x ∷ xs) ys = drop_front xs ys

take_front : (xs ys : List Row) → take (length xs) (xs ++ ys) ≡ xs
take_front [] ys = refl
take_front (x ∷ xs) ys = ap (λ zs. x ∷ zs) (take_front xs ys)

middle : (front part back all : List Row) (from to : ℕ) → all ≡ front ++ (part ++ back) → length front ≡ from → from + length part ≡ to
    → part ≡ take (to - from) (drop from all)
middle front part back all from to e f g =
    let size : to - from ≡ length part = omega (arith, g) in
    sym (ap (λ n. take n (drop from all)) size
    ∙ (ap (λ n. take (length part) (drop n all)) (sym f)
    ∙ (ap (λ rs. take (length part) (drop (length front) rs)) e
    ∙ (ap (take (length part)) (drop_front front (part ++ back))
    ∙ take_front part back))))

-- the rows of an interval that begins later in a run, before which h has done nothing
pub part : (c : RawSettings) (i : Program) (h n : ℕ) (ks : List Move) (run : Run) (v : Interval) → Sound c i → h < c.harts → (run.harts h).state.ic ≡ 0
    → Begins c i run ks h n v → served_rows c i run ks h n ≡ take (end_of v - v.start.ic) (drop v.start.ic (served_all c i run ks h))
part c i h n ks run v z g none b =
    let t : Hart = b.later.harts h in
    let rows : List Row = served_rows c i b.later b.turns h n in
    let number : t.number ≡ n = b.number in
    let post = from_now c i h n b.turns b.later (omega (arith, number)) in
    let all : served_all c i run ks h ≡ b.front ++ (rows ++ post.0) = b.all ∙ ap (λ x. b.front ++ x) post.1 in
    let start : v.start.ic ≡ t.state.ic = ap (λ (x : Interval). x.start.ic) b.is in
    let count : (run.harts h).state.ic + length b.front ≡ t.state.ic = b.count in
    let from : length b.front ≡ v.start.ic = omega (arith, none, count, start) in
    let mark_is : v.mark ≡ (log_from c i b.later b.turns h).mark = ap (λ (x : Interval). x.mark) b.is in
    let last : t.state.ic + length rows ≡ mark_end (log_from c i b.later b.turns h).mark =
    subst (λ (x : ℕ). t.state.ic + length (served_rows c i b.later b.turns h x) ≡ mark_end (log_from c i b.later b.turns h).mark) number (left c i h b.turns b.later z g b.legal b.fit) in
    let ends : end_of v ≡ mark_end (log_from c i b.later b.turns h).mark = ap mark_end mark_is in
    let to : v.start.ic + length rows ≡ end_of v = ap (λ x. x + length rows) start ∙ (last ∙ sym ends) in
    b.rows ∙ middle b.front rows post.0 (served_all c i run ks h) v.start.ic (end_of v) all from to
