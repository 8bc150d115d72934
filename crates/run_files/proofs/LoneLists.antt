-- The turns of a list of a machine with one hart, many at a time.
use Rattle.run_files.proofs.Common.{◌≡◌, ◌≢◌, ℕ, zero, suc, ◌+◌, ◌-◌, ◌<◌, ◌≤◌, Bool, true, false, List, ◌++◌, get_or, take, drop, refl, sym, ◌∙◌, ap, subst, arith, inl, inr, replicate, nat_lt, ◌&&◌, take-take, take-replicate, take-append-drop, get_or-take, get_or-replicate, Program, RawSettings, Start, CanTurn, HasTurned, HaveTurned, HaveStopped, run_alone, PlainParts, IsRun, Run, turn, serve, served_if, ask_at, is_orderly, run_from, is_live, error_from, BeginsWithZeros, StandsBefore}
use Rattle.std.proofs.lemmas.Bool.Decides.{leb_tells}
use Rattle.run_files.proofs.Followed.{first_live}

-- ---- turns after turns

alone_more : (c : RawSettings) (i : Program) (run : Run) (a b : ℕ) → run_alone c i (run_alone c i run a) b ≡ run_alone c i run (a + b)
alone_more c i run zero b = let none : b ≡ 0 + b = omega arith in ap (run_alone c i run) none
alone_more c i run (suc a) b = let next : suc (a + b) ≡ suc a + b = omega arith in alone_more c i (turn c i run 0) a b ∙ ap (run_alone c i run) next

-- what two calls took is what was taken
pub turned_more : (p q r : PlainParts) (run : Run) (n m : ℕ) → HasTurned p q run n → q.start ≡ p.start → HasTurned q r (run_alone p.start.settings p.start.image run n) m → HasTurned p r run (n + m)
turned_more p q r run n m first same then =
    let c = p.start.settings in let i = p.start.image in
    let on : HasTurned (record q { start = p.start }) r (run_alone c i run n) m = first_start p q r run n m first same then in
    record {
      turns = omega (arith, first.turns, then.turns);
      is = subst (λ (x : Run). IsRun r x) (alone_more c i run n m) on.is;
      each = λ k below. each_of c i run n m k below first.each on.each;
    }
  where
    rest : (k n : ℕ) → n ≤ k → n + (k - n) ≡ k
    rest k n e = omega (arith, e)

    within : (k n m : ℕ) → k < n + m → n ≤ k → k - n < m
    within k n m below e = omega (arith, below, e)

    first_start : (p q r : PlainParts) (run : Run) (n m : ℕ) → HasTurned p q run n → q.start ≡ p.start → HasTurned q r (run_alone p.start.settings p.start.image run n) m → HasTurned (record q { start = p.start }) r (run_alone p.start.settings p.start.image run n) m
    first_start p q r run n m first same then = subst (λ (s : Start). HasTurned (record q { start = s }) r (run_alone p.start.settings p.start.image run n) m) same then

    each_of : (c : RawSettings) (i : Program) (run : Run) (n m k : ℕ) → k < n + m → ((j : ℕ) → j < n → CanTurn c i (run_alone c i run j)) → ((j : ℕ) → j < m → CanTurn c i (run_alone c i (run_alone c i run n) j)) → CanTurn c i (run_alone c i run k)
    each_of c i run n m k below first later = elim (leb_tells n k) [
      | inl e ↦ subst (λ (x : Run). CanTurn c i x) (alone_more c i run n (k - n) ∙ ap (run_alone c i run) (rest k n e.1)) (later (k - n) (within k n m below e.1))
      | inr e ↦ first k e.1
    ]

-- each turn is counted
turn_counts : (c : RawSettings) (i : Program) (run : Run) → (turn c i run 0).turns ≡ run.turns + 1
unfolding serve
turn_counts c i run = by (is_orderly c i (run.harts 0) (ask_at c i (run.harts 0)))
  where
    by : (b : Bool) → (served_if b c i run 0 (ask_at c i (run.harts 0))).run.turns ≡ run.turns + 1
    by true = refl
    by false = refl

alone_counts : (c : RawSettings) (i : Program) (run : Run) (n : ℕ) → (run_alone c i run n).turns ≡ run.turns + n
alone_counts c i run zero = omega arith
alone_counts c i run (suc n) = omega (arith, alone_counts c i (turn c i run 0) n, turn_counts c i run)

-- what is wrong after turns that could be taken
alone_judged : (c : RawSettings) (i : Program) (run : Run) (at n : ℕ) (rest : List ℕ) → ((m : ℕ) → m < n → CanTurn c i (run_alone c i run m)) → error_from c i run at (replicate n 0 ++ rest) ≡ error_from c i (run_alone c i run n) (at + n) rest
alone_judged c i run at zero rest each = let none : at ≡ at + 0 = omega arith in ap (λ (k : ℕ). error_from c i run k rest) none
alone_judged c i run at (suc n) rest each =
    let next : at + 1 + n ≡ at + suc n = omega arith in
    first_live c i run at 0 (replicate n 0 ++ rest) (each 0 (omega arith)).live
    ∙ alone_judged c i (turn c i run 0) (at + 1) n rest (λ m below. each (suc m) (omega (arith, below)))
    ∙ ap (λ (k : ℕ). error_from c i (run_alone c i (turn c i run 0) n) k rest) next

-- a list that begins with zeros, up to one of them
zeros_to : (list : List ℕ) (count n : ℕ) → BeginsWithZeros list count → n ≤ count → take n list ≡ replicate n 0
zeros_to list count n z few =
    sym (take-take n count list few) ∙ ap (take n) z.zeros ∙ take-replicate n count 0 few

pub zero_at : (list : List ℕ) (count n : ℕ) → BeginsWithZeros list count → n < count → get_or list n 0 ≡ 0
zero_at list count n z few = sym (get_or-take count list n 0 few) ∙ ap (λ (xs : List ℕ). get_or xs n 0) z.zeros ∙ get_or-replicate count n 0 0 few

pub alone_run : (c : RawSettings) (i : Program) (run : Run) (list : List ℕ) (count n : ℕ) → BeginsWithZeros list count → n ≤ count → run_alone c i run n ≡ run_from c i run (take n list)
alone_run c i run list count n z few = ap (run_from c i run) (sym (zeros_to list count n z few))

pub alone_wrong : (c : RawSettings) (i : Program) (run : Run) (list : List ℕ) (count n : ℕ) → BeginsWithZeros list count → n ≤ count → ((m : ℕ) → m < n → CanTurn c i (run_alone c i run m)) → error_from c i run 0 list ≡ error_from c i (run_alone c i run n) n (drop n list)
alone_wrong c i run list count n z few each =
    let none : 0 + n ≡ n = omega arith in
    ap (error_from c i run 0) (sym (take-append-drop n list) ∙ ap (λ (xs : List ℕ). xs ++ drop n list) (zeros_to list count n z few))
    ∙ alone_judged c i run 0 n (drop n list) each
    ∙ ap (λ (k : ℕ). error_from c i (run_alone c i run n) k (drop n list)) none

-- ---- what one call does

-- from so many turns to the next number, which the machine's count of turns tells
pub record MovesOn (p r : PlainParts) (run : Run) (taken most next : ℕ) : Type 0 where
  pub more : taken < next
  pub few : next ≤ most
  pub turned : HasTurned p r run next

pub moves_on : (p q r : PlainParts) (run : Run) (taken most before now : ℕ) → IsRun p run → HasTurned p q run taken → q.start ≡ p.start → taken < most → HaveTurned (most - taken) q r
    → ((x : Run) → IsRun p x → before ≡ x.turns) → ((x : Run) → IsRun r x → now ≡ x.turns) → MovesOn p r run taken most (now - before)
moves_on p q r run taken most before now is had same below turned before_is now_is =
    let on : Run = run_alone p.start.settings p.start.image run taken in
    let t = turned on had.is in
    let then : HasTurned q r on t.0 = t.3 in
    let next : now - before ≡ taken + t.0 = omega (arith, before_is run is, is.turns, now_is _ then.is, then.is.turns, then.turns, had.turns) in
    record {
      more = omega (arith, next, t.1);
      few = omega (arith, next, t.2, below);
      turned = subst (λ (k : ℕ). HasTurned p r run k) (sym next) (turned_more p q r run taken t.0 had same then);
    }

pub less : (most taken next : ℕ) → taken < next → next ≤ most → most - next < most - taken
less most taken next more few = omega (arith, more, few)

-- if memory runs out
pub stands_before : (p q r : PlainParts) (run : Run) (list : List ℕ) (most taken : ℕ) → BeginsWithZeros list most → IsRun p run → p.start.settings.harts ≡ 1 → HasTurned p q run taken → q.start ≡ p.start → HaveStopped (most - taken) q r
    → StandsBefore p.start.settings p.start.image run list r
stands_before p q r run list most taken z is alone had same stopped =
    let c = p.start.settings in let i = p.start.image in
    let on : Run = run_alone c i run taken in
    let s = stopped on had.is in
    let at : ℕ = taken + s.0 in
    let few : at < most = omega (arith, s.1) in
    let taken_at : run_alone c i run at ≡ run_from c i run (take at list) = alone_run c i run list most at z (omega (arith, few)) in
    let turns : r.turns ≡ (run_alone c i run at).turns = omega (arith, s.2, had.turns, is.turns, alone_counts c i run at) in
    let can : CanTurn c i (run_alone c i on s.0) = subst (λ (t : Start). CanTurn t.settings t.image (run_alone t.settings t.image on s.0)) same (s.3 s.0 (omega arith)) in
    record {
      at = at;
      within = omega (arith, few, z.within);
      stands = inr (alone, turns ∙ ap (λ (x : Run). x.turns) taken_at);
      live = ap (is_live c (run_from c i run (take at list))) (zero_at list most at z few) ∙ ap (λ (x : Run). is_live c x 0) (sym taken_at) ∙ ap (λ (x : Run). is_live c x 0) (sym (alone_more c i run taken s.0)) ∙ can.live;
    }

-- a hart that isn't the one isn't live
pub other_over : (c : RawSettings) (run : Run) (k : ℕ) → c.harts ≡ 1 → k ≢ 0 → is_live c run k ≡ false
other_over c run k alone other = first_and (nat_lt k c.harts) (run.harts k).live (not_below k c.harts alone other)
  where
    first_and : (a b : Bool) → a ≡ false → (a && b) ≡ false
    first_and false b e = refl
    first_and true b e = absurd cc

    not_below : (k n : ℕ) → n ≡ 1 → k ≢ 0 → nat_lt k n ≡ false
    not_below k n e other = grind (arith, e, other)
