use Rattle.run_files.proofs.Common.{◌≡◌, ◌∙◌, ◌-◌, ℕ, false, get_or, sym, ap, subst, arith, inr, Run, run_from, is_live, live_harts, unfinished, run_alone, IsRun, parts}
use Rattle.run_files.proofs.Followed.{all_taken, any_err, wrong_here, wrong_at_end}
use Rattle.run_files.proofs.LoneLists.{MovesOn, moves_on, less, stands_before, other_over, zero_at, alone_run, alone_wrong}
use Rattle.run_files.proofs.auditing.follow_alone.Goals.{then-taking-test+else-live, else-taking-test}
use Rattle.run_files.proofs.auditing.follow_alone.Goals as goal

pub taking-smaller : goal.taking-smaller
taking-smaller c =
    let p = parts c.args.plain.now in let q = parts c.taking.plain in let r = parts c.turns_alone.new.self in
    let some = c.requires.some in
    let m = moves_on p q r some.0 c.taking.taken c.turns_of_zero-most.result c.turns-before.result c.turns.result some.1 (c.taking.invariant.turned some.0 some.1) c.taking.invariant.start c.taking-test.true c.in_ok-turns_alone.ensures.turned c.turns-before.ensures.value c.turns.ensures.value in
    less c.turns_of_zero-most.result c.taking.taken (c.turns.result - c.turns-before.result) m.more m.few

pub taking-preserved : goal.taking-preserved
taking-preserved c =
    let p = parts c.args.plain.now in let q = parts c.taking.plain in let r = parts c.turns_alone.new.self in
    let some = c.requires.some in
    let moves : (run : Run) → IsRun p run → MovesOn p r run c.taking.taken c.turns_of_zero-most.result (c.turns.result - c.turns-before.result) = λ run is.
    moves_on p q r run c.taking.taken c.turns_of_zero-most.result c.turns-before.result c.turns.result is (c.taking.invariant.turned run is) c.taking.invariant.start c.taking-test.true c.in_ok-turns_alone.ensures.turned c.turns-before.ensures.value c.turns.ensures.value in
    record {
      start = c.turns_alone.ensures.start ∙ c.taking.invariant.start;
      few = (moves some.0 some.1).few;
      turned = λ run is. (moves run is).turned;
    }

pub returns-in_err-turns_alone-clause-memory : goal.returns-in_err-turns_alone-clause-memory
returns-in_err-turns_alone-clause-memory c = any_err _ c.from_residual.result (λ e m run is.
    stands_before (parts c.args.plain.now) (parts c.taking.plain) (parts c.turns_alone.new.self) run c.args.list.now c.turns_of_zero-most.result c.taking.taken c.turns_of_zero-most.ensures is c.requires.alone (c.taking.invariant.turned run is) c.taking.invariant.start
    c.in_err-turns_alone.ensures.stopped)

pub returns-then-taken-list-clause-illegal : goal.returns-then-taken-list-clause-illegal
returns-then-taken-list-clause-illegal c =
    let from = c.args.plain.now.start in let s = from.settings in let list = c.args.list.now in let at = c.taking.taken in
    let z = c.turns_of_zero-most.ensures in
    inr (λ run is.
    let had = c.taking.invariant.turned run is in
    let now = run_alone s from.image run at in
    let over : is_live s now (get_or list at 0) ≡ false = elim c.taking-test.branch [
      | then-taking-test+else-live w ↦ ap (is_live s now) (zero_at list c.turns_of_zero-most.result at z w.taking-test.true)
          ∙ ap (λ (t : _). is_live t.settings now 0) (sym c.taking.invariant.start) ∙ sym (w.live.ensures.run now had.is) ∙ w.if-live.false
      | else-taking-test w ↦ other_over s now (get_or list at 0) c.requires.alone (subst (λ (k : ℕ). get_or list k 0 ≡ 0 → ⊥) (omega (arith, w.taking-test.false, c.taking.invariant.few)) (z.next (omega (arith, w.taking-test.false, c.taking.invariant.few, c.if-taken-list.true))))
    ] in
    alone_wrong s from.image run list c.turns_of_zero-most.result at z c.taking.invariant.few had.each ∙ wrong_here s from.image now list at c.if-taken-list.true over)

pub returns-clause-run : goal.returns-clause-run
returns-clause-run c = λ run is.
    let from = c.args.plain.now.start in let list = c.args.list.now in let at = c.taking.taken in
    subst (λ (x : Run). IsRun (parts c.taking.plain) x) (alone_run from.settings from.image run list c.turns_of_zero-most.result at c.turns_of_zero-most.ensures c.taking.invariant.few ∙ ap (run_from from.settings from.image run) (all_taken list at c.if-taken-list.false)) (c.taking.invariant.turned run is).is

pub returns-clause-legal : goal.returns-clause-legal
returns-clause-legal c = λ run is.
    let from = c.args.plain.now.start in let s = from.settings in let list = c.args.list.now in let at = c.taking.taken in
    let now = run_alone s from.image run at in
    alone_wrong s from.image run list c.turns_of_zero-most.result at c.turns_of_zero-most.ensures c.taking.invariant.few (c.taking.invariant.turned run is).each
    ∙ wrong_at_end s from.image now list at c.if-taken-list.false
    ∙ ap (λ (x : Run). unfinished (live_harts 0 s.harts x.harts)) (alone_run s from.image run list c.turns_of_zero-most.result at c.turns_of_zero-most.ensures c.taking.invariant.few ∙ ap (run_from s from.image run) (all_taken list at c.if-taken-list.false))
