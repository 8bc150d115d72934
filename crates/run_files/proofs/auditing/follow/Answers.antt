use Rattle.run_files.proofs.Common.{◌∙◌, ◌+◌, ℕ, List, get_or, take, drop, sym, ap, subst, inl, inr, Start, Run, turn, run_from, is_live, live_harts, unfinished, error_from, IsRun, parts}
use Rattle.run_files.proofs.Followed.{run_more, wrong_here, wrong_later, all_taken, wrong_at_end, any_err}
use Rattle.run_files.proofs.auditing.follow.Goals as goal

pub returns-then-not-live-clause-illegal : goal.returns-then-not-live-clause-illegal
returns-then-not-live-clause-illegal c =
    let from = c.args.plain.now.start in let list = c.args.list.now in let at = c.loop-at.at in
    inr (λ run is.
    let now = run_from from.settings from.image run (take at list) in
    let over = ap (λ (s : Start). is_live s.settings now (get_or list at 0)) (sym c.loop-at.invariant.start) ∙ sym (c.live.ensures.run now (c.loop-at.invariant.run run is)) ∙ c.if-not-live.true in
    c.loop-at.invariant.judged run is ∙ wrong_here from.settings from.image now list at c.loop-at-test.true over)

pub loop-at-preserved : goal.loop-at-preserved
loop-at-preserved c =
    let from = c.args.plain.now.start in let list = c.args.list.now in let at = c.loop-at.at in
    record {
      start = c.turn_ahead.ensures.start ∙ c.loop-at.invariant.start;
      run = λ run is.
          let now = run_from from.settings from.image run (take at list) in
          let later = c.in_ok-turn_ahead.ensures.run now (c.loop-at.invariant.run run is) in
          subst (λ (r : Run). IsRun (parts c.turn_ahead.new.self) r) (run_more from.settings from.image run list at c.loop-at-test.true)
          (subst (λ (s : Start). IsRun (parts c.turn_ahead.new.self) (turn s.settings s.image now (get_or list at 0))) c.loop-at.invariant.start later);
      judged = λ run is.
          let now = run_from from.settings from.image run (take at list) in
          let live = ap (λ (s : Start). is_live s.settings now (get_or list at 0)) (sym c.loop-at.invariant.start) ∙ sym (c.live.ensures.run now (c.loop-at.invariant.run run is)) ∙ c.if-not-live.false in
          c.loop-at.invariant.judged run is ∙ wrong_later from.settings from.image now list at c.loop-at-test.true live
          ∙ ap (λ (r : Run). error_from from.settings from.image r (at + 1) (drop (at + 1) list)) (run_more from.settings from.image run list at c.loop-at-test.true);
    }

pub returns-clause-run : goal.returns-clause-run
returns-clause-run c = λ run is.
    let from = c.args.plain.now.start in let list = c.args.list.now in let at = c.loop-at.at in
    subst (λ (xs : List ℕ). IsRun (parts c.loop-at.plain) (run_from from.settings from.image run xs)) (all_taken list at c.loop-at-test.false) (c.loop-at.invariant.run run is)

pub returns-clause-legal : goal.returns-clause-legal
returns-clause-legal c = λ run is.
    let from = c.args.plain.now.start in let list = c.args.list.now in let at = c.loop-at.at in
    c.loop-at.invariant.judged run is ∙ wrong_at_end from.settings from.image (run_from from.settings from.image run (take at list)) list at c.loop-at-test.false
    ∙ ap (λ (xs : List ℕ). unfinished (live_harts 0 from.settings.harts (run_from from.settings from.image run xs).harts)) (all_taken list at c.loop-at-test.false)

pub returns-in_err-turn_ahead-clause-memory : goal.returns-in_err-turn_ahead-clause-memory
returns-in_err-turn_ahead-clause-memory c = any_err _ c.from_residual.result (λ e m run is.
    let from = c.args.plain.now.start in let list = c.args.list.now in let at = c.loop-at.at in
    let now = run_from from.settings from.image run (take at list) in
    record {
      at = at;
      within = c.loop-at-test.true;
      stands = inl (c.in_err-turn_ahead.ensures.refused now (c.loop-at.invariant.run run is));
      live = ap (λ (s : Start). is_live s.settings now (get_or list at 0)) (sym c.loop-at.invariant.start) ∙ sym (c.live.ensures.run now (c.loop-at.invariant.run run is)) ∙ c.if-not-live.false;
    })
