use Rattle.run_model.proofs.Common.{◌≡◌, ◌∙◌, ◌||◌, ℕ, Bool, not, nat_lt, filter, arith, sym, ap, refl, false≢true, kept_of, times_of, harts_of, is_known, everyone, is_known_to_live, and_from}
use Rattle.run_model.proofs.LiveSets.{same_below}
use Rattle.run_model.proofs.race.sweep_known.Goals as goal

pub returns-then-is_sweep_due-clause-swept : goal.returns-then-is_sweep_due-clause-swept
returns-then-is_sweep_due-clause-swept c =
    let e = c.sweep.ensures in
    record {
      stands = λ points. e.stands points everyone;
      harts = e.harts;
      turn = e.turn;
      counts = λ k. e.times k k;
      lasting = λ k low live was. e.lasting k ∙ and_from _ _ was (c.live_set.ensures.own k low ∙ live);
    }

pub returns-then-is_sweep_due-clause-due : goal.returns-then-is_sweep_due-clause-due
returns-then-is_sweep_due-clause-due c =
    let s = c.args.shadow.now in
    let hs = c.args.harts.now in
    record {
      kept = λ due word. c.sweep.ensures.kept word
          ∙ ap (λ (f : ℕ → ℕ → Bool). filter (λ k. not (f k.hart k.ic)) (kept_of s word)) (λ i hart count. known hart count i);
      unswept = λ due. c.sweep.ensures.unswept;
      stays = λ none. absurd (false≢true (sym none ∙ (sym c.is_sweep_due.ensures ∙ c.if-is_sweep_due.true)));
    }
  where
    known : (hart count : ℕ) → is_known c.args.shadow.now c.live_set.result hart count ≡ is_known_to_live c.args.shadow.now c.args.harts.now hart count
    known hart count = same_below _ _ (harts_of c.args.shadow.now)
        (λ g low. ap (λ b. not b || nat_lt count (times_of c.args.shadow.now g hart)) (c.live_set.ensures.own g (omega (arith, low, c.requires.harts))))

pub returns-else-is_sweep_due-clause-due : goal.returns-else-is_sweep_due-clause-due
returns-else-is_sweep_due-clause-due c = record {
  kept = λ due. absurd (false≢true (sym c.if-is_sweep_due.false ∙ (c.is_sweep_due.ensures ∙ due)));
  unswept = λ due. absurd (false≢true (sym c.if-is_sweep_due.false ∙ (c.is_sweep_due.ensures ∙ due)));
  stays = λ none. refl;
}
