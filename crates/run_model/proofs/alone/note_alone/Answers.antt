use Rattle.run_model.proofs.Common.{◌==◌, ℕ, List, refl, ap, ◌∙◌, arith, ne_eqb, edges_from, everyone}
use Rattle.run_model.proofs.Asked.{if_false}
use Rattle.run_model.proofs.alone.note_alone.Goals as goal

pub returns-clause-noted : goal.returns-clause-noted
returns-clause-noted c words =
    let n = c.access_alone.ensures.next in
    record {
      stands = λ points stands. (c.access_alone.ensures.point words.first words.count words.mode).stands points everyone refl stands;
      harts = n.harts;
      lasting = n.lasting;
      turn_is = omega (arith, n.turns);
      next = omega (arith, n.counts 0);
      others = λ j differ. n.counts j ∙ if_false (j == 0) _ _ (ne_eqb j 0 differ);
    }

pub returns-clause-none : goal.returns-clause-none
returns-clause-none c words points stands =
    ap (λ (es : List (ℕ × ℕ)). edges_from 0 c.args.ic es) (c.access_alone.ensures.none words.first words.count words.mode points everyone refl stands)
