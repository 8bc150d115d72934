use Rattle.run_model.proofs.Common.{◌++◌, ◌==◌, ℕ, List, refl, sym, subst, ◌∙◌, arith, ne_eqb, Option, IsLog, Span, edges_from, point_of, edge_records, IsNoted, everyone}
use Rattle.run_model.proofs.Asked.{if_true, if_false, eqb_same}
use Rattle.run_model.proofs.race.record_access.Goals as goal

pub returns-in-Some-clause-noted : goal.returns-in-Some-clause-noted
returns-in-Some-clause-noted c =
    let k = c.args.hart in
    let n = c.access.ensures.next in
    subst (λ (s : Option Span). IsNoted c.args.shadow.now c.access.new.self c.args.turn k c.args.ic s) (sym c.in-Some.is) (record {
      stands = λ points stands. c.access.ensures.point.stands points everyone refl stands;
      harts = n.harts;
      lasting = n.lasting;
      turn_is = omega (arith, n.turns);
      next = omega (arith, n.counts k ∙ if_true (k == k) _ _ (eqb_same k));
      others = λ j differ. n.counts j ∙ if_false (j == k) _ _ (ne_eqb j k differ);
    })

pub returns-in-Some-clause-holds : goal.returns-in-Some-clause-holds
returns-in-Some-clause-holds c points rs stands held =
    subst (λ (s : Option Span). IsLog c.append_edges.new.log (rs ++ edge_records (point_of c.args.hart c.args.ic c.args.turn s) points)) (sym c.in-Some.is)
    (subst (λ (es : List (ℕ × ℕ)). IsLog c.append_edges.new.log (rs ++ edges_from c.args.hart c.args.ic es)) (c.edges.ensures ∙ c.access.ensures.edges.listed points everyone refl stands)
    (c.append_edges.ensures.holds rs held))
