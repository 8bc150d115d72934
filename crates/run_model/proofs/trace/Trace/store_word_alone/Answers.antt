use Rattle.run_model.proofs.Common.{◌≡◌, ◌++◌, ℕ, refl, subst, ap, arith, Some, Hart, edge_records, point_of, load_record, hart_in, IsLog}
use Rattle.run_model.proofs.LoneTurns.{with_no_edges, few_records}
use Rattle.run_model.proofs.Owns.{hart_at}
use Rattle.run_model.proofs.trace.Trace.store_word_alone.Goals as goal

pub returns-clause-accessed : goal.returns-clause-accessed
returns-clause-accessed c =
    let t = c.args.self.now in
    let k : Hart = hart_in t.harts.items 0 in
    let there : c.index.result.now ≡ k = hart_at t.harts.items 0 c.index.result.now c.requires.hart c.index.ensures in
    let skipped : c.index.result.now.skipped ≡ k.skipped = ap (λ (h : Hart). h.skipped) there in
    record {
      caches = c.take_access-warm.ensures.stands;
      noted = c.note_alone.ensures.noted c.args.span;
      holds = λ points rs stands held.
          subst (λ (n : ℕ). IsLog c.append_load.new.log (rs ++ edge_records (point_of 0 c.args.ic c.args.turn (Some c.args.span)) points ++ load_record c.if-whole.load 0 n c.args.word)) skipped
          (with_no_edges c.append_load.new.log rs _ _ (c.note_alone.ensures.none c.args.span points stands) (c.append_load.ensures.holds rs held));
      harts = refl;
      count = c.take_access-warm.ensures.count;
      steps = c.take_access-warm.ensures.steps;
      took = omega (arith, c.append_load.ensures.took.count_is, few_records c.if-whole.load 0 c.index.result.now.skipped c.args.word);
      size = c.append_load.ensures.took.size;
    }
