use Rattle.bus_memory.proofs.Common.{arith, ◌∙◌, ap, slice_index_or, Frame}
use Rattle.bus_memory.proofs.Laws.{set_words}
use Rattle.bus_memory.proofs.Ranges.{made_more, have_rest}
use Rattle.bus_memory.proofs.range.make.Goals as goal

pub loop-number-preserved : goal.loop-number-preserved
loop-number-preserved c =
    record {
      words = set_words c.loop-number.pages c.loop-number.number c.index-pages-number.result c.make.new.self (omega arith) (λ k. ap (λ (f : Frame). slice_index_or f.words k 0) c.make.ensures) ∙ c.loop-number.invariant.words;
      made = made_more c.args.pages.now c.loop-number.pages c.args.first c.loop-number.number c.make.new.self c.loop-number.auto.number (omega arith) (ap (λ (f : Frame). f.made) c.make.ensures) c.loop-number.invariant.made;
      found = have_rest c.loop-number.pages c.loop-number.number c.args.end c.make.new.self c.loop-number.invariant.found;
    }
