use Rattle.bus_memory.proofs.Common.{arith, ◌≡◌, ◌∙◌, sym, ap, true, false, slice_index_or, false≢true, get_or_default, Contents, Frame, no_frame}
use Rattle.bus_memory.proofs.Laws.{set_same, made_at}
use Rattle.bus_memory.proofs.Ranges.{have_more}
use Rattle.bus_memory.proofs.range.find_memory.Goals as goal

pub returns-in_err-find_memory-clause-same : goal.returns-in_err-find_memory-clause-same
returns-in_err-find_memory-clause-same c =
    set_same c.loop-number.pages c.loop-number.number c.index-pages-number.result c.find_memory.new.self (omega arith) c.find_memory.ensures.words c.find_memory.ensures.made ∙ c.loop-number.invariant.same

pub returns-in_err-find_memory-clause-ready : goal.returns-in_err-find_memory-clause-ready
returns-in_err-find_memory-clause-ready c all =
    let same : (slice_index_or c.loop-number.pages c.loop-number.number no_frame).made ≡ (slice_index_or c.args.pages.now c.loop-number.number no_frame).made =
    sym (made_at c.loop-number.pages c.loop-number.number) ∙ ap (λ (d : Contents). slice_index_or d.made c.loop-number.number false) c.loop-number.invariant.same ∙ made_at c.args.pages.now c.loop-number.number in
    let made : (slice_index_or c.loop-number.pages c.loop-number.number c.index-pages-number.result).made ≡ true =
    ap (λ (f : Frame). f.made) (get_or_default c.loop-number.pages c.loop-number.number c.index-pages-number.result no_frame (omega arith)) ∙ same ∙ all c.loop-number.number c.loop-number.auto.number c.loop-number-test.true in
    let ready = c.find_memory.ensures.ready made in
    absurd (false≢true (rw c.in_err-find_memory.was at ready))

pub loop-number-preserved : goal.loop-number-preserved
loop-number-preserved c =
    record {
      same = set_same c.loop-number.pages c.loop-number.number c.index-pages-number.result c.find_memory.new.self (omega arith) c.find_memory.ensures.words c.find_memory.ensures.made ∙ c.loop-number.invariant.same;
      found = have_more c.loop-number.pages c.args.first c.loop-number.number c.find_memory.new.self (omega arith) c.in_ok-find_memory.ensures.found c.loop-number.invariant.found;
    }
