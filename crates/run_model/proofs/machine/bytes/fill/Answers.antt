use Rattle.run_model.proofs.Common.{arith, ◌≡◌, ◌∙◌, ◌+◌, ◌/◌, sym, subst, List, Bool, true, false, get_or, aligned, has_page}
use Rattle.run_model.proofs.Moved.{byte_page, filled_step}
use Rattle.run_model.proofs.machine.bytes.fill.Goals as goal

pub put_byte-requires-clause-made : goal.put_byte-requires-clause-made
put_byte-requires-clause-made c =
    let was : has_page c.args.memory.now (aligned (c.args.addr + c.loop-place.place)) ≡ true =
    byte_page c.args.memory.now c.args.addr c.args.len c.loop-place.place (omega arith) c.requires.pages in
    subst (λ (made : List Bool). get_or made (aligned (c.args.addr + c.loop-place.place) / 4096) false ≡ true) (sym c.loop-place.invariant.made) was

pub loop-place-preserved : goal.loop-place-preserved
loop-place-preserved c = record {
  size = c.put_byte.ensures.size ∙ c.loop-place.invariant.size;
  made = c.put_byte.ensures.made ∙ c.loop-place.invariant.made;
  holds = λ m h. filled_step c.args.addr c.loop-place.place c.args.start c.args.bytes.now m c.put_byte.new.memory.words (omega arith) (c.put_byte.ensures.map _ (c.loop-place.invariant.holds m h));
}
