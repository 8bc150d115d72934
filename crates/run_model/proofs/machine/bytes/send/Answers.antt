use Rattle.std.proofs.Common.{arith, ◌∙◌}
use Rattle.run_model.proofs.Moved.{sent_more}
use Rattle.run_model.proofs.machine.bytes.send.Goals as goal

pub loop-place-preserved : goal.loop-place-preserved
loop-place-preserved c = record {
  len = omega arith;
  capacity = c.push_reserved.ensures.capacity ∙ c.loop-place.invariant.capacity;
  items = λ m h. sent_more c.args.stream.now.items c.loop-place.stream.items c.push_reserved.new.self.items m c.args.addr c.loop-place.place c.byte.result (c.loop-place.invariant.items m h) (c.byte.ensures m h) c.push_reserved.ensures.items;
}
