use Rattle.bus_core.proofs.Common.{arith}
use Rattle.bus_core.proofs.Marks.{mark_more}
use Rattle.bus_core.proofs.ends.Ends.of.Goals as goal

pub loop-hart-preserved : goal.loop-hart-preserved
loop-hart-preserved c =
    let i = c.loop-hart.invariant in
    record {
      items = mark_more c.deref-hart-items.result.now c.loop-hart.hart-index c.hart-item.result c.loop-hart.marks.items c.push.new.self.items c.loop-hart-test.true c.hart-item.is i.items c.in-Ok.ensures.items;
      len = omega (arith, c.in-Ok.ensures.len, i.len);
      room = omega (arith, c.in-Ok.ensures.capacity, i.room);
    }
