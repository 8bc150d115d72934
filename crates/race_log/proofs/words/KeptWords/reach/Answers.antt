use Rattle.std.proofs.Common.{◌≤◌, ◌∙◌, arith, ap, vec_len, length}
use Rattle.race_log.proofs.PagesLemmas.{push_or_same, push_most, full_same, settled_same}
use Rattle.race_log.proofs.SizeLemmas.{slots_more, push_least}
use Rattle.race_log.proofs.words.KeptWords.reach.Goals as goal

pub invariant_of-self : goal.invariant_of-self
invariant_of-self c =
    let same = push_or_same _ c.loop.self.pages.items c.push.new.self.items c.new.result c.new.ensures.items c.push.ensures.items in
    let least = push_least _ (vec_len c.loop.self.pages) (vec_len c.push.new.self) c.push.ensures.len in
    let more : length c.loop.self.pages.items ≤ length c.push.new.self.items = omega (arith, least, c.loop.self.pages.ok, c.push.new.self.ok) in
    let slots = slots_more c.loop.self.pages.items c.push.new.self.items more (λ page. let e = ap length (same page) in omega (arith, e)) in
    record {
      few = c.loop.self.few;
      few_pages = let most = push_most _ (vec_len c.loop.self.pages) (vec_len c.push.new.self) c.push.ensures.len in omega (arith, most, c.loop.invariant.count, c.loop-test.true, c.requires);
      full = full_same c.loop.self.harts c.loop.self.pages.items c.push.new.self.items same c.loop.self.full;
      settled = settled_same c.loop.self.epochs.table.items c.loop.self.epochs.next c.loop.self.pages.items c.push.new.self.items same c.loop.self.settled;
      few_epochs = omega (arith, more, slots, c.loop.self.few_epochs);
      low_limit = omega (arith, more, slots, c.loop.self.low_limit);
    }

pub loop-preserved : goal.loop-preserved
loop-preserved c = record {
  harts = c.loop.invariant.harts;
  epochs = c.loop.invariant.epochs;
  same = λ n. push_or_same _ c.loop.self.pages.items c.push.new.self.items c.new.result c.new.ensures.items c.push.ensures.items n ∙ c.loop.invariant.same n;
  most = omega (arith, c.in_ok-push.ensures.len, c.loop.invariant.count, c.loop-test.true, c.push.new.self.ok);
  count = omega (arith, c.in_ok-push.ensures.len, c.loop.invariant.count);
  limit = c.loop.invariant.limit;
}
