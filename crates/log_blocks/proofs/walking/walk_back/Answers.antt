use Rattle.log_blocks.proofs.Common.{◌+◌, ◌-◌, length, arith, refl, sym, ap, ◌∙◌, is_good, len_in}
use Rattle.log_blocks.proofs.Backwards.{seen_none, seen_more, seen_all}
use Rattle.log_blocks.proofs.walking.walk_back.Goals as goal

pub loop-len-init : goal.loop-len-init
loop-len-init c = record {
  within = omega arith;
  few = omega arith;
  seen = seen_none c.args.digest.now c.args.n c.args.bytes.now _ c.new-sizes.ensures.items;
}

pub loop-len-preserved : goal.loop-len-preserved
loop-len-preserved c =
    let e = c.in-Some.ensures in
    record {
      within = omega (arith, c.loop-len.invariant.within);
      few = omega (arith, e.few);
      seen = seen_more c.args.digest.now c.args.n c.args.bytes.now c.loop-len.rest (c.loop-len.rest - (c.in-Some.len + 48)) c.loop-len.size c.in-Some.len (c.loop-len.size + c.in-Some.len) c.loop-len.sizes.items _ c.loop-len.listed _ c.loop-len.invariant.within
          (ap (is_good c.args.digest.now c.args.n c.loop-len.size) (sym c.front.ensures) ∙ e.good) (e.len ∙ ap len_in c.front.ensures) e.low (omega (arith, e.within, ap length c.front.ensures)) refl refl c.list-listed.ensures c.loop-len.invariant.seen;
    }

pub returns : goal.returns
returns c = seen_all c.args.digest.now c.args.n c.args.bytes.now _ c.loop-len.listed c.loop-len.invariant.within c.loop-len.invariant.few
    (ap (is_good c.args.digest.now c.args.n c.loop-len.size) (sym c.front.ensures) ∙ c.in_default.ensures.none) c.loop-len.invariant.seen
