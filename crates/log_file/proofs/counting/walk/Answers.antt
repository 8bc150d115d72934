use Rattle.std.proofs.Common.{arith, refl}
use Rattle.log_file.proofs.Walks.{walked_none, walked_one, shorter}
use Rattle.log_file.proofs.counting.walk.Goals as goal

pub loop-rest-init : goal.loop-rest-init
loop-rest-init c = record { so_far = walked_none c.args.format c.args.terms.now c.args.harts.now c.args.bytes.now; few = omega arith; fewer = omega arith }

pub loop-rest-preserved : goal.loop-rest-preserved
loop-rest-preserved c = record {
  so_far = walked_one c.args.format c.args.terms.now c.args.harts.now c.loop-rest.harts c.advance-broken.new.harts c.args.bytes.now c.loop-rest.rest.now c.tail-rest.result.now c.loop-rest.records c.loop-rest.headers c.headers_of-headers.result c.loop-rest.broken _
      _ c.in-Some.size c.in-Some.entry c.tail-rest.ensures c.loop-rest.invariant.so_far c.in-Some.ensures.found refl c.headers_of-headers.ensures.value c.advance-broken.ensures;
  few = omega (arith, c.loop-rest.invariant.few, shorter c.args.format c.loop-rest.rest.now c.tail-rest.result.now c.in-Some.size c.in-Some.entry c.tail-rest.ensures c.in-Some.ensures.found);
  fewer = omega (arith, c.loop-rest.invariant.fewer, c.headers_of-headers.ensures.few);
}
