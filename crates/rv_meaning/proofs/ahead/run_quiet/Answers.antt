use Rattle.rv_meaning.proofs.Common.{◌≡◌, ◌<◌, ◌+◌, ◌-◌, arith, refl, length, code_at, pc_of, instruction_in}
use Rattle.rv_meaning.proofs.DecodedAhead.{says_here, leads_next, leads_still}
use Rattle.rv_meaning.proofs.ahead.run_quiet.Goals as goal

pub quiet-preserved-in-On : goal.quiet-preserved-in-On
quiet-preserved-in-On c =
    let did = c.in-On.ensures in
    let below : c.quiet.here < length c.args.ops.now = omega (arith, c.quiet-test.true, c.quiet.invariant.stop) in
    let some : c.quiet.here < c.quiet.over = omega (arith, c.quiet-test.true, c.quiet.invariant.stop) in
    let next : c.do_quiet.new.place ≡ c.quiet.here + 1 = did.next refl in record {
      none = c.quiet.invariant.none;
      end = omega (arith, next, some);
      few = omega (arith, next, c.quiet.invariant.few);
      low = c.quiet.invariant.low;
      stop = c.quiet.invariant.stop;
      left = omega (arith, next, c.quiet.invariant.left);
      runs = λ i more h. leads_next i (c.args.end.now - c.args.place.now) more (pc_of c.args.first c.args.place.now) (c.quiet.over - c.quiet.here) (c.quiet.over - c.do_quiet.new.place)
          (pc_of c.args.first c.quiet.here) (pc_of c.args.first c.do_quiet.new.place) c.args.x.now c.quiet.x c.do_quiet.new.x
          (c.quiet.invariant.runs i more h) c.quiet.invariant.left (omega (arith, some)) (omega (arith, next, some))
          (did.done i (instruction_in (code_at i (pc_of c.args.first c.quiet.here))) (says_here i c.args.first c.quiet.here c.args.ops.now c.index-ops-here.result h c.requires.below below c.index-ops-here.is));
    }

pub quiet-preserved : goal.quiet-preserved
quiet-preserved c =
    let did = c.in-Jumped.ensures in
    let below : c.quiet.here < length c.args.ops.now = omega (arith, c.quiet-test.true, c.quiet.invariant.stop) in
    let some : c.quiet.here < c.quiet.over = omega (arith, c.quiet-test.true, c.quiet.invariant.stop) in record {
      none = c.quiet.invariant.none;
      end = omega arith;
      few = omega (arith, some, c.quiet.invariant.few);
      low = omega (arith, some, c.quiet.invariant.few, did.within);
      stop = c.min-past.ensures;
      left = omega (arith, some, c.quiet.invariant.left);
      runs = λ i more h. leads_next i (c.args.end.now - c.args.place.now) more (pc_of c.args.first c.args.place.now) (c.quiet.over - c.quiet.here)
          (c.quiet.over - (c.quiet.here + 1) + c.do_quiet.new.place - c.do_quiet.new.place)
          (pc_of c.args.first c.quiet.here) (pc_of c.args.first c.do_quiet.new.place) c.args.x.now c.quiet.x c.do_quiet.new.x
          (c.quiet.invariant.runs i more h) c.quiet.invariant.left (omega (arith, some)) (omega (arith, some))
          (did.done i (instruction_in (code_at i (pc_of c.args.first c.quiet.here))) (says_here i c.args.first c.quiet.here c.args.ops.now c.index-ops-here.result h c.requires.below below c.index-ops-here.is));
    }

pub returns-in-Stopped-clause-runs : goal.returns-in-Stopped-clause-runs
returns-in-Stopped-clause-runs c i more h =
    let below : c.quiet.here < length c.args.ops.now = omega (arith, c.quiet-test.true, c.quiet.invariant.stop) in
    let says = says_here i c.args.first c.quiet.here c.args.ops.now c.index-ops-here.result h c.requires.below below c.index-ops-here.is in
    let same = c.in-Stopped.ensures.done i (instruction_in (code_at i (pc_of c.args.first c.quiet.here))) says in
    leads_still i (c.args.end.now - c.args.place.now + more) (pc_of c.args.first c.args.place.now) (c.quiet.over - c.quiet.here + more) (pc_of c.args.first c.quiet.here) (pc_of c.args.first c.quiet.here)
    c.args.x.now c.quiet.x c.do_quiet.new.x (c.quiet.invariant.runs i more h) (refl, same.1)

pub returns-in-Stopped-clause-found : goal.returns-in-Stopped-clause-found
returns-in-Stopped-clause-found c i h =
    let below : c.quiet.here < length c.args.ops.now = omega (arith, c.quiet-test.true, c.quiet.invariant.stop) in
    says_here i c.args.first c.quiet.here c.args.ops.now c.index-ops-here.result h c.requires.below below c.index-ops-here.is
