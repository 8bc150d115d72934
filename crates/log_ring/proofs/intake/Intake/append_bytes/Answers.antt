use Rattle.log_ring.proofs.Common.{◌∙◌, ap, arith, List, ℕ, ◌++◌}
use Rattle.log_ring.proofs.Waits.{appended, more_wait}
use Rattle.log_ring.proofs.intake.Intake.append_bytes.Goals as goal

pub invariant_of-self : goal.invariant_of-self
invariant_of-self c =
    let r = c.requires.record in
    more_wait c.tags_tell_sizes.ensures.front c.written_records_are_read.ensures c.args.self.now c.make_way.new.ring c.make_way.new.waiting c.push.new.self c.args.newest.now c.self.inside.room r.0
    (c.make_way.ensures.same ∙ c.self.view_is) c.requires.count c.make_way.ensures.whole r.1 r.2 c.push.ensures c.make_way.ensures.room
    c.self.invariant.least c.self.invariant.most (omega (arith, c.self.invariant.within, c.make_way.ensures.size))

pub returns : goal.returns
returns c r fits bytes =
    appended c.tags_tell_sizes.ensures.front c.written_records_are_read.ensures c.args.self.now c.make_way.new.ring c.make_way.new.waiting c.push.new.self r
    (c.make_way.ensures.same ∙ c.self.view_is) c.make_way.ensures.whole fits (c.push.ensures ∙ ap (λ (t : List ℕ). c.make_way.new.waiting ++ t) bytes)
