use Rattle.race_report.proofs.Common.{◌∙◌, ◌<◌, ℕ, subst, sym, length, count_of}
use Rattle.race_report.proofs.Walking.{none_left, covered_left, next_left}
use Rattle.race_report.proofs.Tracking.{smaller, lower_some, not_covered, if_some_is}
use Rattle.race_report.proofs.meets.meet_hart.Goals as goal

pub returns-in-None-clause-met : goal.returns-in-None-clause-met
returns-in-None-clause-met c = λ ps t.
    let entries = c.args.track.now.entries.items in
    let count = count_of c.args.point.now.known c.args.hart in
    none_left entries c.back.at count c.args.point.now.place c.args.word _ _ c.in-None.is (c.back.invariant.left ps t)

pub returns-then-covers-clause-met : goal.returns-then-covers-clause-met
returns-then-covers-clause-met c = λ ps t.
    let entries = c.args.track.now.entries.items in
    let count = count_of c.args.point.now.known c.args.hart in
    covered_left entries c.back.at c.in-Some.number c.entry-entry.result count c.args.point.now.place c.args.word _ _ c.in-Some.is c.entry-entry.ensures.value
    (subst (λ (k : ℕ). k < count) c.from.ensures (c.covers.ensures.0 c.if-covers.true))
    (c.back.invariant.left ps t)

pub back-smaller : goal.back-smaller
back-smaller c = smaller c.back.at c.entry-entry.result.previous c.in-Some.number c.in-Some.is c.entry-entry.ensures.earlier

pub back-preserved : goal.back-preserved
back-preserved c =
    let entries = c.args.track.now.entries.items in
    let count = count_of c.args.point.now.known c.args.hart in
    record {
      same = c.meet.ensures.same ∙ c.back.invariant.same;
      there = lower_some c.entry-entry.result.previous c.in-Some.number (length entries) c.entry-entry.ensures.earlier (if_some_is c.back.at (λ (k : ℕ). k < length entries) c.in-Some.number c.in-Some.is c.back.invariant.there);
      left = λ ps t.
          next_left entries c.back.at c.in-Some.number c.entry-entry.result count c.args.point.now.place c.args.word _ _ _ c.in-Some.is c.entry-entry.ensures.value
          (not_covered c.covers.result c.entry-entry.result.place count (λ low. c.covers.ensures.1 (subst (λ (k : ℕ). k < count) (sym c.from.ensures) low)) c.if-covers.false)
          c.in_ok-meet-in-Some.ensures.met
          (c.back.invariant.left ps t);
    }
