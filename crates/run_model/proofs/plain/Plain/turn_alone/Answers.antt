use Rattle.run_model.proofs.Common.{◌<◌, is_some, length, ap, subst, sym, arith, Walking, Start, IsOnWay, hart_in, parts}
use Rattle.run_model.proofs.LoneTurns.{HasGoneOn, gone_fits, gone_moved, can_take, turned_alone, still_on_way, still_unguarded}
use Rattle.run_model.proofs.OneTurn.{live_within}
use Rattle.run_model.proofs.plain.Plain.turn_alone.Goals.{After-move_alone-found}
use Rattle.run_model.proofs.plain.Plain.turn_alone.Goals as goal

gone : (c : After-move_alone-found) → HasGoneOn (parts c.args.self.now) c.move_alone-found.new.self c.args.walk.now c.move_alone-found.new.walk c.args.end
gone c =
    let r = c.requires in let m = c.move_alone-found.ensures in
    record { fits = c.args.self.now.fits; alone = r.alone; live = r.live; code = r.code; way = r.way; moved = m.moved; pc = m.pc; end_is = m.end; left = m.left; program = m.program; asks = m.asks }

pub move_alone-found-requires-clause-hart : goal.move_alone-found-requires-clause-hart
move_alone-found-requires-clause-hart c = (live_within c.args.self.now.trace.harts.items 0 c.requires.live).0

pub invariant_of-self : goal.invariant_of-self
invariant_of-self c = record { memory = c.args.self.now.memory; fits = gone_fits _ _ _ _ _ (gone c) }

pub returns-then-may_guard-clause-turns : goal.returns-then-may_guard-clause-turns
returns-then-may_guard-clause-turns c = gone_moved _ _ _ _ _ (gone (goal.at.returns-then-may_guard-clause-turns c).After-move_alone-found)

pub returns-in-None-clause-turns : goal.returns-in-None-clause-turns
returns-in-None-clause-turns c = gone_moved _ _ _ _ _ (gone (goal.at.returns-in-None-clause-turns c).After-move_alone-found)

pub may_guard-requires-clause-hart : goal.may_guard-requires-clause-hart
may_guard-requires-clause-hart c =
    let fits = gone_fits _ _ _ _ _ (gone (goal.at.may_guard-requires-clause-hart c).After-move_alone-found) in
    omega (arith, fits.harts, c.requires.alone)

pub may_guard-requires-clause-limit : goal.may_guard-requires-clause-limit
may_guard-requires-clause-limit c = still_unguarded _ _ _ _ _ _ (gone (goal.at.may_guard-requires-clause-limit c).After-move_alone-found) c.requires.limit

pub access_alone-requires-clause-can : goal.access_alone-requires-clause-can
access_alone-requires-clause-can c =
    can_take c.each_ask_is_orderly.ensures.orderly _ _ _ _ _ (gone (goal.at.access_alone-requires-clause-can c).After-move_alone-found) (c.move_alone-found.ensures.some (ap is_some c.in-Some.is)) (c.may_guard.ensures c.if-may_guard.false)

pub returns-then-access_alone-clause-turns : goal.returns-then-access_alone-clause-turns
returns-then-access_alone-clause-turns c =
    let g = gone (goal.at.returns-then-access_alone-clause-turns c).After-move_alone-found in
    let p = parts c.args.self.now in let new = parts c.access_alone.new.self in
    let w = c.move_alone-found.new.walk in
    let left : 0 < w.left = c.move_alone-found.ensures.some (ap is_some c.in-Some.is) in
    let t = c.if-access_alone.ensures in
    let within : 0 < length new.trace.harts.items = omega (arith, c.access_alone.new.self.fits.harts, ap (λ (x : Start). x.settings.harts) t.taken.start, c.requires.alone) in (
      turned_alone c.each_ask_is_orderly.ensures.orderly p new c.move_alone-found.new.self c.args.walk.now w c.args.end g t within,
      subst (λ (v : Walking). IsOnWay new.start.settings (hart_in new.trace.harts.items 0) v c.args.end) (sym c.go_on.ensures) (still_on_way p new c.move_alone-found.new.self c.args.walk.now w c.args.end g left t.on t.taken.start),
    )
