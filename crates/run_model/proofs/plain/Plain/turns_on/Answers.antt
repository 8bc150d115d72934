use Rattle.run_model.proofs.Common.{◌≡◌, ◌+◌, ◌-◌, ℕ, refl, sym, ap, subst, arith, ◌∙◌, on_ok_weaker, on_err_weaker, Start, IsUnguarded, HasTurned, hart_in, parts}
use Rattle.run_model.proofs.LoneTurns.{none_turned, one_turned, moved_turn, moved_stays, could_more, can_turn}
use Rattle.run_model.proofs.plain.Plain.turns_on.Goals as goal

pub turns-init : goal.turns-init
turns-init c = record {
  start = refl;
  live = c.requires.live;
  more = omega arith;
  below = omega (arith, c.saturating_add-last.ensures);
  turned = λ run is. let none : c.args.self.now.turns - c.args.self.now.turns ≡ 0 = omega arith in subst (λ (n : ℕ). HasTurned (parts c.args.self.now) (parts c.args.self.now) run n) (sym none) (none_turned (parts c.args.self.now) run is);
  program = c.requires.program;
  way = c.requires.way;
  limit = c.guards_from-limit.ensures;
}

pub turns-preserved : goal.turns-preserved
turns-preserved c =
    let p = parts c.args.self.now in let q = parts c.turns.self in let r = parts c.turn_alone.new.self in
    let inv = c.turns.invariant in
    let t = c.if-not-turn_alone.ensures.turns in
    let alone : q.start.settings.harts ≡ 1 = ap (λ (x : Start). x.settings.harts) inv.start ∙ c.requires.alone in
    record {
      start = t.0.start ∙ inv.start;
      live = t.0.live;
      more = omega (arith, inv.more, t.0.turns);
      below = omega (arith, c.turns-test.true, t.0.turns);
      turned = λ run is.
          let up : q.turns - p.turns + 1 ≡ r.turns - p.turns = omega (arith, inv.more, t.0.turns) in
          let had = inv.turned run is in
          subst (λ (n : ℕ). HasTurned p r run n) up (one_turned p q r run (q.turns - p.turns) had inv.start (can_turn c.each_ask_is_orderly.ensures.orderly q _ c.turns.self.fits alone inv.live had.is) t.0.run);
      program = c.turn_alone.ensures.code ∙ inv.program ∙ ap (λ (x : Start). x.image) (sym t.0.start);
      way = t.1;
      limit = subst (λ (x : Start). IsUnguarded x.settings (hart_in r.trace.harts.items 0).headed c.guards_from-limit.result) (sym t.0.start)
          (subst (λ (n : ℕ). IsUnguarded q.start.settings n c.guards_from-limit.result) (sym t.0.headed) inv.limit);
    }

pub returns-clause-turned : goal.returns-clause-turned
returns-clause-turned c =
    let p = parts c.args.self.now in let q = parts c.turns.self in let r = parts c.turn_moved-2.new.self in
    let inv = c.turns.invariant in
    let alone : q.start.settings.harts ≡ 1 = ap (λ (x : Start). x.settings.harts) inv.start ∙ c.requires.alone in
    on_ok_weaker c.turn_moved-2.result (λ turns run is.
    let had = inv.turned run is in
    (q.turns - p.turns + 1, omega arith, omega (arith, inv.more, inv.below, c.saturating_add-last.ensures, c.requires.some), one_turned p q r run (q.turns - p.turns) had inv.start (can_turn c.each_ask_is_orderly.ensures.orderly q _ c.turns.self.fits alone inv.live had.is) turns)) c.turn_moved-2.ensures.run

pub returns-then-not-turn_alone-clause-turned : goal.returns-then-not-turn_alone-clause-turned
returns-then-not-turn_alone-clause-turned c =
    let each = c.each_ask_is_orderly.ensures.orderly in
    let p = parts c.args.self.now in let q = parts c.turns.self in let r = parts c.turn_alone.new.self in let f = parts c.turn_moved.new.self in
    let inv = c.turns.invariant in
    let m = c.if-not-turn_alone.ensures.turns in
    let alone : q.start.settings.harts ≡ 1 = ap (λ (x : Start). x.settings.harts) inv.start ∙ c.requires.alone in
    on_ok_weaker c.turn_moved.result (λ turns run is.
    let had = inv.turned run is in (
      q.turns - p.turns + 1,
      omega arith,
      omega (arith, inv.more, inv.below, c.saturating_add-last.ensures, c.requires.some),
      one_turned p q f run (q.turns - p.turns) had inv.start (can_turn each q _ c.turns.self.fits alone inv.live had.is)
          (λ x xs. moved_turn each q r f c.turns.self.fits c.turn_alone.new.self.fits alone inv.live m c.turn_moved.ensures.start turns x xs),
    )) c.turn_moved.ensures.run

pub returns-clause-stopped : goal.returns-clause-stopped
returns-clause-stopped c =
    let p = parts c.args.self.now in let q = parts c.turns.self in let r = parts c.turn_moved-2.new.self in
    let inv = c.turns.invariant in
    let alone : q.start.settings.harts ≡ 1 = ap (λ (x : Start). x.settings.harts) inv.start ∙ c.requires.alone in
    on_err_weaker c.turn_moved-2.result (λ stays run is.
    let had = inv.turned run is in
    could_more p q r run (q.turns - p.turns) c.args.most had inv.start (can_turn c.each_ask_is_orderly.ensures.orderly q _ c.turns.self.fits alone inv.live had.is)
    ((stays _ had.is).turns ∙ sym had.is.turns) (omega (arith, inv.more, inv.below, c.saturating_add-last.ensures, c.requires.some))) c.turn_moved-2.ensures.refused

pub returns-then-not-turn_alone-clause-stopped : goal.returns-then-not-turn_alone-clause-stopped
returns-then-not-turn_alone-clause-stopped c =
    let p = parts c.args.self.now in let q = parts c.turns.self in let r = parts c.turn_alone.new.self in let f = parts c.turn_moved.new.self in
    let inv = c.turns.invariant in
    let m = c.if-not-turn_alone.ensures.turns in
    let alone : q.start.settings.harts ≡ 1 = ap (λ (x : Start). x.settings.harts) inv.start ∙ c.requires.alone in
    on_err_weaker c.turn_moved.result (λ stays run is.
    let had = inv.turned run is in
    could_more p q f run (q.turns - p.turns) c.args.most had inv.start (can_turn c.each_ask_is_orderly.ensures.orderly q _ c.turns.self.fits alone inv.live had.is)
    (moved_stays q r f inv.live m stays _ had.is) (omega (arith, inv.more, inv.below, c.saturating_add-last.ensures, c.requires.some))) c.turn_moved.ensures.refused
