use Rattle.run_model.proofs.Common.{◌+◌, refl, sym, arith, ◌∙◌, on_ok_weaker, on_err_weaker, parts}
use Rattle.run_model.proofs.LoneTurns.{none_turned, one_turned, could_more, can_turn}
use Rattle.run_model.proofs.plain.Plain.one_alone.Goals as goal

pub returns-clause-turned : goal.returns-clause-turned
returns-clause-turned c =
    let p = parts c.args.self.now in let r = parts c.turn_moved.new.self in
    on_ok_weaker c.turn_moved.result (λ turns run is.
    (0 + 1, omega arith, omega arith, one_turned p p r run 0 (none_turned p run is) refl (can_turn c.each_ask_is_orderly.ensures.orderly p run c.args.self.now.fits c.requires.alone c.requires.live is) turns)) c.turn_moved.ensures.run

pub returns-clause-stopped : goal.returns-clause-stopped
returns-clause-stopped c =
    let p = parts c.args.self.now in let r = parts c.turn_moved.new.self in
    on_err_weaker c.turn_moved.result (λ stays run is.
    could_more p p r run 0 1 (none_turned p run is) refl (can_turn c.each_ask_is_orderly.ensures.orderly p run c.args.self.now.fits c.requires.alone c.requires.live is) ((stays run is).turns ∙ sym is.turns) (omega arith)) c.turn_moved.ensures.refused
