use Rattle.std.proofs.Common.{◌∙◌, refl}
use Rattle.whole_runs.proofs.Chosen.{way_first, way_next, way_last}
use Rattle.whole_runs.proofs.Taken.{taken_turn}
use Rattle.whole_runs.proofs.chooser.take_chosen.Goals as goal

pub returns-in-None-clause-added : goal.returns-in-None-clause-added
returns-in-None-clause-added g c = λ list h f.
    (way_last g.C.Chooser.ends g.C.Chooser.fits g.C.Chooser.turns g.B.Book.tells c.args.keeps c.args.bus.now.began c.choosing.bus.began list _ c.args.list.now.items c.choosing.bus c.choosing.list.items c.choosing.now c.next.new.self c.choosing.invariant.began c.in-None.ensures.first (c.choosing.invariant.way list h f)).0

pub returns-in-None-clause-finished : goal.returns-in-None-clause-finished
returns-in-None-clause-finished g c = λ ends list h f.
    (way_last g.C.Chooser.ends g.C.Chooser.fits g.C.Chooser.turns g.B.Book.tells c.args.keeps c.args.bus.now.began c.choosing.bus.began list _ c.args.list.now.items c.choosing.bus c.choosing.list.items c.choosing.now c.next.new.self c.choosing.invariant.began c.in-None.ensures.first (c.choosing.invariant.way list h f)).1 ends

pub choosing-init : goal.choosing-init
choosing-init g c = record {
  began = refl;
  halted = refl;
  way = λ list h f. way_first g.C.Chooser.fits g.C.Chooser.turns g.B.Book.tells c.args.keeps c.args.bus.now.began list c.args.list.now.items c.args.bus.now c.args.chooser h f;
}

pub choosing-preserved : goal.choosing-preserved
choosing-preserved g c =
    let some = c.in-Some.ensures in
    let t = c.in_ok-take_turn-in-Some.ensures in
    let e = c.take_turn.ensures in
    let takes = taken_turn g.B.Book.tells c.choosing.bus c.take_turn.new.self c.in-Some.hart some.live some.within t.state t.told e.began e.disordered e.halted in
    record {
      began = e.began ∙ c.choosing.invariant.began;
      halted = e.halted ∙ c.choosing.invariant.halted;
      way = λ list h f.
          way_next g.C.Chooser.ends g.C.Chooser.fits g.C.Chooser.turns g.B.Book.tells c.args.keeps c.args.bus.now.began c.choosing.bus.began list _ c.args.list.now.items c.choosing.bus c.take_turn.new.self c.choosing.list.items _ c.choosing.now c.next.new.self c.in-Some.hart c.choosing.invariant.began some.first takes
          c.in_ok-keep-in-Some.ensures (c.choosing.invariant.way list h f);
    }
