use Rattle.whole_runs.proofs.Common.{◌∙◌, ap, sym, subst, Option, Bool, IfSome, Ask, Reply, place_at, taken_after}
use Rattle.whole_runs.proofs.Own.{driven_first, driven_more, led_first, led_more}
use Rattle.whole_runs.proofs.turn_port.drive.Goals as goal

pub loop-init : goal.loop-init
loop-init g c = record {
  driven = driven_first g.D.TurnPort.tells c.args.settings.now c.args.code.now c.args.hart (place_at c.args.first) (g.D.TurnPort.taken c.args.port.now) c.requires.first;
  led = led_first g.D.TurnPort.answers c.args.settings.now c.args.code.now c.args.hart (place_at c.args.first);
}

pub loop-preserved : goal.loop-preserved
loop-preserved g c =
    let tells = g.D.TurnPort.tells in
    let ask = c.ask-ask.result in
    let first = place_at c.args.first in
    let place = place_at c.loop.place in
    let rows = g.D.TurnPort.taken c.loop.port in
    let more = c.in_ok-reply.ensures.taken ∙ ap (λ (o : Option (Reply × Bool)). taken_after tells rows c.args.hart ask o) c.in-Some-2.is in
    let may = subst (λ (o : Option (Reply × Bool)). IfSome o (λ r. g.D.TurnPort.answers c.args.hart ask r)) c.in-Some-2.is c.in_ok-reply.ensures.answered in
    record {
      driven = driven_more c.own_rows_grow.ensures tells c.args.settings.now c.args.code.now c.args.hart first rows place ask (c.in-Some-2.reply, c.in-Some-2.guarded) _ _ c.loop.invariant.driven c.ask-ask.ensures more c.after-place.ensures;
      led = led_more c.own_rows_grow.ensures g.D.TurnPort.answers c.args.settings.now c.args.code.now c.args.hart first place ask c.in-Some-2.reply c.in-Some-2.guarded _ c.loop.invariant.led c.ask-ask.ensures may c.after-place.ensures;
    }

pub turn-requires : goal.turn-requires
turn-requires g c = subst (λ (a : Ask). g.D.TurnPort.takes (place_at c.loop.place) a) (sym c.ask-ask.ensures) (c.requires.asks (place_at c.loop.place))
