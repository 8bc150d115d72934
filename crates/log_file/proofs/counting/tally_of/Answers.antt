use Rattle.std.proofs.Common.{arith, refl}
use Rattle.log_file.proofs.Walks.{break_is, is_tallied}
use Rattle.log_file.proofs.counting.tally_of.Goals as goal

pub returns-clause-tallied : goal.returns-clause-tallied
returns-clause-tallied c =
    let w = c.in_ok-walked.ensures.walked in
    is_tallied c.args.format c.args.settings.now c.args.dropped _ _ c.walk.new.harts c.args.bytes.now c.in_ok-walked.walked _ c.first_break-broken.result w
    (break_is c.args.settings.now c.args.dropped c.harts.result _ c.of.result c.fresh-views.result _ c.walk.new.harts w.records c.in_ok-walked.walked.broken c.first_break-broken.result (omega (arith, c.harts.ensures.room))
    c.harts.ensures.value refl c.of.ensures c.fresh-views.ensures refl w.ran (λ ran walked. c.first_break-broken.ensures w.records ran w.fit w.parts walked)) refl
