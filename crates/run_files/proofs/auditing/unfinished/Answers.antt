use Rattle.run_files.proofs.Common.{◌<◌, ◌≤◌, ◌∙◌, sym, ap, arith, Start}
use Rattle.run_files.proofs.Followed.{lowest_here, lowest_later, lowest_none}
use Rattle.run_files.proofs.auditing.unfinished.Goals as goal

pub returns-then-live : goal.returns-then-live
returns-then-live c = λ run is.
    let s = c.args.plain.now.start.settings in let k = c.loop-live.live in
    let ends = c.harts-live-end.ensures.value ∙ ap (λ (s : Start). s.settings.harts) c.start.ensures in
    let within : k < s.harts = omega (arith, c.loop-live-test.true, ends) in
    sym (c.loop-live.invariant.lowest run is ∙ lowest_here s run k within (sym (c.live.ensures.run run is) ∙ c.if-live.true))

pub loop-live-preserved : goal.loop-live-preserved
loop-live-preserved c =
    let s = c.args.plain.now.start.settings in let k = c.loop-live.live in
    let ends = c.harts-live-end.ensures.value ∙ ap (λ (s : Start). s.settings.harts) c.start.ensures in
    let within : k < s.harts = omega (arith, c.loop-live-test.true, ends) in
    record { lowest = λ run is. c.loop-live.invariant.lowest run is ∙ lowest_later s run k within (sym (c.live.ensures.run run is) ∙ c.if-live.false) }

pub returns : goal.returns
returns c = λ run is.
    let s = c.args.plain.now.start.settings in let k = c.loop-live.live in
    let ends = c.harts-live-end.ensures.value ∙ ap (λ (s : Start). s.settings.harts) c.start.ensures in
    let past : s.harts ≤ k = omega (arith, c.loop-live-test.false, ends) in
    sym (c.loop-live.invariant.lowest run is ∙ lowest_none s run k past)
