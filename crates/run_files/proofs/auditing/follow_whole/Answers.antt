use Rattle.run_files.proofs.Common.{None, Some, ap, inl, inr, refl, Start, Run, start, IsRun, parts}
use Rattle.run_files.proofs.Followed.{kept_run, kept_error, kept_stand, never_memory, any_err, that_err}
use Rattle.run_files.proofs.auditing.follow_whole.Goals as goal

pub returns-clause-run : goal.returns-clause-run
returns-clause-run c =
    let from = c.args.from.now in let p = c.args.plain.now in
    kept_run (λ (r : Run). IsRun (parts c.follow.new.plain) r) p.start.settings from.settings p.start.image from.image (start from.settings from.image from.input.items) c.args.list.now
    c.requires.settings c.requires.image (c.in_ok-follow.ensures.run _ c.requires.run)

pub returns-clause-whole : goal.returns-clause-whole
returns-clause-whole c =
    let from = c.args.from.now in let p = c.args.plain.now in
    kept_error p.start.settings from.settings c.follow.new.plain.start.settings p.start.image from.image (start from.settings from.image from.input.items) c.args.list.now c.unfinished.result None
    c.requires.settings c.requires.image (ap (λ (s : Start). s.settings) c.follow.ensures.start) (c.in_ok-follow.ensures.legal _ c.requires.run) (c.unfinished.ensures _ (c.in_ok-follow.ensures.run _ c.requires.run)) c.in-None.is

pub returns-in-Some-clause-refused : goal.returns-in-Some-clause-refused
returns-in-Some-clause-refused c =
    let from = c.args.from.now in let p = c.args.plain.now in
    inr (kept_error p.start.settings from.settings c.follow.new.plain.start.settings p.start.image from.image (start from.settings from.image from.input.items) c.args.list.now c.unfinished.result (Some c.in-Some.error)
    c.requires.settings c.requires.image (ap (λ (s : Start). s.settings) c.follow.ensures.start) (c.in_ok-follow.ensures.legal _ c.requires.run) (c.unfinished.ensures _ (c.in_ok-follow.ensures.run _ c.requires.run)) c.in-Some.is)

pub returns-in_err-code-clause-memory : goal.returns-in_err-code-clause-memory
returns-in_err-code-clause-memory c = any_err _ c.from_residual.result (λ e m. inl refl)

pub returns-in_err-follow-clause-memory : goal.returns-in_err-follow-clause-memory
returns-in_err-follow-clause-memory c =
    let from = c.args.from.now in let p = c.args.plain.now in
    that_err _ _ c.from_residual-in_err-follow.result c.from_residual-in_err-follow.ensures.1 (λ m.
    inr (kept_stand p.start.settings from.settings p.start.image from.image (start from.settings from.image from.input.items) c.args.list.now (parts c.follow.new.plain)
    c.requires.settings c.requires.image (c.in_err-follow.ensures.memory m _ c.requires.run)))

pub returns-in-Some-clause-memory : goal.returns-in-Some-clause-memory
returns-in-Some-clause-memory c = λ e. never_memory _ c.unfinished.result c.in-Some.error (c.unfinished.ensures _ (c.in_ok-follow.ensures.run _ c.requires.run)) c.in-Some.is e
