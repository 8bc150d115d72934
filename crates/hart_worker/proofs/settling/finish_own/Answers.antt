use Rattle.hart_worker.proofs.Common.{◌≡◌, ◌∙◌, ◌++◌, true, false, sym, subst, inr, harts_of, Began, list_rows, seeded_after}
use Rattle.hart_worker.proofs.OwnRuns.{kept_of}
use Rattle.hart_worker.proofs.settling.finish_own.Goals as goal

pub returns-then-closed-clause-run : goal.returns-then-closed-clause-run
returns-then-closed-clause-run g c = λ t.
    let bus = c.args.bus in
    let b = harts_of bus.rows in
    let running : bus.halted ≡ false = sym c.finish.ensures.halted ∙ c.close_own-closed.ensures.running c.if-closed.true in
    let taken = c.requires.taken t running in
    let e = c.in_ok-finish.ensures in
    c.close_own-closed.ensures.run (b ++ seeded_after bus.began b 0) (e.added b taken).taken (e.finished b taken) t

pub returns-then-closed-clause-by_seed : goal.returns-then-closed-clause-by_seed
returns-then-closed-clause-by_seed g c = λ t.
    let bus = c.args.bus in
    let b = harts_of bus.rows in
    let running : bus.halted ≡ false = sym c.finish.ensures.halted ∙ c.close_own-closed.ensures.running c.if-closed.true in
    let taken = c.requires.taken t running in
    let all = g.B.Book.told c.close_own-closed.result.book in
    let is = c.close_own-closed.ensures.rows ∙ (c.in_ok-finish.ensures.added b taken).taken.rows t in
    let here : all ≡ list_rows bus.began (b ++ seeded_after bus.began b 0) = subst (λ (x : Began). all ≡ list_rows x (b ++ seeded_after bus.began b 0)) c.finish.ensures.began is in
    inr (subst (λ (x : Began). all ≡ list_rows x (b ++ seeded_after x b 0)) c.requires.began here)

pub returns-then-closed-clause-keeps : goal.returns-then-closed-clause-keeps
returns-then-closed-clause-keeps g c = λ t running.
    let bus = c.args.bus in
    let b = harts_of bus.rows in
    let taken = c.requires.taken t running in
    let more = seeded_after bus.began b 0 in
    let all = g.B.Book.told c.close_own-closed.result.book in
    let is : all ≡ list_rows bus.began (b ++ more) =
    subst (λ (x : Began). all ≡ list_rows x (b ++ more)) c.finish.ensures.began (c.close_own-closed.ensures.rows ∙ (c.in_ok-finish.ensures.added b taken).taken.rows t) in
    kept_of c.lists_go_on.ensures bus.began bus.rows more all (taken.rows t) is

pub returns-clause-keeps : goal.returns-clause-keeps
returns-clause-keeps g c = λ t running.
    let bus = c.args.bus in
    let b = harts_of bus.rows in
    let taken = c.requires.taken t running in
    let e = c.in_ok-finish.ensures in
    let is : true ≡ false = sym (c.close_own-closed.ensures.finished (b ++ seeded_after bus.began b 0) (e.added b taken).taken (e.finished b taken)) ∙ c.if-closed.false in
    absurd (cc)
