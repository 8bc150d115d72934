use Rattle.whole_runs.proofs.Common.{◌∙◌, ℕ, List, [], ap, subst, IfOk, IfOk-weaker, TurnRow, Began, began_of, IsListed, IsOfRows, seeded_after}
use Rattle.whole_runs.proofs.Chosen.{listed_so}
use Rattle.whole_runs.proofs.Whole.{seeded_is, taken_none}
use Rattle.whole_runs.proofs.runs.run_listed.Goals as goal

pub listed_alone-requires-clause-start : goal.listed_alone-requires-clause-start
listed_alone-requires-clause-start g c =
    let n = c.in_ok-bus.ensures in
    taken_none g.B.Book.tells c.in_ok-bus.bus (began_of c.args.from.now) n.began n.state n.rows n.flags.0 n.flags.1

pub returns-then-harts-eq1-clause-run : goal.returns-then-harts-eq1-clause-run
returns-then-harts-eq1-clause-run g c =
    let b = began_of c.args.from.now in
    let seed = c.args.seed in
    IfOk-weaker c.listed_alone.result _ _ (λ run says.
    let rows = g.B.Book.told run.closed.book in
    subst (λ (xs : List ℕ). IsListed g.B.Book.tells c.args.keeps b xs run rows) (seeded_is b seed) (subst (λ (x : Began). IsListed g.B.Book.tells c.args.keeps x (seeded_after x [] seed) run rows) c.in_ok-bus.ensures.began (says seed))) c.listed_alone.ensures.run

pub returns-then-harts-eq1-clause-of_rows : goal.returns-then-harts-eq1-clause-of_rows
returns-then-harts-eq1-clause-of_rows g c =
    subst (λ (x : Began). IfOk c.listed_alone.result (λ run. (rows : List TurnRow) × IsOfRows x run.closed rows)) c.in_ok-bus.ensures.began c.listed_alone.ensures.of_rows

pub returns-clause-run : goal.returns-clause-run
returns-clause-run g c =
    let n = c.in_ok-bus.ensures in
    let b = began_of c.args.from.now in
    let start = taken_none g.B.Book.tells c.in_ok-bus.bus b n.began n.state n.rows n.flags.0 n.flags.1 in
    let added = c.in_ok-finish.ensures.added [] start in
    let list = seeded_after c.in_ok-bus.bus.began [] c.args.seed in
    let is = ap (λ (x : Began). seeded_after x [] c.args.seed) n.began ∙ seeded_is b c.args.seed in
    listed_so g.B.Book.tells c.args.keeps b c.finish.new.bus.began list _ c.new-list.result.items (record { closed = c.close.result; list = c.finish.new.list }) (g.B.Book.told c.close.result.book) (c.finish.ensures.began ∙ n.began) is c.new-list.ensures.items
    (c.close.ensures.closed list added.taken (c.in_ok-finish.ensures.finished [] start)) added.kept_is

pub returns-clause-of_rows : goal.returns-clause-of_rows
returns-clause-of_rows g c =
    let n = c.in_ok-bus.ensures in
    let start = taken_none g.B.Book.tells c.in_ok-bus.bus (began_of c.args.from.now) n.began n.state n.rows n.flags.0 n.flags.1 in
    let closed = c.close.ensures.closed (seeded_after c.in_ok-bus.bus.began [] c.args.seed) (c.in_ok-finish.ensures.added [] start).taken (c.in_ok-finish.ensures.finished [] start) in
    let some = c.close.ensures.of_rows closed.finished in
    (some.0, subst (λ (x : Began). IsOfRows x c.close.result some.0) (c.finish.ensures.began ∙ n.began) some.1)
