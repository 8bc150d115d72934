use Rattle.bugnet.proofs.Common.{sym, ◌∙◌, is_clash}
use Rattle.bugnet.proofs.Begins.{bad-refused, clash-refused, words-taken}
use Rattle.bugnet.proofs.commands.record.tested.Goals as goal

pub returns-in-Err-clause-refused : goal.returns-in-Err-clause-refused
returns-in-Err-clause-refused c =
    bad-refused c.args.settings.now (is_clash c.args.lean c.args.names.now.log c.args.names.now.book) c.in-Err.bad (sym c.checked.ensures ∙ c.in-Err.is)

pub returns-then-clashes-clause-refused : goal.returns-then-clashes-clause-refused
returns-then-clashes-clause-refused c =
    clash-refused c.args.settings.now c.in-Ok.settings (is_clash c.args.lean c.args.names.now.log c.args.names.now.book) (sym c.checked.ensures ∙ c.in-Ok.is) (rw (sym c.names.view_is) (sym c.clashes.ensures ∙ c.if-clashes.true))

pub returns-else-clashes-clause-ok : goal.returns-else-clashes-clause-ok
returns-else-clashes-clause-ok c =
    words-taken c.args.settings.now c.in-Ok.settings (is_clash c.args.lean c.args.names.now.log c.args.names.now.book) (sym c.checked.ensures ∙ c.in-Ok.is) (rw (sym c.names.view_is) (sym c.clashes.ensures ∙ c.if-clashes.false))
