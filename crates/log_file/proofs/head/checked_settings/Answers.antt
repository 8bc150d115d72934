use Rattle.log_file.proofs.Common.{sym, ap, ◌∙◌, checked, magic}
use Rattle.log_file.proofs.Heads.{fault_none}
use Rattle.log_file.proofs.head.checked_settings.Goals as goal

pub returns-in-None-clause-ok : goal.returns-in-None-clause-ok
unfolding magic
returns-in-None-clause-ok c =
    fault_none c.args.signed.now c.args.kept.now c.in-Ok.settings (sym c.same.ensures ∙ c.if-not-same.false) (sym c.read_u32-version.ensures ∙ c.if-version-ne-VERSION.false)
    (sym (ap checked c.settings_in.ensures) ∙ sym c.checked.ensures ∙ c.in-Ok.is) (sym c.later_fault.ensures ∙ c.in-None.is)
