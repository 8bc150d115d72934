use Rattle.log_blocks.proofs.Common.{List, ℕ, sym, ap, ◌∙◌, arith, bytes_eq, checked, magic, settings_in}
use Rattle.log_file.proofs.Causes.{told}
use Rattle.log_blocks.proofs.Tested.{fault_behind}
use Rattle.log_blocks.proofs.head.checked_settings.Goals as goal

pub returns-in-None-clause-ok : goal.returns-in-None-clause-ok
unfolding magic
returns-in-None-clause-ok c =
    let known = sym (ap checked c.settings_in.ensures) ∙ sym c.checked.ensures ∙ c.in-Ok.is in
    let begins = ap (λ (t : List ℕ). bytes_eq t magic) (sym c.front.ensures) ∙ sym c.same.ensures ∙ c.if-not-same.false in (
      (told (settings_in c.args.bytes.now) c.in-Ok.settings known).0,
      fault_behind c.args.bytes.now c.in-Ok.settings (omega (arith, c.if-length-lt-HEAD_SIZE.false)) begins (sym c.read_u32-version.ensures ∙ c.if-version-ne-VERSION.false) known ∙ (sym c.later_fault.ensures ∙ c.in-None.is),
    )

pub returns-in-Some-clause-err : goal.returns-in-Some-clause-err
unfolding magic
returns-in-Some-clause-err c =
    let known = sym (ap checked c.settings_in.ensures) ∙ sym c.checked.ensures ∙ c.in-Ok.is in
    let begins = ap (λ (t : List ℕ). bytes_eq t magic) (sym c.front.ensures) ∙ sym c.same.ensures ∙ c.if-not-same.false in
    fault_behind c.args.bytes.now c.in-Ok.settings (omega (arith, c.if-length-lt-HEAD_SIZE.false)) begins (sym c.read_u32-version.ensures ∙ c.if-version-ne-VERSION.false) known ∙ (sym c.later_fault.ensures ∙ c.in-Some.is)
