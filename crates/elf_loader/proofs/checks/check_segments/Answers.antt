use Rattle.elf_loader.proofs.Common.{Some, ap, sym, ◌∙◌, Truncated}
use Rattle.elf_loader.proofs.Refused.{refusal-cut_off, refusal-outside, refusal-touching, refusal-empty, refusal-none}
use Rattle.elf_loader.proofs.checks.check_segments.Goals as goal

pub returns-in-Some : goal.returns-in-Some
returns-in-Some c =
    ap (λ n. Some (Truncated n c.args.length)) c.file_end.ensures ∙ sym (refusal-cut_off _ _ _ _ (sym c.in-Some.ensures))

pub returns-in-Some-outside : goal.returns-in-Some-outside
returns-in-Some-outside c = sym (refusal-outside _ _ _ _ (sym c.in_default.ensures) (sym c.in-Some-outside.ensures))

pub returns-in-Some-touching : goal.returns-in-Some-touching
returns-in-Some-touching c = sym (refusal-touching _ _ _ _ _ (sym c.in_default.ensures) (sym c.in_default-outside.ensures) (sym c.in-Some-touching.ensures))

pub returns-then-is_empty : goal.returns-then-is_empty
returns-then-is_empty c = sym (refusal-empty _ _ _ (sym c.in_default.ensures) (sym c.in_default-outside.ensures) (sym c.in_default-touching.ensures) (sym c.if-is_empty.ensures))

pub returns : goal.returns
returns c = sym (refusal-none _ _ _ (sym c.in_default.ensures) (sym c.in_default-outside.ensures) (sym c.in_default-touching.ensures) (sym c.if-is_empty.ensures))
