use Rattle.std.proofs.Common.{◌≡◌, ◌+◌, ◌/◌, ◌%◌, ◌∙◌, ◌++◌, [], ◌∷◌, ℕ, List, subst, sym, ap, append_assoc}
use Rattle.std.specs.Prelude.{OnOk}
use Rattle.rv_text.specs.Lines.{count_text}
use Rattle.rv_text.proofs.Counted.{count-step, not_zero}
use Rattle.rv_text.proofs.counts.CountText.write_anew.Goals as goal

pub returns-then-not-is_empty-clause-ok : goal.returns-then-not-is_empty-clause-ok
returns-then-not-is_empty-clause-ok c =
    let k = c.self.inside in
    let hart = c.args.hart in let ic = c.args.ic in
    let piece : k.piece ≡ count_text hart (ic / 100) =
    c.self.invariant.0 (not_zero _ (sym c.is_empty.ensures ∙ c.if-not-is_empty.true)) ∙ ap (λ (h : ℕ). count_text h k.hundreds) c.if-self-hart.true ∙ ap (λ (n : ℕ). count_text hart n) c.if-self-ic.true in
    subst (λ (t : List ℕ). OnOk c.append_with.result (c.append_with.new.text ≡ c.args.text.now ++ t))
    (ap (λ (t : List ℕ). t ++ ((48 + ic % 100 / 10) ∷ (48 + ic % 100 % 10) ∷ [])) piece ∙ sym (count-step hart ic c.requires.0 c.requires.1)) c.append_with.ensures.ok

pub returns-clause-ok : goal.returns-clause-ok
returns-clause-ok c =
    let hart = c.args.hart in let ic = c.args.ic in
    let digits : List ℕ = (48 + ic % 100 / 10) ∷ (48 + ic % 100 % 10) ∷ [] in
    subst (λ (t : List ℕ). OnOk c.push_bytes.result (c.push_bytes.new.self ≡ t))
    (ap (λ (t : List ℕ). t ++ digits) c.in_ok-renew.ensures.ok ∙ append_assoc c.args.text.now (count_text hart (ic / 100)) digits ∙ ap (λ (t : List ℕ). c.args.text.now ++ t) (sym (count-step hart ic c.requires.0 c.requires.1))) c.push_bytes.ensures.ok
