use Rattle.std.proofs.Common.{◌≡◌, ◌+◌, ◌∙◌, ◌++◌, [], ◌∷◌, ℕ, List, subst, sym, ap, arith}
use Rattle.std.specs.Prelude.{OnOk}
use Rattle.rv_text.specs.Lines.{count_text, HasDigits}
use Rattle.rv_text.proofs.Counted.{counted, not_zero}
use Rattle.rv_text.proofs.counts.CountText.write_long.Goals as goal

pub returns-then-not-is_empty-clause-ok : goal.returns-then-not-is_empty-clause-ok
returns-then-not-is_empty-clause-ok c =
    let k = c.self.inside in
    let hart = c.args.hart in
    let piece : k.piece ≡ count_text hart k.hundreds =
    c.self.invariant.0 (not_zero _ (sym c.is_empty.ensures ∙ c.if-not-is_empty.true)) ∙ ap (λ (h : ℕ). count_text h k.hundreds) c.if-self-hart.true in
    let d = c.self.invariant.1 in
    let digits : HasDigits k.hundreds c.args.ic k.tens (k.ones + 1) = record {
      is = omega (arith, d.is, d.ones_low, c.if-self-ic.true, c.requires.0);
      tens_low = d.tens_low;
      tens_high = d.tens_high;
      ones_low = omega (arith, d.ones_low);
      ones_high = omega (arith, c.if-self-lt57.true);
    } in
    subst (λ (t : List ℕ). OnOk c.append_with.result (c.append_with.new.text ≡ c.args.text.now ++ t))
    (ap (λ (t : List ℕ). t ++ (k.tens ∷ (k.ones + 1) ∷ [])) piece ∙ counted hart k.hundreds c.args.ic k.tens (k.ones + 1) c.requires.0 c.requires.1 digits) c.append_with.ensures.ok
