use Rattle.std.proofs.Common.{◌≡◌, ◌∙◌, ℕ, List, ◌++◌, [], ◌∷◌, Option, Some, None, is_some, not, false, ap, subst, refl}
use Rattle.std.specs.Prelude.{OnOk, codes}
use Rattle.rv_text.specs.Lines.{place_text, label_text, contents_text}
use Rattle.rv_text.specs.Rows.{labelled}
use Rattle.rv_text.proofs.lines.RowLines.write_rest.Goals as goal

-- no access has no text
no_accesses : (load store : Option (ℕ × ℕ)) (x : List ℕ) → is_some load ≡ false → is_some store ≡ false → x ≡ (labelled (codes " | load ") load ++ labelled (codes " | store ") store) ++ x
unfolding labelled
no_accesses None None x a b = refl
no_accesses None (Some v) x a b = absurd cc
no_accesses (Some v) store x a b = absurd cc

pub returns-then-is_none-2-clause-ok : goal.returns-then-is_none-2-clause-ok
returns-then-is_none-2-clause-ok c =
    let r = c.args.row.now in
    let load : is_some r.load ≡ false = c.is_none.ensures ∙ ap not c.if-is_none.true in
    let store : is_some r.store ≡ false = c.is_none-then-is_none.ensures ∙ ap not c.if-is_none-2.true in
    subst (λ (t : List ℕ). OnOk c.write_plain.result (c.write_plain.new.text ≡ c.args.text.now ++ (place_text r.pc c.args.word ++ label_text c.args.register ++ (contents_text r.reg ++ t)))) (no_accesses r.load r.store (10 ∷ []) load store) c.write_plain.ensures.ok
