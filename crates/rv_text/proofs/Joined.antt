-- The parts of a row's line are the line.
use Rattle.std.proofs.Common.{◌≡◌, ℕ, List, ◌++◌, Option, Some, None, ◌∙◌, ap, sym, subst, append_assoc}
use Rattle.std.proofs.lemmas.List.{append-nil}
use Rattle.std.specs.Prelude.{codes, decimal}
use Rattle.bn_base.specs.declared.fault.Fault.{Fault}
use Rattle.bn_base.specs.declared.row.Row.{Row}
use Rattle.rv_decode.specs.Table.{decoded}
use Rattle.rv_text.specs.Instructions.{hex8}
use Rattle.rv_text.specs.Rows.{point_text, word_text, code_text, shown_word, changes_text, fault_text, row_text}
use Rattle.rv_text.specs.Lines.{count_text, place_text, joined_text}

regroup : (a s x c : List ℕ) → ((a ++ s) ++ x) ++ c ≡ a ++ ((s ++ x) ++ c)
regroup a s x c = append_assoc (a ++ s) x c ∙ append_assoc a s (x ++ c) ∙ ap (λ (t : List ℕ). a ++ t) (sym (append_assoc s x c))

start : (hart ic pc word : ℕ) → count_text hart ic ++ place_text pc word ≡ point_text hart ic pc ++ word_text pc word (decoded word)
unfolding count_text place_text point_text
start hart ic pc word = sym (regroup (decimal hart ++ codes " " ++ decimal ic) (codes " ") (hex8 pc) (word_text pc word (decoded word)))

changes : (reg load store : Option (ℕ × ℕ)) → changes_text reg load store ≡ changes_text reg load store ++ fault_text None
unfolding fault_text
changes reg load store = sym (append-nil (changes_text reg load store))

-- a row's line, of its fields
abbrev line_of : (hart ic pc : ℕ) → Option (Fault × ℕ) → Option ℕ → (reg load store : Option (ℕ × ℕ)) → List ℕ
line_of hart ic pc fault word reg load store =
    point_text hart ic pc ++ code_text pc fault (shown_word fault word) ++ (changes_text reg load store ++ fault_text fault) ++ codes "\n"

done : (hart ic pc w : ℕ) (reg load store : Option (ℕ × ℕ))
    → count_text hart ic ++ place_text pc w ++ changes_text reg load store ++ codes "\n" ≡ line_of hart ic pc None (Some w) reg load store
done hart ic pc w reg load store =
    ap (λ (t : List ℕ). t ++ changes_text reg load store ++ codes "\n") (start hart ic pc w)
    ∙ ap (λ (t : List ℕ). point_text hart ic pc ++ word_text pc w (decoded w) ++ t ++ codes "\n") (changes reg load store)

told : (hart ic pc w : ℕ) (fault : Option (Fault × ℕ)) (word : Option ℕ) (reg load store : Option (ℕ × ℕ)) → fault ≡ None → word ≡ Some w
    → count_text hart ic ++ place_text pc w ++ changes_text reg load store ++ codes "\n" ≡ line_of hart ic pc fault word reg load store
told hart ic pc w fault word reg load store e d =
    let line : List ℕ = count_text hart ic ++ place_text pc w ++ changes_text reg load store ++ codes "\n" in
    subst (λ (f : Option (Fault × ℕ)). line ≡ line_of hart ic pc f word reg load store) (sym e)
    (subst (λ (o : Option ℕ). line ≡ line_of hart ic pc None o reg load store) (sym d) (done hart ic pc w reg load store))

pub joined : (r : Row) (w : ℕ) → r.fault ≡ None → r.word ≡ Some w → joined_text r w ≡ row_text r
unfolding joined_text row_text
joined r w e d = told r.hart r.ic r.pc w r.fault r.word r.reg r.load r.store e d
