use Rattle.rv_decode.proofs.Common.{◌≡◌, ◌∙◌, ap, sym, subst, Some, ℕ, ◌+◌, decoded, encoded, fixed_of, laid}
use Rattle.rv_decode.specs.Seen.{seen}
use Rattle.rv_decode.proofs.Whole.{encoded_word, encoded_again}
use Rattle.rv_decode.proofs.encoding.encode.Goals as goal
use Rattle.rv_decode.proofs.encoding.encode.Goals.{After-laid}

sum_is : (c : After-laid) → c.fixed_of.result + c.laid.result ≡ encoded (seen c.args.instr.now)
sum_is c = ap (λ n. n + c.laid.result) c.fixed_of.ensures ∙ ap (λ n. fixed_of c.args.instr.now.name + n) (c.laid.ensures ∙ ap (λ f. laid f (seen c.args.instr.now)) c.format.ensures)

pub returns-clause-again : goal.returns-clause-again
returns-clause-again c = subst (λ (n : ℕ). decoded n ≡ Some (seen c.args.instr.now)) (sym (sum_is c)) (encoded_again c.requires.0 _ c.requires.1 c.requires.2)

pub returns-clause-only : goal.returns-clause-only
returns-clause-only c = λ w h e k. sum_is c ∙ encoded_word w _ h e k
