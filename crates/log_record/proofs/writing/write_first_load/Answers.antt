use Rattle.log_record.proofs.Common.{arith, ◌≡◌, ◌∙◌, ℕ, List, [], ◌∷◌, ◌++◌, length, take, drop, ap, append-nil, number_bytes}
use Rattle.log_record.proofs.writing.write_first_load.Goals as goal

-- four bytes in the place of four, and four more in the place of those after them
written_twice : (tag hart : ℕ) (xs ys : List ℕ) → length xs ≡ 4
    → take 6 (tag ∷ hart ∷ xs ++ 0 ∷ 0 ∷ 0 ∷ 0 ∷ []) ++ ys ++ drop 10 (tag ∷ hart ∷ xs ++ 0 ∷ 0 ∷ 0 ∷ 0 ∷ []) ≡ tag ∷ hart ∷ (xs ++ ys)
written_twice tag hart [] ys four = grind arith
written_twice tag hart (a ∷ []) ys four = grind arith
written_twice tag hart (a ∷ b ∷ []) ys four = grind arith
written_twice tag hart (a ∷ b ∷ c ∷ []) ys four = grind arith
written_twice tag hart (a ∷ b ∷ c ∷ d ∷ []) ys four = append-nil (tag ∷ hart ∷ a ∷ b ∷ c ∷ d ∷ ys)
written_twice tag hart (a ∷ b ∷ c ∷ d ∷ e ∷ xs) ys four = grind arith

pub returns-clause-bytes : goal.returns-clause-bytes
returns-clause-bytes c =
    c.write_u32-2.ensures ∙ ap (λ (xs : List ℕ). take 6 xs ++ number_bytes 4 c.args.value ++ drop 10 xs) c.write_u32.ensures
    ∙ written_twice 2 c.args.hart (number_bytes 4 c.args.skip) (number_bytes 4 c.args.value) (c.numbers_have_their_width.ensures 4 c.args.skip)
