use Rattle.log_record.proofs.Common.{arith, ◌≡◌, ◌∙◌, ℕ, List, [], ◌∷◌, ◌++◌, length, take, drop, ap, append-nil, number_bytes}
use Rattle.log_record.proofs.writing.write_edge.Goals as goal

-- eight bytes in the place of eight, and eight more in the place of those after the byte that follows them
written_twice : (hart from : ℕ) (xs ys : List ℕ) → length xs ≡ 8
    → take 11 (5 ∷ hart ∷ xs ++ from ∷ 0 ∷ 0 ∷ 0 ∷ 0 ∷ 0 ∷ 0 ∷ 0 ∷ 0 ∷ []) ++ ys ++ drop 19 (5 ∷ hart ∷ xs ++ from ∷ 0 ∷ 0 ∷ 0 ∷ 0 ∷ 0 ∷ 0 ∷ 0 ∷ 0 ∷ []) ≡ 5 ∷ hart ∷ (xs ++ from ∷ ys)
written_twice hart from [] ys eight = grind arith
written_twice hart from (a ∷ []) ys eight = grind arith
written_twice hart from (a ∷ b ∷ []) ys eight = grind arith
written_twice hart from (a ∷ b ∷ c ∷ []) ys eight = grind arith
written_twice hart from (a ∷ b ∷ c ∷ d ∷ []) ys eight = grind arith
written_twice hart from (a ∷ b ∷ c ∷ d ∷ e ∷ []) ys eight = grind arith
written_twice hart from (a ∷ b ∷ c ∷ d ∷ e ∷ f ∷ []) ys eight = grind arith
written_twice hart from (a ∷ b ∷ c ∷ d ∷ e ∷ f ∷ g ∷ []) ys eight = grind arith
written_twice hart from (a ∷ b ∷ c ∷ d ∷ e ∷ f ∷ g ∷ h ∷ []) ys eight = append-nil (5 ∷ hart ∷ a ∷ b ∷ c ∷ d ∷ e ∷ f ∷ g ∷ h ∷ from ∷ ys)
written_twice hart from (a ∷ b ∷ c ∷ d ∷ e ∷ f ∷ g ∷ h ∷ i ∷ xs) ys eight = grind arith

pub returns-clause-bytes : goal.returns-clause-bytes
returns-clause-bytes c =
    c.write_u64-2.ensures ∙ ap (λ (xs : List ℕ). take 11 xs ++ number_bytes 8 c.args.from_ic ++ drop 19 xs) c.write_u64.ensures
    ∙ written_twice c.args.hart c.args.from (number_bytes 8 c.args.ic) (number_bytes 8 c.args.from_ic) (c.numbers_have_their_width.ensures 8 c.args.ic)
