-- The examples, by computation.
use Rattle.row_laws.proofs.Common.{◌≡◌, [], ◌∷◌, Some, None, refl, arith, drop, map, take, start_state, serve, Fills, state_after, word_told}
use Rattle.run_model.specs.Examples.{a_filled_word, program_of, rows}
use Rattle.row_laws.specs.Examples.{read_row, read_state}

pub read_is : take 1 (drop 6 (rows a_filled_word 1)) ≡ read_row ∷ []
unfolding serve
read_is = refl

pub state_is : state_after (program_of a_filled_word) (start_state a_filled_word.settings (program_of a_filled_word) 1) (take 6 (rows a_filled_word 1)) ≡ read_state
unfolding serve
state_is = refl

pub fills_is : Fills read_state read_row 0x20000
fills_is = record {
  count = 4;
  row = record { ecall = refl; number = refl; file = refl; answered = refl; low = omega arith; high = omega arith };
  byte = record { own = refl; from = omega arith; to = omega arith };
}

pub told_is : map (λ r. word_told r 0x20000) (rows a_filled_word 0) ≡ None ∷ None ∷ Some 0 ∷ Some 0x7a797877 ∷ None ∷ None ∷ []
unfolding serve
told_is = refl
