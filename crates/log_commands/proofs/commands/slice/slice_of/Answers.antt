use Rattle.log_commands.proofs.Common.{inr, Ok, Err, ◌≡◌, ℕ, List, ap, inl, Result, Program, Content, FileNames, slice_told, slice_with}
use Rattle.slice_back.specs.declared.error.SliceError.TheVariants as back
use Rattle.slice_back.specs.Texts.{IsTextAnswer}
use Rattle.slice_back.specs.declared.error.SliceError.{SliceError}
use Rattle.log_commands.proofs.commands.slice.slice_of.Goals as goal

-- Slices.
-- what a slice comes to is told, unless memory ran out
slice-so : (names : FileNames) (hart interval ic : ℕ) (d : Content) (i : Program) (r : Result (List ℕ) SliceError) → (r ≡ Err back.OutOfMemory → ⊥) → IsTextAnswer i d.records hart interval ic r → slice_told names r ≡ slice_with names hart interval ic d i
slice-so names hart interval ic d i r other (inl is) = ap (λ (x : Result (List ℕ) SliceError). slice_told names x) is
slice-so names hart interval ic d i r other (inr is) = absurd (other is.0)

pub returns-in-Ok : goal.returns-in-Ok
returns-in-Ok c = record {
  gives = λ names. slice-so names c.args.hart c.args.interval c.args.ic c.args.reading.now.log c.args.reading.now.image (Ok c.in-Ok.text) (λ e. absurd cc) c.in-Ok.ensures;
  own = λ before now. tt;
  kind = tt;
}

pub returns-in-Err-Replay : goal.returns-in-Err-Replay
returns-in-Err-Replay c = record {
  gives = λ names. inr (slice-so names c.args.hart c.args.interval c.args.ic c.args.reading.now.log c.args.reading.now.image (Err (back.Replay c.in-Err-Replay.error)) (λ e. absurd cc) (rw c.in-Err-Replay.field-0-is at c.in-Err-Replay.ensures));
  own = λ before now. tt;
  kind = tt;
}

pub returns-in-Err-NoRow : goal.returns-in-Err-NoRow
returns-in-Err-NoRow c = record {
  gives = λ names. inr (slice-so names c.args.hart c.args.interval c.args.ic c.args.reading.now.log c.args.reading.now.image (Err (back.NoRow c.in-Err-NoRow.ic)) (λ e. absurd cc) (rw c.in-Err-NoRow.field-0-is at c.in-Err-NoRow.ensures));
  own = λ before now. tt;
  kind = tt;
}
