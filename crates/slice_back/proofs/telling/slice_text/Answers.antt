use Rattle.slice_back.proofs.Common.{◌≡◌, ℕ, List, Option, Some, None, ◌∙◌, ap, sym, refl, inl, inr, arith, IsSome, Result, Ok, Err, Program, Record, Interval, interval_of, replayed_in, slice_in, slice_text, text_of, IsTextAnswer, SliceError, OutOfMemory, Slice}
use Rattle.slice_back.specs.Answers.{IsAnswer}
use Rattle.slice_back.proofs.telling.slice_text.Goals as goal

not-both : (e : SliceError) (s : Slice) → ◌≡◌ {A = Result Slice SliceError} (Err e) (Ok s) → ⊥
not-both e s h = grind arith

-- an interval of which there is a slice is kept
kept-in : (i : Program) (h c ic : ℕ) (s : Slice) (o : Option Interval) → slice_in ic o (replayed_in i h c o) ≡ Ok s → IsSome o
kept-in i h c ic s None e = absurd (not-both _ s e)
kept-in i h c ic s (Some v) e = refl

-- why there is no slice
text-refused : (i : Program) (records : List Record) (h c ic : ℕ) (e : SliceError) → IsAnswer i records h c ic (Err e) → IsTextAnswer i records h c ic (Err e)
text-refused i records h c ic e (inl is) = inl (ap (λ (r : Result Slice SliceError). text_of h ic r) is)
text-refused i records h c ic e (inr is) = inr (ap (λ (r : Result Slice SliceError). text_of h ic r) is.0, is.1)

-- the text of a slice
text-made : (i : Program) (records : List Record) (h c ic : ℕ) (s : Slice) (text : List ℕ) → IsAnswer i records h c ic (Ok s) → text ≡ slice_text h ic s → IsTextAnswer i records h c ic (Ok text)
text-made i records h c ic s text (inl is) e = inl (ap (λ (t : List ℕ). Ok t) e ∙ ap (λ (r : Result Slice SliceError). text_of h ic r) is)
text-made i records h c ic s text (inr is) e = absurd (not-both OutOfMemory s (sym is.0))

-- there was no memory for it
text-unmade : (i : Program) (records : List Record) (h c ic : ℕ) (s : Slice) → IsAnswer i records h c ic (Ok s) → IsTextAnswer i records h c ic (Err OutOfMemory)
text-unmade i records h c ic s (inl is) = inr (refl, kept-in i h c ic s (interval_of h c records) (sym is))
text-unmade i records h c ic s (inr is) = absurd (not-both OutOfMemory s (sym is.0))

pub returns-in-Err : goal.returns-in-Err
returns-in-Err c = text-refused c.args.image.now c.args.log.now.records c.args.hart c.args.interval c.args.ic c.in-Err.error c.in-Err.ensures

pub returns-in-Ok-text_of : goal.returns-in-Ok-text_of
returns-in-Ok-text_of c = text-made c.args.image.now c.args.log.now.records c.args.hart c.args.interval c.args.ic c.in-Ok.made c.in-Ok-text_of.text c.in-Ok.ensures c.in-Ok-text_of.ensures

pub returns : goal.returns
returns c = text-unmade c.args.image.now c.args.log.now.records c.args.hart c.args.interval c.args.ic c.in-Ok.made c.in-Ok.ensures
