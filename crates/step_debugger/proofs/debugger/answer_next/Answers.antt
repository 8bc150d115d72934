use Rattle.step_debugger.proofs.Common.{◌≡◌, ℕ, Bool, true, false, List, ◌∙◌, subst, sym, inl, Ok, ReadNote, Stream, Supply, DebugError, Ending, GoesOn, Reading, NextLine, command_of, Session, answer, IsAnswered, SendsPart, Stops, AnswersLine, CutsLine, TakesLine, refl, inr}
use Rattle.step_debugger.proofs.debugger.answer_next.Goals as goal

module _ {s next : Session} {old new : Reading} {input now_input : Supply} {note : ReadNote} {out now_out : Stream} {whole : Bool} where
  -- the line that is read is the one that is answered
  answered : {line : List ℕ} {told ending : Ending} → NextLine old input now_input note out (Ok whole) new → line ≡ new.line → told ≡ ending → IsAnswered line s next out now_out (Ok told)
      → AnswersLine s next old new input now_input note out now_out whole ending
  answered {told = told} read is ends h =
      let k = subst (λ (x : List ℕ). IsAnswered x s next out now_out (Ok told)) is h in
      record { read = read; sent = k.0; session = k.1.0; ends = sym k.1.1 ∙ ends }

  -- the session continues after a line that ends with LF
  goes_on : AnswersLine s next old new input now_input note out now_out whole GoesOn → TakesLine s next old new input now_input note out now_out (Ok whole)
  goes_on a = by whole a
    where
      by : (w : Bool) → AnswersLine s next old new input now_input note out now_out w GoesOn → TakesLine s next old new input now_input note out now_out (Ok w)
      by true a = a
      by false a = inl a

-- or whose answer an error stops
cut : {s : Session} {old new : Reading} {input now_input : Supply} {note : ReadNote} {out now_out : Stream} {whole : Bool} {line : List ℕ} {e : DebugError} → NextLine old input now_input note out (Ok whole) new → line ≡ new.line
    → SendsPart e out.text now_out.text (answer s (command_of line)).text × Stops out now_out e → CutsLine s old new input now_input note out now_out whole e
cut {s = s} {out = out} {now_out = now_out} {e = e} read is h = record { read = read; sent = subst (λ (x : List ℕ). SendsPart e out.text now_out.text (answer s (command_of x)).text) is h.0; stops = h.1 }

pub returns-in-Err-answer-clause-taken : goal.returns-in-Err-answer-clause-taken
returns-in-Err-answer-clause-taken g c = inr (inl (c.in-Ok.whole, cut c.in-Ok.ensures.read c.line.ensures c.in-Err-answer.ensures.sent))

pub returns-in-GoesOn-clause-taken : goal.returns-in-GoesOn-clause-taken
returns-in-GoesOn-clause-taken g c = goes_on (answered c.in-Ok.ensures.read c.line.ensures c.in-GoesOn.is c.in-Ok-answer.ensures.sent)

pub returns-in-Quits-clause-taken : goal.returns-in-Quits-clause-taken
returns-in-Quits-clause-taken g c = inr (c.in-Ok.whole, answered c.in-Ok.ensures.read c.line.ensures c.in-Quits.is c.in-Ok-answer.ensures.sent)

pub returns-in-Refused-clause-taken : goal.returns-in-Refused-clause-taken
returns-in-Refused-clause-taken g c = inr (inr (c.in-Ok.whole, c.in-Refused.error, refl, answered c.in-Ok.ensures.read c.line.ensures c.in-Refused.is c.in-Ok-answer.ensures.sent))
