-- One line of a session: it is read, and its answer is sent.
use Rattle.std.specs.Prelude.{◌≡◌, ◌⊎◌, Bool, true, false, Result, Ok, Err}
use Rattle.step_debugger.specs.Common.{Appends, ReadNote, Stream, Supply, JointError, Trace}
use Rattle.step_debugger.specs.declared.error.DebugError.{DebugError}
use Rattle.step_debugger.specs.declared.error.DebugError.TheVariants.{Joint, OutOfMemory}
use Rattle.step_debugger.specs.declared.session.Ending.{Ending}
use Rattle.step_debugger.specs.declared.session.Ending.TheVariants.{GoesOn, Quits, Refused}
use Rattle.step_debugger.specs.Commands.{command_of}
use Rattle.step_debugger.specs.Lines.{Reading, NextLine}
use Rattle.step_debugger.specs.Answers.{Session, answer}
use Rattle.step_debugger.specs.Goings.{IsRefusal, StaysUnrefused, Stops, SendsPart}

-- a line is read, and all of its answer is sent
pub record AnswersLine (s next : Session) (old new : Reading) (input now_input : Supply) (note : ReadNote) (out now_out : Stream) (whole : Bool) (ending : Ending) : Type 0 where
  pub read : NextLine old input now_input note out (Ok whole) new
  pub sent : Appends out.text now_out.text (answer s (command_of new.line)).text
  pub session : next ≡ (answer s (command_of new.line)).session
  pub ends : (answer s (command_of new.line)).ends ≡ ending

-- a line is read, and an error stops its answer
pub record CutsLine (s : Session) (old new : Reading) (input now_input : Supply) (note : ReadNote) (out now_out : Stream) (whole : Bool) (e : DebugError) : Type 0 where
  pub read : NextLine old input now_input note out (Ok whole) new
  pub sent : SendsPart e out.text now_out.text (answer s (command_of new.line)).text
  pub stops : Stops out now_out e

-- no line is read, and nothing is sent
pub record MissesLine (old new : Reading) (input now_input : Supply) (note : ReadNote) (out now_out : Stream) (e : DebugError) : Type 0 where
  pub read : NextLine old input now_input note out (Err e) new
  pub same : now_out ≡ out

-- one line of a session: it continues after it (`true`), or it ends with it or an error stops it, and nothing more is read
abbrev pub TakesLine : (s next : Session) → (old new : Reading) → (input now_input : Supply) → ReadNote → (out now_out : Stream) → Result Bool DebugError → Type 0
TakesLine s next old new input now_input note out now_out (Ok true) =
    AnswersLine s next old new input now_input note out now_out true GoesOn
TakesLine s next old new input now_input note out now_out (Ok false) =
    AnswersLine s next old new input now_input note out now_out false GoesOn
    ⊎ ((whole : Bool) × AnswersLine s next old new input now_input note out now_out whole Quits)
TakesLine s next old new input now_input note out now_out (Err e) =
    MissesLine old new input now_input note out now_out e
    ⊎ (((whole : Bool) × CutsLine s old new input now_input note out now_out whole e)
    ⊎ ((whole : Bool) × (f : JointError) × (e ≡ Joint f) × AnswersLine s next old new input now_input note out now_out whole (Refused f)))

-- a refusal and out of memory are told apart
abbrev pub LineApart : Trace → Result Bool DebugError → Trace → Type 0
LineApart old (Ok b) new = StaysUnrefused old new
LineApart old (Err (Joint e)) new = IsRefusal e
LineApart old (Err OutOfMemory) new = StaysUnrefused old new
LineApart old (Err e) new = Unit {0}
