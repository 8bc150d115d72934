-- The transcript of a session.
use Rattle.std.specs.Prelude.{◌≡◌, ◌⊎◌, ℕ, ◌+◌, List, [], ◌∷◌, ◌++◌, length, Option, Some, None, Result, Ok, Err}
use Rattle.step_debugger.specs.Common.{Appends, Consumes, Rose, AppendsPart, ConsumesAll, ReadNote, Stream, Supply, noted_after, Joining, Trace, at_start}
use Rattle.step_debugger.specs.declared.error.DebugError.{DebugError}
use Rattle.step_debugger.specs.declared.error.DebugError.TheVariants.{ReadFault, WriteFault, LineTooLong, TooMuch, OutOfMemory}
use Rattle.step_debugger.specs.declared.error.DebugError.TheVariants as why
use Rattle.step_debugger.specs.declared.session.Ending.{Ending}
use Rattle.step_debugger.specs.declared.session.Ending.TheVariants.{GoesOn, Quits, Refused}
use Rattle.step_debugger.specs.Commands.{command_of}
use Rattle.step_debugger.specs.Lines.{Input, input_of, EndsTooMany}
use Rattle.step_debugger.specs.Answers.{Session, Answer, begin_at, says, answer}
use Rattle.step_debugger.specs.Goings.{SendsPart}

-- the answer after another
abbrev pub behind : List ℕ → Answer → Answer
behind text a = record a { text = text ++ a.text }

-- how it continues after an answer
abbrev pub goes_on_by : Ending → Answer → (Session → Answer) → Answer
goes_on_by GoesOn a go = behind a.text (go a.session)
goes_on_by Quits a go = a
goes_on_by (Refused e) a go = a

-- lines one after another, up to one that ends the session
abbrev pub answers : List (List ℕ) → Session → Answer
answers [] s = says s []
answers (line ∷ lines) s = let a : Answer = answer s (command_of line) in goes_on_by a.ends a (λ t. answers lines t)

-- the lines of all commands: what comes after the last LF counts, unless no more is read; an empty line prints nothing
abbrev pub lines_in : Input → List (List ℕ)
lines_in input = elim input.refused [ None ↦ input.lines ++ input.last ∷ [] | Some e ↦ input.lines ]

-- the text that a session prints, and how it ends
pub record Told : Type 0 where
  pub text : List ℕ
  pub result : Result (Unit {0}) DebugError

-- how a session ends by its last answer, and by what is read
abbrev pub result_by : Ending → Option DebugError → Result (Unit {0}) DebugError
result_by GoesOn None = Ok (tt {0})
result_by GoesOn (Some e) = Err e
result_by Quits refused = Ok (tt {0})
result_by (Refused e) refused = Err (why.Joint e)

-- a session from the state of a joint replay, with the steps that led there, and these commands
abbrev pub transcript_from : Trace → Input → Told
transcript_from t input = let a : Answer = answers (lines_in input) (begin_at t) in record { text = a.text; result = result_by a.ends input.refused }

-- one with a joint replay that begins there
abbrev pub transcript : Joining → Input → Told
transcript j input = transcript_from (at_start j) input

-- ---- what a session does

-- the bytes end with a line that ends with LF, none of them is too many, and no line before it ended the session
pub record EndsWithLine (t : Trace) (gone : List ℕ) : Type 0 where
  pub front : List (List ℕ)
  pub line : List ℕ
  pub lines : (input_of gone).lines ≡ front ++ line ∷ []
  pub last : (input_of gone).last ≡ []
  pub none : (input_of gone).refused ≡ None
  pub before : (answers front (begin_at t)).ends ≡ GoesOn

-- the bytes end with such a line, and it ended the session: none of those after it is gone, not even one that is too many
pub record EndsThere (t : Trace) (gone : List ℕ) (e : Ending) : Type 0 where
  pub line_is : EndsWithLine t gone
  pub there : (answers (line_is.front ++ line_is.line ∷ []) (begin_at t)).ends ≡ e

-- the answers of lines are written whole, and then a prefix of the answer of the next line; not all of that, if a write
-- failed
abbrev pub WritesUpTo : Trace → List (List ℕ) → List ℕ → DebugError → (out now_out : Stream) → Type 0
WritesUpTo t lines line e out now_out =
    let before : Answer = answers lines (begin_at t) in
    let next : Answer = answer before.session (command_of line) in
    (then_text : Option (List ℕ)) × Appends out.text then_text before.text × SendsPart e then_text now_out.text next.text

-- the bytes end with a line whose answer an error stopped, and the answers of the lines before it are written whole
pub record StopsAtLine (t : Trace) (gone : List ℕ) (e : DebugError) (out now_out : Stream) : Type 0 where
  pub line_is : EndsWithLine t gone
  pub sent : WritesUpTo t line_is.front line_is.line e out now_out

-- all bytes are gone, none of them is too many, and no line of them that ends with LF ended the session: what comes
-- after the last LF may have
pub record EndsAll (t : Trace) (input now_input : Supply) (gone : List ℕ) : Type 0 where
  pub all : ConsumesAll input.left now_input.left gone
  pub none : (input_of gone).refused ≡ None
  pub before : (answers (input_of gone).lines (begin_at t)).ends ≡ GoesOn

-- a session ends as its transcript does, and its text is written: at the line that ended it, or at the end of its source, or
-- since no more lines are read. Or a read failed before, and the whole lines before that are answered; or a write failed, or
-- memory ran out, and a prefix of the text is written
abbrev pub Debugs : Trace → (gone : List ℕ) → (input now_input : Supply) → (out now_out : Stream) → Result (Unit {0}) DebugError → Type 0
Debugs t gone input now_input out now_out (Ok u) =
    let told : Told = transcript_from t (input_of gone) in
    (told.result ≡ Ok (tt {0})) × Appends out.text now_out.text told.text × (EndsThere t gone Quits ⊎ EndsAll t input now_input gone)
Debugs t gone input now_input out now_out (Err (why.Joint e)) =
    let told : Told = transcript_from t (input_of gone) in
    (told.result ≡ Err (why.Joint e)) × Appends out.text now_out.text told.text × (EndsThere t gone (Refused e) ⊎ EndsAll t input now_input gone)
Debugs t gone input now_input out now_out (Err ReadFault) =
    let a : Answer = answers (input_of gone).lines (begin_at t) in
    (a.ends ≡ GoesOn) × ((input_of gone).refused ≡ None) × Appends out.text now_out.text a.text × Rose input.faults now_input.faults
Debugs t gone input now_input out now_out (Err WriteFault) =
    AppendsPart out.text now_out.text (transcript_from t (input_of gone)).text × Rose out.faults now_out.faults
Debugs t gone input now_input out now_out (Err OutOfMemory) =
    AppendsPart out.text now_out.text (transcript_from t (input_of gone)).text
Debugs t gone input now_input out now_out (Err e) =
    let told : Told = transcript_from t (input_of gone) in
    (told.result ≡ Err e) × Appends out.text now_out.text told.text

-- all bytes are gone, an error stopped the answer of what comes after the last LF, and those of the lines are written
-- whole
pub record StopsAtEnd (t : Trace) (gone : List ℕ) (input now_input : Supply) (e : DebugError) (out now_out : Stream) : Type 0 where
  pub at_end : EndsAll t input now_input gone
  pub sent : WritesUpTo t (input_of gone).lines (input_of gone).last e out now_out

-- the bytes end within a line, none of them is too many, no line before ended the session, and their answers are
-- written whole
pub record StopsInLine (t : Trace) (gone : List ℕ) (out now_out : Stream) : Type 0 where
  pub none : (input_of gone).refused ≡ None
  pub before : (answers (input_of gone).lines (begin_at t)).ends ≡ GoesOn
  pub sent : Appends out.text now_out.text (answers (input_of gone).lines (begin_at t)).text

-- how far a session reads that an error stops. After the line that ended it, or whose answer could not be written,
-- nothing is read; nor is it after the first byte that is too many. If memory ran out, it was for a line's answer or for
-- a byte. `Debugs` says it of the other results
abbrev pub ReadsUpTo : Trace → (gone : List ℕ) → (input now_input : Supply) → (out now_out : Stream) → Result (Unit {0}) DebugError → Type 0
ReadsUpTo t gone input now_input out now_out (Err WriteFault) =
    StopsAtLine t gone WriteFault out now_out ⊎ StopsAtEnd t gone input now_input WriteFault out now_out
ReadsUpTo t gone input now_input out now_out (Err OutOfMemory) =
    StopsAtLine t gone OutOfMemory out now_out ⊎ (StopsAtEnd t gone input now_input OutOfMemory out now_out ⊎ StopsInLine t gone out now_out)
ReadsUpTo t gone input now_input out now_out (Err (LineTooLong n)) = EndsTooMany 0 gone
ReadsUpTo t gone input now_input out now_out (Err (TooMuch n)) = EndsTooMany 0 gone
ReadsUpTo t gone input now_input out now_out result = Unit {0}

-- the source was read once for each byte that is gone, and once more if a read failed, or if its end was found and no line that
-- ends with LF had ended the session
abbrev pub IsReadOnce : Trace → (gone : List ℕ) → (input now_input : Supply) → (reads : ℕ) → Result (Unit {0}) DebugError → Type 0
IsReadOnce t gone input now_input reads (Err ReadFault) = reads ≡ length gone + 1
IsReadOnce t gone input now_input reads (Err (LineTooLong n)) = reads ≡ length gone
IsReadOnce t gone input now_input reads (Err (TooMuch n)) = reads ≡ length gone
IsReadOnce t gone input now_input reads result = (reads ≡ length gone) ⊎ (EndsAll t input now_input gone × (reads ≡ length gone + 1))

-- the answers to the whole lines of some bytes
abbrev pub answered_in : Trace → List ℕ → List ℕ
answered_in t bytes = (answers (input_of bytes).lines (begin_at t)).text

-- What out has been given at each read: what it had before the session, the answers to the whole lines that have come by
-- then, and nothing else. Each read but the first comes one byte later
abbrev pub InTurn : Trace → (written : Option (List ℕ)) → (come more : List ℕ) → (given : List (Option (List ℕ))) → Type 0
InTurn t written come more [] = Unit {0}
InTurn t written come [] (had ∷ given) = Appends written had (answered_in t come) × (given ≡ [])
InTurn t written come (byte ∷ more) (had ∷ given) = Appends written had (answered_in t come) × InTurn t written (come ++ byte ∷ []) more given

-- so it was at each of so many reads, of which the source has noted this
pub record AnswersInTurn (t : Trace) (gone : List ℕ) (input now_input : Supply) (note : ReadNote) (out : Stream) (reads : ℕ) : Type 0 where
  pub given : List (Option (List ℕ))
  pub each : InTurn t out.text [] gone given
  pub noted_is : now_input.noted ≡ noted_after note input.noted given
  pub reads_is : length given ≡ reads

-- bytes of the source are gone, and they are the commands. They were read once, and each was answered in turn
pub record Debugged (t : Trace) (input now_input : Supply) (note : ReadNote) (out now_out : Stream) (result : Result (Unit {0}) DebugError) : Type 0 where
  pub gone : List ℕ
  pub taken : Consumes input.left now_input.left gone
  pub done : Debugs t gone input now_input out now_out result
  pub up_to : ReadsUpTo t gone input now_input out now_out result
  pub reads : ℕ
  pub count : IsReadOnce t gone input now_input reads result
  pub in_turn : AnswersInTurn t gone input now_input note out reads
