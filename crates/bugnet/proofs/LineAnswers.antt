-- What a line has to answer, by the bytes that are loaded for it.
use Rattle.bugnet.proofs.Common.{◌≡◌, List, [], Option, Some, None, Bool, true, false, ap, subst, sym, refl, inr, Result, Ok, Err, IfOk, bytes_eq, Counts, Files, Line, RecordLine, ReplayLine, JointLine, DebugLine, ConvertLine, SalvageLine, DemoLine, IsByFiles, Answers, no_bytes, IsLoaded, FileNames, WithFiles, GivesBy, CauseBy, ResultCause, IsPrinted, told_of, name_refusal, Told, refused, Answer, Role, Refusal, SameName, loads-stop, loads-give, with-also, names_in, refusal_in, line_roles, UnlessRefused, IsByLine, IsAnswer, IsOn, KindOf, FitsLine, IsReadOnly, IsNoSession, IsNoRecording, needed_roles, AnswersDemo, Schedule}
use Rattle.log_commands.specs.Inputs.{bytes_of}
use Rattle.log_commands.specs.declared.inputs.Inputs.{Inputs}
use Rattle.bugnet.proofs.LineCalls.{made-printed}

-- ---- by the files

-- what a line says, if it records nothing and reads no commands
as-line : (o : Option Schedule) (line : Line) (files : Files) (what : Told) → IsNoSession (Some line) → IsNoRecording (Some line) → IsByLine line files what → IsAnswer o (Some line) files what
as-line o (RecordLine r) files what s n h = absurd n
as-line o (DebugLine log elf) files what s n h = absurd s
as-line o line files what s n h = h

unrefused : (o : Option Refusal) (names : FileNames) (Is : Told → Type 0) (what : Told) → o ≡ None → Is what → UnlessRefused o names Is what
unrefused None names Is what e h = h
unrefused (Some r) names Is what e h = absurd cc

is-refused : (o : Option Refusal) (names : FileNames) (Is : Told → Type 0) (r : Refusal) → o ≡ Some r → UnlessRefused o names Is (refused names r)
is-refused None names Is r e = absurd cc
is-refused (Some x) names Is r e =
    let is : r ≡ x = cc in
    ap (λ (y : Refusal). refused names y) is

-- by the files that it loads
abbrev ByFiles : Line → Files → Told → Type 0
ByFiles line f what = IsByFiles f (names_in line) (line_roles line) no_bytes (IsOn line (names_in line)) what

line-by : (o : Option Schedule) (line : Line) (files : Files) (what : Told) → IsNoSession (Some line) → IsNoRecording (Some line) → refusal_in line ≡ None → ByFiles line files what → IsAnswer o (Some line) files what
line-by o line files what s n e h = as-line o line files what s n (unrefused (refusal_in line) (names_in line) (λ what. ByFiles line files what) what e h)

pub stops-line : (o : Option Schedule) (line : Line) (known : Option Files) (names : FileNames) (roles : List Role) (r : Refusal) → names ≡ names_in line → roles ≡ line_roles line
    → IsNoSession (Some line) → IsNoRecording (Some line) → refusal_in line ≡ None
    → WithFiles known (λ files. IsLoaded names roles files (Err r)) → WithFiles known (λ files. GivesBy names (IsAnswer o (Some line)) files (Err r))
stops-line o line known names roles r own same s n e h =
    subst (λ (m : FileNames). WithFiles known (λ files. GivesBy m (IsAnswer o (Some line)) files (Err r))) (sym own)
    (with-also (told_of (names_in line)) (names_in line) (λ f what. ByFiles line f what) (λ f what. IsAnswer o (Some line) f what) (λ f what. line-by o line f what s n e) known (Err r)
    (loads-stop (told_of (names_in line)) (IsOn line (names_in line)) (line_roles line) known (names_in line) r
    (subst (λ (m : FileNames). WithFiles known (λ files. IsLoaded m (line_roles line) files (Err r))) own
    (subst (λ (rs : List Role). WithFiles known (λ files. IsLoaded names rs files (Err r))) same h))))

pub gives-line : (o : Option Schedule) (line : Line) (known : Option Files) (names : FileNames) (roles : List Role) (inputs : Inputs) (result : Result Answer Refusal) → names ≡ names_in line → roles ≡ line_roles line
    → IsNoSession (Some line) → IsNoRecording (Some line) → refusal_in line ≡ None
    → WithFiles known (λ files. IsLoaded names roles files (Ok inputs)) → Answers (KindOf line) (λ names. IsOn line names (bytes_of inputs)) result
    → WithFiles known (λ files. GivesBy names (IsAnswer o (Some line)) files result)
gives-line o line known names roles inputs result own same s n e h a =
    subst (λ (m : FileNames). WithFiles known (λ files. GivesBy m (IsAnswer o (Some line)) files result)) (sym own)
    (with-also (told_of (names_in line)) (names_in line) (λ f what. ByFiles line f what) (λ f what. IsAnswer o (Some line) f what) (λ f what. line-by o line f what s n e) known result
    (loads-give (told_of (names_in line)) (IsOn line (names_in line)) (line_roles line) known (names_in line) inputs result
    (subst (λ (m : FileNames). WithFiles known (λ files. IsLoaded m (line_roles line) files (Ok inputs))) own
    (subst (λ (rs : List Role). WithFiles known (λ files. IsLoaded names rs files (Ok inputs))) same h)) (a.gives (names_in line))))

-- ---- by the words

-- only two names that are one are refused, of what isn't a session
refused-lines : (line : Line) (r : Refusal) → refusal_in line ≡ Some r → IsNoSession (Some line)
refused-lines (DebugLine log elf) r e = absurd cc
refused-lines line r e = tt

pub words-line : (o : Option Schedule) (line : Line) (known : Option Files) (names : FileNames) (r : Refusal) → names ≡ names_in line → IsNoRecording (Some line) → refusal_in line ≡ Some r
    → WithFiles known (λ files. GivesBy names (IsAnswer o (Some line)) files (Err r))
words-line o line None names r own n e = tt
words-line o line (Some files) names r own n e =
    inr (subst (λ (m : FileNames). IsAnswer o (Some line) files (refused m r)) (sym own)
    (as-line o line files (refused (names_in line) r) (refused-lines line r e) n (is-refused (refusal_in line) (names_in line) (λ what. ByFiles line files what) r e)))

by-name : (b : Bool) (r : Refusal) (before now : Counts) → name_refusal b ≡ Some r → CauseBy {A = Answer} (name_refusal b) before now (Err r)
by-name true r before now e =
    let is : r ≡ SameName = cc in
    (ap (λ (x : Refusal). Err x) is, refl)
by-name false r before now e = absurd cc

pub words-cause : (line : Line) (r : Refusal) (before now : Counts) → IsNoRecording (Some line) → refusal_in line ≡ Some r → CauseBy {A = Answer} (refusal_in line) before now (Err r)
words-cause (RecordLine x) r before now n e = absurd n
words-cause (ConvertLine log copy) r before now n e = by-name (bytes_eq log copy) r before now e
words-cause (SalvageLine log copy) r before now n e = by-name (bytes_eq log copy) r before now e
words-cause line r before now n e = absurd cc

-- without one the cause is that of the loads or of the bytes
pub cause-line : (o : Option Refusal) (before now : Counts) (result : Result Answer Refusal) → o ≡ None → ResultCause before now result → CauseBy o before now result
cause-line None before now result e h = h
cause-line (Some r) before now result e h = absurd cc

-- ---- the rest

pub needed-same : (line : Line) → IsNoRecording (Some line) → needed_roles line ≡ line_roles line
needed-same (RecordLine r) n = absurd n
needed-same line n = refl

pub demo-words : (line : Line) (names : FileNames) (r : Refusal) → refusal_in line ≡ Some r → AnswersDemo line names (Err r)
demo-words (DemoLine seed) names r e = absurd cc
demo-words line names r e = tt

pub demo-loads : (line : Line) (names : FileNames) (r : Refusal) → (line_roles line ≡ [] → ⊥) → AnswersDemo line names (Err r)
demo-loads (DemoLine seed) names r e = absurd (e refl)
demo-loads line names r e = tt

-- the kind of an answer says what it saves, and whether it saves at all
pub kind-fits : (line : Line) (result : Result Answer Refusal) → IfOk result (KindOf line) → IfOk result (FitsLine line)
kind-fits (RecordLine r) (Ok a) k = absurd k
kind-fits (ReplayLine log elf hart interval) (Ok a) k = tt
kind-fits (JointLine log elf) (Ok a) k = tt
kind-fits (DebugLine log elf) (Ok a) k = absurd k
kind-fits line (Err r) k = tt
kind-fits line (Ok a) k = k

pub kind-printed : (line : Line) (result : Result Answer Refusal) → IfOk result (KindOf line) → IsReadOnly (Some line) → IfOk result IsPrinted
kind-printed (RecordLine r) result k p = absurd p
kind-printed (ReplayLine log elf hart interval) result k p = k
kind-printed (JointLine log elf) result k p = k
kind-printed (DebugLine log elf) (Ok a) k p = absurd k
kind-printed (DebugLine log elf) (Err r) k p = tt
kind-printed (ConvertLine log copy) result k p = absurd p
kind-printed (SalvageLine log copy) result k p = absurd p
kind-printed line result k p = made-printed result k
