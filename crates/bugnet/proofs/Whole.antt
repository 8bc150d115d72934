-- A session whose whole input isn't refused is refused at no prefix of it.
use Rattle.bugnet.proofs.Common.{◌≡◌, ◌⊎◌, ℕ, ◌+◌, Bool, true, false, nat_lt, List, [], ◌∷◌, ◌++◌, length, Option, Some, None, ◌∙◌, ap, subst, sym, refl, inl, inr, append_assoc, Result, Ok, Err, Consumes, Program, Files, ConsumesAll, ReadNote, Stream, Supply, image_of, Reads, Content, IsContent, saved_bytes, file_bytes2, JointError, Joining, Trace, at_start, Session, begin_at, answer, command_of, Input, input_limit, is_line_feed, is_too_long, ends_in, with_line, input_from, input_of, goes_on_by, answers, lines_in, result_by, transcript_from, EndsThere, EndsAll, Debugs, DebugError, Ending, joined, HoldsLog, ArePair, LoadedPair, IsFree, EndsBy, SessionOver, CanDebug, whole_input, append-nil}
use Rattle.step_debugger.specs.Answers.{Answer}
use Rattle.step_debugger.specs.declared.error.DebugError.TheVariants as stop
use Rattle.step_debugger.specs.declared.session.Ending.TheVariants as ending
use Rattle.bugnet.proofs.Single.{Grammar}
use Rattle.bugnet.proofs.Suffices.{FileLaws}

-- ---- what bytes hold, with more after them

abbrev next : (count : ℕ) (line : List ℕ) (byte : ℕ) → (over room feed : Bool) → List ℕ → Input
next count line byte over room feed rest = elim over as (λ y. Input) [
  | true ↦ ends_in line (Some (stop.LineTooLong (length line + 1)))
  | false ↦ elim room as (λ y. Input) [
    | false ↦ ends_in line (Some (stop.TooMuch (count + 1)))
    | true ↦ elim feed as (λ y. Input) [ true ↦ with_line line (input_from (count + 1) [] rest) | false ↦ input_from (count + 1) (line ++ byte ∷ []) rest ]
  ]
]

-- what refused them refuses these too
abbrev StaysSo : (one two : Input) → Type 0
StaysSo one two = (e : DebugError) → one.refused ≡ Some e → two ≡ one

-- and their lines come first
abbrev ComeFirst : (one two : Input) → Type 0
ComeFirst one two = (rest : List (List ℕ)) × (two.lines ≡ one.lines ++ rest)

refused-so : (bytes more : List ℕ) (count : ℕ) (line : List ℕ) → StaysSo (input_from count line bytes) (input_from count line (bytes ++ more))
refused-so [] more count line e is = absurd cc
refused-so (byte ∷ bytes) more count line e is = by (is_too_long line byte) (nat_lt count input_limit) (is_line_feed byte) (λ l f. refused-so bytes more (count + 1) l e f) is
  where
    by : (over room feed : Bool) → ((l : List ℕ) → (input_from (count + 1) l bytes).refused ≡ Some e → input_from (count + 1) l (bytes ++ more) ≡ input_from (count + 1) l bytes)
        → (next count line byte over room feed bytes).refused ≡ Some e → next count line byte over room feed (bytes ++ more) ≡ next count line byte over room feed bytes
    by true room feed rest f = refl
    by false false feed rest f = refl
    by false true true rest f = ap (λ (i : Input). with_line line i) (rest [] f)
    by false true false rest f = rest (line ++ byte ∷ []) f

lines-first : (bytes more : List ℕ) (count : ℕ) (line : List ℕ) → ComeFirst (input_from count line bytes) (input_from count line (bytes ++ more))
lines-first [] more count line = ((input_from count line more).lines, refl)
lines-first (byte ∷ bytes) more count line = by (is_too_long line byte) (nat_lt count input_limit) (is_line_feed byte) (λ l. lines-first bytes more (count + 1) l)
  where
    by : (over room feed : Bool) → ((l : List ℕ) → ComeFirst (input_from (count + 1) l bytes) (input_from (count + 1) l (bytes ++ more)))
        → ComeFirst (next count line byte over room feed bytes) (next count line byte over room feed (bytes ++ more))
    by true room feed rest = ([], refl)
    by false false feed rest = ([], refl)
    by false true true rest = let r = rest [] in (r.0, ap (λ (ls : List (List ℕ)). line ∷ ls) r.1)
    by false true false rest = rest (line ++ byte ∷ [])

lines-tail : (i : Input) → (rest : List (List ℕ)) × (lines_in i ≡ i.lines ++ rest)
lines-tail i = by i.refused
  where
    by : (o : Option DebugError) → (rest : List (List ℕ)) × ((elim o as (λ y. List (List ℕ)) [ None ↦ i.lines ++ i.last ∷ [] | Some e ↦ i.lines ]) ≡ i.lines ++ rest)
    by None = (i.last ∷ [], refl)
    by (Some e) = ([], sym (append-nil i.lines))

-- ---- a line that ended a session ends it whatever follows

refused-by : (x : Ending) (a : Answer) (e : JointError) (go more : Session → Answer) → ((go a.session).ends ≡ ending.Refused e → (more a.session).ends ≡ ending.Refused e)
    → (goes_on_by x a go).ends ≡ ending.Refused e → (goes_on_by x a more).ends ≡ ending.Refused e
refused-by ending.GoesOn a e go more rest f = rest f
refused-by ending.Quits a e go more rest f = f
refused-by (ending.Refused y) a e go more rest f = f

still-refused : (lines rest : List (List ℕ)) (s : Session) (e : JointError) → (answers lines s).ends ≡ ending.Refused e → (answers (lines ++ rest) s).ends ≡ ending.Refused e
still-refused [] rest s e f = absurd cc
still-refused (line ∷ lines) rest s e f =
    let a : Answer = answer s (command_of line) in
    refused-by a.ends a e (λ t. answers lines t) (λ t. answers (lines ++ rest) t) (λ g. still-refused lines rest a.session e g) f

-- ---- the session

not-ok : (x : Result (Unit {0}) DebugError) (e : DebugError) → x ≡ Err e → x ≡ Ok (tt {0}) → ⊥
not-ok x e f g = absurd cc

-- a session that its input stops is stopped by all of it
input-stops : (t : Trace) (gone rest : List ℕ) (e : DebugError) → ((x : Ending) (o : Option DebugError) → result_by x o ≡ Err e → o ≡ Some e) → (transcript_from t (input_of gone)).result ≡ Err e
    → (transcript_from t (input_of (gone ++ rest))).result ≡ Err e
input-stops t gone rest e own is =
    let i : Input = input_of gone in
    let refused : i.refused ≡ Some e = own (answers (lines_in i) (begin_at t)).ends i.refused is in
    ap (λ (x : Input). (transcript_from t x).result) (refused-so gone rest 0 [] e refused) ∙ is

-- and so is one that its replay stops at a line
replay-stops : (t : Trace) (gone rest : List ℕ) (e : JointError) → EndsThere t gone (ending.Refused e) → (transcript_from t (input_of (gone ++ rest))).result ≡ Err (stop.Joint e)
replay-stops t gone rest e there =
    let i : Input = input_of (gone ++ rest) in
    let lines = (input_of gone).lines in
    let first = lines-first gone rest 0 [] in
    let tail = lines-tail i in
    let all : lines_in i ≡ lines ++ (first.0 ++ tail.0) = tail.1 ∙ ap (λ (ls : List (List ℕ)). ls ++ tail.0) first.1 ∙ append_assoc lines first.0 tail.0 in
    let here : (answers lines (begin_at t)).ends ≡ ending.Refused e = ap (λ (ls : List (List ℕ)). (answers ls (begin_at t)).ends) there.line_is.lines ∙ there.there in
    let ends : (answers (lines_in i) (begin_at t)).ends ≡ ending.Refused e = ap (λ (ls : List (List ℕ)). (answers ls (begin_at t)).ends) all ∙ still-refused lines (first.0 ++ tail.0) (begin_at t) e here in
    ap (λ (x : Ending). result_by x i.refused) ends

-- so if all that the source had left isn't stopped, the session is done, unless a read failed
abbrev IsWhole : ℕ → Type 0
IsWhole status = IsFree status ⊎ ((status ≡ 12) ⊎ (status ≡ 0))

long-line : (n : ℕ) (x : Ending) (o : Option DebugError) → result_by x o ≡ Err (stop.LineTooLong n) → o ≡ Some (stop.LineTooLong n)
long-line n ending.GoesOn None e = absurd cc
long-line n ending.GoesOn (Some f) e = cc
long-line n ending.Quits o e = absurd cc
long-line n (ending.Refused f) o e = absurd cc

too-much : (n : ℕ) (x : Ending) (o : Option DebugError) → result_by x o ≡ Err (stop.TooMuch n) → o ≡ Some (stop.TooMuch n)
too-much n ending.GoesOn None e = absurd cc
too-much n ending.GoesOn (Some f) e = cc
too-much n ending.Quits o e = absurd cc
too-much n (ending.Refused f) o e = absurd cc

-- the bytes that are gone come first of those that were left
gone-first : (left now_left : Option (List ℕ)) (gone all : List ℕ) → left ≡ Some all → Consumes left now_left gone → (rest : List ℕ) × (all ≡ gone ++ rest)
gone-first left now_left gone all is taken = by now_left (subst (λ (o : Option (List ℕ)). Consumes o now_left gone) is taken)
  where
    by : (now_left : Option (List ℕ)) → Consumes (Some all) now_left gone → (rest : List ℕ) × (all ≡ gone ++ rest)
    by None h = absurd h
    by (Some rest) h = (rest, h)

module _ (t : Trace) (status : ℕ) (input now_input : Supply) (out now_out : Stream) (all gone : List ℕ) (is : input.left ≡ Some all) (taken : Consumes input.left now_input.left gone)
    (whole : (transcript_from t (input_of all)).result ≡ Ok (tt {0})) where
  abbrev all_told : Result (Unit {0}) DebugError
  all_told = (transcript_from t (input_of all)).result

  not-stopped : (e : DebugError) → ((rest : List ℕ) → (transcript_from t (input_of (gone ++ rest))).result ≡ Err e) → ⊥
  not-stopped e stops =
      let r = gone-first input.left now_input.left gone all is taken in
      not-ok all_told e (ap (λ (bytes : List ℕ). (transcript_from t (input_of bytes)).result) r.1 ∙ stops r.0) whole

  all-gone : EndsAll t input now_input gone → gone ≡ all
  all-gone h = (subst (λ (o : Option (List ℕ)). ConsumesAll o now_input.left gone) is h.all).0

  by-end : (result : Result (Unit {0}) DebugError) → Debugs t gone input now_input out now_out result → EndsBy result status → IsWhole status
  by-end (Ok u) d ends = inr (inr ends)
  by-end (Err e) d (inr ends) = inl (inr (inl ends))
  by-end (Err stop.ReadFault) d (inl ends) = inr (inl ends)
  by-end (Err stop.WriteFault) d (inl ends) = inl (inr (inr ends))
  by-end (Err stop.OutOfMemory) d (inl ends) = inl (inr (inl ends))
  by-end (Err (stop.LineTooLong m)) d (inl ends) = absurd (not-stopped (stop.LineTooLong m) (λ rest. input-stops t gone rest (stop.LineTooLong m) (long-line m) d.0))
  by-end (Err (stop.TooMuch m)) d (inl ends) = absurd (not-stopped (stop.TooMuch m) (λ rest. input-stops t gone rest (stop.TooMuch m) (too-much m) d.0))
  by-end (Err (stop.Joint e)) d (inl ends) = absurd (by d.2)
    where
      by : EndsThere t gone (ending.Refused e) ⊎ EndsAll t input now_input gone → ⊥
      by (inl there) = not-stopped (stop.Joint e) (λ rest. replay-stops t gone rest e there)
      by (inr h) = not-ok all_told (stop.Joint e) (ap (λ (bytes : List ℕ). (transcript_from t (input_of bytes)).result) (sym (all-gone h)) ∙ d.0) whole

-- ---- the log and the program

-- a log's file says that log
says-log : FileLaws → (there : Option (List ℕ)) (d : Content) → IsContent d → HoldsLog there d → (bytes : List ℕ) × (there ≡ Some bytes) × Reads bytes (Ok d)
says-log laws there d is (inl e) = (saved_bytes d, e, laws.read.saved d is)
says-log laws there d is (inr e) = (file_bytes2 d, e, laws.read.second d is)

same-there : (there : Option (List ℕ)) (a b : List ℕ) → there ≡ Some a → there ≡ Some b → a ≡ b
same-there there a b e f = cc

-- what was loaded is the log and the program that are there
pub one-pair-there : Grammar → FileLaws → (log elf : List ℕ) (files : Files) (d e : Content) (i k : Program) → LoadedPair log elf files d i → ArePair log elf files e k → joined d i ≡ joined e k
one-pair-there g laws log elf files d e i k p q =
    let s = says-log laws (files log) e q.is q.log_there in
    let bytes : p.log_bytes ≡ s.0 = same-there (files log) p.log_bytes s.0 p.log_there s.1 in
    let content : d ≡ e = cc (g.one_reading s.0 (Ok d) (Ok e) (subst (λ (x : List ℕ). Reads x (Ok d)) bytes p.reads) s.2) in
    let file : p.elf_bytes ≡ q.bytes = same-there (files elf) p.elf_bytes q.bytes p.elf_there q.elf_there in
    let program : i ≡ k =
    cc (sym p.loaded ∙ ap (λ (x : List ℕ). image_of x d.head.settings) file ∙ ap (λ (c : Content). image_of q.bytes c.head.settings) content ∙ q.loaded) in
    ap (λ (c : Content). joined c i) content ∙ ap (λ (x : Program). joined e x) program

-- a session that was begun
pub whole-done : Grammar → FileLaws → (log elf : List ℕ) (files : Files) (d : Content) (i : Program) (bytes : List ℕ) (status : ℕ) (input now_input : Supply) (notes : ReadNote) (out now_out : Stream)
    → LoadedPair log elf files d i → SessionOver (joined d i) bytes status input now_input notes out now_out → (all : List ℕ) → input.left ≡ Some all → CanDebug (whole_input all) log elf files → IsWhole status
whole-done g laws log elf files d i bytes status input now_input notes out now_out p s all is can =
    let j : joined d i ≡ joined can.content can.program = one-pair-there g laws log elf files d can.content i can.program p can.pair in
    let whole : (transcript_from (at_start (joined d i)) (input_of all)).result ≡ Ok (tt {0}) = ap (λ (x : Joining). (transcript_from (at_start x) (input_of all)).result) j ∙ can.goes_on in
    by-end (at_start (joined d i)) status input now_input out now_out all s.session.gone is s.session.taken whole s.result s.session.done s.ends
