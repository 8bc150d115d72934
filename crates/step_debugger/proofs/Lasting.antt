-- A session, line after line.
use Rattle.step_debugger.proofs.Common.{◌≡◌, ℕ, ◌+◌, ◌≤◌, length, Bool, true, false, List, [], ◌∷◌, ◌++◌, Option, Some, None, ◌∙◌, ap, subst, sym, refl, inl, inr, ◌⊎◌, append_assoc, Result, Ok, Err, Appends, Consumes, Appends-nil, Appends-trans, Consumes-nil, Consumes-trans, append-nil, AppendsPart, ConsumesAll, ReadNote, Stream, Supply, Trace, DebugError, ReadFault, WriteFault, LineTooLong, TooMuch, Joint, OutOfMemory, Ending, GoesOn, Quits, Refused, command_of, Reading, Input, input_from, input_of, with_line, ends_in, EndsTooMany, NextLine, NoLine, ReadsLine, StopsAt, reads_for, Session, Answer, says, answer, begin_at, behind, goes_on_by, answers, lines_in, Told, result_by, transcript_from, EndsWithLine, EndsThere, EndsAll, Debugs, WritesUpTo, StopsAtLine, StopsAtEnd, ReadsUpTo, answered_in, IsReadOnce, AnswersInTurn, Debugged, Stops, SendsPart, AnswersLine, TakesLine}
use Rattle.joint_replay.specs.declared.error.JointError.{JointError}
use Rattle.step_debugger.proofs.InTurn.{no_lines, further}
use Rattle.step_debugger.proofs.ReadCounts.{joined_reads, joined_one, not_read_once}
use Rattle.step_debugger.proofs.Sent.{part_longer, part_behind, part_whole}
use Rattle.bn_outside.proofs.Pieces.{rose_last}

-- ---- what is read

-- lines before others
abbrev pub with_lines : List (List ℕ) → Input → Input
with_lines lines input = record input { lines = lines ++ input.lines }

one_line_more : (lines : List (List ℕ)) (line : List ℕ) (input : Input) → with_lines lines (with_line line input) ≡ with_lines (lines ++ line ∷ []) input
one_line_more lines line input = ap (λ (ls : List (List ℕ)). record { lines = ls; last = input.last; refused = input.refused }) (sym (append_assoc lines (line ∷ []) input.lines))

lines_before : (lines : List (List ℕ)) (input : Input) → lines_in (with_lines lines input) ≡ lines ++ lines_in input
lines_before lines input = by input.refused
  where
    by : (r : Option DebugError) → elim r as (λ y. List (List ℕ)) [ None ↦ (lines ++ input.lines) ++ input.last ∷ [] | Some e ↦ lines ++ input.lines ] ≡ lines ++ elim r as (λ y. List (List ℕ)) [ None ↦ input.lines ++ input.last ∷ [] | Some e ↦ input.lines ]
    by None = append_assoc lines input.lines (input.last ∷ [])
    by (Some e) = refl

-- ---- the progress of a session

-- so many bytes are gone, each by one read; these lines of them are answered, and this text is sent
pub record SessionAt (j : Trace) (s : Session) (count : ℕ) (input now_input : Supply) (note : ReadNote) (out now_out : Stream) : Type 0 where
  pub gone : List ℕ
  pub lines : List (List ℕ)
  pub text : List ℕ
  pub taken : Consumes input.left now_input.left gone
  pub read : (more : List ℕ) → input_of (gone ++ more) ≡ with_lines lines (input_from count [] more)
  pub said : (rest : List (List ℕ)) → answers (lines ++ rest) (begin_at j) ≡ behind text (answers rest s)
  pub sent : Appends out.text now_out.text text
  pub in_turn : AnswersInTurn j gone input now_input note out (length gone)

pub at_begin : {j : Trace} {s : Session} {count : ℕ} {input : Supply} {note : ReadNote} {out : Stream} → s ≡ begin_at j → count ≡ 0 → SessionAt j s count input input note out out
at_begin {input = input} {out = out} e z = record {
  gone = [];
  lines = [];
  text = [];
  taken = Consumes-nil input.left;
  read = λ more. ap (λ n. input_from n [] more) (sym z);
  said = λ rest. ap (answers rest) (sym e);
  sent = Appends-nil out.text;
  in_turn = record { given = []; each = tt; noted_is = refl; reads_is = refl };
}

-- the end of a source, after some bytes
all_gone : (a b c : Option (List ℕ)) (x y : List ℕ) → Consumes a b x → ConsumesAll b c y → ConsumesAll a c (x ++ y)
all_gone None b c x y p q = tt
all_gone (Some z) None c x y p q = absurd p
all_gone (Some z) (Some w) c x y p q = (ap (λ u. x ++ u) q.0 ∙ sym p, q.1)

abbrev told_of : Answer → Option DebugError → Told
told_of a refused = record { text = a.text; result = result_by a.ends refused }

-- the answer of a line stands first in those of more
first_text : (e : Ending) (a : Answer) (go : Session → Answer) → (rest : List ℕ) × ((goes_on_by e a go).text ≡ a.text ++ rest)
first_text GoesOn a go = ((go a.session).text, refl)
first_text Quits a go = ([], sym (append-nil a.text))
first_text (Refused e) a go = ([], sym (append-nil a.text))

module _ (j : Trace) (s : Session) (old : Reading) (input now_input : Supply) (note : ReadNote) (out now_out : Stream) (t : SessionAt j s old.count input now_input note out now_out) where
  -- while a further line comes, out has the answers of these lines
  while_reading : (p : List ℕ) → NoLine p → Appends out.text now_out.text (answered_in j (t.gone ++ p))
  while_reading p none =
      let lines : (input_of (t.gone ++ p)).lines ≡ t.lines ++ [] = ap (λ (i : Input). i.lines) (t.read p) ∙ ap (λ (ls : List (List ℕ)). t.lines ++ ls) (no_lines old.count [] p none) in
      let text : answered_in j (t.gone ++ p) ≡ t.text = ap (λ (ls : List (List ℕ)). (answers ls (begin_at j)).text) lines ∙ ap (λ (a : Answer). a.text) (t.said []) ∙ append-nil t.text in
      subst (λ (x : List ℕ). Appends out.text now_out.text x) (sym text) t.sent

  -- what further bytes hold, which are gone too
  joined : (more : List ℕ) (i : Input) → input_from old.count [] more ≡ i → input_of (t.gone ++ more) ≡ with_lines t.lines i
  joined more i e = t.read more ∙ ap (with_lines t.lines) e

  -- the transcript begins with what is sent
  told_first : (more : List ℕ) (i : Input) → input_from old.count [] more ≡ i → transcript_from j (input_of (t.gone ++ more)) ≡ told_of (behind t.text (answers (lines_in i) s)) i.refused
  told_first more i e =
      ap (transcript_from j) (joined more i e) ∙ ap (λ (ls : List (List ℕ)). told_of (answers ls (begin_at j)) i.refused) (lines_before t.lines i) ∙ ap (λ (a : Answer). told_of a i.refused) (t.said (lines_in i))

  -- if no LF is among further bytes, the lines before them are all, and the session continued after them
  lines_said : (more line : List ℕ) → input_from old.count [] more ≡ ends_in line None → answers (input_of (t.gone ++ more)).lines (begin_at j) ≡ behind t.text (says s [])
  lines_said more line e = ap (λ (i : Input). answers i.lines (begin_at j)) (joined more (ends_in line None) e) ∙ t.said []

  text_sent : (more line : List ℕ) → input_from old.count [] more ≡ ends_in line None → Appends out.text now_out.text (answered_in j (t.gone ++ more))
  text_sent more line e = subst (λ (x : List ℕ). Appends out.text now_out.text x) (sym (ap (λ (a : Answer). a.text) (lines_said more line e) ∙ append-nil t.text)) t.sent

  -- the answers of the lines before are written, and then a prefix of the next one's is
  answered_first : (next_out : Stream) (line : List ℕ) (e : DebugError) → SendsPart e now_out.text next_out.text (answer s (command_of line)).text → WritesUpTo j t.lines line e out next_out
  answered_first next_out line e p =
      let sent : Appends out.text now_out.text (t.text ++ []) = subst (λ (x : List ℕ). Appends out.text now_out.text x) (sym (append-nil t.text)) t.sent in
      let is : answers t.lines (begin_at j) ≡ behind t.text (says s []) = ap (λ (ls : List (List ℕ)). answers ls (begin_at j)) (sym (append-nil t.lines)) ∙ t.said [] in
      subst (λ (a : Answer). (mid : Option (List ℕ)) × Appends out.text mid a.text × SendsPart e mid next_out.text (answer a.session (command_of line)).text) (sym is) (now_out.text, sent, p)

  -- what further bytes hold is refused
  stopped : (more line : List ℕ) (e : DebugError) → input_from old.count [] more ≡ ends_in line (Some e)
      → ((transcript_from j (input_of (t.gone ++ more))).result ≡ Err e) × Appends out.text now_out.text (transcript_from j (input_of (t.gone ++ more))).text
  stopped more line e f =
      let is = told_first more (ends_in line (Some e)) f in
      (ap (λ (u : Told). u.result) is, subst (λ (x : List ℕ). Appends out.text now_out.text x) (sym (ap (λ (u : Told). u.text) is ∙ append-nil t.text)) t.sent)

  -- no line is left to read
  pub not_read : (new : Reading) (next_input : Supply) (e : DebugError) → input.faults ≤ now_input.faults → NextLine old now_input next_input note now_out (Err e) new → Debugged j input next_input note out now_out (Err e)
  not_read new next_input e fell n = record {
    gone = t.gone ++ n.gone;
    taken = Consumes-trans input.left now_input.left next_input.left t.gone n.gone t.taken n.taken;
    done = by e n.gone n.read;
    up_to = up_to e n.gone n.read n.stops;
    reads = length t.gone + reads_for n.gone (Err e);
    count = not_read_once j input next_input t.gone n.gone e;
    in_turn = further t.in_turn while_reading n;
  }
    where
      whole : {x : Input} (gone : List ℕ) → input_from old.count [] (gone ++ []) ≡ x → input_from old.count [] gone ≡ x
      whole gone e = ap (input_from old.count []) (sym (append-nil gone)) ∙ e

      too_many_at : {bytes : List ℕ} → EndsTooMany old.count bytes → EndsTooMany 0 (t.gone ++ bytes)
      too_many_at x = record {
        front = t.gone ++ x.front;
        byte = x.byte;
        parts = ap (λ (bs : List ℕ). t.gone ++ bs) x.parts ∙ sym (append_assoc t.gone x.front (x.byte ∷ []));
        none = ap (λ (i : Input). i.refused) (t.read x.front) ∙ x.none;
      }

      up_to : (e : DebugError) (gone : List ℕ) → ReadsLine old gone now_input next_input (Err e) new → StopsAt old.count gone (Err e) → ReadsUpTo j (t.gone ++ gone) input next_input out now_out (Err e)
      up_to ReadFault gone r n = tt
      up_to WriteFault gone r n = absurd r
      up_to (LineTooLong k) gone r n = too_many_at n
      up_to (TooMuch k) gone r n = too_many_at n
      up_to (Joint f) gone r n = tt
      up_to OutOfMemory gone r n =
          let is = whole gone (r.1 []) in
          inr (inr (record {
            none = ap (λ (i : Input). i.refused) (joined gone (ends_in (new.line ++ r.0 ∷ []) None) is);
            before = ap (λ (a : Answer). a.ends) (lines_said gone (new.line ++ r.0 ∷ []) is);
            sent = text_sent gone (new.line ++ r.0 ∷ []) is;
          }))

      by : (e : DebugError) (gone : List ℕ) → ReadsLine old gone now_input next_input (Err e) new → Debugs j (t.gone ++ gone) input next_input out now_out (Err e)
      by ReadFault gone r = (
        ap (λ (a : Answer). a.ends) (lines_said gone new.line r.0),
        ap (λ (i : Input). i.refused) (joined gone (ends_in new.line None) r.0),
        text_sent gone new.line r.0,
        rose_last input.faults now_input.faults next_input.faults fell r.1,
      )
      by WriteFault gone r = absurd r
      by (LineTooLong k) gone r = stopped gone new.line (LineTooLong k) (whole gone (r []))
      by (TooMuch k) gone r = stopped gone new.line (TooMuch k) (whole gone (r []))
      by (Joint f) gone r = absurd r
      by OutOfMemory gone r =
          let is = told_first gone (input_from old.count [] gone) refl in
          subst (λ (x : List ℕ). AppendsPart out.text now_out.text x) (sym (ap (λ (u : Told). u.text) is)) (part_longer out.text now_out.text t.text _ (part_whole out.text now_out.text t.text t.sent))

  -- ---- a line that is read

  module _ (new : Reading) (next_input : Supply) (next_out : Stream) where
    abbrev answered : Answer
    answered = answer s (command_of new.line)

    -- it is the last one that is gone
    ends_line : (n : NextLine old now_input next_input note now_out (Ok true) new) → EndsWithLine j (t.gone ++ n.gone)
    ends_line n =
        let is = joined n.gone (with_line new.line (ends_in [] None)) (ap (input_from old.count []) (sym (append-nil n.gone)) ∙ n.read.2 []) in
        record {
          front = t.lines;
          line = new.line;
          lines = ap (λ (i : Input). i.lines) is;
          last = ap (λ (i : Input). i.last) is;
          none = ap (λ (i : Input). i.refused) is;
          before = ap (λ (ls : List (List ℕ)). (answers ls (begin_at j)).ends) (sym (append-nil t.lines)) ∙ ap (λ (a : Answer). a.ends) (t.said []);
        }

    ends_all : (n : NextLine old now_input next_input note now_out (Ok false) new) → EndsAll j input next_input (t.gone ++ n.gone)
    ends_all n = record {
      all = all_gone input.left now_input.left next_input.left t.gone n.gone t.taken n.read.1;
      none = ap (λ (i : Input). i.refused) (joined n.gone (ends_in new.line None) n.read.0);
      before = ap (λ (a : Answer). a.ends) (lines_said n.gone new.line n.read.0);
    }

    -- its answer, and those of lines after it if there are any, are the rest of the transcript
    heard : (w : Bool) (n : NextLine old now_input next_input note now_out (Ok w) new) → (lines : List (List ℕ)) × (transcript_from j (input_of (t.gone ++ n.gone)) ≡ told_of (behind t.text (goes_on_by answered.ends answered (λ u. answers lines u))) None)
    heard true n = ([] ∷ [], told_first n.gone (with_line new.line (ends_in [] None)) (ap (input_from old.count []) (sym (append-nil n.gone)) ∙ n.read.2 []))
    heard false n = ([], told_first n.gone (ends_in new.line None) n.read.0)

    line_or_all : (w : Bool) (n : NextLine old now_input next_input note now_out (Ok w) new) (e : DebugError) → SendsPart e now_out.text next_out.text answered.text
        → StopsAtLine j (t.gone ++ n.gone) e out next_out ⊎ StopsAtEnd j (t.gone ++ n.gone) input next_input e out next_out
    unfolding ends_line
    line_or_all true n e p = inl (record { line_is = ends_line n; sent = answered_first next_out new.line e p })
    line_or_all false n e p =
        let first = answered_first next_out new.line e p in
        let sent = subst (λ (ls : List (List ℕ)). WritesUpTo j ls new.line e out next_out) (sym (append-nil t.lines)) first in
        inr (record {
          at_end = ends_all n;
          sent = subst (λ (i : Input). WritesUpTo j i.lines i.last e out next_out) (sym (joined n.gone (ends_in new.line None) n.read.0)) sent;
        })

    there : (e : Ending) → answered.ends ≡ e → goes_on_by e answered (λ u. answers [] u) ≡ answered → (w : Bool) (n : NextLine old now_input next_input note now_out (Ok w) new)
        → EndsThere j (t.gone ++ n.gone) e ⊎ EndsAll j input next_input (t.gone ++ n.gone)
    unfolding ends_line
    there e on last true n = inl (record {
      line_is = ends_line n;
      there = ap (λ (a : Answer). a.ends) (t.said (new.line ∷ [])) ∙ ap (λ (y : Ending). (goes_on_by y answered (λ u. answers [] u)).ends) on ∙ ap (λ (a : Answer). a.ends) last ∙ on;
    })
    there e on last false n = inr (ends_all n)

    read_by : (w : Bool) (n : NextLine old now_input next_input note now_out (Ok w) new)
        → (length t.gone + reads_for n.gone (Ok w) ≡ length (t.gone ++ n.gone)) ⊎ (EndsAll j input next_input (t.gone ++ n.gone) × (length t.gone + reads_for n.gone (Ok w) ≡ length (t.gone ++ n.gone) + 1))
    read_by true n = inl (joined_reads t.gone n.gone)
    read_by false n = inr (ends_all n, joined_one t.gone n.gone)

    module _ (whole : Bool) (n : NextLine old now_input next_input note now_out (Ok whole) new) where
      abbrev all : List ℕ
      all = t.gone ++ n.gone

      -- what the session did by then, whatever its end
      over : (r : Result (Unit {0}) DebugError) → Debugs j all input next_input out next_out r → ReadsUpTo j all input next_input out next_out r → IsReadOnce j all input next_input (length t.gone + reads_for n.gone (Ok whole)) r
          → Debugged j input next_input note out next_out r
      over r done up_to count = record {
        gone = all;
        taken = Consumes-trans input.left now_input.left next_input.left t.gone n.gone t.taken n.taken;
        done = done;
        up_to = up_to;
        reads = length t.gone + reads_for n.gone (Ok whole);
        count = count;
        in_turn = further t.in_turn while_reading n;
      }

      -- its answer isn't sent
      pub not_sent : (e : DebugError) → out.faults ≤ now_out.faults → SendsPart e now_out.text next_out.text answered.text → Stops now_out next_out e → Debugged j input next_input note out next_out (Err e)
      not_sent e fell p stops = by e p stops
        where
          part : AppendsPart now_out.text next_out.text answered.text → AppendsPart out.text next_out.text (transcript_from j (input_of all)).text
          part p =
              let x = heard whole n in
              let f = first_text answered.ends answered (λ u. answers x.0 u) in
              subst (λ (x : List ℕ). AppendsPart out.text next_out.text x) (sym (ap (λ (u : Told). u.text) x.1 ∙ ap (λ y. t.text ++ y) f.1))
              (part_behind out.text now_out.text next_out.text t.text (answered.text ++ f.0) t.sent (part_longer now_out.text next_out.text answered.text f.0 p))

          by : (e : DebugError) → SendsPart e now_out.text next_out.text answered.text → Stops now_out next_out e → Debugged j input next_input note out next_out (Err e)
          by ReadFault p h = absurd h
          by WriteFault p h = over (Err WriteFault) (part (p.0, p.2), rose_last out.faults now_out.faults next_out.faults fell h) (line_or_all whole n WriteFault p) (read_by whole n)
          by (LineTooLong k) p h = absurd h
          by (TooMuch k) p h = absurd h
          by (Joint f) p h = absurd h
          by OutOfMemory p h = over (Err OutOfMemory) (part p) (elim (line_or_all whole n OutOfMemory p) [ inl x ↦ inl x | inr x ↦ inr (inl x) ]) (read_by whole n)

      -- it ends the session
      last_told : (e : Ending) → answered.ends ≡ e → Appends now_out.text next_out.text answered.text → goes_on_by e answered (λ u. answers (heard whole n).0 u) ≡ answered
          → ((transcript_from j (input_of all)).result ≡ result_by answered.ends None) × Appends out.text next_out.text (transcript_from j (input_of all)).text
      last_told e on h last =
          let x = heard whole n in
          let is : transcript_from j (input_of all) ≡ told_of (behind t.text answered) None = x.1 ∙ ap (λ (a : Answer). told_of (behind t.text a) None) (ap (λ (y : Ending). goes_on_by y answered (λ u. answers x.0 u)) on ∙ last) in
          (ap (λ (u : Told). u.result) is, subst (λ (x : List ℕ). Appends out.text next_out.text x) (sym (ap (λ (u : Told). u.text) is)) (Appends-trans out.text now_out.text next_out.text t.text answered.text t.sent h))

      pub quits : answered.ends ≡ Quits → Appends now_out.text next_out.text answered.text → Debugged j input next_input note out next_out (Ok (tt {0}))
      quits on h =
          let x = last_told Quits on h refl in
          over (Ok (tt {0})) (x.0 ∙ ap (λ (e : Ending). result_by e None) on, x.1, there Quits on refl whole n) tt (read_by whole n)

      pub refused : (e : JointError) → answered.ends ≡ Refused e → Appends now_out.text next_out.text answered.text → Debugged j input next_input note out next_out (Err (Joint e))
      refused e on h =
          let x = last_told (Refused e) on h refl in
          over (Err (Joint e)) (x.0 ∙ ap (λ (e : Ending). result_by e None) on, x.1, there (Refused e) on refl whole n) tt (read_by whole n)

    -- it is the last one, after which there is none
    pub ends : (n : NextLine old now_input next_input note now_out (Ok false) new) → answered.ends ≡ GoesOn → Appends now_out.text next_out.text answered.text → Debugged j input next_input note out next_out (Ok (tt {0}))
    unfolding heard
    ends n on h =
        let is : transcript_from j (input_of (t.gone ++ n.gone)) ≡ told_of (behind t.text (behind answered.text (says answered.session []))) None =
        (heard false n).1 ∙ ap (λ (y : Ending). told_of (behind t.text (goes_on_by y answered (λ u. answers [] u))) None) on in
        let text = sym (ap (λ (u : Told). u.text) is ∙ ap (λ x. t.text ++ x) (append-nil answered.text)) in
        over false n (Ok (tt {0})) (
          ap (λ (u : Told). u.result) is,
          subst (λ (x : List ℕ). Appends out.text next_out.text x) text (Appends-trans out.text now_out.text next_out.text t.text answered.text t.sent h),
          inr (ends_all n),
        ) tt (read_by false n)

    -- the session continues after it
    pub goes_on : (n : NextLine old now_input next_input note now_out (Ok true) new) → answered.ends ≡ GoesOn → Appends now_out.text next_out.text answered.text
        → SessionAt j answered.session new.count input next_input note out next_out
    goes_on n on h = record {
      gone = t.gone ++ n.gone;
      lines = t.lines ++ new.line ∷ [];
      text = t.text ++ answered.text;
      taken = Consumes-trans input.left now_input.left next_input.left t.gone n.gone t.taken n.taken;
      read = λ more. ap input_of (append_assoc t.gone n.gone more) ∙ t.read (n.gone ++ more) ∙ ap (with_lines t.lines) (n.read.2 more) ∙ one_line_more t.lines new.line (input_from new.count [] more);
      said = λ rest. ap (λ (ls : List (List ℕ)). answers ls (begin_at j)) (append_assoc t.lines (new.line ∷ []) rest) ∙ t.said (new.line ∷ rest)
          ∙ ap (λ (e : Ending). behind t.text (goes_on_by e answered (λ u. answers rest u))) on
          ∙ ap (λ (x : List ℕ). record { text = x; session = (answers rest answered.session).session; ends = (answers rest answered.session).ends }) (sym (append_assoc t.text answered.text (answers rest answered.session).text));
      sent = Appends-trans out.text now_out.text next_out.text t.text answered.text t.sent h;
      in_turn = subst (λ (k : ℕ). AnswersInTurn j (t.gone ++ n.gone) input next_input note out k) (joined_reads t.gone n.gone) (further t.in_turn while_reading n);
    }

-- ---- one line of a session

module _ {j : Trace} {s next : Session} {old new : Reading} {input now_input next_input : Supply} {note : ReadNote} {out now_out next_out : Stream} (t : SessionAt j s old.count input now_input note out now_out) where
  -- the session continues after it
  pub line_more : AnswersLine s next old new now_input next_input note now_out next_out true GoesOn → SessionAt j next new.count input next_input note out next_out
  line_more a = subst (λ (x : Session). SessionAt j x new.count input next_input note out next_out) (sym a.session)
      (goes_on j s old input now_input note out now_out t new next_input next_out a.read a.ends a.sent)

  -- the session ends with it
  pub line_last : TakesLine s next old new now_input next_input note now_out next_out (Ok false) → Debugged j input next_input note out next_out (Ok (tt {0}))
  line_last (inl a) = ends j s old input now_input note out now_out t new next_input next_out a.read a.ends a.sent
  line_last (inr (whole, a)) = quits j s old input now_input note out now_out t new next_input next_out whole a.read a.ends a.sent

  -- an error stops it
  pub line_fails : (e : DebugError) → input.faults ≤ now_input.faults → out.faults ≤ now_out.faults → TakesLine s next old new now_input next_input note now_out next_out (Err e) → Debugged j input next_input note out next_out (Err e)
  line_fails e fell wrote (inl m) = subst (λ (x : Stream). Debugged j input next_input note out x (Err e)) (sym m.same) (not_read j s old input now_input note out now_out t new next_input e fell m.read)
  line_fails e fell wrote (inr (inl (whole, c))) = not_sent j s old input now_input note out now_out t new next_input next_out whole c.read e wrote c.sent c.stops
  line_fails e fell wrote (inr (inr (whole, f, is, a))) =
      subst (λ (x : DebugError). Debugged j input next_input note out next_out (Err x)) (sym is)
      (refused j s old input now_input note out now_out t new next_input next_out whole a.read f a.ends a.sent)
