-- Lines read byte after byte.
use Rattle.step_debugger.proofs.Common.{◌≡◌, ℕ, ◌<◌, ◌≤◌, true, false, refl, sym, ap, subst, ◌∙◌, arith, List, [], ◌∷◌, ◌++◌, append_assoc, append-nil, length, map, take, Option, Some, None, Ok, Err, Consumes, Consumes-trans, Rose, ConsumesAll, EndsExactly, ReadNote, Stream, Supply, noted_after, DebugError, ReadFault, WriteFault, LineTooLong, TooMuch, Joint, OutOfMemory, Reading, Input, input_from, line_limit, NoLine, TakesByte, ReadsLine, EndsTooMany, StopsAt, NextLine}
use Rattle.step_debugger.proofs.InTurn.{unended_more, one_read, line_byte_read}
use Rattle.step_debugger.proofs.ReadCounts.{byte_read, not_taken}
use Rattle.bn_outside.proofs.Pieces.{rose_last}

-- a read of no byte
pub no_byte : (old new : Option (List ℕ)) (n : ℕ) (buffer : List ℕ) → n ≡ 0 → 0 < length buffer → Consumes old new (take n buffer) → EndsExactly old n buffer → ConsumesAll old new []
no_byte None new n buffer none room p e = tt
no_byte (Some left) None n buffer none room p e = absurd p
no_byte (Some left) (Some rest) n buffer none room p e =
    let all : left ≡ [] = (e room).0 none in
    (sym all, ap Some (sym (p ∙ ap (λ k. take k buffer ++ rest) none) ∙ all))

-- the end, after some bytes
all_gone : (a b c : Option (List ℕ)) (bytes : List ℕ) → Consumes a b bytes → ConsumesAll b c [] → ConsumesAll a c bytes × Consumes a c bytes
all_gone None b c bytes p q = (tt, tt)
all_gone (Some x) None c bytes p q = absurd p
all_gone (Some x) (Some y) c bytes p q =
    let whole : x ≡ bytes = p ∙ ap (λ z. bytes ++ z) (sym q.0) ∙ append-nil bytes in
    ((sym whole, q.1), subst (λ (d : Option (List ℕ)). Consumes (Some x) d bytes) (sym q.1) (whole ∙ sym (append-nil bytes)))

-- the bytes of the line so far are gone, each by a read
pub record SoFar (start : ℕ) (r : Reading) (old now : Supply) (note : ReadNote) (out : Stream) : Type 0 where
  pub room : length r.line ≤ line_limit
  pub gone : Consumes old.left now.left r.line
  pub unended : NoLine r.line
  pub as_far : (more : List ℕ) → input_from start [] (r.line ++ more) ≡ input_from r.count r.line more
  pub later : old.faults ≤ now.faults
  pub grown : start ≤ r.count
  pub notes : now.noted ≡ noted_after note old.noted (map (λ byte. out.text) r.line)

-- one byte more
behind_byte : (start count : ℕ) (line : List ℕ) (byte : ℕ) (more : List ℕ) (x : Input) → input_from start [] (line ++ byte ∷ more) ≡ input_from count line (byte ∷ more)
    → input_from count line (byte ∷ more) ≡ x → input_from start [] ((line ++ byte ∷ []) ++ more) ≡ x
behind_byte start count line byte more x h k = ap (input_from start []) (append_assoc line (byte ∷ []) more) ∙ h ∙ k

module _ (start : Reading) {r : Reading} {old now : Supply} (next : Supply) {note : ReadNote} {out : Stream} (s : SoFar start.count r old now note out) (called : next.noted ≡ note now.noted out.text) where
  notes_more : next.noted ≡ noted_after note old.noted (map (λ byte. out.text) r.line ++ out.text ∷ [])
  notes_more = one_read note old.noted now.noted next.noted out.text r.line s.notes called

  -- the source ends
  pub last_read : ConsumesAll now.left next.left [] → NextLine start old next note out (Ok false) r
  last_read p =
      let all = all_gone old.left now.left next.left r.line s.gone p in
      record {
        gone = r.line;
        taken = all.1;
        read = (ap (input_from start.count []) (sym (append-nil r.line)) ∙ s.as_far [], all.0);
        stops = tt;
        front = r.line;
        last = [];
        parts = sym (append-nil r.line);
        unended = s.unended;
        count = refl;
        notes = notes_more;
      }

  -- a read fails
  pub read_failed : Consumes now.left next.left [] → Rose now.faults next.faults → NextLine start old next note out (Err ReadFault) r
  read_failed p rose = record {
    gone = r.line;
    taken = subst (Consumes old.left next.left) (append-nil r.line) (Consumes-trans old.left now.left next.left r.line [] s.gone p);
    read = (ap (input_from start.count []) (sym (append-nil r.line)) ∙ s.as_far [], rose_last old.faults now.faults next.faults s.later rose);
    stops = tt;
    front = r.line;
    last = [];
    parts = sym (append-nil r.line);
    unended = s.unended;
    count = refl;
    notes = notes_more;
  }

  module _ (byte : ℕ) (p : Consumes now.left next.left (byte ∷ [])) where
    taken : Consumes old.left next.left (r.line ++ byte ∷ [])
    taken = Consumes-trans old.left now.left next.left r.line (byte ∷ []) s.gone p

    behind : (more : List ℕ) (x : Input) → input_from r.count r.line (byte ∷ more) ≡ x → input_from start.count [] ((r.line ++ byte ∷ []) ++ more) ≡ x
    behind more x k = behind_byte start.count r.count r.line byte more x (s.as_far (byte ∷ more)) k

    -- one byte more
    pub one_more : (new : Reading) → TakesByte r byte (Ok false) new → now.faults ≤ next.faults → SoFar start.count new old next note out
    one_more new t fell = record {
      room = t.2;
      gone = subst (Consumes old.left next.left) (sym t.1) taken;
      unended = unended_more r.line new.line byte t.1 s.unended t.4;
      as_far = λ more. ap (λ (l : List ℕ). input_from start.count [] (l ++ more)) t.1 ∙ behind more _ (t.3 more);
      later = omega (arith, s.later, fell);
      grown = omega (arith, s.grown, t.0);
      notes = line_byte_read note old.noted now.noted next.noted out.text r.line new.line byte t.1 s.notes called;
    }

    -- the line ends
    pub line_read : (new : Reading) → TakesByte r byte (Ok true) new → NextLine start old next note out (Ok true) new
    line_read new t = record {
      gone = r.line ++ byte ∷ [];
      taken = taken;
      read = (omega (arith, s.grown, t.0), t.1, λ more. behind more _ (t.2 more));
      stops = tt;
      front = r.line;
      last = byte ∷ [];
      parts = refl;
      unended = s.unended;
      count = byte_read r.line byte;
      notes = notes_more;
    }

    -- the line isn't read
    pub refused_read : (new : Reading) (e : DebugError) → TakesByte r byte (Err e) new → NextLine start old next note out (Err e) new
    refused_read new e t = record {
      gone = r.line ++ byte ∷ [];
      taken = taken;
      read = by e t;
      stops = at_most e;
      front = r.line;
      last = byte ∷ [];
      parts = refl;
      unended = s.unended;
      count = not_taken r byte new e t;
      notes = notes_more;
    }
      where
        too_many : EndsTooMany start.count (r.line ++ byte ∷ [])
        too_many = record {
          front = r.line;
          byte = byte;
          parts = refl;
          none = ap (λ (i : Input). i.refused) (ap (input_from start.count []) (sym (append-nil r.line)) ∙ s.as_far []);
        }

        at_most : (e : DebugError) → StopsAt start.count (r.line ++ byte ∷ []) (Err e)
        at_most (LineTooLong n) = too_many
        at_most (TooMuch n) = too_many
        at_most OutOfMemory = tt
        at_most ReadFault = tt
        at_most WriteFault = tt
        at_most (Joint f) = tt

        by : (e : DebugError) → TakesByte r byte (Err e) new → ReadsLine start (r.line ++ byte ∷ []) old next (Err e) new
        by (LineTooLong n) t = λ more. behind more _ (t more)
        by (TooMuch n) t = λ more. behind more _ (t more)
        by OutOfMemory t = (byte, λ more. behind more _ (t more))
        by ReadFault t = absurd t
        by WriteFault t = absurd t
        by (Joint f) t = absurd t
