-- What a source notes of its reads, and what out had been given at each.
use Rattle.step_debugger.proofs.Common.{◌≡◌, ℕ, ◌+◌, Bool, true, false, List, [], ◌∷◌, ◌++◌, append_assoc, append-nil, length, length-append, map, nat_lt, Option, refl, sym, ap, subst, ◌∙◌, arith, Result, Appends, ReadNote, Stream, Supply, noted_after, Trace, DebugError, Reading, input_limit, is_line_feed, is_too_long, input_from, NoLine, NextLine, reads_for, answered_in, InTurn, AnswersInTurn}
use Rattle.step_debugger.proofs.Prefixes.{next}

-- ---- the notes

noted_more : (note : ReadNote) (noted : ℕ) (xs ys : List (Option (List ℕ))) → noted_after note noted (xs ++ ys) ≡ noted_after note (noted_after note noted xs) ys
noted_more note noted [] ys = refl
noted_more note noted (x ∷ xs) ys = noted_more note (note noted x) xs ys

-- out has been given the same at a read for each of these bytes, and at one more
pub one_read : (note : ReadNote) (noted mid now : ℕ) (had : Option (List ℕ)) (line : List ℕ) → mid ≡ noted_after note noted (map (λ byte. had) line) → now ≡ note mid had
    → now ≡ noted_after note noted (map (λ byte. had) line ++ had ∷ [])
one_read note noted mid now had line first last = last ∙ ap (λ n. note n had) first ∙ sym (noted_more note noted (map (λ byte. had) line) (had ∷ []))

-- and a byte more came
pub line_byte_read : (note : ReadNote) (noted mid now : ℕ) (had : Option (List ℕ)) (line new_line : List ℕ) (byte : ℕ) → new_line ≡ line ++ byte ∷ [] → mid ≡ noted_after note noted (map (λ byte. had) line) → now ≡ note mid had
    → now ≡ noted_after note noted (map (λ byte. had) new_line)
line_byte_read note noted mid now had line new_line byte is first last =
    one_read note noted mid now had line first last ∙ ap (noted_after note noted) (sym (one_more line)) ∙ ap (λ (l : List ℕ). noted_after note noted (map (λ byte. had) l)) (sym is)
  where
    one_more : (line : List ℕ) → map (λ byte. had) (line ++ byte ∷ []) ≡ map (λ byte. had) line ++ had ∷ []
    one_more [] = refl
    one_more (b ∷ bs) = ap (λ (l : List (Option (List ℕ))). had ∷ l) (one_more bs)

-- ---- bytes within a line

pub unended_more : (line new_line : List ℕ) (byte : ℕ) → new_line ≡ line ++ byte ∷ [] → NoLine line → is_line_feed byte ≡ false → NoLine new_line
unended_more line new_line byte is none other = subst NoLine (sym is) (by line none)
  where
    by : (line : List ℕ) → NoLine line → NoLine (line ++ byte ∷ [])
    by [] none = (other, tt)
    by (b ∷ bs) none = (none.0, by bs none.1)

-- they hold no whole line
pub no_lines : (count : ℕ) (line front : List ℕ) → NoLine front → (input_from count line front).lines ≡ []
no_lines count line [] none = refl
no_lines count line (byte ∷ front) none = by (is_too_long line byte) (nat_lt count input_limit) (is_line_feed byte) none.0 (no_lines (count + 1) (line ++ byte ∷ []) front none.1)
  where
    by : (over room feed : Bool) → feed ≡ false → (input_from (count + 1) (line ++ byte ∷ []) front).lines ≡ [] → (next count line byte over room feed front).lines ≡ []
    by true room feed other rest = refl
    by false false feed other rest = refl
    by false true true other rest = absurd cc
    by false true false other rest = rest

-- ---- at each read

module _ (t : Trace) (written : Option (List ℕ)) where
  -- while a line comes, out has what it had
  stays : (had : Option (List ℕ)) (come front last : List ℕ) → ((p : List ℕ) → NoLine p → Appends written had (answered_in t (come ++ p))) → NoLine front
      → InTurn t written come (front ++ last) (map (λ byte. had) front ++ had ∷ [])
  stays had come [] [] each none = (subst (λ (bs : List ℕ). Appends written had (answered_in t bs)) (append-nil come) (each [] tt), refl)
  stays had come [] (byte ∷ last) each none = (subst (λ (bs : List ℕ). Appends written had (answered_in t bs)) (append-nil come) (each [] tt), tt)
  stays had come (byte ∷ front) last each none = (
    subst (λ (bs : List ℕ). Appends written had (answered_in t bs)) (append-nil come) (each [] tt),
    stays had (come ++ byte ∷ []) front last (λ p q. subst (λ (bs : List ℕ). Appends written had (answered_in t bs)) (sym (append_assoc come (byte ∷ []) p)) (each (byte ∷ p) (none.0, q))) none.1,
  )

  -- reads, one for each byte, and then more
  then_more : (come xs ys : List ℕ) (ls ms : List (Option (List ℕ))) → length ls ≡ length xs → InTurn t written come xs ls → InTurn t written (come ++ xs) ys ms → InTurn t written come (xs ++ ys) (ls ++ ms)
  then_more come [] ys [] ms same first rest = subst (λ (bs : List ℕ). InTurn t written bs ys ms) (append-nil come) rest
  then_more come [] ys (l ∷ ls) ms same first rest = absurd (omega (arith, same))
  then_more come (x ∷ xs) ys [] ms same first rest = absurd (omega (arith, same))
  then_more come (x ∷ xs) ys (l ∷ ls) ms same first rest =
      let less : length ls ≡ length xs = omega (arith, same) in
      (first.0, then_more (come ++ x ∷ []) xs ys ls ms less first.1 (subst (λ (bs : List ℕ). InTurn t written bs ys ms) (sym (append_assoc come (x ∷ []) xs)) rest))

-- the reads of a further line
pub further : {t : Trace} {old new : Reading} {input mid now : Supply} {note : ReadNote} {out had : Stream} {gone : List ℕ} {result : Result Bool DebugError} → AnswersInTurn t gone input mid note out (length gone)
    → ((p : List ℕ) → NoLine p → Appends out.text had.text (answered_in t (gone ++ p))) → (n : NextLine old mid now note had result new) → AnswersInTurn t (gone ++ n.gone) input now note out (length gone + reads_for n.gone result)
further {t = t} {input = input} {note = note} {out = out} {had = had} {gone = gone} a each n =
    let more : List (Option (List ℕ)) = map (λ byte. had.text) n.front ++ had.text ∷ [] in
    record {
      given = a.given ++ more;
      each = then_more t out.text [] gone n.gone a.given more a.reads_is a.each (subst (λ (bs : List ℕ). InTurn t out.text gone bs more) (sym n.parts) (stays t out.text had.text gone n.front n.last each n.unended));
      noted_is = n.notes ∙ ap (λ m. noted_after note m more) a.noted_is ∙ sym (noted_more note input.noted a.given more);
      reads_is = let sizes = length-append a.given more in let size : length more ≡ length n.front + 1 = size_of n.front in omega (arith, sizes, size, a.reads_is, n.count);
    }
  where
    size_of : (front : List ℕ) → length (map (λ byte. had.text) front ++ had.text ∷ []) ≡ length front + 1
    size_of [] = refl
    size_of (b ∷ bs) = let less = size_of bs in omega (arith, less)
