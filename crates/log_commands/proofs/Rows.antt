-- The rows of a replay, sent one after another.
use Rattle.log_commands.proofs.Common.{length-append, Replaying, Err, Ok, Result, ◌≡◌, ℕ, ◌≤◌, List, [], ◌∷◌, Option, ◌∙◌, ap, subst, sym, refl, ◌++◌, inl, inr, ◌⊎◌, arith, append_assoc, Appends, AppendsPart, AppendsShort, Stream, length, ◌<◌, IfErr, LacksALine, IsCutShort, WriteFailed, Outcome, Done, Refused, Replayed, with_rows, outcome_only, ReplayError, rows_text, EndMark, outcome_of, ending_of, end_of_interval, Sent, SendStops, Refusal, begin_text}
use Rattle.bn_base.specs.declared.row.Row.{Row}
use Rattle.rv_text.specs.Rows.{row_text}
use Rattle.rv_text.specs.Marks.{end_text}
use Rattle.hart_replay.specs.declared.error.ReplayError.TheVariants as replay
use Rattle.log_commands.specs.declared.replay_lines.ReplayEnd.TheVariants as ending
use Rattle.log_commands.proofs.Prints.{SoFar, so_far-none, so_far-more, so_far-gathered, so_far-done, so_far-stopped, so_far-short, so_far-ends, part-behind, part-short, short-none, short-longer, short-behind, not-memory, stops-later}

-- of the rows of a replay some were sent, a text waits, and these are left
pub record RowsSoFar (whole rest : Replayed) (waiting : List ℕ) (old now : Option (List ℕ)) (before after : ℕ) : Type 0 where
  pub sent : SoFar (rows_text whole.rows) (waiting ++ rows_text rest.rows) old now before after
  pub outcome : rest.outcome ≡ whole.outcome

pub stands-none : (whole : Replayed) (known : Option (List ℕ)) (faults : ℕ) → RowsSoFar whole whole [] known known faults faults
stands-none whole known faults = record { sent = so_far-none (rows_text whole.rows) known faults; outcome = refl }

-- the text of a row and those after it
row-first : (row : Row) (rest : Replayed) → rows_text (with_rows (row ∷ []) rest).rows ≡ row_text row ++ rows_text rest.rows
unfolding rows_text
row-first row rest = refl

with-row : (whole rest next : Replayed) (row : Row) (waiting : List ℕ) (old now : Option (List ℕ)) (before after : ℕ) → rest ≡ with_rows (row ∷ []) next
    → RowsSoFar whole rest waiting old now before after → SoFar (rows_text whole.rows) ((waiting ++ row_text row) ++ rows_text next.rows) old now before after
with-row whole rest next row waiting old now before after e s =
    let parts : waiting ++ rows_text rest.rows ≡ (waiting ++ row_text row) ++ rows_text next.rows =
    ap (λ (r : Replayed). waiting ++ rows_text r.rows) e ∙ ap (λ (t : List ℕ). waiting ++ t) (row-first row next) ∙ sym (append_assoc waiting (row_text row) (rows_text next.rows)) in
    subst (λ (t : List ℕ). SoFar (rows_text whole.rows) t old now before after) parts s.sent

-- one row more
pub stands-more : (whole rest next : Replayed) (row : Row) (waiting left : List ℕ) (old now after_ : Option (List ℕ)) (before after last : ℕ) → rest ≡ with_rows (row ∷ []) next
    → RowsSoFar whole rest waiting old now before after → (sent : List ℕ) × Appends now after_ sent × (waiting ++ row_text row ≡ sent ++ left) → after ≤ last
    → RowsSoFar whole next left old after_ before last
stands-more whole rest next row waiting left old now after_ before after last e s h fell = record {
  sent = so_far-gathered (rows_text whole.rows) (waiting ++ row_text row) left (rows_text next.rows) old now after_ before after last (with-row whole rest next row waiting old now before after e s) h fell;
  outcome = ap (λ (r : Replayed). r.outcome) (sym e) ∙ s.outcome;
}

-- a row that wasn't sent
pub stands-stopped : (whole rest next : Replayed) (row : Row) (waiting : List ℕ) (old now after_ : Option (List ℕ)) (before after last : ℕ) (r : Refusal) → rest ≡ with_rows (row ∷ []) next
    → RowsSoFar whole rest waiting old now before after → AppendsPart now after_ (waiting ++ row_text row) × SendStops after last r
    → AppendsPart old after_ (rows_text whole.rows) × SendStops before last r
stands-stopped whole rest next row waiting old now after_ before after last r e s h =
    so_far-stopped (rows_text whole.rows) (waiting ++ row_text row) (rows_text next.rows) old now after_ before after last r (with-row whole rest next row waiting old now before after e s) h

-- what waits is sent
pub stands-sent : (whole rest : Replayed) (waiting : List ℕ) (old now next : Option (List ℕ)) (before after last : ℕ)
    → RowsSoFar whole rest waiting old now before after → Appends now next waiting → after ≤ last → RowsSoFar whole rest [] old next before last
stands-sent whole rest waiting old now next before after last s h fell = record {
  sent = so_far-more (rows_text whole.rows) waiting (rows_text rest.rows) old now next before after last s.sent h fell;
  outcome = s.outcome;
}

-- what waits isn't sent whole
pub stands-short : (whole rest : Replayed) (waiting : List ℕ) (old now next : Option (List ℕ)) (before after last : ℕ) (r : Refusal)
    → RowsSoFar whole rest waiting old now before after → AppendsPart now next waiting × SendStops after last r
    → AppendsPart old next (rows_text whole.rows) × SendStops before last r
stands-short whole rest waiting old now next before after last r s h =
    so_far-stopped (rows_text whole.rows) waiting (rows_text rest.rows) old now next before after last r s.sent h

no-rows : (rest : Replayed) (o : Outcome) → rest ≡ outcome_only o → rows_text rest.rows ≡ []
unfolding rows_text
no-rows rest o e = ap (λ (r : Replayed). rows_text r.rows) e

-- no row is left, and the replay is done
pub stands-done : (whole rest : Replayed) (old now : Option (List ℕ)) (before after : ℕ) → rest ≡ outcome_only Done → RowsSoFar whole rest [] old now before after
    → Appends old now (rows_text whole.rows) × (outcome_of ending.Done ≡ whole.outcome)
stands-done whole rest old now before after e s =
    (so_far-done (rows_text whole.rows) (rows_text rest.rows) old now before after s.sent (no-rows rest Done e), ap (λ (r : Replayed). r.outcome) (sym e) ∙ s.outcome)

stopped-so : (whole rest : Replayed) (old now : Option (List ℕ)) (before after : ℕ) (e : ReplayError) → rest ≡ outcome_only (Refused e) → RowsSoFar whole rest [] old now before after
    → Appends old now (rows_text whole.rows) × (outcome_of (ending.Stopped e) ≡ whole.outcome)
stopped-so whole rest old now before after e is s =
    (so_far-done (rows_text whole.rows) (rows_text rest.rows) old now before after s.sent (no-rows rest (Refused e) is), ap (λ (r : Replayed). r.outcome) (sym is) ∙ s.outcome)

-- no row is left, and the replay was refused or ran out of memory
pub stands-refused : (whole rest : Replayed) (old now : Option (List ℕ)) (before after : ℕ) (e : ReplayError) → (rest ≡ outcome_only (Refused e)) ⊎ (e ≡ replay.OutOfMemory) → RowsSoFar whole rest [] old now before after
    → Sent old now before after (rows_text whole.rows) (λ x. outcome_of x ≡ whole.outcome) (ending_of e)
stands-refused whole rest old now before after replay.OutOfMemory h s = (so_far-ends (rows_text whole.rows) (rows_text rest.rows) old now before after s.sent, tt)
stands-refused whole rest old now before after e (inr h) s = grind arith
stands-refused whole rest old now before after e (inl h) s = stopped-so whole rest old now before after e h s

-- the line after the rows wasn't sent whole
pub sent-last : (old now next : Option (List ℕ)) (before after last : ℕ) (s : List ℕ) (hart interval : ℕ) (mark : EndMark) (whole o : Outcome) (r : Refusal)
    → Appends old now s → o ≡ whole → before ≤ after → AppendsPart now next (end_of_interval hart interval mark o) × SendStops after last r
    → AppendsPart old next (s ++ end_of_interval hart interval mark whole) × SendStops before last r
sent-last old now next before after last s hart interval mark whole o r h same fell k =
    let there = subst (λ (x : Outcome). AppendsPart now next (end_of_interval hart interval mark x)) same k.0 in
    (part-behind old now next s (end_of_interval hart interval mark whole) h there, stops-later before after last r fell k.1)

-- ---- if memory runs out

pub row-some : (row : Row) → 0 < length (row_text row)
unfolding row_text
row-some row = grind (arith, length-append)

pub begin-some : (hart interval ic : ℕ) → 0 < length (begin_text hart interval ic)
unfolding begin_text
begin-some hart interval ic = grind arith

pub end-some : (hart interval : ℕ) (mark : EndMark) → 0 < length (end_text hart interval mark)
unfolding end_text
end-some hart interval mark = grind arith

-- a write failed
pub no-memory : {A : Type 0} (text : List ℕ) (old new : Stream) (result : Result A Refusal) → IfErr result (λ r. r ≡ WriteFailed) → IfErr result (LacksALine text old new)
no-memory text old new (Ok value) h = tt
no-memory text old new (Err r) h = λ m. not-memory r h m

-- a line found no memory: nothing was sent
pub line-lacks : {A : Type 0} (text : List ℕ) (old : Stream) (result : Result A Refusal) → 0 < length text → IfErr result (LacksALine text old old)
line-lacks text old (Ok value) some = tt
line-lacks text old (Err r) some = λ m. short-none old.text text some

-- memory ran out for one more line
pub short-line : {A : Type 0} (old new : Stream) (text line : List ℕ) (result : Result A Refusal) → 0 < length line → Sent old.text new.text old.faults new.faults text (λ x. ⊥) result → IfErr result (LacksALine (text ++ line) old new)
short-line old new text line (Ok value) some h = absurd h.1
short-line old new text line (Err r) some h = λ m. part-short old.text new.text text line some h.0

-- a row without memory for its line
pub stands-lacking : (whole rest next : Replayed) (row : Row) (waiting : List ℕ) (old here there : Stream) → rest ≡ with_rows (row ∷ []) next → RowsSoFar whole rest waiting old.text here.text old.faults here.faults
    → AppendsShort here.text there.text (waiting ++ row_text row) → AppendsShort old.text there.text (rows_text whole.rows)
stands-lacking whole rest next row waiting old here there e s h =
    so_far-short (rows_text whole.rows) (waiting ++ row_text row) (rows_text next.rows) old.text here.text there.text old.faults here.faults (with-row whole rest next row waiting old.text here.text old.faults here.faults e s) h

-- the replay itself found no memory
pub ends-without : (text : List ℕ) (old here : Stream) (now : Replaying) (e : ReplayError) → now.left ≡ outcome_only (Refused e) → IfErr (ending_of e) (IsCutShort text now old here)
ends-without text old here now replay.OutOfMemory is = λ m. inl is
ends-without text old here now e is = tt

-- a text before others that lacks a line, or whose replay found no memory
pub cut-longer : (s t : List ℕ) (now : Replaying) (old new : Stream) (r : Refusal) → IsCutShort s now old new r → IsCutShort (s ++ t) now old new r
cut-longer s t now old new r h = λ m. by (h m)
  where
    by : (now.left ≡ outcome_only (Refused replay.OutOfMemory)) ⊎ AppendsShort old.text new.text s → (now.left ≡ outcome_only (Refused replay.OutOfMemory)) ⊎ AppendsShort old.text new.text (s ++ t)
    by (inl is) = inl is
    by (inr x) = inr (short-longer old.text new.text s t x)

-- a text behind another
pub cut-behind : (s t : List ℕ) (now : Replaying) (old mid new : Stream) (r : Refusal) → Appends old.text mid.text s → IsCutShort t now mid new r → IsCutShort (s ++ t) now old new r
cut-behind s t now old mid new r sent h = λ m. by (h m)
  where
    by : (now.left ≡ outcome_only (Refused replay.OutOfMemory)) ⊎ AppendsShort mid.text new.text t → (now.left ≡ outcome_only (Refused replay.OutOfMemory)) ⊎ AppendsShort old.text new.text (s ++ t)
    by (inl is) = inl is
    by (inr x) = inr (short-behind old.text mid.text new.text s t sent x)

-- the line after the rows
pub cut-last : (s : List ℕ) (hart interval : ℕ) (mark : EndMark) (whole o : Outcome) (now : Replaying) (old mid new : Stream) (r : Refusal) → Appends old.text mid.text s → o ≡ whole
    → LacksALine (end_of_interval hart interval mark o) mid new r → IsCutShort (s ++ end_of_interval hart interval mark whole) now old new r
cut-last s hart interval mark whole o now old mid new r sent same h =
    cut-behind s (end_of_interval hart interval mark whole) now old mid new r sent (λ m. inr (subst (λ (x : Outcome). AppendsShort mid.text new.text (end_of_interval hart interval mark x)) same (h m)))

pub cut-result : {A : Type 0} (s t : List ℕ) (now : Replaying) (old mid new : Stream) (result : Result A Refusal) → Appends old.text mid.text s → IfErr result (IsCutShort t now mid new) → IfErr result (IsCutShort (s ++ t) now old new)
cut-result s t now old mid new (Ok value) sent h = tt
cut-result s t now old mid new (Err r) sent h = cut-behind s t now old mid new r sent h
