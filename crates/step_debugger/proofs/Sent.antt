-- Texts that are sent one after another.
use Rattle.step_debugger.proofs.Common.{◌≡◌, ℕ, suc, ◌+◌, ◌-◌, ◌≤◌, ◌<◌, List, [], ◌∷◌, ◌++◌, length, take, Option, Some, None, ◌∙◌, ap, subst, sym, arith, inl, inr, ◌⊎◌, append_assoc, length-append, Ok, Appends, Appends-trans, take_all, take-append-le, AppendsPart, AppendsShort, Stream, Joining, readiness, Trace, trace_step, DebugError, ReadFault, WriteFault, LineTooLong, TooMuch, Joint, OutOfMemory, Ending, Moves, step_by, step_up_to, hart_place, places_from, StepsOnce, Stops, SendsPart, Gathers}
use Rattle.std.proofs.lemmas.Bool.{cases_lt}
use Rattle.bn_outside.proofs.Pieces.{rose_last}

-- the front of a longer text
front_longer : (n : ℕ) (s t : List ℕ) → (length s < n) ⊎ (n ≤ length s) → (m : ℕ) × (take m (s ++ t) ≡ take n s)
front_longer n s t (inl more) = (length s, take-append-le (length s) s t (omega arith) ∙ take_all (length s) s (omega arith) ∙ sym (take_all n s (omega (arith, more))))
front_longer n s t (inr fewer) = (n, take-append-le n s t fewer)

pub part_longer : (a b : Option (List ℕ)) (s t : List ℕ) → AppendsPart a b s → AppendsPart a b (s ++ t)
part_longer a b s t h =
    let f = front_longer h.0 s t (cases_lt (length s) h.0) in
    (f.0, subst (λ (u : List ℕ). Appends a b u) (sym f.1) h.1)

-- a whole text and then a prefix of another
take_behind : (s t : List ℕ) (n : ℕ) → take (length s + n) (s ++ t) ≡ s ++ take n t
take_behind [] t n = ap (λ (k : ℕ). take k t) (omega arith)
take_behind (x ∷ s) t n =
    let e : length (x ∷ s) + n ≡ suc (length s + n) = omega arith in
    ap (λ (k : ℕ). take k (x ∷ (s ++ t))) e ∙ ap (λ (u : List ℕ). x ∷ u) (take_behind s t n)

pub part_behind : (a b c : Option (List ℕ)) (s t : List ℕ) → Appends a b s → AppendsPart b c t → AppendsPart a c (s ++ t)
part_behind a b c s t h k =
    (length s + k.0, subst (λ (u : List ℕ). Appends a c u) (sym (take_behind s t k.0)) (Appends-trans a b c s (take k.0 t) h k.1))

-- the same of a prefix that isn't all of it
short_longer : (a b : Option (List ℕ)) (s t : List ℕ) → AppendsShort a b s → AppendsShort a b (s ++ t)
short_longer a b s t h =
    let size = length-append s t in
    (h.0, omega (arith, size, h.1), subst (λ (u : List ℕ). Appends a b u) (sym (take-append-le h.0 s t (omega (arith, h.1)))) h.2)

short_behind : (a b c : Option (List ℕ)) (s t : List ℕ) → Appends a b s → AppendsShort b c t → AppendsShort a c (s ++ t)
short_behind a b c s t h k =
    let size = length-append s t in
    (length s + k.0, omega (arith, size, k.1), subst (λ (u : List ℕ). Appends a c u) (sym (take_behind s t k.0)) (Appends-trans a b c s (take k.0 t) h k.2))

-- and of a text that an error stopped
pub cut_longer : (e : DebugError) (a b : Option (List ℕ)) (s t : List ℕ) → SendsPart e a b s → SendsPart e a b (s ++ t)
cut_longer WriteFault a b s t h = short_longer a b s t h
cut_longer ReadFault a b s t h = part_longer a b s t h
cut_longer (LineTooLong n) a b s t h = part_longer a b s t h
cut_longer (TooMuch n) a b s t h = part_longer a b s t h
cut_longer (Joint f) a b s t h = part_longer a b s t h
cut_longer OutOfMemory a b s t h = part_longer a b s t h

pub cut_behind : (e : DebugError) (a b c : Option (List ℕ)) (s t : List ℕ) → Appends a b s → SendsPart e b c t → SendsPart e a c (s ++ t)
cut_behind WriteFault a b c s t h k = short_behind a b c s t h k
cut_behind ReadFault a b c s t h k = part_behind a b c s t h k
cut_behind (LineTooLong n) a b c s t h k = part_behind a b c s t h k
cut_behind (TooMuch n) a b c s t h k = part_behind a b c s t h k
cut_behind (Joint f) a b c s t h k = part_behind a b c s t h k
cut_behind OutOfMemory a b c s t h k = part_behind a b c s t h k

pub part_whole : (old new : Option (List ℕ)) (text : List ℕ) → Appends old new text → AppendsPart old new text
part_whole old new text h = (length text, subst (λ (t : List ℕ). Appends old new t) (sym (take_all (length text) text (omega arith))) h)

pub stops_later : (a b c : Stream) (e : DebugError) → a.faults ≤ b.faults → Stops b c e → Stops a c e
stops_later a b c ReadFault h s = absurd s
stops_later a b c WriteFault h s = rose_last a.faults b.faults c.faults h s
stops_later a b c (LineTooLong n) h s = absurd s
stops_later a b c (TooMuch n) h s = absurd s
stops_later a b c (Joint e) h s = absurd s
stops_later a b c OutOfMemory h s = tt

-- ---- steps of a hart

-- of what steps print some was sent, a text waits, and these steps are left
pub record SoFar (first : List ℕ) (whole rest : Moves) (waiting : List ℕ) (old now : Stream) : Type 0 where
  pub sent : List ℕ
  pub appended : Appends old.text now.text sent
  pub text : first ++ whole.text ≡ sent ++ (waiting ++ rest.text)
  pub moved : whole.now ≡ rest.now
  pub ends : whole.ends ≡ rest.ends
  pub later : old.faults ≤ now.faults

-- one step is left at least
one_left : (h count k : ℕ) (j : Trace) → k < count → step_up_to h (count - k) j ≡ step_by j h (readiness j.now h) (trace_step j h) (λ i. step_up_to h (count - (k + 1)) i)
one_left h count k j low = let e : count - k ≡ suc (count - (k + 1)) = omega (arith, low) in ap (λ n. step_up_to h n j) e

module _ {first waiting : List ℕ} {whole : Moves} {old now : Stream} (h count k : ℕ) (j : Trace) (s : SoFar first whole (step_up_to h (count - k) j) waiting old now) where
  -- it is done and told
  told : (new : Trace) (text : List ℕ) → k < count → StepsOnce j h (Ok None) new waiting text → SoFar first whole (step_up_to h (count - (k + 1)) new) text old now
  told new text low t =
      let rest = step_up_to h (count - (k + 1)) new in
      let is = one_left h count k j low ∙ t.2 (λ i. step_up_to h (count - (k + 1)) i) in
      record {
        sent = s.sent;
        appended = s.appended;
        text = s.text ∙ ap (λ (m : Moves). s.sent ++ (waiting ++ m.text)) is ∙ ap (λ (x : List ℕ). s.sent ++ x) (sym (append_assoc waiting t.0 rest.text) ∙ ap (λ (x : List ℕ). x ++ rest.text) (sym t.1));
        moved = s.moved ∙ ap (λ (m : Moves). m.now) is;
        ends = s.ends ∙ ap (λ (m : Moves). m.ends) is;
        later = s.later;
      }

  -- and some of it is sent
  pub one_more : (new : Trace) (text : List ℕ) (next : Stream) (left : List ℕ) → k < count → StepsOnce j h (Ok None) new waiting text
      → Gathers {A = Unit {0}} text (λ x. Unit {0}) now next left (Ok (tt {0})) → now.faults ≤ next.faults → SoFar first whole (step_up_to h (count - (k + 1)) new) left old next
  one_more new text next left low t g fell =
      let m = told new text low t in
      let rest = step_up_to h (count - (k + 1)) new in
      record {
        sent = m.sent ++ g.0;
        appended = Appends-trans old.text now.text next.text m.sent g.0 m.appended g.1;
        text = m.text ∙ ap (λ (x : List ℕ). m.sent ++ (x ++ rest.text)) g.2 ∙ ap (λ (x : List ℕ). m.sent ++ x) (append_assoc g.0 left rest.text) ∙ sym (append_assoc m.sent g.0 (left ++ rest.text));
        moved = m.moved;
        ends = m.ends;
        later = omega (arith, m.later, fell);
      }

  -- or none of it
  pub not_sent : (new : Trace) (text : List ℕ) (next : Stream) (e : DebugError) → k < count → StepsOnce j h (Ok None) new waiting text
      → SendsPart e now.text next.text text × Stops now next e → SendsPart e old.text next.text (first ++ whole.text) × Stops old next e
  not_sent new text next e low t g =
      let m = told new text low t in
      let rest = step_up_to h (count - (k + 1)) new in (
        subst (λ (x : List ℕ). SendsPart e old.text next.text x) (sym m.text) (cut_behind e old.text now.text next.text m.sent (text ++ rest.text) m.appended (cut_longer e now.text next.text text rest.text g.0)),
        stops_later old now next e m.later g.1,
      )

  -- the steps end
  pub they_end : (new : Trace) (text : List ℕ) (ending : Ending) → k < count → StepsOnce j h (Ok (Some ending)) new waiting text
      → Gathers (first ++ whole.text) (λ (x : Ending). (new ≡ whole.now) × (x ≡ whole.ends)) old now text (Ok ending)
  they_end new text ending low t =
      let is = one_left h count k j low ∙ t.2 (λ i. step_up_to h (count - (k + 1)) i) in
      (s.sent, s.appended, s.text ∙ ap (λ (m : Moves). s.sent ++ (waiting ++ m.text)) is ∙ ap (λ (x : List ℕ). s.sent ++ x) (sym t.1), (sym (s.moved ∙ ap (λ (m : Moves). m.now) is), sym (s.ends ∙ ap (λ (m : Moves). m.ends) is)))

  -- out of memory
  pub they_starve : (e : DebugError) → e ≡ OutOfMemory → SendsPart e old.text now.text (first ++ whole.text) × Stops old now e
  they_starve e none =
      subst (λ (x : DebugError). SendsPart x old.text now.text (first ++ whole.text) × Stops old now x) (sym none)
      (subst (λ (x : List ℕ). AppendsPart old.text now.text x) (sym s.text) (part_longer old.text now.text s.sent _ (part_whole old.text now.text s.sent s.appended)), tt)

-- ---- the places of harts

pub next_place : (j : Joining) (h count : ℕ) (text more all : List ℕ) → h < count → more ≡ text ++ hart_place j h → text ++ places_from j h (count - h) ≡ all → more ++ places_from j (h + 1) (count - (h + 1)) ≡ all
next_place j h count text more all low e s =
    let one : count - h ≡ suc (count - (h + 1)) = omega (arith, low) in
    ap (λ (x : List ℕ). x ++ places_from j (h + 1) (count - (h + 1))) e ∙ append_assoc text (hart_place j h) (places_from j (h + 1) (count - (h + 1))) ∙ ap (λ n. text ++ places_from j h n) (sym one) ∙ s
