-- Texts that are sent one after another.
use Rattle.log_commands.proofs.Common.{◌≡◌, ℕ, suc, ◌+◌, ◌≤◌, ◌<◌, List, [], ◌∷◌, ◌++◌, length, take, Option, Some, None, ◌∙◌, ap, subst, sym, refl, arith, inl, inr, ◌⊎◌, append_assoc, Result, Ok, Err, OnOk, OnErr, Appends, append-nil, length-append, take_all, take-append-le, cases_lt, Rose, AppendsPart, AppendsShort, Sent, SendStops, Gathered, Wrote, Refusal, OutOfMemory, WriteFailed}

pub appends-nothing : (known : Option (List ℕ)) → Appends known known []
appends-nothing None = tt
appends-nothing (Some xs) = sym (append-nil xs)

pub appends-both : (a b c : Option (List ℕ)) (s t : List ℕ) → Appends a b s → Appends b c t → Appends a c (s ++ t)
appends-both None b c s t h k = tt
appends-both (Some xs) None c s t h k = absurd h
appends-both (Some xs) (Some ys) None s t h k = absurd k
appends-both (Some xs) (Some ys) (Some zs) s t h k = k ∙ ap (λ (u : List ℕ). u ++ t) h ∙ append_assoc xs s t

-- the front of a longer text
front-longer : (n : ℕ) (s t : List ℕ) → (length s < n) ⊎ (n ≤ length s) → (m : ℕ) × (take m (s ++ t) ≡ take n s)
front-longer n s t (inl more) = (length s, take-append-le (length s) s t (omega arith) ∙ take_all (length s) s (omega arith) ∙ sym (take_all n s (omega (arith, more))))
front-longer n s t (inr fewer) = (n, take-append-le n s t fewer)

pub part-longer : (a b : Option (List ℕ)) (s t : List ℕ) → AppendsPart a b s → AppendsPart a b (s ++ t)
part-longer a b s t h =
    let f = front-longer h.0 s t (cases_lt (length s) h.0) in
    (f.0, subst (λ (u : List ℕ). Appends a b u) (sym f.1) h.1)

-- a whole text and then a prefix of another
take-behind : (s t : List ℕ) (n : ℕ) → take (length s + n) (s ++ t) ≡ s ++ take n t
take-behind [] t n = ap (λ (k : ℕ). take k t) (omega arith)
take-behind (x ∷ s) t n =
    let e : length (x ∷ s) + n ≡ suc (length s + n) = omega arith in
    ap (λ (k : ℕ). take k (x ∷ (s ++ t))) e ∙ ap (λ (u : List ℕ). x ∷ u) (take-behind s t n)

pub part-behind : (a b c : Option (List ℕ)) (s t : List ℕ) → Appends a b s → AppendsPart b c t → AppendsPart a c (s ++ t)
part-behind a b c s t h k =
    (length s + k.0, subst (λ (u : List ℕ). Appends a c u) (sym (take-behind s t k.0)) (appends-both a b c s (take k.0 t) h k.1))

pub part-none : (known : Option (List ℕ)) (text : List ℕ) → AppendsPart known known text
part-none known text = (0, appends-nothing known)

pub part-whole : (old new : Option (List ℕ)) (text : List ℕ) → Appends old new text → AppendsPart old new text
part-whole old new text h = (length text, subst (λ (t : List ℕ). Appends old new t) (sym (take_all (length text) text (omega arith))) h)

-- a prefix of a text is short of a longer one
pub part-short : (a b : Option (List ℕ)) (s t : List ℕ) → 0 < length t → AppendsPart a b s → AppendsShort a b (s ++ t)
part-short a b s t some h = by (cases_lt (length s) h.0)
  where
    by : (length s < h.0) ⊎ (h.0 ≤ length s) → AppendsShort a b (s ++ t)
    by (inl more) = (
      length s,
      omega (arith, some, length-append s t),
      subst (λ (u : List ℕ). Appends a b u) (take_all h.0 s (omega (arith, more)) ∙ sym (take-append-le (length s) s t (omega arith) ∙ take_all (length s) s (omega arith))) h.1,
    )
    by (inr fewer) = (h.0, omega (arith, some, fewer, length-append s t), subst (λ (u : List ℕ). Appends a b u) (sym (take-append-le h.0 s t fewer)) h.1)

pub short-longer : (a b : Option (List ℕ)) (s t : List ℕ) → AppendsShort a b s → AppendsShort a b (s ++ t)
short-longer a b s t h = (h.0, omega (arith, h.1, length-append s t), subst (λ (u : List ℕ). Appends a b u) (sym (take-append-le h.0 s t (omega (arith, h.1)))) h.2)

pub short-behind : (a b c : Option (List ℕ)) (s t : List ℕ) → Appends a b s → AppendsShort b c t → AppendsShort a c (s ++ t)
short-behind a b c s t h k =
    (length s + k.0, omega (arith, k.1, length-append s t), subst (λ (u : List ℕ). Appends a c u) (sym (take-behind s t k.0)) (appends-both a b c s (take k.0 t) h k.2))

pub short-none : (known : Option (List ℕ)) (text : List ℕ) → 0 < length text → AppendsShort known known text
short-none known text some = (0, some, appends-nothing known)

-- counts that don't fall
pub rose-later : (a b c : ℕ) → a ≤ b → Rose b c → Rose a c
rose-later a b c h (inl less) = inl (omega (arith, h, less))
rose-later a b c h (inr last) = inr last

pub stops-later : (a b c : ℕ) (r : Refusal) → a ≤ b → SendStops b c r → SendStops a c r
stops-later a b c OutOfMemory h s = tt
stops-later a b c WriteFailed h s = rose-later a b c h s
stops-later a b c r h s = absurd s

-- what `send_all` did
pub wrote : {A E : Type 0} (old new : Option (List ℕ)) (before now : ℕ) (line : List ℕ) (result : Result A E)
    → OnOk result (Appends old new line) → AppendsPart old new line → OnErr result (Rose before now) → Wrote old new before now line
wrote old new before now line (Ok value) ok part cause = inl ok
wrote old new before now line (Err e) ok part cause = inr (part, cause)

-- a text of which some was sent, and this rest wasn't
pub record SoFar (whole rest : List ℕ) (old now : Option (List ℕ)) (before after : ℕ) : Type 0 where
  pub sent : List ℕ
  pub appended : Appends old now sent
  pub parts : whole ≡ sent ++ rest
  pub later : before ≤ after

pub so_far-none : (whole : List ℕ) (known : Option (List ℕ)) (faults : ℕ) → SoFar whole whole known known faults faults
so_far-none whole known faults = record { sent = []; appended = appends-nothing known; parts = refl; later = omega arith }

-- a piece more
pub so_far-more : (whole piece rest : List ℕ) (old now next : Option (List ℕ)) (before after last : ℕ)
    → SoFar whole (piece ++ rest) old now before after → Appends now next piece → after ≤ last → SoFar whole rest old next before last
so_far-more whole piece rest old now next before after last s h fell = record {
  sent = s.sent ++ piece;
  appended = appends-both old now next s.sent piece s.appended h;
  parts = s.parts ∙ sym (append_assoc s.sent piece rest);
  later = omega (arith, s.later, fell);
}

-- a text of which some was sent and the rest waits
pub so_far-gathered : (whole text waiting rest : List ℕ) (old now next : Option (List ℕ)) (before after last : ℕ)
    → SoFar whole (text ++ rest) old now before after → (sent : List ℕ) × Appends now next sent × (text ≡ sent ++ waiting) → after ≤ last
    → SoFar whole (waiting ++ rest) old next before last
so_far-gathered whole text waiting rest old now next before after last s h fell =
    let parts : text ++ rest ≡ h.0 ++ (waiting ++ rest) = ap (λ (t : List ℕ). t ++ rest) h.2 ∙ append_assoc h.0 waiting rest in
    so_far-more whole h.0 (waiting ++ rest) old now next before after last (subst (λ (t : List ℕ). SoFar whole t old now before after) parts s) h.1 fell

-- nothing is left
pub so_far-done : (whole rest : List ℕ) (old now : Option (List ℕ)) (before after : ℕ) → SoFar whole rest old now before after → rest ≡ [] → Appends old now whole
so_far-done whole rest old now before after s e =
    subst (λ (t : List ℕ). Appends old now t) (sym (s.parts ∙ ap (λ (t : List ℕ). s.sent ++ t) e ∙ append-nil s.sent)) s.appended

-- memory ran out, so what waits lacks the last piece
pub gathered-short : {A : Type 0} (old new : Option (List ℕ)) (before now : ℕ) (text piece waiting : List ℕ) (result : Result A Refusal)
    → Sent old new before now text (λ x. ⊥) result → Gathered old new before now (text ++ piece) waiting result
gathered-short old new before now text piece waiting (Ok value) h = absurd h.1
gathered-short old new before now text piece waiting (Err r) h = (part-longer old new text piece h.0, h.1)

-- a piece that wasn't sent ends it
pub so_far-stopped : (whole piece rest : List ℕ) (old now next : Option (List ℕ)) (before after last : ℕ) (r : Refusal)
    → SoFar whole (piece ++ rest) old now before after → AppendsPart now next piece × SendStops after last r
    → AppendsPart old next whole × SendStops before last r
so_far-stopped whole piece rest old now next before after last r s h =
    let more = part-longer now next piece rest h.0 in
    (subst (λ (t : List ℕ). AppendsPart old next t) (sym s.parts) (part-behind old now next s.sent (piece ++ rest) s.appended more), stops-later before after last r s.later h.1)

-- or the last piece that was sent is short
pub so_far-short : (whole piece rest : List ℕ) (old now next : Option (List ℕ)) (before after : ℕ) → SoFar whole (piece ++ rest) old now before after → AppendsShort now next piece → AppendsShort old next whole
so_far-short whole piece rest old now next before after s h =
    subst (λ (t : List ℕ). AppendsShort old next t) (sym s.parts) (short-behind old now next s.sent (piece ++ rest) s.appended (short-longer now next piece rest h))

-- a write failed, so memory didn't run out
pub not-memory : (r : Refusal) {P : Type 0} → r ≡ WriteFailed → r ≡ OutOfMemory → P
not-memory r write memory = absurd (apart (sym write ∙ memory))
  where
    apart : WriteFailed ≡ OutOfMemory → ⊥
    apart e = absurd cc

-- what waits is the last piece
pub so_far-last : {A : Type 0} (whole text rest : List ℕ) (old now next : Option (List ℕ)) (before after last : ℕ) (result : Result A Refusal)
    → SoFar whole (text ++ rest) old now before after → rest ≡ [] → Sent now next after last text (λ x. Unit {0}) result → Sent old next before last whole (λ x. Unit {0}) result
so_far-last whole text rest old now next before after last (Ok value) s e h =
    (subst (λ (t : List ℕ). Appends old next t) (sym (s.parts ∙ ap (λ (t : List ℕ). s.sent ++ (text ++ t)) e ∙ ap (λ (t : List ℕ). s.sent ++ t) (append-nil text))) (appends-both old now next s.sent text s.appended h.0), tt)
so_far-last whole text rest old now next before after last (Err r) s e h = so_far-stopped whole text rest old now next before after last r s h

-- out of memory ends it
pub so_far-ends : (whole rest : List ℕ) (old now : Option (List ℕ)) (before after : ℕ) → SoFar whole rest old now before after → AppendsPart old now whole
so_far-ends whole rest old now before after s =
    subst (λ (t : List ℕ). AppendsPart old now t) (sym s.parts) (part-longer old now s.sent rest (part-whole old now s.sent s.appended))

-- two texts one after the other
pub sent-both : {A B : Type 0} (old now next : Option (List ℕ)) (before after last : ℕ) (s t : List ℕ) (P : B → Type 0) (value : A) (result : Result B Refusal)
    → Appends old now s → before ≤ after → Sent now next after last t P result → Sent old next before last (s ++ t) P result
sent-both old now next before after last s t P value (Ok b) h fell k = (appends-both old now next s t h k.0, k.1)
sent-both old now next before after last s t P value (Err r) h fell k = (part-behind old now next s t h k.0, stops-later before after last r fell k.1)

-- a text that wasn't sent whole, before another
pub sent-stopped : (old now : Option (List ℕ)) (before after : ℕ) (s t : List ℕ) (r : Refusal)
    → AppendsPart old now s × SendStops before after r → AppendsPart old now (s ++ t) × SendStops before after r
sent-stopped old now before after s t r h = (part-longer old now s t h.0, h.1)

-- two pieces appended to a text
pub joined : {T E : Type 0} (result : Result T E) (a b c x y : List ℕ) → b ≡ a ++ x → OnOk result (c ≡ b ++ y) → OnOk result (c ≡ a ++ (x ++ y))
joined (Ok value) a b c x y e h = h ∙ ap (λ (t : List ℕ). t ++ y) e ∙ append_assoc a x y
joined (Err error) a b c x y e h = h
