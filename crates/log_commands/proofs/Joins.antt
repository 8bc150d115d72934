-- The steps and the known words of a joint replay, sent one after another, and what is told of them.
use Rattle.log_commands.proofs.Common.{◌≡◌, ℕ, ◌≤◌, nat_lt, Bool, true, false, List, [], ◌∷◌, ◌++◌, Option, Some, None, ◌∙◌, ap, subst, sym, refl, arith, inl, inr, ◌⊎◌, append_assoc, Result, Ok, Err, option_map, Appends, AppendsPart, Stream, ReplayError, JointError, known_from, Joining, Ran, begun, ran, run_all, item_text, known_text, steps_text, memory_text, joint_text, one_step, Advanced, Advances, IsFirstTaken, RunsGoOn, RunsEnd, stop_of, ran_told, joined, told_of_joint, IsOutOfMemory, SendsSteps, IfErr, Sends, SendsUntil, SentUntil, SendStops, Always, PrintsTo, joint_refusal, printed_until, JointReading, Refusal, OutOfMemory, WriteFailed, IsStarved}
use Rattle.joint_replay.specs.declared.error.JointError.TheVariants.{Replay, Stuck}
use Rattle.joint_replay.specs.declared.error.JointError.TheVariants as joint
use Rattle.hart_replay.specs.declared.error.ReplayError.TheVariants as replay
use Rattle.log_commands.proofs.Prints.{SoFar, so_far-none, so_far-more, so_far-gathered, so_far-done, so_far-stopped, so_far-ends, part-longer, part-behind, not-memory, stops-later, appends-both}
use Rattle.log_commands.proofs.Acts.{until-prints, memory-prints}
use Rattle.log_commands.proofs.Causes.{IsStop, joint-stop}

-- ---- steps

-- the run of a joint replay stopped so, and left it there
abbrev RanAs : (old new : Joining) → Option JointError → Type 0
RanAs old new stopped = (stopped ≡ (run_all old).stopped) × ((run_all old).walk.now ≡ new)

abbrev pub text_of : Joining → List ℕ
text_of j = steps_text (run_all j).walk.taken

-- of the lines of a run some were sent, a text waits, and those of the steps from here on are left
pub record Walks (whole now : Joining) (waiting : List ℕ) (old here : Option (List ℕ)) (before after : ℕ) : Type 0 where
  pub sent : SoFar (text_of whole) (waiting ++ text_of now) old here before after
  pub last : (run_all whole).walk.now ≡ (run_all now).walk.now
  pub stopped : (run_all whole).stopped ≡ (run_all now).stopped

pub walks-none : (whole : Joining) (known : Option (List ℕ)) (faults : ℕ) → Walks whole whole [] known known faults faults
walks-none whole known faults = record { sent = so_far-none (text_of whole) known faults; last = refl; stopped = refl }

with-line : RunsGoOn → (whole now next : Joining) (waiting text : List ℕ) (old here : Option (List ℕ)) (before after : ℕ) → Advanced now next waiting text → Walks whole now waiting old here before after
    → SoFar (text_of whole) (text ++ text_of next) old here before after
with-line go whole now next waiting text old here before after a w =
    let first : IsFirstTaken now a.taken next = go now a.taken next a.step in
    let line : List ℕ = item_text a.taken.hart a.taken.item in
    let parts : waiting ++ text_of now ≡ text ++ text_of next =
    ap (λ (t : List ℕ). waiting ++ t) first.text ∙ sym (append_assoc waiting line (text_of next)) ∙ ap (λ (t : List ℕ). t ++ text_of next) (sym a.text) in
    subst (λ (t : List ℕ). SoFar (text_of whole) t old here before after) parts w.sent

-- one step more
pub walks-more : RunsGoOn → (whole now next : Joining) (waiting text left : List ℕ) (old here there : Option (List ℕ)) (before after last : ℕ) → Advanced now next waiting text → Walks whole now waiting old here before after
    → (sent : List ℕ) × Appends here there sent × (text ≡ sent ++ left) → after ≤ last → Walks whole next left old there before last
walks-more go whole now next waiting text left old here there before after last a w h fell =
    let first : IsFirstTaken now a.taken next = go now a.taken next a.step in
    record {
      sent = so_far-gathered (text_of whole) text left (text_of next) old here there before after last (with-line go whole now next waiting text old here before after a w) h fell;
      last = w.last ∙ first.now;
      stopped = w.stopped ∙ first.stopped;
    }

-- a step whose line wasn't sent
pub walks-stopped : RunsGoOn → (whole now next : Joining) (waiting text : List ℕ) (old here there : Option (List ℕ)) (before after last : ℕ) (r : Refusal) → Advanced now next waiting text → Walks whole now waiting old here before after
    → AppendsPart here there text × SendStops after last r → AppendsPart old there (text_of whole) × SendStops before last r
walks-stopped go whole now next waiting text old here there before after last r a w h =
    so_far-stopped (text_of whole) text (text_of next) old here there before after last r (with-line go whole now next waiting text old here before after a w) h

-- what waits isn't sent whole
pub walks-short : (whole now : Joining) (waiting text : List ℕ) (old here there : Option (List ℕ)) (before after last : ℕ) (r : Refusal) → text ≡ waiting → Walks whole now waiting old here before after
    → AppendsPart here there text × SendStops after last r → AppendsPart old there (text_of whole) × SendStops before last r
walks-short whole now waiting text old here there before after last r same w h =
    so_far-stopped (text_of whole) waiting (text_of now) old here there before after last r w.sent (subst (λ (t : List ℕ). AppendsPart here there t × SendStops after last r) same h)

-- what waits is sent
last-sent : (whole now : Joining) (waiting text : List ℕ) (old here there : Option (List ℕ)) (before after last : ℕ) → text ≡ waiting → Walks whole now waiting old here before after → Appends here there text → after ≤ last
    → SoFar (text_of whole) (text_of now) old there before last
last-sent whole now waiting text old here there before after last same w h fell =
    so_far-more (text_of whole) waiting (text_of now) old here there before after last w.sent (subst (λ (t : List ℕ). Appends here there t) same h) fell

ended : RunsEnd → (whole now new : Joining) (s : Option JointError) (old there : Option (List ℕ)) (before last : ℕ) (waiting : List ℕ) (here : Option (List ℕ)) (after : ℕ) → one_step now ≡ ran (begun new) s → Walks whole now waiting old here before after
    → SoFar (text_of whole) (text_of now) old there before last → Appends old there (text_of whole) × RanAs whole new s
ended end whole now new s old there before last waiting here after e w sent =
    let at : run_all now ≡ ran (begun new) s = end now new s e in (
      so_far-done (text_of whole) (text_of now) old there before last sent (ap (λ (r : Ran). steps_text r.walk.taken) at),
      (sym (w.stopped ∙ ap (λ (r : Ran). r.stopped) at), w.last ∙ ap (λ (r : Ran). r.walk.now) at),
    )

-- all harts are done
pub walks-done : RunsEnd → (whole now new : Joining) (waiting text : List ℕ) (old here there : Option (List ℕ)) (before after last : ℕ) → Advances now (Ok false) new waiting text → Walks whole now waiting old here before after
    → Appends here there text → after ≤ last → Appends old there (text_of whole) × RanAs whole new None
walks-done end whole now new waiting text old here there before after last a w h fell =
    ended end whole now new None old there before last waiting here after a.0 w (last-sent whole now waiting text old here there before after last a.1 w h fell)

-- it is done once what waits is sent
pub walks-sent : RunsEnd → (whole now new : Joining) (waiting text : List ℕ) (old here there : Stream) (result : Result (Unit {0}) Refusal) → Advances now (Ok false) new waiting text → Walks whole now waiting old.text here.text old.faults here.faults
    → Sends text Always here there result → IfErr result (λ r. r ≡ WriteFailed) → SendsSteps whole new old there result
walks-sent end whole now new waiting text old here there (Ok u) a w h write =
    let x = walks-done end whole now new waiting text old.text here.text there.text old.faults here.faults there.faults a w h.sent.0 h.later in
    record { sends = record { sent = (x.0, ap (λ (o : Option JointError). option_map joint_refusal o) (sym x.1.0)); later = omega (arith, w.sent.later, h.later) }; now = x.1.1; memory = tt }
walks-sent end whole now new waiting text old here there (Err r) a w h write = record {
  sends = record {
    sent = inr (walks-short whole now waiting text old.text here.text there.text old.faults here.faults there.faults r a.1 w h.sent);
    later = omega (arith, w.sent.later, h.later);
  };
  now = tt;
  memory = λ m. not-memory r write m;
}

refused-so : (r : Ran) (e : JointError) → Some e ≡ r.stopped → stop_of r ≡ Some (joint_refusal e)
refused-so r e s = ap (λ (o : Option JointError). option_map joint_refusal o) (sym s)

other-replay : (r : ReplayError) {P : Type 0} → Replay r ≡ joint.OutOfMemory → P
other-replay r q = absurd cc

other-stuck : (ps : List (ℕ × ℕ)) {P : Type 0} → Stuck ps ≡ joint.OutOfMemory → P
other-stuck ps q = absurd cc

-- or the run stopped
pub walks-ended : RunsEnd → (whole now new : Joining) (waiting text : List ℕ) (old here there : Option (List ℕ)) (before after last : ℕ) (e : JointError) → Advances now (Err e) new waiting text → Walks whole now waiting old here before after
    → Appends here there text → after ≤ last → SentUntil {A = Unit {0}} old there before last (text_of whole) (stop_of (run_all whole)) (Err (joint_refusal e))
walks-ended end whole now new waiting text old here there before after last joint.OutOfMemory a w h fell =
    inr (so_far-ends (text_of whole) (text_of now) old there before last (last-sent whole now waiting text old here there before after last a.0 w h fell), tt)
walks-ended end whole now new waiting text old here there before after last (Replay r) (same, inr m) w h fell = other-replay r m.0
walks-ended end whole now new waiting text old here there before after last (Stuck ps) (same, inr m) w h fell = other-stuck ps m.0
walks-ended end whole now new waiting text old here there before after last e (same, inl f) w h fell =
    let x = ended end whole now new (Some e) old there before last waiting here after f w (last-sent whole now waiting text old here there before after last same w h fell) in
    inl (x.0, refused-so (run_all whole) e x.1.0)

-- the step that was refused so found no memory
pub walks-memory : RunsEnd → (whole now new : Joining) (waiting text : List ℕ) (old here : Option (List ℕ)) (before after : ℕ) (e : JointError) → Advances now (Err e) new waiting text → Walks whole now waiting old here before after
    → joint_refusal e ≡ OutOfMemory → IsOutOfMemory (run_all whole) new
walks-memory end whole now new waiting text old here before after (Replay r) a w m = absurd cc
walks-memory end whole now new waiting text old here before after (Stuck ps) a w m = absurd cc
walks-memory end whole now new waiting text old here before after joint.OutOfMemory (same, inl f) w m =
    let at : (run_all now).stopped ≡ Some joint.OutOfMemory = ap (λ (r : Ran). r.stopped) (end now new (Some joint.OutOfMemory) f) in
    inl (refused-so (run_all whole) joint.OutOfMemory (sym (w.stopped ∙ at)))
walks-memory end whole now new waiting text old here before after joint.OutOfMemory (same, inr m) w is = inr (by m.2)
  where
    by : IsStarved now new → new.refused ≡ Some replay.OutOfMemory
    by (inl h) = h.refused
    by (inr h) = h.3.refused

-- ---- known words

all-known : (ms : List (ℕ × ℕ)) → known_from 0 ms ≡ ms
all-known [] = refl
all-known (m ∷ ms) = ap (λ (b : Bool). elim b as (λ y. List (ℕ × ℕ)) [ true ↦ known_from 0 ms | false ↦ m ∷ ms ]) (none-below m.0)
  where
    none-below : (n : ℕ) → nat_lt n 0 ≡ false
    none-below n = grind arith

-- of the lines of the known words some were sent, a text waits, and those from an address on are left
abbrev pub Lists : List (ℕ × ℕ) → ℕ → List ℕ → Option (List ℕ) → Option (List ℕ) → ℕ → ℕ → Type 0
Lists ms from waiting old here before after = SoFar (memory_text ms) (waiting ++ memory_text (known_from from ms)) old here before after

pub lists-none : (ms : List (ℕ × ℕ)) (known : Option (List ℕ)) (faults : ℕ) → Lists ms 0 [] known known faults faults
lists-none ms known faults = subst (λ (xs : List (ℕ × ℕ)). SoFar (memory_text ms) (memory_text xs) known known faults faults) (sym (all-known ms)) (so_far-none (memory_text ms) known faults)

with-word : (ms : List (ℕ × ℕ)) (from next : ℕ) (m : ℕ × ℕ) (waiting : List ℕ) (old here : Option (List ℕ)) (before after : ℕ) → known_from from ms ≡ m ∷ known_from next ms → Lists ms from waiting old here before after
    → SoFar (memory_text ms) ((waiting ++ known_text m) ++ memory_text (known_from next ms)) old here before after
with-word ms from next m waiting old here before after e s =
    let parts : waiting ++ memory_text (known_from from ms) ≡ (waiting ++ known_text m) ++ memory_text (known_from next ms) =
    ap (λ (xs : List (ℕ × ℕ)). waiting ++ memory_text xs) e ∙ sym (append_assoc waiting (known_text m) (memory_text (known_from next ms))) in
    subst (λ (t : List ℕ). SoFar (memory_text ms) t old here before after) parts s

pub lists-more : (ms : List (ℕ × ℕ)) (from next : ℕ) (m : ℕ × ℕ) (waiting left : List ℕ) (old here there : Option (List ℕ)) (before after last : ℕ) → known_from from ms ≡ m ∷ known_from next ms → Lists ms from waiting old here before after
    → (sent : List ℕ) × Appends here there sent × (waiting ++ known_text m ≡ sent ++ left) → after ≤ last → Lists ms next left old there before last
lists-more ms from next m waiting left old here there before after last e s h fell =
    so_far-gathered (memory_text ms) (waiting ++ known_text m) left (memory_text (known_from next ms)) old here there before after last (with-word ms from next m waiting old here before after e s) h fell

pub lists-stopped : (ms : List (ℕ × ℕ)) (from next : ℕ) (m : ℕ × ℕ) (waiting : List ℕ) (old here there : Option (List ℕ)) (before after last : ℕ) (r : Refusal) → known_from from ms ≡ m ∷ known_from next ms → Lists ms from waiting old here before after
    → AppendsPart here there (waiting ++ known_text m) × SendStops after last r → AppendsPart old there (memory_text ms) × SendStops before last r
lists-stopped ms from next m waiting old here there before after last r e s h =
    so_far-stopped (memory_text ms) (waiting ++ known_text m) (memory_text (known_from next ms)) old here there before after last r (with-word ms from next m waiting old here before after e s) h

-- ---- both

stopped-text : (r : Ran) (e : JointError) → r.stopped ≡ Some e → joint_text r ≡ steps_text r.walk.taken
stopped-text r e h = ap (λ (o : Option JointError). elim o as (λ y. List ℕ) [ None ↦ steps_text r.walk.taken ++ memory_text r.walk.now.memory | Some x ↦ steps_text r.walk.taken ]) h

whole-text : (r : Ran) → r.stopped ≡ None → joint_text r ≡ steps_text r.walk.taken ++ memory_text r.walk.now.memory
whole-text r h = ap (λ (o : Option JointError). elim o as (λ y. List ℕ) [ None ↦ steps_text r.walk.taken ++ memory_text r.walk.now.memory | Some x ↦ steps_text r.walk.taken ]) h

pub steps-part : (r : Ran) (a b : Option (List ℕ)) → AppendsPart a b (steps_text r.walk.taken) → AppendsPart a b (joint_text r)
steps-part r a b h = by r.stopped refl
  where
    by : (o : Option JointError) → r.stopped ≡ o → AppendsPart a b (joint_text r)
    by None e = subst (λ (t : List ℕ). AppendsPart a b t) (sym (whole-text r e)) (part-longer a b (steps_text r.walk.taken) (memory_text r.walk.now.memory) h)
    by (Some x) e = subst (λ (t : List ℕ). AppendsPart a b t) (sym (stopped-text r x e)) h

none-stopped : (r : Ran) → stop_of r ≡ None → r.stopped ≡ None
none-stopped r e = by r.stopped e
  where
    by : (o : Option JointError) → option_map joint_refusal o ≡ None → o ≡ None
    by None e = refl
    by (Some x) e = absurd cc

-- the steps weren't all sent, or the run was refused after them
pub steps-refused : (r : Ran) (x : Refusal) (a b : Stream) → SendsUntil {A = Unit {0}} (steps_text r.walk.taken) (stop_of r) a b (Err x) → SendsUntil {A = Unit {0}} (joint_text r) (stop_of r) a b (Err x)
steps-refused r x a b h = record { sent = by r.stopped refl h.sent; later = h.later }
  where
    by : (o : Option JointError) → r.stopped ≡ o → (Appends a.text b.text (steps_text r.walk.taken) × (stop_of r ≡ Some x)) ⊎ (AppendsPart a.text b.text (steps_text r.walk.taken) × SendStops a.faults b.faults x)
        → (Appends a.text b.text (joint_text r) × (stop_of r ≡ Some x)) ⊎ (AppendsPart a.text b.text (joint_text r) × SendStops a.faults b.faults x)
    by o is (inr s) = inr (steps-part r a.text b.text s.0, s.1)
    by None is (inl s) = absurd (none (sym (ap (λ (o : Option JointError). option_map joint_refusal o) is) ∙ s.1))
      where
        none : ◌≡◌ {A = Option Refusal} None (Some x) → ⊥
        none e = absurd cc
    by (Some e) is (inl s) = inl (subst (λ (t : List ℕ). Appends a.text b.text t) (sym (stopped-text r e is)) s.0, s.1)

-- all harts are done, and the known words were sent, or not
pub steps-words : (r : Ran) (new : Joining) (a b c : Stream) (result : Result (Unit {0}) Refusal) → SendsUntil {A = Unit {0}} (steps_text r.walk.taken) (stop_of r) a b (Ok tt) → r.walk.now ≡ new → Sends (memory_text new.memory) Always b c result
    → SendsUntil (joint_text r) (stop_of r) a c result
steps-words r new a b c (Ok u) h last k =
    let both = appends-both a.text b.text c.text (steps_text r.walk.taken) (memory_text r.walk.now.memory) h.sent.0 (subst (λ (j : Joining). Appends b.text c.text (memory_text j.memory)) (sym last) k.sent.0) in
    record { sent = (subst (λ (t : List ℕ). Appends a.text c.text t) (sym (whole-text r (none-stopped r h.sent.1))) both, h.sent.1); later = omega (arith, h.later, k.later) }
steps-words r new a b c (Err x) h last k =
    let both = part-behind a.text b.text c.text (steps_text r.walk.taken) (memory_text r.walk.now.memory) h.sent.0 (subst (λ (j : Joining). AppendsPart b.text c.text (memory_text j.memory)) (sym last) k.sent.0) in
    record {
      sent = inr (subst (λ (t : List ℕ). AppendsPart a.text c.text t) (sym (whole-text r (none-stopped r h.sent.1))) both, stops-later a.faults b.faults c.faults x h.later k.sent.1);
      later = omega (arith, h.later, k.later);
    }

-- memory that ran out after the steps did so for the known words
pub words-memory : (r : Ran) (new : Joining) (result : Result (Unit {0}) Refusal) → stop_of r ≡ None → IfErr result (λ x. x ≡ OutOfMemory → (stop_of r ≡ None) ⊎ IsOutOfMemory r new)
words-memory r new (Ok u) all = tt
words-memory r new (Err x) all = λ m. inl all

-- ---- what is told

stop-is : (o : Option JointError) (x : Refusal) → option_map joint_refusal o ≡ Some x → IsStop x
stop-is None x e = absurd cc
stop-is (Some e) x is = subst IsStop (same (joint_refusal e) x is) (joint-stop e)
  where
    same : (a b : Refusal) → ◌≡◌ {A = Option Refusal} (Some a) (Some b) → a ≡ b
    same a b e = cc

pub joint-prints : (reading : JointReading) (j : Joining) (old new : Stream) (result : Result (Unit {0}) Refusal) → j ≡ joined reading.log reading.image → SendsUntil (joint_text (run_all j)) (stop_of (run_all j)) old new result
    → PrintsTo (λ names. told_of_joint names reading) old new result
unfolding ran_told
joint-prints reading j old new result e h =
    subst (λ (x : Joining). PrintsTo (λ names. printed_until names (joint_text (run_all x)) (stop_of (run_all x))) old new result) e
    (until-prints (joint_text (run_all j)) (stop_of (run_all j)) old new result (λ x is. stop-is (run_all j).stopped x is) h)

-- there was no memory to begin
pub joint-unbegun : (reading : JointReading) (old : Stream) → PrintsTo {A = Unit {0}} (λ names. told_of_joint names reading) old old (Err OutOfMemory)
unfolding ran_told
joint-unbegun reading old = let r = run_all (joined reading.log reading.image) in memory-prints (joint_text r) (stop_of r) old
