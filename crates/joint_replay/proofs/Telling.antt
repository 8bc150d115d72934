-- Steps that are told one after another.
use Rattle.joint_replay.proofs.Common.{◌≡◌, ℕ, suc, ◌+◌, ◌<◌, ◌⊎◌, inl, inr, Bool, true, false, refl, sym, ap, ◌∙◌, subst, arith, List, [], ◌∷◌, ◌++◌, append_assoc, length, slice_get, Option, Some, None, Result, Ok, Err, append-nil, Record, JointError, Readiness, Next, Hart, Lane, Item, Passing, Doing, Ending, Joining, Taken, Walk, Ran, begun, ran, choice, choice_from, readiness, readiness_of, run_for, run_all, stepped_of, RanOut, Steps, item_text, stepped_text, steps_text, slice_get_within}
use Rattle.joint_replay.specs.declared.error.JointError.TheVariants as why
use Rattle.joint_replay.specs.declared.kinds.Readiness.TheVariants as is
use Rattle.joint_replay.specs.declared.kinds.Stepped.{Stepped}
use Rattle.joint_replay.specs.Runs.{one_step, IsStep, Advanced, IsStarved, RunUnrefused, Advances, Runs, IsFirstTaken, RunsGoOn, RunsEnd}
use Rattle.joint_replay.proofs.Onward.{walk_of, taken_by, step_fewer, step_taken, longer_run}

-- ---- the lowest ready hart

pub record IsChosen (records : List Record) (lanes : List Lane) (h : ℕ) (ls : List Lane) (n : ℕ) : Type 0 where
  pub place : ℕ
  pub lane : Lane
  pub number : n ≡ h + place
  pub at : slice_get ls place ≡ Some lane
  pub ready : readiness_of records lanes n lane ≡ is.Ready

same_hart : (a b : ℕ) → ◌≡◌ {A = Next} (Hart a) (Hart b) → a ≡ b
same_hart a b e = cc

chosen : (records : List Record) (lanes : List Lane) (h : ℕ) (ls : List Lane) (waiting : Bool) (n : ℕ) → choice_from records lanes h ls waiting ≡ Hart n → IsChosen records lanes h ls n
chosen records lanes h [] true n e = absurd cc
chosen records lanes h [] false n e = absurd cc
chosen records lanes h (l ∷ ls) waiting n e = by (readiness_of records lanes h l) refl e (λ b f. chosen records lanes (h + 1) ls b n f)
  where
    later : IsChosen records lanes (h + 1) ls n → IsChosen records lanes h (l ∷ ls) n
    later c = record { place = suc c.place; lane = c.lane; number = (let up = c.number in omega (arith, up)); at = c.at; ready = c.ready }

    by : (r : Readiness) → readiness_of records lanes h l ≡ r
        → elim r as (λ y. Next) [ is.Ready ↦ Hart h | is.Waits s ic ↦ choice_from records lanes (h + 1) ls true | is.Done ↦ choice_from records lanes (h + 1) ls waiting ] ≡ Hart n
        → ((b : Bool) → choice_from records lanes (h + 1) ls b ≡ Hart n → IsChosen records lanes (h + 1) ls n) → IsChosen records lanes h (l ∷ ls) n
    by is.Ready f g rest = let same = same_hart h n g in record { place = 0; lane = l; number = (omega (arith, same)); at = refl; ready = ap (λ (k : ℕ). readiness_of records lanes k l) (sym same) ∙ f }
    by (is.Waits s ic) f g rest = later (rest true g)
    by is.Done f g rest = later (rest waiting g)

pub chosen_there : (j : Joining) (h : ℕ) → choice j ≡ Hart h → h < length j.lanes
chosen_there j h e = let c = chosen j.records j.lanes 0 j.lanes false h e in let low = slice_get_within j.lanes c.place c.lane c.at in let same = c.number in omega (arith, low, same)

pub chosen_ready : (j : Joining) (h : ℕ) → choice j ≡ Hart h → readiness j h ≡ is.Ready
chosen_ready j h e =
    let c = chosen j.records j.lanes 0 j.lanes false h e in
    let same : h ≡ c.place = (let s = c.number in omega (arith, s)) in
    ap (λ (o : Option Lane). elim o as (λ y. Readiness) [ None ↦ is.Done | Some lane ↦ readiness_of j.records j.lanes h lane ]) (ap (slice_get j.lanes) same ∙ c.at) ∙ c.ready

-- ---- a step that is told

line_is : (h : ℕ) (item : Item) → stepped_text (stepped_of h item) ≡ item_text h item
line_is h (Passing ic) = refl
line_is h (Doing before row) = refl
line_is h (Ending n m) = refl

pub told_step : (old new : Joining) (h : ℕ) (stepped : Stepped) (out_old out_new : List ℕ) → old.refused ≡ None → choice old ≡ Hart h → Steps old h (Ok stepped) new → out_new ≡ out_old ++ stepped_text stepped → Advanced old new out_old out_new
told_step old new h stepped out_old out_new none lowest s text = record {
  taken = taken_by h s.0;
  step = step_taken old h (s.0, new) none lowest s.1;
  fewer = step_fewer old h (s.0, new) s.1;
  text = text ∙ ap (λ (t : List ℕ). out_old ++ t) (ap stepped_text s.2 ∙ line_is h s.0);
}

-- ---- no refusal comes first

-- ---- steps that are told, one after another

-- a run that got here, with this text
pub record Stands (old now : Joining) (out_old out_now : List ℕ) : Type 0 where
  pub steps : ℕ
  pub walk : Walk
  pub so_far : run_for steps (begun old) ≡ ran walk None
  pub here : walk.now ≡ now
  pub told : out_now ≡ out_old ++ steps_text walk.taken
  pub text : out_old ++ steps_text (run_all old).walk.taken ≡ out_now ++ steps_text (run_all now).walk.taken
  pub last : (run_all old).walk.now ≡ (run_all now).walk.now
  pub stopped : (run_all old).stopped ≡ (run_all now).stopped

pub stands_first : (old : Joining) (out : List ℕ) → Stands old old out out
stands_first old out = record { steps = 0; walk = begun old; so_far = refl; here = refl; told = sym (append-nil out); text = refl; last = refl; stopped = refl }

step_here : (w : Walk) (now : Joining) (t : Taken) (next : Joining) → w.now ≡ now → IsStep now t next → IsStep w.now t next
step_here w now t next here s = ap one_step here ∙ s

pub stands_more : RunsGoOn → (old now next : Joining) (out_old out_now out_next : List ℕ) → Stands old now out_old out_now → Advanced now next out_now out_next → Stands old next out_old out_next
stands_more go old now next out_old out_now out_next s a =
    let first : IsFirstTaken now a.taken next = go now a.taken next a.step in
    let line : List ℕ = item_text a.taken.hart a.taken.item in
    record {
      steps = suc s.steps;
      walk = walk_of (a.taken ∷ s.walk.taken) next;
      so_far = longer_run s.steps [] old s.walk a.taken next s.so_far (step_here s.walk now a.taken next s.here a.step);
      here = refl;
      told = a.text ∙ ap (λ (t : List ℕ). t ++ line) s.told ∙ append_assoc out_old (steps_text s.walk.taken) line;
      text = s.text ∙ ap (λ (t : List ℕ). out_now ++ t) first.text ∙ sym (append_assoc out_now line (steps_text (run_all next).walk.taken)) ∙ ap (λ (t : List ℕ). t ++ steps_text (run_all next).walk.taken) (sym a.text);
      last = s.last ∙ first.now;
      stopped = s.stopped ∙ first.stopped;
    }

ended_text : (old now new : Joining) (out_old out_now : List ℕ) (why : Option JointError) → Stands old now out_old out_now → run_all now ≡ ran (begun new) why → out_old ++ steps_text (run_all old).walk.taken ≡ out_now
ended_text old now new out_old out_now why s e = s.text ∙ ap (λ (r : Ran). out_now ++ steps_text r.walk.taken) e ∙ append-nil out_now

halted_here : (old now new : Joining) (s : Walk) (steps : ℕ) → run_for steps (begun old) ≡ ran s None → s.now ≡ now → RanOut now new → RanOut (run_for steps (begun old)).walk.now new
halted_here old now new s steps so_far here h = subst (λ (k : Joining). RanOut k new) (sym (ap (λ (r : Ran). r.walk.now) so_far ∙ here)) h

-- or it stopped
pub stands_stopped : RunsEnd → (old now new : Joining) (out_old out_now out_new : List ℕ) (e : JointError) → Stands old now out_old out_now → Advances now (Err e) new out_now out_new → Runs old (Err e) new out_old out_new
stands_stopped end old now new out_old out_now out_new e s a = by a.1
  where
    text_is : out_new ≡ out_old ++ steps_text (run_for s.steps (begun old)).walk.taken
    text_is = a.0 ∙ s.told ∙ ap (λ (r : Ran). out_old ++ steps_text r.walk.taken) (sym s.so_far)

    begins : RunUnrefused now → RunUnrefused (run_for s.steps (begun old)).walk.now
    begins u = subst RunUnrefused (sym (ap (λ (r : Ran). r.walk.now) s.so_far ∙ s.here)) u

    starved : e ≡ why.OutOfMemory → RunUnrefused now → IsStarved now new → Runs old (Err e) new out_old out_new
    starved is u (inl h) = inr (ap (λ (x : JointError). failed x) is, record { steps = s.steps; told = s.steps; last = (omega arith, omega arith); unrefused = begins u; ran_out = halted_here old now new s.walk s.steps s.so_far s.here h; text = text_is })
      where
        failed : JointError → Result (Unit {0}) JointError
        failed x = Err x
    starved is u (inr m) = inr (
      ap (λ (x : JointError). failed x) is,
      record {
        steps = suc s.steps;
        told = s.steps;
        last = (omega arith, omega arith);
        unrefused = begins u;
        ran_out = halted_here old m.1 new (walk_of (m.0 ∷ s.walk.taken) m.1) (suc s.steps) (longer_run s.steps [] old s.walk m.0 m.1 s.so_far (step_here s.walk now m.0 m.1 s.here m.2)) refl m.3;
        text = text_is;
      },
    )
      where
        failed : JointError → Result (Unit {0}) JointError
        failed x = Err x

    by : (one_step now ≡ ran (begun new) (Some e)) ⊎ ((e ≡ why.OutOfMemory) × (now.refused ≡ None) × IsStarved now new × RunUnrefused now) → Runs old (Err e) new out_old out_new
    by (inl f) =
        let ended : run_all now ≡ ran (begun new) (Some e) = end now new (Some e) f in
        inl (record {
          ends = s.stopped ∙ ap (λ (r : Ran). r.stopped) ended;
          now = s.last ∙ ap (λ (r : Ran). r.walk.now) ended;
          text = a.0 ∙ sym (ended_text old now new out_old out_now (Some e) s ended);
        })
    by (inr m) = starved m.0 m.3 m.2
