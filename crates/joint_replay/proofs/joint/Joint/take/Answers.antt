use Rattle.joint_replay.proofs.Common.{◌≡◌, ℕ, ◌<◌, ◌⊎◌, inl, inr, true, is_some, refl, sym, ap, ◌∙◌, subst, arith, List, length, slice_get, slice_set, slice_index_or, Option, Some, None, Ok, Err, Program, Content, ReplayError, JointError, Did, Lane, Item, Passing, Doing, Ending, coming_of, lane_step, Bytes, filled, forget, put_access, memory_after, Joining, readiness, error_of, HartLane, stepped_of, bare, Steps, LaneUnrefused, LaneRefuses, LaneSteps, IsMoved, noted, stepped_by, told, IsSound, lanes_of, joining, AreMet, IsTogether}
use Rattle.hart_replay.specs.declared.error.ReplayError.TheVariants as replay
use Rattle.joint_replay.specs.declared.kinds.Readiness.TheVariants as is
use Rattle.joint_replay.specs.declared.lane.Moved.{Moved}
use Rattle.joint_replay.specs.declared.lane.Moved.TheVariants as to
use Rattle.joint_replay.proofs.Choosing.{lanes_length}
use Rattle.joint_replay.proofs.JointMoves.{has_step, step_is, unrefused, after_step, together_after, together_refused, passed_after, same_range, length_set, bare_set, lane_kept}
use Rattle.joint_replay.proofs.MetSources.{still_met, bare_stays}
use Rattle.joint_replay.proofs.Soundness.{got_at}
use Rattle.joint_replay.proofs.joint.Joint.take.Goals as goal

-- A step of a joint replay, as its code takes it.
-- ---- what each kind of step tells, and makes of memory

moved_words : (m : Moved) (x : Did) (memory : List (ℕ × ℕ)) (item : Item) → IsMoved item m x → noted m x memory ≡ memory_after item memory
moved_words m x memory (Passing ic) e = ap (λ (y : Moved). noted y x memory) e
moved_words m x memory (Doing before row) e =
    ap (λ (y : Moved). noted y x memory) e.0 ∙ ap (λ (y : Did). noted to.Row y memory) e.1
    ∙ ap (λ (o : Option Bytes). put_access row.store (put_access row.load (forget o memory))) (same_range (filled before row))
moved_words m x memory (Ending n mark) e = ap (λ (y : Moved). noted y x memory) e

moved_told : (h : ℕ) (m : Moved) (x : Did) (item : Item) → IsMoved item m x → stepped_by h m x ≡ stepped_of h item
moved_told h m x (Passing ic) e = ap (λ (y : Moved). stepped_by h y x) e
moved_told h m x (Doing before row) e = ap (λ (y : Moved). stepped_by h y x) e.0 ∙ ap (λ (y : Did). stepped_by h to.Row y) e.1
moved_told h m x (Ending n mark) e = ap (λ (y : Moved). stepped_by h y x) e

-- ---- a step

module _ (i : Program) (log : Content) (count : ℕ) (hs : List HartLane) (memory : List (ℕ × ℕ)) (refused : Option ReplayError) (now : Joining) (h : ℕ) (l : HartLane)
    (view : joining i log.records hs memory refused ≡ now) (t : IsTogether i log count hs memory refused) (low : h < length now.lanes) (ready : readiness now h ≡ is.Ready) (none : now.refused ≡ None)
    (value : l ≡ slice_index_or hs h l) where
  none_yet : refused ≡ None
  none_yet = ap (λ (j : Joining). j.refused) view ∙ none

  old_is : joining i log.records hs memory None ≡ now
  old_is = ap (joining i log.records hs memory) (sym none_yet) ∙ view

  at : slice_get hs h ≡ Some l
  at = let size : length now.lanes ≡ length (lanes_of hs) = ap (λ (j : Joining). length j.lanes) (sym view) in got_at hs h l (omega (arith, low, size, lanes_length hs)) value

  together : IsTogether i log count hs memory None
  together = subst (IsTogether i log count hs memory) none_yet t

  ready_then : readiness (joining i log.records hs memory None) h ≡ is.Ready
  ready_then = ap (λ (j : Joining). readiness j h) old_is ∙ ready

  has_step_then : is_some (coming_of l.lane) ≡ true
  has_step_then = has_step i log count hs memory h l at together ready_then

  words_after : (new : HartLane) (m : Moved) (x : Did) (words had : List (ℕ × ℕ)) → (s : LaneSteps l (Ok m) x new) → words ≡ noted m x had → had ≡ memory → words ≡ memory_after s.0 memory
  words_after new m x words had s is same = is ∙ ap (noted m x) same ∙ moved_words m x memory s.0 s.2

  moves_on : (new : HartLane) (m : Moved) (x : Did) (words had : List (ℕ × ℕ)) → LaneSteps l (Ok m) x new → words ≡ noted m x had → had ≡ memory
      → IsTogether i log count (slice_set hs h new) words refused
  moves_on new m x words had s is same = subst (IsTogether i log count (slice_set hs h new) words) (sym none_yet) (together_after i log count hs memory h l at together ready_then new s.0 words s.1 (words_after new m x words had s is same) s.3)

  steps_on : (new : HartLane) (m : Moved) (x : Did) (words had : List (ℕ × ℕ)) → LaneSteps l (Ok m) x new → words ≡ noted m x had → had ≡ memory
      → Steps now h (told h (Ok m) x) (joining i log.records (slice_set hs h new) words refused)
  steps_on new m x words had s is same =
      subst (λ (o : Option ReplayError). Steps now h (told h (Ok m) x) (joining i log.records (slice_set hs h new) words o)) (sym none_yet)
      (subst (λ (j : Joining). Steps j h (told h (Ok m) x) (joining i log.records (slice_set hs h new) words None)) old_is
      (s.0, after_step i log count hs memory h l at together ready_then new s.0 words s.1 (words_after new m x words had s is same), moved_told h m x s.0 s.2))

  bare_same : (new : HartLane) (e : ReplayError) → LaneRefuses l e new → bare new.lane ≡ bare l.lane
  bare_same new e s = by s.1
    where
      by : ((lane_step l.program l.lane ≡ Some (Err e)) × (new.lane ≡ l.lane)) ⊎ ((e ≡ replay.OutOfMemory) × (bare new.lane ≡ bare l.lane) × LaneUnrefused l) → bare new.lane ≡ bare l.lane
      by (inl a) = ap bare a.1
      by (inr a) = a.1

  -- the Edges that were met are still
  keeps_met : IsSound now → (met : List ℕ) → AreMet log.records hs met → (new : HartLane) (m : Moved) (x : Did) → LaneSteps l (Ok m) x new → AreMet log.records (slice_set hs h new) met
  keeps_met sound met a new m x s =
      still_met log.records hs (slice_set hs h new) met (length_set hs h new) (passed_after i log count hs memory h l at together ready_then (subst IsSound (sym old_is) sound) new s.0 s.1) a

  stays_met : (met : List ℕ) → AreMet log.records hs met → (new : HartLane) (e : ReplayError) → LaneRefuses l e new → AreMet log.records (slice_set hs h new) met
  stays_met met a new e s =
      still_met log.records hs (slice_set hs h new) met (length_set hs h new) (bare_stays (lanes_of hs) (lanes_of (slice_set hs h new)) (bare_set hs h l new at (bare_same new e s))) a

  stays : (new : HartLane) (e : ReplayError) (words : List (ℕ × ℕ)) → LaneRefuses l e new → words ≡ memory → IsTogether i log count (slice_set hs h new) words (Some e)
  stays new e words s same = subst (λ (ms : List (ℕ × ℕ)). IsTogether i log count (slice_set hs h new) ms (Some e)) (sym same) (together_refused i log count hs memory h l new e at together s.0 (bare_same new e s))

  refuses : (new : HartLane) (e : ReplayError) (words : List (ℕ × ℕ)) (error : JointError) → LaneRefuses l e new → words ≡ memory → error ≡ error_of e
      → Steps now h (Err error) (joining i log.records (slice_set hs h new) words (Some e))
  refuses new e words error s same is =
      subst (λ (ms : List (ℕ × ℕ)). Steps now h (Err error) (joining i log.records (slice_set hs h new) ms (Some e))) (sym same)
      (subst (λ (j : Joining). Steps j h (Err error) (joining i log.records (slice_set hs h new) memory (Some e))) old_is (by s.1))
    where
      by : ((lane_step l.program l.lane ≡ Some (Err e)) × (new.lane ≡ l.lane)) ⊎ ((e ≡ replay.OutOfMemory) × (bare new.lane ≡ bare l.lane) × LaneUnrefused l)
          → Steps (joining i log.records hs memory None) h (Err error) (joining i log.records (slice_set hs h new) memory (Some e))
      by (inl a) = inl (record {
        refusal = e;
        there = step_is i log count hs memory h l at together ready_then (Err e) a.0;
        error_is = is;
        repeated = ap (λ (ls : List Lane). with_lanes ls) (lane_kept hs h l new at a.1);
      })
        where
          with_lanes : List Lane → Joining
          with_lanes ls = record { program = i; records = log.records; lanes = ls; memory = memory; refused = Some e }
      by (inr a) = inr (
        is ∙ ap error_of a.0,
        refl,
        record {
          program = refl;
          records = refl;
          lanes = bare_set hs h l new at a.1;
          memory = refl;
          refused = ap (λ (x : ReplayError). Some x) a.0;
        },
        unrefused i log count hs memory h l at together ready_then a.2,
      )

pub invariant_of-self-in-Err : goal.invariant_of-self-in-Err
invariant_of-self-in-Err c = (
  stays c.self.inside.image.now c.self.inside.log.now c.self.inside.harts c.self.inside.lanes.items c.self.inside.memory.words c.self.inside.refused c.args.self.now c.args.hart c.index_mut-2.result.now
      c.self.view_is c.self.invariant.0 c.requires.there c.requires.ready c.requires.none c.index_mut-2.ensures.value c.step.new.self c.in-Err.refusal c.make_room.new.self.words c.in-Err.ensures c.make_room.ensures.same,
  stays_met c.self.inside.image.now c.self.inside.log.now c.self.inside.harts c.self.inside.lanes.items c.self.inside.memory.words c.self.inside.refused c.args.self.now c.args.hart c.index_mut-2.result.now
      c.self.view_is c.self.invariant.0 c.requires.there c.requires.ready c.requires.none c.index_mut-2.ensures.value c.self.inside.met.items c.self.invariant.1 c.step.new.self c.in-Err.refusal c.in-Err.ensures,
)

pub invariant_of-self-in-Ok : goal.invariant_of-self-in-Ok
invariant_of-self-in-Ok c = (
  moves_on c.self.inside.image.now c.self.inside.log.now c.self.inside.harts c.self.inside.lanes.items c.self.inside.memory.words c.self.inside.refused c.args.self.now c.args.hart c.index_mut-2.result.now
      c.self.view_is c.self.invariant.0 c.requires.there c.requires.ready c.requires.none c.index_mut-2.ensures.value c.step.new.self c.in-Ok.moved c.step.new.did c.note.new.self.words c.make_room.new.self.words c.in-Ok.ensures c.note.ensures c.make_room.ensures.same,
  keeps_met c.self.inside.image.now c.self.inside.log.now c.self.inside.harts c.self.inside.lanes.items c.self.inside.memory.words c.self.inside.refused c.args.self.now c.args.hart c.index_mut-2.result.now
      c.self.view_is c.self.invariant.0 c.requires.there c.requires.ready c.requires.none c.index_mut-2.ensures.value c.keeps_passed.ensures c.self.inside.met.items c.self.invariant.1 c.step.new.self c.in-Ok.moved c.step.new.did c.in-Ok.ensures,
)

pub returns-in-Err : goal.returns-in-Err
returns-in-Err c =
    refuses c.self.inside.image.now c.self.inside.log.now c.self.inside.harts c.self.inside.lanes.items c.self.inside.memory.words c.self.inside.refused c.args.self.now c.args.hart c.index_mut-2.result.now
    c.self.view_is c.self.invariant.0 c.requires.there c.requires.ready c.requires.none c.index_mut-2.ensures.value c.step.new.self c.in-Err.refusal c.make_room.new.self.words c.error_of-in-Err.result c.in-Err.ensures c.make_room.ensures.same c.error_of-in-Err.ensures

pub returns-in-Ok : goal.returns-in-Ok
returns-in-Ok c =
    steps_on c.self.inside.image.now c.self.inside.log.now c.self.inside.harts c.self.inside.lanes.items c.self.inside.memory.words c.self.inside.refused c.args.self.now c.args.hart c.index_mut-2.result.now
    c.self.view_is c.self.invariant.0 c.requires.there c.requires.ready c.requires.none c.index_mut-2.ensures.value c.step.new.self c.in-Ok.moved c.step.new.did c.note.new.self.words c.make_room.new.self.words c.in-Ok.ensures c.note.ensures c.make_room.ensures.same

pub step-requires : goal.step-requires
step-requires c =
    has_step_then c.self.inside.image.now c.self.inside.log.now c.self.inside.harts c.self.inside.lanes.items c.self.inside.memory.words c.self.inside.refused c.args.self.now c.args.hart c.index_mut-2.result.now
    c.self.view_is c.self.invariant.0 c.requires.there c.requires.ready c.requires.none c.index_mut-2.ensures.value

-- ---- no memory for the row

pub invariant_of-self : goal.invariant_of-self
invariant_of-self c = (
  stays c.self.inside.image.now c.self.inside.log.now c.self.inside.harts c.self.inside.lanes.items c.self.inside.memory.words c.self.inside.refused c.args.self.now c.args.hart c.index_mut.result.now
      c.self.view_is c.self.invariant.0 c.requires.there c.requires.ready c.requires.none c.index_mut.ensures.value c.starve-refusal.new.self c.starve-refusal.result c.make_room.new.self.words c.starve-refusal.ensures c.make_room.ensures.same,
  stays_met c.self.inside.image.now c.self.inside.log.now c.self.inside.harts c.self.inside.lanes.items c.self.inside.memory.words c.self.inside.refused c.args.self.now c.args.hart c.index_mut.result.now
      c.self.view_is c.self.invariant.0 c.requires.there c.requires.ready c.requires.none c.index_mut.ensures.value c.self.inside.met.items c.self.invariant.1 c.starve-refusal.new.self c.starve-refusal.result c.starve-refusal.ensures,
)

pub returns-then-is_err : goal.returns-then-is_err
returns-then-is_err c =
    refuses c.self.inside.image.now c.self.inside.log.now c.self.inside.harts c.self.inside.lanes.items c.self.inside.memory.words c.self.inside.refused c.args.self.now c.args.hart c.index_mut.result.now
    c.self.view_is c.self.invariant.0 c.requires.there c.requires.ready c.requires.none c.index_mut.ensures.value c.starve-refusal.new.self c.starve-refusal.result c.make_room.new.self.words c.error_of.result c.starve-refusal.ensures c.make_room.ensures.same c.error_of.ensures
