-- What steps and ways back make of a trail.
use Rattle.back_step.proofs.Common.{◌≡◌, ℕ, ◌+◌, ◌/◌, ◌%◌, Bool, true, false, refl, sym, ap, ◌∙◌, subst, arith, inl, inr, ◌⊎◌, List, [], ◌∷◌, ◌++◌, length, take, Some, None, Result, Ok, Err, is_err, OnOk, length-append, take_all, Item, Passing, Doing, Ending, Joining, readiness, stepped_of, Steps, ready_step, Entry, entry_of, entry_told, harts_of, state_after, Trailed, cut, LeadsBy, with_copy, HasCopies, trailed, IsTrail, GoesOnFrom}
use Rattle.hart_replay.specs.declared.error.ReplayError.TheVariants as replay
use Rattle.joint_replay.specs.declared.error.JointError.TheVariants as why
use Rattle.joint_replay.specs.declared.kinds.Readiness.TheVariants as is
use Rattle.joint_replay.specs.declared.kinds.Stepped.{Stepped}
use Rattle.back_step.proofs.Leading.{step_there, step_calm, leads_append, one_longer, state_is}
use Rattle.back_step.proofs.Copying.{AreCopies, is_due, next_many, many_after, copies_kept, copies_longer, due_tells}

-- ---- results

pub on_ok : {A B : Type 0} {P : Type 0} (r : Result A B) → is_err r ≡ false → OnOk r P → P
on_ok (Ok x) e p = p
on_ok (Err x) e p = absurd cc

-- ---- a step

-- its entry, as it is told
pub told_is : (h : ℕ) (stepped : Stepped) (item : Item) (e : Entry) → e ≡ entry_told h stepped → stepped ≡ stepped_of h item → e ≡ entry_of h item
told_is h stepped item e told is = told ∙ ap (entry_told h) is ∙ by item
  where
    by : (item : Item) → entry_told h (stepped_of h item) ≡ entry_of h item
    by (Passing ic) = refl
    by (Doing before row) = refl
    by (Ending n mark) = refl

pub due_is : (every p q n m : ℕ) (due : Bool) → due ≡ is_due every p n → p ≡ q → n ≡ m → due ≡ is_due every q m
due_is every p q n m due d e f = d ∙ ap (λ k. is_due every k n) e ∙ ap (λ k. is_due every q k) f

module _ (every : ℕ) (start : Joining) (entries : List Entry) (now : Joining) (copies : List Joining) (t : IsTrail every start entries now copies) where
  module _ (p n : ℕ) (due : Bool) (d : due ≡ is_due every p n) (at : p ≡ length entries) (so_many : n ≡ length copies) (kept : List Joining) (k : kept ≡ with_copy due now copies) where
    due_here : due ≡ is_due every (length entries) (length copies)
    due_here = due_is every p (length entries) n (length copies) due d at so_many

    size : length kept ≡ length entries / every + 1
    size = ap length k ∙ many_after every (length entries) (length copies) now copies due refl due_here t.many

    are : AreCopies every start entries kept
    are = subst (λ (cs : List Joining). AreCopies every start entries cs) (sym k) (copies_kept every start entries now copies due t due_here)

    module _ (h : ℕ) (new : Joining) where
      -- it did it
      pub trail_longer : (stepped : Stepped) (after : List Entry) (e : Entry) → readiness now h ≡ is.Ready → (s : Steps now h (Ok stepped) new) → e ≡ entry_told h stepped → after ≡ entries ++ e ∷ [] → IsTrail every start after new kept
      trail_longer stepped after e ready s told longer =
          let same : e ≡ entry_of h s.0 = told_is h stepped s.0 e told s.2 in
          let calm = step_calm now h (s.0, new) s.1 in
          let here : now ≡ t.there = t.stands.whole calm.0 in
          let stepped_there : ready_step t.there h ≡ Some (s.0, new) = subst (λ (j : Joining). ready_step j h ≡ Some (s.0, new)) here (step_there now h (s.0, new) ready s.1) in
          let long : length (entries ++ e ∷ []) ≡ length entries + 1 = length-append entries (e ∷ []) in
          subst (λ (es : List Entry). IsTrail every start es new kept) (sym longer) (record {
            some = t.some;
            calm = t.calm;
            there = new;
            led = leads_append start t.there new entries (e ∷ []) t.led (subst (λ (y : Entry). LeadsBy t.there (y ∷ []) new) (sym same) (one_longer h (s.0, new) t.there stepped_there));
            stands = record { program = refl; records = refl; lanes = refl; memory = refl; whole = λ none. refl };
            copied = copies_longer every start entries e kept size are;
            many = subst (λ m. HasCopies every m (length kept)) (sym long) (next_many every (length entries) (length kept) t.some size);
            tried = inl calm.1;
          })

-- ---- ways back

-- none: it is there
pub stays_there : (every : ℕ) (start : Joining) (entries : List Entry) (now : Joining) (copies : List Joining) (v : Trailed) → trailed every start entries now ≡ v → IsTrail every start entries now copies → (to : ℕ) → to ≡ length entries
    → is_due every (length entries) (length copies) ≡ true → (0 ≡ to % every) × (trailed every start entries now ≡ record v { trace = cut v.trace to }) × (now.refused ≡ None)
stays_there every start entries now copies v view t to at due =
    let here = due_tells every (length entries) (length copies) t.many due in
    let calm : now.refused ≡ None = by here.0 t.tried in
    let all : take to entries ≡ entries = take_all to entries (omega (arith, at)) in
    let state : state_after start (harts_of (take to entries)) ≡ now = ap (λ (es : List Entry). state_after start (harts_of es)) all ∙ state_is start t.there entries t.led ∙ sym (t.stands.whole calm) in (
      sym (ap (λ k. k % every) at ∙ here.1),
      subst (λ (w : Trailed). trailed every start entries now ≡ record w { trace = cut w.trace to }) view
          (ap (λ (es : List Entry). trailed every start es now) (sym all) ∙ ap (λ (j : Joining). trailed every start (take to entries) j) (sym state)),
      calm,
    )
  where
    by : length copies ≡ length entries / every → (now.refused ≡ None) ⊎ (length copies ≡ length entries / every + 1) → now.refused ≡ None
    by e (inl none) = none
    by e (inr more) = absurd (omega (arith, e, more))

-- by steps from a copy
pub goes_there : (every : ℕ) (start : Joining) (entries : List Entry) (now joint : Joining) (v : Trailed) → trailed every start entries now ≡ v → (to : ℕ) → LeadsBy start (take to entries) joint → trailed every start (take to entries) joint ≡ record v { trace = cut v.trace to }
goes_there every start entries now joint v view to led =
    subst (λ (w : Trailed). trailed every start (take to entries) joint ≡ record w { trace = cut w.trace to }) view
    (ap (λ (j : Joining). trailed every start (take to entries) j) (sym (state_is start joint (take to entries) led)))
