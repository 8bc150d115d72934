-- The lowest ready hart, found one after another; and the harts of a joint replay as a list.
use Rattle.joint_replay.proofs.Common.{◌≡◌, ℕ, zero, suc, ◌+◌, ◌<◌, Bool, true, refl, sym, ap, ◌∙◌, arith, List, [], ◌∷◌, length, drop, slice_get, Option, Some, None, Readiness, Next, Hart, Lane, Joining, readiness, readiness_of, choice, choice_from, HartLane, lanes_of}
use Rattle.joint_replay.specs.declared.kinds.Readiness.TheVariants as is

pub lanes_length : (hs : List HartLane) → length (lanes_of hs) ≡ length hs
lanes_length [] = refl
lanes_length (h ∷ hs) = ap suc (lanes_length hs)

-- how the choice continues after a hart
abbrev pub after : Joining → ℕ → Bool → Readiness → Next
after j h waiting r = elim r [ is.Ready ↦ Hart h | is.Waits s ic ↦ choice_from j.records j.lanes (h + 1) (drop (h + 1) j.lanes) true | is.Done ↦ choice_from j.records j.lanes (h + 1) (drop (h + 1) j.lanes) waiting ]

front : (xs : List Lane) (k : ℕ) → k < length xs → (x : Lane) × (slice_get xs k ≡ Some x) × (drop k xs ≡ x ∷ drop (suc k) xs)
front [] k low = absurd (omega (arith, low))
front (x ∷ xs) zero low = (x, refl, refl)
front (x ∷ xs) (suc k) low = front xs k (omega (arith, low))

pub one_on : (j : Joining) (h : ℕ) (waiting : Bool) → h < length j.lanes → choice_from j.records j.lanes h (drop h j.lanes) waiting ≡ after j h waiting (readiness j h)
one_on j h waiting low =
    let x = front j.lanes h low in
    let up : suc h ≡ h + 1 = omega arith in
    ap (λ (ls : List Lane). choice_from j.records j.lanes h ls waiting) (x.2 ∙ ap (λ (k : ℕ). x.0 ∷ drop k j.lanes) up) ∙ same (readiness_of j.records j.lanes h x.0)
    ∙ sym (ap (λ (o : Option Lane). after j h waiting (elim o as (λ y. Readiness) [ None ↦ is.Done | Some lane ↦ readiness_of j.records j.lanes h lane ])) x.1)
  where
    same : (r : Readiness) → elim r as (λ y. Next) [ is.Ready ↦ Hart h | is.Waits s ic ↦ choice_from j.records j.lanes (h + 1) (drop (h + 1) j.lanes) true | is.Done ↦ choice_from j.records j.lanes (h + 1) (drop (h + 1) j.lanes) waiting ] ≡ after j h waiting r
    same r = refl

pub is_lowest : (j : Joining) (h : ℕ) (waiting : Bool) (r : Readiness) → h < length j.lanes → r ≡ readiness j h → r ≡ is.Ready → choice_from j.records j.lanes h (drop h j.lanes) waiting ≡ choice j → Hart h ≡ choice j
is_lowest j h waiting r low e f so = sym (ap (after j h waiting) (sym e ∙ f)) ∙ sym (one_on j h waiting low) ∙ so

pub waits_on : (j : Joining) (h : ℕ) (waiting : Bool) (r : Readiness) (s ic : ℕ) → h < length j.lanes → r ≡ readiness j h → r ≡ is.Waits s ic → choice_from j.records j.lanes h (drop h j.lanes) waiting ≡ choice j
    → choice_from j.records j.lanes (h + 1) (drop (h + 1) j.lanes) true ≡ choice j
waits_on j h waiting r s ic low e f so = sym (ap (after j h waiting) (sym e ∙ f)) ∙ sym (one_on j h waiting low) ∙ so

pub is_done : (j : Joining) (h : ℕ) (waiting : Bool) (r : Readiness) → h < length j.lanes → r ≡ readiness j h → r ≡ is.Done → choice_from j.records j.lanes h (drop h j.lanes) waiting ≡ choice j
    → choice_from j.records j.lanes (h + 1) (drop (h + 1) j.lanes) waiting ≡ choice j
is_done j h waiting r low e f so = sym (ap (after j h waiting) (sym e ∙ f)) ∙ sym (one_on j h waiting low) ∙ so
