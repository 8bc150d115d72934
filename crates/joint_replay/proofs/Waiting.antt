-- The sources that a step waits for, looked up one after another.
use Rattle.joint_replay.proofs.Common.{◌≡◌, ℕ, zero, suc, ◌+◌, ◌<◌, Bool, true, false, ◌==◌, refl, sym, ap, ◌∙◌, arith, List, [], ◌∷◌, length, drop, slice_index_or, ne_eqb, IncomingEdge, Lane, first_waited, waits_for, AscendFrom}
use Rattle.joint_replay.specs.declared.kinds.Readiness.TheVariants as is
use Rattle.joint_replay.proofs.Ascents.{sources_at, none_higher}

-- the first source that isn't passed is among those of the Edges that are left, if there is one
pub record IsLeft (lanes : List Lane) (ic : ℕ) (all : List (ℕ × ℕ)) (rest : List IncomingEdge) : Type 0 where
  pub waited : first_waited lanes (sources_at ic rest) ≡ first_waited lanes all
  pub order : (low : ℕ) × AscendFrom low rest

front_at : (xs : List IncomingEdge) (k : ℕ) (d : IncomingEdge) → k < length xs → drop k xs ≡ slice_index_or xs k d ∷ drop (suc k) xs
front_at [] k d low = absurd (omega (arith, low))
front_at (y ∷ xs) zero d low = refl
front_at (y ∷ xs) (suc k) d low = front_at xs k d (omega (arith, low))

pub opened_at : (xs : List IncomingEdge) (k : ℕ) (d : IncomingEdge) → k < length xs → drop k xs ≡ slice_index_or xs k d ∷ drop (k + 1) xs
opened_at xs k d low = let up : suc k ≡ k + 1 = omega arith in front_at xs k d low ∙ ap (λ n. slice_index_or xs k d ∷ drop n xs) up

module _ (lanes : List Lane) (ic : ℕ) (all : List (ℕ × ℕ)) (s : IncomingEdge) (rest : List IncomingEdge) where
  head_is : (c : Bool) → (s.target == ic) ≡ c → sources_at ic (s ∷ rest) ≡ elim c as (λ y. List (ℕ × ℕ)) [ true ↦ (s.hart, s.ic) ∷ sources_at ic rest | false ↦ sources_at ic rest ]
  head_is c e = ap (λ b. elim b as (λ y. List (ℕ × ℕ)) [ true ↦ (s.hart, s.ic) ∷ sources_at ic rest | false ↦ sources_at ic rest ]) e

  -- it leads past the instruction, and so do those after it
  pub is_past : ic < s.target → IsLeft lanes ic all (s ∷ rest) → is.Ready ≡ waits_for (first_waited lanes all)
  is_past lt l = ap waits_for (ap (first_waited lanes) (sym (head_is false (ne_eqb s.target ic (λ e. absurd (omega (arith, e, lt)))) ∙ none_higher ic (s.target + 1) rest (omega (arith, lt)) l.order.1.1)) ∙ l.waited)
