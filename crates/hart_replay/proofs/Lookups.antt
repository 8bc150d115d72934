-- Look-ups that are kept.
use Rattle.hart_replay.proofs.Common.{arith, ◌≡◌, ◌∙◌, ℕ, zero, suc, ◌⊎◌, List, [], ◌∷◌, replicate, Option, Some, None, slice_get, slice_set, sym, subst, ap, inl, inr, Program, HartState, code_at, destination, fetched, instruction_in, Lookup, IsLookup, AreLookups}
use Rattle.rv_meaning.specs.declared.fetched.Fetched.{Fetched}

same_item : (a b : Lookup) → ◌≡◌ {A = Option Lookup} (Some a) (Some b) → b ≡ a
same_item a b e = sym (ap (λ (o : Option Lookup). elim o as (λ y. Lookup) [ None ↦ a | Some v ↦ v ]) e)

after_set : (xs : List Lookup) (i : ℕ) (s : Lookup) (n : ℕ) (l : Lookup) → slice_get (slice_set xs i s) n ≡ Some l → (l ≡ s) ⊎ (slice_get xs n ≡ Some l)
after_set [] i s n l e = inr e
after_set (x ∷ xs) zero s zero l e = inl (same_item s l e)
after_set (x ∷ xs) zero s (suc n) l e = inr e
after_set (x ∷ xs) (suc i) s zero l e = inr e
after_set (x ∷ xs) (suc i) s (suc n) l e = after_set xs i s n l e

pub set_lookups : (i : Program) (xs : List Lookup) (at : ℕ) (s : Lookup) → IsLookup i s → AreLookups i xs → AreLookups i (slice_set xs at s)
set_lookups i xs at s right all n l e = elim (after_set xs at s n l e) [
  | inl is ↦ subst (IsLookup i) (sym is) right
  | inr was ↦ all n l was
]

in_copies : (k : ℕ) (s : Lookup) (n : ℕ) (l : Lookup) → slice_get (replicate k s) n ≡ Some l → l ≡ s
in_copies zero s n l e = grind arith
in_copies (suc k) s zero l e = same_item s l e
in_copies (suc k) s (suc n) l e = in_copies k s n l e

pub copied_lookups : (i : Program) (k : ℕ) (s : Lookup) (xs : List Lookup) → IsLookup i s → xs ≡ replicate k s → AreLookups i xs
copied_lookups i k s xs right e n l found = subst (IsLookup i) (sym (in_copies k s n l (subst (λ (ys : List Lookup). slice_get ys n ≡ Some l) e found))) right

-- what is kept of the pc of a state is what is fetched there
pub kept_fetched : (i : Program) (h : ℕ) (s : HartState) (l : Lookup) → IsLookup i l → l.pc ≡ s.pc → ◌≡◌ {A = Fetched} (record { hart = h; ic = s.ic; pc = l.pc; word = l.word; rd = l.rd }) (fetched h i s)
kept_fetched i h s l right pc =
    ap (λ n. record { hart = h; ic = s.ic; pc = n; word = l.word; rd = l.rd }) pc
    ∙ ap (λ (w : Option ℕ). record { hart = h; ic = s.ic; pc = s.pc; word = w; rd = l.rd }) (right.0 ∙ ap (code_at i) pc)
    ∙ ap (λ (r : Option ℕ). record { hart = h; ic = s.ic; pc = s.pc; word = code_at i s.pc; rd = r }) (right.1 ∙ ap (λ n. destination (instruction_in (code_at i n))) pc)
