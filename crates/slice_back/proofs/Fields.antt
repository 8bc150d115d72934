-- Instructions whose format has no rd.
use Rattle.slice_back.proofs.Common.{◌≡◌, ℕ, ◌==◌, Bool, true, false, not, ◌&&◌, ◌||◌, List, [], ◌∷◌, Option, Some, None, refl, sym, ◌∙◌, ap, subst, table, fits, row_in, Instruction, spelled, spelled_by, decoded, Name, and_parts}
use Rattle.rv_decode.specs.Table.{Row}
use Rattle.rv_decode.specs.declared.format.Format.{Format}
use Rattle.rv_decode.specs.declared.format.Format.TheVariants.{U, J, I, B, S, Shift, R, Bare, Atomic}
use Rattle.slice_back.proofs.Meanings.{writes_none}

abbrev has_no_rd : Format → Bool
has_no_rd B = true
has_no_rd S = true
has_no_rd Bare = true
has_no_rd f = false

abbrev lies_so : Row → Bool
lies_so r = not (writes_none r.name) || has_no_rd r.format

abbrev all_lie_so : List Row → Bool
all_lie_so [] = true
all_lie_so (r ∷ rs) = lies_so r && all_lie_so rs

table_lies_so : all_lie_so table ≡ true
table_lies_so = refl

row_lies_so : (rs : List Row) (w : ℕ) (r : Row) → all_lie_so rs ≡ true → row_in rs w ≡ Some r → lies_so r ≡ true
row_lies_so [] w r h e = absurd cc
row_lies_so (s ∷ rs) w r h e = by (fits s w) (λ f. row_lies_so rs w r (and_parts (lies_so s) (all_lie_so rs) h).1 f) e
  where
    by : (b : Bool) → (row_in rs w ≡ Some r → lies_so r ≡ true) → (elim b as (λ x. Option Row) [ true ↦ Some s | false ↦ row_in rs w ]) ≡ Some r → lies_so r ≡ true
    by true rest f = let same : s ≡ r = cc in subst (λ (x : Row). lies_so x ≡ true) same (and_parts (lies_so s) (all_lie_so rs) h).0
    by false rest f = rest f

spelled_name : (n : Name) (f : Format) (w : ℕ) → (spelled n f w).name ≡ n
spelled_name n U w = refl
spelled_name n J w = refl
spelled_name n I w = refl
spelled_name n B w = refl
spelled_name n S w = refl
spelled_name n Shift w = refl
spelled_name n R w = refl
spelled_name n Bare w = refl
spelled_name n Atomic w = refl

none_left : (b : Bool) → (not b || false) ≡ true → b ≡ true → ⊥
none_left true h t = cc
none_left false h t = cc

spelled_none : (n : Name) (f : Format) (w : ℕ) → (not (writes_none n) || has_no_rd f) ≡ true → writes_none n ≡ true → ((spelled n f w).rd == 0) ≡ true
spelled_none n B w h t = refl
spelled_none n S w h t = refl
spelled_none n Bare w h t = refl
spelled_none n U w h t = absurd (none_left (writes_none n) h t)
spelled_none n J w h t = absurd (none_left (writes_none n) h t)
spelled_none n I w h t = absurd (none_left (writes_none n) h t)
spelled_none n Shift w h t = absurd (none_left (writes_none n) h t)
spelled_none n R w h t = absurd (none_left (writes_none n) h t)
spelled_none n Atomic w h t = absurd (none_left (writes_none n) h t)

pub no_rd : (w : ℕ) (d : Instruction) → decoded w ≡ Some d → writes_none d.name ≡ true → (d.rd == 0) ≡ true
no_rd w d e t = by (row_in table w) refl e
  where
    by : (o : Option Row) → row_in table w ≡ o → spelled_by o w ≡ Some d → (d.rd == 0) ≡ true
    by None f g = absurd cc
    by (Some r) f g =
        let same : spelled r.name r.format w ≡ d = cc in
        let named : r.name ≡ d.name = sym (spelled_name r.name r.format w) ∙ ap (λ (x : Instruction). x.name) same in
        subst (λ (x : Instruction). (x.rd == 0) ≡ true) same (spelled_none r.name r.format w (row_lies_so table w r table_lies_so f) (ap writes_none named ∙ t))
