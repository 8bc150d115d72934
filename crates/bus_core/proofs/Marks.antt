-- The last marks of harts.
use Rattle.bus_core.proofs.Common.{◌≡◌, ◌<◌, ◌≤◌, ℕ, zero, suc, ◌+◌, Bool, true, false, not, ◌||◌, List, [], ◌∷◌, ◌++◌, length, map, take, refl, sym, ◌∙◌, ap, arith, Vec, Option, Some, None, get_or, slice_get, vec_len, vec_capacity, get_or_from_slice_get, Global, EndMark, HARTS, Hart, AreHarts, hart_in, no_hart, any_live, marks}
use Rattle.std.proofs.lemmas.List.{take_more, map-append}

-- the marks of the first n harts were pushed
pub record AreMarked (n : ℕ) (hs : List Hart) (marks : Vec (Option EndMark) Global) : Type 0 where
  pub items : marks.items ≡ map (λ (h : Hart). h.mark) (take n hs)
  pub len : vec_len marks ≡ n
  pub room : HARTS ≤ vec_capacity marks

pub mark_more : (hs : List Hart) (n : ℕ) (x : Hart) (old new : List (Option EndMark)) → n < length hs → x ≡ get_or hs n x → old ≡ map (λ (h : Hart). h.mark) (take n hs) → new ≡ old ++ x.mark ∷ []
    → new ≡ map (λ (h : Hart). h.mark) (take (n + 1) hs)
mark_more hs n x old new within ex eo en =
    en ∙ ap (λ (ms : List (Option EndMark)). ms ++ x.mark ∷ []) eo ∙ ap (λ (h : Hart). map (λ (y : Hart). y.mark) (take n hs) ++ h.mark ∷ []) ex
    ∙ sym (map-append (λ (h : Hart). h.mark) (take n hs) (get_or hs n x ∷ [])) ∙ sym (ap (map (λ (h : Hart). h.mark)) (take_more hs n x within))

hart_or : Option Hart → Hart → Hart
hart_or None d = d
hart_or (Some h) d = h

-- the marks of a list of harts are those of the harts that it represents
marks_from : (hs : List Hart) (k : ℕ) (f : ℕ → Hart) → ((j : ℕ) → j < length hs → slice_get hs j ≡ Some (f (k + j))) → map (λ (h : Hart). h.mark) hs ≡ marks k (length hs) f
unfolding hart_or
marks_from [] k f at = refl
marks_from (x ∷ hs) k f at =
    let here : k + 0 ≡ k = omega arith in
    let first : x ≡ f k = ap (λ (o : Option Hart). hart_or o x) (at 0 (omega arith)) ∙ ap f here in
    let rest = marks_from hs (k + 1) f (λ j below. at (suc j) (omega (arith, below)) ∙ ap (λ (n : ℕ). Some (f n)) (omega arith)) in
    ap (λ (h : Hart). h.mark ∷ map (λ (y : Hart). y.mark) hs) first ∙ ap (λ (ms : List (Option EndMark)). (f k).mark ∷ ms) rest

pub marks_are : (hs : List Hart) (f : ℕ → Hart) (n : ℕ) → AreHarts hs f → length hs ≡ n → map (λ (h : Hart). h.mark) hs ≡ marks 0 n f
marks_are hs f n are len = marks_from hs 0 f (λ j below. are j below ∙ ap (λ (m : ℕ). Some (f m)) (omega arith)) ∙ ap (λ (m : ℕ). marks 0 m f) len

any_same : (n : ℕ) (f g : ℕ → Hart) → ((k : ℕ) → k < n → f k ≡ g k) → any_live n f ≡ any_live n g
any_same zero f g same = refl
any_same (suc n) f g same = ap (λ (h : Hart). h.live || any_live n f) (same n (omega arith)) ∙ ap (λ (b : Bool). (g n).live || b) (any_same n f g (λ k below. same k (omega (arith, below))))

-- whether one is live too
pub live_is : (hs : List Hart) (f : ℕ → Hart) (n : ℕ) → AreHarts hs f → length hs ≡ n → any_live (length hs) (hart_in hs) ≡ any_live n f
live_is hs f n are len = any_same (length hs) (hart_in hs) f (λ k below. get_or_from_slice_get hs k (f k) no_hart (are k below)) ∙ ap (λ (m : ℕ). any_live m f) len

-- none is live once the run is over
pub over_is : (b : Bool) → not b ≡ elim b as (λ x. Bool) [ true ↦ false | false ↦ true ]
over_is true = refl
over_is false = refl
