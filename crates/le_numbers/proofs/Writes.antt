-- A write to the first bytes of the part of a slice that begins at a place.
use Rattle.std.proofs.Common.{◌≡◌, ℕ, ◌+◌, ◌-◌, ◌≤◌, List, [], ◌++◌, length, take, drop, ap, ◌∙◌, sym, append_assoc, arith}
use Rattle.std.proofs.lemmas.List.{append-nil, drop_all, drop-drop, take_rest, length-drop}
use borrow.Rule.Slice.PartMut.{put_mid}

pub put_mid-written : (at width : ℕ) (xs ys text : List ℕ) → at + width ≤ length xs → ys ≡ text ++ drop width (take (length xs - at) (drop at xs))
    → put_mid at (length xs - at) xs ys ≡ take at xs ++ text ++ drop (at + width) xs
put_mid-written at width xs ys text within e =
    let none : drop (length xs - at) (drop at xs) ≡ [] = drop_all (length xs - at) (drop at xs) (omega (arith, length-drop at xs)) in
    let same : ys ≡ text ++ drop (at + width) xs = e ∙ ap (λ (t : List ℕ). text ++ drop width t) (take_rest xs at) ∙ ap (λ (t : List ℕ). text ++ t) (drop-drop width at xs) in
    ap (λ (t : List ℕ). take at xs ++ (ys ++ t)) none ∙ ap (λ (t : List ℕ). take at xs ++ t) (append-nil ys ∙ same) ∙ sym (append_assoc (take at xs) text (drop (at + width) xs))
