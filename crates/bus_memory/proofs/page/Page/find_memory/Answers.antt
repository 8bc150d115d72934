use Rattle.bus_memory.proofs.Common.{rules, arith, ◌≡◌, length, ap, sym, ◌∙◌, eqb-true, Frame}
use Rattle.std.proofs.Common.{arith, ◌≡◌, ℕ, zero, suc, List, [], ◌∷◌, length, get_or, replicate, refl, ap, ◌∙◌}
use Rattle.bus_memory.proofs.page.Page.find_memory.Goals as goal

-- Words that are all 0.
zero_at : (n k : ℕ) → get_or {A = ℕ} (replicate n 0) k 0 ≡ 0
zero_at zero k = refl
zero_at (suc n) zero = refl
zero_at (suc n) (suc k) = zero_at n k

-- new zeros read as no words did
same_zeros : (xs ys : List ℕ) (n : ℕ) → xs ≡ replicate n 0 → length ys ≡ 0 → (k : ℕ) → get_or xs k 0 ≡ get_or ys k 0
same_zeros xs [] n e none k = ap (λ (zs : List ℕ). get_or zs k 0) e ∙ zero_at n k
same_zeros xs (y ∷ ys) n e none k = absurd (omega (arith, none))

pub returns-in_ok-self-inside-clause-words : goal.returns-in_ok-self-inside-clause-words
returns-in_ok-self-inside-clause-words c =
    let seen = ap (λ (f : Frame). length f.words) c.self.view_is in
    let empty = eqb-true _ _ (sym c.is_empty.ensures ∙ c.if-is_empty.true) in
    let none : length c.args.self.now.words ≡ 0 = omega (arith, seen, empty) in
    same_zeros _ _ 1024 (c.in_ok-self-inside.ensures.items_if_clones_equal (λ y h. search rules)) none
