-- Going along the blocks that a walk kept, from the first to the last.
use Rattle.log_blocks.proofs.Common.{◌≡◌, ℕ, ◌+◌, ◌<◌, ◌≤◌, List, [], ◌∷◌, ◌++◌, length, take, drop, get_or, length-append, append_assoc, append-nil, refl, sym, ap, subst, ◌∙◌, arith, length-take-le, take_at, drop_at, take_more, take-length, Piece, gathered, sizes_of, IsAt, AreAt, AreLaid}

-- the pieces that are still to come, of which the sizes are the first so many
pub record AreLeft (bytes sizes : List ℕ) (at left : ℕ) (ps : List Piece) : Type 0 where
  pub at_is : AreAt bytes at ps
  pub sizes_are : take left sizes ≡ sizes_of ps

-- the first of them, and those after it
pub record Step (bytes sizes : List ℕ) (at left : ℕ) (ps : List Piece) : Type 0 where
  pub first : Piece
  pub rest : List Piece
  pub pieces_are : ps ≡ first ∷ rest
  pub here : IsAt bytes at first
  pub size_is : (d : ℕ) → get_or sizes left d ≡ length first.bytes
  pub behind : AreLeft bytes sizes (at + length first.bytes + 48) left rest

same_front : (xs ys : List ℕ) (x y n : ℕ) → length xs ≡ n → length ys ≡ n → xs ++ x ∷ [] ≡ ys ++ y ∷ [] → xs ≡ ys
same_front xs ys x y n lx ly e = sym (take_at xs (x ∷ []) n lx) ∙ ap (take n) e ∙ take_at ys (y ∷ []) n ly

same_last : (xs ys : List ℕ) (x y n : ℕ) → length xs ≡ n → length ys ≡ n → xs ++ x ∷ [] ≡ ys ++ y ∷ [] → x ≡ y
same_last xs ys x y n lx ly e = ap (λ (t : List ℕ). get_or t 0 0) (sym (drop_at xs (x ∷ []) n lx) ∙ ap (drop n) e ∙ drop_at ys (y ∷ []) n ly)

step_to : (bytes sizes : List ℕ) (at left : ℕ) (ps : List Piece) → left < length sizes → AreLeft bytes sizes at (left + 1) ps → Step bytes sizes at left ps
step_to bytes sizes at left [] lt l = absurd (omega (arith, ap length l.sizes_are, length-take-le (left + 1) sizes (omega (arith, lt))))
step_to bytes sizes at left (p ∷ ps) lt l =
    let some = length-take-le (left + 1) sizes (omega (arith, lt)) in
    let fewer = length-take-le left sizes (omega (arith, lt)) in
    let n : length (sizes_of ps) ≡ left = omega (arith, ap length l.sizes_are, length-append (sizes_of ps) (length p.bytes ∷ []), some) in
    let e : (d : ℕ) → take left sizes ++ get_or sizes left d ∷ [] ≡ sizes_of ps ++ length p.bytes ∷ [] = λ d. sym (take_more sizes left d lt) ∙ l.sizes_are in
    record {
      first = p;
      rest = ps;
      pieces_are = refl;
      here = l.at_is.0;
      size_is = λ d. same_last (take left sizes) (sizes_of ps) (get_or sizes left d) (length p.bytes) left fewer n (e d);
      behind = record { at_is = l.at_is.1; sizes_are = same_front (take left sizes) (sizes_of ps) (get_or sizes left 0) (length p.bytes) left fewer n (e 0) };
    }

pub step : (bytes sizes : List ℕ) (at left more : ℕ) (ps : List Piece) → left + 1 ≡ more → left < length sizes → AreLeft bytes sizes at more ps → Step bytes sizes at left ps
step bytes sizes at left more ps is lt l = step_to bytes sizes at left ps lt (subst (λ (n : ℕ). AreLeft bytes sizes at n ps) (sym is) l)

pub all_left : (bytes sizes : List ℕ) (rest size count : ℕ) (ps : List Piece) → count ≡ length sizes → AreLaid bytes rest size sizes ps → AreLeft bytes sizes rest count ps
all_left bytes sizes rest size count ps is l = record { at_is = l.at; sizes_are = ap (λ (n : ℕ). take n sizes) is ∙ take-length sizes ∙ l.sizes_are }

-- ---- the bytes of their records

pub record GatheredTo (bytes sizes out : List ℕ) (at left : ℕ) (pieces : List Piece) : Type 0 where
  pub ps : List Piece
  pub state : AreLeft bytes sizes at left ps
  pub parts : gathered pieces ≡ out ++ gathered ps

pub gathered_none : (bytes sizes : List ℕ) (rest size count : ℕ) (pieces : List Piece) → count ≡ length sizes → AreLaid bytes rest size sizes pieces → GatheredTo bytes sizes [] rest count pieces
gathered_none bytes sizes rest size count pieces is l = record { ps = pieces; state = all_left bytes sizes rest size count pieces is l; parts = refl }

pub gathered_more : (bytes sizes out more : List ℕ) (at next left before size : ℕ) (pieces : List Piece) → left + 1 ≡ before → left < length sizes → size ≡ get_or sizes left size → more ≡ take size (drop at bytes)
    → next ≡ at + (size + 48) → GatheredTo bytes sizes out at before pieces → GatheredTo bytes sizes (out ++ more) next left pieces
gathered_more bytes sizes out more at next left before size pieces one lt is here then g =
    let s = step bytes sizes at left before g.ps one lt g.state in
    let size_is : size ≡ length s.first.bytes = is ∙ s.size_is size in
    let more_is : more ≡ s.first.bytes = here ∙ ap (λ (n : ℕ). take n (drop at bytes)) size_is ∙ sym s.here.bytes_is in
    let place : at + length s.first.bytes + 48 ≡ next = omega (arith, then, size_is) in
    record {
      ps = s.rest;
      state = subst (λ (n : ℕ). AreLeft bytes sizes n left s.rest) place s.behind;
      parts = g.parts ∙ ap (λ (t : List Piece). out ++ gathered t) s.pieces_are ∙ sym (append_assoc out s.first.bytes (gathered s.rest)) ∙ ap (λ (t : List ℕ). (out ++ t) ++ gathered s.rest) (sym more_is);
    }

pub none_left : (bytes sizes : List ℕ) (at left : ℕ) (ps : List Piece) → left ≡ 0 → AreLeft bytes sizes at left ps → ps ≡ []
none_left bytes sizes at left [] is l = refl
none_left bytes sizes at left (p ∷ ps) is l =
    absurd (omega (arith, ap length (ap (λ (n : ℕ). take n sizes) (sym is) ∙ l.sizes_are), length-append (sizes_of ps) (length p.bytes ∷ [])))

pub gathered_all : (bytes sizes out : List ℕ) (at left : ℕ) (pieces : List Piece) → left ≡ 0 → GatheredTo bytes sizes out at left pieces → out ≡ gathered pieces
gathered_all bytes sizes out at left pieces is g = sym (g.parts ∙ ap (λ (t : List Piece). out ++ gathered t) (none_left bytes sizes at left g.ps is g.state) ∙ append-nil out)

-- the end of the next of them
pub within : (bytes sizes : List ℕ) (at left more size : ℕ) (ps : List Piece) → left + 1 ≡ more → left < length sizes → size ≡ get_or sizes left size → AreLeft bytes sizes at more ps → at + size + 48 ≤ length bytes
within bytes sizes at left more size ps one lt is l =
    let s = step bytes sizes at left more ps one lt l in
    omega (arith, s.here.within, is, s.size_is size)

-- what is left after the next of them
pub behind_it : (bytes sizes : List ℕ) (at next left more size : ℕ) (ps : List Piece) → left + 1 ≡ more → left < length sizes → size ≡ get_or sizes left size → next ≡ at + (size + 48) → AreLeft bytes sizes at more ps
    → (x : List Piece) × AreLeft bytes sizes next left x
behind_it bytes sizes at next left more size ps one lt is then l =
    let s = step bytes sizes at left more ps one lt l in
    let place : at + length s.first.bytes + 48 ≡ next = omega (arith, then, is, s.size_is size) in
    (s.rest, subst (λ (n : ℕ). AreLeft bytes sizes n left s.rest) place s.behind)
