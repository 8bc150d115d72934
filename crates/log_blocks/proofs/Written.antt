-- The blocks that are written of a log are walked over from their end.
use Rattle.log_blocks.proofs.Common.{◌≡◌, ℕ, zero, suc, ◌+◌, ◌-◌, ◌<◌, ◌≤◌, ◌^◌, Bool, true, false, List, [], ◌∷◌, ◌++◌, length, take, drop, length-append, append_assoc, append-nil, refl, sym, ap, ap₂, subst, ◌∙◌, arith, bytes_eq, eq-eqb, drop-drop, take_at, drop_at, bytes_eq-Decides, sha256, length-sha256, number_bytes, HaveTheirWidth, AreRead, block_size, Piece, piece, piece_body, piece_bytes, pieces_bytes, gathered, len_in, left_in, before_in, start_in, piece_in, is_sized, is_good, Walked, IsWalk, le-ltb}
use Rattle.std.proofs.lemmas.Bool.{le-leb}

-- a piece that a good block has: its numbers fit their fields
pub record IsSound (n left : ℕ) (p : Piece) : Type 0 where
  pub low : 1 ≤ length p.bytes
  pub high : length p.bytes ≤ block_size
  pub left_is : p.left ≡ left
  pub few : left + length p.bytes ≤ n
  pub before_fits : p.before < 2 ^ 64

-- each is, by those after it and those kept before
unfoldable pub AreSound : ℕ → List Piece → List Piece → Type 0
AreSound n kept [] = Unit {0}
AreSound n kept (p ∷ ps) = IsSound n (length (gathered (ps ++ kept))) p × AreSound n kept ps

-- what is read at the end of the bytes of a sound piece
pub record Again (front bytes : List ℕ) (digest : List ℕ) (p : Piece) : Type 0 where
  pub len_is : len_in bytes ≡ length p.bytes
  pub left_is : left_in bytes ≡ p.left
  pub before_is : before_in bytes ≡ p.before
  pub start_is : start_in bytes ≡ length front
  pub long : length bytes ≡ length front + length p.bytes + 48
  pub rest_is : drop (length front) bytes ≡ piece_bytes digest p
  pub ahead : take (start_in bytes) bytes ≡ front
  pub seal : drop (length bytes - 32) bytes ≡ sha256 (digest ++ piece_body p)

ungroup : (p b l n d : List ℕ) → (p ++ b ++ l ++ n) ++ d ≡ p ++ (b ++ (l ++ (n ++ d)))
ungroup p b l n d = simp append_assoc

pub body_size : HaveTheirWidth → (p : Piece) → length (piece_body p) ≡ length p.bytes + 16
body_size long p =
    omega (
      arith,
      length-append (p.bytes ++ number_bytes 8 p.before ++ number_bytes 4 p.left) (number_bytes 4 (length p.bytes)),
      length-append (p.bytes ++ number_bytes 8 p.before) (number_bytes 4 p.left),
      length-append p.bytes (number_bytes 8 p.before),
      long 8 p.before,
      long 4 p.left,
      long 4 (length p.bytes),
    )

pub piece_size : HaveTheirWidth → (digest : List ℕ) (p : Piece) → length (piece_bytes digest p) ≡ length p.bytes + 48
piece_size long digest p = omega (arith, length-append (piece_body p) (sha256 (digest ++ piece_body p)), length-sha256 (digest ++ piece_body p), body_size long p)

pub again : AreRead → HaveTheirWidth → (n left : ℕ) (front digest : List ℕ) (p : Piece) → n < 2 ^ 32 → IsSound n left p → Again front (front ++ piece_bytes digest p) digest p
again read long n left front digest p small s =
    let bytes = front ++ piece_bytes digest p in
    let d = sha256 (digest ++ piece_body p) in
    let size : length bytes ≡ length front + length p.bytes + 48 = omega (arith, length-append front (piece_bytes digest p), piece_size long digest p) in
    let at0 : drop (length front) bytes ≡ piece_bytes digest p = drop_at front (piece_bytes digest p) (length front) refl in
    let at48 : drop (length bytes - 48) bytes ≡ number_bytes 8 p.before ++ (number_bytes 4 p.left ++ (number_bytes 4 (length p.bytes) ++ d)) =
    ap (λ (k : ℕ). drop k bytes) (omega (arith, size)) ∙ sym (drop-drop (length p.bytes) (length front) bytes) ∙ ap (drop (length p.bytes)) (at0 ∙ ungroup p.bytes (number_bytes 8 p.before) (number_bytes 4 p.left) (number_bytes 4 (length p.bytes)) d)
    ∙ drop_at p.bytes (number_bytes 8 p.before ++ (number_bytes 4 p.left ++ (number_bytes 4 (length p.bytes) ++ d))) (length p.bytes) refl in
    let r48 = read 8 (length bytes - 48) p.before bytes _ (omega (arith, s.before_fits)) at48 in
    let at40 : drop (length bytes - 40) bytes ≡ number_bytes 4 p.left ++ (number_bytes 4 (length p.bytes) ++ d) = ap (λ (k : ℕ). drop k bytes) (omega (arith, size)) ∙ r48.1 in
    let r40 = read 4 (length bytes - 40) p.left bytes _ (omega (arith, s.left_is, s.few, small)) at40 in
    let at36 : drop (length bytes - 36) bytes ≡ number_bytes 4 (length p.bytes) ++ d = ap (λ (k : ℕ). drop k bytes) (omega (arith, size)) ∙ r40.1 in
    let r36 = read 4 (length bytes - 36) (length p.bytes) bytes d (omega (arith, s.high)) at36 in
    let start : start_in bytes ≡ length front = omega (arith, size, r36.0) in
    record {
      len_is = r36.0;
      left_is = r40.0;
      before_is = r48.0;
      start_is = start;
      long = size;
      rest_is = at0;
      ahead = ap (λ (k : ℕ). take k bytes) start ∙ take_at front (piece_bytes digest p) (length front) refl;
      seal = ap (λ (k : ℕ). drop k bytes) (omega (arith, size)) ∙ r36.1;
    }

-- a sound piece is a good block
pub good_again : AreRead → HaveTheirWidth → (n left : ℕ) (front digest : List ℕ) (p : Piece) → n < 2 ^ 32 → IsSound n left p → is_good digest n left (front ++ piece_bytes digest p) ≡ true
unfolding is_good
good_again read long n left front digest p small s =
    let a = again read long n left front digest p small s in
    let bytes = front ++ piece_bytes digest p in
    let body : take (len_in bytes + 16) (drop (start_in bytes) bytes) ≡ piece_body p =
    ap₂ (λ (k m : ℕ). take (k + 16) (drop m bytes)) a.len_is a.start_is ∙ ap (take (length p.bytes + 16)) a.rest_is ∙ take_at (piece_body p) (sha256 (digest ++ piece_body p)) (length p.bytes + 16) (body_size long p) in
    let seal : bytes_eq (drop (length bytes - 32) bytes) (sha256 (digest ++ take (len_in bytes + 16) (drop (start_in bytes) bytes))) ≡ true =
    (bytes_eq-Decides _ _).1 (a.seal ∙ ap (λ (t : List ℕ). sha256 (digest ++ t)) (sym body)) in
    let sized : is_sized (len_in bytes) (left_in bytes) left n (length bytes) ≡ true =
    rw (
      le-leb 1 (len_in bytes) (omega (arith, s.low, a.len_is)),
      le-leb (len_in bytes) block_size (omega (arith, s.high, a.len_is)),
      le-leb (len_in bytes + 48) (length bytes) (omega (arith, a.len_is, a.long)),
      eq-eqb (left_in bytes) left (a.left_is ∙ s.left_is),
      le-leb (left + len_in bytes) n (omega (arith, s.few, a.len_is)),
    ) refl in
    rw (le-ltb (length bytes) 48 (omega (arith, a.long)), sized, seal) refl

piece_again : (p : Piece) (bytes : List ℕ) (before left : ℕ) → bytes ≡ p.bytes → before ≡ p.before → left ≡ p.left → piece bytes before left ≡ p
piece_again p bytes before left eb en el = ap (λ (t : List ℕ). piece t before left) eb ∙ ap₂ (λ (x y : ℕ). piece p.bytes x y) en el

pub piece_read : AreRead → HaveTheirWidth → (n left : ℕ) (front digest : List ℕ) (p : Piece) → n < 2 ^ 32 → IsSound n left p → piece_in (front ++ piece_bytes digest p) ≡ p
piece_read read long n left front digest p small s =
    let a = again read long n left front digest p small s in
    let bytes = front ++ piece_bytes digest p in
    let d = sha256 (digest ++ piece_body p) in
    let records : take (len_in bytes) (drop (start_in bytes) bytes) ≡ p.bytes =
    ap₂ (λ (k m : ℕ). take k (drop m bytes)) a.len_is a.start_is ∙ ap (take (length p.bytes)) (a.rest_is ∙ ungroup p.bytes (number_bytes 8 p.before) (number_bytes 4 p.left) (number_bytes 4 (length p.bytes)) d)
    ∙ take_at p.bytes (number_bytes 8 p.before ++ (number_bytes 4 p.left ++ (number_bytes 4 (length p.bytes) ++ d))) (length p.bytes) refl in
    piece_again p _ _ _ records a.before_is a.left_is

-- sound pieces are walked over, and the walk continues ahead of them
pub walked_over : AreRead → HaveTheirWidth → (digest : List ℕ) (n : ℕ) → n < 2 ^ 32 → (ps : List Piece) (front : List ℕ) (kept : List Piece) (more : ℕ) (rest : List ℕ) (pieces : List Piece) → AreSound n kept ps
    → Walked digest n more front (ps ++ kept) rest pieces → Walked digest n (length ps + more) (front ++ pieces_bytes digest ps) kept rest pieces
unfolding AreSound
walked_over read long digest n small [] front kept more rest pieces sound w =
    subst (λ (k : ℕ). Walked digest n k (front ++ []) kept rest pieces) (omega arith) (subst (λ (t : List ℕ). Walked digest n more t kept rest pieces) (sym (append-nil front)) w)
walked_over read long digest n small (p ∷ ps) front kept more rest pieces sound w =
    let left = length (gathered (ps ++ kept)) in
    let a = again read long n left front digest p small sound.0 in
    let first : Walked digest n (suc more) (front ++ piece_bytes digest p) (ps ++ kept) rest pieces = (
      good_again read long n left front digest p small sound.0,
      subst (λ (t : List ℕ). Walked digest n more t (piece_in (front ++ piece_bytes digest p) ∷ (ps ++ kept)) rest pieces) (sym a.ahead)
          (subst (λ (q : Piece). Walked digest n more front (q ∷ (ps ++ kept)) rest pieces) (sym (piece_read read long n left front digest p small sound.0)) w),
    ) in
    let later = walked_over read long digest n small ps (front ++ piece_bytes digest p) kept (suc more) rest pieces sound.1 first in
    subst (λ (t : List ℕ). Walked digest n (length (p ∷ ps) + more) t kept rest pieces) (append_assoc front (piece_bytes digest p) (pieces_bytes digest ps))
    (subst (λ (k : ℕ). Walked digest n k ((front ++ piece_bytes digest p) ++ pieces_bytes digest ps) kept rest pieces) (omega arith) later)

none_ahead : (digest : List ℕ) (n left : ℕ) → is_good digest n left [] ≡ false
unfolding is_good
none_ahead digest n left = refl

pub walked_whole : AreRead → HaveTheirWidth → (digest : List ℕ) (n : ℕ) → n < 2 ^ 32 → (ps : List Piece) → AreSound n [] ps → IsWalk digest n (pieces_bytes digest ps) [] ps
walked_whole read long digest n small ps sound = record {
  count = length ps + 0;
  walked = walked_over read long digest n small ps [] [] 0 [] ps sound (none_ahead digest n (length (gathered (ps ++ []))), (refl, sym (append-nil ps)));
}

-- ---- there is one walk

pub record Same (rest other : List ℕ) (pieces others : List Piece) : Type 0 where
  pub rest_is : rest ≡ other
  pub pieces_are : pieces ≡ others

not_both : {P : Type 0} (b : Bool) → b ≡ true → b ≡ false → P
not_both true e f = absurd cc
not_both false e f = absurd cc

one_walked : (digest : List ℕ) (n count more : ℕ) (bytes : List ℕ) (kept : List Piece) (rest other : List ℕ) (pieces others : List Piece) → Walked digest n count bytes kept rest pieces → Walked digest n more bytes kept other others
    → Same rest other pieces others
one_walked digest n zero zero bytes kept rest other pieces others v w = record { rest_is = v.1.0 ∙ sym w.1.0; pieces_are = v.1.1 ∙ sym w.1.1 }
one_walked digest n zero (suc more) bytes kept rest other pieces others v w = not_both (is_good digest n (length (gathered kept)) bytes) w.0 v.0
one_walked digest n (suc count) zero bytes kept rest other pieces others v w = not_both (is_good digest n (length (gathered kept)) bytes) v.0 w.0
one_walked digest n (suc count) (suc more) bytes kept rest other pieces others v w = one_walked digest n count more (take (start_in bytes) bytes) (piece_in bytes ∷ kept) rest other pieces others v.1 w.1

pub one_walk : (digest : List ℕ) (n : ℕ) (bytes rest other : List ℕ) (pieces others : List Piece) → IsWalk digest n bytes rest pieces → IsWalk digest n bytes other others → Same rest other pieces others
one_walk digest n bytes rest other pieces others v w = one_walked digest n v.count w.count bytes [] rest other pieces others v.walked w.walked
