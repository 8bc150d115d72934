-- A good block, by its test and by its bytes.
use Rattle.log_blocks.proofs.Common.{◌≡◌, ℕ, zero, suc, ◌+◌, ◌-◌, ◌<◌, ◌≤◌, Bool, true, false, nat_le, ltb, cond, List, [], ◌∷◌, ◌++◌, length, take, drop, length-drop, append_assoc, refl, sym, ap, ap₂, subst, ◌∙◌, arith, inl, inr, ◌==◌, slice_index, bytes_eq, eqb-true, drop-drop, take-append-drop, take_at, length-take-le, get_or_append_left, get_or_past, bytes_eq-Decides, sha256, number_bytes, AreBytes, HaveTheirWidth, AreWritten, block_size, Piece, piece_body, piece_bytes, pieces_bytes, gathered, len_in, left_in, before_in, start_in, piece_in, is_sized, is_good, Walked, and_parts}
use Rattle.std.proofs.lemmas.Bool.{leb-true}
use Rattle.std.proofs.lemmas.Bool.{cases_lt}
use Rattle.log_blocks.proofs.Written.{body_size}

-- what a test that passed says
pub record Good (digest : List ℕ) (n left : ℕ) (bytes : List ℕ) : Type 0 where
  pub low : 1 ≤ len_in bytes
  pub high : len_in bytes ≤ block_size
  pub within : len_in bytes + 48 ≤ length bytes
  pub left_is : left_in bytes ≡ left
  pub few : left + len_in bytes ≤ n
  pub seal : drop (length bytes - 32) bytes ≡ sha256 (digest ++ take (len_in bytes + 16) (drop (start_in bytes) bytes))

third : (b c e : Bool) → cond b false (cond c e false) ≡ true → (b ≡ false) × (c ≡ true) × (e ≡ true)
third false true e h = (refl, refl, h)
third false false e h = absurd cc
third true c e h = absurd cc

pub good : (digest : List ℕ) (n left : ℕ) (bytes : List ℕ) → is_good digest n left bytes ≡ true → Good digest n left bytes
unfolding is_good
good digest n left bytes h =
    let t = third (ltb (length bytes) 48) (is_sized (len_in bytes) (left_in bytes) left n (length bytes)) (bytes_eq (drop (length bytes - 32) bytes) (sha256 (digest ++ take (len_in bytes + 16) (drop (start_in bytes) bytes)))) h in
    let a = and_parts _ (nat_le (left + len_in bytes) n) t.1 in
    let b = and_parts _ (left_in bytes == left) a.0 in
    let c = and_parts _ (nat_le (len_in bytes + 48) (length bytes)) b.0 in
    let d = and_parts (nat_le 1 (len_in bytes)) (nat_le (len_in bytes) block_size) c.0 in
    record {
      low = leb-true _ _ d.0;
      high = leb-true _ _ d.1;
      within = leb-true _ _ c.1;
      left_is = eqb-true _ _ b.1;
      few = leb-true _ _ a.1;
      seal = (bytes_eq-Decides _ _).0 t.2;
    }

-- ---- the bytes of a good block are those of its piece

pub front_are : (n : ℕ) (bytes : List ℕ) → AreBytes bytes → AreBytes (take n bytes)
front_are n bytes are i =
    elim (cases_lt i (length (take n bytes))) [
      | inl lt ↦ subst (λ (k : ℕ). k < 256) (ap (λ (t : List ℕ). slice_index t i) (sym (take-append-drop n bytes)) ∙ get_or_append_left (take n bytes) (drop n bytes) 0 i lt) (are i)
      | inr le ↦ rw (get_or_past (take n bytes) i 0 le) (omega arith)
    ]

regroup : (p b l n d : List ℕ) → p ++ (b ++ (l ++ (n ++ d))) ≡ (p ++ b ++ l ++ n) ++ d
regroup p b l n d = simp append_assoc

pub piece_is : AreWritten → HaveTheirWidth → (digest : List ℕ) (n left : ℕ) (bytes : List ℕ) → AreBytes bytes → Good digest n left bytes → bytes ≡ take (start_in bytes) bytes ++ piece_bytes digest (piece_in bytes)
piece_is written long digest n left bytes are g =
    let p = piece_in bytes in
    let s = start_in bytes in
    let m : s + len_in bytes ≡ length bytes - 48 = omega (arith, g.within) in
    let size : length p.bytes ≡ len_in bytes = length-take-le (len_in bytes) (drop s bytes) (omega (arith, length-drop s bytes, g.within)) in
    let e36 : drop (length bytes - 36) bytes ≡ number_bytes 4 (len_in bytes) ++ drop (length bytes - 32) bytes =
    written 4 (length bytes - 36) bytes are (omega (arith, g.within)) ∙ ap (λ (k : ℕ). number_bytes 4 (len_in bytes) ++ drop k bytes) (omega (arith, g.within)) in
    let e40 : drop (length bytes - 40) bytes ≡ number_bytes 4 (left_in bytes) ++ drop (length bytes - 36) bytes =
    written 4 (length bytes - 40) bytes are (omega (arith, g.within)) ∙ ap (λ (k : ℕ). number_bytes 4 (left_in bytes) ++ drop k bytes) (omega (arith, g.within)) in
    let e48 : drop (length bytes - 48) bytes ≡ number_bytes 8 (before_in bytes) ++ drop (length bytes - 40) bytes =
    written 8 (length bytes - 48) bytes are (omega (arith, g.within)) ∙ ap (λ (k : ℕ). number_bytes 8 (before_in bytes) ++ drop k bytes) (omega (arith, g.within)) in
    let tail : drop (length bytes - 48) bytes ≡ number_bytes 8 p.before ++ (number_bytes 4 p.left ++ (number_bytes 4 (length p.bytes) ++ drop (length bytes - 32) bytes)) =
    e48 ∙ ap (λ (t : List ℕ). number_bytes 8 p.before ++ t) (e40 ∙ ap (λ (t : List ℕ). number_bytes 4 p.left ++ t) (e36 ∙ ap (λ (k : ℕ). number_bytes 4 k ++ drop (length bytes - 32) bytes) (sym size))) in
    let whole : drop s bytes ≡ piece_body p ++ drop (length bytes - 32) bytes =
    sym (take-append-drop (len_in bytes) (drop s bytes)) ∙ ap (λ (t : List ℕ). p.bytes ++ t) (drop-drop (len_in bytes) s bytes ∙ ap (λ (k : ℕ). drop k bytes) m ∙ tail)
    ∙ regroup p.bytes (number_bytes 8 p.before) (number_bytes 4 p.left) (number_bytes 4 (length p.bytes)) (drop (length bytes - 32) bytes) in
    let body : take (len_in bytes + 16) (drop s bytes) ≡ piece_body p = ap (take (len_in bytes + 16)) whole ∙ take_at (piece_body p) (drop (length bytes - 32) bytes) (len_in bytes + 16) (omega (arith, body_size long p, size)) in
    let seal : drop (length bytes - 32) bytes ≡ sha256 (digest ++ piece_body p) = g.seal ∙ ap (λ (t : List ℕ). sha256 (digest ++ t)) body in
    sym (take-append-drop s bytes) ∙ ap (λ (t : List ℕ). take s bytes ++ t) (whole ∙ ap (λ (t : List ℕ). piece_body p ++ t) seal)

-- ---- the walk

-- each of several pieces has some bytes, and knows how many are after it
unfoldable pub Lefts : List Piece → Type 0
Lefts [] = Unit {0}
Lefts (p ∷ ps) = (1 ≤ length p.bytes) × ((p.left ≡ length (gathered ps)) × Lefts ps)

pub record WalkSays (digest bytes rest : List ℕ) (kept pieces : List Piece) : Type 0 where
  pub parts : bytes ++ pieces_bytes digest kept ≡ rest ++ pieces_bytes digest pieces
  pub lefts : Lefts pieces

pub walk_says : AreWritten → HaveTheirWidth → (digest : List ℕ) (n count : ℕ) (bytes : List ℕ) (kept : List Piece) (rest : List ℕ) (pieces : List Piece) → AreBytes bytes → Lefts kept → Walked digest n count bytes kept rest pieces
    → WalkSays digest bytes rest kept pieces
unfolding Lefts
walk_says written long digest n zero bytes kept rest pieces are lefts w =
    record { parts = ap₂ (λ (x : List ℕ) (y : List Piece). x ++ pieces_bytes digest y) (sym w.1.0) (sym w.1.1); lefts = subst Lefts (sym w.1.1) lefts }
walk_says written long digest n (suc count) bytes kept rest pieces are lefts w =
    let g = good digest n (length (gathered kept)) bytes w.0 in
    let p = piece_in bytes in
    let front = take (start_in bytes) bytes in
    let size : length p.bytes ≡ len_in bytes = length-take-le (len_in bytes) (drop (start_in bytes) bytes) (omega (arith, length-drop (start_in bytes) bytes, g.within)) in
    let more = walk_says written long digest n count front (p ∷ kept) rest pieces (front_are (start_in bytes) bytes are) (omega (arith, size, g.low), (g.left_is, lefts)) w.1 in
    record {
      parts = ap (λ (t : List ℕ). t ++ pieces_bytes digest kept) (piece_is written long digest n (length (gathered kept)) bytes are g) ∙ append_assoc front (piece_bytes digest p) (pieces_bytes digest kept) ∙ more.parts;
      lefts = more.lefts;
    }
