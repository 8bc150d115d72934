-- How many bytes records have.
use Rattle.log_record.proofs.Common.{◌≡◌, ℕ, ◌+◌, ◌*◌, List, [], ◌∷◌, ◌++◌, length, drop, length-append, arith, ap, ◌∙◌, refl, Some, slice_index, flat_map, EndMark, number_bytes, HaveTheirWidth, Record, Header, FirstLoad, ScOk, ScFailed, Edge, End, size_of, tag_of, bytes_of, AreRegisters, FitsFields}
use Rattle.log_record.specs.Laws.{TellTheirSize}

tag_again : (r : Record) (rest : List ℕ) → slice_index (bytes_of r ++ rest) 0 ≡ tag_of r
tag_again (Header h n ic pc x) rest = refl
tag_again (FirstLoad h skip value) rest = refl
tag_again (ScOk h) rest = refl
tag_again (ScFailed h) rest = refl
tag_again (Edge h ic s j) rest = refl
tag_again (End h mark) rest = refl

-- all by how many bytes a number has
module _ (long : HaveTheirWidth) where
  pub length-words : (words : List ℕ) → length (flat_map (number_bytes 4) words) ≡ 4 * length words
  length-words [] = refl
  length-words (w ∷ words) = omega (arith, length-append (number_bytes 4 w) (flat_map (number_bytes 4) words), long 4 w, length-words words)

  pub length-header : (h n ic pc : ℕ) (x : List ℕ) → length (bytes_of (Header h n ic pc x)) ≡ 22 + 4 * length (drop 1 x)
  length-header h n ic pc x =
      let a = number_bytes 8 n in
      let b = number_bytes 8 ic in
      let c = number_bytes 4 pc in
      let d = flat_map (number_bytes 4) (drop 1 x) in
      omega (arith, length-append (a ++ b ++ c) d, length-append (a ++ b) c, length-append a b, long 8 n, long 8 ic, long 4 pc, length-words (drop 1 x))

  pub length-first_load : (h skip value : ℕ) → length (bytes_of (FirstLoad h skip value)) ≡ 10
  length-first_load h skip value = omega (arith, length-append (number_bytes 4 skip) (number_bytes 4 value), long 4 skip, long 4 value)

  pub length-edge : (h ic s j : ℕ) → length (bytes_of (Edge h ic s j)) ≡ 19
  length-edge h ic s j = omega (arith, length-append (number_bytes 8 ic) (s ∷ number_bytes 8 j), long 8 ic, long 8 j)

  pub length-end : (h : ℕ) (mark : EndMark) → length (bytes_of (End h mark)) ≡ 15
  length-end h mark = omega (arith, length-append (number_bytes 8 mark.ic) (mark.reason ∷ number_bytes 4 mark.value), long 8 mark.ic, long 4 mark.value)

  length-registers : (x : List ℕ) → AreRegisters x → length (drop 1 x) ≡ 31
  length-registers x are = ap (λ (y : List ℕ). length (drop 1 y)) are.zero_first ∙ are.count

  pub size_of-tag_of : (r : Record) → FitsFields r → size_of (tag_of r) ≡ Some (length (bytes_of r))
  size_of-tag_of (Header h n ic pc x) fits =
      let size : 146 ≡ length (bytes_of (Header h n ic pc x)) = omega (arith, length-header h n ic pc x, length-registers x fits.4) in
      ap (λ (k : ℕ). Some k) size
  size_of-tag_of (FirstLoad h skip value) fits = let size : 10 ≡ length (bytes_of (FirstLoad h skip value)) = omega (arith, length-first_load h skip value) in ap (λ (k : ℕ). Some k) size
  size_of-tag_of (ScOk h) fits = refl
  size_of-tag_of (ScFailed h) fits = refl
  size_of-tag_of (Edge h ic s j) fits = let size : 19 ≡ length (bytes_of (Edge h ic s j)) = omega (arith, length-edge h ic s j) in ap (λ (k : ℕ). Some k) size
  size_of-tag_of (End h mark) fits = let size : 15 ≡ length (bytes_of (End h mark)) = omega (arith, length-end h mark) in ap (λ (k : ℕ). Some k) size

  -- and the tag stands first
  pub tell_their_size : TellTheirSize
  tell_their_size r rest fits = ap size_of (tag_again r rest) ∙ size_of-tag_of r fits

  -- the same of a record that is known to be such a one
  pub header_size : (r : Record) (h n ic pc : ℕ) (x others : List ℕ) → r ≡ Header h n ic pc x → others ≡ drop 1 x → 22 + 4 * length others ≡ length (bytes_of r)
  header_size r h n ic pc x others e o = omega (arith, ap (λ (q : Record). length (bytes_of q)) e, ap (λ (y : List ℕ). length y) o, length-header h n ic pc x)

  pub first_load_size : (r : Record) (h skip value : ℕ) → r ≡ FirstLoad h skip value → 10 ≡ length (bytes_of r)
  first_load_size r h skip value e = omega (arith, ap (λ (q : Record). length (bytes_of q)) e, length-first_load h skip value)

  pub edge_size : (r : Record) (h ic s j : ℕ) → r ≡ Edge h ic s j → 19 ≡ length (bytes_of r)
  edge_size r h ic s j e = omega (arith, ap (λ (q : Record). length (bytes_of q)) e, length-edge h ic s j)

  pub end_size : (r : Record) (h : ℕ) (mark : EndMark) → r ≡ End h mark → 15 ≡ length (bytes_of r)
  end_size r h mark e = omega (arith, ap (λ (q : Record). length (bytes_of q)) e, length-end h mark)
