-- What is read is the record whose bytes are at the front.
use Rattle.log_record.proofs.Common.{◌≡◌, ℕ, zero, suc, ◌^◌, ◌<◌, ◌≤◌, ◌+◌, Bool, true, false, eqb, List, [], ◌∷◌, ◌++◌, length, length-append, length-drop, drop, refl, sym, ap, ap₂, subst, ◌∙◌, append_assoc, arith, Option, Some, None, slice_index, IsTrue, flat_map, AllByRecursion, ne_eqb, drop-drop, append_cancel_left, number_at, number_bytes, AreBytes, AreRead as NumbersAreRead, AreWritten as NumbersAreWritten, Fit, EndMark, Record, Header, FirstLoad, ScOk, ScFailed, Edge, End, size_of, bytes_of, is_mark, is_marked, FitsFields, BeginsWith, words_at, header_in, first_load_in, edge_in, end_in, record_in}
use Rattle.log_record.specs.Laws.{TellTheirSize, AreRead, AreWritten, BeginNoOther, FitLater}
use Rattle.log_record.proofs.Words.{drop-words_at, length-words_at, words_at-small, words_at-written}

-- a byte, and the bytes after it
pub drop-byte : (at : ℕ) (bytes : List ℕ) → at + 1 ≤ length bytes → drop at bytes ≡ slice_index bytes at ∷ drop (at + 1) bytes
drop-byte zero [] within = absurd (omega arith)
drop-byte zero (b ∷ bytes) within = refl
drop-byte (suc at) [] within = absurd (omega arith)
drop-byte (suc at) (b ∷ bytes) within =
    let next : suc (at + 1) ≡ suc at + 1 = omega arith in
    drop-byte at bytes (omega arith) ∙ ap (λ (k : ℕ). slice_index bytes at ∷ drop k (b ∷ bytes)) next

byte_behind : (at : ℕ) (bytes : List ℕ) (b : ℕ) (rest : List ℕ) → drop at bytes ≡ b ∷ rest → slice_index bytes at ≡ b
byte_behind zero bytes b rest e = ap (λ (t : List ℕ). slice_index t 0) e
byte_behind (suc at) [] b rest e = absurd cc
byte_behind (suc at) (c ∷ bytes) b rest e = byte_behind at bytes b rest e

byte_passed : (at next : ℕ) (bytes : List ℕ) (b : ℕ) (rest : List ℕ) → at + 1 ≡ next → drop at bytes ≡ b ∷ rest → drop next bytes ≡ rest
byte_passed at next bytes b rest n e = ap (λ (k : ℕ). drop k bytes) (sym n) ∙ sym (drop-drop 1 at bytes) ∙ ap (drop 1) e

-- ---- what the fields make has the bytes that stand there

-- some bytes begin with those of a record, and what follows begins at a place
pub record BeginsAt (bytes : List ℕ) (r : Record) (next : ℕ) : Type 0 where
  pub fits : FitsFields r
  pub parts : bytes ≡ bytes_of r ++ drop next bytes

sc_stands : (bytes : List ℕ) → 2 ≤ length bytes → bytes ≡ slice_index bytes 0 ∷ slice_index bytes 1 ∷ drop 2 bytes
sc_stands bytes within = drop-byte 0 bytes (omega arith) ∙ ap (λ (rest : List ℕ). slice_index bytes 0 ∷ rest) (drop-byte 1 bytes within)

abbrev some : {A : Type 0} → A → Option A
some x = Some x

abbrev none : (A : Type 0) → Option A
none A = None

some_is : {A : Type 0} (x y : A) → some x ≡ some y → x ≡ y
some_is x y e = cc

none_is : {A : Type 0} (x : A) → none A ≡ some x → ⊥
none_is x e = cc

apart : (a b : ℕ) → b < a → eqb a b ≡ false
apart a b lt = ne_eqb a b (λ q. omega (arith, q))

no_size : (tag : ℕ) → 7 ≤ tag → size_of tag ≡ None
no_size tag le = rw (apart tag 1 (omega arith), apart tag 2 (omega arith), apart tag 3 (omega arith), apart tag 4 (omega arith), apart tag 5 (omega arith), apart tag 6 (omega arith)) refl

module _ (written : NumbersAreWritten) (fit : Fit) where
  first_load_stands : (bytes : List ℕ) → AreBytes bytes → 10 ≤ length bytes → slice_index bytes 0 ≡ 2 → BeginsAt bytes (first_load_in bytes) 10
  unfolding first_load_in
  first_load_stands bytes are within tag =
      let skip = number_bytes 4 (number_at 4 2 bytes) in
      let value = number_bytes 4 (number_at 4 6 bytes) in
      record {
        fits = (are 1, fit 4 2 bytes are, fit 4 6 bytes are);
        parts =
            drop-byte 0 bytes (omega arith) ∙ ap₂ (λ (t : ℕ) (rest : List ℕ). t ∷ rest) tag (drop-byte 1 bytes (omega arith)
            ∙ ap (λ (rest : List ℕ). slice_index bytes 1 ∷ rest) (written 4 2 bytes are (omega arith)
            ∙ ap (λ (rest : List ℕ). skip ++ rest) (written 4 6 bytes are within)
            ∙ sym (append_assoc skip value (drop 10 bytes))));
      }

  edge_stands : (bytes : List ℕ) → AreBytes bytes → 19 ≤ length bytes → slice_index bytes 0 ≡ 5 → BeginsAt bytes (edge_in bytes) 19
  unfolding edge_in
  edge_stands bytes are within tag =
      let ic = number_bytes 8 (number_at 8 2 bytes) in
      let j = number_bytes 8 (number_at 8 11 bytes) in
      record {
        fits = (are 1, fit 8 2 bytes are, are 10, fit 8 11 bytes are);
        parts =
            drop-byte 0 bytes (omega arith) ∙ ap₂ (λ (t : ℕ) (rest : List ℕ). t ∷ rest) tag (drop-byte 1 bytes (omega arith)
            ∙ ap (λ (rest : List ℕ). slice_index bytes 1 ∷ rest) (written 8 2 bytes are (omega arith)
            ∙ ap (λ (rest : List ℕ). ic ++ rest) (drop-byte 10 bytes (omega arith) ∙ ap (λ (rest : List ℕ). slice_index bytes 10 ∷ rest) (written 8 11 bytes are within))
            ∙ sym (append_assoc ic (slice_index bytes 10 ∷ j) (drop 19 bytes))));
      }

  end_stands : (bytes : List ℕ) → AreBytes bytes → 15 ≤ length bytes → slice_index bytes 0 ≡ 6 → BeginsAt bytes (end_in bytes) 15
  unfolding end_in
  end_stands bytes are within tag =
      let ic = number_bytes 8 (number_at 8 2 bytes) in
      let value = number_bytes 4 (number_at 4 11 bytes) in
      record {
        fits = (are 1, fit 8 2 bytes are, are 10, fit 4 11 bytes are);
        parts =
            drop-byte 0 bytes (omega arith) ∙ ap₂ (λ (t : ℕ) (rest : List ℕ). t ∷ rest) tag (drop-byte 1 bytes (omega arith)
            ∙ ap (λ (rest : List ℕ). slice_index bytes 1 ∷ rest) (written 8 2 bytes are (omega arith)
            ∙ ap (λ (rest : List ℕ). ic ++ rest) (drop-byte 10 bytes (omega arith) ∙ ap (λ (rest : List ℕ). slice_index bytes 10 ∷ rest) (written 4 11 bytes are within))
            ∙ sym (append_assoc ic (slice_index bytes 10 ∷ value) (drop 15 bytes))));
      }

  header_stands : (bytes : List ℕ) → AreBytes bytes → 146 ≤ length bytes → slice_index bytes 0 ≡ 1 → BeginsAt bytes (header_in bytes) 146
  unfolding header_in
  header_stands bytes are within tag =
      let n = number_bytes 8 (number_at 8 2 bytes) in
      let ic = number_bytes 8 (number_at 8 10 bytes) in
      let pc = number_bytes 4 (number_at 4 18 bytes) in
      let words = flat_map (number_bytes 4) (words_at 31 22 bytes) in
      let rest = drop 146 bytes in
      let grouped : n ++ (ic ++ (pc ++ (words ++ rest))) ≡ (n ++ ic ++ pc ++ words) ++ rest = simp append_assoc in
      record {
        fits = (
          are 1,
          fit 8 2 bytes are,
          fit 8 10 bytes are,
          fit 4 18 bytes are,
          record { others = words_at 31 22 bytes; zero_first = refl; count = length-words_at 31 22 bytes; are_words = words_at-small written fit 31 22 bytes are },
        );
        parts =
            drop-byte 0 bytes (omega arith) ∙ ap₂ (λ (t : ℕ) (tail : List ℕ). t ∷ tail) tag (drop-byte 1 bytes (omega arith)
            ∙ ap (λ (tail : List ℕ). slice_index bytes 1 ∷ tail) (written 8 2 bytes are (omega arith)
            ∙ ap (λ (tail : List ℕ). n ++ tail) (written 8 10 bytes are (omega arith)
            ∙ ap (λ (tail : List ℕ). ic ++ tail) (written 4 18 bytes are (omega arith)
            ∙ ap (λ (tail : List ℕ). pc ++ tail) (drop-words_at written fit 31 22 146 bytes are within refl)))
            ∙ grouped));
      }

  by_tag : (tag n : ℕ) (bytes : List ℕ) → AreBytes bytes → slice_index bytes 0 ≡ tag → some n ≡ size_of tag → n ≤ length bytes → BeginsAt bytes (record_in bytes) n
  unfolding record_in
  by_tag zero n bytes are e size within = absurd (none_is n (sym size))
  by_tag (suc zero) n bytes are e size within = let k = some_is n 146 size in rw (e, k) (header_stands bytes are (omega arith) e)
  by_tag (suc (suc zero)) n bytes are e size within = let k = some_is n 10 size in rw (e, k) (first_load_stands bytes are (omega arith) e)
  by_tag (suc (suc (suc zero))) n bytes are e size within =
      let k = some_is n 2 size in
      rw (e, k) (record { fits = are 1; parts = sc_stands bytes (omega arith) ∙ ap (λ (t : ℕ). t ∷ slice_index bytes 1 ∷ drop 2 bytes) e })
  by_tag (suc (suc (suc (suc zero)))) n bytes are e size within =
      let k = some_is n 2 size in
      rw (e, k) (record { fits = are 1; parts = sc_stands bytes (omega arith) ∙ ap (λ (t : ℕ). t ∷ slice_index bytes 1 ∷ drop 2 bytes) e })
  by_tag (suc (suc (suc (suc (suc zero))))) n bytes are e size within = let k = some_is n 19 size in rw (e, k) (edge_stands bytes are (omega arith) e)
  by_tag (suc (suc (suc (suc (suc (suc zero)))))) n bytes are e size within = let k = some_is n 15 size in rw (e, k) (end_stands bytes are (omega arith) e)
  by_tag (suc (suc (suc (suc (suc (suc (suc tag))))))) n bytes are e size within =
      absurd (none_is n (sym (size ∙ no_size (suc (suc (suc (suc (suc (suc (suc tag))))))) (omega arith))))

  -- if there are bytes enough, they begin with those of the record that their fields make
  pub record_stands : AreWritten
  record_stands n bytes are size within = let s = by_tag (slice_index bytes 0) n bytes are refl (sym size) within in (s.fits, s.parts)

-- ---- what is written is read

module _ (read : NumbersAreRead) where
  header_again : (h n ic pc : ℕ) (ws bytes rest : List ℕ) → n < 2 ^ 64 → ic < 2 ^ 64 → pc < 2 ^ 32 → length ws ≡ 31 → AllByRecursion (λ w. w < 2 ^ 32) ws
      → bytes ≡ 1 ∷ h ∷ (number_bytes 8 n ++ (number_bytes 8 ic ++ (number_bytes 4 pc ++ (flat_map (number_bytes 4) ws ++ rest))))
      → header_in bytes ≡ Header h n ic pc (0 ∷ ws)
  unfolding header_in
  header_again h n ic pc ws bytes rest fn fic fpc count fws e =
      let s0 = read 8 2 n bytes _ fn (ap (drop 2) e) in
      let s1 = read 8 10 ic bytes _ fic s0.1 in
      let s2 = read 4 18 pc bytes _ fpc s1.1 in
      let words : words_at 31 22 bytes ≡ ws = ap (λ (k : ℕ). words_at k 22 bytes) (sym count) ∙ words_at-written read ws 22 bytes rest fws s2.1 in
      let hart : slice_index bytes 1 ≡ h = ap (λ (t : List ℕ). slice_index t 1) e in
      rw (s0.0, s1.0, s2.0, words, hart) refl

  -- the record whose bytes stand in front is the one that the fields make
  pub record_again : AreRead
  unfolding record_in first_load_in edge_in end_in
  record_again (Header h n ic pc x) rest f =
      let ws = f.4.others in
      let grouped : bytes_of (Header h n ic pc (0 ∷ ws)) ++ rest ≡ 1 ∷ h ∷ (number_bytes 8 n ++ (number_bytes 8 ic ++ (number_bytes 4 pc ++ (flat_map (number_bytes 4) ws ++ rest)))) = simp append_assoc in
      subst (λ (r : List ℕ). record_in (bytes_of (Header h n ic pc r) ++ rest) ≡ Header h n ic pc r) (sym f.4.zero_first)
      (header_again h n ic pc ws (bytes_of (Header h n ic pc (0 ∷ ws)) ++ rest) rest f.1 f.2 f.3 f.4.count f.4.are_words grouped)
  record_again (FirstLoad h skip value) rest f =
      let bytes = bytes_of (FirstLoad h skip value) ++ rest in
      let s0 = read 4 2 skip bytes (number_bytes 4 value ++ rest) f.1 (append_assoc (number_bytes 4 skip) (number_bytes 4 value) rest) in
      let s1 = read 4 6 value bytes rest f.2 s0.1 in
      rw (s0.0, s1.0) refl
  record_again (ScOk h) rest f = refl
  record_again (ScFailed h) rest f = refl
  record_again (Edge h ic s j) rest f =
      let bytes = bytes_of (Edge h ic s j) ++ rest in
      let s0 = read 8 2 ic bytes (s ∷ number_bytes 8 j ++ rest) f.1 (append_assoc (number_bytes 8 ic) (s ∷ number_bytes 8 j) rest) in
      let hart : slice_index bytes 10 ≡ s = byte_behind 10 bytes s (number_bytes 8 j ++ rest) s0.1 in
      let tail : drop 11 bytes ≡ number_bytes 8 j ++ rest = byte_passed 10 11 bytes s (number_bytes 8 j ++ rest) refl s0.1 in
      let s1 = read 8 11 j bytes rest f.3 tail in
      rw (s0.0, hart, s1.0) refl
  record_again (End h mark) rest f =
      let bytes = bytes_of (End h mark) ++ rest in
      let s0 = read 8 2 mark.ic bytes (mark.reason ∷ number_bytes 4 mark.value ++ rest) f.1 (append_assoc (number_bytes 8 mark.ic) (mark.reason ∷ number_bytes 4 mark.value) rest) in
      let reason : slice_index bytes 10 ≡ mark.reason = byte_behind 10 bytes mark.reason (number_bytes 4 mark.value ++ rest) s0.1 in
      let tail : drop 11 bytes ≡ number_bytes 4 mark.value ++ rest = byte_passed 10 11 bytes mark.reason (number_bytes 4 mark.value ++ rest) refl s0.1 in
      let s1 = read 4 11 mark.value bytes rest f.3 tail in
      rw (s0.0, reason, s1.0) refl

-- no record's bytes begin another's
pub one_record : AreRead → BeginNoOther
one_record read r s x y fr fs e =
    let same : r ≡ s = sym (read r x fr) ∙ ap record_in e ∙ read s y fs in
    (same, append_cancel_left (bytes_of r) x y (e ∙ ap (λ (q : Record). bytes_of q ++ y) (sym same)))

-- what the size and the fields say of bytes that begin with a record's
pub record OneStands (bytes : List ℕ) (r : Record) (n : ℕ) : Type 0 where
  pub size : n ≡ length (bytes_of r)
  pub within : n ≤ length bytes
  pub same : record_in bytes ≡ r

pub one_stands : TellTheirSize → AreRead → (bytes : List ℕ) (r : Record) (rest : List ℕ) (n : ℕ) → FitsFields r → bytes ≡ bytes_of r ++ rest → some n ≡ size_of (slice_index bytes 0) → OneStands bytes r n
one_stands tell read bytes r rest n fits e size =
    let tag = ap (λ (t : List ℕ). size_of (slice_index t 0)) e in
    let same : n ≡ length (bytes_of r) = some_is n (length (bytes_of r)) (size ∙ tag ∙ tell r rest fits) in
    record {
      size = same;
      within = omega (arith, ap length e, length-append (bytes_of r) rest);
      same = ap record_in e ∙ read r rest fits;
    }

-- as many bytes stand there as the record has
stands_size : (n : ℕ) (bytes : List ℕ) (r : Record) → n ≤ length bytes → bytes ≡ bytes_of r ++ drop n bytes → n ≡ length (bytes_of r)
stands_size n bytes r within parts = omega (arith, ap length parts, length-append (bytes_of r) (drop n bytes), length-drop n bytes)

-- ---- what `read` answers

marked : (b : Bool) → b ≡ true → IsTrue b
marked b e = grind arith

pub read_found : AreWritten → (format : ℕ) (bytes : List ℕ) (r : Record) (n : ℕ) → AreBytes bytes → some n ≡ size_of (slice_index bytes 0) → n ≤ length bytes → r ≡ record_in bytes → is_marked format r ≡ true
    → BeginsWith format bytes r n
read_found written format bytes r n are size within is mark =
    let stands = written n bytes are (sym size) within in
    let parts : bytes ≡ bytes_of r ++ drop n bytes = subst (λ (q : Record). bytes ≡ bytes_of q ++ drop n bytes) (sym is) stands.1 in
    record { fits = record { fields = subst FitsFields (sym is) stands.0; mark = marked (is_marked format r) mark }; size = stands_size n bytes r within parts; parts = parts }

pub read_only : TellTheirSize → AreRead → (bytes : List ℕ) (r : Record) (n : ℕ) (s : Record) (rest : List ℕ) → FitsFields s → bytes ≡ bytes_of s ++ rest → some n ≡ size_of (slice_index bytes 0) → r ≡ record_in bytes
    → some {A = Record × ℕ} (r, n) ≡ some {A = Record × ℕ} (s, length (bytes_of s))
read_only tell read bytes r n s rest fits q size is =
    let one = one_stands tell read bytes s rest n fits q size in
    let same : r ≡ s = is ∙ one.same in
    let size_is = one.size in
    cc

pub read_none : {A : Type 0} → TellTheirSize → AreRead → (bytes : List ℕ) (s : Record) (rest : List ℕ) (n : ℕ) → FitsFields s → bytes ≡ bytes_of s ++ rest → some n ≡ size_of (slice_index bytes 0) → (OneStands bytes s n → ⊥) → A
read_none tell read bytes s rest n fits q size against = absurd (against (one_stands tell read bytes s rest n fits q size))

pub unmarked : (format : ℕ) (r : Record) → IsTrue (is_marked format r) → is_marked format r ≡ false → ⊥
unmarked format r is isnt = grind arith

-- ---- what a log of version 1 has, one of version 2 has too

later_mark : (mark : EndMark) → IsTrue (is_mark 1 mark) → IsTrue (is_mark 2 mark)
later_mark mark is = grind arith

later_marked : (r : Record) → IsTrue (is_marked 1 r) → IsTrue (is_marked 2 r)
later_marked (Header h n ic pc x) is = is
later_marked (FirstLoad h skip value) is = is
later_marked (ScOk h) is = is
later_marked (ScFailed h) is = is
later_marked (Edge h ic s j) is = is
later_marked (End h mark) is = later_mark mark is

pub fit_later : FitLater
fit_later r fits = record { fields = fits.fields; mark = later_marked r fits.mark }
