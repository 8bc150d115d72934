-- Bytes of whole records are cut into these records.
use Rattle.log_ring.proofs.Common.{◌≡◌, ◌∙◌, ◌≤◌, ◌<◌, ℕ, zero, suc, List, [], ◌∷◌, ◌++◌, length, drop, refl, sym, ap, ap₂, subst, arith, length-append, append-nil, append_assoc, Option, Some, None, unwrap_or, slice_index, slice_get, Bool, IsTrue, ◌==◌, ◌↔◌, flat_map, AllByRecursion, drop_at, Record, Header, FirstLoad, ScOk, ScFailed, Edge, End, size_of, bytes_of, Fits, TellTheirSize, AreRead, cut, records_in, IsWhole, Oldest}
use Rattle.log_record.specs.Reading.{record_in}

-- no record has fewer than two bytes
pub two_bytes : (r : Record) → 2 ≤ length (bytes_of r)
two_bytes (Header h n ic pc x) = omega arith
two_bytes (FirstLoad h skip value) = omega arith
two_bytes (ScOk h) = omega arith
two_bytes (ScFailed h) = omega arith
two_bytes (Edge h ic s j) = omega arith
two_bytes (End h mark) = omega arith

cut-suc : (count : ℕ) (bytes : List ℕ) → 0 < length bytes → cut (suc count) bytes ≡ record_in bytes ∷ cut count (drop (unwrap_or (size_of (slice_index bytes 0)) 0) bytes)
unfolding cut
cut-suc count [] some = absurd (omega arith)
cut-suc count (tag ∷ bytes) some = refl

cut-nil : (count : ℕ) → cut count [] ≡ []
unfolding cut
cut-nil zero = refl
cut-nil (suc count) = refl

-- the first of whole records
pub record First (bytes : List ℕ) : Type 0 where
  pub first : Record
  pub size : size_of (slice_index bytes 0) ≡ Some (length (bytes_of first))
  pub within : length (bytes_of first) ≤ length bytes
  pub records : records_in bytes ≡ first ∷ records_in (drop (length (bytes_of first)) bytes)
  pub whole : IsWhole (drop (length (bytes_of first)) bytes)

abbrev some : {A : Type 0} → A → Option A
some x = Some x

abbrev none : (A : Type 0) → Option A
none A = None

first_byte : (bytes : List ℕ) (tag : ℕ) → some tag ≡ slice_get bytes 0 → slice_index bytes 0 ≡ tag
first_byte [] tag e = absurd cc
first_byte (b ∷ bytes) tag e = cc

-- by the laws of records: the first byte of a record tells how many they are, and its fields make the record
module _ (tell : TellTheirSize) (read : AreRead) where
  cut-bytes : (count : ℕ) (rs : List Record) → AllByRecursion (Fits 2) rs → length (flat_map bytes_of rs) ≤ count → cut count (flat_map bytes_of rs) ≡ rs
  cut-bytes count [] fit enough = cut-nil count
  cut-bytes zero (r ∷ rs) fit enough = absurd (omega (arith, two_bytes r, length-append (bytes_of r) (flat_map bytes_of rs)))
  cut-bytes (suc count) (r ∷ rs) fit enough =
      let bytes = bytes_of r ++ flat_map bytes_of rs in
      let len = length-append (bytes_of r) (flat_map bytes_of rs) in
      let two = two_bytes r in
      let next : drop (unwrap_or (size_of (slice_index bytes 0)) 0) bytes ≡ flat_map bytes_of rs =
      ap (λ (o : Option ℕ). drop (unwrap_or o 0) bytes) (tell r (flat_map bytes_of rs) fit.0.fields) ∙ drop_at (bytes_of r) (flat_map bytes_of rs) (length (bytes_of r)) refl in
      cut-suc count bytes (omega arith)
      ∙ ap₂ (λ (x : Record) (xs : List Record). x ∷ xs) (read r (flat_map bytes_of rs) fit.0.fields) (ap (cut count) next ∙ cut-bytes count rs fit.1 (omega arith))

  pub records_in-bytes : (bytes : List ℕ) (rs : List Record) → AllByRecursion (Fits 2) rs → flat_map bytes_of rs ≡ bytes → records_in bytes ≡ rs
  records_in-bytes bytes rs fit e = ap records_in (sym e) ∙ cut-bytes (length (flat_map bytes_of rs)) rs fit (omega arith)

  pub whole_of : (bytes : List ℕ) (rs : List Record) → AllByRecursion (Fits 2) rs → flat_map bytes_of rs ≡ bytes → IsWhole bytes
  whole_of bytes rs fit e =
      let same = records_in-bytes bytes rs fit e in
      record { fit = subst (AllByRecursion (Fits 2)) (sym same) fit; joined = ap (flat_map bytes_of) same ∙ e }

  first_of : (bytes : List ℕ) (rs : List Record) → 0 < length bytes → records_in bytes ≡ rs → AllByRecursion (Fits 2) rs → flat_map bytes_of rs ≡ bytes → First bytes
  first_of bytes [] some same fit e = absurd (omega (arith, ap length e))
  first_of bytes (r ∷ rs) some same fit e =
      let parts : bytes ≡ bytes_of r ++ flat_map bytes_of rs = sym e in
      let behind : drop (length (bytes_of r)) bytes ≡ flat_map bytes_of rs = ap (drop (length (bytes_of r))) parts ∙ drop_at (bytes_of r) (flat_map bytes_of rs) (length (bytes_of r)) refl in
      record {
        first = r;
        size = ap (λ (t : List ℕ). size_of (slice_index t 0)) parts ∙ tell r (flat_map bytes_of rs) fit.0.fields;
        within = omega (arith, ap length parts, length-append (bytes_of r) (flat_map bytes_of rs));
        records = same ∙ ap (λ (xs : List Record). r ∷ xs) (sym (records_in-bytes (drop (length (bytes_of r)) bytes) rs fit.1 (sym behind)));
        whole = whole_of (drop (length (bytes_of r)) bytes) rs fit.1 (sym behind);
      }

  pub first_in : (bytes : List ℕ) → 0 < length bytes → IsWhole bytes → First bytes
  first_in bytes some whole = first_of bytes (records_in bytes) some refl whole.fit whole.joined

  -- the first tag is known, and tells where the next record begins
  pub tag_known : {A : Type 0} (bytes : List ℕ) (tag : ℕ) → 0 < length bytes → IsWhole bytes → slice_get bytes 0 ≡ some tag → none ℕ ≡ size_of tag → A
  tag_known bytes tag long whole e unknown =
      let f = first_in bytes long whole in
      let known : some (length (bytes_of f.first)) ≡ none ℕ = sym f.size ∙ ap size_of (first_byte bytes tag (sym e)) ∙ sym unknown in
      absurd cc

  pub oldest_is : (bytes : List ℕ) (tag size : ℕ) → 0 < length bytes → IsWhole bytes → slice_get bytes 0 ≡ some tag → some size ≡ size_of tag → Oldest bytes size
  oldest_is bytes tag size long whole e told =
      let f = first_in bytes long whole in
      let same : some (length (bytes_of f.first)) ≡ some size = sym f.size ∙ ap size_of (first_byte bytes tag (sym e)) ∙ sym told in
      let n : length (bytes_of f.first) ≡ size = cc in
      let two = two_bytes f.first in
      record {
        first = f.first;
        within = omega (arith, f.within);
        some = omega arith;
        records = f.records ∙ ap (λ (k : ℕ). f.first ∷ records_in (drop k bytes)) n;
        whole = subst (λ (k : ℕ). IsWhole (drop k bytes)) n f.whole;
      }

pub records_in-nil : records_in [] ≡ []
records_in-nil = cut-nil 0

pub whole_nil : IsWhole []
whole_nil = record { fit = subst (AllByRecursion (Fits 2)) (sym records_in-nil) tt; joined = ap (flat_map bytes_of) records_in-nil }

-- no more records than half of the bytes
pub total-records_in : (bytes : List ℕ) → IsWhole bytes → length (flat_map bytes_of (records_in bytes)) ≡ length bytes
total-records_in bytes whole = ap length whole.joined

no_bytes : (bytes : List ℕ) → length bytes ≡ 0 → records_in bytes ≡ []
no_bytes [] e = records_in-nil
no_bytes (b ∷ bytes) e = absurd (omega arith)

-- no bytes are no records, and no records no bytes
pub empty_when : (bytes : List ℕ) (rs : List Record) (b : Bool) → IsWhole bytes → records_in bytes ≡ rs → b ≡ (length bytes == 0) → IsTrue b ↔ (rs ≡ [])
empty_when bytes rs b whole view e =
    let tell : IsTrue b → length bytes ≡ 0 = λ t. grind arith in
    let back : length bytes ≡ 0 → IsTrue b = λ n. grind arith in
    (λ t. sym view ∙ no_bytes bytes (tell t), λ n. back (sym (total-records_in bytes whole) ∙ ap (λ (xs : List Record). length (flat_map bytes_of xs)) (view ∙ n)))

-- ---- one record more

all-push : (rs : List Record) (r : Record) → AllByRecursion (Fits 2) rs → Fits 2 r → AllByRecursion (Fits 2) (rs ++ r ∷ [])
all-push [] r fit one = (one, tt)
all-push (x ∷ rs) r fit one = (fit.0, all-push rs r fit.1 one)

flat_map-push : (rs : List Record) (r : Record) → flat_map bytes_of (rs ++ r ∷ []) ≡ flat_map bytes_of rs ++ bytes_of r
flat_map-push [] r = append-nil (bytes_of r)
flat_map-push (x ∷ rs) r = ap (λ (t : List ℕ). bytes_of x ++ t) (flat_map-push rs r) ∙ sym (append_assoc (bytes_of x) (flat_map bytes_of rs) (bytes_of r))

-- bytes of whole records with one record more
pub pushed_whole : TellTheirSize → AreRead → (xs ys : List ℕ) (r : Record) → IsWhole xs → Fits 2 r → ys ≡ xs ++ bytes_of r → (IsWhole ys) × (records_in ys ≡ records_in xs ++ r ∷ [])
pushed_whole tell read xs ys r whole fits e =
    let fit = all-push (records_in xs) r whole.fit fits in
    let joined : flat_map bytes_of (records_in xs ++ r ∷ []) ≡ ys = flat_map-push (records_in xs) r ∙ ap (λ (t : List ℕ). t ++ bytes_of r) whole.joined ∙ sym e in
    (whole_of tell read ys (records_in xs ++ r ∷ []) fit joined, records_in-bytes tell read ys (records_in xs ++ r ∷ []) fit joined)
