-- The first block of some records.
use Rattle.log_blocks.proofs.Common.{◌≡◌, ℕ, ◌+◌, ◌<◌, ◌≤◌, Bool, true, false, List, [], ◌∷◌, ◌++◌, length, length-append, append_assoc, append-nil, drop, Some, None, refl, sym, ap, ◌∙◌, arith, slice_index, flat_map, AllByRecursion, drop-drop, drop_at, drop_all, get_or-drop, length-drop, flat_map-cons, Record, size_of, bytes_of, total, Fits, TellTheirSize, block_size, cut_from, last_block, IsNext}
use Rattle.std.proofs.lemmas.Bool.{le-leb, lt-leb}
use Rattle.log_file.proofs.Again.{some_bytes}
use Rattle.log_file.proofs.Causes.{same_some, none_some}

abbrev pub cut_by : Bool → List Record → Record → ℕ → ℕ → List Record → List (List Record)
cut_by b block r used size rs = elim b as (λ z. List (List Record)) [ true ↦ cut_from (block ++ r ∷ []) (used + size) rs | false ↦ block ∷ cut_from (r ∷ []) size rs ]

-- a record that fits is taken
cut_step : (block : List Record) (used : ℕ) (r : Record) (rs : List Record) → used + length (bytes_of r) ≤ block_size → cut_from block used (r ∷ rs) ≡ cut_from (block ++ r ∷ []) (used + length (bytes_of r)) rs
cut_step block used r rs le = ap (λ (b : Bool). cut_by b block r used (length (bytes_of r)) rs) (le-leb (used + length (bytes_of r)) block_size le)

-- and one that doesn't begins the next block
cut_stop : (block : List Record) (used : ℕ) (r : Record) (rs : List Record) → block_size < used + length (bytes_of r) → cut_from block used (r ∷ rs) ≡ block ∷ cut_from (r ∷ []) (length (bytes_of r)) rs
cut_stop block used r rs lt = ap (λ (b : Bool). cut_by b block r used (length (bytes_of r)) rs) (lt-leb (used + length (bytes_of r)) block_size lt)

pub cut_first : (r : Record) (rs : List Record) → length (bytes_of r) ≤ block_size → cut_from [] 0 (r ∷ rs) ≡ cut_from (r ∷ []) (length (bytes_of r)) rs
cut_first r rs le =
    let n : 0 + length (bytes_of r) ≡ length (bytes_of r) = omega arith in
    cut_step [] 0 r rs (omega (arith, le)) ∙ ap (λ (k : ℕ). cut_from (r ∷ []) k rs) n

-- the records up to a place are in the first block
pub record Begun (format : ℕ) (bytes : List ℕ) (rs : List Record) (at count : ℕ) : Type 0 where
  pub block : List Record
  pub rest : List Record
  pub parts : rs ≡ block ++ rest
  pub count_is : count ≡ length block
  pub size_is : at ≡ total block
  pub left : drop at bytes ≡ flat_map bytes_of rest
  pub cut : cut_from [] 0 rs ≡ cut_from block at rest
  pub fit : AllByRecursion (Fits format) rest

pub begun_none : (format : ℕ) (bytes : List ℕ) (rs : List Record) → AllByRecursion (Fits format) rs → bytes ≡ flat_map bytes_of rs → Begun format bytes rs 0 0
begun_none format bytes rs fit parts = record { block = []; rest = rs; parts = refl; count_is = refl; size_is = refl; left = parts; cut = refl; fit = fit }

none_left : (left : List Record) → flat_map bytes_of left ≡ [] → left ≡ []
none_left [] e = refl
none_left (r ∷ left) e = absurd (omega (arith, ap length (sym (flat_map-cons bytes_of r left) ∙ e), length-append (bytes_of r) (flat_map bytes_of left), some_bytes r))

pub total_more : (block : List Record) (r : Record) → total (block ++ r ∷ []) ≡ total block + length (bytes_of r)
total_more [] r = omega (arith, ap length (flat_map-cons bytes_of r []), length-append (bytes_of r) [])
total_more (b ∷ block) r =
    omega (arith, total_more block r, ap length (flat_map-cons bytes_of b block), ap length (flat_map-cons bytes_of b (block ++ r ∷ [])), length-append (bytes_of b) (flat_map bytes_of block), length-append (bytes_of b) (flat_map bytes_of (block ++ r ∷ [])))

some_block : (block : List Record) → 0 < total block → 0 < length block
some_block [] lt = absurd (omega (arith, lt))
some_block (r ∷ block) lt = omega arith

module _ (tell : TellTheirSize) (format : ℕ) (bytes : List ℕ) (rs : List Record) where
  tag_here : (at : ℕ) (r : Record) (rest : List ℕ) → Fits format r → drop at bytes ≡ bytes_of r ++ rest → size_of (slice_index bytes at) ≡ Some (length (bytes_of r))
  tag_here at r rest fits e =
      let place : at ≡ at + 0 = omega arith in
      let here : slice_index bytes at ≡ slice_index (bytes_of r ++ rest) 0 = ap (slice_index bytes) place ∙ sym (get_or-drop at bytes 0 0) ∙ ap (λ (t : List ℕ). slice_index t 0) e in
      ap size_of here ∙ tell r rest fits.fields

  more : (block left : List Record) (at next size count : ℕ) → at < length bytes → Some size ≡ size_of (slice_index bytes at) → next ≡ at + size → next ≤ block_size
      → rs ≡ block ++ left → count ≡ length block → at ≡ total block → drop at bytes ≡ flat_map bytes_of left → cut_from [] 0 rs ≡ cut_from block at left → AllByRecursion (Fits format) left → Begun format bytes rs next (count + 1)
  more block [] at next size count lt told is fits parts n t d cut fit = absurd (omega (arith, ap length d, length-drop at bytes, lt))
  more block (r ∷ left) at next size count lt told is fits parts n t d cut fit =
      let e : drop at bytes ≡ bytes_of r ++ flat_map bytes_of left = d ∙ flat_map-cons bytes_of r left in
      let same : size ≡ length (bytes_of r) = same_some size (length (bytes_of r)) (told ∙ tag_here at r (flat_map bytes_of left) fit.0 e) in
      let place : at + length (bytes_of r) ≡ next = omega (arith, is, same) in
      record {
        block = block ++ r ∷ [];
        rest = left;
        parts = parts ∙ sym (append_assoc block (r ∷ []) left);
        count_is = omega (arith, n, length-append block (r ∷ []));
        size_is = omega (arith, t, place, total_more block r);
        left = ap (λ (k : ℕ). drop k bytes) is ∙ sym (drop-drop size at bytes) ∙ ap (drop size) e ∙ drop_at (bytes_of r) (flat_map bytes_of left) size (sym same);
        cut = cut ∙ cut_step block at r left (omega (arith, place, fits)) ∙ ap (λ (k : ℕ). cut_from (block ++ r ∷ []) k left) place;
        fit = fit.1;
      }

  pub begun_more : (at next size count : ℕ) → at < length bytes → Some size ≡ size_of (slice_index bytes at) → next ≡ at + size → next ≤ block_size → Begun format bytes rs at count → Begun format bytes rs next (count + 1)
  begun_more at next size count lt told is fits b = more b.block b.rest at next size count lt told is fits b.parts b.count_is b.size_is b.left b.cut b.fit

  last : (block : List Record) → 0 < length block → last_block block ≡ block ∷ []
  last [] lt = absurd (omega (arith, lt))
  last (b ∷ block) lt = refl

  pub begun_all : (at count : ℕ) → length bytes ≤ at → Begun format bytes rs at count → IsNext format rs count at
  begun_all at count le b =
      let empty : b.rest ≡ [] = none_left b.rest (sym b.left ∙ drop_all at bytes le) in
      let whole : rs ≡ b.block = b.parts ∙ ap (λ (t : List Record). b.block ++ t) empty ∙ append-nil b.block in
      record {
        block = b.block;
        rest = b.rest;
        parts = b.parts;
        count_is = b.count_is;
        size_is = b.size_is;
        some = λ lt. omega (arith, lt, ap length whole);
        cut = λ lt. b.cut ∙ ap (cut_from b.block at) empty ∙ last b.block (omega (arith, lt, ap length whole)) ∙ ap (λ (t : List Record). b.block ∷ cut_from [] 0 t) (sym empty);
        fit = b.fit;
      }

  unknown : (left : List Record) (at : ℕ) → at < length bytes → None ≡ size_of (slice_index bytes at) → drop at bytes ≡ flat_map bytes_of left → AllByRecursion (Fits format) left → ⊥
  unknown [] at lt told d fit = omega (arith, ap length d, length-drop at bytes, lt)
  unknown (r ∷ left) at lt told d fit = none_some (length (bytes_of r)) (told ∙ tag_here at r (flat_map bytes_of left) fit.0 (d ∙ flat_map-cons bytes_of r left))

  pub begun_unknown : (at count : ℕ) → at < length bytes → None ≡ size_of (slice_index bytes at) → Begun format bytes rs at count → IsNext format rs count at
  begun_unknown at count lt told b = absurd (unknown b.rest at lt told b.left b.fit)

  over : (block left : List Record) (at size count : ℕ) → at < length bytes → Some size ≡ size_of (slice_index bytes at) → (at + size ≤ length bytes → block_size < at + size) → size ≤ block_size
      → rs ≡ block ++ left → count ≡ length block → at ≡ total block → drop at bytes ≡ flat_map bytes_of left → cut_from [] 0 rs ≡ cut_from block at left → AllByRecursion (Fits format) left → IsNext format rs count at
  over block [] at size count lt told much small parts n t d cut fit = absurd (omega (arith, ap length d, length-drop at bytes, lt))
  over block (r ∷ left) at size count lt told much small parts n t d cut fit =
      let e : drop at bytes ≡ bytes_of r ++ flat_map bytes_of left = d ∙ flat_map-cons bytes_of r left in
      let same : size ≡ length (bytes_of r) = same_some size (length (bytes_of r)) (told ∙ tag_here at r (flat_map bytes_of left) fit.0 e) in
      let within : at + size ≤ length bytes = omega (arith, lt, same, ap length e, length-drop at bytes, length-append (bytes_of r) (flat_map bytes_of left)) in
      let stop : block_size < at + length (bytes_of r) = omega (arith, much within, same) in
      record {
        block = block;
        rest = r ∷ left;
        parts = parts;
        count_is = n;
        size_is = t;
        some = λ lots. some_block block (omega (arith, stop, t, same, small));
        cut = λ lots. cut ∙ cut_stop block at r left stop ∙ ap (λ (x : List (List Record)). block ∷ x) (sym (cut_first r left (omega (arith, same, small))));
        fit = fit;
      }

  pub begun_over : (at size count : ℕ) → at < length bytes → Some size ≡ size_of (slice_index bytes at) → (at + size ≤ length bytes → block_size < at + size) → size ≤ block_size → Begun format bytes rs at count → IsNext format rs count at
  begun_over at size count lt told much small b = over b.block b.rest at size count lt told much small b.parts b.count_is b.size_is b.left b.cut b.fit
