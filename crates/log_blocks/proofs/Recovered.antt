-- A file that is written is read again, and nothing is wrong with it.
use Rattle.log_blocks.proofs.Common.{◌≡◌, ℕ, ◌+◌, ◌*◌, ◌%◌, ◌^◌, ◌<◌, ◌≤◌, Bool, true, false, nat_le, List, [], ◌∷◌, ◌++◌, length, length-append, append-nil, Option, Some, None, inl, inr, refl, sym, ap, subst, ◌∙◌, arith, ◌==◌, ◌&&◌, if◌then◌else◌, flat_map, AllByRecursion, bytes_eq, eq-eqb, bytes_eq-Decides, sha256, length-sha256, HaveTheirWidth, AreRead, Head, Record, bytes_of, total, Fits, BeginNoOther, order_break, broken_by, Content, content, IsContent, Short, BadMagic, BadVersion, BadHead, LengthDiffers, DigestDiffers, BadRecord, BadOrder, OutOfMemory, file_bytes2, AreNotBad, Block, block_size, cut_from, last_block, total_of, numbered, blocks_of, sealed, all_sealed, Damage, File, BadBlock, head_in, dropped_in, size_in, head_digest, blocks_in, head_fault, Piece, piece_of, pieces_bytes, gathered, IsWalk, first_wrong, IsRecordsFault, IsWalkFault, IsHeadFault, dropped_before, pieces_of, SayOneThing, AreNotRefused, HaveTheirSize, WholeAreSalvaged, FitsFields}
use Rattle.std.proofs.lemmas.Bool.{leb-true}
use Rattle.log_file.proofs.Again.{some_bytes, records_free}
use Rattle.log_file.proofs.Causes.{none_some}
use Rattle.log_file.proofs.Rows.{no_stop, one_row}
use Rattle.log_blocks.proofs.Firsts.{cut_by, total_more}
use Rattle.log_blocks.proofs.Pushed.{total_cut, total_first}
use Rattle.log_blocks.proofs.Sealed.{parts_bytes, parts_total, parts_cut, Full, TagsTell, small, full_first}
use Rattle.log_blocks.proofs.Written.{AreSound, Same, walked_whole, one_walk, piece_size}
use Rattle.log_blocks.proofs.Heads.{head_for, sealed_for, small_size, content_again, head_size, placed, no_fault_again}

-- ---- the blocks of a log as pieces

pieces_are : (digest : List ℕ) (bs : List Block) → pieces_bytes digest (pieces_of bs) ≡ all_sealed digest bs
pieces_are digest [] = refl
pieces_are digest (b ∷ bs) = ap (λ (t : List ℕ). sealed digest b ++ t) (pieces_are digest bs)

gathered_are : (number : ℕ) (parts : List (List Record)) → gathered (pieces_of (numbered number parts)) ≡ parts_bytes parts
unfolding parts_bytes
gathered_are number [] = refl
gathered_are number (rs ∷ rest) = ap (λ (t : List ℕ). flat_map bytes_of rs ++ t) (gathered_are (number + length rs) rest)

-- each part has at most as many bytes as a block
Bounded : List (List Record) → Type 0
Bounded [] = Unit {0}
Bounded (rs ∷ rest) = (total rs ≤ block_size) × Bounded rest

bounded_last : (block : List Record) → total block ≤ block_size → Bounded (last_block block)
unfolding Bounded
bounded_last [] le = tt
bounded_last (r ∷ rs) le = (le, tt)

bounded_by : (b : Bool) (block : List Record) (r : Record) (used size : ℕ) (rs : List Record) → total block ≤ block_size → (b ≡ true → Bounded (cut_from (block ++ r ∷ []) (used + size) rs)) → Bounded (cut_from (r ∷ []) size rs) → Bounded (cut_by b block r used size rs)
unfolding Bounded
bounded_by true block r used size rs le x y = x refl
bounded_by false block r used size rs le x y = (le, y)

bounded_cut : TagsTell → (format : ℕ) (rs block : List Record) (used : ℕ) → AllByRecursion (Fits format) rs → used ≡ total block → used ≤ block_size → Bounded (cut_from block used rs)
bounded_cut tell format [] block used fit is le = bounded_last block (omega (arith, is, le))
bounded_cut tell format (r ∷ rs) block used fit is le =
    let size = length (bytes_of r) in
    bounded_by (nat_le (used + size) block_size) block r used size rs (omega (arith, is, le))
    (λ fits. bounded_cut tell format rs (block ++ r ∷ []) (used + size) fit.1 (omega (arith, is, total_more block r)) (leb-true _ _ fits))
    (bounded_cut tell format rs (r ∷ []) size fit.1 (omega (arith, total_first r [])) (small tell r fit.0.fields))

small_mod : (k : ℕ) → k % 2 ^ 64 < 2 ^ 64
small_mod k = omega arith

sound : (n number : ℕ) (parts : List (List Record)) → Full parts → Bounded parts → total_of parts ≤ n → AreSound n [] (pieces_of (numbered number parts))
unfolding Full Bounded AreSound
sound n number [] full bounded le = tt
sound n number (rs ∷ rest) full bounded le =
    let behind : length (gathered (pieces_of (numbered (number + length rs) rest) ++ [])) ≡ total_of rest =
    ap (λ (t : List Piece). length (gathered t)) (append-nil (pieces_of (numbered (number + length rs) rest))) ∙ ap length (gathered_are (number + length rs) rest) ∙ parts_total rest in (
      record { low = omega (arith, full.0); high = bounded.0; left_is = sym behind; few = omega (arith, behind, le); before_fits = small_mod number },
      sound n (number + length rs) rest full.1 bounded.1 (omega (arith, le)),
    )

right_if : (a b : Bool) (o : Option ℕ) (end : ℕ) → a ≡ true → b ≡ true → (if a && b then o else Some end) ≡ o
right_if a b o end ea eb = rw (ea, eb) refl

all_right : (start number : ℕ) (parts : List (List Record)) → first_wrong start (numbered number parts) (pieces_of (numbered number parts)) ≡ None
all_right start number [] = refl
all_right start number (rs ∷ rest) =
    right_if (bytes_eq (flat_map bytes_of rs) (flat_map bytes_of rs)) (number % 2 ^ 64 == number % 2 ^ 64) _ _ ((bytes_eq-Decides (flat_map bytes_of rs) (flat_map bytes_of rs)).1 refl) (eq-eqb (number % 2 ^ 64) (number % 2 ^ 64) refl)
    ∙ all_right (start + length (flat_map bytes_of rs) + 48) (number + length rs) rest

abbrev parts_for : Content → List (List Record)
parts_for c = cut_from [] 0 c.records

abbrev pieces_for : Content → List Piece
pieces_for c = pieces_of (blocks_of c.dropped c.records)

gathered_for : (c : Content) → gathered (pieces_for c) ≡ flat_map bytes_of c.records
gathered_for c = gathered_are c.dropped (parts_for c) ∙ parts_cut c.records [] 0

walked_for : AreRead → HaveTheirWidth → TagsTell → (c : Content) → IsContent c → IsWalk (head_digest (file_bytes2 c)) (size_in (file_bytes2 c)) (blocks_in (file_bytes2 c)) [] (pieces_for c)
walked_for read long tell c is =
    let a = content_again read c is in
    let p = placed long c is in
    let d = sha256 (head_for c) in
    let n = total c.records in
    let full = full_first tell c.head.settings.format c.records is.fit in
    let bounded = bounded_cut tell c.head.settings.format c.records [] 0 is.fit refl (omega arith) in
    let true_walk : IsWalk d n (pieces_bytes d (pieces_for c)) [] (pieces_for c) = walked_whole read long d n (small_size c is) (pieces_for c) (sound n c.dropped (parts_for c) full bounded (omega (arith, total_cut c.records [] 0))) in
    subst (λ (t : List ℕ). IsWalk t (size_in (file_bytes2 c)) (blocks_in (file_bytes2 c)) [] (pieces_for c)) (sym (ap sha256 p.head_is))
    (subst (λ (k : ℕ). IsWalk d k (blocks_in (file_bytes2 c)) [] (pieces_for c)) (sym a.n_is)
    (subst (λ (t : List ℕ). IsWalk d n t [] (pieces_for c)) (pieces_are d (blocks_of c.dropped c.records) ∙ sym p.blocks) true_walk))

-- ---- records

fields_fit : (format : ℕ) (rs : List Record) → AllByRecursion (Fits format) rs → AllByRecursion FitsFields rs
fields_fit format [] fit = tt
fields_fit format (r ∷ rs) fit = (fit.0.fields, fields_fit format rs fit.1)

-- bytes are those of at most one list of records
pub one_list : BeginNoOther → (format other : ℕ) (rs ss : List Record) → AllByRecursion (Fits format) rs → AllByRecursion (Fits other) ss → flat_map bytes_of rs ≡ flat_map bytes_of ss → rs ≡ ss
one_list alone format other rs ss fr fs = one_row bytes_of FitsFields (record { some = λ r fit. some_bytes r; one = alone }) rs ss (fields_fit format rs fr) (fields_fit other ss fs)

records_again : BeginNoOther → (c : Content) → IsContent c → (e : Damage) → IsRecordsFault c.head c.dropped 136 (pieces_for c) e → e ≡ File OutOfMemory
records_again alone c is (BadBlock at) x =
    let same = one_list alone c.head.settings.format c.head.settings.format c.records x.records is.fit x.fit (sym (gathered_for c) ∙ x.parts) in
    none_some at (sym (all_right 136 c.dropped (parts_for c)) ∙ ap (λ (t : List Record). first_wrong 136 (blocks_of c.dropped t) (pieces_for c)) same ∙ x.wrong)
records_again alone c is (File (Short n)) x = absurd x
records_again alone c is (File BadMagic) x = absurd x
records_again alone c is (File (BadVersion found)) x = absurd x
records_again alone c is (File (BadHead field value)) x = absurd x
records_again alone c is (File (LengthDiffers said found)) x = absurd x
records_again alone c is (File (DigestDiffers kept found)) x = absurd x
records_again alone c is (File (BadRecord place)) x = absurd (no_stop bytes_of (Fits c.head.settings.format) (records_free alone c.head.settings.format) c.records x.before x.rest is.fit x.fit (sym (gathered_for c) ∙ x.parts) x.more x.none)
records_again alone c is (File (BadOrder place rule)) x =
    let same = one_list alone c.head.settings.format c.head.settings.format c.records x.records is.fit x.fit (sym (gathered_for c) ∙ x.parts) in
    none_some (order_break place rule) (sym is.order ∙ ap (broken_by c.head.settings c.dropped) same ∙ x.breaks)
records_again alone c is (File OutOfMemory) x = refl

at_content : (c : Content) (h : Head) (d : ℕ) (ps : List Piece) (e : Damage) → h ≡ c.head → d ≡ c.dropped → ps ≡ pieces_for c → IsRecordsFault h d 136 ps e → IsRecordsFault c.head c.dropped 136 (pieces_for c) e
at_content c h d ps e hh dd pp x =
    subst (λ (t : List Piece). IsRecordsFault c.head c.dropped 136 t e) pp (subst (λ (k : ℕ). IsRecordsFault c.head k 136 ps e) dd (subst (λ (t : Head). IsRecordsFault t d 136 ps e) hh x))

head_again : (bytes : List ℕ) (e : Damage) → head_fault bytes ≡ None → IsHeadFault bytes e → ⊥
head_again bytes (File f) none x = none_some f (sym none ∙ x)
head_again bytes (BadBlock at) none x = x

-- a file that is written is refused only when out of memory
pub refused_again : AreRead → HaveTheirWidth → AreNotBad → TagsTell → BeginNoOther → AreNotRefused
refused_again read long good tell alone c is e (inl x) = absurd (head_again (file_bytes2 c) e (no_fault_again read long good c is) x)
refused_again read long good tell alone c is e (inr f) =
    let a = content_again read c is in
    let s = one_walk _ _ _ _ _ _ _ f.walk (walked_for read long tell c is) in
    let n : size_in (file_bytes2 c) ≡ length (gathered (pieces_for c)) = a.n_is ∙ ap length (sym (gathered_for c)) in
    by s n f.wrong
  where
    by : {rest : List ℕ} {ps : List Piece} → Same rest [] ps (pieces_for c) → size_in (file_bytes2 c) ≡ length (gathered (pieces_for c)) → IsWalkFault (file_bytes2 c) rest ps e → e ≡ File OutOfMemory
    by s n (inl x) = absurd (omega (arith, x.0, ap length s.rest_is))
    by s n (inr (inl x)) = absurd (x.1 (n ∙ ap (λ (t : List Piece). length (gathered t)) (sym s.pieces_are)))
    by {ps = ps} s n (inr (inr x)) = let a = content_again read c is in records_again alone c is e (at_content c _ _ ps e a.head a.dropped_is s.pieces_are x.2)

-- two logs with one spelling are one
pub one_content : AreRead → HaveTheirWidth → TagsTell → BeginNoOther → SayOneThing
one_content read long tell alone c d ic id e =
    let a = content_again read c ic in
    let b = content_again read d id in
    let head : c.head ≡ d.head = sym a.head ∙ ap head_in e ∙ b.head in
    let dropped : c.dropped ≡ d.dropped = sym a.dropped_is ∙ ap dropped_in e ∙ b.dropped_is in
    let other : IsWalk (head_digest (file_bytes2 c)) (size_in (file_bytes2 c)) (blocks_in (file_bytes2 c)) [] (pieces_for d) =
    subst (λ (t : List ℕ). IsWalk (head_digest t) (size_in t) (blocks_in t) [] (pieces_for d)) (sym e) (walked_for read long tell d id) in
    let s = one_walk _ _ _ _ _ _ _ (walked_for read long tell c ic) other in
    let rs = one_list alone c.head.settings.format d.head.settings.format c.records d.records ic.fit id.fit (sym (gathered_for c) ∙ ap gathered s.pieces_are ∙ gathered_for d) in
    ap (λ (h : Head). content h c.dropped c.records) head ∙ ap (λ (n : ℕ). content d.head n c.records) dropped ∙ ap (content d.head d.dropped) rs

-- ---- how many bytes a file has

sealed_size : HaveTheirWidth → (digest : List ℕ) (bs : List Block) → length (all_sealed digest bs) ≡ length (gathered (pieces_of bs)) + 48 * length bs
sealed_size long digest [] = refl
sealed_size long digest (b ∷ bs) =
    omega (arith, sealed_size long digest bs, length-append (sealed digest b) (all_sealed digest bs), piece_size long digest (piece_of b), length-append (flat_map bytes_of b.records) (gathered (pieces_of bs)))

pub file_size : HaveTheirWidth → HaveTheirSize
file_size long c is =
    let h = head_for c in
    omega (
      arith,
      length-append (h ++ sha256 h) (sealed_for c),
      length-append h (sha256 h),
      length-sha256 h,
      head_size long c is,
      sealed_size long (sha256 h) (blocks_of c.dropped c.records),
      ap length (gathered_for c),
    )

-- ---- of such a file all is salvaged

first_before : (dropped number : ℕ) (parts : List (List Record)) → dropped ≡ number → number < 2 ^ 64 → dropped_before dropped (pieces_of (numbered number parts)) ≡ number
first_before dropped number [] is small = is
first_before dropped number (rs ∷ rest) is small = omega (arith, small)

pub whole_salvaged : AreRead → HaveTheirWidth → AreNotBad → TagsTell → WholeAreSalvaged
whole_salvaged read long good tell c is =
    let a = content_again read c is in
    record {
      rest = [];
      pieces = pieces_for c;
      fault = no_fault_again read long good c is;
      walk = walked_for read long tell c is;
      some = λ none. a.n_is ∙ ap length (sym (gathered_for c) ∙ ap gathered none);
      blocks = record {
        content = is;
        head_is = sym a.head;
        dropped_is = sym (first_before (dropped_in (file_bytes2 c)) c.dropped (parts_for c) a.dropped_is is.dropped);
        parts = gathered_for c;
        blocks = ap (λ (k : ℕ). first_wrong 136 (blocks_of k c.records) (pieces_for c)) (first_before (dropped_in (file_bytes2 c)) c.dropped (parts_for c) a.dropped_is is.dropped) ∙ all_right 136 c.dropped (parts_for c);
      };
    }
