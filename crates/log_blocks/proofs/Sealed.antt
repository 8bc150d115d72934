-- The pieces of a file that is read are the sealed blocks of its log.
use Rattle.log_blocks.proofs.Common.{◌≡◌, ℕ, ◌+◌, ◌%◌, ◌^◌, ◌<◌, ◌≤◌, Bool, true, false, nat_le, List, [], ◌∷◌, ◌++◌, length, length-append, append_assoc, append-nil, Option, Some, None, refl, sym, ap, ap₂, subst, ◌∙◌, arith, ◌==◌, if◌then◌else◌, flat_map, AllByRecursion, bytes_eq, eqb-true, flat_map-append, get_or-drop, bytes_eq-Decides, sha256, AreBytes, HaveTheirWidth, AreWritten, Head, Record, Header, FirstLoad, ScOk, ScFailed, Edge, End, bytes_of, total, tag_of, size_of, FitsFields, Fits, Content, head_bytes2, file_bytes2, Block, block_size, cut_from, last_block, total_of, numbered, blocks_of, all_sealed, head_in, dropped_in, size_in, head_digest, blocks_in, Piece, piece, piece_bytes, pieces_bytes, gathered, is_block, piece_end, first_wrong, IsRead, and_parts}
use Rattle.log_blocks.proofs.Bytes.{same_rest}
use Rattle.log_blocks.proofs.Tested.{no_fault}
use Rattle.log_blocks.proofs.Layouts.{head_written, file_parts}
use Rattle.log_blocks.proofs.Goods.{Lefts, walk_says}
use Rattle.log_blocks.proofs.Pushed.{total_first}
use Rattle.log_blocks.proofs.Compared.{block_at}
use Rattle.log_file.proofs.Again.{some_bytes}
use Rattle.log_file.proofs.Causes.{same_some}
use Rattle.log_blocks.proofs.Firsts.{cut_first}

-- the bytes of the records of several parts
unfoldable pub parts_bytes : List (List Record) → List ℕ
parts_bytes [] = []
parts_bytes (rs ∷ rest) = flat_map bytes_of rs ++ parts_bytes rest

pub parts_total : (parts : List (List Record)) → length (parts_bytes parts) ≡ total_of parts
unfolding parts_bytes
parts_total [] = refl
parts_total (rs ∷ rest) = omega (arith, parts_total rest, length-append (flat_map bytes_of rs) (parts_bytes rest))

parts_last : (block : List Record) → parts_bytes (last_block block) ≡ flat_map bytes_of block
unfolding parts_bytes
parts_last [] = refl
parts_last (r ∷ rs) = append-nil (flat_map bytes_of (r ∷ rs))

parts_by : (b : Bool) (block rs : List Record) (r : Record) (x y : List (List Record)) → parts_bytes x ≡ flat_map bytes_of ((block ++ r ∷ []) ++ rs) → parts_bytes y ≡ flat_map bytes_of (r ∷ rs)
    → parts_bytes (elim b as (λ z. List (List Record)) [ true ↦ x | false ↦ block ∷ y ]) ≡ flat_map bytes_of (block ++ r ∷ rs)
unfolding parts_bytes
parts_by true block rs r x y e f = e ∙ ap (flat_map bytes_of) (append_assoc block (r ∷ []) rs)
parts_by false block rs r x y e f = ap (λ (t : List ℕ). flat_map bytes_of block ++ t) f ∙ sym (flat_map-append bytes_of block (r ∷ rs))

-- cut records have the bytes that they had
pub parts_cut : (rs block : List Record) (used : ℕ) → parts_bytes (cut_from block used rs) ≡ flat_map bytes_of (block ++ rs)
parts_cut [] block used = parts_last block ∙ ap (flat_map bytes_of) (sym (append-nil block))
parts_cut (r ∷ rs) block used =
    let size = length (bytes_of r) in
    parts_by (nat_le (used + size) block_size) block rs r _ _ (parts_cut rs (block ++ r ∷ []) (used + size)) (parts_cut rs (r ∷ []) size)

abbrev no_place : Option ℕ
no_place = None

rest_right : (b : Bool) (o : Option ℕ) (end : ℕ) → (if b then o else Some end) ≡ no_place → (b ≡ true) × (o ≡ no_place)
rest_right true o end e = (refl, e)
rest_right false o end e = absurd cc

none_there : (end : ℕ) → ◌≡◌ {A = Option ℕ} (Some end) None → ⊥
none_there end e = cc

-- each part has some bytes
unfoldable pub Full : List (List Record) → Type 0
Full [] = Unit {0}
Full (rs ∷ rest) = (0 < total rs) × Full rest

some_total : (block : List Record) → 0 < length block → 0 < total block
some_total [] lt = absurd (omega (arith, lt))
some_total (r ∷ block) lt = omega (arith, some_bytes r, total_first r block)

full_last : (block : List Record) → Full (last_block block)
unfolding Full
full_last [] = tt
full_last (r ∷ rs) = (some_total (r ∷ rs) (omega arith), tt)

full_by : (b : Bool) (block : List Record) (x y : List (List Record)) → 0 < length block → Full x → Full y → Full (elim b as (λ z. List (List Record)) [ true ↦ x | false ↦ block ∷ y ])
unfolding Full
full_by true block x y lt fx fy = fx
full_by false block x y lt fx fy = (some_total block lt, fy)

full_cut : (rs block : List Record) (used : ℕ) → 0 < length block → Full (cut_from block used rs)
full_cut [] block used lt = full_last block
full_cut (r ∷ rs) block used lt =
    let size = length (bytes_of r) in
    full_by (nat_le (used + size) block_size) block _ _ lt (full_cut rs (block ++ r ∷ []) (used + size) (omega (arith, length-append block (r ∷ [])))) (full_cut rs (r ∷ []) size (omega arith))

-- the law that a record's tag tells its size
abbrev pub TagsTell : Type 0
TagsTell = (r : Record) → FitsFields r → size_of (tag_of r) ≡ Some (length (bytes_of r))

-- the longest record is a Header
pub short : TagsTell → (r : Record) → FitsFields r → length (bytes_of r) ≤ 146
short tell (Header h n ic pc x) f = omega (arith, same_some 146 (length (bytes_of (Header h n ic pc x))) (tell (Header h n ic pc x) f))
short tell (FirstLoad h skip value) f = omega (arith, same_some 10 (length (bytes_of (FirstLoad h skip value))) (tell (FirstLoad h skip value) f))
short tell (ScOk h) f = omega (arith, same_some 2 (length (bytes_of (ScOk h))) (tell (ScOk h) f))
short tell (ScFailed h) f = omega (arith, same_some 2 (length (bytes_of (ScFailed h))) (tell (ScFailed h) f))
short tell (Edge h ic s j) f = omega (arith, same_some 19 (length (bytes_of (Edge h ic s j))) (tell (Edge h ic s j) f))
short tell (End h mark) f = omega (arith, same_some 15 (length (bytes_of (End h mark))) (tell (End h mark) f))

pub small : TagsTell → (r : Record) → FitsFields r → length (bytes_of r) ≤ block_size
small tell r f = omega (arith, short tell r f)

pub full_first : TagsTell → (format : ℕ) (rs : List Record) → AllByRecursion (Fits format) rs → Full (cut_from [] 0 rs)
unfolding Full
full_first tell format [] fit = tt
full_first tell format (r ∷ rs) fit = subst Full (sym (cut_first r rs (small tell r fit.0.fields))) (full_cut rs (r ∷ []) (length (bytes_of r)) (omega arith))

piece_again : (p : Piece) (bytes : List ℕ) (before left : ℕ) → p.bytes ≡ bytes → p.before ≡ before → p.left ≡ left → p ≡ piece bytes before left
piece_again p bytes before left eb en el = ap (λ (t : List ℕ). piece t p.before p.left) eb ∙ ap₂ (λ (x y : ℕ). piece bytes x y) en el

-- pieces that are the blocks of these parts are their bytes
pub sealed_is : (digest : List ℕ) (start number : ℕ) (ps : List Piece) (parts : List (List Record)) → Lefts ps → gathered ps ≡ parts_bytes parts → Full parts → first_wrong start (numbered number parts) ps ≡ None
    → pieces_bytes digest ps ≡ all_sealed digest (numbered number parts)
unfolding parts_bytes Lefts Full
sealed_is digest start number [] [] lefts same full right = refl
sealed_is digest start number [] (rs ∷ rest) lefts same full right = absurd (omega (arith, full.0, ap length same, length-append (flat_map bytes_of rs) (parts_bytes rest)))
sealed_is digest start number (p ∷ ps) [] lefts same full right = absurd (none_there _ right)
sealed_is digest start number (p ∷ ps) (rs ∷ rest) lefts same full right =
    let t = rest_right (is_block (block_at rs number (total_of rest)) p) (first_wrong (piece_end start p) (numbered (number + length rs) rest) ps) (piece_end start p) right in
    let u = and_parts (bytes_eq p.bytes (flat_map bytes_of rs)) (p.before == number % 2 ^ 64) t.0 in
    let bytes_are : p.bytes ≡ flat_map bytes_of rs = (bytes_eq-Decides p.bytes (flat_map bytes_of rs)).0 u.0 in
    let later : gathered ps ≡ parts_bytes rest = same_rest p.bytes (flat_map bytes_of rs) (gathered ps) (parts_bytes rest) same (ap length (sym bytes_are)) in
    let left : p.left ≡ total_of rest = lefts.1.0 ∙ ap length later ∙ parts_total rest in
    let here : p ≡ piece (flat_map bytes_of rs) (number % 2 ^ 64) (total_of rest) = piece_again p (flat_map bytes_of rs) (number % 2 ^ 64) (total_of rest) bytes_are (eqb-true _ _ u.1) left in
    ap₂ (λ (x : Piece) (y : List ℕ). piece_bytes digest x ++ y) here (sealed_is digest (piece_end start p) (number + length rs) ps rest lefts.1.1 later full.1 t.1)

assemble : (a b d blocks : List ℕ) (bs : List Block) → a ≡ b → d ≡ sha256 b → blocks ≡ all_sealed d bs → a ++ d ++ blocks ≡ b ++ sha256 b ++ all_sealed (sha256 b) bs
assemble a b d blocks bs ab db is = ap₂ (λ (x y : List ℕ). x ++ y ++ blocks) ab db ∙ ap (λ (t : List ℕ). b ++ sha256 b ++ t) (is ∙ ap (λ (t : List ℕ). all_sealed t bs) db)

head_again : (h k : Head) (d e n m : ℕ) → h ≡ k → d ≡ e → n ≡ m → head_bytes2 h d n ≡ head_bytes2 k e m
head_again h k d e n m hk de nm = ap (λ (x : Head). head_bytes2 x d n) hk ∙ ap₂ (λ (x y : ℕ). head_bytes2 k x y) de nm

-- a file that is read is the spelling of its log
pub read_is_spelled : AreWritten → HaveTheirWidth → TagsTell → (bytes : List ℕ) → AreBytes bytes → (c : Content) → IsRead bytes c → bytes ≡ file_bytes2 c
unfolding parts_bytes Lefts
read_is_spelled written long tell bytes are c r =
    let p = no_fault bytes r.fault in
    let digest = head_digest bytes in
    let are_blocks : AreBytes (blocks_in bytes) = λ i. rw get_or-drop (are (136 + i)) in
    let w = walk_says written long digest (size_in bytes) r.walk.count (blocks_in bytes) [] [] r.pieces are_blocks tt r.walk.walked in
    let parts = cut_from [] 0 c.records in
    let pieces : blocks_in bytes ≡ pieces_bytes digest r.pieces = sym (append-nil (blocks_in bytes)) ∙ w.parts in
    let cut = sealed_is digest 136 c.dropped r.pieces parts w.lefts (r.blocks.parts ∙ sym (parts_cut c.records [] 0)) (full_first tell c.head.settings.format c.records r.blocks.content.fit)
    (ap (λ (k : ℕ). first_wrong 136 (blocks_of k c.records) r.pieces) r.blocks.dropped_is ∙ r.blocks.blocks) in
    let head : head_bytes2 (head_in bytes) (dropped_in bytes) (size_in bytes) ≡ head_bytes2 c.head c.dropped (total c.records) =
    head_again (head_in bytes) c.head (dropped_in bytes) c.dropped (size_in bytes) (total c.records) (sym r.blocks.head_is) (sym r.blocks.dropped_is) (r.size_is ∙ ap length r.blocks.parts) in
    file_parts written bytes are p
    ∙ assemble (head_bytes2 (head_in bytes) (dropped_in bytes) (size_in bytes)) (head_bytes2 c.head c.dropped (total c.records)) digest (blocks_in bytes) (blocks_of c.dropped c.records) head
    (ap sha256 (head_written written bytes are p ∙ head)) (pieces ∙ cut)
