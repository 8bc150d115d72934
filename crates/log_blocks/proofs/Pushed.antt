-- Writing blocks.
use Rattle.log_blocks.proofs.Common.{◌≡◌, ℕ, ◌+◌, ◌%◌, ◌^◌, ◌<◌, Bool, true, false, nat_le, List, [], ◌∷◌, ◌++◌, length, take, drop, length-append, append_assoc, append-nil, refl, sym, ap, ap₂, ◌∙◌, arith, flat_map, AllByRecursion, flat_map-append, take_at, drop_at, flat_map-cons, Record, bytes_of, total, Fits, block_size, cut_from, last_block, total_of, numbered, blocks_of, sealed, all_sealed, Piece, piece, piece_bytes, IsNext}
use Rattle.log_blocks.proofs.Compared.{add_mod, block_at, some_records}
use Rattle.log_file.proofs.Again.{some_bytes}
use Rattle.log_blocks.proofs.Firsts.{total_more}

-- the parts into which records are cut have as many bytes as the records
total_last : (block : List Record) → total_of (last_block block) ≡ total block
total_last [] = refl
total_last (r ∷ rs) = omega arith

pub total_first : (r : Record) (rs : List Record) → total (r ∷ rs) ≡ length (bytes_of r) + total rs
total_first r rs = ap length (flat_map-cons bytes_of r rs) ∙ length-append (bytes_of r) (flat_map bytes_of rs)

total_one : (r : Record) → total (r ∷ []) ≡ length (bytes_of r)
total_one r = omega (arith, total_first r [])

total_by : (b : Bool) (block rs : List Record) (r : Record) (x y : List (List Record)) → total_of x ≡ total (block ++ r ∷ []) + total rs → total_of y ≡ total (r ∷ []) + total rs
    → total_of (elim b as (λ z. List (List Record)) [ true ↦ x | false ↦ block ∷ y ]) ≡ total block + total (r ∷ rs)
total_by true block rs r x y e f = omega (arith, e, total_more block r, total_first r rs)
total_by false block rs r x y e f = omega (arith, f, total_one r, total_first r rs)

pub total_cut : (rs block : List Record) (used : ℕ) → total_of (cut_from block used rs) ≡ total block + total rs
total_cut [] block used = omega (arith, total_last block)
total_cut (r ∷ rs) block used =
    let size = length (bytes_of r) in
    total_by (nat_le (used + size) block_size) block rs r _ _ (total_cut rs (block ++ r ∷ []) (used + size)) (total_cut rs (r ∷ []) size)

-- what is written so far, with which the blocks of the rest are all
pub record PushedTo (format : ℕ) (digest : List ℕ) (rs : List Record) (dropped : ℕ) (start out rest : List ℕ) (before : ℕ) : Type 0 where
  pub records : List Record
  pub number : ℕ
  pub fit : AllByRecursion (Fits format) records
  pub rest_is : rest ≡ flat_map bytes_of records
  pub before_is : before ≡ number % 2 ^ 64
  pub goes : start ++ all_sealed digest (blocks_of dropped rs) ≡ out ++ all_sealed digest (numbered number (cut_from [] 0 records))

pub pushed_none : (format : ℕ) (digest : List ℕ) (rs : List Record) (dropped : ℕ) (start rest : List ℕ) → dropped < 2 ^ 64 → AllByRecursion (Fits format) rs → rest ≡ flat_map bytes_of rs → PushedTo format digest rs dropped start start rest dropped
pushed_none format digest rs dropped start rest small fit rest_is = record { records = rs; number = dropped; fit = fit; rest_is = rest_is; before_is = omega (arith, small); goes = refl }

empty_rest : (records : List Record) (rest : List ℕ) → rest ≡ [] → rest ≡ flat_map bytes_of records → records ≡ []
empty_rest [] rest e f = refl
empty_rest (r ∷ records) rest e f = absurd (omega (arith, some_bytes r, ap length (sym e ∙ f), total_first r records))

pub pushed_all : (format : ℕ) (digest : List ℕ) (rs : List Record) (dropped : ℕ) (start out rest : List ℕ) (before : ℕ) → rest ≡ [] → PushedTo format digest rs dropped start out rest before → out ≡ start ++ all_sealed digest (blocks_of dropped rs)
pushed_all format digest rs dropped start out rest before empty p =
    sym (p.goes ∙ ap (λ (t : List Record). out ++ all_sealed digest (numbered p.number (cut_from [] 0 t))) (empty_rest p.records rest empty p.rest_is) ∙ append-nil out)

none_first : (block : List Record) → 0 < length block → total block ≡ 0 → ⊥
none_first [] lt none = omega (arith, lt)
none_first (r ∷ block) lt none = omega (arith, some_bytes r, none, total_first r block)

pub pushed_stuck : (format : ℕ) (digest : List ℕ) (rs : List Record) (dropped : ℕ) (start out rest : List ℕ) (before count size : ℕ) → 0 < length rest → size ≡ 0 → ((f : ℕ) (x : List Record) → AllByRecursion (Fits f) x → rest ≡ flat_map bytes_of x → IsNext f x count size)
    → PushedTo format digest rs dropped start out rest before → ⊥
pushed_stuck format digest rs dropped start out rest before count size lt none next p =
    let n = next format p.records p.fit p.rest_is in
    none_first n.block (n.some (some_records p.records rest p.rest_is lt)) (omega (arith, none, n.size_is))

pub pushed_more : (format : ℕ) (digest : List ℕ) (rs : List Record) (dropped : ℕ) (start out more block behind rest : List ℕ) (before after count size : ℕ) → 0 < length rest
    → ((f : ℕ) (x : List Record) → AllByRecursion (Fits f) x → rest ≡ flat_map bytes_of x → IsNext f x count size)
    → block ≡ take size rest → behind ≡ drop size rest → more ≡ out ++ piece_bytes digest (piece block before (length behind)) → after ≡ (before + count) % 2 ^ 64
    → PushedTo format digest rs dropped start out rest before → PushedTo format digest rs dropped start more behind after
pushed_more format digest rs dropped start out more block behind rest before after count size lt next block_is behind_is more_is sum p =
    let n = next format p.records p.fit p.rest_is in
    let parts : rest ≡ flat_map bytes_of n.block ++ flat_map bytes_of n.rest = p.rest_is ∙ ap (flat_map bytes_of) n.parts ∙ flat_map-append bytes_of n.block n.rest in
    let here : block ≡ flat_map bytes_of n.block = block_is ∙ ap (take size) parts ∙ take_at (flat_map bytes_of n.block) (flat_map bytes_of n.rest) size (sym n.size_is) in
    let later : behind ≡ flat_map bytes_of n.rest = behind_is ∙ ap (drop size) parts ∙ drop_at (flat_map bytes_of n.block) (flat_map bytes_of n.rest) size (sym n.size_is) in
    let left : length behind ≡ total_of (cut_from [] 0 n.rest) = omega (arith, ap length later, total_cut n.rest [] 0) in
    let b = block_at n.block p.number (total_of (cut_from [] 0 n.rest)) in
    let same : piece block before (length behind) ≡ piece (flat_map bytes_of n.block) (p.number % 2 ^ 64) (total_of (cut_from [] 0 n.rest)) =
    ap (λ (x : List ℕ). piece x before (length behind)) here ∙ ap₂ (λ (x y : ℕ). piece (flat_map bytes_of n.block) x y) p.before_is left in
    let written : more ≡ out ++ sealed digest b = more_is ∙ ap (λ (x : Piece). out ++ piece_bytes digest x) same in
    let rest_of = all_sealed digest (numbered (p.number + length n.block) (cut_from [] 0 n.rest)) in
    record {
      records = n.rest;
      number = p.number + length n.block;
      fit = n.fit;
      rest_is = later;
      before_is = add_mod before after p.number (length n.block) p.before_is (sum ∙ ap (λ (k : ℕ). (before + k) % 2 ^ 64) n.count_is);
      goes = p.goes ∙ ap (λ (x : List (List Record)). out ++ all_sealed digest (numbered p.number x)) (n.cut (some_records p.records rest p.rest_is lt)) ∙ sym (append_assoc out (sealed digest b) rest_of) ∙ ap (λ (x : List ℕ). x ++ rest_of) (sym written);
    }
