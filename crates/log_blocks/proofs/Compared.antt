-- Comparing the blocks of a file with those into which its records are cut.
use Rattle.log_blocks.proofs.Common.{◌≡◌, ℕ, ◌+◌, ◌%◌, ◌^◌, ◌<◌, Bool, true, false, not, List, [], ◌∷◌, ◌++◌, length, take, drop, get_or, length-append, Option, Some, None, refl, sym, ap, ap₂, subst, ◌∙◌, arith, ◌==◌, ◌&&◌, if◌then◌else◌, flat_map, AllByRecursion, bytes_eq, flat_map-append, drop_at, bytes_eq-Decides, number_at, Record, bytes_of, Fits, Block, cut_from, numbered, blocks_of, total_of, Piece, gathered, IsNext, is_block, piece_end, first_wrong, AreLaid, not-true, not-false}
use Rattle.log_blocks.proofs.Bytes.{told_by_length, same_rest}
use Rattle.log_blocks.proofs.Left.{AreLeft, step, all_left, none_left}

-- so many of some pieces are left, and the records that are to be in them; up to there all was equal
pub record ComparedTo (format : ℕ) (bytes sizes : List ℕ) (rs : List Record) (pieces : List Piece) (dropped start at left before : ℕ) (rest : List ℕ) : Type 0 where
  pub records : List Record
  pub ps : List Piece
  pub number : ℕ
  pub fit : AllByRecursion (Fits format) records
  pub rest_is : rest ≡ flat_map bytes_of records
  pub same : rest ≡ gathered ps
  pub state : AreLeft bytes sizes at left ps
  pub before_is : before ≡ number % 2 ^ 64
  pub goes : first_wrong (136 + start) (blocks_of dropped rs) pieces ≡ first_wrong (136 + at) (numbered number (cut_from [] 0 records)) ps

pub compared_none : (format : ℕ) (bytes sizes : List ℕ) (rs : List Record) (pieces : List Piece) (dropped start size count : ℕ) (rest : List ℕ) → dropped < 2 ^ 64 → count ≡ length sizes → AllByRecursion (Fits format) rs → rest ≡ flat_map bytes_of rs
    → rest ≡ gathered pieces → AreLaid bytes start size sizes pieces → ComparedTo format bytes sizes rs pieces dropped start start count dropped rest
compared_none format bytes sizes rs pieces dropped start size count rest small is fit rest_is same l =
    record { records = rs; ps = pieces; number = dropped; fit = fit; rest_is = rest_is; same = same; state = all_left bytes sizes start size count pieces is l; before_is = omega (arith, small); goes = refl }

pub add_mod : (a b n k : ℕ) → a ≡ n % 2 ^ 64 → b ≡ (a + k) % 2 ^ 64 → b ≡ (n + k) % 2 ^ 64
add_mod a b n k e f = omega (arith, e, f)

abbrev pub block_at : List Record → ℕ → ℕ → Block
block_at rs before left = record { records = rs; before = before; left = left }

pub some_records : (rs : List Record) (bytes : List ℕ) → bytes ≡ flat_map bytes_of rs → 0 < length bytes → 0 < length rs
some_records [] bytes e lt = absurd (omega (arith, lt, ap length e))
some_records (r ∷ rs) bytes e lt = omega arith

lengths_equal : (xs ys : List ℕ) (b : Bool) → (bytes_eq xs ys && b) ≡ true → length ys ≡ length xs
lengths_equal xs ys b e = ap length (sym ((bytes_eq-Decides xs ys).0 (first_true (bytes_eq xs ys) b e)))
  where
    first_true : (a c : Bool) → (a && c) ≡ true → a ≡ true
    first_true true c e = refl
    first_true false c e = cc

-- what the next block and the next piece have to do with each other
record Met (format : ℕ) (bytes sizes : List ℕ) (rs : List Record) (pieces : List Piece) (dropped start at left before : ℕ) (rest : List ℕ) (size count cut : ℕ) : Type 0 where
  pub block : List Record
  pub behind : List Record
  pub p : Piece
  pub ps : List Piece
  pub number : ℕ
  pub fit : AllByRecursion (Fits format) behind
  pub count_is : count ≡ length block
  pub parts : rest ≡ flat_map bytes_of block ++ flat_map bytes_of behind
  pub same : rest ≡ p.bytes ++ gathered ps
  pub cut_is : cut ≡ length (flat_map bytes_of block)
  pub size_is : size ≡ length p.bytes
  pub state : AreLeft bytes sizes (at + length p.bytes + 48) left ps
  pub before_is : before ≡ number % 2 ^ 64
  pub before_there : p.before ≡ number_at 8 (at + size) (take (at + size + 48) bytes)
  pub goes : first_wrong (136 + start) (blocks_of dropped rs) pieces ≡ first_wrong (136 + at) (block_at block number (total_of (cut_from [] 0 behind)) ∷ numbered (number + length block) (cut_from [] 0 behind)) (p ∷ ps)

met : (format : ℕ) (bytes sizes : List ℕ) (rs : List Record) (pieces : List Piece) (dropped start at left more before : ℕ) (rest : List ℕ) (size count cut : ℕ) → left + 1 ≡ more → left < length sizes → size ≡ get_or sizes left size
    → ((f : ℕ) (x : List Record) → AllByRecursion (Fits f) x → rest ≡ flat_map bytes_of x → IsNext f x count cut) → ComparedTo format bytes sizes rs pieces dropped start at more before rest
    → Met format bytes sizes rs pieces dropped start at left before rest size count cut
met format bytes sizes rs pieces dropped start at left more before rest size count cut one lt is next c =
    let s = step bytes sizes at left more c.ps one lt c.state in
    let same : rest ≡ s.first.bytes ++ gathered s.rest = c.same ∙ ap gathered s.pieces_are in
    let lots : 0 < length c.records = some_records c.records rest c.rest_is (omega (arith, ap length same, length-append s.first.bytes (gathered s.rest), s.here.some)) in
    let n = next format c.records c.fit c.rest_is in
    let size_is : size ≡ length s.first.bytes = is ∙ s.size_is size in
    record {
      block = n.block;
      behind = n.rest;
      p = s.first;
      ps = s.rest;
      number = c.number;
      fit = n.fit;
      count_is = n.count_is;
      parts = c.rest_is ∙ ap (flat_map bytes_of) n.parts ∙ flat_map-append bytes_of n.block n.rest;
      same = same;
      cut_is = n.size_is;
      size_is = size_is;
      state = s.behind;
      before_is = c.before_is;
      before_there = s.here.before_is ∙ ap (λ (k : ℕ). number_at 8 (at + k) (take (at + k + 48) bytes)) (sym size_is);
      goes = c.goes ∙ ap₂ (λ (x : List (List Record)) (y : List Piece). first_wrong (136 + at) (numbered c.number x) y) (n.cut lots) s.pieces_are;
    }

-- the test of the code is that of the definition
test_is : (format : ℕ) (bytes sizes : List ℕ) (rs : List Record) (pieces : List Piece) (dropped start at left before : ℕ) (rest : List ℕ) (size count cut : ℕ) → (m : Met format bytes sizes rs pieces dropped start at left before rest size count cut)
    → is_block (block_at m.block m.number (total_of (cut_from [] 0 m.behind))) m.p ≡ ((cut == size) && (number_at 8 (at + size) (take (at + size + 48) bytes) == before))
test_is format bytes sizes rs pieces dropped start at left before rest size count cut m =
    ap₂ (λ (x y : Bool). x && y)
    (told_by_length m.p.bytes (flat_map bytes_of m.block) (gathered m.ps) (flat_map bytes_of m.behind) (sym m.same ∙ m.parts) ∙ ap₂ (λ (x y : ℕ). x == y) (sym m.cut_is) (sym m.size_is))
    (ap₂ (λ (x y : ℕ). x == y) m.before_there (sym m.before_is))

wrong_if : (b : Bool) (start : ℕ) (bs : List Block) (p : Piece) (ps : List Piece) → Option ℕ
wrong_if b start bs p ps = if b then first_wrong (piece_end start p) bs ps else Some (piece_end start p)

pub differs : (format : ℕ) (bytes sizes : List ℕ) (rs : List Record) (pieces : List Piece) (dropped start at left more before : ℕ) (rest : List ℕ) (size count cut place : ℕ) → left + 1 ≡ more → left < length sizes → size ≡ get_or sizes left size
    → ((f : ℕ) (x : List Record) → AllByRecursion (Fits f) x → rest ≡ flat_map bytes_of x → IsNext f x count cut)
    → not ((cut == size) && (number_at 8 (at + size) (take (at + size + 48) bytes) == before)) ≡ true → place ≡ 136 + at + size + 48 → ComparedTo format bytes sizes rs pieces dropped start at more before rest
    → Some place ≡ first_wrong (136 + start) (blocks_of dropped rs) pieces
unfolding wrong_if
differs format bytes sizes rs pieces dropped start at left more before rest size count cut place one lt is next other onward c =
    let m = met format bytes sizes rs pieces dropped start at left more before rest size count cut one lt is next c in
    let bad = test_is format bytes sizes rs pieces dropped start at left before rest size count cut m ∙ not-true _ other in
    let end : place ≡ piece_end (136 + at) m.p = omega (arith, onward, m.size_is) in
    ap Some end ∙ sym (m.goes ∙ ap (λ (b : Bool). wrong_if b (136 + at) (numbered (m.number + length m.block) (cut_from [] 0 m.behind)) m.p m.ps) bad)

pub compared_more : (format : ℕ) (bytes sizes : List ℕ) (rs : List Record) (pieces : List Piece) (dropped start at left more before : ℕ) (rest : List ℕ) (size count cut onward after : ℕ) (behind : List ℕ) → left + 1 ≡ more → left < length sizes → size ≡ get_or sizes left size
    → ((f : ℕ) (x : List Record) → AllByRecursion (Fits f) x → rest ≡ flat_map bytes_of x → IsNext f x count cut)
    → not ((cut == size) && (number_at 8 (at + size) (take (at + size + 48) bytes) == before)) ≡ false → onward ≡ at + (size + 48) → behind ≡ drop cut rest → after ≡ (before + count) % 2 ^ 64
    → ComparedTo format bytes sizes rs pieces dropped start at more before rest → ComparedTo format bytes sizes rs pieces dropped start onward left after behind
unfolding wrong_if
compared_more format bytes sizes rs pieces dropped start at left more before rest size count cut onward after behind one lt is next equal place tail sum c =
    let m = met format bytes sizes rs pieces dropped start at left more before rest size count cut one lt is next c in
    let good = test_is format bytes sizes rs pieces dropped start at left before rest size count cut m ∙ not-false _ equal in
    let here : at + length m.p.bytes + 48 ≡ onward = omega (arith, place, m.size_is) in
    let end : piece_end (136 + at) m.p ≡ 136 + onward = omega (arith, place, m.size_is) in
    let left_is : behind ≡ flat_map bytes_of m.behind = tail ∙ ap (drop cut) m.parts ∙ drop_at (flat_map bytes_of m.block) (flat_map bytes_of m.behind) cut (sym m.cut_is) in
    record {
      records = m.behind;
      ps = m.ps;
      number = m.number + length m.block;
      fit = m.fit;
      rest_is = left_is;
      same = left_is ∙ sym (same_rest m.p.bytes (flat_map bytes_of m.block) (gathered m.ps) (flat_map bytes_of m.behind) (sym m.same ∙ m.parts) (lengths_equal m.p.bytes (flat_map bytes_of m.block) _ good));
      state = subst (λ (k : ℕ). AreLeft bytes sizes k left m.ps) here m.state;
      before_is = add_mod before after m.number (length m.block) m.before_is (sum ∙ ap (λ (k : ℕ). (before + k) % 2 ^ 64) m.count_is);
      goes = m.goes ∙ ap (λ (b : Bool). wrong_if b (136 + at) (numbered (m.number + length m.block) (cut_from [] 0 m.behind)) m.p m.ps) good ∙ ap (λ (k : ℕ). first_wrong k (numbered (m.number + length m.block) (cut_from [] 0 m.behind)) m.ps) end;
    }

pub compared_all : (format : ℕ) (bytes sizes : List ℕ) (rs : List Record) (pieces : List Piece) (dropped start at left before : ℕ) (rest : List ℕ) → left ≡ 0 → ComparedTo format bytes sizes rs pieces dropped start at left before rest
    → ◌≡◌ {A = Option ℕ} None (first_wrong (136 + start) (blocks_of dropped rs) pieces)
compared_all format bytes sizes rs pieces dropped start at left before rest is c =
    sym (c.goes ∙ ap (first_wrong (136 + at) (numbered c.number (cut_from [] 0 c.records))) (none_left bytes sizes at left c.ps is c.state))
