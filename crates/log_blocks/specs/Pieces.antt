-- The sealed blocks of a file as bytes, whether or not these are records'.
use Rattle.std.specs.Prelude.{ℕ, zero, suc, ◌+◌, ◌-◌, ◌%◌, ◌^◌, ◌==◌, ◌≡◌, ◌&&◌, nat_le, nat_lt, Bool, true, false, List, [], ◌∷◌, ◌++◌, take, drop, length, if◌then◌else◌}
use Rattle.log_blocks.specs.Common.{flat_map, bytes_eq, sha256, number_at, number_bytes, bytes_of, Block, block_size}
use Rattle.log_file.specs.declared.offsets.TheConstants.{BEFORE, LEFT, LEN}

-- the bytes of a block's records, and the numbers of its seal
pub record Piece : Type 0 where
  pub bytes : List ℕ
  pub before : ℕ
  pub left : ℕ

-- a piece of these bytes and numbers
abbrev pub piece : List ℕ → ℕ → ℕ → Piece
piece bytes before left = record { bytes = bytes; before = before; left = left }

-- a block as a piece: how many records were before it is kept in 64 bits
abbrev pub piece_of : Block → Piece
piece_of b = piece (flat_map bytes_of b.records) (b.before % 2 ^ 64) b.left

-- a piece's bytes before its digest, and with it
abbrev pub piece_body : Piece → List ℕ
piece_body p = p.bytes ++ number_bytes 8 p.before ++ number_bytes 4 p.left ++ number_bytes 4 (length p.bytes)

-- the same, and then the digest of the head's digest and of them
abbrev pub piece_bytes : List ℕ → Piece → List ℕ
piece_bytes digest p = piece_body p ++ sha256 (digest ++ piece_body p)

-- the bytes of several pieces, one after another
abbrev pub pieces_bytes : List ℕ → List Piece → List ℕ
pieces_bytes digest [] = []
pieces_bytes digest (p ∷ ps) = piece_bytes digest p ++ pieces_bytes digest ps

-- the bytes of the records of several pieces, one after another
abbrev pub gathered : List Piece → List ℕ
gathered [] = []
gathered (p ∷ ps) = p.bytes ++ gathered ps

-- ---- the block that ends some bytes: its fields stand before their last 32, which are its digest

-- how many bytes the block's records have
abbrev pub len_in : List ℕ → ℕ
len_in bytes = number_at 4 (length bytes - LEN) bytes

-- its number `left`, of 4 bytes
abbrev pub left_in : List ℕ → ℕ
left_in bytes = number_at 4 (length bytes - LEFT) bytes

-- its number `before`, of 8 bytes
abbrev pub before_in : List ℕ → ℕ
before_in bytes = number_at 8 (length bytes - BEFORE) bytes

-- the place of its first byte
abbrev pub start_in : List ℕ → ℕ
start_in bytes = length bytes - 48 - len_in bytes

-- the block as a piece
abbrev pub piece_in : List ℕ → Piece
piece_in bytes = piece (take (len_in bytes) (drop (start_in bytes) bytes)) (before_in bytes) (left_in bytes)

-- a block's length is 1 to 4,096, it lies whole among so many bytes, its number of bytes left is right, and with them it has at most n
abbrev pub is_sized : (len said left n whole : ℕ) → Bool
is_sized len said left n whole = nat_le 1 len && nat_le len block_size && nat_le (len + 48) whole && (said == left) && nat_le (left + len) n

-- the bytes end with a good block, after which there are so many bytes of records
unfoldable pub is_good : (digest : List ℕ) → (n left : ℕ) → List ℕ → Bool
is_good digest n left bytes =
    if nat_lt (length bytes) 48 then false else
    if is_sized (len_in bytes) (left_in bytes) left n (length bytes) then bytes_eq (drop (length bytes - 32) bytes) (sha256 (digest ++ take (len_in bytes + 16) (drop (start_in bytes) bytes))) else
    false

-- ---- the walk back from the end

-- so many good blocks end the bytes, one ahead of another, and ahead of them no more: what is left, and the blocks before those that are kept already
abbrev pub Walked : (digest : List ℕ) → (n count : ℕ) → (bytes : List ℕ) → (kept : List Piece) → (rest : List ℕ) → (pieces : List Piece) → Type 0
Walked digest n zero bytes kept rest pieces = (is_good digest n (length (gathered kept)) bytes ≡ false) × ((rest ≡ bytes) × (pieces ≡ kept))
Walked digest n (suc count) bytes kept rest pieces =
    (is_good digest n (length (gathered kept)) bytes ≡ true) × Walked digest n count (take (start_in bytes) bytes) (piece_in bytes ∷ kept) rest pieces

-- the bytes after a head are the rest and these blocks, from the last back to the first before which there is no good one
pub record IsWalk (digest : List ℕ) (n : ℕ) (bytes rest : List ℕ) (pieces : List Piece) : Type 0 where
  pub count : ℕ
  pub walked : Walked digest n count bytes [] rest pieces
