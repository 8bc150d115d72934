-- Blocks and the records that they are cut from.
use Rattle.std.specs.Prelude.{◌≡◌, ◌<◌, ◌+◌, ◌==◌, ◌&&◌, ◌%◌, ◌^◌, Bool, ℕ, List, [], ◌∷◌, ◌++◌, length, Option, Some, None, if◌then◌else◌}
use Rattle.log_blocks.specs.Common.{flat_map, AllByRecursion, bytes_eq, Record, bytes_of, total, Fits, Block, cut_from}
use Rattle.log_blocks.specs.Pieces.{Piece}

-- the first block of some records has so many of them, which have so many bytes
pub record IsNext (format : ℕ) (records : List Record) (count size : ℕ) : Type 0 where
  pub block : List Record
  pub rest : List Record
  pub parts : records ≡ block ++ rest
  pub count_is : count ≡ length block
  pub size_is : size ≡ total block
  pub some : 0 < length records → 0 < length block
  pub cut : 0 < length records → cut_from [] 0 records ≡ block ∷ cut_from [] 0 rest
  pub fit : AllByRecursion (Fits format) rest

-- a piece has a block's records, and knows how many are before them
abbrev pub is_block : Block → Piece → Bool
is_block b p = bytes_eq p.bytes (flat_map bytes_of b.records) && (p.before == b.before % 2 ^ 64)

-- the end of a piece that begins at a place
abbrev pub piece_end : ℕ → Piece → ℕ
piece_end start p = start + length p.bytes + 48

-- the end of the first of some pieces that isn't the block at its place; the first piece begins at a place
abbrev pub first_wrong : ℕ → List Block → List Piece → Option ℕ
first_wrong start bs [] = None
first_wrong start [] (p ∷ ps) = Some (piece_end start p)
first_wrong start (b ∷ bs) (p ∷ ps) = if is_block b p then first_wrong (piece_end start p) bs ps else Some (piece_end start p)

-- ---- the last blocks of some records

-- the records of blocks
abbrev pub records_in : List Block → List Record
records_in [] = []
records_in (b ∷ bs) = b.records ++ records_in bs
