-- A few records and blocks.
use Rattle.std.specs.Prelude.{replicate, [], List, ◌∷◌, ◌++◌}
use Rattle.log_blocks.specs.Common.{Record, Header, ScOk, bytes_of}
use Rattle.log_blocks.specs.Pieces.{Piece, piece}

-- 28 Headers and four records of two bytes have 4,096 bytes
abbrev pub full_block : List Record
full_block = replicate 28 (Header 0 0 0 65620 (replicate 32 0)) ++ replicate 4 (ScOk 0)

-- two records of two bytes, each in a block of its own
abbrev pub two_blocks : List Piece
two_blocks = piece (bytes_of (ScOk 0)) 0 2 ∷ piece (bytes_of (ScOk 0)) 1 0 ∷ []
