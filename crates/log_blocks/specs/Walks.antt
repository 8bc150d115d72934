-- What a walk back leaves: the place of the blocks that it kept, and how long they are.
use Rattle.std.specs.Prelude.{◌≡◌, ◌≤◌, ◌<◌, ℕ, ◌+◌, Bool, true, false, List, [], ◌∷◌, ◌++◌, take, drop, length, Option}
use Rattle.log_blocks.specs.Common.{flat_map, AllByRecursion, number_at, Record, bytes_of, Fits, blocks_of}
use Rattle.log_blocks.specs.Cuts.{first_wrong}
use Rattle.log_blocks.specs.declared.walking.Walk.{Walk}
use Rattle.log_blocks.specs.Pieces.{Piece, gathered, IsWalk}

-- the lengths of pieces, the last first
abbrev pub sizes_of : List Piece → List ℕ
sizes_of [] = []
sizes_of (p ∷ ps) = sizes_of ps ++ length p.bytes ∷ []

-- a piece stands at a place: its records' bytes, and its number before as the last but 40 bytes of it
pub record IsAt (bytes : List ℕ) (at : ℕ) (p : Piece) : Type 0 where
  pub some : 1 ≤ length p.bytes
  pub within : at + length p.bytes + 48 ≤ length bytes
  pub bytes_is : p.bytes ≡ take (length p.bytes) (drop at bytes)
  pub before_is : p.before ≡ number_at 8 (at + length p.bytes) (take (at + length p.bytes + 48) bytes)

-- pieces stand one after another from a place to the end
abbrev pub AreAt : List ℕ → ℕ → List Piece → Type 0
AreAt bytes at [] = at ≡ length bytes
AreAt bytes at (p ∷ ps) = IsAt bytes at p × AreAt bytes (at + length p.bytes + 48) ps

-- the pieces stand in the bytes, so many bytes after their start
pub record AreLaid (bytes : List ℕ) (rest size : ℕ) (sizes : List ℕ) (pieces : List Piece) : Type 0 where
  pub at : AreAt bytes rest pieces
  pub size_is : size ≡ length (gathered pieces)
  pub sizes_are : sizes ≡ sizes_of pieces

-- the pieces are those that a walk kept
abbrev pub AreKept : List ℕ → Walk → List Piece → Type 0
AreKept bytes walk pieces = AreLaid bytes walk.rest walk.size walk.sizes.items pieces

-- the walk back over some bytes left so many ahead of blocks of these sizes
pub record HasWalked (digest : List ℕ) (n : ℕ) (bytes : List ℕ) (rest size : ℕ) (sizes : List ℕ) : Type 0 where
  pub pieces : List Piece
  pub walk : IsWalk digest n bytes (take rest bytes) pieces
  pub laid : AreLaid bytes rest size sizes pieces
  pub within : rest ≤ length bytes
  pub few : size ≤ n

-- the walk back ended so; the list has the sizes of its blocks if it is told to be whole, and otherwise there is a block
pub record HasSeen (digest : List ℕ) (n : ℕ) (bytes : List ℕ) (walk : Walk) (listed : Bool) : Type 0 where
  pub sizes : List ℕ
  pub walked : HasWalked digest n bytes walk.rest walk.size sizes
  pub all : listed ≡ true → walk.sizes.items ≡ sizes
  pub some : listed ≡ false → 0 < walk.size

-- if the bytes are those of records, and of the pieces that a walk kept, the place is the end of the first piece that isn't the block at its place
abbrev pub FindsWrong : List ℕ → Walk → ℕ → List ℕ → Option ℕ → Type 0
FindsWrong bytes walk dropped all place = (format : ℕ) (records : List Record) (pieces : List Piece) → AllByRecursion (Fits format) records → all ≡ flat_map bytes_of records → all ≡ gathered pieces
    → AreKept bytes walk pieces → place ≡ first_wrong (136 + walk.rest) (blocks_of dropped records) pieces
