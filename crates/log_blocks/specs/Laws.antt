-- Laws of blocks and their files, by their names.
use Rattle.std.specs.Prelude.{◌≡◌, ◌≤◌, ◌+◌, ◌*◌, true, false, ℕ, List, ◌∷◌, ◌++◌, length, ◌≢◌, ◌%◌, ◌^◌, []}
use Rattle.log_blocks.specs.Common.{AllByRecursion, Head, Record, bytes_of, total, Content, IsContent, file_bytes, file_bytes2, saved_bytes, Block, block_size, blocks_of, FileError, OutOfMemory}
use Rattle.log_file.specs.File as first
use Rattle.log_blocks.specs.declared.damage.SalvageError.{SalvageError}
use Rattle.log_blocks.specs.declared.damage.SalvageError.TheVariants as salvage
use Rattle.log_blocks.specs.declared.damage.Damage.{Damage}
use Rattle.log_blocks.specs.declared.damage.Damage.TheVariants.{File}
use Rattle.log_blocks.specs.Cuts.{records_in}
use Rattle.log_blocks.specs.Faults.{is_second}
use Rattle.log_blocks.specs.Pieces.{Piece, piece_of}
use Rattle.log_blocks.specs.File.{dropped_before, HasBlocks, IsSecondRefusal, IsRefusal, IsSalvaged, IsSalvageRefusal}

-- each record fits a block
abbrev pub AreSmall : List Record → Type 0
AreSmall rs = AllByRecursion (λ r. length (bytes_of r) ≤ block_size) rs

-- the last blocks of some records hold the last of them, know how many are ahead, and are the blocks into which they are cut again
abbrev pub LastBlocksAreAnEnd : Type 0
LastBlocksAreAnEnd = (dropped : ℕ) (records : List Record) (front : List Block) (b : Block) (back : List Block) → AreSmall records → blocks_of dropped records ≡ front ++ b ∷ back
    → (records ≡ records_in front ++ records_in (b ∷ back)) × (b.before ≡ dropped + length (records_in front)) × (blocks_of b.before (records_in (b ∷ back)) ≡ b ∷ back)

-- a file of version 2 names it, and one of version 1 doesn't
abbrev pub NameTheirVersion : Type 0
NameTheirVersion = (c : Content) → IsContent c → (is_second (file_bytes2 c) ≡ true) × (is_second (file_bytes c) ≡ false)

-- the blocks as they stand in a file
abbrev pub pieces_of : List Block → List Piece
pieces_of [] = []
pieces_of (b ∷ bs) = piece_of b ∷ pieces_of bs

-- if the kept blocks are the last of those of a log, of whatever head, what is salvaged has the log's last records, and counts those ahead of them
abbrev pub SalvagedAreAnEnd : Type 0
SalvagedAreAnEnd = (log : Content) → IsContent log → (front : List Block) (b : Block) (back : List Block) → blocks_of log.dropped log.records ≡ front ++ b ∷ back
    → (head : Head) (dropped start : ℕ) (c : Content) → HasBlocks head (dropped_before dropped (pieces_of (b ∷ back))) start (pieces_of (b ∷ back)) c
    → (log.records ≡ records_in front ++ c.records) × (c.dropped ≡ (log.dropped + length (records_in front)) % 2 ^ 64)

-- no file of version 2 says two things
abbrev pub SayOneThing : Type 0
SayOneThing = (c d : Content) → IsContent c → IsContent d → file_bytes2 c ≡ file_bytes2 d → c ≡ d

-- bytes that are a log's in version 2 have no cause for a refusal
abbrev pub AreNotRefused : Type 0
AreNotRefused = (c : Content) → IsContent c → (e : Damage) → IsSecondRefusal (file_bytes2 c) e → e ≡ File OutOfMemory

-- files of version 1 have at most one first cause for a refusal
abbrev pub FirstAreUnique : Type 0
FirstAreUnique = (bytes : List ℕ) (e f : FileError) → first.IsRefusal bytes e → first.IsRefusal bytes f → e ≢ OutOfMemory → f ≢ OutOfMemory → e ≡ f

-- files of either version have at most one first cause for a refusal
abbrev pub RefusalsAreUnique : Type 0
RefusalsAreUnique = (bytes : List ℕ) (e f : Damage) → IsRefusal bytes e → IsRefusal bytes f → e ≢ File OutOfMemory → f ≢ File OutOfMemory → e ≡ f

-- at most one log is salvaged of some bytes
abbrev pub SalvagedAreUnique : Type 0
SalvagedAreUnique = (bytes : List ℕ) (c d : Content) → IsSalvaged bytes c → IsSalvaged bytes d → c ≡ d

-- if a log is salvaged of some bytes, there is no cause why nothing is
abbrev pub SalvagedAreNotRefused : Type 0
SalvagedAreNotRefused = (bytes : List ℕ) (c : Content) (e : SalvageError) → IsSalvaged bytes c → IsSalvageRefusal bytes e → e ≡ salvage.OutOfMemory

-- bytes have at most one cause why nothing is salvaged
abbrev pub SalvageRefusalsAreUnique : Type 0
SalvageRefusalsAreUnique = (bytes : List ℕ) (e f : SalvageError) → IsSalvageRefusal bytes e → IsSalvageRefusal bytes f → e ≢ salvage.OutOfMemory → f ≢ salvage.OutOfMemory → e ≡ f

-- a file of version 2 has 136 bytes and 48 a block beside those of its records
abbrev pub HaveTheirSize : Type 0
HaveTheirSize = (c : Content) → IsContent c → length (file_bytes2 c) ≡ total c.records + 136 + 48 * length (blocks_of c.dropped c.records)

-- each block but the last has at least 3,951 bytes of records, since it has no room for one more
abbrev pub AreFew : Type 0
AreFew = (c : Content) → IsContent c → 3951 * length (blocks_of c.dropped c.records) ≤ total c.records + 3951

-- what a recording saves has at most 2 ^ 28 bytes of records, and 4 MiB more
abbrev pub SavedHaveTheirLimit : Type 0
SavedHaveTheirLimit = (c : Content) → IsContent c → length (saved_bytes c) ≤ 272629760
