-- How many blocks a log has.
use Rattle.log_blocks.proofs.Common.{◌≡◌, ℕ, suc, ◌+◌, ◌*◌, ◌^◌, ◌≤◌, Bool, true, false, nat_le, List, [], ◌∷◌, ◌++◌, length, refl, ap, arith, ◌==◌, AllByRecursion, Record, bytes_of, total, Fits, Content, block_size, cut_from, last_block, numbered, blocks_of, file_bytes, file_bytes2, AreFew, HaveTheirSize, SavedHaveTheirLimit}
use Rattle.std.proofs.lemmas.Bool.{leb-false}
use Rattle.log_file.specs.Laws as of_first
use Rattle.log_blocks.proofs.Firsts.{cut_by}
use Rattle.log_blocks.proofs.Pushed.{total_first}
use Rattle.log_blocks.proofs.Sealed.{TagsTell, short}

few_last : (block : List Record) → length (last_block block) ≤ 1
few_last [] = omega arith
few_last (r ∷ rs) = omega arith

few_by : (b : Bool) (block : List Record) (r : Record) (used size : ℕ) (rs : List Record) (n : ℕ) → (b ≡ true → 3951 * length (cut_from (block ++ r ∷ []) (used + size) rs) ≤ n)
    → (b ≡ false → 3951 * length (cut_from (r ∷ []) size rs) + 3951 ≤ n) → 3951 * length (cut_by b block r used size rs) ≤ n
few_by true block r used size rs n x y = x refl
few_by false block r used size rs n x y = omega (arith, y refl)

-- each block but the last has no room for one more record
few_cut : TagsTell → (format : ℕ) (rs block : List Record) (used : ℕ) → AllByRecursion (Fits format) rs → 3951 * length (cut_from block used rs) ≤ used + total rs + 3951
few_cut tell format [] block used fit = omega (arith, few_last block)
few_cut tell format (r ∷ rs) block used fit =
    let size = length (bytes_of r) in
    few_by (nat_le (used + size) block_size) block r used size rs (used + total (r ∷ rs) + 3951) (λ fits. omega (arith, few_cut tell format rs (block ++ r ∷ []) (used + size) fit.1, total_first r rs))
    (λ full. omega (arith, few_cut tell format rs (r ∷ []) size fit.1, total_first r rs, short tell r fit.0.fields, leb-false (used + size) block_size full))

as_many : (before : ℕ) (parts : List (List Record)) → length (numbered before parts) ≡ length parts
as_many before [] = refl
as_many before (rs ∷ rest) = ap (λ (n : ℕ). suc n) (as_many (before + length rs) rest)

pub few : TagsTell → AreFew
few tell c is = omega (arith, as_many c.dropped (cut_from [] 0 c.records), few_cut tell c.head.settings.format c.records [] 0 is.fit)

-- ---- how long what is saved is

first_limit : (size bytes most : ℕ) → size ≡ bytes + 124 → bytes ≤ most → most ≤ 2 ^ 28 → size ≤ 272629760
first_limit size bytes most is bound high = omega arith

second_limit : (size bytes blocks most : ℕ) → size ≡ bytes + 136 + 48 * blocks → 3951 * blocks ≤ bytes + 3951 → bytes ≤ most → most ≤ 2 ^ 28 → size ≤ 272629760
second_limit size bytes blocks most is few bound high = omega arith

saved_by : (c : Content) (b : Bool) → length (file_bytes c) ≤ 272629760 → length (file_bytes2 c) ≤ 272629760 → length (elim b as (λ z. List ℕ) [ true ↦ file_bytes2 c | false ↦ file_bytes c ]) ≤ 272629760
saved_by c true first second = second
saved_by c false first second = first

pub saved_limit : of_first.HaveTheirSize → HaveTheirSize → AreFew → SavedHaveTheirLimit
saved_limit first second few c is =
    saved_by c (c.head.settings.format == 2) (first_limit (length (file_bytes c)) (total c.records) c.head.settings.log_size (first c is) is.bound is.settings.log_size_high)
    (second_limit (length (file_bytes2 c)) (total c.records) (length (blocks_of c.dropped c.records)) c.head.settings.log_size (second c is) (few c is) is.bound is.settings.log_size_high)
