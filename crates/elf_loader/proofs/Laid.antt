-- Segments that are taken, in memory.
use Rattle.elf_loader.proofs.Common.{◌≡◌, ◌≤◌, ◌<◌, ℕ, ◌+◌, ◌*◌, ◌%◌, ◌^◌, ◌||◌, true, false, List, [], ◌∷◌, map, ltb-false, arith, All, nat_lt, All-head, All-tail, All-weaker, filter_passes, All-permutation, AreApart, end_of, ProgramHeader, table, is_segment, IsLoadable, segments, file_end, memory_end, words_touched, first_word, word_after, part_of, by_address, is_cut_off, is_outside, or_parts}
use Rattle.elf_loader.proofs.Words.{words_touched-some}
use Rattle.elf_loader.proofs.Order.{AreSegments, AreInOrder, IsPermutation-by_address, by_address-in_order}
use Rattle.elf_loader.proofs.Refused.{AreTaken}

-- each segment of a file is one
pub AreSegments-segments : (bytes : List ℕ) → AreSegments (segments bytes)
unfolding segments
AreSegments-segments bytes = filter_passes is_segment (table bytes)

-- what the tests leave of one segment
pub record IsTaken (size memory : ℕ) (h : ProgramHeader) : Type 0 where
  pub inside : file_end h ≤ size
  pub low : 4096 ≤ h.vaddr
  pub high : memory_end h ≤ memory
  pub sizes : h.filesz ≤ h.memsz

is_taken : (size memory : ℕ) (h : ProgramHeader) → is_cut_off size h ≡ false → is_outside memory h ≡ false → IsTaken size memory h
is_taken size memory h cut out =
    let parts = or_parts (nat_lt h.vaddr 4096 || nat_lt memory (memory_end h)) (nat_lt h.memsz h.filesz) out in
    let ends = or_parts (nat_lt h.vaddr 4096) (nat_lt memory (memory_end h)) parts.0 in
    record { inside = ltb-false _ _ cut; low = ltb-false _ _ ends.0; high = ltb-false _ _ ends.1; sizes = ltb-false _ _ parts.1 }

-- each segment by address is taken
pub all_taken : (size memory : ℕ) (hs : List ProgramHeader) → AreTaken size memory hs → All (IsTaken size memory) (by_address hs)
all_taken size memory hs are =
    All-permutation (IsTaken size memory) _ _ (IsPermutation-by_address hs) (λ k d lt. is_taken size memory _ (are.whole k d lt) (are.mapped k d lt))

-- so its bytes can be read
pub all_loadable : (size memory : ℕ) (hs : List ProgramHeader) → memory ≤ 2 ^ 26 → AreTaken size memory hs → All (IsLoadable size) (by_address hs)
all_loadable size memory hs small are =
    All-weaker (IsTaken size memory) (IsLoadable size) (λ h t. record { inside = t.inside; sizes = t.sizes; within = omega (arith, t.high) }) (by_address hs) (all_taken size memory hs are)

-- segments in order are parts that stand apart
apart_in_order : (bytes : List ℕ) (low high : ℕ) (hs : List ProgramHeader) → low ≤ high → AreInOrder hs → All (λ h. low ≤ 4 * first_word h) hs → All (λ h. 4 * word_after h ≤ high) hs → AreApart low high (map (part_of bytes) hs)
apart_in_order bytes low high [] le order above below = le
apart_in_order bytes low high (h ∷ hs) le order above below =
    let end : 4 * word_after h ≤ high = All-head (λ h. 4 * word_after h ≤ high) h hs below in
    let after : All (λ g. 4 * first_word h + 4 * words_touched h.vaddr h.memsz ≤ 4 * first_word g) hs =
    All-weaker (λ g. word_after h ≤ first_word g) (λ g. 4 * first_word h + 4 * words_touched h.vaddr h.memsz ≤ 4 * first_word g) (λ g e. omega (arith, e)) hs order.0 in
    (All-head (λ h. low ≤ 4 * first_word h) h hs above, apart_in_order bytes (end_of (part_of bytes h)) high hs (omega arith) order.1 after (All-tail (λ h. 4 * word_after h ≤ high) h hs below))

word_low : (size memory : ℕ) (h : ProgramHeader) → IsTaken size memory h → 4096 ≤ 4 * first_word h
word_low size memory h t = omega (arith, t.low)

word_high : (size memory : ℕ) (h : ProgramHeader) → memory % 4096 ≡ 0 → is_segment h ≡ true → IsTaken size memory h → 4 * word_after h ≤ memory
word_high size memory h pages is t =
    let some : 0 < h.memsz = grind arith in omega (arith, t.high, words_touched-some h.vaddr h.memsz some)

-- the parts of the segments that are taken stand apart in memory
pub parts_apart : (bytes : List ℕ) (size memory : ℕ) (hs : List ProgramHeader) → memory % 4096 ≡ 0 → 65536 ≤ memory → AreSegments hs → AreTaken size memory hs → AreApart 4096 memory (map (part_of bytes) (by_address hs))
parts_apart bytes size memory hs pages big segments are =
    let each = all_taken size memory hs are in
    let all : AreSegments (by_address hs) = All-permutation (λ h. is_segment h ≡ true) _ _ (IsPermutation-by_address hs) segments in
    apart_in_order bytes 4096 memory (by_address hs) (omega (arith, big)) (by_address-in_order hs segments are.apart)
    (λ k d lt. word_low size memory _ (each k d lt)) (λ k d lt. word_high size memory _ pages (all k d lt) (each k d lt))
