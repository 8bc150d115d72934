use Rattle.elf_loader.proofs.Common.{◌≡◌, ◌≤◌, ℕ, zero, suc, ◌+◌, ◌-◌, ◌*◌, ◌/◌, ◌%◌, ◌<◌, ◌^◌, ◌&&◌, nat_le, nat_lt, Bool, true, false, List, [], ◌∷◌, map, length, slice_index, sym, subst, arith, All, if◌then◌else◌, AllByRecursion, range_with_len, All-head, All-tail, All-permutation, length-map-range_with_len, IsPart, AreBytes, ProgramHeader, program_of, is_segment, byte_in, word_of, file_words, first_word, words_touched, part_of, by_address, segments}
use Rattle.le_numbers.specs.Laws.{Fit}
use Rattle.elf_loader.specs.Laws.{HasWords, IsImage, LoadedProgramsAreImages}
use Rattle.elf_loader.proofs.Laid.{AreSegments-segments, IsTaken, all_taken, parts_apart}
use Rattle.elf_loader.proofs.Order.{AreSegments, IsPermutation-by_address}
use Rattle.elf_loader.proofs.Refused.{is_loaded, are_taken}
use Rattle.elf_loader.proofs.Words.{words_touched-some, words_touched_more}
use Rattle.elf_loader.proofs.laws.loaded_programs_are_images.Goals as goal

-- The program of a file is one as its type has it.

if_byte : (b : Bool) (n : ℕ) → n < 256 → (if b then n else 0) < 256
if_byte true n h = h
if_byte false n h = omega arith

one_byte : (bytes : List ℕ) (h : ProgramHeader) (addr : ℕ) → AreBytes bytes → byte_in bytes h addr < 256
one_byte bytes h addr are = if_byte (nat_le h.vaddr addr && nat_lt addr (h.vaddr + h.filesz)) (slice_index bytes (h.offset + (addr - h.vaddr))) (are (h.offset + (addr - h.vaddr)))

four_bytes : (a b c d : ℕ) → a < 256 → b < 256 → c < 256 → d < 256 → AreBytes (a ∷ b ∷ c ∷ d ∷ [])
four_bytes a b c d p q r s zero = p
four_bytes a b c d p q r s (suc zero) = q
four_bytes a b c d p q r s (suc (suc zero)) = r
four_bytes a b c d p q r s (suc (suc (suc zero))) = s
four_bytes a b c d p q r s (suc (suc (suc (suc i)))) = omega arith

one_word : Fit → (bytes : List ℕ) (h : ProgramHeader) (addr : ℕ) → AreBytes bytes → word_of bytes h addr < 2 ^ 32
one_word fit bytes h addr are = fit 4 0 _ (four_bytes _ _ _ _ (one_byte bytes h addr are) (one_byte bytes h (addr + 1) are) (one_byte bytes h (addr + 2) are) (one_byte bytes h (addr + 3) are))

mapped_words : (f : ℕ → ℕ) (ks : List ℕ) → ((k : ℕ) → f k < 2 ^ 32) → AllByRecursion (λ w. w < 2 ^ 32) (map f ks)
mapped_words f [] each = tt
mapped_words f (k ∷ ks) each = (each k, mapped_words f ks each)

segment_words : Fit → (bytes : List ℕ) (h : ProgramHeader) → AreBytes bytes → HasWords (part_of bytes h)
unfolding file_words
segment_words fit bytes h are = mapped_words _ (range_with_len 0 (words_touched h.vaddr h.filesz)) (λ k. one_word fit bytes h (4 * (first_word h + k)) are)

all_words : Fit → (bytes : List ℕ) (hs : List ProgramHeader) → AreBytes bytes → AllByRecursion HasWords (map (part_of bytes) hs)
all_words fit bytes [] are = tt
all_words fit bytes (h ∷ hs) are = (segment_words fit bytes h are, all_words fit bytes hs are)

-- a segment that is taken ends by the end of the addresses
ends_within : (v m : ℕ) → 0 < m → v + m ≤ 2 ^ 26 → 4 * (v / 4) + 4 * ((v % 4 + m + 3) / 4) ≤ 2 ^ 32
ends_within v m some high = omega (arith, some, high)

segment_part : (bytes : List ℕ) (size memory : ℕ) (h : ProgramHeader) → memory ≤ 2 ^ 26 → is_segment h ≡ true → IsTaken size memory h → IsPart (part_of bytes h)
unfolding file_words
segment_part bytes size memory h small is t =
    let some : 0 < h.memsz = grind arith in
    let count = words_touched-some h.vaddr h.memsz some in
    record {
      aligned = omega arith;
      given = omega (arith, length-map-range_with_len (λ k. word_of bytes h (4 * (first_word h + k))) 0 (words_touched h.vaddr h.filesz), words_touched_more h.vaddr h.filesz h.memsz t.sizes);
      within = omega (arith, count, ends_within h.vaddr h.memsz some (omega (arith, t.high, small)));
    }

all_parts : (bytes : List ℕ) (size memory : ℕ) (hs : List ProgramHeader) → memory ≤ 2 ^ 26 → AreSegments hs → All (IsTaken size memory) hs → AllByRecursion IsPart (map (part_of bytes) hs)
all_parts bytes size memory [] small are taken = tt
all_parts bytes size memory (h ∷ hs) small are taken = (
  segment_part bytes size memory h small (All-head (λ g. is_segment g ≡ true) h hs are) (All-head (IsTaken size memory) h hs taken),
  all_parts bytes size memory hs small (All-tail (λ g. is_segment g ≡ true) h hs are) (All-tail (IsTaken size memory) h hs taken),
)

images : Fit → LoadedProgramsAreImages
unfolding program_of
images fit bytes s i are is e =
    let loaded = is_loaded bytes s i e in
    let taken = are_taken _ _ _ loaded.taken in
    let all : AreSegments (by_address (segments bytes)) = All-permutation (λ h. is_segment h ≡ true) _ _ (IsPermutation-by_address (segments bytes)) (AreSegments-segments bytes) in
    subst IsImage (sym loaded.program) (record {
      program = record {
        apart = parts_apart bytes (length bytes) s.memory (segments bytes) is.memory_pages is.memory_low (AreSegments-segments bytes) taken;
        memory_low = is.memory_low;
        memory_high = is.memory_high;
        memory_pages = is.memory_pages;
      };
      parts = all_parts bytes (length bytes) s.memory (by_address (segments bytes)) is.memory_high all (all_taken (length bytes) s.memory (segments bytes) taken);
      words = all_words fit bytes (by_address (segments bytes)) are;
      entry = fit 4 24 bytes are;
      code = loaded.code;
    })

pub returns : goal.returns
returns c = images c.read_numbers_are_written.ensures.fit
