use Rattle.demo_run.proofs.Common.{◌≡◌, ℕ, ◌==◌, nat_lt, false, not, List, [], ◌∷◌, ◌++◌, length, Option, None, Ok, refl, ap, ◌∙◌, list_any, number_at, number_bytes, Kind, code, demo_settings, GuestsAreLoaded}
use Rattle.elf_loader.specs.declared.error.ElfError.{ElfError}
use Rattle.elf_loader.specs.declared.error.ElfError.TheVariants.{NotElf, Truncated, NotRv32, NotStatic, NeedsCompressed, NeedsE, TooMany, EntryOutside}
use Rattle.elf_loader.specs.Headers as headers_of
use Rattle.elf_loader.specs.Headers.{table_end, table}
use Rattle.elf_loader.specs.Segments.{has_flag, segments, file_words}
use Rattle.elf_loader.specs.Loaded.{when, first_of_all, is_elf, is_rv32, is_interpreter, starts_outside, header_refusal, segment_refusal, program_of, refusal, unless, image_of}
use Rattle.guest_gen.specs.File.{identification, file_header, headers, code_bytes, guest_bytes}
use Rattle.demo_run.proofs.laws.guests_are_loaded.Goals as goal

-- Generated programs are loaded: their headers name a segment of code in the file and a page of data, both within memory.
-- what is refused of the ELF header of a file of this length
abbrev header_refusal_by : ℕ → List ℕ → Option ElfError
header_refusal_by size bytes = let f = headers_of.file_header bytes in first_of_all (
    when (not (is_elf bytes)) NotElf
    ∷ when (nat_lt size 52) (Truncated 52 size)
    ∷ when (not (is_rv32 f)) NotRv32
    ∷ when (not (f.kind == 2)) NotStatic
    ∷ when (has_flag f.flags 1) NeedsCompressed
    ∷ when (has_flag f.flags 8) NeedsE
    ∷ when (nat_lt 64 f.phnum) (TooMany f.phnum)
    ∷ when (nat_lt size (table_end f)) (Truncated (table_end f) size)
    ∷ [])

by-size : (bytes : List ℕ) → header_refusal bytes ≡ header_refusal_by (length bytes) bytes
unfolding header_refusal
by-size bytes = refl

header-taken : (rest : List ℕ) → header_refusal_by 1156 (headers ++ rest) ≡ None
unfolding headers file_header identification number_at number_bytes
header-taken rest = refl

no-interpreter : (rest : List ℕ) → list_any is_interpreter (table (headers ++ rest)) ≡ false
unfolding headers file_header identification number_at number_bytes table
no-interpreter rest = refl

segments-taken : (rest : List ℕ) → segment_refusal 1156 demo_settings.memory (segments (headers ++ rest)) ≡ None
unfolding demo_settings headers file_header identification number_at number_bytes table segments segment_refusal
segments-taken rest = refl

starts-inside : (rest : List ℕ) → starts_outside (program_of (headers ++ rest) demo_settings) ≡ false
unfolding demo_settings headers file_header identification number_at number_bytes table segments program_of file_words
starts-inside rest = refl

not-refused : (rest : List ℕ) → length (headers ++ rest) ≡ 1156 → refusal (headers ++ rest) demo_settings ≡ None
unfolding refusal
not-refused rest size =
    let bytes : List ℕ = headers ++ rest in
    let entry : ElfError = EntryOutside (program_of bytes demo_settings).entry in
    let head : header_refusal bytes ≡ None = by-size bytes ∙ ap (λ n. header_refusal_by n bytes) size ∙ header-taken rest in
    let parts : segment_refusal (length bytes) demo_settings.memory (segments bytes) ≡ None = ap (λ n. segment_refusal n demo_settings.memory (segments bytes)) size ∙ segments-taken rest in
    ap (λ (r : Option ElfError). first_of_all (r ∷ when (list_any is_interpreter (table bytes)) NotStatic ∷ segment_refusal (length bytes) demo_settings.memory (segments bytes) ∷ when (starts_outside (program_of bytes demo_settings)) entry ∷ [])) head
    ∙ ap (λ b. first_of_all (None ∷ when b NotStatic ∷ segment_refusal (length bytes) demo_settings.memory (segments bytes) ∷ when (starts_outside (program_of bytes demo_settings)) entry ∷ [])) (no-interpreter rest)
    ∙ ap (λ (r : Option ElfError). first_of_all (None ∷ None ∷ r ∷ when (starts_outside (program_of bytes demo_settings)) entry ∷ [])) parts
    ∙ ap (λ b. first_of_all (None ∷ None ∷ None ∷ when b entry ∷ [])) (starts-inside rest)

loaded : (rest : List ℕ) → length (headers ++ rest) ≡ 1156 → image_of (headers ++ rest) demo_settings ≡ Ok (program_of (headers ++ rest) demo_settings)
unfolding image_of
loaded rest size = ap (λ (r : Option ElfError). unless r (program_of (headers ++ rest) demo_settings)) (not-refused rest size)

guests-loaded : ((seed : ℕ) (kind : Kind) → length (guest_bytes seed kind) ≡ 1156) → GuestsAreLoaded
unfolding guest_bytes
guests-loaded sizes seed kind = loaded (code_bytes (code seed kind)) (sizes seed kind)

pub returns : goal.returns
returns c = guests-loaded c.files_have_one_size.ensures
