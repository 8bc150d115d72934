use Rattle.elf_loader.proofs.Common.{◌≡◌, ◌∙◌, sym, ap, Some, Ok, Err, filter, inl, inr, not, Program, ElfError, EntryOutside, FileHeader, is_segment, segments, program_of, image_of, starts_outside, ◌≤◌, ℕ, ◌%◌, Bool, List, length, None, ap₂, subst, RawSettings, ProgramHeader, file_header, is_code, segment_refusal}
use Rattle.std.proofs.lemmas.Result.{err_from_is_err_and}
use Rattle.elf_loader.proofs.Refused.{Reads, refused-segments, refused-entry, refused-nothing, loaded}
use Rattle.elf_loader.proofs.Memory.{entry_there}
use Rattle.elf_loader.proofs.loading.load.Goals as goal
use Rattle.elf_loader.proofs.loading.load.Goals.{After-memory, After-is_code}

-- The entry of a file, as its segments tell it.

-- the test of the entry by the segments that were read is that of the program
entered : (bytes : List ℕ) (s : RawSettings) (headers hs now : List ProgramHeader) (m : ℕ) (f : FileHeader) (b : Bool) → Reads bytes s.memory headers hs m → m % 4096 ≡ 0 → 65536 ≤ m
    → segment_refusal (length bytes) m hs ≡ None → now ≡ segments bytes → f ≡ file_header bytes → b ≡ is_code now f.entry → starts_outside (program_of bytes s) ≡ not b
entered bytes s headers hs now m f b reads pages low taken same own is =
    entry_there bytes s (subst (λ (n : ℕ). n % 4096 ≡ 0) reads.memory_is pages) (subst (λ (n : ℕ). 65536 ≤ n) reads.memory_is low)
    (sym (ap₂ (λ (n : ℕ) (gs : List ProgramHeader). segment_refusal (length bytes) n gs) reads.memory_is reads.segments_are) ∙ taken)
    ∙ ap not (sym (is ∙ ap (λ (gs : List ProgramHeader). is_code gs f.entry) same ∙ ap (λ (g : FileHeader). is_code (segments bytes) g.entry) own))

-- what is read before the segments are checked
reads : (c : After-memory) → Reads c.args.bytes.now c.args.settings.now.memory c.deref.result.now c.deref-3.result.now c.memory.result
unfolding segments
reads c = record {
  headers_are = c.deref.ensures.0 ∙ c.read_table-table.ensures;
  segments_are = c.deref-3.ensures.0 ∙ c.segments-segments.ensures ∙ ap (filter is_segment) (c.deref-2.ensures.0 ∙ c.read_table-table.ensures);
  memory_is = c.memory.ensures.value;
  header_taken = sym c.in_ok-header.ensures.refused;
  static = sym c.if-needs_interpreter.ensures;
}

-- the test of the entry is that of the program
entry : (c : After-is_code) → Reads c.args.bytes.now c.args.settings.now.memory c.deref.result.now c.deref-3.result.now c.memory.result → starts_outside (program_of c.args.bytes.now c.args.settings.now) ≡ not c.is_code.result
unfolding segments
entry c so =
    let same : c.deref-4.result.now ≡ segments c.args.bytes.now = c.deref-4.ensures.0 ∙ c.segments-segments.ensures ∙ ap (filter is_segment) (c.deref-2.ensures.0 ∙ c.read_table-table.ensures) in
    entered c.args.bytes.now c.args.settings.now _ _ c.deref-4.result.now _ c.in_ok-header.header c.is_code.result so c.memory.ensures.pages c.memory.ensures.low (sym c.in_ok-check_segments.ensures) same c.in_ok-header.ensures.header c.is_code.ensures

pub program-requires-clause-are : goal.program-requires-clause-are
unfolding segments
program-requires-clause-are c = c.deref-5.ensures.0 ∙ c.segments-segments.ensures ∙ ap (filter is_segment) (c.deref-2.ensures.0 ∙ c.read_table-table.ensures)

pub returns-in_err-check_segments : goal.returns-in_err-check_segments
returns-in_err-check_segments c =
    let p = err_from_is_err_and c.from_residual-in_err-check_segments.result c.from_residual-in_err-check_segments.ensures.1 in
    let refused : image_of c.args.bytes.now c.args.settings.now ≡ Err p.0 = refused-segments _ _ _ _ _ _ (reads (goal.at.returns-in_err-check_segments c).After-memory) (sym c.in_err-check_segments.ensures ∙ ap (λ (e : ElfError). Some e) (sym p.2)) in
    rw p.1 (record { loaded = tt; refused = inr refused; memory = inr refused })

pub returns-then-not-is_code : goal.returns-then-not-is_code
unfolding program_of
returns-then-not-is_code c =
    let a = goal.at.returns-then-not-is_code c in
    let so = reads a.After-memory in
    let refused : image_of c.args.bytes.now c.args.settings.now ≡ Err (EntryOutside c.in_ok-header.header.entry) =
    refused-entry _ _ _ _ _ so (sym c.in_ok-check_segments.ensures) (entry a.After-is_code so ∙ ap not c.if-not-is_code.true) ∙ ap (λ (f : FileHeader). Err (EntryOutside f.entry)) (sym c.in_ok-header.ensures.header) in
    record { loaded = tt; refused = inr refused; memory = inr refused }

pub returns-in_err-program-clause-memory : goal.returns-in_err-program-clause-memory
returns-in_err-program-clause-memory c =
    let p = err_from_is_err_and c.from_residual-in_err-program.result c.from_residual-in_err-program.ensures.1 in
    let a = goal.at.returns-in_err-program-clause-memory c in
    let so = reads a.After-memory in
    rw p.1 (inl (refused-nothing _ _ _ _ _ so (sym c.in_ok-check_segments.ensures) (entry a.After-is_code so ∙ ap not c.if-not-is_code.false)))

pub returns-clause-loaded : goal.returns-clause-loaded
returns-clause-loaded c =
    let a = goal.at.returns-clause-loaded c in
    let so = reads a.After-memory in
    loaded _ _ _ _ _ so (sym c.in_ok-check_segments.ensures) (entry a.After-is_code so ∙ ap not c.if-not-is_code.false) ∙ ap (λ (p : Program). Ok p) (sym c.in_ok-program.ensures)
