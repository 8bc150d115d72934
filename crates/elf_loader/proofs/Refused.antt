-- The refusals of the segments, one by one.
use Rattle.elf_loader.proofs.Common.{◌≡◌, ℕ, ◌==◌, Bool, true, false, cond, List, [], ◌∷◌, length, Option, Some, None, Ok, Err, find, refl, ap, sym, ◌∙◌, All, option_map, All-nil, All-cons, RawSettings, Program, ElfError, NotStatic, EntryOutside, Truncated, Outside, SegmentsTouch, NoSegment, ProgramHeader, list_any, table, file_end, segments, is_cut_off, is_outside, touching, when, unless, starts_outside, is_interpreter, header_refusal, segment_refusal, program_of, refusal, image_of}
use Rattle.std.specs.Option.{option_or}

-- a choice of two is none if both are
pub cond_none : {X : Type 0} (b : Bool) (x : X) (r : Option X) → cond b (Some x) r ≡ None → (b ≡ false) × (r ≡ None)
cond_none true x r e = absurd cc
cond_none false x r e = (refl, e)

pub or_none : {X Y : Type 0} (o : Option X) (f : X → Y) (r : Option Y) → option_or (option_map f o) r ≡ None → (o ≡ None) × (r ≡ None)
or_none None f r e = (refl, e)
or_none (Some x) f r e = absurd cc

pub or_both : {X : Type 0} (o r : Option X) → option_or o r ≡ None → (o ≡ None) × (r ≡ None)
or_both None r e = (refl, e)
or_both (Some x) r e = absurd cc

-- if none is found, each fails the test
pub all_fail : (p : ProgramHeader → Bool) (hs : List ProgramHeader) → find p hs ≡ None → All (λ h. p h ≡ false) hs
all_fail p [] e = All-nil (λ h. p h ≡ false)
all_fail p (h ∷ hs) e = let both = cond_none (p h) h (find p hs) e in All-cons (λ x. p x ≡ false) h hs both.0 (all_fail p hs both.1)

-- what the tests leave of segments that are taken
pub record AreTaken (size memory : ℕ) (hs : List ProgramHeader) : Type 0 where
  pub whole : All (λ h. is_cut_off size h ≡ false) hs
  pub mapped : All (λ h. is_outside memory h ≡ false) hs
  pub apart : touching hs ≡ None

pub are_taken : (size memory : ℕ) (hs : List ProgramHeader) → segment_refusal size memory hs ≡ None → AreTaken size memory hs
unfolding segment_refusal
are_taken size memory hs e =
    let cut = or_none (find (is_cut_off size) hs) (λ h. Truncated (file_end h) size) _ e in
    let out = or_none (find (is_outside memory) hs) (λ h. Outside h.place) _ cut.1 in
    let touch = or_none (touching hs) (λ pair. SegmentsTouch pair.0.place pair.1.place) _ out.1 in
    record { whole = all_fail (is_cut_off size) hs cut.0; mapped = all_fail (is_outside memory) hs out.0; apart = touch.0 }

pub refusal-cut_off : (size memory : ℕ) (hs : List ProgramHeader) (h : ProgramHeader) → find (is_cut_off size) hs ≡ Some h
    → segment_refusal size memory hs ≡ Some (Truncated (file_end h) size)
unfolding segment_refusal
refusal-cut_off size memory hs h e = rw e refl

pub refusal-outside : (size memory : ℕ) (hs : List ProgramHeader) (h : ProgramHeader) → find (is_cut_off size) hs ≡ None → find (is_outside memory) hs ≡ Some h
    → segment_refusal size memory hs ≡ Some (Outside h.place)
unfolding segment_refusal
refusal-outside size memory hs h e f = rw (e, f) refl

pub refusal-touching : (size memory : ℕ) (hs : List ProgramHeader) (g h : ProgramHeader) → find (is_cut_off size) hs ≡ None → find (is_outside memory) hs ≡ None → touching hs ≡ Some (g, h)
    → segment_refusal size memory hs ≡ Some (SegmentsTouch g.place h.place)
unfolding segment_refusal
refusal-touching size memory hs g h e f t = rw (e, f, t) refl

pub refusal-empty : (size memory : ℕ) (hs : List ProgramHeader) → find (is_cut_off size) hs ≡ None → find (is_outside memory) hs ≡ None → touching hs ≡ None → (length hs == 0) ≡ true
    → segment_refusal size memory hs ≡ Some NoSegment
unfolding segment_refusal
refusal-empty size memory hs e f t n = rw (e, f, t, n) refl

pub refusal-none : (size memory : ℕ) (hs : List ProgramHeader) → find (is_cut_off size) hs ≡ None → find (is_outside memory) hs ≡ None → touching hs ≡ None → (length hs == 0) ≡ false
    → segment_refusal size memory hs ≡ None
unfolding segment_refusal
refusal-none size memory hs e f t n = rw (e, f, t, n) refl

-- what the code has of a file when it comes to the segments
pub record Reads (bytes : List ℕ) (memory : ℕ) (headers hs : List ProgramHeader) (m : ℕ) : Type 0 where
  pub headers_are : headers ≡ table bytes
  pub segments_are : hs ≡ segments bytes
  pub memory_is : m ≡ memory
  pub header_taken : header_refusal bytes ≡ None
  pub static : list_any is_interpreter headers ≡ false

refusal_then : (bytes : List ℕ) (s : RawSettings) (headers hs : List ProgramHeader) (m : ℕ) → Reads bytes s.memory headers hs m
    → refusal bytes s ≡ option_or (segment_refusal (length bytes) m hs) (option_or (when (starts_outside (program_of bytes s)) (EntryOutside (program_of bytes s).entry)) None)
unfolding refusal
refusal_then bytes s headers hs m r =
    let interpreter : list_any is_interpreter (table bytes) ≡ false = ap (list_any is_interpreter) (sym r.headers_are) ∙ r.static in
    rw (r.header_taken, interpreter, r.segments_are, r.memory_is) refl

pub refused-segments : (bytes : List ℕ) (s : RawSettings) (headers hs : List ProgramHeader) (m : ℕ) (e : ElfError) → Reads bytes s.memory headers hs m → segment_refusal (length bytes) m hs ≡ Some e → image_of bytes s ≡ Err e
unfolding image_of
refused-segments bytes s headers hs m e r f = rw (refusal_then bytes s headers hs m r, f) refl

pub refused-entry : (bytes : List ℕ) (s : RawSettings) (headers hs : List ProgramHeader) (m : ℕ) → Reads bytes s.memory headers hs m → segment_refusal (length bytes) m hs ≡ None
    → starts_outside (program_of bytes s) ≡ true → image_of bytes s ≡ Err (EntryOutside (program_of bytes s).entry)
unfolding image_of
refused-entry bytes s headers hs m r f n = rw (refusal_then bytes s headers hs m r, f, n) refl

pub refused-nothing : (bytes : List ℕ) (s : RawSettings) (headers hs : List ProgramHeader) (m : ℕ) → Reads bytes s.memory headers hs m → segment_refusal (length bytes) m hs ≡ None
    → starts_outside (program_of bytes s) ≡ false → refusal bytes s ≡ None
refused-nothing bytes s headers hs m r f n = rw (refusal_then bytes s headers hs m r, f, n) refl

pub loaded : (bytes : List ℕ) (s : RawSettings) (headers hs : List ProgramHeader) (m : ℕ) → Reads bytes s.memory headers hs m → segment_refusal (length bytes) m hs ≡ None
    → starts_outside (program_of bytes s) ≡ false → image_of bytes s ≡ Ok (program_of bytes s)
unfolding image_of
loaded bytes s headers hs m r f n = rw (refusal_then bytes s headers hs m r, f, n) refl

-- a file that is loaded is refused for nothing, and gives its program
pub record IsLoaded (bytes : List ℕ) (s : RawSettings) (p : Program) : Type 0 where
  pub taken : segment_refusal (length bytes) s.memory (segments bytes) ≡ None
  pub program : p ≡ program_of bytes s
  pub code : starts_outside (program_of bytes s) ≡ false

when_none : (b : Bool) (e : ElfError) → when b e ≡ None → b ≡ false
when_none true e none = absurd cc
when_none false e none = refl

unless_ok : (r : Option ElfError) (q p : Program) → unless r q ≡ Ok p → (r ≡ None) × (p ≡ q)
unless_ok None q p e = (refl, cc)
unless_ok (Some x) q p e = absurd cc

pub is_loaded : (bytes : List ℕ) (s : RawSettings) (p : Program) → image_of bytes s ≡ Ok p → IsLoaded bytes s p
unfolding image_of refusal
is_loaded bytes s p e =
    let whole = unless_ok _ _ p e in
    let after_header = or_both (header_refusal bytes) _ whole.0 in
    let after_table = or_both (when (list_any is_interpreter (table bytes)) NotStatic) _ after_header.1 in
    let after_segments = or_both (segment_refusal (length bytes) s.memory (segments bytes)) _ after_table.1 in
    let after_entry = or_both (when (starts_outside (program_of bytes s)) (EntryOutside (program_of bytes s).entry)) _ after_segments.1 in
    record { taken = after_segments.0; program = whole.1; code = when_none _ _ after_entry.0 }
