-- What memory holds of a program that was loaded.
use Rattle.elf_loader.proofs.Common.{◌≡◌, ◌≤◌, ◌<◌, ℕ, ◌+◌, ◌-◌, ◌*◌, ◌/◌, ◌%◌, ◌==◌, Bool, true, false, cond, ◌&&◌, List, [], ◌∷◌, length, map, Option, Some, None, Ok, refl, sym, ap, ap₂, subst, ◌∙◌, ◌↔◌, leb, ltb, arith, All, Contains, find, is_none, is_some, not, if◌then◌else◌, max, RawSettings, IsSetting, Part, Program, AreApart, code_at, is_in, part_at, word_in, code_in, first_in, may_load, is_writable, highest_end, heap_start, ProgramHeader, is_segment, segments, memory_end, touches, share, has_code, is_code, words_touched, first_word, word_after, word_of, part_of, before_higher, by_address, has_flag, file_header, program_of, image_of, segment_refusal, starts_outside, All-head, All-tail, All-map, All-contains, All-permutation, Contains-permutation, and_parts, ◌⊎◌, inl, inr, get_or-map, length-map, end_of, part_or}
use Rattle.elf_loader.specs.Held.{HoldsSegment, HoldsNothing, highest}
use Rattle.elf_loader.proofs.Laid.{AreSegments-segments, parts_apart}
use Rattle.elf_loader.proofs.Order.{AreSegments, IsPermutation-by_address, Contains-later, Contains-cons_cases}
use Rattle.elf_loader.proofs.Refused.{is_loaded, are_taken, all_fail}
use Rattle.elf_loader.proofs.Words.{words_touched-some, get_or-file_words}

-- Parts that stand apart, by address.
pub apart_le : (low high : ℕ) (ps : List Part) → AreApart low high ps → low ≤ high
apart_le low high [] a = a
apart_le low high (p ∷ ps) a = let later = apart_le (end_of p) high ps a.1 in omega (arith, later, a.0)

-- a part begins from the low bound on, and ends by the high one
pub low_first : (low high : ℕ) (ps : List Part) (p : Part) → AreApart low high ps → Contains ps p → low ≤ p.first
low_first low high [] p a has = absurd (omega (arith, has.1))
low_first low high (q ∷ ps) p a has = choice (low_first (end_of q) high ps p a.1) (Contains-cons_cases q ps p has)
  where
    choice : (Contains ps p → end_of q ≤ p.first) → (q ≡ p) ⊎ Contains ps p → low ≤ p.first
    choice later (inl e) = subst (λ (r : Part). low ≤ r.first) e a.0
    choice later (inr there) = omega (arith, later there, a.0)

pub high_end : (low high : ℕ) (ps : List Part) (p : Part) → AreApart low high ps → Contains ps p → end_of p ≤ high
high_end low high [] p a has = absurd (omega (arith, has.1))
high_end low high (q ∷ ps) p a has = choice (high_end (end_of q) high ps p a.1) (Contains-cons_cases q ps p has)
  where
    choice : (Contains ps p → end_of p ≤ high) → (q ≡ p) ⊎ Contains ps p → end_of p ≤ high
    choice later (inl e) = subst (λ (r : Part). end_of r ≤ high) e (apart_le (end_of q) high ps a.1)
    choice later (inr there) = later there

in_low : (p : Part) (a : ℕ) → is_in p a ≡ true → p.first ≤ a
in_low p a h = grind arith

out_high : (p : Part) (a : ℕ) → end_of p ≤ a → is_in p a ≡ false
out_high p a h = grind arith

-- the part that an address is in is found
pub found : (low high : ℕ) (ps : List Part) (p : Part) (a : ℕ) → AreApart low high ps → Contains ps p → is_in p a ≡ true → part_at ps a ≡ Some p
found low high [] p a apart has is = absurd (omega (arith, has.1))
found low high (q ∷ ps) p a apart has is = choice (λ there. found (end_of q) high ps p a apart.1 there is) (Contains-cons_cases q ps p has)
  where
    choice : (Contains ps p → part_at ps a ≡ Some p) → (q ≡ p) ⊎ Contains ps p → part_at (q ∷ ps) a ≡ Some p
    choice later (inl e) =
        let here : is_in q a ≡ true = ap (λ (r : Part). is_in r a) e ∙ is in ap (λ t. part_or t q (part_at ps a)) here ∙ ap (λ (r : Part). Some r) e
    choice later (inr there) =
        let out : is_in q a ≡ false = out_high q a (omega (arith, low_first (end_of q) high ps p apart.1 there, in_low p a is)) in ap (λ t. part_or t q (part_at ps a)) out ∙ later there

-- no part is found at an address that is in none
pub missing : (ps : List Part) (a : ℕ) → All (λ p. is_in p a ≡ false) ps → part_at ps a ≡ None
missing [] a out = refl
missing (p ∷ ps) a out =
    ap (λ t. part_or t p (part_at ps a)) (All-head (λ q. is_in q a ≡ false) p ps out) ∙ missing ps a (All-tail (λ q. is_in q a ≡ false) p ps out)

pub Contains-map : {X Y : Type 0} (f : X → Y) (xs : List X) (x : X) → Contains xs x → Contains (map f xs) (f x)
Contains-map f xs x (k, lt, e) = (k, omega (arith, lt, length-map xs f), get_or-map f xs k x (f x) lt ∙ ap f e)

within : (a b w : ℕ) → (leb a w && ltb w b) ≡ true → (a ≤ w) × (w < b)
within a b w e = (grind arith, grind arith)

between : (a b w : ℕ) → a ≤ w → w < b → (leb a w && ltb w b) ≡ true
between a b w low high = grind arith

size_positive : (h : ProgramHeader) → is_segment h ≡ true → 0 < h.memsz
size_positive h is = grind arith

-- the first of a segment's bytes in a word
byte_from : (v m a : ℕ) → 0 < m → v / 4 ≤ a / 4 → a / 4 < v / 4 + (v % 4 + m + 3) / 4 → (byte : ℕ) × (v ≤ byte) × (byte < v + m) × (byte / 4 ≡ a / 4)
byte_from v m a some low high = (max v (4 * (a / 4)), omega arith, omega arith, omega arith)

byte_to : (v m a byte : ℕ) → 0 < m → v ≤ byte → byte < v + m → byte / 4 ≡ a / 4 → (v / 4 ≤ a / 4) × (a / 4 < v / 4 + (v % 4 + m + 3) / 4)
byte_to v m a byte some low high e = (omega arith, omega arith)

word_after-some : (h : ProgramHeader) → is_segment h ≡ true → word_after h ≡ h.vaddr / 4 + (h.vaddr % 4 + h.memsz + 3) / 4
word_after-some h is = ap (λ n. first_word h + n) (words_touched-some h.vaddr h.memsz (size_positive h is))

pub touches-bytes : (h : ProgramHeader) (addr : ℕ) → is_segment h ≡ true → (touches h addr ≡ true) ↔ ((byte : ℕ) × (h.vaddr ≤ byte) × (byte < memory_end h) × (byte / 4 ≡ addr / 4))
touches-bytes h addr is = (to, from)
  where
    to : touches h addr ≡ true → (byte : ℕ) × (h.vaddr ≤ byte) × (byte < memory_end h) × (byte / 4 ≡ addr / 4)
    to t = let ends = within (first_word h) (word_after h) (addr / 4) t in
        byte_from h.vaddr h.memsz addr (size_positive h is) ends.0 (omega (arith, ends.1, word_after-some h is))

    from : (byte : ℕ) × (h.vaddr ≤ byte) × (byte < memory_end h) × (byte / 4 ≡ addr / 4) → touches h addr ≡ true
    from (byte, low, high, e) = let ends = byte_to h.vaddr h.memsz addr byte (size_positive h is) low high e in
        between (first_word h) (word_after h) (addr / 4) ends.0 (omega (arith, ends.1, word_after-some h is))

-- two ranges that are not empty have a common number if and only if each begins before the other ends
meet_from : (a b c d : ℕ) → a < b → c < d → (ltb a d && ltb c b) ≡ true → (n : ℕ) × (a ≤ n) × (n < b) × (c ≤ n) × (n < d)
meet_from a b c d ab cd e = let ad : a < d = grind arith in let cb : c < b = grind arith in (max a c, omega arith, omega arith, omega arith, omega arith)

meet_to : (a b c d n : ℕ) → a ≤ n → n < b → c ≤ n → n < d → (ltb a d && ltb c b) ≡ true
meet_to a b c d n low high low' high' = grind arith

pub has_words : (h : ProgramHeader) → is_segment h ≡ true → first_word h < word_after h
has_words h is = omega (arith, word_after-some h is, size_positive h is)

whole_word : (n : ℕ) → 4 * n / 4 ≡ n
whole_word n = omega arith

pub share-words : (g h : ProgramHeader) → is_segment g ≡ true → is_segment h ≡ true → (share g h ≡ true) ↔ ((addr : ℕ) × (touches g addr ≡ true) × (touches h addr ≡ true))
share-words g h is_g is_h = (to, from)
  where
    to : share g h ≡ true → (addr : ℕ) × (touches g addr ≡ true) × (touches h addr ≡ true)
    to e = let m = meet_from (first_word g) (word_after g) (first_word h) (word_after h) (has_words g is_g) (has_words h is_h) e in
        (4 * m.0, rw whole_word (between _ _ m.0 m.1 m.2), rw whole_word (between _ _ m.0 m.3 m.4))

    from : (addr : ℕ) × (touches g addr ≡ true) × (touches h addr ≡ true) → share g h ≡ true
    from (addr, tg, th) =
        let in_g = within (first_word g) (word_after g) (addr / 4) tg in
        let in_h = within (first_word h) (word_after h) (addr / 4) th in
        meet_to (first_word g) (word_after g) (first_word h) (word_after h) (addr / 4) in_g.0 in_g.1 in_h.0 in_h.1

-- the addresses of a segment's words are those of its part
starts : (first a : ℕ) → leb (4 * first) a ≡ leb first (a / 4)
starts first a = grind arith

ends : (after a : ℕ) → ltb a (4 * after) ≡ ltb (a / 4) after
ends after a = grind arith

is_in-touches : (first count a : ℕ) → (leb (4 * first) a && ltb a (4 * first + 4 * count)) ≡ (leb first (a / 4) && ltb (a / 4) (first + count))
is_in-touches first count a =
    let e : 4 * first + 4 * count ≡ 4 * (first + count) = omega arith in
    ap₂ (λ (x y : Bool). x && y) (starts first a) (ap (λ n. ltb a n) e ∙ ends (first + count) a)

-- a part's word at an address
word_in-part : (bytes : List ℕ) (h : ProgramHeader) (addr : ℕ) → first_word h ≤ addr / 4 → word_in (part_of bytes h) addr ≡ word_of bytes h (4 * (addr / 4))
word_in-part bytes h addr low =
    let e : 4 * (first_word h + (addr - 4 * first_word h) / 4) ≡ 4 * (addr / 4) = omega (arith, low) in
    get_or-file_words bytes h ((addr - 4 * first_word h) / 4) ∙ ap (word_of bytes h) e

code_here : (b x : Bool) (q : Part) (a w : ℕ) → q.executable ≡ x → (b ≡ true → word_in q a ≡ w) → elim b as (λ _. Option ℕ) [ true ↦ code_in (Some q) a | false ↦ None ] ≡ cond (b && x) (Some w) None
code_here false x q a w e word = refl
code_here true true q a w e word = rw e (ap (λ v. Some v) (word refl))
code_here true false q a w e word = rw e refl

whole_at : (a : ℕ) → (a % 4 == 0) ≡ true → 4 * (a / 4) ≡ a
whole_at a e = grind arith

code_none : (b : Bool) (a : ℕ) → elim b as (λ _. Option ℕ) [ true ↦ code_in None a | false ↦ None ] ≡ None
code_none true a = refl
code_none false a = refl

and_true : (b : Bool) → (b && true) ≡ b
and_true true = refl
and_true false = refl

-- the program of a file that is loaded: its parts stand apart, and are those of its segments
record Laid (bytes : List ℕ) (p : Program) : Type 0 where
  parts : p.parts ≡ map (part_of bytes) (by_address (segments bytes))
  apart : AreApart 4096 p.memory p.parts

laid : (bytes : List ℕ) (s : RawSettings) (p : Program) → IsSetting s → image_of bytes s ≡ Ok p → Laid bytes p
unfolding program_of
laid bytes s p is e =
    let loaded = is_loaded bytes s p e in
    let apart = parts_apart bytes (length bytes) s.memory (segments bytes) is.memory_pages is.memory_low (AreSegments-segments bytes) (are_taken _ _ _ loaded.taken) in
    subst (Laid bytes) (sym loaded.program) (record { parts = refl; apart = apart })

in_segment : (bytes : List ℕ) (p : Program) (h : ProgramHeader) (addr : ℕ) → Laid bytes p → Contains (segments bytes) h → touches h addr ≡ true → HoldsSegment bytes h p addr
in_segment bytes p h addr l has t =
    let part : Contains p.parts (part_of bytes h) =
    subst (λ (ps : List Part). Contains ps (part_of bytes h)) (sym l.parts) (Contains-map (part_of bytes) _ h (Contains-permutation _ _ h (IsPermutation-by_address (segments bytes)) has)) in
    let inside : is_in (part_of bytes h) addr ≡ true = is_in-touches (first_word h) (words_touched h.vaddr h.memsz) addr ∙ t in
    let here : part_at p.parts addr ≡ Some (part_of bytes h) = found 4096 p.memory p.parts (part_of bytes h) addr l.apart part inside in
    let ends = within (first_word h) (word_after h) (addr / 4) t in
    let low = low_first 4096 p.memory p.parts (part_of bytes h) l.apart part in
    let high = high_end 4096 p.memory p.parts (part_of bytes h) l.apart part in
    let mapped : may_load p addr ≡ true = between 4096 p.memory addr (omega (arith, low, ends.0)) (omega (arith, high, ends.1)) in
    record {
      first = ap (λ o. first_in o addr) here ∙ word_in-part bytes h addr ends.0;
      code = ap (λ o. elim (addr % 4 == 0) as (λ _. Option ℕ) [ true ↦ code_in o addr | false ↦ None ]) here
          ∙ code_here (addr % 4 == 0) (has_flag h.flags 1) (part_of bytes h) addr (word_of bytes h addr) refl
          (λ aligned. word_in-part bytes h addr ends.0 ∙ ap (word_of bytes h) (whole_at addr aligned));
      store = ap (λ o. may_load p addr && is_writable o) here ∙ ap (λ b. b && has_flag h.flags 2) mapped;
    }

pub holds_segment : (bytes : List ℕ) (s : RawSettings) (p : Program) (h : ProgramHeader) (addr : ℕ) → IsSetting s → image_of bytes s ≡ Ok p → Contains (segments bytes) h → touches h addr ≡ true → HoldsSegment bytes h p addr
holds_segment bytes s p h addr is e has t = in_segment bytes p h addr (laid bytes s p is e) has t

in_none : (bytes : List ℕ) (p : Program) (addr : ℕ) → Laid bytes p → All (λ h. touches h addr ≡ false) (segments bytes) → HoldsNothing p addr
in_none bytes p addr l out =
    let sorted : All (λ h. touches h addr ≡ false) (by_address (segments bytes)) = All-permutation (λ h. touches h addr ≡ false) _ _ (IsPermutation-by_address (segments bytes)) out in
    let outside : All (λ q. is_in q addr ≡ false) p.parts =
    subst (All (λ (q : Part). is_in q addr ≡ false)) (sym l.parts)
    (All-map (λ (q : Part). is_in q addr ≡ false) (part_of bytes) (by_address (segments bytes))
    (λ k d lt. is_in-touches _ _ addr ∙ sorted k d lt)) in
    let none : part_at p.parts addr ≡ None = missing p.parts addr outside in
    record {
      first = ap (λ o. first_in o addr) none;
      code = ap (λ o. elim (addr % 4 == 0) as (λ _. Option ℕ) [ true ↦ code_in o addr | false ↦ None ]) none ∙ code_none (addr % 4 == 0) addr;
      store = ap (λ o. may_load p addr && is_writable o) none ∙ and_true (may_load p addr);
    }

pub holds_nothing : (bytes : List ℕ) (s : RawSettings) (p : Program) (addr : ℕ) → IsSetting s → image_of bytes s ≡ Ok p → All (λ h. touches h addr ≡ false) (segments bytes) → HoldsNothing p addr
holds_nothing bytes s p addr is e out = in_none bytes p addr (laid bytes s p is e) out

-- a header that is found is one of the list, and passes the test
find_has : (q : ProgramHeader → Bool) (hs : List ProgramHeader) (h : ProgramHeader) → find q hs ≡ Some h → Contains hs h × (q h ≡ true)
find_has q [] h e = absurd cc
find_has q (g ∷ gs) h e = choice (find_has q gs h) (q g) refl e
  where
    choice : (find q gs ≡ Some h → Contains gs h × (q h ≡ true)) → (b : Bool) → q g ≡ b → cond b (Some g) (find q gs) ≡ Some h → Contains (g ∷ gs) h × (q h ≡ true)
    choice later true t f = let same : g ≡ h = cc in ((0, omega arith, same), subst (λ (x : ProgramHeader). q x ≡ true) same t)
    choice later false t f = let there = later f in (Contains-later g gs h there.0, there.1)

first_fails : (a b : Bool) → (a && b) ≡ false → b ≡ true → a ≡ false
first_fails false b e t = refl
first_fails true b e t = absurd cc

some_code : (b x : Bool) (w : ℕ) → x ≡ true → is_none (if b && x then Some w else None) ≡ not (b && true)
some_code true x w e = rw e refl
some_code false x w e = refl

no_code : (b x : Bool) (w : ℕ) → x ≡ false → ◌≡◌ {A = Option ℕ} (if b && x then Some w else None) None
no_code true x w e = rw e refl
no_code false x w e = refl

never : (b : Bool) → true ≡ not (b && false)
never true = refl
never false = refl

-- an address has a code word if and only if a segment has one there
code_there : (bytes : List ℕ) (p : Program) (addr : ℕ) → Laid bytes p → is_none (code_at p addr) ≡ not (is_code (segments bytes) addr)
code_there bytes p addr l = by_code (find (has_code addr) (segments bytes)) refl
  where
    by_touch : All (λ h. has_code addr h ≡ false) (segments bytes) → (o : Option ProgramHeader) → find (λ h. touches h addr) (segments bytes) ≡ o → code_at p addr ≡ None
    by_touch out (Some h) f =
        let there = find_has (λ h. touches h addr) (segments bytes) h f in
        let held = in_segment bytes p h addr l there.0 there.1 in
        held.code ∙ no_code (addr % 4 == 0) (has_flag h.flags 1) (word_of bytes h addr) (first_fails _ _ (All-contains (λ h. has_code addr h ≡ false) (segments bytes) h out there.0) there.1)
    by_touch out None f = let held = in_none bytes p addr l (all_fail (λ h. touches h addr) (segments bytes) f) in held.code

    by_code : (o : Option ProgramHeader) → find (has_code addr) (segments bytes) ≡ o → is_none (code_at p addr) ≡ not ((addr % 4 == 0) && is_some (find (has_code addr) (segments bytes)))
    by_code (Some h) e =
        let there = find_has (has_code addr) (segments bytes) h e in
        let tests = and_parts (has_flag h.flags 1) (touches h addr) there.1 in
        let held = in_segment bytes p h addr l there.0 tests.1 in
        ap is_none held.code ∙ some_code (addr % 4 == 0) (has_flag h.flags 1) (word_of bytes h addr) tests.0
        ∙ sym (ap (λ (o : Option ProgramHeader). not ((addr % 4 == 0) && is_some o)) e)
    by_code None e =
        ap is_none (by_touch (all_fail (has_code addr) (segments bytes) e) (find (λ h. touches h addr) (segments bytes)) refl)
        ∙ never (addr % 4 == 0) ∙ sym (ap (λ (o : Option ProgramHeader). not ((addr % 4 == 0) && is_some o)) e)

-- so the entry is tested by the segments
pub entry_there : (bytes : List ℕ) (s : RawSettings) → s.memory % 4096 ≡ 0 → 65536 ≤ s.memory → segment_refusal (length bytes) s.memory (segments bytes) ≡ None
    → starts_outside (program_of bytes s) ≡ not (is_code (segments bytes) (file_header bytes).entry)
unfolding program_of
entry_there bytes s pages low taken =
    code_there bytes (program_of bytes s) (file_header bytes).entry (record {
      parts = refl;
      apart = parts_apart bytes (length bytes) s.memory (segments bytes) pages low (AreSegments-segments bytes) (are_taken _ _ _ taken);
    })

highest-before_higher : (h : ProgramHeader) (hs : List ProgramHeader) → highest (before_higher h hs) ≡ max (memory_end h) (highest hs)
highest-before_higher h [] = refl
highest-before_higher h (g ∷ gs) =
    let later : highest (before_higher h gs) ≡ max (memory_end h) (highest gs) = highest-before_higher h gs in
    elim (leb h.vaddr g.vaddr) as (λ b. highest (cond b (h ∷ g ∷ gs) (g ∷ before_higher h gs)) ≡ max (memory_end h) (max (memory_end g) (highest gs))) [
      | true ↦ refl
      | false ↦ omega (arith, later)
    ]

highest-by_address : (hs : List ProgramHeader) → highest (by_address hs) ≡ highest hs
highest-by_address [] = refl
highest-by_address (h ∷ hs) = highest-before_higher h (by_address hs) ∙ ap (λ n. max (memory_end h) n) (highest-by_address hs)

highest_end-parts : (bytes : List ℕ) (hs : List ProgramHeader) → AreSegments hs → highest_end (map (part_of bytes) hs) ≡ 4 * ((highest hs + 3) / 4)
highest_end-parts bytes [] are = refl
highest_end-parts bytes (h ∷ hs) are =
    let later = highest_end-parts bytes hs (All-tail (λ g. is_segment g ≡ true) h hs are) in
    omega (arith, later, words_touched-some h.vaddr h.memsz (size_positive h (All-head (λ g. is_segment g ≡ true) h hs are)))

pages : (n : ℕ) → (4 * ((n + 3) / 4) + 4095) / 4096 * 4096 ≡ (n + 4095) / 4096 * 4096
pages n = omega arith

pub heap_after : (bytes : List ℕ) (s : RawSettings) (p : Program) → IsSetting s → image_of bytes s ≡ Ok p → heap_start p ≡ (highest (segments bytes) + 4095) / 4096 * 4096
heap_after bytes s p is e =
    let l = laid bytes s p is e in
    let all : AreSegments (by_address (segments bytes)) = All-permutation (λ h. is_segment h ≡ true) _ _ (IsPermutation-by_address (segments bytes)) (AreSegments-segments bytes) in
    let end : highest_end p.parts ≡ 4 * ((highest (segments bytes) + 3) / 4) =
    ap highest_end l.parts ∙ highest_end-parts bytes (by_address (segments bytes)) all ∙ ap (λ n. 4 * ((n + 3) / 4)) (highest-by_address (segments bytes)) in
    ap (λ n. (n + 4095) / 4096 * 4096) end ∙ pages (highest (segments bytes))
