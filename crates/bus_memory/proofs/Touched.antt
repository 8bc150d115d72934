-- Which pages a program's parts touch.
use Rattle.bus_memory.proofs.Common.{arith, ◌≡◌, ◌≤◌, ◌<◌, ◌+◌, ◌*◌, ◌/◌, ◌%◌, ◌||◌, ℕ, Bool, true, false, List, [], ◌∷◌, length, get_or, refl, sym, ap, ◌∙◌, ◌⊎◌, inl, inr, Option, None, cases_lt, Program, Part, AreApart, end_of, is_in, part_or, part_at, first_in, first_at, HoldsMap, has_page, shares_page, is_touched, Frame, no_frame, contents_of, IsFirstFrame}
use Rattle.std.specs.List.{list_any}
use Rattle.bus_memory.proofs.Laws.{length_words, word_at, made_at, no_page_at}

neither : (x y : Bool) → (x || y) ≡ false → (x ≡ false) × (y ≡ false)
neither false y h = (refl, h)
neither true y h = (h, absurd (true_false h))
  where
    true_false : true ≡ false → ⊥
    true_false e = cc

not_in : (p : Part) (page a : ℕ) → shares_page p.first (end_of p) page ≡ false → 4096 * page ≤ a → a < 4096 * page + 4096 → is_in p a ≡ false
not_in p page a h low high = Prim.grind arith

-- no part has an address of a page that none touches
none_at : (ps : List Part) (page a : ℕ) → list_any (λ p. shares_page p.first (end_of p) page) ps ≡ false → 4096 * page ≤ a → a < 4096 * page + 4096 → part_at ps a ≡ None
none_at [] page a h low high = refl
none_at (p ∷ ps) page a h low high =
    let parts = neither (shares_page p.first (end_of p) page) (list_any (λ p. shares_page p.first (end_of p) page) ps) h in
    ap (λ t. part_or t p (part_at ps a)) (not_in p page a parts.0 low high) ∙ none_at ps page a parts.1 low high

-- the words of a page that no part touches are 0
pub untouched : (i : Program) (page k : ℕ) → is_touched i page ≡ false → k < 1024 → 0 ≡ first_at i (4096 * page + 4 * k)
untouched i page k h below =
    sym (ap (λ (o : Option Part). first_in o (4096 * page + 4 * k)) (none_at i.parts page (4096 * page + 4 * k) h (omega arith) (omega (arith, below))))

apart_order : (low high : ℕ) (ps : List Part) → AreApart low high ps → low ≤ high
apart_order low high [] h = h
apart_order low high (p ∷ ps) h = let later = apart_order (end_of p) high ps h.1 in omega (arith, later, h.0)

not_shared : (first end page : ℕ) → end ≤ 4096 * page → shares_page first end page ≡ false
not_shared first end page h = Prim.grind arith

-- no part touches a page past the memory
pub none_past : (low high : ℕ) (ps : List Part) (page : ℕ) → AreApart low high ps → high ≤ 4096 * page → list_any (λ p. shares_page p.first (end_of p) page) ps ≡ false
none_past low high [] page h past = refl
none_past low high (p ∷ ps) page h past =
    let ends = apart_order (end_of p) high ps h.1 in
    ap (λ t. t || list_any (λ p. shares_page p.first (end_of p) page) ps) (not_shared p.first (end_of p) page (omega (arith, ends, past))) ∙ none_past (end_of p) high ps page h.1 past

-- the first pages of a program
abbrev pub FirstPages : Program → List Frame → ℕ → Type 0
FirstPages i fs n = (j : ℕ) → j < n → IsFirstFrame i j (get_or fs j no_frame)

-- they hold the program's first words
pub first_words_held : (i : Program) (fs : List Frame) (n : ℕ) → n ≡ length fs → FirstPages i fs n → HoldsMap (contents_of fs).words (first_at i)
first_words_held i fs n len first = record { at = at }
  where
    at : (a : ℕ) → a % 4 ≡ 0 → a < 4 * length (contents_of fs).words → get_or (contents_of fs).words (a / 4) 0 ≡ first_at i a
    at a aligned below =
        let within : a / 4 < 1024 * length fs = omega (arith, below, length_words fs) in
        let place : 4096 * (a / 4 / 1024) + 4 * (a / 4 % 1024) ≡ a = omega (arith, aligned) in
        word_at fs (a / 4) within ∙ (first (a / 4 / 1024) (omega (arith, within, len))).words (a / 4 % 1024) (omega arith) ∙ ap (first_at i) place

-- the pages that are made are those that a part touches
pub first_pages_made : (i : Program) (fs : List Frame) (n a : ℕ) → n ≡ length fs → i.memory ≤ 4096 * n → AreApart 4096 i.memory i.parts → FirstPages i fs n → has_page (contents_of fs) a ≡ is_touched i (a / 4096)
first_pages_made i fs n a len size apart first = by_place (cases_lt (a / 4096) n)
  where
    by_place : (a / 4096 < n) ⊎ (n ≤ a / 4096) → has_page (contents_of fs) a ≡ is_touched i (a / 4096)
    by_place (inl below) = made_at fs (a / 4096) ∙ (first (a / 4096) below).made
    by_place (inr past) =
        sym (no_page_at fs (a / 4096) a refl (omega (arith, past, len))) ∙ sym (none_past 4096 i.memory i.parts (a / 4096) apart (omega (arith, past, size)))
