-- Pages of slots.
use Rattle.race_log.proofs.Common.{◌≡◌, ◌≢◌, ℕ, zero, suc, ◌+◌, ◌-◌, ◌*◌, ◌/◌, ◌%◌, ◌<◌, ◌≤◌, Bool, true, false, ◌==◌, cond, refl, inl, inr, arith, sym, ap, ◌∙◌, List, [], ◌∷◌, ◌++◌, Some, slice_get, slice_set, slice_index_or, length, subst, IsTrue, Vec, Global, slice_get-get_or, cases_eq, cases_lt, Slot, Epoch, KeptWords, Kept, Replaces, word_in, slots_of, IsSettledPage, AreSettled, AreFull, sum_below, place_of, has_room, HasPages}
use Rattle.race_log.proofs.BoolFacts.{known, same_number}
use Rattle.race_log.proofs.Agree.{same_test}
use Rattle.race_log.proofs.PageLemmas.{get_here, get_there, word_none, places_apart}
use Rattle.race_log.proofs.SweepLemmas.{sum_same}

-- ---- a page that is written

pub page_at : (pages : List (Vec Slot Global)) (n : ℕ) (p : Vec Slot Global) → n < length pages → p ≡ slice_index_or pages n p → slots_of (slice_get pages n) ≡ p.items
page_at pages n p low e = ap slots_of (slice_get-get_or pages n p low ∙ ap Some (sym e))

pub page_here : (pages : List (Vec Slot Global)) (n : ℕ) (v : Vec Slot Global) → n < length pages → slots_of (slice_get (slice_set pages n v) n) ≡ v.items
page_here pages n v low = ap slots_of (get_here pages n v low)

pub page_there : (pages : List (Vec Slot Global)) (n m : ℕ) (v : Vec Slot Global) → m ≢ n → slots_of (slice_get (slice_set pages n v) m) ≡ slots_of (slice_get pages m)
page_there pages n m v apart = ap slots_of (get_there pages n m v apart)

pub full_set : (harts : ℕ) (pages : List (Vec Slot Global)) (n : ℕ) (v : Vec Slot Global) → n < length pages
    → (0 < length v.items → length v.items ≡ 64 * (harts + 1)) → AreFull harts pages → AreFull harts (slice_set pages n v)
full_set harts pages n v low own all m = elim (cases_eq m n) [
  | inl e ↦ subst (λ (xs : List Slot). 0 < length xs → length xs ≡ 64 * (harts + 1)) (sym (ap (λ k. slots_of (slice_get (slice_set pages n v) k)) e ∙ page_here pages n v low)) own
  | inr apart ↦ subst (λ (xs : List Slot). 0 < length xs → length xs ≡ 64 * (harts + 1)) (sym (page_there pages n m v apart)) (all m)
]

pub settled_page_set : (table : List Epoch) (next : ℕ) (pages : List (Vec Slot Global)) (n : ℕ) (v : Vec Slot Global) → n < length pages
    → IsSettledPage table next v.items → AreSettled table next pages → AreSettled table next (slice_set pages n v)
settled_page_set table next pages n v low own all m = elim (cases_eq m n) [
  | inl e ↦ subst (IsSettledPage table next) (sym (ap (λ k. slots_of (slice_get (slice_set pages n v) k)) e ∙ page_here pages n v low)) own
  | inr apart ↦ subst (IsSettledPage table next) (sym (page_there pages n m v apart)) (all m)
]

-- ---- a page without slots, at the end

pub push_same : (pages : List (Vec Slot Global)) (v : Vec Slot Global) → v.items ≡ [] → (n : ℕ) → slots_of (slice_get (pages ++ v ∷ []) n) ≡ slots_of (slice_get pages n)
push_same [] v e zero = e
push_same [] v e (suc n) = refl
push_same (p ∷ pages) v e zero = refl
push_same (p ∷ pages) v e (suc n) = push_same pages v e n

pub push_or_same : (b : Bool) (pages news : List (Vec Slot Global)) (v : Vec Slot Global) → v.items ≡ [] → news ≡ cond b (pages ++ v ∷ []) pages
    → (n : ℕ) → slots_of (slice_get news n) ≡ slots_of (slice_get pages n)
push_or_same true pages news v e is n = ap (λ ps. slots_of (slice_get ps n)) is ∙ push_same pages v e n
push_or_same false pages news v e is n = ap (λ ps. slots_of (slice_get ps n)) is

-- and there is at most one more
pub push_most : (b : Bool) (old new : ℕ) → new ≡ cond b (old + 1) old → new ≤ old + 1
push_most true old new e = omega (arith, e)
push_most false old new e = omega (arith, e)

pub full_same : (harts : ℕ) (pages news : List (Vec Slot Global)) → ((n : ℕ) → slots_of (slice_get news n) ≡ slots_of (slice_get pages n)) → AreFull harts pages → AreFull harts news
full_same harts pages news same all n = subst (λ (xs : List Slot). 0 < length xs → length xs ≡ 64 * (harts + 1)) (sym (same n)) (all n)

pub settled_same : (table : List Epoch) (next : ℕ) (pages news : List (Vec Slot Global)) → ((n : ℕ) → slots_of (slice_get news n) ≡ slots_of (slice_get pages n))
    → AreSettled table next pages → AreSettled table next news
settled_same table next pages news same all n = subst (IsSettledPage table next) (sym (same n)) (all n)

-- ---- what is kept

-- slots that are given to a page that has none keep nothing
pub remade : (counts : ℕ → ℕ → ℕ) (harts : ℕ) (old new : List Slot) (at : ℕ) → (0 < length old → new ≡ old)
    → (length old ≡ 0 → (j : ℕ) (s : Slot) → slice_get new j ≡ Some s → s.after ≡ 0) → word_in counts harts new at ≡ word_in counts harts old at
remade counts harts [] new at same none = word_none counts harts new at (none refl) ∙ sym (word_none counts harts [] at (λ j s e. absurd (no_slot j s e)))
  where
    no_slot : (j : ℕ) (s : Slot) → slice_get [] j ≡ Some s → ⊥
    no_slot j s e = cc
remade counts harts (x ∷ xs) new at same none = ap (λ ys. word_in counts harts ys at) (same (omega arith))

pub room_is : (page : List Slot) (harts : ℕ) → IsTrue (length page == 64 * (harts + 1)) → length page ≡ 64 * (harts + 1)
room_is page harts t = same_number (length page) (64 * (harts + 1)) t

pub is_room : (page : List Slot) (harts : ℕ) → length page ≡ 64 * (harts + 1) → IsTrue (length page == 64 * (harts + 1))
is_room page harts e = same_test (length page) (64 * (harts + 1)) e

-- the page of a word of a range is the page of the range's first word, or begins in the range
pub room_at : (words : KeptWords) (first count number w : ℕ) → first % 4 ≡ 0 → 0 < count → HasPages words first count
    → first / 256 ≤ number → number ≤ (first + 4 * (count - 1)) / 256 → w / 256 ≡ number → IsTrue (has_room words w)
room_at words first count number w aligned some all low high is = elim (cases_eq (first / 256) number) [
  | inl e ↦ at 0 some (omega (arith, e))
  | inr e ↦ at ((256 * number - first) / 4) (omega (arith, e, low, high, aligned)) (omega (arith, e, low, high, aligned))
]
  where
    at : (k : ℕ) → k < count → (first + 4 * k) / 256 ≡ number → IsTrue (has_room words w)
    at k below e = subst (λ n. IsTrue (length (slots_of (slice_get words.pages.items n)) == 64 * (words.harts + 1))) (e ∙ sym is) (all k below)

-- without pages nothing is kept
pub empty_word : (counts : ℕ → ℕ → ℕ) (harts : ℕ) (pages : List (Vec Slot Global)) (w : ℕ) → pages ≡ []
    → cond (w % 4 == 0) (word_in counts harts (slots_of (slice_get pages (w / 256))) (place_of harts w)) [] ≡ []
empty_word counts harts pages w e =
    ap (λ ks. cond (w % 4 == 0) ks [])
    (ap (λ ps. word_in counts harts (slots_of (slice_get ps (w / 256))) (place_of harts w)) e ∙ word_none counts harts (slots_of (slice_get [] (w / 256))) (place_of harts w) (λ j s at. absurd (none (w / 256) j s at)))
    ∙ same (w % 4 == 0)
  where
    none : (n j : ℕ) (s : Slot) → slice_get (slots_of (slice_get [] n)) j ≡ Some s → ⊥
    none n j s at = cc

    same : (b : Bool) → ◌≡◌ {A = List Kept} (cond b [] []) []
    same true = refl
    same false = refl

-- ---- an access that is kept of a word

-- another word has its slots in another page, or elsewhere in the same
pub other_word : (counts : ℕ → ℕ → ℕ) (harts : ℕ) (old new : List (Vec Slot Global)) (word w : ℕ) → word % 4 ≡ 0 → w ≢ word
    → (w / 256 ≢ word / 256 → slots_of (slice_get new (w / 256)) ≡ slots_of (slice_get old (w / 256)))
    → (w / 256 ≡ word / 256 → place_of harts w + harts < place_of harts word
    → word_in counts harts (slots_of (slice_get new (w / 256))) (place_of harts w) ≡ word_in counts harts (slots_of (slice_get old (w / 256))) (place_of harts w))
    → (w / 256 ≡ word / 256 → place_of harts word + harts < place_of harts w
    → word_in counts harts (slots_of (slice_get new (w / 256))) (place_of harts w) ≡ word_in counts harts (slots_of (slice_get old (w / 256))) (place_of harts w))
    → cond (w % 4 == 0) (word_in counts harts (slots_of (slice_get new (w / 256))) (place_of harts w)) []
    ≡ cond (w % 4 == 0) (word_in counts harts (slots_of (slice_get old (w / 256))) (place_of harts w)) []
other_word counts harts old new word w aligned apart far below above = elim (known (w % 4 == 0)) [
  | inr f ↦ rw f refl
  | inl t ↦
      let e = same_number (w % 4) 0 t in
      ap (λ ks. cond (w % 4 == 0) ks []) (elim (cases_eq (w / 256) (word / 256)) [
        | inr pages ↦ ap (λ xs. word_in counts harts xs (place_of harts w)) (far pages)
        | inl same ↦ elim (cases_lt (w / 4 % 64) (word / 4 % 64)) [
          | inl low ↦ below same (places_apart (w / 4 % 64) (word / 4 % 64) harts low)
          | inr high ↦ above same (places_apart (word / 4 % 64) (w / 4 % 64) harts (past e same high))
        ]
      ])
]
  where
    past : w % 4 ≡ 0 → w / 256 ≡ word / 256 → word / 4 % 64 ≤ w / 4 % 64 → word / 4 % 64 < w / 4 % 64
    past e same high = elim (cases_lt (word / 4 % 64) (w / 4 % 64)) [
      | inl low ↦ low
      | inr least ↦ absurd (apart (omega (arith, e, aligned, same, high, least)))
    ]

-- a page that has slots is among the pages
pub some_page : (pages : List (Vec Slot Global)) (n harts : ℕ) → length (slots_of (slice_get pages n)) ≡ 64 * (harts + 1) → n < length pages
some_page [] n harts e = absurd (none n e)
  where
    none : (n : ℕ) → length (slots_of (slice_get [] n)) ≡ 64 * (harts + 1) → ⊥
    none n h = omega (arith, h)
some_page (p ∷ pages) zero harts e = omega arith
some_page (p ∷ pages) (suc n) harts e = let low = some_page pages n harts e in omega (arith, low)

pub at_aligned : (k : Kept) (word : ℕ) (old new : List Kept) → word % 4 ≡ 0 → Replaces k old new
    → Replaces k (cond (word % 4 == 0) old []) (cond (word % 4 == 0) new [])
at_aligned k word old new e r = let t : (word % 4 == 0) ≡ true = same_test (word % 4) 0 e in rw t r

pub slot_low : (pages : List (Vec Slot Global)) (n at : ℕ) (s : Slot) → slice_get (slots_of (slice_get pages n)) at ≡ Some s → n < length pages
slot_low [] n at s e = absurd (none n at e)
  where
    none : (n at : ℕ) → slice_get (slots_of (slice_get [] n)) at ≡ Some s → ⊥
    none n at h = cc
slot_low (p ∷ pages) zero at s e = omega arith
slot_low (p ∷ pages) (suc n) at s e = let low = slot_low pages n at s e in omega (arith, low)

-- ---- pages that are swept

-- the places of the slots of a page's words
pub kept_word : (counts : ℕ → ℕ → ℕ) (harts : ℕ) (pages : List (Vec Slot Global)) (n i : ℕ) → i < 64
    → cond (4 * (64 * n + i) % 4 == 0) (word_in counts harts (slots_of (slice_get pages (4 * (64 * n + i) / 256))) (place_of harts (4 * (64 * n + i)))) []
    ≡ word_in counts harts (slots_of (slice_get pages n)) (i * (harts + 1))
kept_word counts harts pages n i low =
    let t : (4 * (64 * n + i) % 4 == 0) ≡ true = same_test (4 * (64 * n + i) % 4) 0 (omega arith) in
    let page : 4 * (64 * n + i) / 256 ≡ n = omega (arith, low) in
    let place : 4 * (64 * n + i) / 4 % 64 ≡ i = omega (arith, low) in
    ap (λ b. cond b (word_in counts harts (slots_of (slice_get pages (4 * (64 * n + i) / 256))) (place_of harts (4 * (64 * n + i)))) []) t
    ∙ (ap (λ m. word_in counts harts (slots_of (slice_get pages m)) (place_of harts (4 * (64 * n + i)))) page
    ∙ ap (λ m. word_in counts harts (slots_of (slice_get pages n)) (m * (harts + 1))) place)

-- how many accesses are kept of the words of a page
pub page_sum : (counts : ℕ → ℕ → ℕ) (harts : ℕ) (pages : List (Vec Slot Global)) (n : ℕ) (xs : List Slot) → slots_of (slice_get pages n) ≡ xs
    → sum_below (λ i. length (cond (4 * (64 * n + i) % 4 == 0) (word_in counts harts (slots_of (slice_get pages (4 * (64 * n + i) / 256))) (place_of harts (4 * (64 * n + i)))) [])) 64
    ≡ sum_below (λ i. length (word_in counts harts xs (i * (harts + 1)))) 64
page_sum counts harts pages n xs e =
    sum_same (λ i. length (cond (4 * (64 * n + i) % 4 == 0) (word_in counts harts (slots_of (slice_get pages (4 * (64 * n + i) / 256))) (place_of harts (4 * (64 * n + i)))) []))
    (λ i. length (word_in counts harts xs (i * (harts + 1)))) 64
    (λ i low. ap length (kept_word counts harts pages n i low ∙ ap (λ ys. word_in counts harts ys (i * (harts + 1))) e))

-- past the pages nothing is kept
pub past_word : (counts : ℕ → ℕ → ℕ) (harts : ℕ) (pages : List (Vec Slot Global)) (w : ℕ) → length pages ≤ w / 256
    → cond (w % 4 == 0) (word_in counts harts (slots_of (slice_get pages (w / 256))) (place_of harts w)) [] ≡ []
past_word counts harts pages w past =
    ap (λ ks. cond (w % 4 == 0) ks [])
    (ap (λ xs. word_in counts harts xs (place_of harts w)) (none pages (w / 256) past) ∙ word_none counts harts [] (place_of harts w) (λ j s at. absurd (no_slot j s at)))
    ∙ same (w % 4 == 0)
  where
    none : (ps : List (Vec Slot Global)) (n : ℕ) → length ps ≤ n → slots_of (slice_get ps n) ≡ []
    none [] n low = refl
    none (p ∷ ps) zero low = absurd (omega (arith, low))
    none (p ∷ ps) (suc n) low = none ps n (omega (arith, low))

    no_slot : (j : ℕ) (s : Slot) → slice_get [] j ≡ Some s → ⊥
    no_slot j s at = cc

    same : (b : Bool) → ◌≡◌ {A = List Kept} (cond b [] []) []
    same true = refl
    same false = refl
