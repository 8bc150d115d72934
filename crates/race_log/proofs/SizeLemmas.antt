-- How many pages and slots there are.
use Rattle.race_log.proofs.Common.{◌≡◌, ℕ, zero, suc, ◌+◌, ◌-◌, ◌*◌, ◌<◌, ◌≤◌, Bool, true, false, cond, refl, inl, inr, arith, sym, ap, ◌∙◌, length, slice_get, slice_set, IsTrue, Vec, List, Global, cases_eq, cases_lt, false≢true, Slot, KeptWords, slots_of, slots_in, sum_below, has_epoch, AreAllUsed, IsAsLarge, MakesPages}
use Rattle.race_log.specs.declared.epochs.Epochs.{Epochs}
use Rattle.race_log.proofs.EpochLemmas.{is_free, begin_low}
use Rattle.race_log.proofs.PagesLemmas.{page_here, page_there}
use Rattle.race_log.proofs.SweepLemmas.{sum_same, sum_parts}

-- ---- equal sizes

pub same_size : (s : KeptWords) → IsAsLarge s s
same_size s = record { pages = refl; slots = λ page. refl; epochs = refl; limit = refl }

pub more_size : (s t u : KeptWords) → IsAsLarge s t → IsAsLarge t u → IsAsLarge s u
more_size s t u a b = record { pages = b.pages ∙ a.pages; slots = λ page. b.slots page ∙ a.slots page; epochs = b.epochs ∙ a.epochs; limit = b.limit ∙ a.limit }

-- a write to a page keeps the number of its slots
pub sizes_set : (pages : List (Vec Slot Global)) (n : ℕ) (v : Vec Slot Global) → n < length pages → length v.items ≡ length (slots_of (slice_get pages n))
    → (page : ℕ) → length (slots_of (slice_get (slice_set pages n v) page)) ≡ length (slots_of (slice_get pages page))
sizes_set pages n v low same page = elim (cases_eq page n) [
  | inl e ↦
      ap (λ k. length (slots_of (slice_get (slice_set pages n v) k))) e
      ∙ (ap length (page_here pages n v low) ∙ (same ∙ sym (ap (λ k. length (slots_of (slice_get pages k))) e)))
  | inr far ↦ ap length (page_there pages n page v far)
]

-- as many slots on each page are as many together
pub slots_same : (old new : List (Vec Slot Global)) → length new ≡ length old
    → ((page : ℕ) → length (slots_of (slice_get new page)) ≡ length (slots_of (slice_get old page))) → slots_in new ≡ slots_in old
slots_same old new pages same =
    ap (sum_below (λ n. length (slots_of (slice_get new n)))) pages
    ∙ sum_same (λ n. length (slots_of (slice_get new n))) (λ n. length (slots_of (slice_get old n))) (length old) (λ n low. same n)

sum_more : (f g : ℕ → ℕ) (n : ℕ) → ((i : ℕ) → f i ≤ g i) → sum_below f n ≤ sum_below g n
unfolding sum_below
sum_more f g zero more = omega arith
sum_more f g (suc n) more = omega (arith, sum_more f g n more, more n)

-- if no page has fewer, and there are no fewer pages, there are no fewer slots together
pub slots_more : (old new : List (Vec Slot Global)) → length old ≤ length new
    → ((page : ℕ) → length (slots_of (slice_get old page)) ≤ length (slots_of (slice_get new page))) → slots_in old ≤ slots_in new
slots_more old new pages more =
    let each = sum_more (λ n. length (slots_of (slice_get old n))) (λ n. length (slots_of (slice_get new n))) (length old) more in
    let parts = sum_parts (λ n. length (slots_of (slice_get new n))) (length old) (length new - length old) in
    let all : sum_below (λ n. length (slots_of (slice_get new n))) (length new) ≡ sum_below (λ n. length (slots_of (slice_get new n))) (length old + (length new - length old))
    = ap (sum_below (λ n. length (slots_of (slice_get new n)))) (omega (arith, pages)) in
    omega (arith, each, parts, all)

pub push_least : (b : Bool) (old new : ℕ) → new ≡ cond b (old + 1) old → old ≤ new
push_least true old new e = omega (arith, e)
push_least false old new e = omega (arith, e)

-- a page has no more slots than 64 words have
pub small : (harts n : ℕ) → (0 < n → n ≡ 64 * (harts + 1)) → n ≤ 64 * (harts + 1)
small harts n full = elim (cases_lt 0 n) [
  | inl some ↦ (let e = full some in omega (arith, e))
  | inr none ↦ omega (arith, none)
]

-- ---- if an epoch can begin, not all are used

pub not_all_used : (s : Epochs) → IsTrue (has_epoch s) → AreAllUsed s → ⊥
not_all_used s room all =
    false≢true (sym (is_free s.table.items s.next room) ∙ all s.next (omega arith) (begin_low s.table.items s.next room))

-- ---- pages of a range

pub makes_none : (first n : ℕ) (s : KeptWords) → MakesPages first n s s
makes_none first n s = record { pages = omega arith; others = λ page out. refl }
