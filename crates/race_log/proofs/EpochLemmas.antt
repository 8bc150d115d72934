-- Epochs and which of them are used.
use Rattle.race_log.proofs.Common.{◌≡◌, ◌≢◌, ℕ, ◌+◌, ◌<◌, ◌≤◌, ◌∷◌, [], zero, suc, Bool, true, false, cond, not, ◌&&◌, ◌++◌, refl, inl, inr, arith, sym, ap, ◌∙◌, List, Some, slice_get, slice_set, slice_index, slice_index_or, length, subst, IsTrue, nat_lt, lt-ltb, ltb-true, slice_get-get_or, false≢true, cases_eq, get_or-set_same, get_or-set_other, count_of, Epoch, counts_of, is_marked, is_settled, AreSettledNow}
use Rattle.race_log.proofs.PageLemmas.{get_here, get_there}
use Rattle.race_log.proofs.BoolFacts.{and_left, or_split, or_first, or_second, both}

-- the mark that is read
pub marked_at : (table : List Epoch) (place : ℕ) (s : Epoch) → place < length table → s ≡ slice_index_or table place s → is_marked (slice_get table place) ≡ s.used
marked_at table place s low e = ap is_marked (slice_get-get_or table place s low ∙ ap Some (sym e))

-- past an epoch that is used, all that were pinned still are
pub settled_on : (table : List Epoch) (next i : ℕ) → IsTrue (is_settled table next i) → IsTrue (is_settled table (next + 1) i)
settled_on table next i t = elim (or_split (nat_lt i next) (is_marked (slice_get table i)) t) [
  | inl below ↦
      let low = ltb-true i next below in
      (or_first (nat_lt i (next + 1)) (is_marked (slice_get table i)) (lt-ltb i (next + 1) (omega (arith, low))))
  | inr used ↦ (or_second (nat_lt i (next + 1)) (is_marked (slice_get table i)) used)
]

-- an epoch that isn't used can begin
pub can_begin : (table : List Epoch) (next : ℕ) → next < length table → is_marked (slice_get table next) ≡ false
    → IsTrue (nat_lt next (length table) && not (is_marked (slice_get table next)))
can_begin table next low free = (both (nat_lt next (length table)) (not (is_marked (slice_get table next))) (lt-ltb next (length table) low) (ap not free))

pub is_free : (table : List Epoch) (next : ℕ) → IsTrue (nat_lt next (length table) && not (is_marked (slice_get table next))) → is_marked (slice_get table next) ≡ false
is_free table next t = go (nat_lt next (length table)) (is_marked (slice_get table next)) t
  where
    go : (a b : Bool) → (a && not b) ≡ true → b ≡ false
    go a false h = refl
    go true true h = cc
    go false true h = cc

-- ---- an epoch that begins

pub settled_apart : (table : List Epoch) (next i : ℕ) → IsTrue (is_settled table next i) → is_marked (slice_get table next) ≡ false → i ≢ next
settled_apart table next i t free e = elim (or_split (nat_lt i next) (is_marked (slice_get table i)) t) [
  | inl below ↦ (let low = ltb-true i next below in omega (arith, low, e))
  | inr used ↦ false≢true (sym free ∙ (ap (λ k. is_marked (slice_get table k)) (sym e) ∙ used))
]

pub settled_begin : (table : List Epoch) (next i : ℕ) (s : Epoch) → IsTrue (is_settled table next i) → IsTrue (is_settled (slice_set table next s) (next + 1) i)
settled_begin table next i s t = elim (or_split (nat_lt i next) (is_marked (slice_get table i)) t) [
  | inl below ↦ first (let low = ltb-true i next below in omega (arith, low))
  | inr used ↦ elim (cases_eq i next) [
    | inl e ↦ first (omega (arith, e))
    | inr apart ↦ or_second (nat_lt i (next + 1)) (is_marked (slice_get (slice_set table next s) i)) (ap is_marked (get_there table next i s apart) ∙ used)
  ]
]
  where
    first : i < next + 1 → IsTrue (is_settled (slice_set table next s) (next + 1) i)
    first low = or_first (nat_lt i (next + 1)) (is_marked (slice_get (slice_set table next s) i)) (lt-ltb i (next + 1) low)

pub settled_new : (table : List Epoch) (next : ℕ) → IsTrue (is_settled table (next + 1) next)
settled_new table next = or_first (nat_lt next (next + 1)) (is_marked (slice_get table next)) (lt-ltb next (next + 1) (omega arith))

pub begin_low : (table : List Epoch) (next : ℕ) → IsTrue (nat_lt next (length table) && not (is_marked (slice_get table next))) → next < length table
begin_low table next t = ltb-true next (length table) (and_left (nat_lt next (length table)) (not (is_marked (slice_get table next))) t)

pub settled_now_begin : (table : List Epoch) (next : ℕ) (present : List ℕ) (hart : ℕ) (s : Epoch) → hart < length present
    → AreSettledNow table next present → AreSettledNow (slice_set table next s) (next + 1) (slice_set present hart next)
settled_now_begin table next present hart s low all g = elim (cases_eq g hart) [
  | inl e ↦
      subst (λ i. IsTrue (is_settled (slice_set table next s) (next + 1) i))
      (sym (ap (λ k. slice_index (slice_set present hart next) k) e ∙ get_or-set_same present hart next 0 low)) (settled_new (slice_set table next s) next)
  | inr apart ↦
      subst (λ i. IsTrue (is_settled (slice_set table next s) (next + 1) i)) (sym (get_or-set_other present hart g next 0 apart))
      (settled_begin table next (slice_index present g) s (all g))
]

-- ---- marks

marked_low : (table : List Epoch) (i : ℕ) → is_marked (slice_get table i) ≡ true → i < length table
marked_low [] i t = absurd (false≢true t)
marked_low (s ∷ table) zero t = omega arith
marked_low (s ∷ table) (suc i) t = let low = marked_low table i t in omega (arith, low)

pub settled_low : (table : List Epoch) (next i : ℕ) → next ≤ length table → IsTrue (is_settled table next i) → i < length table
settled_low table next i within t = elim (or_split (nat_lt i next) (is_marked (slice_get table i)) t) [
  | inl below ↦ (let low = ltb-true i next below in omega (arith, low, within))
  | inr used ↦ marked_low table i used
]

-- if all epochs come before the next, all are pinned
pub settled_full : (table news : List Epoch) (next i : ℕ) → next ≡ length table → IsTrue (is_settled table next i) → IsTrue (is_settled news next i)
settled_full table news next i full t =
    or_first (nat_lt i next) (is_marked (slice_get news i)) (let low = settled_low table next i (omega (arith, full)) t in lt-ltb i next (omega (arith, low, full)))

-- a mark changes no counts
pub mark_counts : (table : List Epoch) (place : ℕ) (s : Epoch) (used : Bool) → place < length table → s ≡ slice_index_or table place s
    → (i h : ℕ) → counts_of (slice_get (slice_set table place (record { times = s.times; used = used })) i) h ≡ counts_of (slice_get table i) h
mark_counts table place s used low e i h = elim (cases_eq i place) [
  | inl is ↦
      ap (λ k. counts_of (slice_get (slice_set table place (record { times = s.times; used = used })) k) h) is
      ∙ (ap (λ o. counts_of o h) (get_here table place (record { times = s.times; used = used }) low)
      ∙ (sym (ap (λ o. counts_of o h) (slice_get-get_or table place s low ∙ ap Some (sym e))) ∙ sym (ap (λ k. counts_of (slice_get table k) h) is)))
  | inr apart ↦ ap (λ o. counts_of o h) (get_there table place i (record { times = s.times; used = used }) apart)
]

pub mark_here : (table : List Epoch) (place : ℕ) (s : Epoch) → place < length table → s.used ≡ true → IsTrue (is_marked (slice_get (slice_set table place s) place))
mark_here table place s low e = ap is_marked (get_here table place s low) ∙ e

pub mark_stays : (table : List Epoch) (place i : ℕ) (s : Epoch) → place < length table → s.used ≡ true
    → IsTrue (is_marked (slice_get table i)) → IsTrue (is_marked (slice_get (slice_set table place s) i))
mark_stays table place i s low e t = elim (cases_eq i place) [
  | inl is ↦ ap (λ k. is_marked (slice_get (slice_set table place s) k)) is ∙ mark_here table place s low e
  | inr apart ↦ ap is_marked (get_there table place i s apart) ∙ t
]

-- the same with the next one given by another number
pub settled_grown : (table news : List Epoch) (next later i : ℕ) → next ≡ length table → later ≡ next → IsTrue (is_settled table next i) → IsTrue (is_settled news later i)
settled_grown table news next later i full same t = subst (λ n. IsTrue (is_settled news n i)) (sym same) (settled_full table news next i full t)

-- ---- an epoch at the end of the table

-- one that knows of no point changes no counts
pub push_counts : (b : Bool) (table news : List Epoch) (s : Epoch) → ((h : ℕ) → count_of s.times h ≡ 0) → news ≡ cond b (table ++ s ∷ []) table
    → (i h : ℕ) → counts_of (slice_get news i) h ≡ counts_of (slice_get table i) h
push_counts false table news s none e i h = ap (λ xs. counts_of (slice_get xs i) h) e
push_counts true table news s none e i h = ap (λ xs. counts_of (slice_get xs i) h) e ∙ go table i
  where
    go : (xs : List Epoch) (j : ℕ) → counts_of (slice_get (xs ++ s ∷ []) j) h ≡ counts_of (slice_get xs j) h
    go [] zero = none h
    go [] (suc j) = refl
    go (x ∷ xs) zero = refl
    go (x ∷ xs) (suc j) = go xs j

-- and the table has at most one more
pub push_between : (b : Bool) (old new : ℕ) → new ≡ cond b (old + 1) old → (old ≤ new) × (new ≤ old + 1)
push_between true old new e = (omega (arith, e), omega (arith, e))
push_between false old new e = (omega (arith, e), omega (arith, e))
