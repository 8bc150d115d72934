-- The times in one access of a shadow.
use Rattle.race_log.proofs.Common.{◌≡◌, ◌≢◌, ℕ, ◌+◌, ◌-◌, ◌<◌, Bool, true, false, ◌==◌, refl, inl, inr, arith, sym, ap, ◌∙◌, slice_index_or, subst, if◌then◌else◌, nat_lt, slice_get_read, Times, count_of, Mode, Shadow, is_write, gathered, counts_after, counts_past, harts_of, times_of, next_count, kept_of, TakesIn, counts_at}
use Rattle.race_log.specs.Accesses.{NotesAlone}
use Rattle.race_log.proofs.BoolFacts.{known, same_number, other_number}

-- what is read of the times is the hart's
pub read_times : (s : Shadow) (hart : ℕ) (t : Times) → hart < harts_of s → t ≡ slice_index_or s.times.items hart t → times_of s hart ≡ count_of t
read_times s hart t low read =
    ap counts_at (slice_get_read s.times.items s.harts hart t (omega (arith, s.each_hart, s.times.ok)) low read)

-- the times after the search, with the hart's own count
pub set_times : (s : Shadow) (hart count first n : ℕ) (mode : Mode) (t next : Times) → times_of s hart ≡ count_of t
    → (found : Times) (writes : Bool) → writes ≡ is_write mode
    → ((h : ℕ) → count_of found h ≡ counts_after hart writes (s.harts - 1) (count_of t) (gathered (kept_of s) first n) h)
    → ((h : ℕ) → count_of next h ≡ (if h == hart then count + 1 else count_of found h))
    → (h : ℕ) → count_of next h
    ≡ (if h == hart then count + 1 else counts_after hart (is_write mode) (harts_of s - 1) (times_of s hart) (gathered (kept_of s) first n) h)
set_times s hart count first n mode t next is found writes kind counts set h =
    let same : counts_after hart writes (s.harts - 1) (count_of t) (gathered (kept_of s) first n) h
    ≡ counts_after hart (is_write mode) (harts_of s - 1) (times_of s hart) (gathered (kept_of s) first n) h =
    ap (λ w. counts_after hart w (s.harts - 1) (count_of t) (gathered (kept_of s) first n) h) kind
    ∙ ap (λ f. counts_after hart (is_write mode) (s.harts - 1) f (gathered (kept_of s) first n) h) (sym is) in
    set h ∙ ap (λ x. if h == hart then count + 1 else x) (counts h ∙ same)

here : {X : Type 0} (x y : X) (h g : ℕ) → h ≡ g → (if h == g then x else y) ≡ x
here x y h g e = let t : (h == g) ≡ true = grind arith in rw t

there : {X : Type 0} (x y : X) (h g : ℕ) → (h == g) ≡ false → (if h == g then x else y) ≡ y
there x y h g e = rw e

-- the lowest counts of next accesses, after one is taken in
pub counts_taken : (s t : Shadow) (hart count turn first n : ℕ) (mode : Mode) → TakesIn hart count turn first n mode s t
    → (h : ℕ) → next_count t h ≡ (if h == hart then count + 1 else next_count s h)
counts_taken s t hart count turn first n mode taken h = elim (known (h == hart)) [
  | inl same ↦
      subst (λ k. next_count t k ≡ (if k == hart then count + 1 else next_count s k)) (sym (same_number h hart same))
      (taken.own hart ∙ (here (count + 1) _ hart hart refl ∙ sym (here (count + 1) (next_count s hart) hart hart refl)))
  | inr apart ↦ taken.others h (other_number h hart apart) h ∙ sym (there (count + 1) (next_count s h) h hart apart)
]

-- the same of the one hart of a run
pub counts_alone : (s t : Shadow) (ic turn : ℕ) → NotesAlone ic turn s t → (h : ℕ) → next_count t h ≡ (if h == 0 then ic + 1 else next_count s h)
counts_alone s t ic turn notes h = elim (known (h == 0)) [
  | inl same ↦
      subst (λ k. next_count t k ≡ (if k == 0 then ic + 1 else next_count s k)) (sym (same_number h 0 same))
      (notes.own 0)
  | inr apart ↦ notes.others h (other_number h 0 apart) h ∙ sym (there (ic + 1) (next_count s h) h 0 apart)
]

-- the times that are kept by the present epoch are those after the point
pub times_kept : (hart after : ℕ) (present found next : ℕ → ℕ) → ((h : ℕ) → next h ≡ (if h == hart then after else found h))
    → ((h : ℕ) → h ≢ hart → present h ≡ next h) → (h : ℕ) → counts_past present hart after h ≡ next h
times_kept hart after present found next set own h = elim (known (h == hart)) [
  | inl same ↦
      let is = same_number h hart same in
      here after (present h) h hart is ∙ sym (set h ∙ here after (found h) h hart is)
  | inr apart ↦ there after (present h) h hart apart ∙ own h (other_number h hart apart)
]

-- the hart's own count alone is set
pub set_apart : (hart after : ℕ) (found next : ℕ → ℕ) → ((h : ℕ) → next h ≡ (if h == hart then after else found h)) → (h : ℕ) → h ≢ hart → next h ≡ found h
set_apart hart after found next set h apart = elim (known (h == hart)) [
  | inl same ↦ absurd (apart (same_number h hart same))
  | inr f ↦ set h ∙ there after (found h) h hart f
]

pub not_less : (n : ℕ) → nat_lt 0 n ≡ false → n ≡ 0
not_less n h = grind arith
