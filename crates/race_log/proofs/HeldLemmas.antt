-- How many accesses are kept.
use Rattle.race_log.proofs.Common.{◌≡◌, ℕ, zero, suc, ◌+◌, ◌*◌, ◌≤◌, ◌%◌, ◌==◌, Bool, true, false, cond, refl, inl, inr, arith, sym, ap, subst, List, [], ◌∷◌, Option, Some, None, slice_get, length, length-append, if◌then◌else◌, list_any, mul-add, list_any_at, get_or_from_slice_get, Shadow, Mode, Slot, Point, touches, Kept, In, kept_by, kept_here, write_in, read_in, reads_in, word_in, sum_below, accessed_below, place_of, page_of, epoch_counts, RepresentsAccesses, harts_of, kept_of, words_of, held_of}
use Rattle.race_log.proofs.BoolFacts.{known}
use Rattle.race_log.proofs.MergeLaws.{is_in}
use Rattle.race_log.proofs.PageLemmas.{word_none}

-- a page that isn't made keeps nothing
pub none_held : (counts : ℕ → ℕ → ℕ) (harts : ℕ) (page : List Slot) (n : ℕ) → length page ≡ 0
    → sum_below (λ i. length (word_in counts harts page (i * (harts + 1)))) n ≡ 0
unfolding sum_below
none_held counts harts page zero e = refl
none_held counts harts [] (suc n) e =
    let none = ap length (word_none counts harts [] (n * (harts + 1)) (λ j s h. absurd (no_slot j s h))) in
    omega (arith, none, none_held counts harts [] n e)
  where
    no_slot : (j : ℕ) (s : Slot) → slice_get [] j ≡ Some s → ⊥
    no_slot j s h = cc
none_held counts harts (x ∷ xs) (suc n) e = absurd (omega (arith, e))

-- ---- at most one access for each slot

here_few : (counts : ℕ → ℕ → ℕ) (mode : Mode) (hart : ℕ) (s : Slot) → length (kept_here counts mode hart s) ≤ 1
here_few counts mode hart s = go (s.after == 0)
  where
    go : (b : Bool) → length (cond b [] (kept_by counts mode hart s.turn s.after s.epoch ∷ [])) ≤ 1
    go true = omega arith
    go false = omega arith

write_few : (counts : ℕ → ℕ → ℕ) (o : Option Slot) → length (write_in counts o) ≤ 1
write_few counts None = omega arith
write_few counts (Some s) = here_few counts _ s.hart s

read_few : (counts : ℕ → ℕ → ℕ) (hart : ℕ) (o : Option Slot) → length (read_in counts hart o) ≤ 1
read_few counts hart None = omega arith
read_few counts hart (Some s) = here_few counts _ hart s

reads_few : (counts : ℕ → ℕ → ℕ) (page : List Slot) (at hart n : ℕ) → length (reads_in counts page at hart n) ≤ n
reads_few counts page at hart zero = omega arith
reads_few counts page at hart (suc n) =
    omega (
      arith,
      length-append (read_in counts hart (slice_get page (at + hart))) (reads_in counts page at (suc hart) n),
      read_few counts hart (slice_get page (at + hart)),
      reads_few counts page at (suc hart) n,
    )

word_few : (counts : ℕ → ℕ → ℕ) (harts : ℕ) (page : List Slot) (at : ℕ) → length (word_in counts harts page at) ≤ harts + 1
word_few counts harts page at =
    omega (
      arith,
      length-append (write_in counts (slice_get page at)) (reads_in counts page (at + 1) 0 harts),
      write_few counts (slice_get page at),
      reads_few counts page (at + 1) 0 harts,
    )

kept_few : (s : Shadow) (w : ℕ) → length (kept_of s w) ≤ harts_of s + 1
kept_few s w = go (w % 4 == 0)
  where
    go : (b : Bool) → length (cond b (word_in (epoch_counts s.words.epochs) s.words.harts (page_of s.words w) (place_of s.words.harts w)) []) ≤ s.harts + 1
    go true = omega (arith, word_few (epoch_counts s.words.epochs) s.words.harts (page_of s.words w) (place_of s.words.harts w), s.same_harts)
    go false = omega arith

-- ---- words that were accessed

sum_most : (f g : ℕ → ℕ) (most n : ℕ) → ((i : ℕ) → f i ≤ most * g i) → sum_below f n ≤ most * sum_below g n
unfolding sum_below
sum_most f g most zero each = omega arith
sum_most f g most (suc n) each = omega (arith, sum_most f g most n each, each n, mul-add most (sum_below g n) (g n))

pub most_held : (s : Shadow) (run : List Point) (live : ℕ → Bool) → RepresentsAccesses run live s → held_of s ≤ (harts_of s + 1) * accessed_below run (words_of s)
most_held s run live stands =
    sum_most (λ i. length (kept_of s (4 * i))) (λ i. if list_any (touches (4 * i)) run then 1 else 0) (harts_of s + 1) (words_of s) (λ i. each (4 * i))
  where
    none : (w : ℕ) (ks : List Kept) → ((k : Kept) → In ks k → list_any (touches w) run ≡ true) → list_any (touches w) run ≡ false → length ks ≤ 0
    none w [] all out = omega arith
    none w (k ∷ ks) all out = absurd (let t = all k (inl refl) in cc)

    touched : (w : ℕ) (k : Kept) → In (kept_of s w) k → list_any (touches w) run ≡ true
    touched w k i =
        let e = (stands.kept w).each k i in
        list_any_at (touches w) run e.0 e.1.point (is_in run e.0 e.1.point e.1.at)
        (subst (λ (p : Point). touches w p ≡ true) (sym (get_or_from_slice_get run e.0 e.1.point e.1.point e.1.at)) e.1.touched)

    each : (w : ℕ) → length (kept_of s w) ≤ (harts_of s + 1) * (if list_any (touches w) run then 1 else 0)
    each w = elim (known (list_any (touches w) run)) [
      | inl t ↦ subst (λ b. length (kept_of s w) ≤ (harts_of s + 1) * (if b then 1 else 0)) (sym t) (omega (arith, kept_few s w))
      | inr f ↦ subst (λ b. length (kept_of s w) ≤ (harts_of s + 1) * (if b then 1 else 0)) (sym f) (omega (arith, none w (kept_of s w) (touched w) f))
    ]
