-- Pages in a row.
use Rattle.bus_memory.proofs.Common.{arith, ◌≡◌, ◌≤◌, ◌<◌, ◌+◌, ◌-◌, ◌*◌, ◌/◌, ◌%◌, ◌||◌, ◌&&◌, ℕ, Bool, true, false, List, length, get_or, set, sym, ap, ◌∙◌, ◌⊎◌, inl, inr, nat_le, nat_lt, get_or-set_same, get_or-set_other, cases_eq, HasPages, Frame, no_frame, contents_of, HaveWords, AreMade}
use Rattle.bus_memory.proofs.Laws.{made_at}

-- one page more that has its words
pub have_more : (fs : List Frame) (first n : ℕ) (g : Frame) → n < length fs → length g.words ≡ 1024 → HaveWords fs first n → HaveWords (set fs n g) first (n + 1)
have_more fs first n g below len have m low high = by_page (cases_eq m n)
  where
    by_page : (m ≡ n) ⊎ (m ≡ n → ⊥) → length (get_or (set fs n g) m no_frame).words ≡ 1024
    by_page (inl e) = ap (λ k. length (get_or (set fs n g) k no_frame).words) e ∙ ap (λ (h : Frame). length h.words) (get_or-set_same fs n g no_frame below) ∙ len
    by_page (inr e) = ap (λ (h : Frame). length h.words) (get_or-set_other fs n m g no_frame e) ∙ have m low (omega (arith, high, e))

-- pages after the one that is written have the words that they had
pub have_rest : (fs : List Frame) (n end : ℕ) (g : Frame) → HaveWords fs n end → HaveWords (set fs n g) (n + 1) end
have_rest fs n end g have m low high =
    ap (λ (h : Frame). length h.words) (get_or-set_other fs n m g no_frame (λ e. absurd (omega (arith, low, e)))) ∙ have m (omega (arith, low)) high

within_or : (first n m : ℕ) (b : Bool) → (m ≡ n → ⊥) → (b || (nat_le first m && nat_lt m n)) ≡ (b || (nat_le first m && nat_lt m (n + 1)))
within_or first n m b e = Prim.grind arith

here_or : (first n : ℕ) (b : Bool) → first ≤ n → true ≡ (b || (nat_le first n && nat_lt n (n + 1)))
here_or first n b low = Prim.grind arith

-- one page more that is made
pub made_more : (start fs : List Frame) (first n : ℕ) (g : Frame) → first ≤ n → n < length fs → g.made ≡ true
    → ((m : ℕ) → get_or (contents_of fs).made m false ≡ (get_or (contents_of start).made m false || (nat_le first m && nat_lt m n)))
    → (m : ℕ) → get_or (contents_of (set fs n g)).made m false ≡ (get_or (contents_of start).made m false || (nat_le first m && nat_lt m (n + 1)))
made_more start fs first n g low below is before m = made_at (set fs n g) m ∙ by_page (cases_eq m n)
  where
    by_page : (m ≡ n) ⊎ (m ≡ n → ⊥) → (get_or (set fs n g) m no_frame).made ≡ (get_or (contents_of start).made m false || (nat_le first m && nat_lt m (n + 1)))
    by_page (inl e) =
        ap (λ k. (get_or (set fs n g) k no_frame).made) e ∙ ap (λ (h : Frame). h.made) (get_or-set_same fs n g no_frame below) ∙ is ∙ here_or first n (get_or (contents_of start).made n false) low ∙ ap (λ k. get_or (contents_of start).made k false || (nat_le first k && nat_lt k (n + 1))) (sym e)
    by_page (inr e) =
        ap (λ (h : Frame). h.made) (get_or-set_other fs n m g no_frame e) ∙ sym (made_at fs m) ∙ before m ∙ within_or first n m (get_or (contents_of start).made m false) e

-- pages whose words are in pages that are made
pub made_from_words : (fs : List Frame) (a count : ℕ) → a % 4 ≡ 0 → 0 < count → HasPages (contents_of fs) a count → AreMade fs (a / 4096) ((a + 4 * count + 4095) / 4096)
made_from_words fs a count aligned some all n low high = by_place (cases_eq (a / 4096) n)
  where
    at : (k : ℕ) → k < count → (a + 4 * k) / 4096 ≡ n → (get_or fs n no_frame).made ≡ true
    at k below e = sym (made_at fs n) ∙ ap (λ j. get_or (contents_of fs).made j false) (sym e) ∙ all k below

    by_place : (a / 4096 ≡ n) ⊎ (a / 4096 ≡ n → ⊥) → (get_or fs n no_frame).made ≡ true
    by_place (inl e) = at 0 some (omega (arith, e))
    by_place (inr e) = at ((4096 * n - a) / 4) (omega (arith, e, low, high, aligned)) (omega (arith, e, low, high, aligned))
