-- A page with one word more.
use Rattle.hart_replay.proofs.Common.{◌≡◌, ℕ, ◌<◌, ◌^◌, ◌==◌, Bool, true, false, length, get_or, set, bit_and, bit_or, Option, Some, None, if◌then◌else◌, sym, ◌∙◌, ap, arith, inl, inr, eq-eqb, ne_eqb, eqb_tells, get_or-set_same, get_or-set_other, Frame, word_in, marked, cleared}
use Rattle.std.specs.Int.{bit_at, bit_not, w64}
use Rattle.std.proofs.lemmas.Nat.Bits.{bit_at_or, bit_at_and, bit_at_not, bit_at-pow_same, bit_at-pow_other, bit_at-lt}
use Rattle.std.proofs.Math.Pow.{pow-lt}

set_same : (m p : ℕ) → (bit_at (bit_or m (2 ^ p)) p == 1) ≡ true
set_same m p = eq-eqb (bit_at (bit_or m (2 ^ p)) p) 1 (omega (arith, bit_at_or m (2 ^ p) p, bit_at-pow_same p, bit_at-lt m p))

set_other : (m p q : ℕ) → (q ≡ p → ⊥) → (bit_at (bit_or m (2 ^ p)) q == 1) ≡ (bit_at m q == 1)
set_other m p q n = let e : bit_at (bit_or m (2 ^ p)) q ≡ bit_at m q = omega (arith, bit_at_or m (2 ^ p) q, bit_at-pow_other p q n) in ap (λ b. b == 1) e

word_by : Bool → ℕ → Option ℕ
word_by b w = elim b [ true ↦ Some w | false ↦ None ]

-- the words of a page after one more is known
pub word_in-marked : (f : Frame) (p w k : ℕ) → p < length f.words → word_in (marked f p w) k ≡ (if k == p then Some w else word_in f k)
unfolding word_by
word_in-marked f p w k below = elim (eqb_tells k p) [ inl e ↦ here e.0 e.1 | inr e ↦ there e.0 e.1 ]
  where
    here : (k == p) ≡ true → k ≡ p → word_in (marked f p w) k ≡ (if k == p then Some w else word_in f k)
    here t e =
        ap (λ n. word_in (marked f p w) n) e
        ∙ ap (λ b. word_by b (get_or (set f.words p w) p 0)) (set_same f.known p)
        ∙ ap (λ (n : ℕ). Some n) (get_or-set_same f.words p w 0 below)
        ∙ sym (ap (λ (b : Bool). if b then Some w else word_in f k) t)

    there : (k == p) ≡ false → (k ≡ p → ⊥) → word_in (marked f p w) k ≡ (if k == p then Some w else word_in f k)
    there t e =
        ap (λ b. word_by b (get_or (set f.words p w) k 0)) (set_other f.known p k e)
        ∙ ap (λ (n : ℕ). word_by (bit_at f.known k == 1) n) (get_or-set_other f.words p k w 0 e)
        ∙ sym (ap (λ (b : Bool). if b then Some w else word_in f k) t)

-- the words of a page after one is forgotten
clear_same : (m p : ℕ) → p < 64 → (bit_at (bit_and m (bit_not w64 (2 ^ p))) p == 1) ≡ false
clear_same m p below =
    let fits : 2 ^ p < 2 ^ 64 = pow-lt below in
    ne_eqb _ 1 (λ e. absurd (omega (arith, e, bit_at_and m (bit_not w64 (2 ^ p)) p, bit_at_not w64 (2 ^ p) p fits below, bit_at-pow_same p)))

clear_other : (m p q : ℕ) → p < 64 → q < 64 → (q ≡ p → ⊥) → (bit_at (bit_and m (bit_not w64 (2 ^ p))) q == 1) ≡ (bit_at m q == 1)
clear_other m p q low below n =
    let fits : 2 ^ p < 2 ^ 64 = pow-lt low in
    let e : bit_at (bit_and m (bit_not w64 (2 ^ p))) q ≡ bit_at m q = omega (arith, bit_at_and m (bit_not w64 (2 ^ p)) q, bit_at_not w64 (2 ^ p) q fits below, bit_at-pow_other p q n, bit_at-lt m q) in
    ap (λ b. b == 1) e

pub word_in-cleared : (f : Frame) (p k : ℕ) → p < 64 → k < 64 → word_in (cleared f p) k ≡ (if k == p then None else word_in f k)
unfolding word_by
word_in-cleared f p k low below = elim (eqb_tells k p) [ inl e ↦ here e.0 e.1 | inr e ↦ there e.0 e.1 ]
  where
    here : (k == p) ≡ true → k ≡ p → word_in (cleared f p) k ≡ (if k == p then None else word_in f k)
    here t e =
        ap (λ n. word_in (cleared f p) n) e
        ∙ ap (λ b. word_by b (get_or f.words p 0)) (clear_same f.known p low)
        ∙ sym (ap (λ (b : Bool). if b then None else word_in f k) t)

    there : (k == p) ≡ false → (k ≡ p → ⊥) → word_in (cleared f p) k ≡ (if k == p then None else word_in f k)
    there t e =
        ap (λ b. word_by b (get_or f.words k 0)) (clear_other f.known p k low below e)
        ∙ sym (ap (λ (b : Bool). if b then None else word_in f k) t)
