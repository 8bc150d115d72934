-- A shadow after a sweep.
use Rattle.race_log.proofs.Common.{◌≡◌, ℕ, zero, suc, ◌<◌, ◌+◌, ◌*◌, Bool, true, false, not, ◌&&◌, ◌||◌, ◌==◌, nat_lt, ltb-true, refl, inl, inr, arith, sym, ap, ap₂, ◌∙◌, subst, min, bit_and, List, filter, All, IsTrue, min-zero, zero-min, eq-eqb, Shadow, KeptWords, Point, OwnUpTo, CountsOf, Kept, In, KeptAt, AllKnow, Suffices, has_bit, all_below, has_room, has_epoch, HasRoom, RepresentsAccesses, harts_of, lasts, is_live, next_turn, times_of, kept_of, is_known}
use Rattle.std.specs.Int.{bit_at}
use Rattle.std.proofs.lemmas.Nat.Bits.{bit_at_and, bit_at-lt, bit_at_ones}
use Rattle.race_log.proofs.BoolFacts.{known, and_left, and_right, both, same_number}
use Rattle.race_log.proofs.Rounds.{same_counts}
use Rattle.race_log.proofs.KeptLemmas.{fewer_suffice}

pub below_next : (test : ℕ → Bool) (n : ℕ) → all_below test (n + 1) ≡ (all_below test n && test n)
unfolding all_below
below_next test n = let next : n + 1 ≡ suc n = omega arith in ap (all_below test) next

pub below_none : (test : ℕ → Bool) → all_below test 0 ≡ true
unfolding all_below
below_none test = refl

all_at_below : (test : ℕ → Bool) (n k : ℕ) → k < n → all_below test n ≡ true → test k ≡ true
unfolding all_below
all_at_below test zero k low h = absurd (omega arith)
all_at_below test (suc n) k low h = elim (known (k == n)) [
  | inl e ↦ let same = same_number k n e in subst (λ i. test i ≡ true) (sym same) (and_right (all_below test n) (test n) h)
  | inr e ↦ let less : k < n = grind arith in all_at_below test n k less (and_left (all_below test n) (test n) h)
]

-- room is as it was
pub room_swept : (old new : KeptWords) → new.harts ≡ old.harts → new.epochs ≡ old.epochs → ((w : ℕ) → has_room new w ≡ has_room old w)
    → (first n : ℕ) → HasRoom old first n → HasRoom new first n
room_swept old new harts epochs room first n h = record {
  pages = λ more i low. subst IsTrue (sym (room (first + 4 * i))) (h.pages (omega (arith, more, harts)) i low);
  epoch = λ more. subst (λ s. IsTrue (has_epoch s)) (sym epochs) (h.epoch (omega (arith, more, harts)));
}

-- what is kept suffices for the harts whose bits were always set
pub stands_swept : (old new : Shadow) (set : ℕ) → harts_of new ≡ harts_of old → next_turn new ≡ next_turn old
    → ((hart other : ℕ) → times_of new hart other ≡ times_of old hart other)
    → ((hart : ℕ) → lasts new hart ≡ (lasts old hart && has_bit set hart))
    → ((w : ℕ) → kept_of new w ≡ filter (λ k. not (is_known old set k.hart k.ic)) (kept_of old w))
    → (run : List Point) (live_one : ℕ → Bool) → RepresentsAccesses run live_one old → RepresentsAccesses run live_one new
stands_swept old new set harts turn times lasting kept run live_one s = record {
  in_order = s.in_order;
  harts = subst (λ n. All (λ p. p.hart < n) run) (sym harts) s.harts;
  past = subst (λ n. All (λ p. p.turn < n) run) (sym turn) s.past;
  own = λ hart low. subst (CountsOf run (OwnUpTo run hart)) (sym (same_counts (times hart))) (s.own hart (omega (arith, low, harts)));
  kept = λ w. subst (Suffices run (is_live new live_one) w) (sym (kept w))
      (fewer_suffice run (is_live old live_one) (is_live new live_one) w (kept_of old w) (λ k. is_known old set k.hart k.ic) fewer (all w) (s.kept w));
}
  where
    lasts_on : (g : ℕ) → is_live new live_one g ≡ true → (lasts old g && has_bit set g) ≡ true
    lasts_on g h = sym (lasting g) ∙ and_right (nat_lt g (harts_of new)) (lasts new g) (and_left (nat_lt g (harts_of new) && lasts new g) (live_one g) h)

    within : (g : ℕ) → is_live new live_one g ≡ true → nat_lt g (harts_of old) ≡ true
    within g h =
        ap (nat_lt g) (sym harts) ∙ and_left (nat_lt g (harts_of new)) (lasts new g) (and_left (nat_lt g (harts_of new) && lasts new g) (live_one g) h)

    fewer : (g : ℕ) → is_live new live_one g ≡ true → is_live old live_one g ≡ true
    fewer g h =
        both (nat_lt g (harts_of old) && lasts old g) (live_one g)
        (both (nat_lt g (harts_of old)) (lasts old g) (within g h) (and_left (lasts old g) (has_bit set g) (lasts_on g h)))
        (and_right (nat_lt g (harts_of new) && lasts new g) (live_one g) h)

    second : (a b : Bool) → (not a || b) ≡ true → a ≡ true → b ≡ true
    second true b h e = h
    second false b h e = cc

    all : (w : ℕ) (k : Kept) (j : ℕ) → In (kept_of old w) k → KeptAt run w j k → is_known old set k.hart k.ic ≡ true → AllKnow run (is_live new live_one) j
    all w k j i at goes g lives =
        let low = ltb-true g (harts_of old) (within g lives) in
        let bit = and_right (lasts old g) (has_bit set g) (lasts_on g lives) in
        let test = all_at_below (λ h. not (has_bit set h) || nat_lt k.ic (times_of old h k.hart)) (harts_of old) g low goes in
        let less = ltb-true k.ic (times_of old g k.hart) (second (has_bit set g) (nat_lt k.ic (times_of old g k.hart)) test bit) in
        (s.own g low).covers j at.point at.at (subst (λ h. at.point.count < times_of old g h) at.hart (subst (λ n. n < times_of old g k.hart) at.count less))

-- a hart that a set of harts has, in both of two sets
pub both_have : (a b hart : ℕ) → has_bit (bit_and a b) hart ≡ (has_bit a hart && has_bit b hart)
both_have a b hart = go (bit_at a hart) (bit_at b hart) (bit_at (bit_and a b) hart) (bit_at-lt a hart) (bit_at-lt b hart) (bit_at_and a b hart)
  where
    go : (x y z : ℕ) → x < 2 → y < 2 → z ≡ min x y → (z == 1) ≡ ((x == 1) && (y == 1))
    go zero y z lx ly e = ap (λ n. n == 1) (e ∙ zero-min y)
    go (suc x) zero z lx ly e =
        ap (λ n. n == 1) (e ∙ min-zero (suc x)) ∙ sym (ap (λ t. t && false) (eq-eqb (suc x) 1 (omega (arith, lx))))
    go (suc x) (suc y) z lx ly e =
        let one : suc x ≡ 1 = omega (arith, lx) in
        let other : suc y ≡ 1 = omega (arith, ly) in
        ap (λ n. n == 1) (e ∙ ap₂ min one other) ∙ sym (ap₂ (λ s t. s && t) (eq-eqb (suc x) 1 one) (eq-eqb (suc y) 1 other))

-- if all bits are set, each hart has its own
pub all_have : (hart : ℕ) → hart < 16 → has_bit 65535 hart ≡ true
all_have hart low = eq-eqb (bit_at 65535 hart) 1 (bit_at_ones 16 hart low)
