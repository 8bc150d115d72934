-- The steps of a joint replay that goes through, and the bytes of known words.
use Rattle.demo_run.proofs.Common.{◌≡◌, ℕ, ◌*◌, nat_lt, Bool, true, false, List, [], ◌∷◌, ◌++◌, length, length-append, None, ◌∙◌, ap, sym, refl, arith, Ok, flat_map, flat_map-cons, number_bytes, known_from, Joining, run_all, Advances, IsFirstTaken, RunsGoOn, word_bytes}

-- ---- steps

-- the run of a joint replay continues from the point that it reached, and isn't stopped
pub record Walks (whole now : Joining) : Type 0 where
  pub last : (run_all whole).walk.now ≡ (run_all now).walk.now
  pub stopped : (run_all now).stopped ≡ None

-- one step more
pub walks-more : RunsGoOn → (whole now next : Joining) (waiting text : List ℕ) → Advances now (Ok true) next waiting text → Walks whole now → Walks whole next
walks-more go whole now next waiting text a w =
    let first : IsFirstTaken now a.taken next = go now a.taken next a.step in
    record { last = w.last ∙ first.now; stopped = sym first.stopped ∙ w.stopped }

-- ---- known words

-- the bytes of some known words are written, and those from an address on are left
abbrev pub Lists : List (ℕ × ℕ) → ℕ → List ℕ → Type 0
Lists ms from bytes = bytes ++ flat_map word_bytes (known_from from ms) ≡ flat_map word_bytes ms

all-known : (ms : List (ℕ × ℕ)) → known_from 0 ms ≡ ms
all-known [] = refl
all-known (m ∷ ms) = ap (λ (b : Bool). elim b as (λ y. List (ℕ × ℕ)) [ true ↦ known_from 0 ms | false ↦ m ∷ ms ]) (none-below m.0)
  where
    none-below : (n : ℕ) → nat_lt n 0 ≡ false
    none-below n = grind arith

pub lists-none : (ms : List (ℕ × ℕ)) → Lists ms 0 []
lists-none ms = ap (λ (xs : List (ℕ × ℕ)). flat_map word_bytes xs) (all-known ms)

-- each word has eight bytes
eight : (m : ℕ × ℕ) → length (word_bytes m) ≡ 8
unfolding number_bytes
eight m = refl

pub eight-each : (ms : List (ℕ × ℕ)) → length (flat_map word_bytes ms) ≡ 8 * length ms
eight-each [] = refl
eight-each (m ∷ ms) = ap (λ (t : List ℕ). length t) (flat_map-cons word_bytes m ms) ∙ omega (arith, length-append (word_bytes m) (flat_map word_bytes ms), eight m, eight-each ms)
