-- Chains of steps.
use Rattle.race_log.proofs.Common.{◌≡◌, ℕ, zero, suc, ◌+◌, ◌<◌, Bool, true, ◌&&◌, ◌||◌, ◌⊎◌, ◌==◌, inl, inr, arith, Chain, Either, one, more, leads}
use Rattle.race_log.proofs.BoolFacts.{and_left, and_right, both, or_split, or_first, or_second, known}

-- each step leads to a higher number
abbrev pub Rises : (ℕ → ℕ → Type 0) → Type 0
Rises Step = (m n : ℕ) → Step m n → m < n

pub chain_rises : {Step : ℕ → ℕ → Type 0} {m n : ℕ} → Rises Step → Chain Step m n → m < n
chain_rises up (one s) = up _ _ s
chain_rises {Step = Step} {m = m} {n = n} up (more {k = k} c s) =
    let low = chain_rises up c in let high = up k n s in omega arith

pub chain_join : {Step : ℕ → ℕ → Type 0} {m k n : ℕ} → Chain Step m k → Chain Step k n → Chain Step m n
chain_join c (one s) = more c s
chain_join c (more d s) = more (chain_join c d) s

-- a chain whose steps are all of another kind too
pub chain_map : {Step Other : ℕ → ℕ → Type 0} {m n : ℕ} → ((a b : ℕ) → Step a b → Other a b) → Chain Step m n → Chain Other m n
chain_map f (one s) = one (f _ _ s)
chain_map f (more c s) = more (chain_map f c) (f _ _ s)

-- a chain each step of which is a chain of the other kind
pub chain_bind : {Step Other : ℕ → ℕ → Type 0} {m n : ℕ} (d : ℕ) → Rises Step
    → ((a b : ℕ) → b < a + d → Step a b → Chain Other a b) → n < m + d → Chain Step m n → Chain Other m n
chain_bind d up f near (one s) = f _ _ near s
chain_bind {Step = Step} {m = m} {n = n} d up f near (more {k = k} c s) =
    let high = up k n s in let low = chain_rises up c in
    let k_near : k < m + d = omega arith in
    let n_near : n < k + d = omega arith in
    chain_join (chain_bind d up f k_near c) (f k n n_near s)

-- what the test finds is a chain
pub leads_chain : (step : ℕ → ℕ → Bool) (m k n : ℕ) → leads step m k n ≡ true → Chain (λ a b. step a b ≡ true) m n
unfolding leads
leads_chain step m zero n h = cc
leads_chain step m (suc k) n h =
    elim (or_split (step k n && ((m == k) || leads step m k k)) (leads step m k n) h) [
      | inl last ↦
          let s = and_left (step k n) ((m == k) || leads step m k k) last in
          elim (or_split (m == k) (leads step m k k) (and_right (step k n) ((m == k) || leads step m k k) last)) [
            | inl e ↦ let is : m ≡ k = grind arith in one (rw is s)
            | inr c ↦ more (leads_chain step m k k c) s
          ]
      | inr below ↦ leads_chain step m k n below
    ]

leads_one : (step : ℕ → ℕ → Bool) (m b n : ℕ) → m < b → step m n ≡ true → leads step m b n ≡ true
unfolding leads
leads_one step m zero n h s = absurd (omega arith)
leads_one step m (suc b) n h s = elim (known (m == b)) [
  | inl e ↦ let is : m ≡ b = grind arith in
      or_first (step b n && ((m == b) || leads step m b b)) (leads step m b n)
      (both (step b n) ((m == b) || leads step m b b) (rw (← is) s) (or_first (m == b) (leads step m b b) e))
  | inr e ↦ let below : m < b = grind arith in
      or_second (step b n && ((m == b) || leads step m b b)) (leads step m b n) (leads_one step m b n below s)
]

leads_more : (step : ℕ → ℕ → Bool) (m k b n : ℕ) → k < b → leads step m k k ≡ true → step k n ≡ true → leads step m b n ≡ true
unfolding leads
leads_more step m k zero n h c s = absurd (omega arith)
leads_more step m k (suc b) n h c s = elim (known (k == b)) [
  | inl e ↦ let is : k ≡ b = grind arith in
      let t : step b n ≡ true = rw (← is) s in
      let d : leads step m b b ≡ true = rw (← is) c in
      or_first (step b n && ((m == b) || leads step m b b)) (leads step m b n)
      (both (step b n) ((m == b) || leads step m b b) t (or_second (m == b) (leads step m b b) d))
  | inr e ↦ let below : k < b = grind arith in
      or_second (step b n && ((m == b) || leads step m b b)) (leads step m b n) (leads_more step m k b n below c s)
]

-- the test finds each chain
pub chain_leads : (step : ℕ → ℕ → Bool) {m n : ℕ} → Rises (λ a b. step a b ≡ true) → Chain (λ a b. step a b ≡ true) m n → leads step m n n ≡ true
chain_leads step {m = m} {n = n} up (one s) = leads_one step m n n (up m n s) s
chain_leads step {m = m} {n = n} up (more {k = k} c s) = leads_more step m k n n (up k n s) (chain_leads step up c) s

-- laws of an order of the program's and conflicts, both of which rise and which share no pair
module _ (Program Conflicts : ℕ → ℕ → Type 0) (rises : Rises Program) (conflicts_rise : Rises Conflicts)
    (apart : (m n : ℕ) → Conflicts m n → Program m n → ⊥) where
  pub steps_rise : Rises (Either Program Conflicts)
  steps_rise m n (inl p) = rises m n p
  steps_rise m n (inr c) = conflicts_rise m n c

  -- a chain of program order and chosen conflicts that leads along a pair with no third point has that pair
  pub pair_needed : (Pair : ℕ → ℕ → Type 0) → ((a b : ℕ) → Pair a b → Conflicts a b) → (m n : ℕ)
      → Conflicts m n → ((k : ℕ) → Chain (Either Program Conflicts) m k → Chain (Either Program Conflicts) k n → ⊥)
      → Chain (Either Program Pair) m n → Pair m n
  pair_needed Pair are m n c no_third (one (inl p)) = absurd (apart m n c p)
  pair_needed Pair are m n c no_third (one (inr e)) = e
  pair_needed Pair are m n c no_third (more {k = k} d s) =
      absurd (no_third k (chain_map among d) (one (among k n s)))
    where
      among : (a b : ℕ) → Either Program Pair a b → Either Program Conflicts a b
      among a b (inl p) = inl p
      among a b (inr e) = inr (are a b e)

  -- if the edges are the conflicts with no third point, a chain of them and program order leads along each conflict
  module _ (Edge : ℕ → ℕ → Type 0)
      (edge_or_third : (m n : ℕ) → Conflicts m n
      → Edge m n ⊎ ((k : ℕ) × Chain (Either Program Conflicts) m k × Chain (Either Program Conflicts) k n)) where
    step_near : (d m n : ℕ) → n < m + d → Either Program Conflicts m n → Chain (Either Program Edge) m n
    step_near zero m n near s = let up = steps_rise m n s in absurd (omega arith)
    step_near (suc d) m n near (inl p) = one (inl p)
    step_near (suc d) m n near (inr c) = elim (edge_or_third m n c) [
      | inl e ↦ one (inr e)
      | inr t ↦
          let low = chain_rises steps_rise t.1 in
          let high = chain_rises steps_rise t.2 in
          let k_near : t.0 < m + d = omega arith in
          let n_near : n < t.0 + d = omega arith in
          chain_join (chain_bind d steps_rise (step_near d) k_near t.1) (chain_bind d steps_rise (step_near d) n_near t.2)
    ]

    pub conflict_led : (m n : ℕ) → Conflicts m n → Chain (Either Program Edge) m n
    conflict_led m n c = step_near (suc n) m n (omega arith) (inr c)
