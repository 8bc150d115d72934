-- The caches before the first turn, one by one.
use Rattle.run_model.proofs.Common.{◌≡◌, ◌∷◌, ◌++◌, [], ℕ, zero, suc, ◌+◌, ◌<◌, List, length, refl, ◌∙◌, ap, arith, length-append, RawSettings, Contents, RepresentsEvents, geometry_of, cache_of, steps_in}

-- so many caches, none of which lists a line
pub record AreNew (c : RawSettings) (n : ℕ) (cs : List Contents) : Type 0 where
  pub count : length cs ≡ n
  pub geometry : (k : ℕ) → k < n → (cache_of cs k).geometry ≡ geometry_of c
  pub stands : (k : ℕ) → k < n → RepresentsEvents (cache_of cs k) []
  pub steps : (k : ℕ) → steps_in cs k ≡ 0

-- what holds of each, and of one more, holds of all
push_each : (P : Contents → Type 0) (cs : List Contents) (x : Contents) (k : ℕ) → ((j : ℕ) → j < length cs → P (cache_of cs j)) → P x → k < length cs + 1 → P (cache_of (cs ++ x ∷ []) k)
push_each P [] x zero all own below = own
push_each P [] x (suc k) all own below = absurd (none k below)
  where
    none : (k : ℕ) → suc k < 0 + 1 → ⊥
    none k h = omega (arith, h)
push_each P (y ∷ cs) x zero all own below = all zero (omega arith)
push_each P (y ∷ cs) x (suc k) all own below = push_each P cs x k (λ j inside. all (suc j) (omega (arith, inside))) own (omega (arith, below))

push_steps : (cs : List Contents) (x : Contents) (k : ℕ) → ((j : ℕ) → steps_in cs j ≡ 0) → x.steps ≡ 0 → steps_in (cs ++ x ∷ []) k ≡ 0
push_steps [] x zero all own = own
push_steps [] x (suc k) all own = refl
push_steps (y ∷ cs) x zero all own = all zero
push_steps (y ∷ cs) x (suc k) all own = push_steps cs x k (λ j. all (suc j)) own

-- one cache more
pub one_new : (c : RawSettings) (n : ℕ) (cs : List Contents) (x : Contents) → AreNew c n cs → x.geometry ≡ geometry_of c → RepresentsEvents x [] → AreNew c (n + 1) (cs ++ x ∷ [])
one_new c n cs x are same empty = record {
  count = length-append cs (x ∷ []) ∙ ap (λ (m : ℕ). m + 1) are.count;
  geometry = λ k below. push_each (λ (y : Contents). y.geometry ≡ geometry_of c) cs x k (λ j inside. are.geometry j (omega (arith, inside, are.count))) same (omega (arith, below, are.count));
  stands = λ k below. push_each (λ (y : Contents). RepresentsEvents y []) cs x k (λ j inside. are.stands j (omega (arith, inside, are.count))) empty (omega (arith, below, are.count));
  steps = λ k. push_steps cs x k are.steps empty.steps;
}
