-- The dynamic slice of a row by data alone (Agrawal and Horgan, 1990): the rows that it needs, the rows that these need, and so
-- on. Rows are named by their places in the list of an interval's rows, oldest first.
use Rattle.std.specs.Prelude.{ℕ, ◌<◌, ◌≤◌, ◌⊎◌, Bool, false, List, slice_get, Option, Some, None, IsTrue, IsFalse}
use Rattle.slice_back.specs.declared.noted.Noted.{Noted}
use Rattle.slice_back.specs.Uses.{uses_register, writes_register, uses_word, stores_word, takes_word}

-- whether there is a row, and it passes a test
abbrev pub passes : (Noted → Bool) → Option Noted → Bool
passes test None = false
passes test (Some e) = test e

-- whether there is a row at place m, and it passes a test
abbrev pub at : List Noted → ℕ → (Noted → Bool) → Bool
at es m test = passes test (slice_get es m)

-- the row at m is the latest before n that wrote register q, which the row at n uses
pub record NeedsRegister (es : List Noted) (n m q : ℕ) : Type 0 where
  pub earlier : m < n
  pub used : IsTrue (at es n (λ e. uses_register q e.row))
  pub written : IsTrue (at es m (λ e. writes_register q e.row))
  pub latest : (k : ℕ) → m < k → k < n → IsFalse (at es k (λ e. writes_register q e.row))

-- the row at m is the latest before n that stored the aligned word at a, which the row at n uses. No row after m, that at n
-- included, took a first load of it
pub record NeedsWord (es : List Noted) (n m a : ℕ) : Type 0 where
  pub earlier : m < n
  pub used : IsTrue (at es n (λ e. uses_word a e.row))
  pub stored : IsTrue (at es m (λ e. stores_word a e.row))
  pub latest : (k : ℕ) → m < k → k < n → IsFalse (at es k (λ e. stores_word a e.row))
  pub untaken : (k : ℕ) → m < k → k ≤ n → IsFalse (at es k (takes_word a))

-- the row at n needs the row at m
abbrev pub Needs : List Noted → ℕ → ℕ → Type 0
Needs es n m = ((q : ℕ) × NeedsRegister es n m q) ⊎ ((a : ℕ) × NeedsWord es n m a)

-- the slice of the row at n: the least set of places that has n and, with each place, those that its row needs
pub data InSlice (es : List Noted) (n : ℕ) : ℕ → Type 0 where
  itself : InSlice es n n
  needed : {m k : ℕ} → InSlice es n m → Needs es m k → InSlice es n k

-- the aligned word at a, which the row at n uses, is taken by the row at m. m is the latest place up to n whose row took a
-- first load of the word, and no row from m on, before n, stored it
pub record TakenBy (es : List Noted) (n m a : ℕ) : Type 0 where
  pub earlier : m ≤ n
  pub used : IsTrue (at es n (λ e. uses_word a e.row))
  pub taken : IsTrue (at es m (takes_word a))
  pub latest : (k : ℕ) → m < k → k ≤ n → IsFalse (at es k (takes_word a))
  pub unstored : (k : ℕ) → m ≤ k → k < n → IsFalse (at es k (λ e. stores_word a e.row))

-- register q comes from before the interval to the row at n, which uses it: no row before n wrote it
pub record FromBefore (es : List Noted) (n q : ℕ) : Type 0 where
  pub used : IsTrue (at es n (λ e. uses_register q e.row))
  pub unwritten : (k : ℕ) → k < n → IsFalse (at es k (λ e. writes_register q e.row))
