-- The calls that a store gets.
use Rattle.std.specs.Prelude.{ℕ, List}

-- a call of a store
pub data StoreCall : Type 0 where
  -- a load of a name, with the most bytes that it may have
  LoadCall : List ℕ → ℕ → StoreCall
  -- a save of bytes under a name
  SaveCall : (name bytes : List ℕ) → StoreCall
