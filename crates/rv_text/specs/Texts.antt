-- What a write does to a text.
use Rattle.std.specs.Prelude.{◌≡◌, ℕ, List, length, take}

-- the second text begins with the first
abbrev pub BeginsWith : List ℕ → List ℕ → Type 0
BeginsWith old new = take (length old) new ≡ old
