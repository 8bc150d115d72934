-- The text of a count.
use Rattle.std.specs.Prelude.{List, ℕ, ◌++◌, decimal}

-- a number after a word
unfoldable pub counted : List ℕ → ℕ → List ℕ
counted word n = word ++ decimal n
