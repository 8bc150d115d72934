-- How much memory a shadow takes at most.
use Rattle.std.specs.Prelude.{ℕ, ◌+◌, ◌-◌, ◌*◌, ◌/◌, ◌==◌, if◌then◌else◌}

-- the most epochs that there are with so many slots in so many pages
abbrev pub most_epochs : (slots pages : ℕ) → ℕ
most_epochs slots pages = 1024 + 2 * slots + 8 * pages

-- the number after that of the last page of so many words from the first; 0 if there are none
abbrev pub pages_to : (first n : ℕ) → ℕ
pages_to first n = if n == 0 then 0 else (first + 4 * (n - 1)) / 256 + 1
