-- What is shown of small recordings.
use Rattle.std.specs.Prelude.{ℕ, List, [], ◌∷◌, map}
use Rattle.race_laws.specs.Common.{Record, Header, Recording, recorded}
use Rattle.log_ring.specs.Kept.{kept}

-- the points of a recording, by hart and count
abbrev pub names : Recording → List (ℕ × ℕ)
names e = map (λ p. (p.hart, p.count)) (recorded e).points

-- the hart, number and first count of each Header
abbrev pub headers_in : List Record → List (ℕ × ℕ × ℕ)
headers_in [] = []
headers_in (Header k n ic pc x ∷ rs) = (k, n, ic) ∷ headers_in rs
headers_in (r ∷ rs) = headers_in rs

-- what a log with room for so many bytes keeps of a recording
abbrev pub kept_of_size : ℕ → Recording → List Record
kept_of_size size e = kept size (recorded e).stream
