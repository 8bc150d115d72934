-- A few records of small logs.
use Rattle.std.specs.Prelude.{ℕ, ◌∷◌, [], List, replicate}
use Rattle.log_order.specs.Common.{default_settings, RawSettings, Record, Header, End}

-- the default settings, but for this many harts
abbrev pub settings : ℕ → RawSettings
settings harts = record default_settings { harts = harts }

-- the Header of a hart's interval of that number, which begins at that count
abbrev pub header : (hart number ic : ℕ) → Record
header hart number ic = Header hart number ic 65620 (replicate 32 0)

-- the End of a hart's interval
abbrev pub end : (hart ic reason : ℕ) → Record
end hart ic reason = End hart (record { ic = ic; reason = reason; value = 0 })

-- a hart that does three instructions and exits
abbrev pub an_exit : ℕ → List Record
an_exit hart = header hart 0 0 ∷ end hart 3 3 ∷ []
