-- Numbers in commands.
use Rattle.std.specs.Prelude.{ℕ, ◌+◌, ◌-◌, ◌*◌, ◌^◌, nat_le, nat_lt, Bool, true, false, ◌&&◌, List, [], ◌∷◌, length, Option, Some, None}

-- a byte from one to another
abbrev pub is_from : ℕ → ℕ → ℕ → Bool
is_from low high byte = nat_le low byte && nat_le byte high

-- the value of a digit: 0 to 9, then a to f in either case
abbrev pub digit_value : ℕ → Option ℕ
digit_value byte = elim (is_from 48 57 byte) [
  | true ↦ Some (byte - 48)
  | false ↦ elim (is_from 97 102 byte) [
    | true ↦ Some (byte - 87)
    | false ↦ elim (is_from 65 70 byte) [ true ↦ Some (byte - 55) | false ↦ None ]
  ]
]

-- the value of a digit of a base of at most 16
abbrev pub digit_in : ℕ → ℕ → Option ℕ
digit_in base byte = elim (digit_value byte) [ None ↦ None | Some d ↦ elim (nat_lt d base) [ true ↦ Some d | false ↦ None ] ]

-- the sum, if both numbers are there
abbrev pub sum_of : Option ℕ → Option ℕ → Option ℕ
sum_of None n = None
sum_of (Some m) None = None
sum_of (Some m) (Some n) = Some (m + n)

-- a digit by its place: so many follow it
abbrev pub placed : ℕ → ℕ → Option ℕ → Option ℕ
placed base follow None = None
placed base follow (Some d) = Some (d * base ^ follow)

-- the number that digits spell, the most significant first; `None` if another byte stands among them
abbrev pub number_in : ℕ → List ℕ → Option ℕ
number_in base [] = Some 0
number_in base (byte ∷ bytes) = sum_of (placed base (length bytes) (digit_in base byte)) (number_in base bytes)

-- the number of one digit up to so many
abbrev pub number_of : ℕ → ℕ → List ℕ → Option ℕ
number_of base most text = elim (nat_lt 0 (length text) && nat_le (length text) most) [ true ↦ number_in base text | false ↦ None ]
