-- What the kept Edges say of the order: which points a hart passes, and what a point waits for. All of this is by the
-- records alone.
use Rattle.std.specs.Prelude.{◌≡◌, ℕ, ◌==◌, is_some, take, nat_lt, Bool, true, false, ◌&&◌, List, [], ◌∷◌, Option, Some, None}
use Rattle.joint_replay.specs.Common.{Record, Header, FirstLoad, ScOk, ScFailed, Edge, End, interval_of}

-- the numbers of hart h's retained intervals, in the order of their Headers
abbrev pub intervals_in : ℕ → List Record → List ℕ
intervals_in h [] = []
intervals_in h (Header k n ic pc x ∷ rs) = elim (k == h) [ true ↦ n ∷ intervals_in h rs | false ↦ intervals_in h rs ]
intervals_in h (r ∷ rs) = intervals_in h rs

-- the count of hart h's first retained Header
abbrev pub first_count : ℕ → List Record → Option ℕ
first_count h [] = None
first_count h (Header k n ic pc x ∷ rs) = elim (k == h) [ true ↦ Some ic | false ↦ first_count h rs ]
first_count h (r ∷ rs) = first_count h rs

-- below that count; every count is, if no Header is retained
abbrev pub is_below : Option ℕ → ℕ → Bool
is_below None n = true
is_below (Some first) n = nat_lt n first

-- a number in its place among ascending ones, once
abbrev pub insert : ℕ → List ℕ → List ℕ
insert n [] = n ∷ []
insert n (m ∷ ms) = elim (n == m) [ true ↦ m ∷ ms | false ↦ elim (nat_lt n m) [ true ↦ n ∷ m ∷ ms | false ↦ m ∷ insert n ms ] ]

-- a number in its place, if the test holds
abbrev pub insert_if : Bool → ℕ → List ℕ → List ℕ
insert_if true n ms = insert n ms
insert_if false n ms = ms

-- the counts of hart h's points that Edges name, as target or as source, below its first Header's: ascending, each once
abbrev pub points_below : Option ℕ → ℕ → List Record → List ℕ
points_below first h [] = []
points_below first h (Edge k ic s j ∷ rs) = insert_if (k == h && is_below first ic) ic (insert_if (s == h && is_below first j) j (points_below first h rs))
points_below first h (r ∷ rs) = points_below first h rs

-- the ordering points of hart h: it passes them one by one before it does its retained intervals
abbrev pub ordering_points : ℕ → List Record → List ℕ
ordering_points h records = points_below (first_count h records) h records

-- the sources (hart, count) of the kept Edges into instruction ic of hart h, in log order
abbrev pub sources_into : List Record → ℕ → ℕ → List (ℕ × ℕ)
sources_into [] h ic = []
sources_into (Edge k n s j ∷ rs) h ic = elim (k == h && (n == ic)) [ true ↦ (s, j) ∷ sources_into rs h ic | false ↦ sources_into rs h ic ]
sources_into (r ∷ rs) h ic = sources_into rs h ic

-- the first count there is
abbrev pub or_first : Option ℕ → Option ℕ → Option ℕ
or_first None later = later
or_first (Some ic) later = Some ic

-- the number of hart h's interval that a record begins, if it begins one
abbrev pub number_in : ℕ → Record → Option ℕ
number_in h (Header k n ic pc x) = elim (k == h) [ true ↦ Some n | false ↦ None ]
number_in h (FirstLoad k skip value) = None
number_in h (ScOk k) = None
number_in h (ScFailed k) = None
number_in h (Edge k ic s j) = None
number_in h (End k mark) = None

-- a number before the others, if there is one
abbrev pub number_before : Option ℕ → List ℕ → List ℕ
number_before None ns = ns
number_before (Some n) ns = n ∷ ns

-- the interval of this number is there, and its Header isn't before the place
abbrev pub IsThere : ℕ → List Record → (number place : ℕ) → Type 0
IsThere h records number place = (interval_of h number (take place records) ≡ None) × (is_some (interval_of h number records) ≡ true)
