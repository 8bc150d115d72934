-- Which words are warm, as a test that computes. Events are given latest first, as everywhere.
use Rattle.std.specs.Prelude.{ℕ, ◌==◌, nat_lt, Bool, true, false, not, ◌&&◌, List, [], ◌∷◌, length, Option, Some, None, is_some}
use Rattle.first_load_bits.specs.Events.{Geometry, Event, word_of, line_of, set_of, second_of, line_start}
use Rattle.first_load_bits.specs.Events.{Touch, Drop, Clear}

-- the numbers but k
abbrev pub except : ℕ → List ℕ → List ℕ
except k [] = []
except k (l ∷ ls) = elim (l == k) [ true ↦ except k ls | false ↦ l ∷ except k ls ]

-- k is first of the numbers
abbrev pub with_first : ℕ → Option (List ℕ) → Option (List ℕ)
with_first k None = None
with_first k (Some ls) = Some (k ∷ except k ls)

-- k isn't among the numbers
abbrev pub without : ℕ → Option (List ℕ) → Option (List ℕ)
without k None = None
without k (Some ls) = Some (except k ls)

-- the numbers, if there are fewer than n
abbrev pub fewer : ℕ → Option (List ℕ) → Option (List ℕ)
fewer n None = None
fewer n (Some ls) = elim (nat_lt (length ls) n) [ true ↦ Some ls | false ↦ None ]

-- If line l is listed, the other lines of its set that were touched later than it and not dropped since their own
-- last touch. None if it isn't listed.
abbrev pub later_lines : Geometry → ℕ → List Event → Option (List ℕ)
later_lines g l [] = None
later_lines g l (Touch a ∷ es) =
    let k = line_of g a in
    elim (k == l) [
      | true ↦ Some []
      | false ↦ elim (set_of g k == set_of g l) [ true ↦ fewer g.ways (with_first k (later_lines g l es)) | false ↦ later_lines g l es ]
    ]
later_lines g l (Drop a ∷ es) =
    let k = line_of g a in
    elim (k == l) [
      | true ↦ None
      | false ↦ elim (set_of g k == set_of g l) [ true ↦ without k (later_lines g l es) | false ↦ later_lines g l es ]
    ]
later_lines g l (Clear ∷ es) = later_lines g l es

-- whether line l is listed
abbrev pub listed : Geometry → ℕ → List Event → Bool
listed g l es = is_some (later_lines g l es)

-- whether an access evicts line l from the first level
abbrev pub falls : Geometry → ℕ → (addr : ℕ) → List Event → Bool
falls g l a es = listed g l es && not (listed g l (Touch a ∷ es))

-- the line among those touched in some events that an access evicts, if it evicts one
abbrev pub fallen_among : Geometry → List Event → (addr : ℕ) → List Event → Option ℕ
fallen_among g [] a es = None
fallen_among g (Touch b ∷ bs) a es = elim (falls g (line_of g b) a es) [ true ↦ Some (line_of g b) | false ↦ fallen_among g bs a es ]
fallen_among g (Drop b ∷ bs) a es = fallen_among g bs a es
fallen_among g (Clear ∷ bs) a es = fallen_among g bs a es

-- an evicted line comes to the second level
abbrev pub with_fall : Geometry → Option ℕ → List Event → List Event
with_fall g None below = below
with_fall g (Some l) below = Touch (line_start g l) ∷ below

-- the history of the second level: a line that is touched or dropped leaves it, and then the line that the access evicts
-- comes to it
abbrev pub second_history : Geometry → List Event → List Event
second_history g [] = []
second_history g (Touch a ∷ es) = with_fall g (fallen_among g es a es) (Drop a ∷ second_history g es)
second_history g (Drop a ∷ es) = Drop a ∷ second_history g es
second_history g (Clear ∷ es) = second_history g es

-- whether line l is below: whether the second level lists it. Without one no line is below
abbrev pub below : Geometry → ℕ → List Event → Bool
below g l es = elim (g.ways2 == 0) [ true ↦ false | false ↦ listed (second_of g) l (second_history g es) ]

-- whether the cache holds line l: whether it is listed or below
abbrev pub held : Geometry → ℕ → List Event → Bool
held g l es = elim (listed g l es) [ true ↦ true | false ↦ below g l es ]

-- whether the word at address a is warm: since some touch of it after the last clear its line was held at every moment. A
-- replay knows such a word from the log or from its own rows
abbrev pub warm : Geometry → ℕ → List Event → Bool
warm g a [] = false
warm g a (Touch b ∷ es) =
    elim (word_of b == word_of a) [
      | true ↦ true
      | false ↦ elim (held g (line_of g a) (Touch b ∷ es)) [ true ↦ warm g a es | false ↦ false ]
    ]
warm g a (Drop b ∷ es) = elim (line_of g b == line_of g a) [ true ↦ false | false ↦ warm g a es ]
warm g a (Clear ∷ es) = false
