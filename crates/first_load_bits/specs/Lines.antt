-- The lists of lines that a cache has on its two levels, one for each set, the latest line first.
use Rattle.std.specs.Prelude.{ℕ, ◌%◌, ◌^◌, ◌==◌, Bool, true, false, List, [], ◌∷◌, take, drop, map, bit_or, Option, Some, None, is_some}
use Rattle.std.specs.Int.{bit_at}
use Rattle.first_load_bits.specs.Events.{Geometry, Event, word_of, line_of, set_of, second_of}
use Rattle.first_load_bits.specs.Events.{Touch, Drop, Clear}

-- a line that a set lists: its number, and one bit for each of its words, the lowest for the first
pub record Line : Type 0 where
  pub number : ℕ
  pub bits : ℕ

-- the place of an address's word in its line
abbrev pub place_of : Geometry → ℕ → ℕ
place_of g a = word_of a % g.line

-- the bits of line l, none set if it isn't in the list
abbrev pub bits_of : ℕ → List Line → ℕ
bits_of l [] = 0
bits_of l (x ∷ xs) = elim (x.number == l) [ true ↦ x.bits | false ↦ bits_of l xs ]

-- the lines but l
abbrev pub all_but : ℕ → List Line → List Line
all_but l [] = []
all_but l (x ∷ xs) = elim (x.number == l) [ true ↦ all_but l xs | false ↦ x ∷ all_but l xs ]

-- k and the lines after it
abbrev pub behind : ℕ → Option (List ℕ) → Option (List ℕ)
behind k None = None
behind k (Some ls) = Some (k ∷ ls)

-- the numbers of the lines in front of line l, None if it isn't in the list
abbrev pub in_front : ℕ → List Line → Option (List ℕ)
in_front l [] = None
in_front l (x ∷ xs) = elim (x.number == l) [ true ↦ Some [] | false ↦ behind x.number (in_front l xs) ]

-- a line in front of the others, as far as there is room for n
abbrev pub put : ℕ → Line → List Line → List Line
put n x xs = take n (x ∷ all_but x.number xs)

-- what has no room then: the last line, or none
abbrev pub lost : ℕ → Line → List Line → List Line
lost n x xs = drop n (x ∷ all_but x.number xs)

-- the lists of a level, one for each set, after a line is put first in its set
abbrev pub put_in : Geometry → Line → (ℕ → List Line) → ℕ → List Line
put_in g x ls k = elim (set_of g x.number == k) [ true ↦ put g.ways x (ls k) | false ↦ ls k ]

-- the lists of a level after the first of some lines, if there is one, is put first in its set
abbrev pub put_lost : Geometry → List Line → (ℕ → List Line) → ℕ → List Line
put_lost g [] ls k = ls k
put_lost g (x ∷ xs) ls k = put_in g x ls k

-- the lists of a level after line l is taken out of its set
abbrev pub taken_out : Geometry → ℕ → (ℕ → List Line) → ℕ → List Line
taken_out g l ls k = elim (set_of g l == k) [ true ↦ all_but l (ls k) | false ↦ ls k ]

-- a clear clears the bits and keeps the lines
abbrev pub cleared : Line → Line
cleared x = record { number = x.number; bits = 0 }

-- the lists of both levels
pub record Levels : Type 0 where
  pub first : ℕ → List Line
  pub second : ℕ → List Line

-- the bits of line l: those of the first level, if that lists it, else those of the second
abbrev pub bits_known : Geometry → ℕ → Levels → ℕ
bits_known g l ls = let xs = ls.first (set_of g l) in elim (is_some (in_front l xs)) [ true ↦ bits_of l xs | false ↦ bits_of l (ls.second (set_of (second_of g) l)) ]

-- the line of an access, with the bits that were known, and the bit of the word
abbrev pub touched_line : Geometry → ℕ → Levels → Line
touched_line g a ls = let l = line_of g a in record { number = l; bits = bit_or (bits_known g l ls) (2 ^ place_of g a) }

-- An access takes its line out of the second level and puts it first in its set. The line that has no room there any more
-- is put first in its second set.
abbrev pub touched : Geometry → ℕ → Levels → Levels
touched g a ls =
    let l = line_of g a in
    let x = touched_line g a ls in
    record {
      first = put_in g x ls.first;
      second = put_lost (second_of g) (lost g.ways x (ls.first (set_of g l))) (taken_out (second_of g) l ls.second);
    }

-- the lists after the events, which are given latest first
abbrev pub levels : Geometry → List Event → Levels
levels g [] = record { first = λ k. []; second = λ k. [] }
levels g (Touch a ∷ es) = touched g a (levels g es)
levels g (Drop a ∷ es) = let l = line_of g a in let ls = levels g es in record { first = taken_out g l ls.first; second = taken_out (second_of g) l ls.second }
levels g (Clear ∷ es) = let ls = levels g es in record { first = λ k. map cleared (ls.first k); second = λ k. map cleared (ls.second k) }

-- the list of set k of the first level, and of the second
abbrev pub lines : Geometry → ℕ → List Event → List Line
lines g k es = (levels g es).first k

-- the list of set k of the second level, the latest line first
abbrev pub lines_below : Geometry → ℕ → List Event → List Line
lines_below g k es = (levels g es).second k

-- whether the bit of the word at address a is set
abbrev pub is_set : Geometry → ℕ → Levels → Bool
is_set g a ls = bit_at (bits_known g (line_of g a) ls) (place_of g a) == 1
