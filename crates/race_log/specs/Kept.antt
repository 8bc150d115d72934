-- What is kept of the accesses of a word, so that the edges into later points can be told.
use Rattle.std.specs.Prelude.{◌≡◌, ℕ, zero, suc, ◌+◌, Bool, true, false, not, ◌&&◌, ◌||◌, ◌⊎◌, List, [], ◌∷◌, ◌++◌, ◌==◌, slice_get, Some}
use Rattle.race_log.specs.declared.mode.Mode.{Mode}
use Rattle.race_log.specs.declared.mode.Mode.TheVariants.{Read, Write}
use Rattle.race_log.specs.Points.{Point, Access}
use Rattle.race_log.specs.Tests.{touches, writes_word}
use Rattle.race_log.specs.Holds.{UpTo, OwnUpTo, TimesOf}

-- what is kept of a point's access of a word: the point's turn, hart and count, whether it writes the word, and the counts
-- of the points that are the point or before it
pub record Kept : Type 0 where
  pub turn : ℕ
  pub hart : ℕ
  pub ic : ℕ
  pub mode : Mode
  pub times : ℕ → ℕ

-- whether it is a write
abbrev pub is_write : Mode → Bool
is_write Read = false
is_write Write = true

-- so many aligned words from the first, each read or each written
abbrev pub accesses_from : ℕ → ℕ → Bool → List Access
accesses_from first zero writes = []
accesses_from first (suc n) writes = record { word = first; writes = writes } ∷ accesses_from (first + 4) n writes

-- the hart's point at the count, in that turn, with an access of so many words from the first
abbrev pub access_point : ℕ → ℕ → ℕ → ℕ → ℕ → Mode → Point
access_point hart count turn first n mode = record { hart = hart; count = count; turn = turn; accesses = accesses_from first n (is_write mode) }

-- the run with one more point
abbrev pub after : List Point → Point → List Point
after run b = run ++ b ∷ []

-- x is among the elements
abbrev pub In : {X : Type 0} → List X → X → Type 0
In [] y = ⊥
In (x ∷ xs) y = (x ≡ y) ⊎ In xs y

-- k says what place m's point did to the word, and what the times were after it
pub record KeptAt (run : List Point) (word m : ℕ) (k : Kept) : Type 0 where
  pub point : Point
  pub at : slice_get run m ≡ Some point
  pub turn : k.turn ≡ point.turn
  pub hart : k.hart ≡ point.hart
  pub count : k.ic ≡ point.count
  pub touched : touches word point ≡ true
  pub written : is_write k.mode ≡ writes_word word point
  pub times : TimesOf run m k.times

-- each live hart knows of place m: it is, or is before, a point of that hart
abbrev pub AllKnow : List Point → (ℕ → Bool) → ℕ → Type 0
AllKnow run live m = (hart : ℕ) → live hart ≡ true → OwnUpTo run hart m

-- an access is kept that place m's point is or is before, and that serves
abbrev pub KeptSince : List Point → ℕ → List Kept → ℕ → (Kept → Type 0) → Type 0
KeptSince run word ks m Serves = (j : ℕ) × (k : Kept) × In ks k × KeptAt run word j k × UpTo run m j × Serves k

-- what is kept of the word suffices for the live harts. Each point that writes the word is, or is before, a kept write. Each
-- point that accesses it is, or is before, a kept write or a kept access of its own hart. Points that each live hart knows of
-- are excepted
pub record Suffices (run : List Point) (live : ℕ → Bool) (word : ℕ) (ks : List Kept) : Type 0 where
  pub each : (k : Kept) → In ks k → (j : ℕ) × KeptAt run word j k
  pub writes : (m : ℕ) (p : Point) → slice_get run m ≡ Some p → writes_word word p ≡ true
      → KeptSince run word ks m (λ k. is_write k.mode ≡ true) ⊎ AllKnow run live m
  pub accesses : (m : ℕ) (p : Point) → slice_get run m ≡ Some p → touches word p ≡ true
      → KeptSince run word ks m (λ k. (is_write k.mode ≡ true) ⊎ (k.hart ≡ p.hart)) ⊎ AllKnow run live m

-- whether a kept access stays beside a later one: a read puts out an earlier read of its hart, and a write all
abbrev pub stays : ℕ → Bool → Kept → Bool
stays hart writes k = not writes && (is_write k.mode || not (k.hart == hart))

-- an access of a word is kept, in the place of those that it puts out
pub record Replaces (k : Kept) (old new : List Kept) : Type 0 where
  pub last : In new k
  pub stay : (x : Kept) → In old x → stays k.hart (is_write k.mode) x ≡ true → In new x
  pub only : (x : Kept) → In new x → (In old x × (stays k.hart (is_write k.mode) x ≡ true)) ⊎ (k ≡ x)
