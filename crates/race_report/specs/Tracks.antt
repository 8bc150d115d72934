-- The accesses of each word by each hart, as linked entries.
use Rattle.std.specs.Prelude.{◌≡◌, ℕ, ◌/◌, ◌<◌, ◌==◌, ◌&&◌, cond, List, [], ◌∷◌, length, slice_get, Option, Some, None}
use Rattle.hart_replay.specs.Pages.{Known, word_at}
use Rattle.race_report.specs.declared.track.TrackEntry.{TrackEntry}

-- the number that a hart's words have at an address
abbrev pub known_at : Option Known → ℕ → Option ℕ
known_at None w = None
known_at (Some k) w = word_at k.pages (w / 4)

-- the number that hart h's words have at an address
abbrev pub head_at : List Known → ℕ → ℕ → Option ℕ
head_at heads h w = known_at (slice_get heads h) w

-- for how many pages more there is room
abbrev pub room_in : Option Known → ℕ
room_in None = 0
room_in (Some k) = k.room

-- for how many pages more hart h has room
abbrev pub room_at : List Known → ℕ → ℕ
room_at heads h = room_in (slice_get heads h)

-- from an entry on, each one's previous has these places
abbrev pub IsChain : List TrackEntry → Option ℕ → List ℕ → Type 0
IsChain entries number [] = number ≡ None
IsChain entries number (p ∷ ps) = (k : ℕ) × (e : TrackEntry) × (number ≡ Some k) × (slice_get entries k ≡ Some e) × (e.place ≡ p) × IsChain entries e.previous ps

-- the places of hart h's accesses of the word, the latest first
abbrev pub IsTrackedIn : List Known → List TrackEntry → ℕ → ℕ → List ℕ → Type 0
IsTrackedIn heads entries h w ps = IsChain entries (head_at heads h w) ps

-- each number is of an entry, and each entry's previous is an earlier one
pub record AreLinked (heads : List Known) (entries : List TrackEntry) : Type 0 where
  pub heads_there : (h w k : ℕ) → head_at heads h w ≡ Some k → k < length entries
  pub links_back : (k j : ℕ) (e : TrackEntry) → slice_get entries k ≡ Some e → e.previous ≡ Some j → j < k

-- all places are below a count
abbrev pub AreBelow : ℕ → List TrackEntry → Type 0
AreBelow count entries = (k : ℕ) (e : TrackEntry) → slice_get entries k ≡ Some e → e.place < count

-- the places of h's accesses of w, once g's access of a word at place n is added
abbrev pub noted_one : (h w g n word : ℕ) → List ℕ → List ℕ
noted_one h w g n word ps = cond (g == h && (word / 4 == w / 4)) (n ∷ ps) ps

-- an access of a word by a hart was added: to the places of that hart and word alone
abbrev pub NotedOne : (hart place word : ℕ) → (old_heads : List Known) → (old_entries : List TrackEntry) → (heads : List Known) → (entries : List TrackEntry) → Type 0
NotedOne hart place word old_heads old_entries heads entries =
    (h w : ℕ) (ps : List ℕ) → IsTrackedIn old_heads old_entries h w ps → IsTrackedIn heads entries h w (noted_one h w hart place word ps)

-- the places of a hart and word, after an access of several words was added
abbrev pub noted : (h w g n : ℕ) → List ℕ → List ℕ → List ℕ
noted h w g n [] ps = ps
noted h w g n (word ∷ words) ps = noted h w g n words (noted_one h w g n word ps)
