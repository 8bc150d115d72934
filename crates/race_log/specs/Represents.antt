-- What a shadow knows and keeps of the points so far.
use Rattle.std.specs.Prelude.{◌≡◌, ◌≢◌, ℕ, ◌+◌, ◌-◌, ◌*◌, ◌<◌, ◌≤◌, ◌==◌, if◌then◌else◌, Bool, not, ◌&&◌, ◌||◌, nat_lt}
use Rattle.std.specs.Prelude.{List, length, slice_get, Option, Some, None, All}
use Rattle.race_log.specs.declared.shadow.Shadow.{Shadow}
use Rattle.race_log.specs.declared.mode.Mode.{Mode}
use Rattle.race_log.specs.Points.{Point}
use Rattle.race_log.specs.ByCount.{IsInOrder}
use Rattle.race_log.specs.Holds.{OwnUpTo, CountsOf}
use Rattle.race_log.specs.Kept.{Kept, Suffices, is_write}
use Rattle.race_log.specs.Search.{sources, counts_after, gathered}
use Rattle.race_log.specs.Bound.{most_epochs}
use Rattle.race_log.specs.Slots.{slots_in}
use Rattle.race_log.specs.Sweep.{has_bit, all_below, held_below, one_more}
use Rattle.race_log.specs.Words.{kept_in, counts_at, KeepsAccess, IsAsLarge, MakesPages, size_of}

-- a number past the turn, if there is one
abbrev pub past_turn : Option ℕ → ℕ
past_turn None = 0
past_turn (Some turn) = turn + 1

-- how many harts there are
abbrev pub harts_of : Shadow → ℕ
harts_of s = s.harts

-- the harts whose bits were set at each sweep so far, one bit for each
abbrev pub lasting_of : Shadow → ℕ
lasting_of s = s.lasting

-- whether the hart's bit was clear at no sweep so far
abbrev pub lasts : Shadow → ℕ → Bool
lasts s hart = has_bit (lasting_of s) hart

-- whether the hart is one of the shadow's, lasts, and is live
abbrev pub is_live : Shadow → (ℕ → Bool) → ℕ → Bool
is_live s live hart = nat_lt hart (harts_of s) && lasts s hart && live hart

-- the lowest turn that the next access may have
abbrev pub next_turn : Shadow → ℕ
next_turn s = past_turn s.last_turn

-- for each hart the number of its points that the given hart knows of
abbrev pub times_of : Shadow → ℕ → ℕ → ℕ
times_of s hart = counts_at (slice_get s.times.items hart)

-- the lowest count that the hart's next access may have
abbrev pub next_count : Shadow → ℕ → ℕ
next_count s hart = times_of s hart hart

-- the first word and the number of words that are reserved for the next access
abbrev pub reserved_range : Shadow → Option (ℕ × ℕ)
reserved_range s = s.reserved

-- the sources of the edges into the last access
abbrev pub edges_of : Shadow → List (ℕ × ℕ)
edges_of s = s.edges

-- what is kept of the word
abbrev pub kept_of : Shadow → ℕ → List Kept
kept_of s word = kept_in s.words word

-- whether the times of each hart of the set cover the hart's point at the count
abbrev pub is_known : Shadow → (set hart count : ℕ) → Bool
is_known s set hart count = all_below (λ g. not (has_bit set g) || nat_lt count (times_of s g hart)) (harts_of s)

-- how many words have room, and how many accesses are kept of them
abbrev pub words_of : Shadow → ℕ
words_of s = 64 * length s.words.pages.items

-- how many epochs there are, each with a vector clock
abbrev pub epochs_of : Shadow → ℕ
epochs_of s = length s.words.epochs.table.items

-- how many pages there are, of which some may have no slots
abbrev pub pages_held : Shadow → ℕ
pages_held s = length s.words.pages.items

-- how many slots all pages have together
abbrev pub slots_held : Shadow → ℕ
slots_held s = slots_in s.words.pages.items

-- room was made for so many words from the first: the pages that have some of them were made, and no others
abbrev pub MakesRoom : (first n : ℕ) → (old new : Shadow) → Type 0
MakesRoom first n old new = MakesPages first n old.words new.words

-- the second has as many pages, slots and epochs as the first, and its epochs are looked through at the same limit
abbrev pub HasSameSize : (old new : Shadow) → Type 0
HasSameSize old new = IsAsLarge old.words new.words

-- how many accesses are kept of all words
abbrev pub held_of : Shadow → ℕ
held_of s = held_below (kept_of s) (words_of s)

-- at any time there are few epochs, by the slots and pages that there are
abbrev pub EpochsStayFew : Type 0
EpochsStayFew = (s : Shadow) → epochs_of s ≤ most_epochs (slots_held s) (pages_held s)

-- at any time a page has few slots: one for a write and one for a read of each hart, for each of 64 words
abbrev pub PagesStaySmall : Type 0
PagesStaySmall = (s : Shadow) (page : ℕ) → size_of s.words page ≤ 64 * (harts_of s + 1)

-- how many accesses were taken in since the last sweep, or since the shadow was new
abbrev pub unswept_of : Shadow → ℕ
unswept_of s = s.since

-- the two know of the same points and keep the same
pub record KnowsSame (old new : Shadow) : Type 0 where
  pub harts : harts_of new ≡ harts_of old
  pub lasting : lasting_of new ≡ lasting_of old
  pub turn : next_turn new ≡ next_turn old
  pub times : (hart other : ℕ) → times_of new hart other ≡ times_of old hart other
  pub kept : (word : ℕ) → kept_of new word ≡ kept_of old word

-- the shadow represents the run: it knows of these points and no others, and what it keeps suffices for its live harts
pub record RepresentsAccesses (run : List Point) (live : ℕ → Bool) (s : Shadow) : Type 0 where
  pub in_order : IsInOrder run
  pub harts : All (λ p. p.hart < harts_of s) run
  pub past : All (λ p. p.turn < next_turn s) run
  pub own : (hart : ℕ) → hart < harts_of s → CountsOf run (OwnUpTo run hart) (times_of s hart)
  pub kept : (word : ℕ) → Suffices run (is_live s live) word (kept_of s word)

-- The shadow takes in the hart's access at this count and turn. The sources of its edges are found among what is kept, the
-- hart's times take in theirs, and one access is kept, with these times, if there are other harts
pub record TakesIn (hart count turn first n : ℕ) (mode : Mode) (old new : Shadow) : Type 0 where
  pub edges : edges_of new ≡ sources hart (is_write mode) (harts_of old - 1) (times_of old hart) (gathered (kept_of old) first n)
  pub few : length (edges_of new) < harts_of old
  pub own : (h : ℕ) → times_of new hart h ≡ (if h == hart then count + 1 else counts_after hart (is_write mode) (harts_of old - 1) (times_of old hart) (gathered (kept_of old) first n) h)
  pub others : (other : ℕ) → other ≢ hart → (h : ℕ) → times_of new other h ≡ times_of old other h
  pub one : Kept
  pub at_turn : one.turn ≡ turn
  pub by_hart : one.hart ≡ hart
  pub at_count : one.ic ≡ count
  pub with_mode : one.mode ≡ mode
  pub with_times : (h : ℕ) → one.times h ≡ times_of new hart h
  pub many : 1 < harts_of old → KeepsAccess one first n (kept_of old) (kept_of new)
  pub alone : harts_of old ≤ 1 → (w : ℕ) → kept_of new w ≡ kept_of old w
  pub harts : harts_of new ≡ harts_of old
  pub lasting : lasting_of new ≡ lasting_of old
  pub turns : next_turn new ≡ turn + 1
  pub reserved : reserved_range new ≡ None
  pub unswept : unswept_of new ≡ one_more (unswept_of old)
  pub size : HasSameSize old new
