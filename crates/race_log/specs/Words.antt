-- Kept accesses by word.
use Rattle.std.specs.Prelude.{◌≡◌, ◌≢◌, ℕ, ◌+◌, ◌*◌, ◌/◌, ◌%◌, ◌<◌, ◌≤◌, ◌⊎◌, ◌==◌, max, Bool, not, ◌&&◌, List, [], cond, length, nat_lt, slice_get, slice_index, Option, Some, None, IsTrue}
use Rattle.vector_time.specs.declared.times.Times.{Times}
use Rattle.vector_time.specs.Times.{count_of}
use Rattle.race_log.specs.declared.mode.Mode.{Mode}
use Rattle.race_log.specs.declared.slot.Slot.{Slot}
use Rattle.race_log.specs.declared.epochs.Epochs.{Epochs}
use Rattle.race_log.specs.declared.words.KeptWords.{KeptWords}
use Rattle.race_log.specs.Kept.{Kept, Replaces}
use Rattle.race_log.specs.Slots.{counts_in, kept_by, word_in, is_marked, slots_of}
use Rattle.race_log.specs.Bound.{pages_to}

-- the counts of the times, if there are any
abbrev pub counts_at : Option Times → ℕ → ℕ
counts_at None hart = 0
counts_at (Some times) hart = count_of times hart

-- for each epoch its counts
abbrev pub epoch_counts : Epochs → ℕ → ℕ → ℕ
epoch_counts s = counts_in s.table.items

-- the number of a hart's present epoch
abbrev pub epoch_of : Epochs → ℕ → ℕ
epoch_of s hart = slice_index s.present hart

-- the counts of a hart's present epoch
abbrev pub present_counts : Epochs → ℕ → ℕ → ℕ
present_counts s hart = epoch_counts s (epoch_of s hart)

-- each hart's present epoch has the hart's counts of the others
abbrev pub ArePresent : Epochs → (harts : ℕ) → List Times → Type 0
ArePresent s harts times = (g h : ℕ) → g < harts → h ≢ g → present_counts s g h ≡ counts_at (slice_get times g) h

-- whether an epoch can begin without memory
abbrev pub has_epoch : Epochs → Bool
has_epoch s = nat_lt s.next (length s.table.items) && not (is_marked (slice_get s.table.items s.next))

-- no epoch can begin in the place of another: all from the next on are marked as used
abbrev pub AreAllUsed : Epochs → Type 0
AreAllUsed s = (i : ℕ) → s.next ≤ i → i < length s.table.items → IsTrue (is_marked (slice_get s.table.items i))

-- the index in their page at which the slots of an address's word begin
abbrev pub place_of : (harts word : ℕ) → ℕ
place_of harts word = word / 4 % 64 * (harts + 1)

-- the slots of an address's page
abbrev pub page_of : KeptWords → ℕ → List Slot
page_of words word = slots_of (slice_get words.pages.items (word / 256))

-- the accesses kept of the aligned word of an address
abbrev pub kept_in : KeptWords → ℕ → List Kept
kept_in words word = cond (word % 4 == 0) (word_in (epoch_counts words.epochs) words.harts (page_of words word) (place_of words.harts word)) []

-- whether the page of an address is made
abbrev pub has_room : KeptWords → ℕ → Bool
has_room words word = length (page_of words word) == 64 * (words.harts + 1)

-- how many slots a page has
abbrev pub size_of : KeptWords → ℕ → ℕ
size_of words page = length (slots_of (slice_get words.pages.items page))

-- the second has as many pages, slots and epochs as the first, and its epochs are looked through at the same limit
pub record IsAsLarge (old new : KeptWords) : Type 0 where
  pub pages : length new.pages.items ≡ length old.pages.items
  pub slots : (page : ℕ) → size_of new page ≡ size_of old page
  pub epochs : length new.epochs.table.items ≡ length old.epochs.table.items
  pub limit : new.limit ≡ old.limit

-- pages of so many words from the first were made, and no others: there are no more than go up to the last of these, and
-- only these got slots
pub record MakesPages (first n : ℕ) (old new : KeptWords) : Type 0 where
  pub pages : length new.pages.items ≤ max (length old.pages.items) (pages_to first n)
  pub others : (page : ℕ) → (page < first / 256) ⊎ (pages_to first n ≤ page) → size_of new page ≡ size_of old page

-- the pages of so many words from the first are made
abbrev pub HasPages : KeptWords → ℕ → ℕ → Type 0
HasPages words first n = (i : ℕ) → i < n → IsTrue (has_room words (first + 4 * i))

-- if accesses are kept, which takes other harts, one of so many words from the first can be kept without memory
pub record HasRoom (words : KeptWords) (first n : ℕ) : Type 0 where
  pub pages : 1 < words.harts → HasPages words first n
  pub epoch : 1 < words.harts → IsTrue (has_epoch words.epochs)

-- what is kept of a point of the hart that is done in its present epoch
abbrev pub kept_now : Epochs → Mode → (hart turn after : ℕ) → Kept
kept_now s mode hart turn after = kept_by (epoch_counts s) mode hart turn after (epoch_of s hart)

-- what is kept by a slot
abbrev pub kept_of_slot : Epochs → Mode → Slot → Kept
kept_of_slot s mode slot = kept_by (epoch_counts s) mode slot.hart slot.turn slot.after slot.epoch

-- the access is kept of each of so many words from the first, and nothing changes at other words
pub record KeepsAccess (k : Kept) (first n : ℕ) (old new : ℕ → List Kept) : Type 0 where
  pub inside : (i : ℕ) → i < n → Replaces k (old (first + 4 * i)) (new (first + 4 * i))
  pub outside : (word : ℕ) → ((i : ℕ) → i < n → word ≢ first + 4 * i) → new word ≡ old word
