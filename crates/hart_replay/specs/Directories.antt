-- How the page of a number is found: by three levels of nodes, each of which has a place in the next one for each of 256 parts.
use Rattle.std.specs.Prelude.{ℕ, zero, suc, ◌/◌, ◌%◌, ◌^◌, ◌==◌, Bool, true, false, List, [], ◌∷◌, slice_get, slice_index, Option, Some, None}
use Rattle.hart_replay.specs.Pages.{Frame}
use Rattle.hart_replay.specs.declared.words.TaggedPage.{TaggedPage}

-- a node: the number of the part of the addresses that it is of, and a place for each part of that
pub record Branch : Type 0 where
  pub part : ℕ
  pub places : List ℕ

-- the nodes of a level, and for how many more there is room
pub record Branches : Type 0 where
  pub branches : List Branch
  pub room : ℕ

-- there is a node, and it is that of a part
abbrev pub has_part : Option Branch → ℕ → Bool
has_part None part = false
has_part (Some b) part = b.part == part

-- whether the node at a place is that of a part
abbrev pub has_branch : List Branch → (node part : ℕ) → Bool
has_branch bs node part = has_part (slice_get bs node) part

-- a node's place for one of its parts, if it is the node of `part`, else 0
abbrev pub place_in : Option Branch → (part at : ℕ) → ℕ
place_in None part at = 0
place_in (Some b) part at = elim (b.part == part) [ true ↦ slice_index b.places at | false ↦ 0 ]

-- the place for one of its parts that the node at a place has, if it is the node of `part`, else 0
abbrev pub place_at : List Branch → (node part at : ℕ) → ℕ
place_at bs node part at = place_in (slice_get bs node) part at

-- three levels of nodes, the place of the first one's node, and for how many numbers more there is room
pub record Paths : Type 0 where
  pub root : ℕ
  pub tops : List Branch
  pub mids : List Branch
  pub leaves : List Branch
  pub room : ℕ

-- the place to which the levels lead for a number below 2 ^ 24, by its bytes from the highest on
abbrev pub place_for : Paths → ℕ → ℕ
place_for d n = place_at d.leaves (place_at d.mids (place_at d.tops d.root 0 (n / 65536)) (n / 65536) (n / 256 % 256)) (n / 256) (n % 256)

-- ---- the pages that are found so

-- the page, if it is that of a number
abbrev pub page_in : Option TaggedPage → ℕ → Option Frame
page_in None n = None
page_in (Some p) n = elim (p.number == n) [ true ↦ Some p.page | false ↦ None ]

-- whether the page of a number is at a place
abbrev pub is_of : Option TaggedPage → ℕ → Bool
is_of None n = false
is_of (Some p) n = p.number == n

-- whether the page of a number is at a place of the list
abbrev pub stands_at : List TaggedPage → (place number : ℕ) → Bool
stands_at pages place n = is_of (slice_get pages place) n

-- the page of a number
abbrev pub page_at : (ℕ → ℕ) → List TaggedPage → ℕ → Option Frame
page_at place pages n = page_in (slice_get pages (place n)) n

-- the page of one number more, if there is one
abbrev pub and_page : Option Frame → ℕ → List (ℕ × Frame) → List (ℕ × Frame)
and_page None n rest = rest
and_page (Some f) n rest = (n, f) ∷ rest

-- the pages of the numbers below one, the highest number first
abbrev pub listed : (ℕ → Option Frame) → ℕ → List (ℕ × Frame)
listed f zero = []
listed f (suc n) = and_page (f n) n (listed f n)

-- how many pages of 64 words the addresses of 32 bits have
unfoldable pub page_count : ℕ
page_count = 2 ^ 24

-- the pages by their numbers
unfoldable pub pages_of : (ℕ → Option Frame) → List (ℕ × Frame)
pages_of f = listed f page_count
