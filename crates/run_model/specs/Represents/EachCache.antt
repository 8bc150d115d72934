-- What the harts' caches keep together, and the histories that they represent.
use Rattle.std.specs.Prelude.{ℕ, ◌+◌, ◌≤◌, ◌<◌, ◌==◌, ◌≡◌, ◌≢◌, Bool, true, false, List, ◌∷◌, length, get_or, Option, Some, None}
use Rattle.run_model.specs.Common.{RawSettings, Event, Clear, Contents, RepresentsEvents, geometry_of, no_contents, Warm, Plan}
use Rattle.run_model.specs.declared.span.Span.{Span}

-- the value that a look-up gives if there is no cache
abbrev pub no_cache : Contents
no_cache = no_contents

-- the cache of hart k
abbrev pub cache_of : List Contents → ℕ → Contents
cache_of cs k = get_or cs k no_cache

-- all caches have one geometry
abbrev pub AreAlike : List Contents → Type 0
AreAlike cs = (k : ℕ) → k < length cs → (cache_of cs k).geometry ≡ (cache_of cs 0).geometry

-- how many touches and clears of hart k's cache there were
abbrev pub steps_in : List Contents → ℕ → ℕ
steps_in cs k = (cache_of cs k).steps

-- there is a cache for each hart, of the geometry that the settings ask for, and each represents its hart's history
pub record AreCaches (c : RawSettings) (cs : List Contents) (events : ℕ → List Event) : Type 0 where
  pub count : length cs ≡ c.harts
  pub geometry : (k : ℕ) → k < c.harts → (cache_of cs k).geometry ≡ geometry_of c
  pub stands : (k : ℕ) → k < c.harts → RepresentsEvents (cache_of cs k) (events k)

-- the word that an access touches in the hart's own cache; a system call touches none
abbrev pub touched_word : Option Plan → Option Span → Option ℕ
touched_word None (Some s) = Some s.first
touched_word call accessed = None

-- one step if a word is touched, and none elsewhere
abbrev pub touches : Option ℕ → ℕ
touches None = 0
touches (Some a) = 1

-- how the touched word was before, if the access is a loading one
abbrev pub where_loading : Option ℕ → Option Warm → Option Warm
where_loading None answer = None
where_loading (Some a) answer = answer

-- the histories after a clear of hart k's cache
abbrev pub events_cleared : ℕ → (ℕ → List Event) → ℕ → List Event
events_cleared k events j = elim (j == k) [ true ↦ Clear ∷ events k | false ↦ events j ]

-- ---- steps of the caches together

-- whether hart k's cache is the one that is spared
abbrev pub is_spared : Option ℕ → ℕ → Bool
is_spared None k = false
is_spared (Some hart) k = k == hart

-- in the caches below n but the spared one, what is written is dropped; the others are as they were
pub record IsDropped (spared : Option ℕ) (lost : List Event → List Event) (n : ℕ) (old new : List Contents) : Type 0 where
  pub count : length new ≡ length old
  pub geometry : (k : ℕ) → (cache_of new k).geometry ≡ (cache_of old k).geometry
  pub steps : (k : ℕ) → steps_in new k ≡ steps_in old k
  pub done : (k : ℕ) → k < n → (es : List Event) → RepresentsEvents (cache_of old k) es → RepresentsEvents (cache_of new k) (elim (is_spared spared k) [ true ↦ es | false ↦ lost es ])
  pub rest : (k : ℕ) → n ≤ k → cache_of new k ≡ cache_of old k

-- an event, an access or a clear, happens to hart h's cache
pub record IsSetTo (h : ℕ) (event : Event) (old new : List Contents) : Type 0 where
  pub count : length new ≡ length old
  pub geometry : (k : ℕ) → (cache_of new k).geometry ≡ (cache_of old k).geometry
  pub steps : steps_in new h ≡ steps_in old h + 1
  pub own : (es : List Event) → RepresentsEvents (cache_of old h) es → RepresentsEvents (cache_of new h) (event ∷ es)
  pub others : (k : ℕ) → k ≢ h → cache_of new k ≡ cache_of old k
