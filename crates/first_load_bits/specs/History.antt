-- Which words are warm, by the history of a cache. A history is the list of its events, the latest first. A moment is
-- named by the number n of events since: `drop n es` is the history es as it was then.
use Rattle.std.specs.Prelude.{ℕ, ◌≡◌, ◌≢◌, ◌≤◌, ◌⊎◌, List, [], ◌∷◌, ◌++◌, length, drop, All, AllPairs}
use Rattle.first_load_bits.specs.Events.{Geometry, Event, word_of, line_of, set_of, second_of, line_start, IsTouchOf, IsDropOf}
use Rattle.first_load_bits.specs.Events.{Touch, Drop, Clear}

-- the history has a last touch of line l, and these events since
pub record IsSinceTouch (g : Geometry) (l : ℕ) (since es : List Event) : Type 0 where
  pub addr : ℕ
  pub before : List Event
  pub parts : es ≡ since ++ Touch addr ∷ before
  pub touch : line_of g addr ≡ l
  pub last : All (λ e. ¬ IsTouchOf g l e) since

-- line l was touched, and wasn't dropped since its last touch
pub record IsUndropped (g : Geometry) (l : ℕ) (es : List Event) : Type 0 where
  pub since : List Event
  pub touched : IsSinceTouch g l since es
  pub undropped : All (λ e. ¬ IsDropOf g l e) since

-- there are n other lines of the set of l that were touched in es, and not dropped since their own last touch
pub record HasOthers (g : Geometry) (l n : ℕ) (es : List Event) : Type 0 where
  pub others : List ℕ
  pub count : length others ≡ n
  pub distinct : AllPairs (λ x y. x ≢ y) others
  pub each : All (λ k. (k ≢ l) × (set_of g k ≡ set_of g l) × IsUndropped g k es) others

-- Line l was touched, and wasn't dropped since its last touch. At no moment since that touch were there `ways` other lines of
-- its set that were touched later than it and not dropped since their own last touch.
pub record IsListed (g : Geometry) (l : ℕ) (es : List Event) : Type 0 where
  pub since : List Event
  pub touched : IsSinceTouch g l since es
  pub undropped : All (λ e. ¬ IsDropOf g l e) since
  pub room : (n : ℕ) → n ≤ length since → ¬ HasOthers g l g.ways (drop n since)

-- An access evicts line l from the first level: it was listed, and isn't any more.
pub record Falls (g : Geometry) (l addr : ℕ) (es : List Event) : Type 0 where
  pub listed : IsListed g l es
  pub lost : ¬ IsListed g l (Touch addr ∷ es)

-- What happened to the second level. A line that is touched or dropped leaves it, as by a drop of its own there. Then the
-- line that the access evicts comes to it, as by an access of its own.
-- (The second level has a history of its own, so what is proved of one level serves twice.)
pub data IsSecond (g : Geometry) : List Event → List Event → Type 0 where
  Nothing : IsSecond g [] []
  Comes : (addr l : ℕ) (es below : List Event) → IsSecond g es below → Falls g l addr es → IsSecond g (Touch addr ∷ es) (Touch (line_start g l) ∷ Drop addr ∷ below)
  Stays : (addr : ℕ) (es below : List Event) → IsSecond g es below → ((l : ℕ) → ¬ Falls g l addr es) → IsSecond g (Touch addr ∷ es) (Drop addr ∷ below)
  Leaves : (addr : ℕ) (es below : List Event) → IsSecond g es below → IsSecond g (Drop addr ∷ es) (Drop addr ∷ below)
  Cleared : (es below : List Event) → IsSecond g es below → IsSecond g (Clear ∷ es) below

-- Line l is below. Since its fall it wasn't touched or dropped. At no moment since were there `ways2` other lines of its second
-- set that had fallen later and weren't touched or dropped since their own last fall. That is to be listed on the second level.
pub record IsBelow (g : Geometry) (l : ℕ) (es : List Event) : Type 0 where
  pub below : List Event
  pub second : IsSecond g es below
  pub listed : IsListed (second_of g) l below

-- the cache holds line l: it is listed, or below
abbrev pub IsHeld : Geometry → ℕ → List Event → Type 0
IsHeld g l es = IsListed g l es ⊎ IsBelow g l es

-- The word at address a is warm: since some touch of it after the last clear, its line was held at every moment.
pub record IsWarm (g : Geometry) (a : ℕ) (es : List Event) : Type 0 where
  pub addr : ℕ
  pub since : List Event
  pub before : List Event
  pub parts : es ≡ since ++ Touch addr ∷ before
  pub touch : word_of addr ≡ word_of a
  pub uncleared : All (λ e. e ≢ Clear) since
  pub held : (n : ℕ) → n ≤ length since → IsHeld g (line_of g a) (drop n es)
