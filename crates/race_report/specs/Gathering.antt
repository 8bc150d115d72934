-- The points of a joint replay so far, as they are gathered.
use Rattle.std.specs.Prelude.{◌≡◌, ◌<◌, ◌≤◌, ◌%◌, ◌==◌, ◌&&◌, ℕ, Bool, true, false, IsTrue, List, [], ◌∷◌, length, map, slice_get, Option, Some, None}
use Rattle.race_report.specs.Common.{list_any, Row, Point, clashes, RepresentsAccesses, harts_of, next_turn, next_count, lasts}
use Rattle.bn_base.specs.declared.settings.TheConstants.{HARTS}
use Rattle.race_report.specs.declared.touch.Touch.{Touch}
use Rattle.race_report.specs.declared.track.Track.{Track}
use Rattle.race_report.specs.declared.gathered.Gathered.{Gathered}
use Rattle.race_report.specs.Points.{Accessing, accesses_of}
use Rattle.race_report.specs.Races.{syncs_from, with_accesses, sync_accesses, meetings_of, race_count}
use Rattle.race_report.specs.Tracks.{AreBelow}
use Rattle.race_report.specs.Found.{total}
use Rattle.race_report.specs.Kept.{IsTracked, lists_of}

-- each hart
abbrev pub everyone : ℕ → Bool
everyone h = true

-- a point with its accesses if it is a sync point, and with none if it isn't
abbrev pub sync_of : ℕ → ℕ → Touch → Point
sync_of hart place touch = with_accesses hart place (sync_accesses touch)

-- the point of a hart's row
abbrev pub point_by : ℕ → Row → Touch → Accessing
point_by hart row touch = record { hart = hart; row = row; touch = touch }

-- ---- the accesses of each word

-- the point is of hart h and has an access that clashes with one of the word, which writes it or not
abbrev pub meets : ℕ → ℕ → Bool → Accessing → Bool
meets h w writes p = (p.hart == h) && list_any (λ y. clashes y (record { word = w; writes = writes })) (accesses_of p.touch)

-- whether there is a point, and it passes a test
abbrev pub passes : (Accessing → Bool) → Option Accessing → Bool
passes test None = false
passes test (Some p) = test p

-- places, of which no later one is greater
abbrev pub AreFalling : List ℕ → Type 0
AreFalling [] = Unit {0}
AreFalling (m ∷ []) = Unit {0}
AreFalling (m ∷ k ∷ ks) = (k ≤ m) × AreFalling (k ∷ ks)

-- these are the places of the points that pass, the latest first
pub record ArePlaces (run : List Accessing) (test : Accessing → Bool) (ps : List ℕ) : Type 0 where
  pub falling : AreFalling ps
  pub members : (m : ℕ) → list_any (λ k. k == m) ps ≡ passes test (slice_get run m)

-- a track has the places of the accesses that clash with such an access of each word
pub record Follows (harts : ℕ) (run : List Accessing) (writes : Bool) (t : Track) : Type 0 where
  pub count : length t.heads.items ≡ harts
  pub below : AreBelow (length run) t.entries.items
  pub places : ℕ → ℕ → List ℕ
  pub tracked : (h w : ℕ) → w % 4 ≡ 0 → IsTracked t h w (places h w)
  pub are : (h w : ℕ) → w % 4 ≡ 0 → ArePlaces run (meets h w writes) (places h w)

-- ---- all of it

-- the points, by their rows and harts; their accesses; which are ordered before which; and their races
pub record IsGathered (harts : ℕ) (run : List Accessing) (g : Gathered) : Type 0 where
  pub harts_are : g.harts ≡ harts
  pub few : harts ≤ HARTS
  pub rows : g.rows.items ≡ map (λ p. p.row) run
  pub owners : g.owners.items ≡ map (λ p. p.hart) run
  pub all : Follows harts run true g.all
  pub written : Follows harts run false g.written
  pub stands : RepresentsAccesses (syncs_from 0 run) everyone g.shadow
  pub shadow_harts : harts_of g.shadow ≡ harts
  pub turn : next_turn g.shadow ≤ length run
  pub counts : (h : ℕ) → next_count g.shadow h ≤ length run
  pub lasting : (h : ℕ) → h < harts → IsTrue (lasts g.shadow h)
  pub size : length (lists_of g.found) ≡ length run
  pub lists : (m : ℕ) → m < length run → slice_get (lists_of g.found) m ≡ Some (meetings_of run m)

-- the races are gathered, until there are more than so many
pub record IsState (harts most : ℕ) (run : List Accessing) (g : Gathered) : Type 0 where
  pub gathered : total g.found.lists.items ≤ most → IsGathered harts run g
  pub over : most < total g.found.lists.items → most < race_count run
