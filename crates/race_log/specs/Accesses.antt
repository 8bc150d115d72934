-- What an access asks of a shadow that takes it in, and what it makes of the shadow.
use Rattle.std.specs.Prelude.{◌≡◌, ◌≢◌, ℕ, ◌+◌, ◌*◌, ◌<◌, ◌≤◌, ◌^◌, ◌%◌, ◌==◌, if◌then◌else◌, IsTrue, Bool, List, [], length}
use Rattle.std.specs.Prelude.{Some, None}
use Rattle.race_log.specs.declared.shadow.Shadow.{Shadow}
use Rattle.race_log.specs.Points.{Point}
use Rattle.race_log.specs.Tests.{sources_into}
use Rattle.race_log.specs.ByCount.{IsTimesOf}
use Rattle.race_log.specs.Laws.{AreSources}
use Rattle.race_log.specs.Kept.{after}
use Rattle.race_log.specs.Sweep.{one_more}
use Rattle.race_log.specs.Represents.{RepresentsAccesses, harts_of, lasting_of, lasts, next_turn, next_count}
use Rattle.race_log.specs.Represents.{times_of, kept_of, reserved_range, edges_of, unswept_of, HasSameSize}

-- the shadow may take in the hart's access of n words from the first, at this count and in this turn. The words are
-- reserved, turn and count are past those so far, and the hart's bit was set at each sweep
pub record MayAccess (hart ic turn first n : ℕ) (s : Shadow) : Type 0 where
  pub there : hart < harts_of s
  pub small : ic < 2 ^ 41
  pub aligned : first % 4 ≡ 0
  pub range : first + 4 * n ≤ 2 ^ 32
  pub reserved : reserved_range s ≡ Some (first, n)
  pub turns : next_turn s ≤ turn
  pub counts : next_count s hart ≤ ic
  pub lasting : IsTrue (lasts s hart)

-- the points that the edges into the hart's point b come from are there then, each once, and the latest first
pub record HasEdges (hart : ℕ) (b : Point) (old new : Shadow) : Type 0 where
  pub listed : (run : List Point) (live : ℕ → Bool) → IsTrue (live hart) → RepresentsAccesses run live old
      → edges_of new ≡ sources_into (after run b) (length run)
  pub exact : (run : List Point) (live : ℕ → Bool) → IsTrue (live hart) → RepresentsAccesses run live old
      → AreSources run b (edges_of new)
  pub few : length (edges_of new) < harts_of old

-- no edge leads into the hart's point b
abbrev pub HasNoEdges : (hart : ℕ) (b : Point) (old : Shadow) → Type 0
HasNoEdges hart b old = (run : List Point) (live : ℕ → Bool) → IsTrue (live hart) → RepresentsAccesses run live old → sources_into (after run b) (length run) ≡ []

-- the shadow then represents the run with the hart's point b, the hart's times are those of b, and the others' stay
pub record TakesPoint (hart : ℕ) (b : Point) (old new : Shadow) : Type 0 where
  pub stands : (run : List Point) (live : ℕ → Bool) → IsTrue (live hart) → RepresentsAccesses run live old
      → RepresentsAccesses (after run b) live new
  pub times : (run : List Point) (live : ℕ → Bool) → IsTrue (live hart) → RepresentsAccesses run live old
      → IsTimesOf (after run b) b (times_of new hart)
  pub others : (other : ℕ) → other ≢ hart → (h : ℕ) → times_of new other h ≡ times_of old other h

-- how the conditions of the next access change with the hart's access at this count, in this turn
pub record AwaitsNext (hart ic turn : ℕ) (old new : Shadow) : Type 0 where
  pub harts : harts_of new ≡ harts_of old
  pub lasting : lasting_of new ≡ lasting_of old
  pub turns : next_turn new ≡ turn + 1
  pub counts : (h : ℕ) → next_count new h ≡ (if h == hart then ic + 1 else next_count old h)
  pub reserved : reserved_range new ≡ None
  pub unswept : unswept_of new ≡ one_more (unswept_of old)
  pub size : HasSameSize old new

-- how they change with an access of the one hart of a run: what was reserved, and what is known of sweeps, stays
pub record AwaitsAlone (ic turn : ℕ) (old new : Shadow) : Type 0 where
  pub harts : harts_of new ≡ harts_of old
  pub lasting : lasting_of new ≡ lasting_of old
  pub turns : next_turn new ≡ turn + 1
  pub counts : (h : ℕ) → next_count new h ≡ (if h == 0 then ic + 1 else next_count old h)

-- the times of the one hart of a run are those of its access at this count and in this turn; all else stays
pub record NotesAlone (ic turn : ℕ) (old new : Shadow) : Type 0 where
  pub own : (h : ℕ) → times_of new 0 h ≡ (if h == 0 then ic + 1 else times_of old 0 h)
  pub others : (other : ℕ) → other ≢ 0 → (h : ℕ) → times_of new other h ≡ times_of old other h
  pub kept : (w : ℕ) → kept_of new w ≡ kept_of old w
  pub harts : harts_of new ≡ harts_of old
  pub lasting : lasting_of new ≡ lasting_of old
  pub turns : next_turn new ≡ turn + 1
