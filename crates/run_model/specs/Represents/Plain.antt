-- What a plain machine keeps, and the runs that it represents.
use Rattle.std.specs.Prelude.{◌≡◌, ◌≤◌, ◌<◌, ◌^◌, ◌%◌, ℕ, ◌+◌, ◌*◌, ◌||◌, ⊤, Bool, true, false, not, nat_le, nat_lt, IsTrue, List, length, filter, Option, Some, None}
use Rattle.run_model.specs.Common.{IsSetting, RawSettings, Shadow, Point, RepresentsAccesses, harts_of, lasts, next_turn, next_count, reserved_range, times_of, kept_of, words_of, unswept_of}
use Rattle.bn_base.specs.declared.settings.TheConstants.{HARTS}
use Rattle.race_log.specs.Sweep.{all_below}
use Rattle.run_model.specs.declared.hart.Hart.{Hart}
use Rattle.run_model.specs.declared.turn_end.TurnEnd.{TurnEnd}
use Rattle.run_model.specs.declared.turn_end.TurnEnd.TheVariants.{GoesOn, NewInterval, HartOver, RunOver}
use Rattle.run_model.specs.declared.span.Span.{Span}
use Rattle.run_model.specs.declared.start.Start.{Start}
use Rattle.run_model.specs.declared.trace.Trace.{Trace}
use Rattle.run_model.specs.Represents.Parts.{MachineParts, IsMachine}
use Rattle.run_model.specs.Represents.EachCache.{AreCaches, steps_in}
use Rattle.run_model.specs.Turn.{Run}
use Rattle.run_model.specs.Runs.{most_turns}
use Rattle.run_model.specs.Represents.Logs.{taken, IsLog}
use Rattle.run_model.specs.Represents.Harts.{AreHarts, hart_in, all_left}
use Rattle.run_model.specs.Counts.{IsRested}

-- every hart's knowledge counts
abbrev pub everyone : ℕ → Bool
everyone k = true

-- the race log can take in an access of these words without more memory
abbrev pub IsRaceReady : Shadow → Option Span → Type 0
IsRaceReady s None = ⊤
IsRaceReady s (Some x) = (x.first % 4 ≡ 0) × (x.first + 4 * x.count ≤ 2 ^ 32) × (reserved_range s ≡ Some (x.first, x.count))

-- accesses may have been given up that all live harts know of: the race log represents the same points, and the live harts
-- last that did before
pub record IsSwept (old new : Shadow) (hs : List Hart) : Type 0 where
  pub stands : (points : List Point) → RepresentsAccesses points everyone old → RepresentsAccesses points everyone new
  pub harts : harts_of new ≡ harts_of old
  pub turn : next_turn new ≡ next_turn old
  pub counts : (k : ℕ) → next_count new k ≡ next_count old k
  pub lasting : (k : ℕ) → k < length hs → (hart_in hs k).live ≡ true → lasts old k ≡ true → lasts new k ≡ true

-- whether all live harts know of the hart's point at the count
abbrev pub is_known_to_live : Shadow → List Hart → (hart count : ℕ) → Bool
is_known_to_live s hs hart count = all_below (λ g. not (hart_in hs g).live || nat_lt count (times_of s g hart)) (harts_of s)

-- whether a walk over the kept accesses is due: at least as many were taken in since the last one as there are words that
-- have room
abbrev pub is_walk_due : Shadow → Bool
is_walk_due s = nat_le (words_of s) (unswept_of s)

-- with a walk exactly the kept accesses that all live harts know of are given up, and none was taken in since; without
-- one the race log stays as it is
pub record GivesUpKnown (walks : Bool) (old new : Shadow) (hs : List Hart) : Type 0 where
  pub kept : IsTrue walks → (word : ℕ) → kept_of new word ≡ filter (λ k. not (is_known_to_live old hs k.hart k.ic)) (kept_of old word)
  pub unswept : IsTrue walks → unswept_of new ≡ 0
  pub stays : walks ≡ false → new ≡ old

-- the lowest count that the hart's next access may have, once instruction ic accessed these words, if it did
abbrev pub count_after : Option Span → (ic before : ℕ) → ℕ
count_after None ic before = before
count_after (Some x) ic before = ic + 1

-- how many times the bits of the hart's cache are cleared
abbrev pub clears : TurnEnd → ℕ
clears GoesOn = 0
clears (NewInterval reason value) = 1
clears (HartOver reason value) = 0
clears (RunOver reason value) = 0

-- whether an interval ended
abbrev pub is_end : TurnEnd → Bool
is_end GoesOn = false
is_end (NewInterval reason value) = true
is_end (HartOver reason value) = true
is_end (RunOver reason value) = true

-- ---- a plain machine

-- what it keeps: what it began with, the machine that the harts share, what is traced of the run, and how many turns it took
pub record PlainParts : Type 0 where
  pub start : Start
  pub machine : MachineParts
  pub trace : Trace
  pub turns : ℕ

-- what is traced is that of the run
pub record IsTrace (c : RawSettings) (t : Trace) (run : Run) : Type 0 where
  pub harts : AreHarts t.harts.items run.harts
  pub caches : AreCaches c t.caches run.events
  pub shadow : RepresentsAccesses run.points everyone t.shadow
  pub log : IsLog t.log run.stream
  pub bytes : t.log.bytes ≡ run.bytes

-- the parts represent the run
pub record IsRun (p : PlainParts) (run : Run) : Type 0 where
  pub machine : IsMachine p.start.input.items p.machine run.machine
  pub trace : IsTrace p.start.settings p.trace run
  pub turns : p.turns ≡ run.turns

-- the counts of a hart, its cache and its knowledge fit each other, and while it is live it lasts
pub record IsHartFit (c : RawSettings) (t : Trace) (k : ℕ) : Type 0 where
  pub fit : IsRested c (hart_in t.harts.items k)
  pub steps : steps_in t.caches k ≤ (hart_in t.harts.items k).state.ic + (hart_in t.harts.items k).number
  pub count : next_count t.shadow k ≤ (hart_in t.harts.items k).state.ic
  pub lasting : (hart_in t.harts.items k).live ≡ true → lasts t.shadow k ≡ true

-- what is traced fits the settings and the number of turns
pub record IsTraceFit (c : RawSettings) (t : Trace) (turns : ℕ) : Type 0 where
  pub settings : IsSetting c
  pub few : c.harts ≤ HARTS
  pub harts : length t.harts.items ≡ c.harts
  pub caches : length t.caches ≡ c.harts
  pub shadow : harts_of t.shadow ≡ c.harts
  pub each : (k : ℕ) → k < c.harts → IsHartFit c t k
  pub turn : next_turn t.shadow ≤ turns
  pub left : turns + all_left c c.harts (hart_in t.harts.items) ≤ most_turns c
  pub log : taken t.log.ring ≤ 16 + 40 * turns
  pub log_size : t.log.ring.size ≡ c.log_size
