-- What holds of the turns of a legal list.
use Rattle.std.specs.Prelude.{◌≡◌, ◌≤◌, ◌<◌, ◌==◌, ℕ, true, false, List, [], ◌∷◌, ◌++◌, length, map, IsTrue, Some, slice_get}
use Rattle.run_laws.specs.Common.{absorbed, Ask, TurnRow, Run, serve, turn, ask_at, is_orderly, Program, IsSetting, RawSettings, EndMark, Record, kept_of, IsEndOf, start, start_hart, start_state, run_from, run_of, legal_from, most_turns}
use Rattle.rv_meaning.specs.Orderly.{is_reply_to}
use Rattle.run_model.specs.Counts.{IsRested}
use Rattle.race_log.specs.Points.{Point}
use Rattle.race_log.specs.Kept.{after}
use Rattle.race_log.specs.Tests.{sources_into}
use Rattle.run_laws.specs.History.{after_rows, are_orderly, IsLawful, IsOwn, Place, place_of, place_after, ask_from, rows_from, rows_by}
use Rattle.run_laws.specs.Ends.{last_end}

-- the rows of a legal list are lawful from the start, and lead to its run
abbrev pub TurnsAreLawful : Type 0
TurnsAreLawful = (c : RawSettings) (i : Program) (input b : List ℕ) → legal_from c i (start c i input) b ≡ true
    → IsLawful c i (start c i input) (rows_from c i (start c i input) b) × (after_rows c i (start c i input) (rows_from c i (start c i input) b) ≡ run_of c i input b)

-- each hart's rows of a legal list are the hart's own
abbrev pub TurnsAreOwn : Type 0
TurnsAreOwn = (c : RawSettings) (i : Program) (input b : List ℕ) (h : ℕ) → IsSetting c → legal_from c i (start c i input) b ≡ true
    → IsOwn c i h (place_of (start_hart h (start_state c i h))) (rows_by h (rows_from c i (start c i input) b))

-- a run has at most harts * (limit + 1) turns
abbrev pub RunsEnd : Type 0
RunsEnd = (c : RawSettings) (i : Program) (input b : List ℕ) → IsSetting c → legal_from c i (start c i input) b ≡ true → length b ≤ most_turns c

-- what a hart asks next, after the turns of a legal list, is orderly
abbrev pub OwnAsksAreOrderly : Type 0
OwnAsksAreOrderly = (c : RawSettings) (i : Program) (input b : List ℕ) (k : ℕ) → IsSetting c → legal_from c i (start c i input) b ≡ true
    → let h = (run_of c i input b).harts k in is_orderly c i h (ask_at c i h) ≡ true

-- the turn of an orderly ask sets its hart's state to the one after the reply, and leaves the other harts' states
pub record TurnsMoveTheirHart : Type 0 where
  pub own : (c : RawSettings) (i : Program) (run : Run) (k : ℕ) → let ask = ask_at c i (run.harts k) in is_orderly c i (run.harts k) ask ≡ true
      → ((turn c i run k).harts k).state ≡ absorbed ask (serve c i run k ask).reply
  pub others : (c : RawSettings) (i : Program) (run : Run) (k j : ℕ) → is_orderly c i (run.harts k) (ask_at c i (run.harts k)) ≡ true → (j == k) ≡ false
      → ((turn c i run k).harts j).state ≡ (run.harts j).state

-- what the log keeps is an end of the run's records
abbrev pub KeptIsAnEnd : Type 0
KeptIsAnEnd = (c : RawSettings) (run : Run) → IsEndOf run.stream (kept_of c run)

-- ---- rows that are lawful and each hart's own

-- the harts of rows, in order
abbrev pub harts_of : List TurnRow → List ℕ
harts_of rows = map (λ (r : TurnRow). r.hart) rows

-- each hart's rows are the hart's own from its place in a run
abbrev pub AreOwn : RawSettings → Program → Run → List TurnRow → Type 0
AreOwn c i run rows = (h : ℕ) → h < c.harts → IsOwn c i h (place_of (run.harts h)) (rows_by h rows)

-- rows after a run are those of the turns of their harts: a legal list, whose run they lead to, by orderly asks alone
pub record AreTurns (c : RawSettings) (i : Program) (run : Run) (rows : List TurnRow) : Type 0 where
  pub legal : legal_from c i run (harts_of rows) ≡ true
  pub rows_are : rows ≡ rows_from c i run (harts_of rows)
  pub run_is : after_rows c i run rows ≡ run_from c i run (harts_of rows)
  pub orderly : are_orderly c i run rows ≡ true

-- lawful rows after a run, of which each hart's are its own, are those of the turns of their harts
abbrev pub OwnRowsGoOn : Type 0
OwnRowsGoOn = (c : RawSettings) (i : Program) (run : Run) (rows : List TurnRow) → IsSetting c → ((j : ℕ) → IsRested c (run.harts j)) → IsLawful c i run rows → AreOwn c i run rows → AreTurns c i run rows

-- lawful rows from the start, of which each hart's are its own, are those of the turns of their harts
abbrev pub OwnRowsAreTurns : Type 0
OwnRowsAreTurns = (c : RawSettings) (i : Program) (input : List ℕ) (rows : List TurnRow) → IsSetting c → IsLawful c i (start c i input) rows
    → AreOwn c i (start c i input) rows → AreTurns c i (start c i input) rows

-- ---- a hart that makes its own rows, and rows that continue

-- the place of a hart after rows of its own
abbrev pub place_over : RawSettings → Place → List TurnRow → Place
place_over c p [] = p
place_over c p (r ∷ rs) = place_over c (place_after c p r.ask r.guarded r.reply) rs

-- a hart that asks what it asks next has one more row of its own
abbrev pub OwnRowsGrow : Type 0
OwnRowsGrow = (c : RawSettings) (i : Program) (h : ℕ) (p : Place) (rows : List TurnRow) (r : TurnRow) → IsOwn c i h p rows → r.hart ≡ h → r.ask ≡ ask_from c i (place_over c p rows)
    → IsOwn c i h p (rows ++ r ∷ []) × (place_over c p (rows ++ r ∷ []) ≡ place_after c (place_over c p rows) r.ask r.guarded r.reply)

-- the run and the rows of a list that continues
pub record ListsGoOn : Type 0 where
  pub run : (c : RawSettings) (i : Program) (run : Run) (b more : List ℕ) → run_from c i run (b ++ more) ≡ run_from c i (run_from c i run b) more
  pub rows : (c : RawSettings) (i : Program) (run : Run) (b more : List ℕ) → rows_from c i run (b ++ more) ≡ rows_from c i run b ++ rows_from c i (run_from c i run b) more
  pub legal : (c : RawSettings) (i : Program) (run : Run) (b more : List ℕ) → legal_from c i run b ≡ true → legal_from c i (run_from c i run b) more ≡ true → legal_from c i run (b ++ more) ≡ true

-- Rows in threads, and the turns of a list after them. If the rows are lawful from the start, each hart's are its own, and the
-- list is legal after them, then all together are the rows of one legal list, lawful and each hart's own
pub record AreJoined (c : RawSettings) (i : Program) (input : List ℕ) (rows : List TurnRow) (more : List ℕ) : Type 0 where
  pub legal : legal_from c i (start c i input) (harts_of rows ++ more) ≡ true
  pub rows_are : rows ++ rows_from c i (after_rows c i (start c i input) rows) more ≡ rows_from c i (start c i input) (harts_of rows ++ more)
  pub run_is : run_from c i (after_rows c i (start c i input) rows) more ≡ run_of c i input (harts_of rows ++ more)
  pub lawful : IsLawful c i (start c i input) (rows ++ rows_from c i (after_rows c i (start c i input) rows) more)
  pub own : AreOwn c i (start c i input) (rows ++ rows_from c i (after_rows c i (start c i input) rows) more)

-- lawful rows, each hart's own, and a list that is legal after them, are joined so
abbrev pub OwnRowsAreJoined : Type 0
OwnRowsAreJoined = (c : RawSettings) (i : Program) (input : List ℕ) (rows : List TurnRow) (more : List ℕ) → IsSetting c → IsLawful c i (start c i input) rows → AreOwn c i (start c i input) rows
    → legal_from c i (after_rows c i (start c i input) rows) more ≡ true → AreJoined c i input rows more

-- the reply to an ask, whoever made it, is one to what it wants
abbrev pub RepliesFit : Type 0
RepliesFit = (c : RawSettings) (i : Program) (run : Run) (k : ℕ) (ask : Ask) → IsTrue (is_reply_to ask.want (serve c i run k ask).reply)

-- ---- marks

-- After any rows, whoever made their asks, each hart's last mark is that of its last End in the stream, and it has none if
-- it has no End
abbrev pub LastEndsAreMarks : Type 0
LastEndsAreMarks = (c : RawSettings) (i : Program) (input : List ℕ) (rows : List TurnRow) (h : ℕ) → h < c.harts
    → let run = after_rows c i (start c i input) rows in last_end h run.stream ≡ (run.harts h).mark

-- If a hart has an End at the end of the stream, which a log keeps, its last mark is that of the last one
abbrev pub KeptEndsAreMarks : Type 0
KeptEndsAreMarks = (c : RawSettings) (i : Program) (input : List ℕ) (rows : List TurnRow) (rs : List Record) (h : ℕ) (m : EndMark) → h < c.harts
    → let run = after_rows c i (start c i input) rows in IsEndOf run.stream rs → last_end h rs ≡ Some m → (run.harts h).mark ≡ Some m

-- ---- Edges

-- the points' harts are among n
abbrev pub ArePointsOf : ℕ → List Point → Type 0
ArePointsOf n points = (m : ℕ) (q : Point) → slice_get points m ≡ Some q → q.hart < n

-- Edges into one more point come from at most one instruction of each hart
abbrev pub EdgesAreFew : Type 0
EdgesAreFew = (points : List Point) (p : Point) (n : ℕ) → ArePointsOf n points → length (sources_into (after points p) (length points)) ≤ n
