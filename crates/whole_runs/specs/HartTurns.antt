-- What a hart in a thread knows and did by itself.
use Rattle.whole_runs.specs.Common.{AllByRecursion, Program, RawSettings, is_reply_to, Ask, Reply, TurnRow, start_hart, start_state, IsLawful, IsOwn, Place, place_of, place_over, Run, Began, Seen, IsState, first_run, row, served_reply, served_guarded, served_run}
use Rattle.bn_base.specs.declared.state.HartState.{HartState}
use Rattle.std.specs.Prelude.{◌≡◌, ◌+◌, ℕ, Bool, true, false, List, [], ◌∷◌, ◌++◌, Option, Some, None, IsTrue}
use Rattle.rv_meaning.specs.declared.asks.Reply.TheVariants.{Word, Stored, ScOk, Answer, Went, Over}
use Rattle.rv_meaning.specs.declared.asks.Want.{Want}
use Rattle.rv_meaning.specs.declared.asks.Want.TheVariants.{Load, Store, LoadReserved, StoreConditional, Amo, System, Cut, Faulted}
use Rattle.whole_runs.specs.declared.hart_place.HartPlace.{HartPlace}

-- ---- what a hart knows and did by itself

-- the place of a hart: its state, and the count at which its interval began
abbrev pub place_at : HartPlace → Place
place_at p = record { state = p.state; begun = p.begun }

-- the place of hart h before its first turn
abbrev pub first_place : RawSettings → Program → ℕ → Place
first_place c i h = place_of (start_hart h (start_state c i h))

-- the row of an ask that was answered so
abbrev pub row_of : ℕ → Ask → Reply × Bool → TurnRow
row_of h ask answered = row h ask answered.0 answered.1

-- rows, and one more if they are told and there was an answer
abbrev pub taken_after : Bool → List TurnRow → ℕ → Ask → Option (Reply × Bool) → List TurnRow
taken_after false rows h ask answer = rows
taken_after true rows h ask None = rows
taken_after true rows h ask (Some answered) = rows ++ row_of h ask answered ∷ []

-- the rows that hart h took from its first place are its own; if they are told, its place is the one after them, else there are none
pub record IsDriven (tells : Bool) (c : RawSettings) (i : Program) (h : ℕ) (first : Place) (rows : List TurnRow) (now : Place) : Type 0 where
  pub own : IsOwn c i h first rows
  pub place_is : tells ≡ true → now ≡ place_over c first rows
  pub lean : tells ≡ false → rows ≡ []

-- the machine answers hart h's ask so after some rows of some run, which isn't known: with the row of this ask they are
-- lawful
pub record AnswersAsk (h : ℕ) (ask : Ask) (answered : Reply × Bool) : Type 0 where
  pub began : Began
  pub rows : List TurnRow
  pub lawful : IsLawful began.settings began.image (first_run began) (rows ++ row_of h ask answered ∷ [])

-- turns led hart h from its first place to its present one: their rows are its own, and each answer is one that may be given
pub record IsLed (answers : ℕ → Ask → Reply × Bool → Type 0) (c : RawSettings) (i : Program) (h : ℕ) (first now : Place) : Type 0 where
  pub rows : List TurnRow
  pub own : IsOwn c i h first rows
  pub place_is : now ≡ place_over c first rows
  pub answered : AllByRecursion (λ (r : TurnRow). answers r.hart r.ask (r.reply, r.guarded)) rows

-- turns of its own led hart h from its first place to this state
abbrev pub IsLedTo : (answers : ℕ → Ask → Reply × Bool → Type 0) → RawSettings → Program → ℕ → Place → HartState → Type 0
IsLedTo answers c i h first state = (begun : ℕ) × IsLed answers c i h first (record { state = state; begun = begun })

-- a bus served what hart h asks: the reply is of the ask's kind, and it, whether the ask was guarded, and all that is
-- kept are those of the definition
pub record IsServed (old : Seen) (h : ℕ) (ask : Ask) (answered : Reply × Bool) (new : Seen) : Type 0 where
  pub fits : IsTrue (is_reply_to ask.want answered.0)
  pub reply : (run : Run) → IsState old run → answered.0 ≡ served_reply old.began run h ask
  pub guarded : (run : Run) → IsState old run → answered.1 ≡ served_guarded old.began run h ask
  pub state : (run : Run) → IsState old run → IsState new (served_run old.began run h ask)
  pub turns : new.turns ≡ old.turns + 1
  pub running : new.halted ≡ old.halted

-- ---- a port in memory

-- a reply to a want that gives it a word; a store-conditional stores
abbrev pub reply_with : Want → ℕ → Reply
reply_with (Load addr width signed rd) word = Word word
reply_with (LoadReserved addr rd) word = Word word
reply_with (Amo addr op rd value) word = Word word
reply_with (Store addr width value) word = Stored
reply_with (StoreConditional addr rd value) word = ScOk
reply_with (System number args) word = Answer word
reply_with Cut word = Went
reply_with (Faulted kind value) word = Over

-- the answer to a want with the next word; none if there is no more
abbrev pub answer_with : Want → Option ℕ → Option (Reply × Bool)
answer_with want None = None
answer_with want (Some word) = Some (reply_with want word, false)
