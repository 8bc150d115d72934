-- What is still to come of a replay, and what of it a caller sees.
use Rattle.std.specs.Prelude.{◌≡◌, ℕ, zero, suc, ◌⊎◌, ◌||◌, Bool, true, false, List, [], ◌∷◌, ◌++◌, take, Option, Some, None, is_some, Result, Ok, Err}
use Rattle.hart_replay.specs.Common.{Program, EndMark, Row, HartState, Quiet, Asks, step, absorbed, Want, Load, Store, LoadReserved, StoreConditional, Amo, System, Cut, Faulted, Reply, Word, Stored, ScOk, ScFailed, Answer, Over, Record}
use Rattle.hart_replay.specs.declared.error.ReplayError.{ReplayError}
use Rattle.hart_replay.specs.declared.error.ReplayError.TheVariants.{OutOfMemory}
use Rattle.hart_replay.specs.Replay.{Outcome, Done, Refused, Replayed, Interval, Position, On, Stop, one_step, ended, interval_of, replayed}

-- ---- the state by the rows

-- the reply that a row tells of, by what its instruction asked
abbrev pub word_reply : Option (ℕ × ℕ) → Reply
word_reply None = Over
word_reply (Some access) = Word access.1

-- the reply to a store-conditional, by what its row stored: it failed if that is nothing
abbrev pub conditional_reply : Option (ℕ × ℕ) → Reply
conditional_reply None = ScFailed
conditional_reply (Some access) = ScOk

-- the reply to a system call, by what its row wrote: all is over if that is nothing
abbrev pub call_reply : Option (ℕ × ℕ) → Reply
call_reply None = Over
call_reply (Some result) = Answer result.1

-- the reply to a request, by the row of its instruction
abbrev pub reply_in : Row → Want → Reply
reply_in r (Load a w s rd) = word_reply r.load
reply_in r (LoadReserved a rd) = word_reply r.load
reply_in r (Amo a o rd y) = word_reply r.load
reply_in r (Store a w y) = Stored
reply_in r (StoreConditional a rd y) = conditional_reply r.store
reply_in r (System n args) = call_reply r.reg
reply_in r Cut = Over
reply_in r (Faulted f y) = Over

-- the state after a row, by the state before it: that of the instruction with the row's reply; a fault changes nothing
abbrev pub after_row : Program → HartState → Row → HartState
after_row i s r = elim (r.fault) [
  | None ↦ elim (step i s) [ Quiet t ↦ t | Asks k ↦ absorbed (record { state = s; want = k }) (reply_in r k) ]
  | Some f ↦ s
]

-- ---- what is to come

-- a replay after these rows
abbrev pub with_rows : List Row → Replayed → Replayed
with_rows rs x = record { rows = rs ++ x.rows; outcome = x.outcome }

-- a position without its rows
abbrev pub without_rows : Position → Position
without_rows p = record { state = p.state; loads = p.loads; conditionals = p.conditionals; rows = []; called = p.called }

-- the rows after a position, with n instructions left up to the mark's count, and the outcome
abbrev pub to_come : Program → ℕ → Interval → ℕ → Position → Replayed
to_come i h v zero p = ended i h v (without_rows p)
to_come i h v (suc n) p = elim (one_step i h v p) [ On q ↦ with_rows (take 1 q.rows) (to_come i h v n q) | Stop o ↦ record { rows = []; outcome = o } ]

-- ---- what a caller sees

-- a replayer: its program, the mark of the interval's End, the hart's state after the rows given so far, and what is left of
-- the replay
pub record Replaying : Type 0 where
  pub program : Program
  pub mark : EndMark
  pub state : HartState
  pub left : Replayed

-- nothing is left but the outcome
abbrev pub outcome_only : Outcome → Replayed
outcome_only o = record { rows = []; outcome = o }

-- what a step gives that writes its row, or another answer, to a place of the caller
abbrev pub given : {A : Type 0} → Result Bool ReplayError → A → Result (Option A) ReplayError
given (Ok true) x = Ok (Some x)
given (Ok false) x = Ok None
given (Err e) x = Err e

-- a replayer at the start of interval c of hart h
pub record Begins (i : Program) (h c : ℕ) (records : List Record) (r : Replaying) : Type 0 where
  pub program : r.program ≡ i
  pub interval : Interval
  pub found : interval_of h c records ≡ Some interval
  pub mark : r.mark ≡ interval.mark
  pub state : r.state ≡ interval.start
  pub left : r.left ≡ replayed i records h c

-- whether a row tells a word of memory, which the replay keeps
abbrev pub tells_word : Row → Bool
tells_word r = is_some r.load || is_some r.store

-- whether the first of some rows does
abbrev pub a_word_comes : List Row → Bool
a_word_comes [] = false
a_word_comes (r ∷ rs) = tells_word r

-- what a step does: it gives the first row that is left, or none if the replay is done, or the outcome. It may run
-- out of memory instead, but only if the first row that is left tells a word
abbrev pub Stepped : Replaying → Result (Option Row) ReplayError → Replaying → Type 0
Stepped old (Ok None) new = (old.left ≡ outcome_only Done) × (new ≡ old)
Stepped old (Ok (Some row)) new = (old.left ≡ with_rows (row ∷ []) new.left) × (new.state ≡ after_row old.program old.state row) × (new.program ≡ old.program) × (new.mark ≡ old.mark)
Stepped old (Err e) new = ((old.left ≡ outcome_only (Refused e)) ⊎ (e ≡ OutOfMemory)) × (new ≡ record old { left = outcome_only (Refused e) }) × ((old.left ≡ outcome_only (Refused e)) ⊎ (a_word_comes old.left.rows ≡ true))
