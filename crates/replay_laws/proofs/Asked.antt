-- Names for what a hart's ask gives.
use Rattle.replay_laws.proofs.Common.{ℕ, Option, false, Program, RawSettings, HartState, absorbed, Ask, Want, Reply, Hart, TurnEnd, Span, Machine, Answered, answer, call_of, Run, span_of, next_of, ask_at, serve_call, touched}

-- the ask of a want in a state
abbrev pub asking : Want → HartState → Ask
asking w s = record { state = s; want = w }

-- the answer to hart k, its reply, and the state after it
abbrev pub answer_to : RawSettings → Program → Machine → ℕ → Want → HartState → Answered
answer_to c i m k w s = answer c (call_of i m w) m k (asking w s)

abbrev pub reply_to : RawSettings → Program → Machine → ℕ → Want → HartState → Reply
reply_to c i m k w s = (answer_to c i m k w s).reply

abbrev pub state_after : RawSettings → Program → Machine → ℕ → Want → HartState → HartState
state_after c i m k w s = absorbed (asking w s) (reply_to c i m k w s)

-- the memory after it
abbrev pub memory_after : RawSettings → Program → Machine → ℕ → Want → HartState → ℕ → ℕ
memory_after c i m k w s = (answer_to c i m k w s).machine.memory

-- the words that it accesses
abbrev pub span_to : RawSettings → Program → Machine → ℕ → Want → HartState → Option Span
span_to c i m k w s = span_of (call_of i m w) w (reply_to c i m k w s)

-- what comes next, the hart being t before
abbrev pub next_to : RawSettings → Program → Machine → ℕ → Hart → Want → HartState → TurnEnd
next_to c i m k t w s = next_of c (call_of i m w) t w (reply_to c i m k w s) (state_after c i m k w s).ic

-- the word that is touched in the hart's own cache
abbrev pub touched_to : RawSettings → Program → Machine → ℕ → Want → HartState → Option ℕ
touched_to c i m k w s = touched (call_of i m w) (span_to c i m k w s)

-- ---- a turn of hart k

abbrev pub next_at : RawSettings → Program → Run → ℕ → TurnEnd
next_at c i run k = next_to c i run.machine k (run.harts k) (ask_at c i (run.harts k)).want (ask_at c i (run.harts k)).state

-- the run after an ask without a guard
abbrev pub served_ask : RawSettings → Program → Run → ℕ → Ask → Run
served_ask c i run k ask = (serve_call c run k ask false (call_of i run.machine ask.want)).run

-- the run after its turn, where the ask is orderly and isn't guarded
abbrev pub served_turn : RawSettings → Program → Run → ℕ → Run
served_turn c i run k = served_ask c i run k (ask_at c i (run.harts k))
