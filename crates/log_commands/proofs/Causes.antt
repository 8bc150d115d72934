-- Which statuses a refused command can end with, by why it was refused.
use Rattle.log_commands.proofs.Common.{◌≡◌, ◌≢◌, ◌≤◌, ℕ, List, [], Option, Some, None, ◌∙◌, ap, subst, sym, arith, inl, inr, ◌⊎◌, Result, Ok, Err, Appends, Counts, Rose, ReplayError, JointError, FileNames, status_of, replay_status, joint_refusal, SendStops, ToldRefusal, RefusalCause, CauseBy, Call, IsByWords, Refusal, WordsRefused, OutOfRange, SameName, StoreFailed, Missing, TooLong, OutOfMemory, WriteFailed, ReplayStopped, ReadFailed, LineTooLong, CommandsTooLong}
use Rattle.hart_replay.specs.declared.error.ReplayError.TheVariants as replay
use Rattle.joint_replay.specs.declared.error.JointError.TheVariants as joint

-- the statuses of the store come where its counts rose, and this isn't that of a write or of a read
pub record Causes (before now : Counts) (status : ℕ) : Type 0 where
  pub three : status ≡ 3 → Rose before.faults now.faults
  pub four : status ≡ 4 → Rose before.misses now.misses
  pub five : status ≡ 5 → Rose before.longs now.longs
  pub write : status ≢ 13
  pub read : status ≢ 12

-- the same, and it isn't that of words
pub record Caused (before now : Counts) (status : ℕ) : Type 0 where
  pub words : status ≢ 2
  pub causes : Causes before now status

-- none of these
plain : (before now : Counts) (status n : ℕ) → status ≡ n → (n ≢ 3) → (n ≢ 4) → (n ≢ 5) → (n ≢ 13) → (n ≢ 12) → Causes before now status
plain before now status n is a b c d f = record {
  three = λ e. absurd (a (sym is ∙ e));
  four = λ e. absurd (b (sym is ∙ e));
  five = λ e. absurd (c (sym is ∙ e));
  write = λ e. d (sym is ∙ e);
  read = λ e. f (sym is ∙ e);
}

high : (before now : Counts) (status n : ℕ) → status ≡ n → 6 ≤ n → n ≢ 13 → n ≢ 12 → Caused before now status
high before now status n is low d f = record {
  words = λ e. omega (arith, e, is, low);
  causes = plain before now status n is (λ e. omega (arith, e, low)) (λ e. omega (arith, e, low)) (λ e. omega (arith, e, low)) d f;
}

replay-high : (e : ReplayError) → (6 ≤ replay_status e) × (replay_status e ≢ 13) × (replay_status e ≢ 12)
replay-high (replay.NoInterval hart interval) = (omega arith, λ e. omega (arith, e), λ e. omega (arith, e))
replay-high other = (omega arith, λ e. omega (arith, e), λ e. omega (arith, e))

by-files : (before now : Counts) (r : Refusal) (status : ℕ) → RefusalCause before now r → status ≡ status_of r → Caused before now status
by-files before now (StoreFailed role) status c h = record {
  words = λ e. omega (arith, e, h);
  causes = record { three = λ e. c; four = λ e. absurd (omega (arith, e, h)); five = λ e. absurd (omega (arith, e, h)); write = λ e. omega (arith, e, h); read = λ e. omega (arith, e, h) };
}
by-files before now (Missing role) status c h = record {
  words = λ e. omega (arith, e, h);
  causes = record { three = λ e. absurd (omega (arith, e, h)); four = λ e. c; five = λ e. absurd (omega (arith, e, h)); write = λ e. omega (arith, e, h); read = λ e. omega (arith, e, h) };
}
by-files before now (TooLong role) status c h = record {
  words = λ e. omega (arith, e, h);
  causes = record { three = λ e. absurd (omega (arith, e, h)); four = λ e. absurd (omega (arith, e, h)); five = λ e. c; write = λ e. omega (arith, e, h); read = λ e. omega (arith, e, h) };
}
by-files before now WordsRefused status c h = absurd c
by-files before now (OutOfRange bad) status c h = absurd c
by-files before now SameName status c h = absurd c
by-files before now WriteFailed status c h = absurd c
by-files before now ReadFailed status c h = absurd c
by-files before now LineTooLong status c h = absurd c
by-files before now CommandsTooLong status c h = absurd c
by-files before now (ReplayStopped x) status c h = high before now status (replay_status x) h (replay-high x).0 (replay-high x).1 (replay-high x).2
by-files before now r status c h = high before now status (status_of r) h (omega arith) (λ e. omega (arith, e)) (λ e. omega (arith, e))

memory : (before now : Counts) (status : ℕ) → status ≡ 9 → Caused before now status
memory before now status h = high before now status 9 h (omega arith) (λ e. omega (arith, e)) (λ e. omega (arith, e))

same_refusal : (A : Type 0) (r x : Refusal) → ◌≡◌ {A = Result A Refusal} (Err r) (Err x) → r ≡ x
same_refusal A r x e = grind arith

pub caused : (names : FileNames) (before now : Counts) (r : Refusal) (status : ℕ) (err_old err_new : Option (List ℕ)) (m n : ℕ)
    → RefusalCause before now r → ToldRefusal names r status err_old err_new m n → Caused before now status
caused names before now r status err_old err_new m n c (inl h) = by-files before now r status c h.0
caused names before now r status err_old err_new m n c (inr h) = memory before now status h.0

pub by-words : (before now : Counts) (names : FileNames) (r : Refusal) (status : ℕ) (err_old err_new : Option (List ℕ)) (m n : ℕ)
    → status_of r ≡ 2 → ToldRefusal names r status err_old err_new m n → Causes before now status
by-words before now names r status err_old err_new m n two (inl h) =
    plain before now status 2 (h.0 ∙ two) (λ e. omega (arith, e)) (λ e. omega (arith, e)) (λ e. omega (arith, e)) (λ e. omega (arith, e)) (λ e. omega (arith, e))
by-words before now names r status err_old err_new m n two (inr h) = (memory before now status h.0).causes

-- a refused command
pub refusal-causes : (A : Type 0) (o : Option Refusal) (before now : Counts) (names : FileNames) (r : Refusal) (status : ℕ) (err_old err_new : Option (List ℕ)) (m n : ℕ)
    → CauseBy {A = A} o before now (Err r) → ToldRefusal names r status err_old err_new m n → Causes before now status
refusal-causes A (Some x) before now names r status err_old err_new m n c told =
    by-words before now names r status err_old err_new m n (ap status_of (same_refusal A r x c.0) ∙ c.1) told
refusal-causes A None before now names r status err_old err_new m n c told = (caused names before now r status err_old err_new m n c told).causes

pub refusal-words : (A : Type 0) (o : Option Refusal) (before now : Counts) (names : FileNames) (r : Refusal) (status : ℕ) (k : Call)
    → CauseBy {A = A} o before now (Err r) → Appends k.old.out.text k.new.out.text [] → ToldRefusal names r status k.old.err.text k.new.err.text k.old.err.faults k.new.err.faults
    → IsByWords o names status k
refusal-words A (Some x) before now names r status k c out told =
    (out, subst (λ (y : Refusal). ToldRefusal names y status k.old.err.text k.new.err.text k.old.err.faults k.new.err.faults) (same_refusal A r x c.0) told)
refusal-words A None before now names r status k c out told = (caused names before now r status k.old.err.text k.new.err.text k.old.err.faults k.new.err.faults c told).words

-- one that has its answer
pub answer-words : (A : Type 0) (a : A) (o : Option Refusal) (before now : Counts) (names : FileNames) (status : ℕ) (k : Call) → CauseBy o before now (Ok a) → status ≢ 2 → IsByWords o names status k
answer-words A a (Some x) before now names status k c other = absurd (no-answer A a x c.0)
  where
    no-answer : (A : Type 0) (a : A) (x : Refusal) → ◌≡◌ {A = Result A Refusal} (Ok a) (Err x) → ⊥
    no-answer A a x e = grind arith
answer-words A a None before now names status k c other = other

-- no memory for the words
pub memory-words : (o : Option Refusal) (names : FileNames) (status : ℕ) (k : Call) → Appends k.old.out.text k.new.out.text []
    → ToldRefusal names OutOfMemory status k.old.err.text k.new.err.text k.old.err.faults k.new.err.faults → IsByWords o names status k
memory-words (Some x) names status k out (inl h) = (out, inr h)
memory-words (Some x) names status k out (inr h) = (out, inr h)
memory-words None names status k out (inl h) = λ e. omega (arith, e, h.0)
memory-words None names status k out (inr h) = λ e. omega (arith, e, h.0)

-- ---- where sending stopped

-- the status isn't that of words, of a read or of a store, and that of a write comes where its count rose
pub record Sends (before now status : ℕ) : Type 0 where
  pub words : status ≢ 2
  pub read : status ≢ 12
  pub failed : status ≢ 3
  pub missing : status ≢ 4
  pub long : status ≢ 5
  pub write : status ≡ 13 → Rose before now

pub sends-high : (before now status n : ℕ) → status ≡ n → 6 ≤ n → n ≢ 12 → (n ≡ 13 → Rose before now) → Sends before now status
sends-high before now status n is low d f = record {
  words = λ e. omega (arith, e, is, low);
  read = λ e. d (sym is ∙ e);
  failed = λ e. omega (arith, e, is, low);
  missing = λ e. omega (arith, e, is, low);
  long = λ e. omega (arith, e, is, low);
  write = λ e. f (sym is ∙ e);
}

pub sends-memory : (before now status : ℕ) → status ≡ 9 → Sends before now status
sends-memory before now status h = sends-high before now status 9 h (omega arith) (λ e. omega (arith, e)) (λ e. absurd (omega (arith, e)))

pub sends-told : (names : FileNames) (r : Refusal) (status : ℕ) (old new : Option (List ℕ)) (m n before now : ℕ) → SendStops before now r → ToldRefusal names r status old new m n → Sends before now status
sends-told names r status old new m n before now s (inl h) = by r s h.0
  where
    by : (r : Refusal) → SendStops before now r → status ≡ status_of r → Sends before now status
    by OutOfMemory s h = sends-memory before now status h
    by WriteFailed s h = sends-high before now status 13 h (omega arith) (λ e. omega (arith, e)) (λ e. s)
    by r s h = absurd s
sends-told names r status old new m n before now s (inr h) = sends-memory before now status h.0

-- a replay that stopped
pub sends-replay : (names : FileNames) (e : ReplayError) (status : ℕ) (old new : Option (List ℕ)) (m n before now : ℕ) → ToldRefusal names (ReplayStopped e) status old new m n → Sends before now status
sends-replay names e status old new m n before now (inl h) = sends-high before now status (replay_status e) h.0 (replay-high e).0 (replay-high e).2 (λ x. absurd ((replay-high e).1 x))
sends-replay names e status old new m n before now (inr h) = sends-memory before now status h.0

-- or that wasn't begun
pub sends-absent : (names : FileNames) (e : ReplayError) (P : Type 0) (r : Refusal) (status : ℕ) (old new : Option (List ℕ)) (m n before now : ℕ) → ((r ≡ ReplayStopped e) × P) ⊎ (r ≡ OutOfMemory)
    → ToldRefusal names r status old new m n → Sends before now status
sends-absent names e P r status old new m n before now (inl h) told =
    sends-replay names e status old new m n before now (subst (λ (x : Refusal). ToldRefusal names x status old new m n) h.0 told)
sends-absent names e P r status old new m n before now (inr h) told =
    sends-told names OutOfMemory status old new m n before now tt (subst (λ (x : Refusal). ToldRefusal names x status old new m n) h told)

-- a replay that stopped, of one hart or of all
abbrev pub IsStop : Refusal → Type 0
IsStop r = (6 ≤ status_of r) × (status_of r ≢ 13) × (status_of r ≢ 12)

pub joint-stop : (e : JointError) → IsStop (joint_refusal e)
joint-stop (joint.Replay e) = replay-high e
joint-stop other = (omega arith, λ e. omega (arith, e), λ e. omega (arith, e))

pub sends-stop : (names : FileNames) (r : Refusal) (status : ℕ) (old new : Option (List ℕ)) (m n before now : ℕ) → IsStop r → ToldRefusal names r status old new m n → Sends before now status
sends-stop names r status old new m n before now is (inl h) = sends-high before now status (status_of r) h.0 is.0 is.2 (λ e. absurd (is.1 e))
sends-stop names r status old new m n before now is (inr h) = sends-memory before now status h.0
