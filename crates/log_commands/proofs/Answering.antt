-- What a command makes of a log, or of a log and its program.
use Rattle.log_commands.proofs.Common.{◌≡◌, ℕ, List, ◌∙◌, ap, subst, sym, refl, inl, inr, Result, Ok, Err, IsErrAnd, Counts, bytes_eq, sha256, Content, Answers, IsByLog, Makes, where_same, IsPairOfBytes, told_by, FileNames, LogTells, Gives, GivesTo, RefusalCause, by_reading, ByPair, pair_of, Told, Answer, JointReading, Refusal}
use Rattle.log_commands.proofs.Loads.{TellsDamage, refused-log, log-read, log-refused}
use Rattle.log_commands.proofs.SamePair.{same-log}

-- what `?` returns is the refusal that it was given
pub passed-on : {B : Type 0} (R : Result B Refusal → Type 0) (e : Refusal) (r : Result B Refusal) → IsErrAnd r (λ y. y ≡ e) → R (Err e) → R r
passed-on R e (Ok x) h k = absurd h
passed-on R e (Err y) h k = subst (λ (z : Refusal). R (Err z)) (sym h) k

-- a log that isn't read
pub unread : (Kind : Answer → Type 0) (bytes : List ℕ) (go : FileNames → Content → Told) (r : Refusal) → LogTells bytes (Err r) → ((before now : Counts) → RefusalCause before now r)
    → Answers Kind (λ names. IsByLog names bytes (go names)) (Err r)
unread Kind bytes go r says own = record { gives = λ names. log-refused names bytes (go names) r says; own = own; kind = tt }

-- one that is
pub read : (Kind : Answer → Type 0) (bytes : List ℕ) (d : Content) (go : FileNames → Content → Told) (result : Result Answer Refusal) → LogTells bytes (Ok d)
    → Answers Kind (λ names what. what ≡ go names d) result → Answers Kind (λ names. IsByLog names bytes (go names)) result
read Kind bytes d go result says h = record { gives = λ names. log-read names bytes d (go names) result says (h.gives names); own = h.own; kind = h.kind }

-- ---- a log and its program

by-pair : (log elf : List ℕ) (pair : Result JointReading Refusal) (go : ByPair) (names : FileNames) (what : Told) → IsPairOfBytes log elf pair → what ≡ told_by (by_reading go) names pair
    → IsByLog names log (pair_of go names elf) what
by-pair log elf pair go names what p e = record {
  says = p.says;
  reads = p.reads;
  is = e ∙ ap (λ (r : Result JointReading Refusal). told_by (by_reading go) names r) p.is ∙ same-log go names elf p.says;
}

-- a log that was read leads to the pair
pub paired : (log elf : List ℕ) (d : Content) (result : Result JointReading Refusal) → LogTells log (Ok d) → Makes (λ x. x ≡ where_same (bytes_eq (sha256 elf) d.head.digest) elf d) result → Makes (IsPairOfBytes log elf) result
paired log elf d (Ok r) reads e = record { says = Ok d; reads = reads; is = e }
paired log elf d (Err x) reads (inl memory) = inl memory
paired log elf d (Err x) reads (inr e) = inr (record { says = Ok d; reads = reads; is = e })

-- one that is refused doesn't
pub unpaired : (log elf : List ℕ) (x : Refusal) → LogTells log (Err x) → Makes (IsPairOfBytes log elf) (Err x)
unpaired log elf x h = by (refused-log log h.0 x h.1 h.2)
  where
    by : TellsDamage log x → Makes (IsPairOfBytes log elf) (Err x)
    by (inl memory) = inl memory
    by (inr k) = inr (record { says = Err k.0; reads = k.2; is = ap (λ (y : Refusal). Err y) k.1 })

-- whatever is told by the two
pub pair-gives : (log elf : List ℕ) (go : ByPair) (names : FileNames) (result : Result JointReading Refusal) → Makes (IsPairOfBytes log elf) result → GivesTo (by_reading go) names (IsByLog names log (pair_of go names elf)) result
pair-gives log elf go names (Ok p) m = by-pair log elf (Ok p) go names _ m refl
pair-gives log elf go names (Err r) (inl memory) = inl memory
pair-gives log elf go names (Err r) (inr m) = inr (by-pair log elf (Err r) go names _ m refl)

-- a pair that isn't read
pub unpaired-so : (Kind : Answer → Type 0) (log elf : List ℕ) (go : FileNames → ByPair) (r : Refusal) → Makes (IsPairOfBytes log elf) (Err r) → ((before now : Counts) → RefusalCause before now r)
    → Answers Kind (λ names. IsByLog names log (pair_of (go names) names elf)) (Err r)
unpaired-so Kind log elf go r (inl memory) own = record { gives = λ names. inl memory; own = own; kind = tt }
unpaired-so Kind log elf go r (inr p) own = record { gives = λ names. inr (by-pair log elf (Err r) (go names) names _ p refl); own = own; kind = tt }

gives-pair : (log elf : List ℕ) (d : JointReading) (go : ByPair) (names : FileNames) (result : Result Answer Refusal) → IsPairOfBytes log elf (Ok d)
    → Gives names (λ what. what ≡ go d.log d.image) result → Gives names (IsByLog names log (pair_of go names elf)) result
gives-pair log elf d go names (Ok answer) p e = by-pair log elf (Ok d) go names _ p e
gives-pair log elf d go names (Err r) p (inl memory) = inl memory
gives-pair log elf d go names (Err r) p (inr e) = inr (by-pair log elf (Ok d) go names _ p e)

-- one that is
pub paired-so : (Kind : Answer → Type 0) (log elf : List ℕ) (d : JointReading) (go : FileNames → ByPair) (result : Result Answer Refusal) → Makes (IsPairOfBytes log elf) (Ok d)
    → Answers Kind (λ names what. what ≡ go names d.log d.image) result → Answers Kind (λ names. IsByLog names log (pair_of (go names) names elf)) result
paired-so Kind log elf d go result p h = record { gives = λ names. gives-pair log elf d (go names) names result p (h.gives names); own = h.own; kind = h.kind }
