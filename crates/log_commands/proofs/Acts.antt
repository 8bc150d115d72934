-- How a command that has its answer ends, from how its text was sent and what was told.
use Rattle.log_commands.proofs.Common.{◌≡◌, ◌≤◌, ◌⊎◌, ℕ, List, Option, Some, None, sym, subst, arith, inl, inr, Result, Ok, Err, Appends, Counts, NoneFell, Stored, AppendsPart, Stream, FileNames, SendStops, Sends, SendsUntil, Always, ToldRefusal, Told, printed, printed_until, Refusal, OutOfMemory, Call, Tells, NoWriteFell, Prints, Acts, printing_on, PrintsTo}
use Rattle.log_commands.proofs.Causes.{Sends as Stops, sends-told, IsStop, sends-stop}
use Rattle.log_commands.proofs.Prints.{appends-nothing, part-none, part-whole}
use Rattle.log_commands.proofs.Tells.{untouched, printed-told, stopped-told, memory}

pub sends-done : (before now : ℕ) → Stops before now 0
sends-done before now = record {
  words = λ e. omega (arith, e);
  read = λ e. omega (arith, e);
  failed = λ e. omega (arith, e);
  missing = λ e. omega (arith, e);
  long = λ e. omega (arith, e);
  write = λ e. absurd (omega (arith, e));
}

pub prints-so : (names : FileNames) (what : Told) (status : ℕ) (k : Call) → Tells names what status k → NoWriteFell k → Stops k.old.out.faults k.new.out.faults status → Prints names what status k
prints-so names what status k told later s = record {
  told = told;
  words = s.words;
  failed = s.failed;
  missing = s.missing;
  long = s.long;
  read = s.read;
  write = λ e. inl (s.write e);
  later = later;
}

pub acts-so : (names : FileNames) (what : Told) (status : ℕ) (k : Call) → NoneFell k.old.store.counts k.new.store.counts → Prints names what status k → Acts names what status k
acts-so names what status k counts p = record {
  told = p.told;
  words = p.words;
  failed = λ e. absurd (p.failed e);
  missing = p.missing;
  long = p.long;
  read = p.read;
  write = p.write;
  later = p.later;
  counts = counts;
}

pub none-fell : (counts : Counts) → NoneFell counts counts
none-fell counts = record { misses = omega arith; longs = omega arith; faults = omega arith }

-- ---- before a refusal is told

-- nothing was refused: err stays
pub closed-done : (P : ℕ → Stream → Type 0) (status : ℕ) (err end : Stream) → (status ≡ 0) × (end ≡ err) → P 0 err → P status end
closed-done P status err end h p = subst (λ (n : ℕ). P n end) (sym h.0) (subst (λ (s : Stream). P 0 s) (sym h.1) p)

-- a text that was sent is printed
pub sent-prints : (text : List ℕ) (old new : Stream) (result : Result (Unit {0}) Refusal) → Sends text Always old new result → PrintsTo (λ names. printed text) old new result
sent-prints text old new (Ok u) h = λ names store status err end closed.
    closed-done (λ n e. Prints names (printed text) n (printing_on store old new err e)) status err end closed
    (prints-so names (printed text) 0 (printing_on store old new err err) (printed-told names text (printing_on store old new err err) h.sent.0 (appends-nothing err.text) (untouched store.files))
    (record { out = h.later; err = omega arith }) (sends-done old.faults new.faults))
sent-prints text old new (Err r) h = λ names store status err end closed.
    prints-so names (printed text) status (printing_on store old new err end)
    (stopped-told names (printed text) r status (printing_on store old new err end) h.sent (untouched store.files) closed.0)
    (record { out = h.later; err = closed.1 })
    (sends-told names r status err.text end.text err.faults end.faults old.faults new.faults h.sent.1 closed.0)

-- ---- a text, and then a refusal, if there is one

-- all was sent, and then it was refused
refused-prints : (text : List ℕ) (r : Refusal) (old new : Stream) → IsStop r → Appends old.text new.text text → old.faults ≤ new.faults → PrintsTo {A = Unit {0}} (λ names. printed_until names text (Some r)) old new (Err r)
refused-prints text r old new is sent later = λ names store status err end closed.
    let k = printing_on store old new err end in
    prints-so names (printed_until names text (Some r)) status k (told names store status err end closed.0) (record { out = later; err = closed.1 })
    (sends-stop names r status err.text end.text err.faults end.faults old.faults new.faults is closed.0)
  where
    told : (names : FileNames) (store : Stored) (status : ℕ) (err end : Stream) → ToldRefusal names r status err.text end.text err.faults end.faults
        → Tells names (printed_until names text (Some r)) status (printing_on store old new err end)
    told names store status err end (inl h) = inl (record { status_is = h.0; out = sent; err = h.1; files = untouched store.files })
    told names store status err end (inr h) =
        inr (memory names (printed_until names text (Some r)) status (printing_on store old new err end) (part-whole old.text new.text text sent) (untouched store.files) (inl h))

-- sending it stopped
stopped-prints : (text : List ℕ) (stop : Option Refusal) (r : Refusal) (old new : Stream) → AppendsPart old.text new.text text × SendStops old.faults new.faults r → old.faults ≤ new.faults
    → PrintsTo {A = Unit {0}} (λ names. printed_until names text stop) old new (Err r)
stopped-prints text None r old new h later = sent-prints text old new (Err r) (record { sent = h; later = later })
stopped-prints text (Some x) r old new h later = λ names store status err end closed.
    let k = printing_on store old new err end in
    prints-so names (printed_until names text (Some x)) status k (stopped-told names (printed_until names text (Some x)) r status k h (untouched store.files) closed.0) (record { out = later; err = closed.1 })
    (sends-told names r status err.text end.text err.faults end.faults old.faults new.faults h.1 closed.0)

pub until-prints : (text : List ℕ) (stop : Option Refusal) (old new : Stream) (result : Result (Unit {0}) Refusal) → ((r : Refusal) → stop ≡ Some r → IsStop r) → SendsUntil text stop old new result
    → PrintsTo (λ names. printed_until names text stop) old new result
until-prints text stop old new (Ok u) is h =
    subst (λ (o : Option Refusal). PrintsTo {A = Unit {0}} (λ names. printed_until names text o) old new (Ok u)) (sym h.sent.1) (sent-prints text old new (Ok u) (record { sent = (h.sent.0, tt); later = h.later }))
until-prints text stop old new (Err r) is h = by h.sent
  where
    by : (Appends old.text new.text text × (stop ≡ Some r)) ⊎ (AppendsPart old.text new.text text × SendStops old.faults new.faults r) → PrintsTo {A = Unit {0}} (λ names. printed_until names text stop) old new (Err r)
    by (inl (sent, e)) = subst (λ (o : Option Refusal). PrintsTo {A = Unit {0}} (λ names. printed_until names text o) old new (Err r)) (sym e) (refused-prints text r old new (is r e) sent h.later)
    by (inr s) = stopped-prints text stop r old new s h.later

-- there was no memory to begin
pub memory-prints : (text : List ℕ) (stop : Option Refusal) (old : Stream) → PrintsTo {A = Unit {0}} (λ names. printed_until names text stop) old old (Err OutOfMemory)
memory-prints text stop old = stopped-prints text stop OutOfMemory old old (part-none old.text text, tt) (omega arith)
