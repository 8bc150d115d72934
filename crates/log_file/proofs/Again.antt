-- A file that is written is read again.
use Rattle.log_file.proofs.Common.{◌≡◌, ℕ, ◌+◌, ◌-◌, ◌%◌, ◌^◌, ◌<◌, ◌≤◌, List, ◌++◌, length, take, drop, length-drop, length-append, Result, Ok, Err, None, refl, sym, ap, subst, ◌∙◌, arith, inl, inr, Bool, IsTrue, true, false, ◌==◌, ◌&&◌, ◌||◌, if◌then◌else◌, IfOk, IfErr, MatchResult, flat_map, AllByRecursion, eq-eqb, eqb-true, le-ltb, take_at, drop_at, bytes_eq-Decides, sha256, RawSettings, IsSetting, is_between, is_small_power, is_memory_size, most_harts, first_bad, number_at, HaveTheirWidth, Head, Record, Header, FirstLoad, ScOk, ScFailed, Edge, End, bytes_of, Fits, total, BeginNoOther, order_break, broken_by, Content, content, IsContent, FileError, Short, BadMagic, BadVersion, BadHead, LengthDiffers, DigestDiffers, BadRecord, BadOrder, OutOfMemory, magic, signed_bytes, file_bytes, IsVersion1, settings_in, head_in, dropped_in, size_in, head_fault, signed_of, file_fault, IsRecordsFault, IsRefusal, SayOneThing, AreNotRefused, HaveTheirSize, ap₂}
use Rattle.sha2.proofs.Facts256.{length-sha256}
use Rattle.std.specs.Int.{is_power_of_two}
use Rattle.le_numbers.specs.Laws.{AreRead}
use Rattle.log_file.proofs.Rows.{ArePrefixFree, no_stop, one_row}
use Rattle.log_file.proofs.Causes.{none_some}
use Rattle.log_file.proofs.Heads.{signed_is_spelled}
use Rattle.log_file.proofs.Shared.{begun_by, ended_by, first_fields, begun_again, ended_again, length_begun, length_ended}

pub fit_first : (c : Content) → IsVersion1 c → AllByRecursion (Fits 1) c.records
fit_first c is = subst (λ (f : ℕ). AllByRecursion (Fits f) c.records) is.1 is.0.fit

none_else : (none power : Bool) → IsTrue (none || 1 == 2 && power) → none ≡ true
none_else true power h = refl
none_else false power h = h

-- nor has it a second level
no_second_sets : (s : RawSettings) → IsSetting s → s.format ≡ 1 → s.sets2 ≡ 0
no_second_sets s is one =
    eqb-true s.sets2 0 (none_else (s.sets2 == 0) (is_small_power 4096 s.sets2) (subst (λ (f : ℕ). IsTrue (s.sets2 == 0 || f == 2 && is_small_power 4096 s.sets2)) one is.second_sets))

no_second_ways : (s : RawSettings) → IsSetting s → s.format ≡ 1 → s.ways2 ≡ 0
no_second_ways s is one =
    eqb-true s.ways2 0 (subst (λ (n : ℕ). IsTrue (if n == 0 then s.ways2 == 0 else is_between 1 16 s.ways2)) (no_second_sets s is one) is.second_ways)

same_fields : (s : RawSettings) → IsSetting s → s.format ≡ 1 → first_fields s 1 0 0 ≡ s
same_fields s is one =
    let sets = no_second_sets s is one in
    let ways = no_second_ways s is one in
    ap (λ (x : ℕ). first_fields s x 0 0) (sym one) ∙ ap (λ (x : ℕ). first_fields s s.format x 0) (sym sets) ∙ ap (λ (x : ℕ). first_fields s s.format s.sets2 x) (sym ways)

abbrev pub head_with : List ℕ → RawSettings → Head
head_with digest s = record { settings = s; digest = digest }

-- what stands at the places of the fields
pub record Again (bytes : List ℕ) (h : Head) (dropped n : ℕ) (rest : List ℕ) : Type 0 where
  pub begins : take 8 bytes ≡ magic
  pub version : number_at 4 8 bytes ≡ 1
  pub head : head_in bytes ≡ h
  pub dropped_is : dropped_in bytes ≡ dropped
  pub n_is : size_in bytes ≡ n
  pub rest_is : drop 92 bytes ≡ rest

pub spelled_again : AreRead → (h : Head) (dropped n : ℕ) (rest bytes : List ℕ) → IsSetting h.settings → h.settings.format ≡ 1 → length h.digest ≡ 32 → dropped < 2 ^ 64 → n < 2 ^ 32 → bytes ≡ begun_by 1 h.settings (ended_by h.digest dropped n rest) → Again bytes h dropped n rest
spelled_again read h dropped n rest bytes is one len small fits e =
    let b = begun_again read 1 h.settings bytes (ended_by h.digest dropped n rest) is (omega arith) e in
    let f = ended_again read 48 bytes h.digest dropped n rest len small fits b.rest_is in
    record {
      begins = b.begins;
      version = b.named;
      head = ap₂ head_with f.digest_is (b.settings ∙ same_fields h.settings is one);
      dropped_is = f.dropped_is;
      n_is = f.n_is;
      rest_is = f.rest_is;
    }

-- the bytes of a log's records are fewer than a field of four bytes counts
pub small_size : (c : Content) → IsContent c → length (flat_map bytes_of c.records) < 2 ^ 32
small_size c is = omega (arith, is.bound, is.settings.log_size_high)

pub content_again : AreRead → (c : Content) → IsVersion1 c → Again (signed_bytes c.head c.dropped (flat_map bytes_of c.records)) c.head c.dropped (length (flat_map bytes_of c.records)) (flat_map bytes_of c.records)
content_again read c is =
    spelled_again read c.head c.dropped (length (flat_map bytes_of c.records)) (flat_map bytes_of c.records) (signed_bytes c.head c.dropped (flat_map bytes_of c.records))
    is.0.settings is.1 is.0.digest is.0.dropped (small_size c is.0) (signed_is_spelled c.head c.dropped (flat_map bytes_of c.records))

-- ---- the head

between : (low high value : ℕ) → low ≤ value → value ≤ high → is_between low high value ≡ true
between low high value l h = grind arith

power : (high value : ℕ) → 1 ≤ value → value ≤ high → IsTrue (is_power_of_two value) → is_small_power high value ≡ true
power high value l h p = grind arith

memory : (value : ℕ) → 65536 ≤ value → value ≤ 2 ^ 26 → value % 4096 ≡ 0 → is_memory_size value ≡ true
memory value l h p = grind arith

-- nothing is bad of settings in range
pub none_bad : (s : RawSettings) → IsSetting s → first_bad s ≡ None
none_bad s is =
    rw (
      between 1 (most_harts s) s.harts is.harts_low is.harts_high,
      between 1 10000000 s.interval is.interval_low is.interval_high,
      between 1 (2 ^ 40) s.limit is.limit_low is.limit_high,
      between 16384 (2 ^ 28) s.log_size is.log_size_low is.log_size_high,
      memory s.memory is.memory_low is.memory_high is.memory_pages,
      power 1024 s.sets is.sets_low is.sets_high is.sets_power,
      between 1 16 s.ways is.ways_low is.ways_high,
      power 16 s.line is.line_low is.line_high is.line_power,
      between 1 2 s.format is.format_low is.format_high,
      is.second_sets,
      is.second_ways,
    ) refl

faultless : (signed : List ℕ) → take 8 signed ≡ magic → number_at 4 8 signed ≡ 1 → first_bad (settings_in signed) ≡ None → size_in signed ≤ (settings_in signed).log_size → size_in signed ≡ length signed - 92
    → head_fault signed (sha256 signed) ≡ None
unfolding head_fault
faultless signed begins version ranges within long =
    rw ((bytes_eq-Decides (take 8 signed) magic).1 begins, eq-eqb _ _ version, ranges, le-ltb _ _ within, eq-eqb _ _ long, (bytes_eq-Decides (sha256 signed) (sha256 signed)).1 refl) refl

abbrev signed_for : Content → List ℕ
signed_for c = signed_bytes c.head c.dropped (flat_map bytes_of c.records)

-- a head that is written has no fault
pub no_fault_again : AreRead → (c : Content) → IsVersion1 c → head_fault (signed_for c) (sha256 (signed_for c)) ≡ None
no_fault_again read c is =
    let a = content_again read c is in
    let long : size_in (signed_for c) ≡ length (signed_for c) - 92 = a.n_is ∙ sym (ap length a.rest_is) ∙ length-drop 92 (signed_for c) in
    let settings : settings_in (signed_for c) ≡ c.head.settings = ap (λ (h : Head). h.settings) a.head in
    let ranges : first_bad (settings_in (signed_for c)) ≡ None = ap first_bad settings ∙ none_bad c.head.settings is.0.settings in
    let within : size_in (signed_for c) ≤ (settings_in (signed_for c)).log_size = omega (arith, a.n_is, ap (λ (s : RawSettings). s.log_size) settings, is.0.bound) in
    faultless (signed_for c) a.begins a.version ranges within long

-- ---- the records

pub some_bytes : (r : Record) → 0 < length (bytes_of r)
some_bytes (Header h n ic pc x) = omega arith
some_bytes (FirstLoad h skip value) = omega arith
some_bytes (ScOk h) = omega arith
some_bytes (ScFailed h) = omega arith
some_bytes (Edge h ic s j) = omega arith
some_bytes (End h mark) = omega arith

pub records_free : BeginNoOther → (format : ℕ) → ArePrefixFree bytes_of (Fits format)
records_free alone format = record { some = λ r fits. some_bytes r; one = λ r s x y fr fs e. alone r s x y fr.fields fs.fields e }

records_fault_again : BeginNoOther → (c : Content) → IsVersion1 c → (e : FileError) → IsRecordsFault c.head c.dropped (flat_map bytes_of c.records) e → e ≡ OutOfMemory
records_fault_again alone c is (Short n) x = absurd x
records_fault_again alone c is BadMagic x = absurd x
records_fault_again alone c is (BadVersion found) x = absurd x
records_fault_again alone c is (BadHead field value) x = absurd x
records_fault_again alone c is (LengthDiffers said found) x = absurd x
records_fault_again alone c is (DigestDiffers kept found) x = absurd x
records_fault_again alone c is (BadRecord place) x = absurd (no_stop bytes_of (Fits 1) (records_free alone 1) c.records x.before x.rest (fit_first c is) x.fit x.parts x.more x.none)
records_fault_again alone c is (BadOrder place rule) x =
    let same = one_row bytes_of (Fits 1) (records_free alone 1) c.records x.records (fit_first c is) x.fit x.parts in
    none_some (order_break place rule) (sym is.0.order ∙ ap (broken_by c.head.settings c.dropped) same ∙ x.first)
records_fault_again alone c is OutOfMemory x = refl

-- ---- the file

pub signed_again : (c : Content) → signed_of (file_bytes c) ≡ signed_for c
signed_again c =
    let s = signed_for c in
    let n : length (s ++ sha256 s) - 32 ≡ length s = omega (arith, length-append s (sha256 s), length-sha256 s) in
    ap (λ (k : ℕ). take k (s ++ sha256 s)) n ∙ take_at s (sha256 s) (length s) refl

digest_again : (c : Content) → drop (length (file_bytes c) - 32) (file_bytes c) ≡ sha256 (signed_for c)
digest_again c =
    let s = signed_for c in
    let n : length (s ++ sha256 s) - 32 ≡ length s = omega (arith, length-append s (sha256 s), length-sha256 s) in
    ap (λ (k : ℕ). drop k (s ++ sha256 s)) n ∙ drop_at s (sha256 s) (length s) refl

-- the head of a file has 92 bytes, and the last digest 32
signed_size : HaveTheirWidth → (c : Content) → IsContent c → length (signed_for c) ≡ total c.records + 92
signed_size long c is =
    let n = length (flat_map bytes_of c.records) in
    let end = ended_by c.head.digest c.dropped n (flat_map bytes_of c.records) in
    omega (arith, ap length (signed_is_spelled c.head c.dropped (flat_map bytes_of c.records)), length_begun long 1 c.head.settings end, length_ended long c.head.digest c.dropped n (flat_map bytes_of c.records), is.digest)

pub file_size : HaveTheirWidth → HaveTheirSize
file_size long c is = omega (arith, length-append (signed_for c) (sha256 (signed_for c)), length-sha256 (signed_for c), signed_size long c is)

pub no_file_fault : (bytes : List ℕ) → 124 ≤ length bytes → head_fault (signed_of bytes) (drop (length bytes - 32) bytes) ≡ None → file_fault bytes ≡ None
no_file_fault bytes le h = rw (le-ltb _ _ le) h

at_content : (c : Content) (e : FileError) → Again (signed_for c) c.head c.dropped (length (flat_map bytes_of c.records)) (flat_map bytes_of c.records)
    → IsRecordsFault (head_in (signed_for c)) (dropped_in (signed_for c)) (drop 92 (signed_for c)) e → IsRecordsFault c.head c.dropped (flat_map bytes_of c.records) e
at_content c e a x =
    subst (λ (h : Head). IsRecordsFault h c.dropped (flat_map bytes_of c.records) e) a.head
    (subst (λ (n : ℕ). IsRecordsFault (head_in (signed_for c)) n (flat_map bytes_of c.records) e) a.dropped_is
    (subst (λ (t : List ℕ). IsRecordsFault (head_in (signed_for c)) (dropped_in (signed_for c)) t e) a.rest_is x))

-- a file that is written is refused only when out of memory
pub refused_again : HaveTheirWidth → AreRead → BeginNoOther → (c : Content) → IsVersion1 c → (e : FileError) → IsRefusal (file_bytes c) e → e ≡ OutOfMemory
refused_again long read alone c is e x =
    let a = content_again read c is in
    let fault : head_fault (signed_of (file_bytes c)) (drop (length (file_bytes c) - 32) (file_bytes c)) ≡ None = rw (signed_again c, digest_again c) (no_fault_again read c is) in
    let enough : 124 ≤ length (file_bytes c) = omega (arith, file_size long c is.0) in
    elim x [
      | inl one ↦ none_some e (sym (no_file_fault (file_bytes c) enough fault) ∙ one)
      | inr two ↦ records_fault_again alone c is e (at_content c e a (subst (λ (t : List ℕ). IsRecordsFault (head_in t) (dropped_in t) (drop 92 t) e) (signed_again c) two.1))
    ]

-- two logs with one spelling are one
pub one_content : AreRead → BeginNoOther → (c d : Content) → IsVersion1 c → IsVersion1 d → file_bytes c ≡ file_bytes d → c ≡ d
one_content read alone c d ic id e =
    let s : signed_for c ≡ signed_for d = sym (signed_again c) ∙ ap signed_of e ∙ signed_again d in
    let a = content_again read c ic in
    let b = content_again read d id in
    let head : c.head ≡ d.head = sym a.head ∙ ap head_in s ∙ b.head in
    let dropped : c.dropped ≡ d.dropped = sym a.dropped_is ∙ ap dropped_in s ∙ b.dropped_is in
    let rs = one_row bytes_of (Fits 1) (records_free alone 1) c.records d.records (fit_first c ic) (fit_first d id) (sym a.rest_is ∙ ap (drop 92) s ∙ b.rest_is) in
    ap (λ (h : Head). content h c.dropped c.records) head ∙ ap (λ (n : ℕ). content d.head n c.records) dropped ∙ ap (content d.head d.dropped) rs

-- a file is read as the log whose spelling it is, since it is that of no other, and has no cause for a refusal
pub read_only : SayOneThing → AreNotRefused → (bytes : List ℕ) (r : Result Content FileError) → IfOk r (λ c. IsVersion1 c) → IfOk r (λ c. bytes ≡ file_bytes c) → IfErr r (λ e. IsRefusal bytes e) → (d : Content) → IsVersion1 d → bytes ≡ file_bytes d
    → MatchResult r (λ c. c ≡ d) (λ e. e ≡ OutOfMemory)
read_only same taken bytes (Ok c) ic f x d id e = same c d ic id (sym f ∙ e)
read_only same taken bytes (Err y) ic f x d id e = taken d id y (subst (λ (b : List ℕ). IsRefusal b y) e x)
