-- Bytes are a log's in the version that they name, or there is a cause to refuse them; and a log is salvaged of them, or there is a cause why none is.
use Rattle.log_blocks.proofs.Common.{◌≡◌, ◌≢◌, ◌≤◌, ◌<◌, ◌-◌, ◌+◌, ◌^◌, ℕ, zero, suc, Bool, true, false, List, [], ◌∷◌, ◌++◌, length, take, drop, Option, Some, None, ap, subst, refl, arith, inl, inr, ◌⊎◌, length-append, length-drop, ◌==◌, Result, Ok, Err, eqb-true, get_or-drop, length-take-le, IsSetting, AreBytes, AreWritten as NumbersAreWritten, Fit, HaveTheirWidth, Head, TellTheirSize, OrderBreak, broken_by, Content, content, IsContent, FileError, LengthDiffers, BadRecord, BadOrder, OutOfMemory, blocks_of, file_bytes, file_bytes2, IsVersion1, Damage, File, BadBlock, SalvageError, settings_in, head_in, dropped_in, size_in, head_digest, blocks_in, is_second, head_fault, Piece, gathered, start_in, len_in, piece_in, is_good, Walked, IsWalk, first_wrong, HasBlocks, IsRecordsFault, IsSecondRefusal, IsFirstRefusal, dropped_before, Reads, Salvages, AreReadOrRefused, AreSalvagedOrRefused, eqb-false}
use Rattle.log_record.specs.Laws.{AreRead, AreWritten}
use Rattle.log_file.specs.File as first
use Rattle.log_file.specs.Readings.{TestsTell}
use Rattle.log_file.specs.Readings as of_first
use Rattle.log_blocks.specs.declared.damage.SalvageError.TheVariants as salvage
use Rattle.log_blocks.proofs.Goods.{good, front_are}
use Rattle.log_file.proofs.Parted.{Parted, Stuck, parted}
use Rattle.log_blocks.proofs.Salvaged.{no_memory}
use Rattle.log_blocks.proofs.Sealed.{TagsTell, read_is_spelled}
use Rattle.log_blocks.proofs.Tested.{no_fault, head-named}

-- ---- the walk back comes to an end

are-first : (x : ℕ) (xs : List ℕ) → x < 256 → AreBytes xs → AreBytes (x ∷ xs)
are-first x xs h are zero = h
are-first x xs h are (suc i) = are i

are-both : (xs ys : List ℕ) → AreBytes xs → AreBytes ys → AreBytes (xs ++ ys)
are-both [] ys ax ay = ay
are-both (x ∷ xs) ys ax ay = are-first x (xs ++ ys) (ax 0) (are-both xs ys (λ j. ax (suc j)) ay)

no-bytes : AreBytes []
no-bytes i = omega arith

-- what the first block knows fits its field, if what the head knows does
abbrev Fitting : List Piece → Type 0
Fitting pieces = (dropped : ℕ) → dropped < 2 ^ 64 → dropped_before dropped pieces < 2 ^ 64

-- how a walk back continues from blocks that are kept
record Goes (digest : List ℕ) (n : ℕ) (bytes : List ℕ) (kept : List Piece) : Type 0 where
  pub count : ℕ
  pub rest : List ℕ
  pub pieces : List Piece
  pub walked : Walked digest n count bytes kept rest pieces
  pub are : AreBytes (gathered pieces)
  pub few : length (gathered pieces) ≤ n
  pub fitting : Fitting pieces

module _ (fit : Fit) (digest : List ℕ) (n : ℕ) where
  onward : (b : Bool) (fuel : ℕ) (bytes : List ℕ) (kept : List Piece) → is_good digest n (length (gathered kept)) bytes ≡ b → length bytes ≤ fuel → AreBytes bytes → AreBytes (gathered kept) → length (gathered kept) ≤ n → Fitting kept
      → ((front : List ℕ) (more : List Piece) → length front < fuel → AreBytes front → AreBytes (gathered more) → length (gathered more) ≤ n → Fitting more → Goes digest n front more) → Goes digest n bytes kept
  onward false fuel bytes kept bad le are kept_are few fitting go = record { count = 0; rest = bytes; pieces = kept; walked = (bad, (refl, refl)); are = kept_are; few = few; fitting = fitting }
  onward true fuel bytes kept is le are kept_are few fitting go =
      let g = good digest n (length (gathered kept)) bytes is in
      let p = piece_in bytes in
      let front = take (start_in bytes) bytes in
      let size : length p.bytes ≡ len_in bytes = length-take-le (len_in bytes) (drop (start_in bytes) bytes) (omega (arith, length-drop (start_in bytes) bytes, g.within)) in
      let shorter : length front ≡ start_in bytes = length-take-le (start_in bytes) bytes (omega (arith, g.within)) in
      let piece_are : AreBytes p.bytes = front_are (len_in bytes) (drop (start_in bytes) bytes) (λ i. rw get_or-drop (are (start_in bytes + i))) in
      let r = go front (p ∷ kept) (omega (arith, shorter, g.within, le)) (front_are (start_in bytes) bytes are) (are-both p.bytes (gathered kept) piece_are kept_are)
      (omega (arith, size, g.few, length-append p.bytes (gathered kept))) (λ dropped lt. fit 8 (length bytes - 48) bytes are) in
      record { count = suc r.count; rest = r.rest; pieces = r.pieces; walked = (is, r.walked); are = r.are; few = r.few; fitting = r.fitting }

  walk : (fuel : ℕ) (bytes : List ℕ) (kept : List Piece) → length bytes ≤ fuel → AreBytes bytes → AreBytes (gathered kept) → length (gathered kept) ≤ n → Fitting kept → Goes digest n bytes kept
  walk zero bytes kept le are kept_are few fitting =
      onward (is_good digest n (length (gathered kept)) bytes) 0 bytes kept refl le are kept_are few fitting (λ front more lt front_bytes more_are fewer more_fitting. absurd (omega (arith, lt)))
  walk (suc fuel) bytes kept le are kept_are few fitting =
      onward (is_good digest n (length (gathered kept)) bytes) (suc fuel) bytes kept refl le are kept_are few fitting
      (λ front more lt front_bytes more_are fewer more_fitting. walk fuel front more (omega (arith, lt)) front_bytes more_are fewer more_fitting)

-- ---- what blocks say

abbrev Judged : Head → (dropped start : ℕ) → List Piece → Type 0
Judged head dropped start pieces = ((c : Content) × HasBlocks head dropped start pieces c) ⊎ ((e : Damage) × IsRecordsFault head dropped start pieces e × (e ≢ File OutOfMemory))

module _ (head : Head) (dropped start : ℕ) (pieces : List Piece) (setting : IsSetting head.settings) (digest : length head.digest ≡ 32) (small : dropped < 2 ^ 64) (few : length (gathered pieces) ≤ head.settings.log_size) where
  ordered : (o : Option OrderBreak) (s : Parted head.settings.format (gathered pieces)) → first_wrong start (blocks_of dropped s.records) pieces ≡ None → broken_by head.settings dropped s.records ≡ o → Judged head dropped start pieces
  ordered (Some b) s right e = inr (File (BadOrder b.at b.rule), record { records = s.records; fit = s.fit; parts = s.parts; blocks = right; breaks = e }, λ is. absurd cc)
  ordered None s right e = inl (
    content head dropped s.records,
    record {
      content = record { settings = setting; digest = digest; dropped = small; fit = s.fit; bound = omega (arith, few, ap length s.parts); order = e };
      head_is = refl;
      dropped_is = refl;
      parts = s.parts;
      blocks = right;
    },
  )

  compared : (o : Option ℕ) (s : Parted head.settings.format (gathered pieces)) → first_wrong start (blocks_of dropped s.records) pieces ≡ o → Judged head dropped start pieces
  compared (Some at) s e = inr (BadBlock at, record { records = s.records; fit = s.fit; parts = s.parts; wrong = e }, λ is. absurd cc)
  compared None s e = ordered (broken_by head.settings dropped s.records) s e refl

  judged : Parted head.settings.format (gathered pieces) ⊎ Stuck head.settings.format (gathered pieces) → Judged head dropped start pieces
  judged (inl s) = compared (first_wrong start (blocks_of dropped s.records) pieces) s refl
  judged (inr s) = inr (File (BadRecord s.place), s.none, λ is. absurd cc)

-- ---- files

pub record Laws : Type 0 where
  pub tell : TellTheirSize
  pub tags : TagsTell
  pub written : AreWritten
  pub read : AreRead
  pub numbers : NumbersAreWritten
  pub width : HaveTheirWidth
  pub fit : Fit

module _ (laws : Laws) (tests : TestsTell) (bytes : List ℕ) (are : AreBytes bytes) where
  behind : Goes (head_digest bytes) (size_in bytes) (blocks_in bytes) []
  behind = walk laws.fit (head_digest bytes) (size_in bytes) (length (blocks_in bytes)) (blocks_in bytes) [] (omega arith) (λ i. rw get_or-drop (are (136 + i))) no-bytes (omega arith) (λ dropped lt. lt)

  back : IsWalk (head_digest bytes) (size_in bytes) (blocks_in bytes) behind.rest behind.pieces
  back = record { count = behind.count; walked = behind.walked }

  said : (dropped start : ℕ) → head_fault bytes ≡ None → dropped < 2 ^ 64 → Judged (head_in bytes) dropped start behind.pieces
  said dropped start none small =
      let p = no_fault bytes none in
      judged (head_in bytes) dropped start behind.pieces (tests (settings_in bytes) p.settings) (length-take-le 32 (drop 60 bytes) (omega (arith, length-drop 60 bytes, p.long))) small (omega (arith, behind.few, p.within))
      (parted laws.tell laws.written laws.read (settings_in bytes).format (length (gathered behind.pieces)) (gathered behind.pieces) behind.are (omega arith))

  abbrev Second : Type 0
  Second = ((d : Content) × IsContent d × (bytes ≡ file_bytes2 d)) ⊎ ((e : Damage) × IsSecondRefusal bytes e × (e ≢ File OutOfMemory))

  all_kept : behind.rest ≡ [] → IsWalk (head_digest bytes) (size_in bytes) (blocks_in bytes) [] behind.pieces
  all_kept none = subst (λ (t : List ℕ). IsWalk (head_digest bytes) (size_in bytes) (blocks_in bytes) t behind.pieces) none back

  whole : head_fault bytes ≡ None → behind.rest ≡ [] → size_in bytes ≡ length (gathered behind.pieces) → Judged (head_in bytes) (dropped_in bytes) 136 behind.pieces → Second
  whole none all size (inl j) = inl (
    j.0,
    j.1.content,
    read_is_spelled laws.numbers laws.width laws.tags bytes are j.0 (record { pieces = behind.pieces; fault = none; walk = all_kept all; size_is = size; blocks = j.1 }),
  )
  whole none all size (inr j) = inr (j.0, inr (record { rest = behind.rest; pieces = behind.pieces; fault = none; walk = back; wrong = inr (inr (all, size, j.1)) }), j.2)

  sized : (b : Bool) → head_fault bytes ≡ None → behind.rest ≡ [] → (size_in bytes == length (gathered behind.pieces)) ≡ b → Second
  sized true none all e = whole none all (eqb-true _ _ e) (said (dropped_in bytes) 136 none (laws.fit 8 92 bytes are))
  sized false none all e = inr (
    File (LengthDiffers (size_in bytes) (length (gathered behind.pieces))),
    inr (record { rest = behind.rest; pieces = behind.pieces; fault = none; walk = back; wrong = inr (inl (all, eqb-false _ _ e, refl)) }),
    λ is. absurd cc,
  )

  kept_all : (rest : List ℕ) → behind.rest ≡ rest → head_fault bytes ≡ None → Second
  kept_all [] e none = sized (size_in bytes == length (gathered behind.pieces)) none e refl
  kept_all (x ∷ xs) e none = inr (
    BadBlock (136 + length behind.rest),
    inr (record { rest = behind.rest; pieces = behind.pieces; fault = none; walk = back; wrong = inl (omega (arith, ap length e), refl) }),
    λ is. absurd cc,
  )

  second : (o : Option FileError) → head_fault bytes ≡ o → Second
  second (Some e) is = inr (File e, inl is, no_memory e (head-named bytes e is))
  second None is = kept_all behind.rest refl is

  -- ---- salvage

  abbrev Saved : Type 0
  Saved = (says : Result Content SalvageError) × Salvages bytes says

  of_kept : head_fault bytes ≡ None → (behind.pieces ≡ [] → size_in bytes ≡ 0) → Judged (head_in bytes) (dropped_before (dropped_in bytes) behind.pieces) (136 + length behind.rest) behind.pieces → Saved
  of_kept none some (inl j) = (Ok j.0, record { rest = behind.rest; pieces = behind.pieces; fault = none; walk = back; some = some; blocks = j.1 })
  of_kept none some (inr j) = (Err (salvage.File j.0), ((inr (record { rest = behind.rest; pieces = behind.pieces; fault = none; walk = back; some = some; wrong = j.1 }), j.2), λ is. absurd cc))

  by_kept : head_fault bytes ≡ None → (behind.pieces ≡ [] → size_in bytes ≡ 0) → Saved
  by_kept none some = of_kept none some (said (dropped_before (dropped_in bytes) behind.pieces) (136 + length behind.rest) none (behind.fitting (dropped_in bytes) (laws.fit 8 92 bytes are)))

  none_kept : (b : Bool) → head_fault bytes ≡ None → behind.pieces ≡ [] → (size_in bytes == 0) ≡ b → Saved
  none_kept true none e zero_is = by_kept none (λ is. eqb-true _ _ zero_is)
  none_kept false none e more = (
    Err salvage.NothingLeft,
    (
      record {
        rest = behind.rest;
        fault = none;
        walk = subst (λ (t : List Piece). IsWalk (head_digest bytes) (size_in bytes) (blocks_in bytes) behind.rest t) e back;
        more = omega (arith, eqb-false _ _ more);
      },
      λ is. absurd cc,
    ),
  )

  some_kept : (pieces : List Piece) → behind.pieces ≡ pieces → head_fault bytes ≡ None → Saved
  some_kept [] e none = none_kept (size_in bytes == 0) none e refl
  some_kept (p ∷ ps) e none = by_kept none (λ is. absurd (omega (arith, ap length e, ap length is)))

  pub saved : (o : Option FileError) → head_fault bytes ≡ o → Saved
  saved (Some e) is = (Err (salvage.File (File e)), ((inl is, no_memory e (head-named bytes e is)), λ is. absurd cc))
  saved None is = some_kept behind.pieces refl is

-- ---- by the version

pub to_second : (b : Bool) (P Q : Type 0) → b ≡ true → P → elim b as (λ z. Type 0) [ true ↦ P | false ↦ Q ]
to_second true P Q e x = x
to_second false P Q e x = absurd cc

pub to_first : (b : Bool) (P Q : Type 0) → b ≡ false → Q → elim b as (λ z. Type 0) [ true ↦ P | false ↦ Q ]
to_first true P Q e x = absurd cc
to_first false P Q e x = x

abbrev Verdict : List ℕ → Type 0
Verdict bytes = (says : Result Content Damage) × Reads bytes says

of_second : (bytes : List ℕ) → is_second bytes ≡ true → ((d : Content) × IsContent d × (bytes ≡ file_bytes2 d)) ⊎ ((e : Damage) × IsSecondRefusal bytes e × (e ≢ File OutOfMemory)) → Verdict bytes
of_second bytes named (inl x) = (Ok x.0, (x.1, to_second (is_second bytes) (bytes ≡ file_bytes2 x.0) ((x.0.head.settings.format ≡ 1) × (bytes ≡ file_bytes x.0)) named x.2))
of_second bytes named (inr x) = (Err x.0, (to_second (is_second bytes) (IsSecondRefusal bytes x.0) (IsFirstRefusal bytes x.0) named x.1, x.2))

of_version_1 : (bytes : List ℕ) → is_second bytes ≡ false → ((d : Content) × IsVersion1 d × (bytes ≡ file_bytes d)) ⊎ ((e : FileError) × first.IsRefusal bytes e × (e ≢ OutOfMemory)) → Verdict bytes
of_version_1 bytes named (inl x) = (Ok x.0, (x.1.0, to_first (is_second bytes) (bytes ≡ file_bytes2 x.0) ((x.0.head.settings.format ≡ 1) × (bytes ≡ file_bytes x.0)) named (x.1.1, x.2)))
of_version_1 bytes named (inr x) = (Err (File x.0), (to_first (is_second bytes) (IsSecondRefusal bytes (File x.0)) (IsFirstRefusal bytes (File x.0)) named x.1, no_memory x.0 x.2))

by_version : Laws → of_first.AreReadOrRefused → TestsTell → (bytes : List ℕ) → AreBytes bytes → (b : Bool) → is_second bytes ≡ b → Verdict bytes
by_version laws law tests bytes are true named = of_second bytes named (second laws tests bytes are (head_fault bytes) refl)
by_version laws law tests bytes are false named = of_version_1 bytes named (law tests bytes are)

pub decided : Laws → of_first.AreReadOrRefused → AreReadOrRefused
decided laws law tests bytes are = by_version laws law tests bytes are (is_second bytes) refl

pub salvaged : Laws → AreSalvagedOrRefused
salvaged laws tests bytes are = saved laws tests bytes are (head_fault bytes) refl
