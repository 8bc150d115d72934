-- The fields that the heads of both versions have, grouped from their front.
use Rattle.log_file.proofs.Common.{◌≡◌, ℕ, ◌+◌, ◌^◌, ◌<◌, ◌≤◌, ◌==◌, Bool, true, false, if◌then◌else◌, List, ◌++◌, length, take, drop, length-append, refl, sym, ap, ◌∙◌, append_assoc, arith, drop-drop, take-append-drop, take_at, drop_at, RawSettings, IsSetting, most_harts, number_at, number_bytes, AreBytes, AreWritten, HaveTheirWidth, magic, settings_bytes, settings_in}
use Rattle.le_numbers.specs.Laws.{AreRead}

-- magic, a version, the settings that both versions have, and what follows
unfoldable pub begun_by : ℕ → RawSettings → List ℕ → List ℕ
begun_by version s rest =
    magic ++ (number_bytes 4 version ++ (number_bytes 4 s.harts ++ (number_bytes 4 s.interval ++ (number_bytes 8 s.limit ++ (number_bytes 4 s.log_size
    ++ (number_bytes 4 s.memory ++ (number_bytes 4 s.sets ++ (number_bytes 4 s.ways ++ (number_bytes 4 s.line ++ rest)))))))))

-- the program's digest, the number of records given up, the number of bytes of the kept ones, and what follows
abbrev pub ended_by : List ℕ → (dropped n : ℕ) → List ℕ → List ℕ
ended_by digest dropped n rest = digest ++ (number_bytes 8 dropped ++ (number_bytes 4 n ++ rest))

regroup : (m v h i l g e s w n r : List ℕ) → (m ++ v ++ h ++ i ++ l ++ g ++ e ++ s ++ w ++ n) ++ r ≡ m ++ (v ++ (h ++ (i ++ (l ++ (g ++ (e ++ (s ++ (w ++ (n ++ r)))))))))
regroup m v h i l g e s w n r = simp append_assoc

pub begun_is : (version : ℕ) (s : RawSettings) (rest : List ℕ) → settings_bytes version s ++ rest ≡ begun_by version s rest
unfolding settings_bytes begun_by
begun_is version s rest =
    regroup magic (number_bytes 4 version) (number_bytes 4 s.harts) (number_bytes 4 s.interval) (number_bytes 8 s.limit) (number_bytes 4 s.log_size) (number_bytes 4 s.memory) (number_bytes 4 s.sets) (number_bytes 4 s.ways) (number_bytes 4 s.line) rest

pub field : (width n : ℕ) (x y : List ℕ) → x ≡ number_bytes width n ++ y → (z : List ℕ) → y ≡ z → x ≡ number_bytes width n ++ z
field width n x y e z f = e ∙ ap (λ (t : List ℕ). number_bytes width n ++ t) f

-- ---- bytes have the fields that are read at their places

module _ (written : AreWritten) (bytes : List ℕ) (are : AreBytes bytes) where
  pub ended_parts : (at : ℕ) → at + 44 ≤ length bytes → drop at bytes ≡ ended_by (take 32 (drop at bytes)) (number_at 8 (at + 32) bytes) (number_at 4 (at + 32 + 8) bytes) (drop (at + 32 + 8 + 4) bytes)
  ended_parts at long =
      let size = field 8 (number_at 8 (at + 32) bytes) _ _ (written 8 (at + 32) bytes are (omega (arith, long))) _ (written 4 (at + 32 + 8) bytes are (omega (arith, long))) in
      sym (take-append-drop 32 (drop at bytes)) ∙ ap (λ (t : List ℕ). take 32 (drop at bytes) ++ t) (drop-drop 32 at bytes ∙ size)

  pub begun_parts : (version : ℕ) → 48 ≤ length bytes → take 8 bytes ≡ magic → number_at 4 8 bytes ≡ version → bytes ≡ begun_by version (settings_in bytes) (drop 48 bytes)
  unfolding begun_by
  begun_parts version long begins named =
      let t44 = written 4 44 bytes are (omega (arith, long)) in
      let t40 = field 4 (number_at 4 40 bytes) (drop 40 bytes) (drop 44 bytes) (written 4 40 bytes are (omega (arith, long))) _ t44 in
      let t36 = field 4 (number_at 4 36 bytes) (drop 36 bytes) (drop 40 bytes) (written 4 36 bytes are (omega (arith, long))) _ t40 in
      let t32 = field 4 (number_at 4 32 bytes) (drop 32 bytes) (drop 36 bytes) (written 4 32 bytes are (omega (arith, long))) _ t36 in
      let t28 = field 4 (number_at 4 28 bytes) (drop 28 bytes) (drop 32 bytes) (written 4 28 bytes are (omega (arith, long))) _ t32 in
      let t20 = field 8 (number_at 8 20 bytes) (drop 20 bytes) (drop 28 bytes) (written 8 20 bytes are (omega (arith, long))) _ t28 in
      let t16 = field 4 (number_at 4 16 bytes) (drop 16 bytes) (drop 20 bytes) (written 4 16 bytes are (omega (arith, long))) _ t20 in
      let t12 = field 4 (number_at 4 12 bytes) (drop 12 bytes) (drop 16 bytes) (written 4 12 bytes are (omega (arith, long))) _ t16 in
      let t8 = written 4 8 bytes are (omega (arith, long)) ∙ ap (λ (n : ℕ). number_bytes 4 n ++ drop 12 bytes) named ∙ ap (λ (t : List ℕ). number_bytes 4 version ++ t) t12 in
      sym (take-append-drop 8 bytes) ∙ ap (λ (f : List ℕ). f ++ drop 8 bytes) begins ∙ ap (λ (t : List ℕ). magic ++ t) t8

-- ---- fields that are written are read again

most : (s : RawSettings) → most_harts s ≤ 16
most s = by (s.format == 2)
  where
    by : (b : Bool) → (if b then 16 else 8) ≤ 16
    by true = omega arith
    by false = omega arith

-- the settings that both versions have, with others after them
abbrev pub first_fields : RawSettings → ℕ → ℕ → ℕ → RawSettings
first_fields s format sets2 ways2 = record {
  harts = s.harts;
  interval = s.interval;
  limit = s.limit;
  log_size = s.log_size;
  memory = s.memory;
  sets = s.sets;
  ways = s.ways;
  line = s.line;
  format = format;
  sets2 = sets2;
  ways2 = ways2;
}

pub record Begun (version : ℕ) (s : RawSettings) (bytes rest : List ℕ) : Type 0 where
  pub begins : take 8 bytes ≡ magic
  pub named : number_at 4 8 bytes ≡ version
  pub settings : settings_in bytes ≡ first_fields s 1 0 0
  pub rest_is : drop 48 bytes ≡ rest

pub record Ended (at : ℕ) (bytes digest : List ℕ) (dropped n : ℕ) (rest : List ℕ) : Type 0 where
  pub digest_is : take 32 (drop at bytes) ≡ digest
  pub dropped_is : number_at 8 (at + 32) bytes ≡ dropped
  pub n_is : number_at 4 (at + 32 + 8) bytes ≡ n
  pub rest_is : drop (at + 32 + 8 + 4) bytes ≡ rest

module _ (read : AreRead) where
  pub begun_again : (version : ℕ) (s : RawSettings) (bytes rest : List ℕ) → IsSetting s → version < 2 ^ 32 → bytes ≡ begun_by version s rest → Begun version s bytes rest
  unfolding begun_by magic
  begun_again version s bytes rest is fits e =
      let s8 = read 4 8 version bytes _ (omega (arith, fits)) (ap (drop 8) e) in
      let s12 = read 4 12 s.harts bytes _ (omega (arith, most s, is.harts_high)) s8.1 in
      let s16 = read 4 16 s.interval bytes _ (omega (arith, is.interval_high)) s12.1 in
      let s20 = read 8 20 s.limit bytes _ (omega (arith, is.limit_high)) s16.1 in
      let s28 = read 4 28 s.log_size bytes _ (omega (arith, is.log_size_high)) s20.1 in
      let s32 = read 4 32 s.memory bytes _ (omega (arith, is.memory_high)) s28.1 in
      let s36 = read 4 36 s.sets bytes _ (omega (arith, is.sets_high)) s32.1 in
      let s40 = read 4 40 s.ways bytes _ (omega (arith, is.ways_high)) s36.1 in
      let s44 = read 4 44 s.line bytes rest (omega (arith, is.line_high)) s40.1 in
      record { begins = ap (take 8) e; named = s8.0; settings = rw (s12.0, s16.0, s20.0, s28.0, s32.0, s36.0, s40.0, s44.0) refl; rest_is = s44.1 }

  pub ended_again : (at : ℕ) (bytes digest : List ℕ) (dropped n : ℕ) (rest : List ℕ) → length digest ≡ 32 → dropped < 2 ^ 64 → n < 2 ^ 32 → drop at bytes ≡ ended_by digest dropped n rest → Ended at bytes digest dropped n rest
  ended_again at bytes digest dropped n rest len small fits e =
      let later = sym (drop-drop 32 at bytes) ∙ ap (drop 32) e ∙ drop_at digest _ 32 len in
      let d = read 8 (at + 32) dropped bytes _ (omega (arith, small)) later in
      let k = read 4 (at + 32 + 8) n bytes rest (omega (arith, fits)) d.1 in
      record { digest_is = ap (take 32) e ∙ take_at digest _ 32 len; dropped_is = d.0; n_is = k.0; rest_is = k.1 }

-- ---- how long they are

module _ (long : HaveTheirWidth) where
  pub number_first : (width n : ℕ) (rest : List ℕ) → length (number_bytes width n ++ rest) ≡ width + length rest
  number_first width n rest = omega (arith, length-append (number_bytes width n) rest, long width n)

  pub length_ended : (digest : List ℕ) (dropped n : ℕ) (rest : List ℕ) → length (ended_by digest dropped n rest) ≡ 12 + length digest + length rest
  length_ended digest dropped n rest = omega (arith, length-append digest (number_bytes 8 dropped ++ (number_bytes 4 n ++ rest)), number_first 8 dropped (number_bytes 4 n ++ rest), number_first 4 n rest)

  pub length_begun : (version : ℕ) (s : RawSettings) (rest : List ℕ) → length (begun_by version s rest) ≡ 48 + length rest
  unfolding begun_by magic
  length_begun version s rest =
      let t44 = number_bytes 4 s.line ++ rest in
      let t40 = number_bytes 4 s.ways ++ t44 in
      let t36 = number_bytes 4 s.sets ++ t40 in
      let t32 = number_bytes 4 s.memory ++ t36 in
      let t28 = number_bytes 4 s.log_size ++ t32 in
      let t20 = number_bytes 8 s.limit ++ t28 in
      let t16 = number_bytes 4 s.interval ++ t20 in
      let t12 = number_bytes 4 s.harts ++ t16 in
      omega (
        arith,
        number_first 4 version t12,
        number_first 4 s.harts t16,
        number_first 4 s.interval t20,
        number_first 8 s.limit t28,
        number_first 4 s.log_size t32,
        number_first 4 s.memory t36,
        number_first 4 s.sets t40,
        number_first 4 s.ways t44,
        number_first 4 s.line rest,
      )
