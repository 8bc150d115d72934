-- The head of a file that is written is read again, and has no fault.
use Rattle.log_blocks.proofs.Common.{◌≡◌, ℕ, ◌+◌, ◌^◌, ◌<◌, ◌≤◌, Bool, true, false, List, [], ◌++◌, length, take, drop, length-append, append_assoc, append-nil, None, refl, sym, ap, ◌∙◌, arith, ◌==◌, ◌&&◌, ◌||◌, IsTrue, if◌then◌else◌, eqb-true, eq-eqb, drop-drop, take_at, drop_at, bytes_eq-Decides, sha256, length-sha256, RawSettings, IsSetting, is_between, is_small_power, first_bad, number_at, number_bytes, HaveTheirWidth, AreRead, Head, total, Content, IsContent, magic, head_bytes2, file_bytes2, blocks_of, all_sealed, AreNotBad, settings_in, head_in, dropped_in, size_in, kept_digest, head_digest, blocks_in, head_fault, ap₂, le-ltb}
use Rattle.log_file.proofs.Again.{head_with}
use Rattle.log_file.proofs.Shared.{ended_by, first_fields, begun_again, ended_again, number_first, length_begun, length_ended}
use Rattle.log_blocks.proofs.Layouts.{spelled, later_by, head_is_spelled}
use Rattle.log_blocks.proofs.Sealed.{small}

at_most : (high value : ℕ) → is_small_power high value ≡ true → value ≤ high
at_most high value h = grind arith

up_to : (low high value : ℕ) → is_between low high value ≡ true → value ≤ high
up_to low high value h = grind arith

few_sets : (n : ℕ) (none second : Bool) → (n == 0) ≡ none → IsTrue (none || second && is_small_power 4096 n) → n ≤ 4096
few_sets n true second e h = omega (arith, eqb-true n 0 e)
few_sets n false true e h = at_most 4096 n h
few_sets n false false e h = absurd cc

few_ways : (n : ℕ) (none : Bool) → IsTrue (if none then n == 0 else is_between 1 16 n) → n ≤ 16
few_ways n true h = omega (arith, eqb-true n 0 h)
few_ways n false h = up_to 1 16 n h

-- a second level has at most 4,096 sets of 16 ways
second_sets : (s : RawSettings) → IsSetting s → s.sets2 ≤ 4096
second_sets s is = few_sets s.sets2 (s.sets2 == 0) (s.format == 2) refl is.second_sets

second_ways : (s : RawSettings) → IsSetting s → s.ways2 ≤ 16
second_ways s is = few_ways s.ways2 (s.sets2 == 0) is.second_ways

-- what stands at the places of the fields
pub record Again (bytes : List ℕ) (h : Head) (dropped n : ℕ) (rest : List ℕ) : Type 0 where
  pub begins : take 8 bytes ≡ magic
  pub version : number_at 4 8 bytes ≡ 2
  pub head : head_in bytes ≡ h
  pub dropped_is : dropped_in bytes ≡ dropped
  pub n_is : size_in bytes ≡ n
  pub rest_is : drop 104 bytes ≡ rest

spelled_again : AreRead → (h : Head) (dropped n : ℕ) (rest bytes : List ℕ) → IsSetting h.settings → length h.digest ≡ 32 → dropped < 2 ^ 64 → n < 2 ^ 32 → bytes ≡ spelled h dropped n rest → Again bytes h dropped n rest
spelled_again read h dropped n rest bytes is len small fits e =
    let s = h.settings in
    let b = begun_again read 2 s bytes (later_by s (ended_by h.digest dropped n rest)) is (omega arith) e in
    let s48 = read 4 48 s.format bytes _ (omega (arith, is.format_high)) b.rest_is in
    let s52 = read 4 52 s.sets2 bytes _ (omega (arith, second_sets s is)) s48.1 in
    let s56 = read 4 56 s.ways2 bytes _ (omega (arith, second_ways s is)) s52.1 in
    let f = ended_again read 60 bytes h.digest dropped n rest len small fits s56.1 in
    let settings : settings_in bytes ≡ s = ap (λ (x : RawSettings). first_fields x (number_at 4 48 bytes) (number_at 4 52 bytes) (number_at 4 56 bytes)) b.settings ∙ rw (s48.0, s52.0, s56.0) refl in
    record { begins = b.begins; version = b.named; head = ap₂ head_with f.digest_is settings; dropped_is = f.dropped_is; n_is = f.n_is; rest_is = f.rest_is }

abbrev pub head_for : Content → List ℕ
head_for c = head_bytes2 c.head c.dropped (total c.records)

abbrev pub sealed_for : Content → List ℕ
sealed_for c = all_sealed (sha256 (head_for c)) (blocks_of c.dropped c.records)

-- the bytes of a log's records are fewer than a field of four bytes counts
pub small_size : (c : Content) → IsContent c → total c.records < 2 ^ 32
small_size c is = omega (arith, is.bound, is.settings.log_size_high)

pub content_again : AreRead → (c : Content) → IsContent c → Again (file_bytes2 c) c.head c.dropped (total c.records) (sha256 (head_for c) ++ sealed_for c)
content_again read c is =
    spelled_again read c.head c.dropped (total c.records) (sha256 (head_for c) ++ sealed_for c) (file_bytes2 c) is.settings is.digest is.dropped (small_size c is)
    (append_assoc (head_for c) (sha256 (head_for c)) (sealed_for c) ∙ head_is_spelled c.head c.dropped (total c.records) (sha256 (head_for c) ++ sealed_for c))

module _ (long : HaveTheirWidth) where
  length_spelled : (h : Head) (dropped n : ℕ) (rest : List ℕ) → length (spelled h dropped n rest) ≡ 72 + length h.digest + length rest
  length_spelled h dropped n rest =
      let s = h.settings in
      let t60 = ended_by h.digest dropped n rest in
      let t56 = number_bytes 4 s.ways2 ++ t60 in
      let t52 = number_bytes 4 s.sets2 ++ t56 in
      omega (
        arith,
        length_begun long 2 s (later_by s t60),
        number_first long 4 s.format t52,
        number_first long 4 s.sets2 t56,
        number_first long 4 s.ways2 t60,
        length_ended long h.digest dropped n rest,
      )

  pub head_size : (c : Content) → IsContent c → length (head_for c) ≡ 104
  head_size c is =
      omega (arith, ap length (sym (append-nil (head_for c)) ∙ head_is_spelled c.head c.dropped (total c.records) []), length_spelled c.head c.dropped (total c.records) [], is.digest)

  -- what follows the head
  pub record Placed (c : Content) : Type 0 where
    pub head_is : take 104 (file_bytes2 c) ≡ head_for c
    pub kept : kept_digest (file_bytes2 c) ≡ sha256 (head_for c)
    pub blocks : blocks_in (file_bytes2 c) ≡ sealed_for c
    pub enough : 136 ≤ length (file_bytes2 c)

  pub placed : (c : Content) → IsContent c → Placed c
  placed c is =
      let h = head_for c in
      let d = sha256 h in
      let e : file_bytes2 c ≡ h ++ (d ++ sealed_for c) = append_assoc h d (sealed_for c) in
      let behind : drop 104 (file_bytes2 c) ≡ d ++ sealed_for c = ap (drop 104) e ∙ drop_at h (d ++ sealed_for c) 104 (head_size c is) in
      record {
        head_is = ap (take 104) e ∙ take_at h (d ++ sealed_for c) 104 (head_size c is);
        kept = ap (take 32) behind ∙ take_at d (sealed_for c) 32 (length-sha256 h);
        blocks = sym (drop-drop 32 104 (file_bytes2 c)) ∙ ap (drop 32) behind ∙ drop_at d (sealed_for c) 32 (length-sha256 h);
        enough = omega (arith, ap length e, length-append h (d ++ sealed_for c), length-append d (sealed_for c), length-sha256 h, head_size c is);
      }

-- ---- a head that is written has no fault

faultless : (bytes : List ℕ) → 136 ≤ length bytes → take 8 bytes ≡ magic → number_at 4 8 bytes ≡ 2 → first_bad (settings_in bytes) ≡ None → size_in bytes ≤ (settings_in bytes).log_size → kept_digest bytes ≡ head_digest bytes → head_fault bytes ≡ None
unfolding head_fault
faultless bytes long begins version ranges within digest =
    rw (
      le-ltb (length bytes) 124 (omega (arith, long)),
      (bytes_eq-Decides (take 8 bytes) magic).1 begins,
      eq-eqb _ _ version,
      le-ltb (length bytes) 136 long,
      ranges,
      le-ltb (settings_in bytes).log_size (size_in bytes) within,
      (bytes_eq-Decides (kept_digest bytes) (head_digest bytes)).1 digest,
    ) refl

pub no_fault_again : AreRead → HaveTheirWidth → AreNotBad → (c : Content) → IsContent c → head_fault (file_bytes2 c) ≡ None
no_fault_again read long good c is =
    let a = content_again read c is in
    let p = placed long c is in
    let settings : settings_in (file_bytes2 c) ≡ c.head.settings = ap (λ (h : Head). h.settings) a.head in
    faultless (file_bytes2 c) p.enough a.begins a.version (ap first_bad settings ∙ good c.head.settings is.settings) (omega (arith, a.n_is, ap (λ (s : RawSettings). s.log_size) settings, is.bound)) (p.kept ∙ sym (ap sha256 p.head_is))
