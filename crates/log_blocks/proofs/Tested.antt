-- What a head without a fault says.
use Rattle.log_blocks.proofs.Common.{◌≡◌, ℕ, ◌≤◌, true, not, eqb, ltb, List, length, take, Some, None, Ok, sym, ap, arith, ◌≢◌, bytes_eq, eqb-true, eq-eqb, ltb-false, RawSettings, first_bad, checked, number_at, FileError, Short, BadMagic, BadVersion, BadHead, DigestDiffers, OutOfMemory, magic, settings_in, size_in, kept_digest, head_digest, later_fault, head_fault, le-ltb}
use Rattle.log_file.proofs.Causes.{none_some, passed, under, settings_passed, same_bytes, told, chosen, setting_named}

pub record Passed (bytes : List ℕ) : Type 0 where
  pub long : 136 ≤ length bytes
  pub begins : take 8 bytes ≡ magic
  pub version : number_at 4 8 bytes ≡ 2
  pub settings : first_bad (settings_in bytes) ≡ None
  pub within : size_in bytes ≤ (settings_in bytes).log_size
  pub digest : kept_digest bytes ≡ head_digest bytes

pub no_fault : (bytes : List ℕ) → head_fault bytes ≡ None → Passed bytes
unfolding head_fault
no_fault bytes h =
    let l = under (ltb (length bytes) 124) (Short (length bytes)) _ h in
    let a = passed (bytes_eq (take 8 bytes) magic) BadMagic _ l.1 in
    let b = passed (eqb (number_at 4 8 bytes) 2) (BadVersion (number_at 4 8 bytes)) _ a.1 in
    let m = under (ltb (length bytes) 136) (Short (length bytes)) _ b.1 in
    let c = settings_passed (first_bad (settings_in bytes)) _ m.1 in
    let w = under (ltb (settings_in bytes).log_size (size_in bytes)) (BadHead 9 (size_in bytes)) _ c.1 in
    let d = passed (bytes_eq (kept_digest bytes) (head_digest bytes)) (DigestDiffers (kept_digest bytes) (head_digest bytes)) None w.1 in
    record { long = ltb-false _ _ m.0; begins = same_bytes _ _ a.0; version = eqb-true _ _ b.0; settings = c.0; within = ltb-false _ _ w.0; digest = same_bytes _ _ d.0 }

-- if the tests of the settings hold, and those before, the fault is one after them
pub fault_behind : (bytes : List ℕ) (s : RawSettings) → 136 ≤ length bytes → bytes_eq (take 8 bytes) magic ≡ true → number_at 4 8 bytes ≡ 2 → checked (settings_in bytes) ≡ Ok s → head_fault bytes ≡ later_fault bytes s.log_size
unfolding head_fault
fault_behind bytes s long begins version known =
    let t = told (settings_in bytes) s known in
    rw (le-ltb (length bytes) 124 (omega (arith, long)), begins, eq-eqb _ _ version, le-ltb (length bytes) 136 long, t.1) (ap (λ (x : RawSettings). later_fault bytes x.log_size) (sym t.0))

-- the blocks' records have at most log-size bytes, if there are at most as many as the head says
pub size_bound : (bytes : List ℕ) (settings : RawSettings) (n size : ℕ) → head_fault bytes ≡ None → settings ≡ settings_in bytes → n ≡ size_in bytes → size ≤ n → size ≤ settings.log_size
size_bound bytes settings n size h is n_is le = omega (arith, (no_fault bytes h).within, ap (λ (s : RawSettings). s.log_size) is, n_is, le)

-- ---- no fault of a head is `OutOfMemory`

pub head-named : (bytes : List ℕ) (e : FileError) → head_fault bytes ≡ Some e → e ≢ OutOfMemory
unfolding head_fault
head-named bytes e h =
    chosen (ltb (length bytes) 124) (Short (length bytes)) e _ (λ x. grind (arith, x))
    (λ l. chosen (not (bytes_eq (take 8 bytes) magic)) BadMagic e _ (λ x. grind (arith, x))
    (λ a. chosen (not (eqb (number_at 4 8 bytes) 2)) (BadVersion (number_at 4 8 bytes)) e _ (λ x. grind (arith, x))
    (λ b. chosen (ltb (length bytes) 136) (Short (length bytes)) e _ (λ x. grind (arith, x))
    (λ m. setting_named (first_bad (settings_in bytes)) e _
    (λ c. chosen (ltb (settings_in bytes).log_size (size_in bytes)) (BadHead 9 (size_in bytes)) e _ (λ x. grind (arith, x))
    (λ d. chosen (not (bytes_eq (kept_digest bytes) (head_digest bytes))) (DigestDiffers (kept_digest bytes) (head_digest bytes)) e None (λ x. grind (arith, x)) (λ s. none_some e s) d) c) m) b) a) l) h
