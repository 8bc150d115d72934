-- What a head without a fault says.
use Rattle.log_file.proofs.Common.{◌≡◌, ℕ, ◌-◌, ◌<◌, ◌≤◌, true, eqb, ltb, List, ◌++◌, length, take, drop, length-drop, Ok, None, inl, inr, sym, ap, subst, ◌∙◌, append_assoc, arith, slice_index, flat_map, bytes_eq, eqb-true, eq-eqb, ltb-false, get_or_append_left, get_or_past, sha256, RawSettings, first_bad, checked, number_at, number_bytes, AreBytes, AreWritten, Head, bytes_of, Content, BadMagic, BadVersion, BadHead, LengthDiffers, DigestDiffers, magic, settings_bytes, signed_bytes, settings_in, head_in, dropped_in, size_in, file_bytes, later_fault, head_fault, HasFields, digest_in}
use Rattle.std.proofs.lemmas.Bool.{cases_lt}
use Rattle.log_file.proofs.Causes.{passed, under, settings_passed, same_bytes, told}
use Rattle.log_file.proofs.Shared.{begun_by, ended_by, begun_is, begun_parts, ended_parts}

regroup_end : (a d r n b : List ℕ) → a ++ d ++ r ++ n ++ b ≡ a ++ (d ++ (r ++ (n ++ b)))
regroup_end a d r n b = simp append_assoc

-- the bytes before the last digest, grouped from their front
pub signed_is_spelled : (h : Head) (dropped : ℕ) (records : List ℕ) → signed_bytes h dropped records ≡ begun_by 1 h.settings (ended_by h.digest dropped (length records) records)
unfolding signed_bytes
signed_is_spelled h dropped records =
    regroup_end (settings_bytes 1 h.settings) h.digest (number_bytes 8 dropped) (number_bytes 4 (length records)) records ∙ begun_is 1 h.settings (ended_by h.digest dropped (length records) records)

-- what the bytes have if there is no fault
pub record Passed (signed kept : List ℕ) : Type 0 where
  pub begins : take 8 signed ≡ magic
  pub version : number_at 4 8 signed ≡ 1
  pub settings : first_bad (settings_in signed) ≡ None
  pub within : size_in signed ≤ (settings_in signed).log_size
  pub size : size_in signed ≡ length signed - 92
  pub digest : kept ≡ sha256 signed

pub no_fault : (signed kept : List ℕ) → head_fault signed kept ≡ None → Passed signed kept
unfolding head_fault
no_fault signed kept h =
    let a = passed (bytes_eq (take 8 signed) magic) BadMagic _ h in
    let b = passed (eqb (number_at 4 8 signed) 1) (BadVersion (number_at 4 8 signed)) _ a.1 in
    let c = settings_passed (first_bad (settings_in signed)) _ b.1 in
    let w = under (ltb (settings_in signed).log_size (size_in signed)) (BadHead 9 (size_in signed)) _ c.1 in
    let d = passed (eqb (size_in signed) (length signed - 92)) (LengthDiffers (size_in signed) (length signed - 92)) _ w.1 in
    let e = passed (bytes_eq kept (sha256 signed)) (DigestDiffers kept (sha256 signed)) None d.1 in
    record { begins = same_bytes _ _ a.0; version = eqb-true _ _ b.0; settings = c.0; within = ltb-false _ _ w.0; size = eqb-true _ _ d.0; digest = same_bytes _ _ e.0 }

-- if all tests hold, there is no fault
pub fault_none : (signed kept : List ℕ) (s : RawSettings) → bytes_eq (take 8 signed) magic ≡ true → number_at 4 8 signed ≡ 1 → checked (settings_in signed) ≡ Ok s → later_fault signed kept s.log_size ≡ None
    → (s ≡ settings_in signed) × (head_fault signed kept ≡ None)
unfolding head_fault
fault_none signed kept s begins version known later =
    let t = told (settings_in signed) s known in
    (t.0, rw (begins, eq-eqb _ _ version, t.1) (subst (λ (x : RawSettings). later_fault signed kept x.log_size ≡ None) t.0 later))

-- the bytes of a head without a fault are those that are written for it
pub signed_is : AreWritten → (signed kept : List ℕ) → AreBytes signed → 92 ≤ length signed → head_fault signed kept ≡ None → signed ≡ signed_bytes (head_in signed) (dropped_in signed) (drop 92 signed)
signed_is written signed kept are long h =
    let p = no_fault signed kept h in
    let n : size_in signed ≡ length (drop 92 signed) = p.size ∙ sym (length-drop 92 signed) in
    begun_parts written signed are 1 (omega (arith, long)) p.begins p.version ∙ ap (begun_by 1 (settings_in signed)) (ended_parts written signed are 48 (omega (arith, long)))
    ∙ ap (λ (k : ℕ). begun_by 1 (settings_in signed) (ended_by (digest_in signed) (dropped_in signed) k (drop 92 signed))) n ∙ sym (signed_is_spelled (head_in signed) (dropped_in signed) (drop 92 signed))

-- the records of a file without a fault in its head have at most log-size bytes
pub records_bound : (signed kept : List ℕ) (settings : RawSettings) → head_fault signed kept ≡ None → settings ≡ settings_in signed → length (drop 92 signed) ≤ settings.log_size
records_bound signed kept settings h is =
    let p = no_fault signed kept h in
    omega (arith, p.within, p.size, length-drop 92 signed, ap (λ (s : RawSettings). s.log_size) is)

-- the bytes of a file are the spelling of what stands at the places of its fields
pub is_file : AreWritten → (signed kept : List ℕ) (c : Content) → AreBytes signed → 92 ≤ length signed → head_fault signed kept ≡ None → HasFields signed c → signed ++ kept ≡ file_bytes c
is_file written signed kept c are long h has =
    let p = no_fault signed kept h in
    let whole : signed ≡ signed_bytes c.head c.dropped (flat_map bytes_of c.records) =
    signed_is written signed kept are long h ∙ ap (λ (x : Head). signed_bytes x (dropped_in signed) (drop 92 signed)) (sym has.head)
    ∙ ap (λ (d : ℕ). signed_bytes c.head d (drop 92 signed)) (sym has.dropped) ∙ ap (λ (t : List ℕ). signed_bytes c.head c.dropped t) has.records in
    ap (λ (k : List ℕ). signed ++ k) p.digest ∙ ap (λ (t : List ℕ). t ++ sha256 t) whole

pub front_bytes : (bytes signed kept : List ℕ) → bytes ≡ signed ++ kept → AreBytes bytes → AreBytes signed
front_bytes bytes signed kept parts are i =
    elim (cases_lt i (length signed)) [
      | inl lt ↦ subst (λ (n : ℕ). n < 256) (ap (λ (t : List ℕ). slice_index t i) parts ∙ get_or_append_left signed kept 0 i lt) (are i)
      | inr le ↦ rw (get_or_past signed i 0 le) (omega arith)
    ]
