-- Bytes are a log's, or there is a cause to refuse them.
use Rattle.log_file.proofs.Common.{◌≡◌, ◌≢◌, ◌≤◌, ◌-◌, ◌+◌, ℕ, not, eqb, ltb, List, length, take, drop, Option, Some, None, ◌∙◌, ap, sym, refl, arith, inl, inr, ◌⊎◌, bytes_eq, ltb-false, take-append-drop, get_or-drop, length-take, length-drop, sha256, first_bad, AreBytes, AreWritten as NumbersAreWritten, Fit, TellTheirSize, AreRead, OrderBreak, broken_by, Content, content, IsContent, head_fault, file_fault, signed_of, IsRefusal, head_in, dropped_in, settings_in, size_in, magic, file_bytes, IsVersion1, FileError, Short, BadMagic, BadVersion, BadHead, LengthDiffers, DigestDiffers, BadRecord, BadOrder, OutOfMemory, number_at}
use Rattle.log_record.specs.Laws.{AreWritten}
use Rattle.log_file.specs.Readings.{AreReadOrRefused}
use Rattle.log_file.proofs.Heads.{no_fault, is_file, front_bytes}
use Rattle.log_file.proofs.Causes.{none_some, under, chosen, setting_named}
use Rattle.log_file.proofs.Parted.{Parted, Stuck, parted}

-- ---- what is wrong up to the records

pub head-named : (signed kept : List ℕ) (e : FileError) → head_fault signed kept ≡ Some e → e ≢ OutOfMemory
unfolding head_fault
head-named signed kept e h =
    chosen (not (bytes_eq (take 8 signed) magic)) BadMagic e _ (λ x. grind (arith, x))
    (λ a. chosen (not (eqb (number_at 4 8 signed) 1)) (BadVersion (number_at 4 8 signed)) e _ (λ x. grind (arith, x))
    (λ b. setting_named (first_bad (settings_in signed)) e _
    (λ c. chosen (ltb (settings_in signed).log_size (size_in signed)) (BadHead 9 (size_in signed)) e _ (λ x. grind (arith, x))
    (λ d. chosen (not (eqb (size_in signed) (length signed - 92))) (LengthDiffers (size_in signed) (length signed - 92)) e _ (λ x. grind (arith, x))
    (λ f. chosen (not (bytes_eq kept (sha256 signed))) (DigestDiffers kept (sha256 signed)) e None (λ x. grind (arith, x)) (λ s. none_some e s) f) d) c) b) a) h

file-named : (bytes : List ℕ) (e : FileError) → file_fault bytes ≡ Some e → e ≢ OutOfMemory
file-named bytes e h =
    chosen (ltb (length bytes) 124) (Short (length bytes)) e (head_fault (signed_of bytes) (drop (length bytes - 32) bytes)) (λ x. grind (arith, x)) (head-named (signed_of bytes) (drop (length bytes - 32) bytes) e) h

-- ---- files

abbrev Verdict : List ℕ → Type 0
Verdict bytes = ((d : Content) × IsVersion1 d × (bytes ≡ file_bytes d)) ⊎ ((e : FileError) × IsRefusal bytes e × (e ≢ OutOfMemory))

pub decided : TellTheirSize → AreWritten → AreRead → NumbersAreWritten → Fit → AreReadOrRefused
decided tell written read numbers_written fit tests bytes are = by (file_fault bytes) refl
  where
    signed : List ℕ
    signed = signed_of bytes

    kept : List ℕ
    kept = drop (length bytes - 32) bytes

    ordered : (o : Option OrderBreak) (s : Parted 1 (drop 92 signed)) → broken_by (settings_in signed) (dropped_in signed) s.records ≡ o → file_fault bytes ≡ None → (124 ≤ length bytes) → head_fault signed kept ≡ None → AreBytes signed → Verdict bytes
    ordered (Some b) s e none long h are_signed = inr (BadOrder b.at b.rule, inr (none, record { records = s.records; fit = s.fit; parts = s.parts; first = e }), λ x. grind (arith, x))
    ordered None s e none long h are_signed =
        let p = no_fault signed kept h in
        let d = content (head_in signed) (dropped_in signed) s.records in
        let size : length signed ≡ length bytes - 32 = length-take (length bytes - 32) bytes ∙ omega arith in
        let long_signed : 92 ≤ length signed = omega (arith, size, long) in
        let is : IsContent d = record {
          settings = tests (settings_in signed) p.settings;
          digest = length-take 32 (drop 48 signed) ∙ omega (arith, length-drop 48 signed, long_signed);
          dropped = fit 8 80 signed are_signed;
          fit = s.fit;
          bound = omega (arith, p.within, p.size, length-drop 92 signed, ap (λ (t : List ℕ). length t) s.parts);
          order = e;
        } in
        inl (d, (is, refl), sym (take-append-drop (length bytes - 32) bytes) ∙ is_file numbers_written signed kept d are_signed long_signed h (record { head = refl; dropped = refl; records = s.parts }))

    by_parts : Parted 1 (drop 92 signed) ⊎ Stuck 1 (drop 92 signed) → file_fault bytes ≡ None → (124 ≤ length bytes) → head_fault signed kept ≡ None → AreBytes signed → Verdict bytes
    by_parts (inl s) none long h are_signed = ordered (broken_by (settings_in signed) (dropped_in signed) s.records) s refl none long h are_signed
    by_parts (inr s) none long h are_signed = inr (BadRecord s.place, inr (none, s.none), λ x. grind (arith, x))

    by : (o : Option FileError) → file_fault bytes ≡ o → Verdict bytes
    by (Some e) is = inr (e, inl is, file-named bytes e is)
    by None is =
        let u = under (ltb (length bytes) 124) (Short (length bytes)) (head_fault signed kept) is in
        let are_signed : AreBytes signed = front_bytes bytes signed kept (sym (take-append-drop (length bytes - 32) bytes)) are in
        let are_rest : AreBytes (drop 92 signed) = λ i. rw get_or-drop (are_signed (92 + i)) in
        by_parts (parted tell written read 1 (length (drop 92 signed)) (drop 92 signed) are_rest (omega arith)) is (ltb-false _ _ u.0) u.1 are_signed
