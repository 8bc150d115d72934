use Rattle.run_files.proofs.Common.{◌≡◌, ◌+◌, ◌∙◌, ℕ, List, ◌++◌, length, take, drop, take-append-drop, sym, ap, subst, arith, sealed, IsSealed, sha256}
use Rattle.run_files.proofs.auditing.compare_unsealed.Goals as goal

-- a log that ends with its digest is the file, if it begins with the bytes that the file has before its own
sealed_alike : (log file : List ℕ) → IsSealed log → length log ≡ length file + 32 → take (length file) log ≡ file → log ≡ sealed file
sealed_alike log file s n same =
    let at : s.size ≡ length file = omega (arith, s.rest, n) in
    let digest : drop (length file) log ≡ sha256 (take (length file) log) = subst (λ (m : ℕ). drop m log ≡ sha256 (take m log)) at s.digest in
    sym (take-append-drop (length file) log) ∙ ap (λ (t : List ℕ). t ++ drop (length file) log) same ∙ ap (λ (t : List ℕ). file ++ t) (digest ∙ ap sha256 same)

pub returns-then-begins_with : goal.returns-then-begins_with
returns-then-begins_with c =
    let bytes : c.deref.result.now ≡ c.args.file.now.items = c.deref.ensures.value in
    let begins = c.begins_with.ensures c.if-begins_with.true in
    sealed_alike c.args.log.now c.args.file.now.items (c.requires c.if-is_sealed.true) (begins.0 ∙ ap (λ (xs : List ℕ). length xs + 32) bytes) (subst (λ (xs : List ℕ). take (length xs) c.args.log.now ≡ xs) bytes begins.1)
