-- A head without a fault is the one that is written of what it says.
use Rattle.log_blocks.proofs.Common.{◌≡◌, ℕ, ◌≤◌, List, ◌++◌, length, take, drop, length-append, append_assoc, sym, ap, ap₂, ◌∙◌, arith, drop-drop, take-append-drop, number_at, number_bytes, AreBytes, AreWritten, Head, magic, settings_bytes, head_bytes2, head_in, dropped_in, size_in, head_digest, blocks_in, RawSettings, settings_in}
use Rattle.log_file.proofs.Shared.{begun_by, ended_by, begun_is, field, begun_parts, ended_parts}
use Rattle.log_blocks.proofs.Bytes.{same_front}
use Rattle.log_blocks.proofs.Tested.{Passed}

-- the format, the second level, and what stands after the settings
abbrev pub later_by : RawSettings → List ℕ → List ℕ
later_by s rest = number_bytes 4 s.format ++ (number_bytes 4 s.sets2 ++ (number_bytes 4 s.ways2 ++ rest))

-- the bytes from the front, grouped to the right
abbrev pub spelled : Head → ℕ → ℕ → List ℕ → List ℕ
spelled h dropped n rest = begun_by 2 h.settings (later_by h.settings (ended_by h.digest dropped n rest))

regroup_end : (a f s w d r n b : List ℕ) → (a ++ f ++ s ++ w ++ d ++ r ++ n) ++ b ≡ a ++ (f ++ (s ++ (w ++ (d ++ (r ++ (n ++ b))))))
regroup_end a f s w d r n b = simp append_assoc

pub head_is_spelled : (h : Head) (dropped n : ℕ) (rest : List ℕ) → head_bytes2 h dropped n ++ rest ≡ spelled h dropped n rest
unfolding head_bytes2
head_is_spelled h dropped n rest =
    let s = h.settings in
    regroup_end (settings_bytes 2 s) (number_bytes 4 s.format) (number_bytes 4 s.sets2) (number_bytes 4 s.ways2) h.digest (number_bytes 8 dropped) (number_bytes 4 n) rest
    ∙ begun_is 2 s (later_by s (ended_by h.digest dropped n rest))

-- bytes with the right beginning are a head's, and those after it
pub head_parts : AreWritten → (bytes : List ℕ) → AreBytes bytes → 104 ≤ length bytes → take 8 bytes ≡ magic → number_at 4 8 bytes ≡ 2 → bytes ≡ spelled (head_in bytes) (dropped_in bytes) (size_in bytes) (drop 104 bytes)
unfolding begun_by
head_parts written bytes are long begins version =
    let t60 = ended_parts written bytes are 60 (omega (arith, long)) in
    let t56 = field 4 (number_at 4 56 bytes) (drop 56 bytes) (drop 60 bytes) (written 4 56 bytes are (omega (arith, long))) _ t60 in
    let t52 = field 4 (number_at 4 52 bytes) (drop 52 bytes) (drop 56 bytes) (written 4 52 bytes are (omega (arith, long))) _ t56 in
    let t48 = field 4 (number_at 4 48 bytes) (drop 48 bytes) (drop 52 bytes) (written 4 48 bytes are (omega (arith, long))) _ t52 in
    begun_parts written bytes are 2 (omega (arith, long)) begins version ∙ ap (begun_by 2 (settings_in bytes)) t48

cancel : (xs ys zs : List ℕ) → xs ++ zs ≡ ys ++ zs → xs ≡ ys
cancel xs ys zs e = same_front xs ys zs zs e (omega (arith, ap length e, length-append xs zs, length-append ys zs))

-- the head's bytes are those that are written of what it says
pub head_written : AreWritten → (bytes : List ℕ) → AreBytes bytes → Passed bytes → take 104 bytes ≡ head_bytes2 (head_in bytes) (dropped_in bytes) (size_in bytes)
head_written written bytes are p =
    cancel (take 104 bytes) (head_bytes2 (head_in bytes) (dropped_in bytes) (size_in bytes)) (drop 104 bytes) (
    take-append-drop 104 bytes ∙ head_parts written bytes are (omega (arith, p.long)) p.begins p.version ∙ sym (head_is_spelled (head_in bytes) (dropped_in bytes) (size_in bytes) (drop 104 bytes)))

-- a file is its head, the head's digest, and the blocks
pub file_parts : AreWritten → (bytes : List ℕ) → AreBytes bytes → Passed bytes → bytes ≡ head_bytes2 (head_in bytes) (dropped_in bytes) (size_in bytes) ++ head_digest bytes ++ blocks_in bytes
file_parts written bytes are p =
    let digest : drop 104 bytes ≡ head_digest bytes ++ blocks_in bytes = sym (take-append-drop 32 (drop 104 bytes)) ∙ ap₂ (λ (x y : List ℕ). x ++ y) p.digest (drop-drop 32 104 bytes) in
    sym (take-append-drop 104 bytes) ∙ ap₂ (λ (x y : List ℕ). x ++ y) (head_written written bytes are p) digest ∙ sym (append_assoc (head_bytes2 (head_in bytes) (dropped_in bytes) (size_in bytes)) (head_digest bytes) (blocks_in bytes))
