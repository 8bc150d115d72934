use Rattle.run_files.proofs.Common.{◌≡◌, ℕ, true, false, List, [], ◌++◌, append_assoc, append-nil, refl, sym, ◌∙◌, ap, RawSettings, Content, magic, settings_bytes, signed_bytes, head_bytes2, file_bytes, file_bytes2, is_version2, FilesNumberTheirVersion}
use Rattle.le_numbers.specs.Numbers.{number_bytes}
use Rattle.run_files.proofs.laws.files_number_their_version.Goals as goal

-- The number of its version stands in the bytes 8 to 11 of a log file.

-- the bytes begin with those of each log file, and the number of a version
record Begins (version : ℕ) (bytes : List ℕ) : Type 0 where
  rest : List ℕ
  parts : bytes ≡ magic ++ (number_bytes 4 version ++ rest)

alone : (version : ℕ) → Begins version (magic ++ number_bytes 4 version)
alone version = record { rest = []; parts = ap (λ (bytes : List ℕ). magic ++ bytes) (sym (append-nil (number_bytes 4 version))) }

-- and so they do with more bytes after them
more : (version : ℕ) (bytes behind : List ℕ) → Begins version bytes → Begins version (bytes ++ behind)
more version bytes behind b = record {
  rest = b.rest ++ behind;
  parts = ap (λ (front : List ℕ). front ++ behind) b.parts ∙ append_assoc magic (number_bytes 4 version ++ b.rest) behind
      ∙ ap (λ (tail : List ℕ). magic ++ tail) (append_assoc (number_bytes 4 version) b.rest behind);
}

settings-begin : (version : ℕ) (s : RawSettings) → Begins version (settings_bytes version s)
unfolding settings_bytes
settings-begin version s =
    more version _ _ (more version _ _ (more version _ _ (more version _ _ (more version _ _ (more version _ _ (more version _ _ (more version _ _ (alone version))))))))

first-begins : (d : Content) → Begins 1 (file_bytes d)
unfolding signed_bytes
first-begins d = more 1 _ _ (more 1 _ _ (more 1 _ _ (more 1 _ _ (more 1 _ _ (settings-begin 1 d.head.settings)))))

second-begins : (d : Content) → Begins 2 (file_bytes2 d)
unfolding head_bytes2
second-begins d =
    more 2 _ _ (more 2 _ _ (more 2 _ _ (more 2 _ _ (more 2 _ _ (more 2 _ _ (more 2 _ _ (more 2 _ _ (settings-begin 2 d.head.settings))))))))

number-2 : (rest : List ℕ) → is_version2 (magic ++ (number_bytes 4 2 ++ rest)) ≡ true
unfolding magic number_bytes
number-2 rest = refl

number-1 : (rest : List ℕ) → is_version2 (magic ++ (number_bytes 4 1 ++ rest)) ≡ false
unfolding magic number_bytes
number-1 rest = refl

numbered : FilesNumberTheirVersion
numbered d =
    let first = first-begins d in
    let second = second-begins d in (
      ap (λ (log : List ℕ). is_version2 log) second.parts ∙ number-2 second.rest,
      ap (λ (log : List ℕ). is_version2 log) first.parts ∙ number-1 first.rest,
    )

pub returns : goal.returns
returns c = numbered
