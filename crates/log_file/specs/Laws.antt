-- Laws of files and logs, by their names.
use Rattle.std.specs.Prelude.{◌≡◌, ◌+◌, length, None}
use Rattle.log_file.specs.Common.{IsSetting, first_bad, RawSettings, total, Content, IsContent}
use Rattle.log_file.specs.declared.error.FileError.{FileError}
use Rattle.log_file.specs.declared.error.FileError.TheVariants.{OutOfMemory}
use Rattle.log_file.specs.Layout.{file_bytes, IsVersion1}
use Rattle.log_file.specs.File.{IsRefusal}

-- settings in range have no bad one
abbrev pub AreNotBad : Type 0
AreNotBad = (s : RawSettings) → IsSetting s → first_bad s ≡ None

-- no file says two things
abbrev pub SayOneThing : Type 0
SayOneThing = (c d : Content) → IsVersion1 c → IsVersion1 d → file_bytes c ≡ file_bytes d → c ≡ d

-- bytes that are a log's have no cause for a refusal
abbrev pub AreNotRefused : Type 0
AreNotRefused = (c : Content) → IsVersion1 c → (e : FileError) → IsRefusal (file_bytes c) e → e ≡ OutOfMemory

-- a file has 124 bytes beside those of its records: the head of 92, and the digest of 32 at its end
abbrev pub HaveTheirSize : Type 0
HaveTheirSize = (c : Content) → IsContent c → length (file_bytes c) ≡ total c.records + 124
