-- What an answer says of a file's bytes.
use Rattle.std.specs.Prelude.{◌≡◌, ◌<◌, ◌↔◌, ◌⊎◌, ℕ, List, length, Bool, Option, IfOk, IfSome, Result, Ok, Err, IsFalse, IsTrue, Vec, ⊤}
use Rattle.std.specs.List.{Contains}
use Rattle.std.specs.Io.KnownBytes.{Appends}
use Rattle.std.specs.IoError.{error_kind}
use Rattle.std.specs.declared.io.Error.{Error}
use Rattle.std.specs.declared.io.ErrorKind.{ErrorKind}
use Rattle.std.specs.declared.io.ErrorKind.TheVariants as kind
use Rattle.bn_outside.specs.declared.store.LoadError.{LoadError}
use Rattle.bn_outside.specs.declared.store.LoadError.TheVariants as load
use Rattle.host_outside.specs.declared.opened.Opened.{Opened}
use Rattle.host_outside.specs.declared.spared_files.FileId.{FileId}

-- what the load of an open file says of the bytes that its reader had left: these are all, or more than the limit, or some. An
-- open file isn't missing
abbrev pub FileTells : {A : Type 0} → Option (List ℕ) → ℕ → Result (Vec ℕ A) LoadError → Type 0
FileTells there limit (Ok bytes) = IfSome there (λ left. bytes.items ≡ left)
FileTells there limit (Err load.Missing) = ⊥
FileTells there limit (Err load.TooLong) = IfSome there (λ left. limit < length left)
FileTells there limit (Err load.Failed) = ⊤
FileTells there limit (Err load.OutOfMemory) = IfSome there (λ left. 0 < length left)

-- a load tells an error of this kind so: only a name that isn't there is missing
abbrev pub IsToldAs : ErrorKind → LoadError → Type 0
IsToldAs k e = ((e ≡ load.Missing) ↔ (k ≡ kind.NotFound)) × ((e ≡ load.OutOfMemory) ↔ (k ≡ kind.OutOfMemory))

-- a file is spared, unless it is a terminal or a pipe
abbrev pub IsSpared : {F : Type 0} → List FileId → Opened F → Type 0
IsSpared spared o = IsFalse o.is_stream → Contains spared o.id

-- what a try to open a file comes to, if it is to be loaded: its error is told, or the file is spared, for which memory can run out
abbrev pub OpensToLoad : {F : Type 0} → List FileId → Result (Opened F) Error → Result (Opened F) LoadError → Type 0
OpensToLoad spared (Err x) (Err e) = IsToldAs (error_kind x) e
OpensToLoad spared (Err x) (Ok o) = ⊥
OpensToLoad spared (Ok w) (Err e) = e ≡ load.OutOfMemory
OpensToLoad spared (Ok w) (Ok o) = (o ≡ w) × IsSpared spared w

-- what a load answers by a try to open a file: its error is told; or the file is spared, and its bytes are told; or memory ran
-- out
abbrev pub AnswersTry : {F A : Type 0} → (F → Option (List ℕ)) → ℕ → List FileId → Result (Opened F) Error → Result (Vec ℕ A) LoadError → Type 0
AnswersTry remaining limit spared (Err x) (Err e) = IsToldAs (error_kind x) e
AnswersTry remaining limit spared (Err x) (Ok bytes) = ⊥
AnswersTry remaining limit spared (Ok w) result = (result ≡ Err load.OutOfMemory) ⊎ (IsSpared spared w × FileTells (remaining w.file) limit result)

-- the answer is that of some try to open a file
pub record AnswersSomeTry {F A : Type 0} (remaining : F → Option (List ℕ)) (limit : ℕ) (spared : List FileId) (result : Result (Vec ℕ A) LoadError) : Type 0 where
  pub tried : Result (Opened F) Error
  pub answers : AnswersTry remaining limit spared tried result

-- some open file was given the bytes, and is spared
pub record WroteSome {F : Type 0} (contents : F → Option (List ℕ)) (bytes : List ℕ) (spared : List FileId) : Type 0 where
  pub before : Opened F
  pub after : F
  pub written : Appends (contents before.file) (contents after) bytes
  pub is_spared : IsSpared spared before

-- a save that is done, and not refused or left undone, wrote a file
abbrev pub WroteIf : {F E : Type 0} → (F → Option (List ℕ)) → List ℕ → List FileId → Result Bool E → Type 0
WroteIf contents bytes spared result = IfOk result (λ done. IsTrue done → WroteSome contents bytes spared)
