-- What a load answers by a try to open a file, and what a save does.
use Rattle.std.proofs.Common.{ℕ, List, Option, ap, subst, sym, inl, inr}
use Rattle.std.specs.Prelude.{◌≡◌, Bool, Result, Ok, Err, IfOk, Vec}
use Rattle.std.specs.List.{Contains}
use Rattle.std.specs.Io.KnownBytes.{Appends}
use Rattle.std.specs.declared.io.Error.{Error}
use Rattle.bn_outside.specs.declared.store.LoadError.{LoadError}
use Rattle.host_outside.specs.declared.opened.Opened.{Opened}
use Rattle.host_outside.specs.declared.spared_files.FileId.{FileId}
use Rattle.host_outside.specs.Answers.{AnswersTry, FileTells, IsSpared, OpensToLoad, WroteIf}
use Rattle.host_outside.specs.Changes.{ChangeNote, NamedIf, GotNameIf}

-- what could not be opened, or not be remembered, is told as it was
pub no_file : {F : Type 0} (A : Type 0) (remaining : F → Option (List ℕ)) (limit : ℕ) (spared : List FileId) (tried : Result (Opened F) Error) (e : LoadError) → OpensToLoad spared tried (Err e) → AnswersTry {F = F} {A = A} remaining limit spared tried (Err e)
no_file A remaining limit spared (Err x) e told = told
no_file A remaining limit spared (Ok w) e told = inl (ap Err told)

-- a file that was opened and remembered is read
pub a_file : {F A : Type 0} (remaining : F → Option (List ℕ)) (limit : ℕ) (spared : List FileId) (tried : Result (Opened F) Error) (o : Opened F) (result : Result (Vec ℕ A) LoadError) → OpensToLoad spared tried (Ok o) → FileTells (remaining o.file) limit result → AnswersTry remaining limit spared tried result
a_file remaining limit spared (Err x) o result opened told = absurd opened
a_file remaining limit spared (Ok w) o result opened told = inr (opened.1, subst (λ v. FileTells (remaining v.file) limit result) opened.0 told)

-- the file that is read is spared
pub is_spared : {F : Type 0} (spared : List FileId) (tried : Result (Opened F) Error) (o : Opened F) → OpensToLoad spared tried (Ok o) → IsSpared spared o
is_spared spared (Err x) o opened = absurd opened
is_spared spared (Ok w) o opened = subst (λ v. IsSpared spared v) (sym opened.0) opened.1

-- a file that was written and remembered is one that was given the bytes, whatever else is then answered
pub wrote : {F E : Type 0} (contents : F → Option (List ℕ)) (bytes : List ℕ) (spared : List FileId) (result : Result Bool E) (before : Opened F) (after : F) → Appends (contents before.file) (contents after) bytes → Contains spared before.id → WroteIf contents bytes spared result
wrote contents bytes spared (Ok done) before after written has = λ _. record { before = before; after = after; written = written; is_spared = λ _. has }
wrote contents bytes spared (Err e) before after written has = tt

-- a name is told as given only if it was
pub settled : {E F : Type 0} (note : ChangeNote) (noted : ℕ) (from to : List ℕ) (named : Result Bool E) (result : Result Bool F) → NamedIf note noted from to named → IfOk result (λ done. named ≡ Ok done) → NamedIf note noted from to result
settled note noted from to named (Ok done) has same = subst (λ r. NamedIf note noted from to r) same has
settled note noted from to named (Err e) has same = tt

-- a new file got the name, whatever its own one was
pub got_name : {E : Type 0} (note : ChangeNote) (noted : ℕ) (from to : List ℕ) (result : Result Bool E) → NamedIf note noted from to result → GotNameIf note noted to result
got_name note noted from to (Ok done) named = λ is. (from, named is)
got_name note noted from to (Err e) named = tt
