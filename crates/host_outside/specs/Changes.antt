-- The changes of files' names and lengths, as they are noted.
use Rattle.std.specs.Prelude.{◌≡◌, ℕ, Bool, List, Result, IfOk, IsTrue, OnOk}
use Rattle.std.specs.declared.fs.attrs.Metadata.{Metadata}
use Rattle.host_outside.specs.Kinds.{IsRegular}

-- a change that was done
pub data FileChange : Type 0 where
  -- the file of one name has another one too, or instead
  Names : (from to : List ℕ) → FileChange
  -- an open file has no bytes any more
  Empties : FileChange

-- how changes are noted: the number so far, the change, and the number after it
abbrev pub ChangeNote : Type 0
ChangeNote = ℕ → FileChange → ℕ

-- of all changes that are noted this is the last
abbrev pub IsLast : ChangeNote → (noted : ℕ) → FileChange → Type 0
IsLast note noted change = (before : ℕ) × (noted ≡ note before change)

-- a save by a new file that is done, and not refused or left undone, gave that file the name last
abbrev pub NamedIf : {E : Type 0} → ChangeNote → (noted : ℕ) → (from to : List ℕ) → Result Bool E → Type 0
NamedIf note noted from to result = IfOk result (λ done. IsTrue done → IsLast note noted (Names from to))

-- the same, whatever name the new file was made with
abbrev pub GotNameIf : {E : Type 0} → ChangeNote → (noted : ℕ) → (to : List ℕ) → Result Bool E → Type 0
GotNameIf note noted to result = IfOk result (λ done. IsTrue done → (from : List ℕ) × IsLast note noted (Names from to))

-- a save in place that is done emptied the file last, if that is a regular one
abbrev pub EmptiedIf : {T E : Type 0} → ChangeNote → (noted : ℕ) → Metadata → Result T E → Type 0
EmptiedIf note noted metadata result = OnOk result (IsRegular metadata → IsLast note noted Empties)
