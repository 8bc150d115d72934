-- Which calls a command makes of its store, in which order, and what it tells if one of them or what it loaded ends it.
use Rattle.std.specs.Prelude.{◌≡◌, ◌≢◌, ◌⊎◌, ℕ, Bool, true, false, List, [], ◌∷◌, ◌++◌, Option, Some, None, Result, Ok, Err}
use Rattle.log_commands.specs.Common.{Appends, Counts}
use Rattle.bn_outside.specs.StoreCalls.{StoreCall, LoadCall, SaveCall}
use Rattle.log_commands.specs.Names.{FileNames, name_of}
use Rattle.log_commands.specs.Inputs.{limit_of}
use Rattle.log_commands.specs.Outside.{RefusalCause, ToldRefusal, saved_of, saved_new}
use Rattle.log_commands.specs.Effects.{Call}
use Rattle.log_commands.specs.Told.{Saved}
use Rattle.log_commands.specs.declared.answer.Answer.{Answer}
use Rattle.log_commands.specs.declared.answer.Answer.TheVariants.{Recorded, Renewed}
use Rattle.log_commands.specs.declared.names.Role.{Role}
use Rattle.log_commands.specs.declared.names.Role.TheVariants as role
use Rattle.log_commands.specs.declared.refusal.Refusal.{Refusal}
use Rattle.log_commands.specs.declared.refusal.Refusal.TheVariants as why
use Rattle.log_commands.specs.Statuses.{code}
use Rattle.log_commands.specs.declared.status.Status.TheVariants as exit

-- ---- the calls

-- a load of the file in a role, or a save of bytes as that file
pub data FileCall : Type 0 where
  Loads : Role → FileCall
  Saves : Role → (bytes : List ℕ) → FileCall

-- the call that the store gets: by the file's name, a load with the most bytes that the file may have, and a save with its bytes
abbrev pub store_call : FileNames → FileCall → StoreCall
store_call names (Loads r) = LoadCall (name_of names r) (limit_of r)
store_call names (Saves r bytes) = SaveCall (name_of names r) bytes

-- how a store notes a call: the number that it had noted, the call, and the number after it
abbrev pub Note : Type 0
Note = ℕ → StoreCall → ℕ

-- what a store that notes each call by `note` has noted after these, the first of them first
abbrev pub noted_after : (note : Note) → FileNames → ℕ → List FileCall → ℕ
noted_after note names noted [] = noted
noted_after note names noted (made ∷ calls) = noted_after note names (note noted (store_call names made)) calls

-- a load for each role, in this order
abbrev pub loads_of : List Role → List FileCall
loads_of [] = []
loads_of (r ∷ roles) = Loads r ∷ loads_of roles

-- the save of a list of turns, if there is one
abbrev pub book_saves : Option (List ℕ) → List FileCall
book_saves None = []
book_saves (Some list) = Saves role.Book list ∷ []

-- the saves of what is to be saved: the log, and then the list of turns, if there is one
abbrev pub saves_of : Option Saved → List FileCall
saves_of None = []
saves_of (Some saved) = Saves role.Log saved.log ∷ book_saves saved.book

-- a save is among the calls
abbrev pub has_save : List FileCall → Bool
has_save [] = false
has_save (Loads r ∷ calls) = has_save calls
has_save (Saves r bytes ∷ calls) = true

-- ---- the calls of a line

-- LOG alone
abbrev pub log_roles : List Role
log_roles = role.Log ∷ []

-- ELF alone
abbrev pub elf_roles : List Role
elf_roles = role.Elf ∷ []

-- the log that another is made of
abbrev pub origin_roles : List Role
origin_roles = role.Origin ∷ []

-- the input, if there is one
abbrev pub input_roles : (has_input : Bool) → List Role
input_roles true = role.Input ∷ []
input_roles false = []

-- what a recording loads: ELF, and then the input, if there is one
abbrev pub record_roles : (has_input : Bool) → List Role
record_roles has_input = role.Elf ∷ input_roles has_input

-- what an answer saves
abbrev pub saved_in : Answer → Option Saved
saved_in (Recorded r) = Some (saved_of r)
saved_in (Renewed n) = Some (saved_new n.file.items)
saved_in answer = None

-- the saves of an answer
abbrev pub saves_in : Answer → List FileCall
saves_in answer = saves_of (saved_in answer)

-- ---- the call at which a command stops

-- the last of the calls that were made
abbrev pub EndsWith : (made : List FileCall) → FileCall → Type 0
EndsWith made last = (earlier : List FileCall) × (made ≡ earlier ++ last ∷ [])

-- the store refused the last call, a load, and the refusal names its file
abbrev pub StopsLoad : Refusal → (made : List FileCall) → Type 0
StopsLoad refusal made =
    (r : Role) × EndsWith made (Loads r)
    × ((refusal ≡ why.StoreFailed r) ⊎ ((refusal ≡ why.Missing r) ⊎ (refusal ≡ why.TooLong r)))

-- the same of a save
abbrev pub StopsSave : Refusal → (made : List FileCall) → Type 0
StopsSave refusal made = (r : Role) × (bytes : List ℕ) × EndsWith made (Saves r bytes) × (refusal ≡ why.StoreFailed r)

-- no refusal by a store, of words, of a write, or of the commands of a session
abbrev pub IsOfContent : Refusal → Type 0
IsOfContent refusal = (before now : Counts) → RefusalCause before now refusal

-- why a command stopped, and after which calls: out of memory; by the store, at the last of them; or by what the files
-- hold, and then all that is needed is loaded
abbrev pub StopsAt : (needed : List FileCall) → Refusal → (made : List FileCall) → Type 0
StopsAt needed refusal made =
    (refusal ≡ why.OutOfMemory)
    ⊎ (StopsLoad refusal made ⊎ (StopsSave refusal made ⊎ (IsOfContent refusal × (made ≡ needed))))

-- ---- a part of a command

-- its calls were made up to the one that stopped it
pub record LoadsUpTo (names : FileNames) (roles needed : List Role) (note : Note) (before after : ℕ) (refusal : Refusal)
    : Type 0 where
  pub made : List FileCall
  pub left : List FileCall
  pub parts : loads_of roles ≡ made ++ left
  pub noted : after ≡ noted_after note names before made
  pub at : StopsAt (loads_of needed) refusal made

-- all files in these roles were loaded, or it stopped
abbrev pub CallsTo : {A : Type 0} → FileNames → (roles needed : List Role) → (note : Note) → (before after : ℕ)
    → Result A Refusal → Type 0
CallsTo names roles needed note before after (Ok made) = after ≡ noted_after note names before (loads_of roles)
CallsTo names roles needed note before after (Err refusal) = LoadsUpTo names roles needed note before after refusal

-- the same, if what they hold is read after all loads
abbrev pub LoadsTo : {A : Type 0} → FileNames → (roles : List Role) → (note : Note) → (before after : ℕ)
    → Result A Refusal → Type 0
LoadsTo names roles note before after result = CallsTo names roles roles note before after result

-- the same of a command that tests its words first
abbrev pub CallsBy : {A : Type 0} → Option Refusal → FileNames → (roles needed : List Role) → (note : Note)
    → (before after : ℕ) → Result A Refusal → Type 0
CallsBy (Some refusal) names roles needed note before after result = after ≡ before
CallsBy None names roles needed note before after result = CallsTo names roles needed note before after result

-- why a load gave nothing
abbrev pub IsOfLoad : Role → Refusal → Type 0
IsOfLoad r refusal =
    (refusal ≡ why.OutOfMemory)
    ⊎ ((refusal ≡ why.StoreFailed r) ⊎ ((refusal ≡ why.Missing r) ⊎ (refusal ≡ why.TooLong r)))

-- why a save was refused: out of memory, or by the store, at the last of the calls
abbrev pub IsOfSave : Refusal → (made : List FileCall) → Type 0
IsOfSave refusal made = (refusal ≡ why.OutOfMemory) ⊎ StopsSave refusal made

-- saves were made up to the one that stopped it
pub record SavesUpTo (names : FileNames) (saves : List FileCall) (note : Note) (before after : ℕ) (refusal : Refusal)
    : Type 0 where
  pub made : List FileCall
  pub left : List FileCall
  pub parts : saves ≡ made ++ left
  pub noted : after ≡ noted_after note names before made
  pub at : IsOfSave refusal made

-- all saves were made, or it stopped
abbrev pub SavesTo : {A : Type 0} → FileNames → (saves : List FileCall) → (note : Note) → (before after : ℕ)
    → Result A Refusal → Type 0
SavesTo names saves note before after (Ok made) = after ≡ noted_after note names before saves
SavesTo names saves note before after (Err refusal) = SavesUpTo names saves note before after refusal

-- a refused save is told, and nothing is printed
pub record SaveRefused (names : FileNames) (made : List FileCall) (status : ℕ) (k : Call) : Type 0 where
  pub refusal : Refusal
  pub at : IsOfSave refusal made
  pub out : Appends k.old.out.text k.new.out.text []
  pub told : ToldRefusal names refusal status k.old.err.text k.new.err.text k.old.err.faults k.new.err.faults

-- the saves of an answer: all of them, or up to one that was refused
pub record SavesTold (names : FileNames) (saves : List FileCall) (status : ℕ) (note : Note) (before after : ℕ)
    (k : Call) : Type 0 where
  pub made : List FileCall
  pub left : List FileCall
  pub parts : saves ≡ made ++ left
  pub noted : after ≡ noted_after note names before made
  pub ends : ((left ≡ []) × (status ≢ code exit.StoreFailed)) ⊎ SaveRefused names made status k
