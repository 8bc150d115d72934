-- What a command loads before it answers: the files that it needs, in its order.
use Rattle.std.specs.Prelude.{◌≡◌, ◌⊎◌, ℕ, nat_lt, Bool, true, false, List, [], ◌∷◌, length, Option, Some, None, Result, Ok, Err}
use Rattle.log_commands.specs.Common.{NoneFell, Files, Stored}
use Rattle.log_commands.specs.Names.{FileNames, name_of}
use Rattle.log_commands.specs.Outside.{ResultCause, without}
use Rattle.log_commands.specs.declared.inputs.Inputs.{Inputs}
use Rattle.log_commands.specs.declared.names.Role.{Role}
use Rattle.log_commands.specs.declared.names.Role.TheVariants as role
use Rattle.log_commands.specs.declared.refusal.Refusal.{Refusal}
use Rattle.log_commands.specs.declared.refusal.Refusal.TheVariants as why

-- ---- the bytes

-- what was loaded for each role; empty if nothing was
pub record Bytes : Type 0 where
  pub elf : List ℕ
  pub log : List ℕ
  pub book : List ℕ
  pub input : List ℕ
  pub origin : List ℕ

-- nothing was loaded
abbrev pub no_bytes : Bytes
no_bytes = record { elf = []; log = []; book = []; input = []; origin = [] }

-- what the buffers of the loads hold
abbrev pub bytes_of : Inputs → Bytes
bytes_of i = record { elf = i.elf.items; log = i.log.items; book = i.book.items; input = i.input.items; origin = i.origin.items }

-- the bytes of one role are replaced
abbrev pub put : Bytes → Role → List ℕ → Bytes
put b role.Elf bytes = record b { elf = bytes }
put b role.Log bytes = record b { log = bytes }
put b role.Book bytes = record b { book = bytes }
put b role.Input bytes = record b { input = bytes }
put b role.Origin bytes = record b { origin = bytes }

-- the most bytes of a file
abbrev pub limit_of : Role → ℕ
limit_of role.Elf = 67108864
limit_of role.Book = 1073741824
limit_of role.Input = 16777216
limit_of role.Log = 272629760
limit_of role.Origin = 272629760

-- ---- the loads

-- the bytes, or the refusal of what is too long
abbrev pub unless_long : Bool → Role → List ℕ → Result (List ℕ) Refusal
unless_long true r bytes = Err (why.TooLong r)
unless_long false r bytes = Ok bytes

-- the bytes of a file, or why there are none
abbrev pub file_bytes : Role → Option (List ℕ) → Result (List ℕ) Refusal
file_bytes r None = Err (why.Missing r)
file_bytes r (Some bytes) = unless_long (nat_lt (limit_of r) (length bytes)) r bytes

-- continues with the bytes, if there are any
abbrev pub on_bytes : {A : Type 0} → Result (List ℕ) Refusal → (List ℕ → Result A Refusal) → Result A Refusal
on_bytes (Err refusal) go = Err refusal
on_bytes (Ok bytes) go = go bytes

-- the files of these roles, in this order, beside those that are loaded: the first refusal counts
abbrev pub loaded_with : Files → FileNames → List Role → Bytes → Result Bytes Refusal
loaded_with files names [] had = Ok had
loaded_with files names (r ∷ roles) had = on_bytes (file_bytes r (files (name_of names r))) (λ bytes. loaded_with files names roles (put had r bytes))

-- the files of these roles alone
abbrev pub loaded : Files → FileNames → List Role → Result Bytes Refusal
loaded files names roles = loaded_with files names roles no_bytes

-- a load that is refused since nothing is under a name
abbrev pub Misses : FileNames → List ℕ → Result Bytes Refusal → Type 0
Misses names name result = (r : Role) × (name_of names r ≡ name) × (result ≡ Err (why.Missing r))

-- memory ran out; or the store failed at a file that the command comes to: if that one weren't there, it would be missing
abbrev pub StopsLoading : FileNames → List Role → Files → Refusal → Type 0
StopsLoading names roles files refusal =
    (refusal ≡ why.OutOfMemory) ⊎ ((r : Role) × (refusal ≡ why.StoreFailed r) × Misses names (name_of names r) (loaded (without (name_of names r) files) names roles))

-- what a load says of the files that are there
abbrev pub IsLoaded : FileNames → List Role → Files → Result Inputs Refusal → Type 0
IsLoaded names roles files (Ok inputs) = loaded files names roles ≡ Ok (bytes_of inputs)
IsLoaded names roles files (Err refusal) = StopsLoading names roles files refusal ⊎ (loaded files names roles ≡ Err refusal)

-- ---- the store

-- a store was read only: its files stay, no save was asked for, no count fell, and a refusal by it comes only if its count rose
pub record OnlyLoads {A : Type 0} (old new : Stored) (result : Result A Refusal) : Type 0 where
  pub same : new.files ≡ old.files
  pub asks : new.saves ≡ old.saves
  pub later : NoneFell old.counts new.counts
  pub cause : ResultCause old.counts new.counts result

-- the input of a recording is a file's, or empty
abbrev pub input_by : Option (List ℕ) → Files → Option (List ℕ)
input_by None files = Some []
input_by (Some name) files = files name
