-- What a command answers once its files are loaded, or by the load that was refused.
use Rattle.log_commands.proofs.Common.{◌≡◌, ℕ, length, List, [], ◌∷◌, Option, Some, None, subst, sym, refl, true, false, Bool, nat_lt, inl, inr, Result, Ok, Err, Files, IsByFiles, Either, IsByFile, WithFile, Bytes, bytes_of, no_bytes, put, limit_of, unless_long, file_bytes, on_bytes, loaded_with, IsLoaded, FileNames, name_of, WithFiles, without, GivesTo, GivesOf, Told, refused, Inputs, Role, Refusal, Missing, TooLong}
use Rattle.log_commands.proofs.Loads.{missing-named}

-- what is loaded decides: a refusal is told, or what the bytes come to
abbrev ByLoads : (Bytes → Told → Type 0) → FileNames → Result Bytes Refusal → Told → Type 0
ByLoads Is names (Err refusal) what = what ≡ refused names refusal
ByLoads Is names (Ok bytes) what = Is bytes what

then-file : (Is : Bytes → Told → Type 0) (files : Files) (names : FileNames) (r : Role) (roles : List Role) (had : Bytes) (what : Told) (Go : List ℕ → Told → Type 0)
    → ((bytes : List ℕ) → ByLoads Is names (loaded_with files names roles (put had r bytes)) what → Go bytes what)
    → ByLoads Is names (loaded_with files names (r ∷ roles) had) what → WithFile files names r (limit_of r) Go what
unfolding WithFile
then-file Is files names r roles had what Go go h = by (files (name_of names r)) h
  where
    fits : (long : Bool) (bytes : List ℕ) → ByLoads Is names (on_bytes (unless_long long r bytes) (λ b. loaded_with files names roles (put had r b))) what → Either long (what ≡ refused names (TooLong r)) (Go bytes what)
    fits true bytes h = h
    fits false bytes h = go bytes h

    by : (there : Option (List ℕ)) → ByLoads Is names (on_bytes (file_bytes r there) (λ b. loaded_with files names roles (put had r b))) what → IsByFile there names r (limit_of r) Go what
    by None h = h
    by (Some bytes) h = fits (nat_lt (limit_of r) (length bytes)) bytes h

by-roles : (Is : Bytes → Told → Type 0) (files : Files) (names : FileNames) (roles : List Role) (had : Bytes) (what : Told) → ByLoads Is names (loaded_with files names roles had) what → IsByFiles files names roles had Is what
by-roles Is files names [] had what h = h
by-roles Is files names (r ∷ roles) had what h = then-file Is files names r roles had what (λ bytes what. IsByFiles files names roles (put had r bytes) Is what) (λ bytes. by-roles Is files names roles (put had r bytes) what) h

-- the load was refused
pub loads-stop : {A : Type 0} (tells : A → Told) (Is : Bytes → Told → Type 0) (roles : List Role) (known : Option Files) (names : FileNames) (r : Refusal)
    → WithFiles known (λ files. IsLoaded names roles files (Err r)) → WithFiles known (λ files. GivesOf tells names (λ f what. IsByFiles f names roles no_bytes Is what) files (Err r))
loads-stop tells Is roles None names r h = tt
loads-stop tells Is roles (Some files) names r (inl (inl memory)) = inl (inl memory)
loads-stop tells Is roles (Some files) names r (inl (inr (role, failed, miss))) =
    inl (inr (
      role,
      failed,
      by-roles Is (without (name_of names role) files) names roles no_bytes (refused names (Missing role))
          (subst (λ (l : Result Bytes Refusal). ByLoads Is names l (refused names (Missing role))) (sym miss.2) (missing-named names role miss.0 (sym miss.1))),
    ))
loads-stop tells Is roles (Some files) names r (inr e) =
    inr (by-roles Is files names roles no_bytes (refused names r) (subst (λ (l : Result Bytes Refusal). ByLoads Is names l (refused names r)) (sym e) refl))

-- what was loaded is answered
pub loads-give : {A : Type 0} (tells : A → Told) (Is : Bytes → Told → Type 0) (roles : List Role) (known : Option Files) (names : FileNames) (inputs : Inputs) (result : Result A Refusal)
    → WithFiles known (λ files. IsLoaded names roles files (Ok inputs)) → GivesTo tells names (Is (bytes_of inputs)) result
    → WithFiles known (λ files. GivesOf tells names (λ f what. IsByFiles f names roles no_bytes Is what) files result)
loads-give tells Is roles None names inputs result h g = tt
loads-give tells Is roles (Some files) names inputs (Ok a) h g =
    by-roles Is files names roles no_bytes (tells a) (subst (λ (l : Result Bytes Refusal). ByLoads Is names l (tells a)) (sym h) g)
loads-give tells Is roles (Some files) names inputs (Err r) h (inl memory) = inl (inl memory)
loads-give tells Is roles (Some files) names inputs (Err r) h (inr is) =
    inr (by-roles Is files names roles no_bytes (refused names r) (subst (λ (l : Result Bytes Refusal). ByLoads Is names l (refused names r)) (sym h) is))

-- another way to say what is answered
gives-also : {A : Type 0} (show : A → Told) (names : FileNames) (P Q : Files → Told → Type 0) → ((f : Files) (what : Told) → P f what → Q f what) → (files : Files) (result : Result A Refusal) → GivesOf show names P files result → GivesOf show names Q files result
gives-also show names P Q to files (Ok a) h = to files (show a) h
gives-also show names P Q to files (Err r) (inl (inl memory)) = inl (inl memory)
gives-also show names P Q to files (Err r) (inl (inr (role, failed, is))) = inl (inr (role, failed, to (without (name_of names role) files) (refused names (Missing role)) is))
gives-also show names P Q to files (Err r) (inr is) = inr (to files (refused names r) is)

pub with-also : {A : Type 0} (show : A → Told) (names : FileNames) (P Q : Files → Told → Type 0) → ((f : Files) (what : Told) → P f what → Q f what) → (known : Option Files) (result : Result A Refusal)
    → WithFiles known (λ files. GivesOf show names P files result) → WithFiles known (λ files. GivesOf show names Q files result)
with-also show names P Q to None result h = tt
with-also show names P Q to (Some files) result h = gives-also show names P Q to files result h
