-- What a command answers after its loads.
use Rattle.log_commands.proofs.Common.{◌≡◌, ℕ, ◌≤◌, ◌<◌, length, List, [], ◌++◌, Option, Some, None, ap, subst, sym, refl, arith, true, false, Bool, nat_lt, inl, inr, ◌⊎◌, Vec, Global, Result, Ok, Err, IsSomeAnd, codes, bytes_eq, bytes_eq-Decides, nat_tests, Counts, Files, Content, IsRefusal, Reads, Damage, FileNames, name_of, line_of, said_of, log_refusal, Told, refused, Either, IsByFile, WithFile, IsByLog, WithFiles, FetchTells, LogTells, Gives, none_if, without, GivesTo, GivesOf, RefusalCause, told_of, Role, Answer, Refusal, Missing, TooLong, LogRefused, OutOfMemory}
use Rattle.log_file.specs.declared.error.FileError.TheVariants as file
use Rattle.log_blocks.specs.declared.damage.Damage.TheVariants.{File, BadBlock}

-- the first or the second by what the test says
pub on_true : (b : Bool) (A B : Type 0) → b ≡ true → A → Either b A B
on_true true A B e a = a
on_true false A B e a = grind arith

pub on_false : (b : Bool) (A B : Type 0) → b ≡ false → B → Either b A B
on_false false A B e b = b
on_false true A B e b = grind arith

pub of_false : (b : Bool) (A B : Type 0) → b ≡ false → Either b A B → B
of_false false A B e b = b
of_false true A B e b = grind arith

pub passes : (limit n : ℕ) → limit < n → nat_lt limit n ≡ true
passes limit n h = grind (arith, nat_tests)

pub fits : (limit n : ℕ) → n ≤ limit → nat_lt limit n ≡ false
fits limit n h = grind (arith, nat_tests)

pub by-missing : (there : Option (List ℕ)) (names : FileNames) (role : Role) (limit : ℕ) (Go : List ℕ → Told → Type 0)
    → there ≡ None → IsByFile there names role limit Go (refused names (Missing role))
by-missing None names role limit Go e = refl
by-missing (Some bytes) names role limit Go e = grind arith

pub by-long : (there : Option (List ℕ)) (names : FileNames) (role : Role) (limit : ℕ) (Go : List ℕ → Told → Type 0)
    → IsSomeAnd there (λ bytes. limit < length bytes) → IsByFile there names role limit Go (refused names (TooLong role))
by-long None names role limit Go e = absurd e
by-long (Some bytes) names role limit Go e = on_true (nat_lt limit (length bytes)) (refused names (TooLong role) ≡ refused names (TooLong role)) (Go bytes (refused names (TooLong role))) (passes limit (length bytes) e) refl

pub by-bytes : (there : Option (List ℕ)) (names : FileNames) (role : Role) (bytes : List ℕ) (limit : ℕ) (Go : List ℕ → Told → Type 0) (what : Told)
    → there ≡ Some bytes → length bytes ≤ limit → Go bytes what → IsByFile there names role limit Go what
by-bytes there names role bytes limit Go what e h go =
    subst (λ (t : Option (List ℕ)). IsByFile t names role limit Go what) (sym e) (on_false (nat_lt limit (length bytes)) (what ≡ refused names (TooLong role)) (Go bytes what) (fits limit (length bytes) h) go)

refused-by : (there : Option (List ℕ)) (names : FileNames) (role : Role) (limit : ℕ) (r : Refusal) (Go : List ℕ → Told → Type 0)
    → ((there ≡ None) × (r ≡ Missing role)) ⊎ (IsSomeAnd there (λ bytes. limit < length bytes) × (r ≡ TooLong role)) → IsByFile there names role limit Go (refused names r)
refused-by there names role limit r Go (inl h) = subst (λ (x : Refusal). IsByFile there names role limit Go (refused names x)) (sym h.1) (by-missing there names role limit Go h.0)
refused-by there names role limit r Go (inr h) = subst (λ (x : Refusal). IsByFile there names role limit Go (refused names x)) (sym h.1) (by-long there names role limit Go h.0)

-- ---- the files without one of them

same_name : (bs : List ℕ) → bytes_eq bs bs ≡ true
same_name bs = (bytes_eq-Decides bs bs).1 refl

gone : (name : List ℕ) (files : Files) → without name files name ≡ None
gone name files = ap (λ (b : Bool). none_if b (files name)) (same_name name)

-- the line that a file is missing says its name alone
pub missing-named : (names : FileNames) (a b : Role) → name_of names a ≡ name_of names b → refused names (Missing a) ≡ refused names (Missing b)
unfolding refused line_of said_of
missing-named names a b e = ap (λ (name : List ℕ). told_missing name) e
  where
    told_missing : List ℕ → Told
    told_missing name = record { status = 4; out = []; err = codes "bugnet: " ++ (codes "missing: " ++ name) ++ codes "\n"; saved = None }

-- a load that was refused ends the command
stopped : (A : Type 0) (tells : A → Told) (files : Files) (names : FileNames) (role : Role) (limit : ℕ) (r : Refusal) (Go : Files → List ℕ → Told → Type 0)
    → FetchTells role limit (files (name_of names role)) (Err r) → GivesOf tells names (λ f. WithFile f names role limit (Go f)) files (Err r)
unfolding WithFile
stopped A tells files names role limit r Go (inl (inl memory)) = inl (inl memory)
stopped A tells files names role limit r Go (inl (inr failed)) =
    let n = name_of names role in
    inl (inr (role, failed, by-missing (without n files n) names role limit (Go (without n files)) (gone n files)))
stopped A tells files names role limit r Go (inr h) = inr (refused-by (files (name_of names role)) names role limit r (Go files) h)

pub made-stopped : (A : Type 0) (tells : A → Told) (known : Option Files) (names : FileNames) (role : Role) (limit : ℕ) (r : Refusal) (Go : Files → List ℕ → Told → Type 0)
    → WithFiles known (λ files. FetchTells role limit (files (name_of names role)) (Err r))
    → WithFiles known (λ files. GivesOf tells names (λ f. WithFile f names role limit (Go f)) files (Err r))
made-stopped A tells None names role limit r Go h = tt
made-stopped A tells (Some files) names role limit r Go h = stopped A tells files names role limit r Go h

-- a load that gave bytes leads on by them
apart : (b : Bool) (names : FileNames) (here role : Role) (there : Option (List ℕ)) (bytes : List ℕ) (limit : ℕ) (Go : List ℕ → Told → Type 0)
    → (b ≡ true → name_of names here ≡ name_of names role) → there ≡ Some bytes → length bytes ≤ limit → Go bytes (refused names (Missing role))
    → IsByFile (none_if b there) names here limit Go (refused names (Missing role))
apart true names here role there bytes limit Go same e h go = missing-named names role here (sym (same refl))
apart false names here role there bytes limit Go same e h go = by-bytes there names here bytes limit Go (refused names (Missing role)) e h go

pub loaded : (A : Type 0) (tells : A → Told) (files : Files) (names : FileNames) (here : Role) (limit : ℕ) (bytes : Vec ℕ Global) (result : Result A Refusal) (Go : Files → List ℕ → Told → Type 0)
    → FetchTells here limit (files (name_of names here)) (Ok bytes) → GivesOf tells names (λ f. Go f bytes.items) files result → GivesOf tells names (λ f. WithFile f names here limit (Go f)) files result
unfolding WithFile
loaded A tells files names here limit bytes (Ok answer) Go h go = by-bytes (files (name_of names here)) names here bytes.items limit (Go files) _ h.0 h.1 go
loaded A tells files names here limit bytes (Err r) Go h (inl (inl memory)) = inl (inl memory)
loaded A tells files names here limit bytes (Err r) Go h (inl (inr failed)) =
    let n = name_of names failed.0 in
    inl (inr (failed.0, failed.1, apart (bytes_eq (name_of names here) n) names here failed.0 (files (name_of names here)) bytes.items limit (Go (without n files)) (λ e. (bytes_eq-Decides (name_of names here) n).0 e) h.0 h.1 failed.2))
loaded A tells files names here limit bytes (Err r) Go h (inr go) = inr (by-bytes (files (name_of names here)) names here bytes.items limit (Go files) (refused names r) h.0 h.1 go)

-- ---- logs

-- memory ran out, or the log's damage is told
abbrev pub TellsDamage : List ℕ → Refusal → Type 0
TellsDamage bytes r = (r ≡ OutOfMemory) ⊎ ((e : Damage) × (r ≡ LogRefused e) × Reads bytes (Err e))

pub refused-log : (bytes : List ℕ) (e : Damage) (r : Refusal) → r ≡ log_refusal e → IsRefusal bytes e → TellsDamage bytes r
refused-log bytes (BadBlock at) r is h = inr (BadBlock at, is, (h, λ e. absurd cc))
refused-log bytes (File (file.Short length)) r is h = inr (File (file.Short length), is, (h, λ e. absurd cc))
refused-log bytes (File file.BadMagic) r is h = inr (File file.BadMagic, is, (h, λ e. absurd cc))
refused-log bytes (File (file.BadVersion found)) r is h = inr (File (file.BadVersion found), is, (h, λ e. absurd cc))
refused-log bytes (File (file.BadHead field value)) r is h = inr (File (file.BadHead field value), is, (h, λ e. absurd cc))
refused-log bytes (File (file.LengthDiffers said found)) r is h = inr (File (file.LengthDiffers said found), is, (h, λ e. absurd cc))
refused-log bytes (File (file.DigestDiffers kept found)) r is h = inr (File (file.DigestDiffers kept found), is, (h, λ e. absurd cc))
refused-log bytes (File (file.BadRecord at)) r is h = inr (File (file.BadRecord at), is, (h, λ e. absurd cc))
refused-log bytes (File (file.BadOrder at rule)) r is h = inr (File (file.BadOrder at rule), is, (h, λ e. absurd cc))
refused-log bytes (File file.OutOfMemory) r is h = inl is

-- a log that is refused ends the command
pub made-refused : (A : Type 0) (tells : A → Told) (names : FileNames) (bytes : List ℕ) (go : Content → Told) (r : Refusal) → LogTells bytes (Err r) → GivesTo tells names (IsByLog names bytes go) (Err r)
made-refused A tells names bytes go r h = by (refused-log bytes h.0 r h.1 h.2)
  where
    by : TellsDamage bytes r → GivesTo tells names (IsByLog names bytes go) (Err r)
    by (inl e) = inl e
    by (inr k) = inr (record { says = Err k.0; reads = k.2; is = ap (λ (x : Refusal). refused names x) k.1 })

own-refusal : (before now : Counts) (e : Damage) → RefusalCause before now (log_refusal e)
own-refusal before now (File (file.Short length)) = tt
own-refusal before now e = tt

-- it comes of no store
pub own_log : (e : Damage) (r : Refusal) (before now : Counts) → r ≡ log_refusal e → RefusalCause before now r
own_log e r before now is = subst (λ (x : Refusal). RefusalCause before now x) (sym is) (own-refusal before now e)

-- what a log says leads to the answer
pub made-read : (A : Type 0) (tells : A → Told) (names : FileNames) (bytes : List ℕ) (d : Content) (go : Content → Told) (result : Result A Refusal)
    → LogTells bytes (Ok d) → GivesTo tells names (λ what. what ≡ go d) result → GivesTo tells names (IsByLog names bytes go) result
made-read A tells names bytes d go (Ok answer) h e = record { says = Ok d; reads = h; is = e }
made-read A tells names bytes d go (Err r) h (inl memory) = inl memory
made-read A tells names bytes d go (Err r) h (inr e) = inr (record { says = Ok d; reads = h; is = e })

pub log-refused : (names : FileNames) (bytes : List ℕ) (go : Content → Told) (r : Refusal) → LogTells bytes (Err r) → Gives names (IsByLog names bytes go) (Err r)
log-refused names bytes go r h = made-refused Answer (told_of names) names bytes go r h

pub log-read : (names : FileNames) (bytes : List ℕ) (d : Content) (go : Content → Told) (result : Result Answer Refusal)
    → LogTells bytes (Ok d) → Gives names (λ what. what ≡ go d) result → Gives names (IsByLog names bytes go) result
log-read names bytes d go result h e = made-read Answer (told_of names) names bytes d go result h e
