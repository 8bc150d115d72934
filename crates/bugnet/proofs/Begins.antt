-- What a recording begins with, after its loads.
use Rattle.bugnet.proofs.Common.{◌≡◌, ℕ, List, [], Option, Some, None, Bool, true, false, ◌∙◌, ap, subst, sym, refl, arith, inr, Vec, Global, Result, Ok, Err, Program, checked_by, first_bad, BadSetting, RawSettings, Counts, Files, image_of, AreBytes, ElfError, Start, name_refusal, setting_refusal, is_clash, IsByProgram, IsByNames, IsBySettings, IsRecord, WithFile, IsByInput, FileNames, name_of, WithFiles, FetchTells, ProgramTells, GivesBy, CauseBy, told_of, told_of_recording, IsRun, HoldsBytes, BeginsBy, Told, refused, Answer, Recorded, RunToTell, Scheduling, Role, Refusal, OutOfRange, SameName, with-also, by-bytes, made-stopped, loaded}
use Rattle.log_commands.specs.declared.names.Role.TheVariants.{Input}
use Rattle.bugnet.proofs.RecordLoads.{program-refused, bad-one, none-bad}

-- ---- a file

-- a load that was refused ends it
pub begins-stopped : (known : Option Files) (names : FileNames) (how : Scheduling) (role : Role) (limit : ℕ) (r : Refusal) (Go : Files → List ℕ → Told → Type 0)
    → WithFiles known (λ files. FetchTells role limit (files (name_of names role)) (Err r))
    → WithFiles known (λ files. BeginsBy names how (λ f. WithFile f names role limit (Go f)) files (Err r))
begins-stopped known names how role limit r Go h = made-stopped Start (λ (s : Start). refused names r) known names role limit r Go h

-- a load that gave bytes leads on by them
with-bytes : (files : Files) (names : FileNames) (how : Scheduling) (here : Role) (limit : ℕ) (bytes : Vec ℕ Global) (result : Result Start Refusal) (Go : Files → List ℕ → Told → Type 0)
    → FetchTells here limit (files (name_of names here)) (Ok bytes) → BeginsBy names how (λ f. Go f bytes.items) files result → BeginsBy names how (λ f. WithFile f names here limit (Go f)) files result
unfolding WithFile
with-bytes files names how here limit bytes (Ok s) Go h go = λ what run. by-bytes (files (name_of names here)) names here bytes.items limit (Go files) what h.0 h.1 (go what run)
with-bytes files names how here limit bytes (Err r) Go h go = loaded Start (λ (s : Start). refused names r) files names here limit bytes (Err r) Go h go

pub begins-loaded : (known : Option Files) (names : FileNames) (how : Scheduling) (role : Role) (limit : ℕ) (bytes : Vec ℕ Global) (result : Result Start Refusal) (Go : Files → List ℕ → Told → Type 0)
    → WithFiles known (λ files. FetchTells role limit (files (name_of names role)) (Ok bytes))
    → WithFiles known (λ files. BeginsBy names how (λ f. Go f bytes.items) files result)
    → WithFiles known (λ files. BeginsBy names how (λ f. WithFile f names role limit (Go f)) files result)
begins-loaded None names how role limit bytes result Go h go = tt
begins-loaded (Some files) names how role limit bytes result Go h go = with-bytes files names how role limit bytes result Go h go

-- its bytes are bytes
pub holds-bytes : (known : Option Files) (name : List ℕ) (role : Role) (limit : ℕ) (bytes : Vec ℕ Global) → AreBytes bytes.items → WithFiles known (λ files. FetchTells role limit (files name) (Ok bytes)) → WithFiles known (λ files. HoldsBytes (files name))
holds-bytes None name role limit bytes are h = tt
holds-bytes (Some files) name role limit bytes are h = subst (λ (there : Option (List ℕ)). HoldsBytes there) (sym h.0) are

-- ---- the input

-- a start that is told by what it has
begins-any : (known : Option Files) (names : FileNames) (how : Scheduling) (s : Start) (Is : Told → Type 0) → ((what : Told) → IsRun s.settings s.image s.digest how s.input.items what → Is what)
    → WithFiles known (λ files. BeginsBy names how (λ f. Is) files (Ok s))
begins-any None names how s Is go = tt
begins-any (Some files) names how s Is go = go

pub no-input : (has : Bool) (known : Option Files) (names : FileNames) (how : Scheduling) (s : Start) → has ≡ false → s.input.items ≡ []
    → WithFiles known (λ files. BeginsBy names how (λ f. IsByInput has f names (IsRun s.settings s.image s.digest how)) files (Ok s))
no-input true known names how s e empty = grind arith
no-input false known names how s e empty =
    begins-any known names how s (IsRun s.settings s.image s.digest how []) (λ what run. subst (λ (input : List ℕ). IsRun s.settings s.image s.digest how input what) empty run)

pub input-refused : (has : Bool) (known : Option Files) (names : FileNames) (how : Scheduling) (r : Refusal) (Go : List ℕ → Told → Type 0) → has ≡ true
    → WithFiles known (λ files. FetchTells Input 16777216 (files (name_of names Input)) (Err r))
    → WithFiles known (λ files. BeginsBy names how (λ f. IsByInput has f names Go) files (Err r))
input-refused true known names how r Go e h = begins-stopped known names how Input 16777216 r (λ f. Go) h
input-refused false known names how r Go e h = grind arith

pub input-taken : (has : Bool) (known : Option Files) (names : FileNames) (how : Scheduling) (s : Start) (input : Vec ℕ Global) (Go : List ℕ → Told → Type 0) → has ≡ true
    → WithFiles known (λ files. FetchTells Input 16777216 (files (name_of names Input)) (Ok input))
    → ((what : Told) → IsRun s.settings s.image s.digest how s.input.items what → Go input.items what)
    → WithFiles known (λ files. BeginsBy names how (λ f. IsByInput has f names Go) files (Ok s))
input-taken true known names how s input Go e h go = begins-loaded known names how Input 16777216 input (Ok s) (λ f. Go) h (begins-any known names how s (Go input.items) go)
input-taken false known names how s input Go e h go = grind arith

-- ---- the program

pub begins-refused : (known : Option Files) (names : FileNames) (bytes : List ℕ) (c : RawSettings) (how : Scheduling) (has : Bool) (digest : List ℕ) (r : Refusal) → ProgramTells bytes c (Err r)
    → WithFiles known (λ files. BeginsBy names how (λ f. IsByProgram (image_of bytes c) f names c how has digest) files (Err r))
begins-refused known names bytes c how has digest r h = program-refused known names bytes c how has digest r h

pub begins-program : (known : Option Files) (names : FileNames) (bytes : List ℕ) (c : RawSettings) (how : Scheduling) (has : Bool) (digest : List ℕ) (i : Program) (result : Result Start Refusal) → image_of bytes c ≡ Ok i
    → WithFiles known (λ files. BeginsBy names how (λ f. IsByInput has f names (IsRun c i digest how)) files result)
    → WithFiles known (λ files. BeginsBy names how (λ f. IsByProgram (image_of bytes c) f names c how has digest) files result)
begins-program known names bytes c how has digest i result e h =
    subst (λ (p : Result Program ElfError). WithFiles known (λ files. BeginsBy names how (λ f. IsByProgram p f names c how has digest) files result)) (sym e) h

-- ---- the words

same-refusal : (a b : Refusal) → Some a ≡ Some b → a ≡ b
same-refusal a b e = cc

-- what the words alone refuse
by-name : (files : Files) (names : FileNames) (c : RawSettings) (how : Scheduling) (has clash : Bool) (r : Refusal) → name_refusal clash ≡ Some r → IsByNames clash files names c how has (refused names r)
by-name files names c how has true r e = ap (λ (x : Refusal). refused names x) (sym (same-refusal SameName r e))
by-name files names c how has false r e = absurd cc

by-setting : (files : Files) (names : FileNames) (c : RawSettings) (how : Scheduling) (has : Bool) (o : Option BadSetting) (r : Refusal) → setting_refusal o (is_clash how.lean names.log names.book) ≡ Some r
    → IsBySettings o files names c how has (refused names r)
by-setting files names c how has (Some bad) r e = ap (λ (x : Refusal). refused names x) (sym (same-refusal (OutOfRange bad) r e))
by-setting files names c how has None r e = by-name files names c how has (is_clash how.lean names.log names.book) r e

pub words-refused : (known : Option Files) (names : FileNames) (c : RawSettings) (how : Scheduling) (has : Bool) (r : Refusal) → setting_refusal (first_bad c) (is_clash how.lean names.log names.book) ≡ Some r
    → WithFiles known (λ files. GivesBy names (λ f. IsRecord f names c how has) files (Err r))
words-refused None names c how has r e = tt
words-refused (Some files) names c how has r e = inr (by-setting files names c how has (first_bad c) r e)

pub words-cause : (o : Option BadSetting) (clash : Bool) (before now : Counts) (r : Refusal) → setting_refusal o clash ≡ Some r → CauseBy {A = Answer} (setting_refusal o clash) before now (Err r)
words-cause (Some bad) clash before now r e = subst (λ (x : Refusal). CauseBy {A = Answer} (Some (OutOfRange bad)) before now (Err x)) (same-refusal (OutOfRange bad) r e) (refl, refl)
words-cause None true before now r e = subst (λ (x : Refusal). CauseBy {A = Answer} (Some SameName) before now (Err x)) (same-refusal SameName r e) (refl, refl)
words-cause None false before now r e = absurd cc

-- what the tests of the words find
pub bad-refused : (c : RawSettings) (clash : Bool) (bad : BadSetting) → checked_by (first_bad c) c ≡ Err bad → setting_refusal (first_bad c) clash ≡ Some (OutOfRange bad)
bad-refused c clash bad e = ap (λ (o : Option BadSetting). setting_refusal o clash) (bad-one (first_bad c) c bad e)

pub clash-refused : (c x : RawSettings) (clash : Bool) → checked_by (first_bad c) c ≡ Ok x → clash ≡ true → setting_refusal (first_bad c) clash ≡ Some SameName
clash-refused c x clash e same = ap (λ (o : Option BadSetting). setting_refusal o clash) (none-bad (first_bad c) c x e).0 ∙ ap (λ (b : Bool). name_refusal b) same

pub words-taken : (c x : RawSettings) (clash : Bool) → checked_by (first_bad c) c ≡ Ok x → clash ≡ false → (x ≡ c) × (setting_refusal (first_bad c) clash ≡ None)
words-taken c x clash e apart =
    let n = none-bad (first_bad c) c x e in
    (n.1, ap (λ (o : Option BadSetting). setting_refusal o clash) n.0 ∙ ap (λ (b : Bool). name_refusal b) apart)

-- words that refuse nothing
none-refused : (o : Option BadSetting) (clash : Bool) → setting_refusal o clash ≡ None → (o ≡ None) × (clash ≡ false)
none-refused (Some bad) clash e = absurd cc
none-refused None true e = absurd cc
none-refused None false e = (refl, refl)

record-is : (names : FileNames) (c x : RawSettings) (how : Scheduling) (has : Bool) → x ≡ c → setting_refusal (first_bad c) (is_clash how.lean names.log names.book) ≡ None
    → (files : Files) (what : Told) → IsByNames false files names x how has what → IsRecord files names c how has what
record-is names c x how has same none files what h =
    let n = none-refused (first_bad c) (is_clash how.lean names.log names.book) none in
    subst (λ (o : Option BadSetting). IsBySettings o files names c how has what) (sym n.0)
    (subst (λ (b : Bool). IsByNames b files names c how has what) (sym n.1) (subst (λ (y : RawSettings). IsByNames false files names y how has what) same h))

pub start-refused : (known : Option Files) (names : FileNames) (c x : RawSettings) (how : Scheduling) (has : Bool) (r : Refusal) → x ≡ c → setting_refusal (first_bad c) (is_clash how.lean names.log names.book) ≡ None
    → WithFiles known (λ files. BeginsBy names how (λ f. IsByNames false f names x how has) files (Err r))
    → WithFiles known (λ files. GivesBy names (λ f. IsRecord f names c how has) files (Err r))
start-refused known names c x how has r same none h =
    with-also (told_of names) names (λ f. IsByNames false f names x how has) (λ f. IsRecord f names c how has) (record-is names c x how has same none) known (Err r) h

-- ---- the recording

pub run-recorded : (known : Option Files) (names : FileNames) (c x : RawSettings) (how : Scheduling) (has : Bool) (s : Start) (r : RunToTell) → x ≡ c → setting_refusal (first_bad c) (is_clash how.lean names.log names.book) ≡ None
    → WithFiles known (λ files. BeginsBy names how (λ f. IsByNames false f names x how has) files (Ok s)) → IsRun s.settings s.image s.digest how s.input.items (told_of_recording r)
    → WithFiles known (λ files. GivesBy names (λ f. IsRecord f names c how has) files (Ok (Recorded r)))
run-recorded None names c x how has s r same none h run = tt
run-recorded (Some files) names c x how has s r same none h run = record-is names c x how has same none files (told_of_recording r) (h (told_of_recording r) run)
