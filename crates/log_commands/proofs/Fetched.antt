-- The loads of a command's files, one after another.
use Rattle.log_commands.proofs.Common.{◌≡◌, ℕ, ◌≤◌, ◌<◌, length, List, ◌∷◌, Option, Some, None, ◌∙◌, ap, subst, sym, refl, arith, true, false, Bool, inl, inr, ◌⊎◌, Vec, Global, Result, Ok, Err, IsSomeAnd, bytes_eq, bytes_eq-Decides, Counts, NoneFell, Files, Stored, StoreCall, FileNames, name_of, Bytes, bytes_of, put, limit_of, unless_long, file_bytes, on_bytes, loaded_with, loaded, Misses, IsLoaded, OnlyLoads, WithFiles, FetchTells, none_if, without, ResultCause, Inputs, Role, Refusal, WordsRefused, OutOfRange, SameName, StoreFailed, Missing, TooLong, WriteFailed, ReadFailed, LineTooLong, CommandsTooLong}
use Rattle.log_commands.proofs.Loads.{passes, fits}
use Rattle.log_commands.proofs.Prints.{rose-later}
use Rattle.log_commands.proofs.FileCalls.{CalledSoFar}

-- ---- one file

missing : (r : Role) (there : Option (List ℕ)) → there ≡ None → file_bytes r there ≡ Err (Missing r)
missing r there e = ap (λ (t : Option (List ℕ)). file_bytes r t) e

there-is : (r : Role) (there : Option (List ℕ)) (bytes : List ℕ) → there ≡ Some bytes → length bytes ≤ limit_of r → file_bytes r there ≡ Ok bytes
there-is r there bytes e small = ap (λ (t : Option (List ℕ)). file_bytes r t) e ∙ ap (λ (b : Bool). unless_long b r bytes) (fits (limit_of r) (length bytes) small)

too-long : (r : Role) (there : Option (List ℕ)) → IsSomeAnd there (λ bytes. limit_of r < length bytes) → file_bytes r there ≡ Err (TooLong r)
too-long r None long = absurd long
too-long r (Some bytes) long = ap (λ (b : Bool). unless_long b r bytes) (passes (limit_of r) (length bytes) long)

-- ---- as far as the loads have come

-- These roles are left, and these bytes are there. So too in files that lack a name, if its load didn't end them before
pub record Reached (files : Files) (names : FileNames) (roles rest : List Role) (had : Bytes) : Type 0 where
  pub is : loaded files names roles ≡ loaded_with files names rest had
  pub lacking : (name : List ℕ) → Misses names name (loaded (without name files) names roles) ⊎ (loaded (without name files) names roles ≡ loaded_with (without name files) names rest had)

step : (files : Files) (names : FileNames) (r : Role) (rest : List Role) (had : Bytes) (found : Result (List ℕ) Refusal) → file_bytes r (files (name_of names r)) ≡ found
    → loaded_with files names (r ∷ rest) had ≡ on_bytes found (λ bytes. loaded_with files names rest (put had r bytes))
step files names r rest had found e = ap (λ (f : Result (List ℕ) Refusal). on_bytes f (λ bytes. loaded_with files names rest (put had r bytes))) e

-- at a file that is lacking
lacks : (files : Files) (names : FileNames) (r : Role) (rest : List Role) (had : Bytes) (name : List ℕ) (b : Bool) → bytes_eq (name_of names r) name ≡ b → b ≡ true
    → loaded_with (without name files) names (r ∷ rest) had ≡ Err (Missing r)
lacks files names r rest had name b t is =
    step (without name files) names r rest had (Err (Missing r)) (missing r (without name files (name_of names r)) (ap (λ (x : Bool). none_if x (files (name_of names r))) (t ∙ is)))

pub reached-more : (files : Files) (names : FileNames) (roles : List Role) (r : Role) (rest : List Role) (had : Bytes) (bytes : Vec ℕ Global)
    → Reached files names roles (r ∷ rest) had → FetchTells r (limit_of r) (files (name_of names r)) (Ok bytes) → Reached files names roles rest (put had r bytes.items)
reached-more files names roles r rest had bytes so_far h = record {
  is = so_far.is ∙ step files names r rest had (Ok bytes.items) (there-is r (files (name_of names r)) bytes.items h.0 h.1);
  lacking = λ name. by name (so_far.lacking name) (bytes_eq (name_of names r) name) refl;
}
  where
    by : (name : List ℕ) → Misses names name (loaded (without name files) names roles) ⊎ (loaded (without name files) names roles ≡ loaded_with (without name files) names (r ∷ rest) had)
        → (b : Bool) → bytes_eq (name_of names r) name ≡ b
        → Misses names name (loaded (without name files) names roles) ⊎ (loaded (without name files) names roles ≡ loaded_with (without name files) names rest (put had r bytes.items))
    by name (inl m) b t = inl m
    by name (inr e) true t = inl (r, (bytes_eq-Decides (name_of names r) name).0 t, e ∙ lacks files names r rest had name true t refl)
    by name (inr e) false t =
        inr (e ∙ step (without name files) names r rest had (Ok bytes.items) (there-is r (without name files (name_of names r)) bytes.items (ap (λ (x : Bool). none_if x (files (name_of names r))) t ∙ h.0) h.1))

pub reached-stopped : (files : Files) (names : FileNames) (roles : List Role) (r : Role) (rest : List Role) (had : Bytes) (refusal : Refusal)
    → Reached files names roles (r ∷ rest) had → FetchTells r (limit_of r) (files (name_of names r)) (Err refusal) → IsLoaded names roles files (Err refusal)
reached-stopped files names roles r rest had refusal so_far (inl (inl memory)) = inl (inl memory)
reached-stopped files names roles r rest had refusal so_far (inl (inr failed)) = inl (inr (r, failed, by (so_far.lacking (name_of names r))))
  where
    by : Misses names (name_of names r) (loaded (without (name_of names r) files) names roles) ⊎ (loaded (without (name_of names r) files) names roles ≡ loaded_with (without (name_of names r) files) names (r ∷ rest) had)
        → Misses names (name_of names r) (loaded (without (name_of names r) files) names roles)
    by (inl m) = m
    by (inr e) = (r, refl, e ∙ lacks files names r rest had (name_of names r) true ((bytes_eq-Decides (name_of names r) (name_of names r)).1 refl) refl)
reached-stopped files names roles r rest had refusal so_far (inr (inl h)) =
    inr (so_far.is ∙ step files names r rest had (Err (Missing r)) (missing r (files (name_of names r)) h.0) ∙ ap (λ (x : Refusal). Err x) (sym h.1))
reached-stopped files names roles r rest had refusal so_far (inr (inr h)) =
    inr (so_far.is ∙ step files names r rest had (Err (TooLong r)) (too-long r (files (name_of names r)) h.0) ∙ ap (λ (x : Refusal). Err x) (sym h.1))

-- ---- if the store's files are known

pub so_far-more : (known now : Option Files) (names : FileNames) (roles : List Role) (r : Role) (limit : ℕ) (left rest : List Role) (had new : Bytes) (bytes : Vec ℕ Global) → now ≡ known → limit ≡ limit_of r → left ≡ r ∷ rest
    → new ≡ put had r bytes.items → WithFiles known (λ files. Reached files names roles left had) → WithFiles now (λ files. FetchTells r limit (files (name_of names r)) (Ok bytes))
    → WithFiles known (λ files. Reached files names roles rest new)
so_far-more None now names roles r limit left rest had new bytes same l e is so_far h = tt
so_far-more (Some files) now names roles r limit left rest had new bytes same l e is so_far h =
    subst (λ (b : Bytes). Reached files names roles rest b) (sym is)
    (reached-more files names roles r rest had bytes (subst (λ (l : List Role). Reached files names roles l had) e so_far)
    (subst (λ (n : ℕ). FetchTells r n (files (name_of names r)) (Ok bytes)) l
    (subst (λ (k : Option Files). WithFiles k (λ files. FetchTells r limit (files (name_of names r)) (Ok bytes))) same h)))

pub so_far-stopped : (known now : Option Files) (names : FileNames) (roles : List Role) (r : Role) (limit : ℕ) (left rest : List Role) (had : Bytes) (refusal : Refusal) → now ≡ known → limit ≡ limit_of r → left ≡ r ∷ rest
    → WithFiles known (λ files. Reached files names roles left had) → WithFiles now (λ files. FetchTells r limit (files (name_of names r)) (Err refusal))
    → WithFiles known (λ files. IsLoaded names roles files (Err refusal))
so_far-stopped None now names roles r limit left rest had refusal same l e so_far h = tt
so_far-stopped (Some files) now names roles r limit left rest had refusal same l e so_far h =
    reached-stopped files names roles r rest had refusal (subst (λ (l : List Role). Reached files names roles l had) e so_far)
    (subst (λ (n : ℕ). FetchTells r n (files (name_of names r)) (Err refusal)) l
    (subst (λ (k : Option Files). WithFiles k (λ files. FetchTells r limit (files (name_of names r)) (Err refusal))) same h))

-- ---- the store

pub only-first : {A : Type 0} (s : Stored) (a : A) → OnlyLoads s s (Ok a)
only-first s a = record { same = refl; asks = refl; later = record { misses = omega arith; longs = omega arith; faults = omega arith }; cause = tt }

pub fell-later : (a b c : Counts) → NoneFell a b → NoneFell b c → NoneFell a c
fell-later a b c h k = record { misses = omega (arith, h.misses, k.misses); longs = omega (arith, h.longs, k.longs); faults = omega (arith, h.faults, k.faults) }

pub cause-later : {A : Type 0} (a b c : Counts) (result : Result A Refusal) → NoneFell a b → ResultCause b c result → ResultCause a c result
cause-later a b c (Err (StoreFailed role)) h k = rose-later a.faults b.faults c.faults h.faults k
cause-later a b c (Err (Missing role)) h k = rose-later a.misses b.misses c.misses h.misses k
cause-later a b c (Err (TooLong role)) h k = rose-later a.longs b.longs c.longs h.longs k
cause-later a b c (Err WordsRefused) h k = absurd k
cause-later a b c (Err (OutOfRange bad)) h k = absurd k
cause-later a b c (Err SameName) h k = absurd k
cause-later a b c (Err WriteFailed) h k = absurd k
cause-later a b c (Err ReadFailed) h k = absurd k
cause-later a b c (Err LineTooLong) h k = absurd k
cause-later a b c (Err CommandsTooLong) h k = absurd k
cause-later a b c result h k = tt

-- a store that was read, and then read again
pub only-then : {A C : Type 0} (a b c : Stored) (x : A) (after : Result C Refusal) → OnlyLoads a b (Ok x) → c.files ≡ b.files → c.saves ≡ b.saves → NoneFell b.counts c.counts → ResultCause b.counts c.counts after → OnlyLoads a c after
only-then a b c x after o files saves later cause = record {
  same = files ∙ o.same;
  asks = saves ∙ o.asks;
  later = fell-later a.counts b.counts c.counts o.later later;
  cause = cause-later a.counts b.counts c.counts after o.later cause;
}

-- and then left alone
pub only-own : {A C : Type 0} (a b : Stored) (x : A) (after : Result C Refusal) → OnlyLoads a b (Ok x) → ((before now : Counts) → ResultCause before now after) → OnlyLoads a b after
only-own a b x after o own = record { same = o.same; asks = o.asks; later = o.later; cause = own a.counts b.counts }

-- ---- a loop

-- as far as a loop over the roles has come
pub record LoadedSoFar (names : FileNames) (roles rest : List Role) (inputs : Inputs) (note : ℕ → StoreCall → ℕ) (old now : Stored) : Type 0 where
  pub reached : WithFiles old.files (λ files. Reached files names roles rest (bytes_of inputs))
  pub only : OnlyLoads {A = Inputs} old now (Ok inputs)
  pub called : CalledSoFar note names roles rest old.noted now.noted
