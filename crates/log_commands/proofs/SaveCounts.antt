-- How often a command asks its store to save.
use Rattle.log_commands.proofs.Common.{◌≡◌, ◌≢◌, ℕ, Bool, true, false, List, Option, Some, ◌∙◌, ap, arith, inl, inr, Counts, Files, SavedAll, SavesEach, AtMostSaves, FileNames, ToldRefusal, Unsaved, status_of, IsRecorded, Saved, Refusal, OutOfMemory}
use Rattle.log_commands.proofs.StatusesApart.{told-apart}

-- neither a recording that is done, nor one whose texts a write refused
pub none-saved : (status : ℕ) → (IsRecorded status → ⊥) → status ≢ 13 → SavedAll status → ⊥
none-saved status done write (inl is) = done is
none-saved status done write (inr is) = write is

no-write : (status n : ℕ) → status ≡ n → n ≢ 13 → status ≢ 13
no-write status n is other = λ e. omega (arith, e, is, other)

-- the status of a refused save is none of a write's
unsaved-write : (saved : Saved) (names : FileNames) (old new : Option Files) (before now : Counts) (r : Refusal) (status : ℕ) (err_old err_new : Option (List ℕ)) (m n : ℕ)
    → Unsaved (Some saved) names old new before now r → ToldRefusal names r status err_old err_new m n → status ≢ 13
unsaved-write saved names old new before now r status err_old err_new m n (inl (role, is, broke, rose)) (inl h) = no-write status 3 (h.0 ∙ ap status_of is) (λ e. omega (arith, e))
unsaved-write saved names old new before now r status err_old err_new m n (inr (is, broke)) (inl h) = no-write status 9 (h.0 ∙ ap status_of is) (λ e. omega (arith, e))
unsaved-write saved names old new before now r status err_old err_new m n u (inr h) = no-write status 9 h.0 (λ e. omega (arith, e))

-- nor is that of running out of memory
pub memory-saves : (names : FileNames) (status : ℕ) (err_old err_new : Option (List ℕ)) (m n : ℕ) → ToldRefusal names OutOfMemory status err_old err_new m n → SavedAll status → ⊥
memory-saves names status err_old err_new m n told =
    none-saved status (told-apart names OutOfMemory status err_old err_new m n told) (of-memory told)
  where
    of-memory : ToldRefusal names OutOfMemory status err_old err_new m n → status ≢ 13
    of-memory (inl h) = no-write status 9 h.0 (λ e. omega (arith, e))
    of-memory (inr h) = no-write status 9 h.0 (λ e. omega (arith, e))

-- a recording, one of whose saves was refused
pub unsaved-saves : (saved : Saved) (names : FileNames) (old new : Option Files) (before now : Counts) (r : Refusal) (status : ℕ) (err_old err_new : Option (List ℕ)) (m n a b : ℕ) (lean : Bool)
    → Unsaved (Some saved) names old new before now r → ToldRefusal names r status err_old err_new m n → AtMostSaves lean a b → SavesEach lean status a b
unsaved-saves saved names old new before now r status err_old err_new m n a b lean u told few = record {
  few = few;
  all = λ is. absurd (none-saved status (told-apart names r status err_old err_new m n told) (unsaved-write saved names old new before now r status err_old err_new m n u told) is);
}

pub no-saves : (lean : Bool) (before after : ℕ) → after ≡ before → AtMostSaves lean before after
no-saves true before after same = inl same
no-saves false before after same = inl same
