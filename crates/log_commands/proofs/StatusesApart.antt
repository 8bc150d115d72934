-- No refusal has the status of a recording that is done.
use Rattle.log_commands.proofs.Common.{◌≡◌, ◌≢◌, ℕ, List, Option, ◌∙◌, subst, sym, refl, arith, inl, inr, ReplayError, FileNames, status_of, replay_status, Told, refused, ToldRefusal, IsRecorded, Refusal, OutOfMemory, ReplayStopped}
use Rattle.hart_replay.specs.declared.error.ReplayError.TheVariants as replay

-- ---- no refusal has the status of a recording

pub apart : (status n : ℕ) → status ≡ n → n ≢ 0 → n ≢ 10 → n ≢ 11 → IsRecorded status → ⊥
apart status n is a b c (inl e) = a (sym is ∙ e)
apart status n is a b c (inr (inl e)) = b (sym is ∙ e)
apart status n is a b c (inr (inr e)) = c (sym is ∙ e)

replays-apart : (e : ReplayError) → IsRecorded (replay_status e) → ⊥
replays-apart (replay.NoInterval hart interval) is = apart 14 14 refl (λ e. omega (arith, e)) (λ e. omega (arith, e)) (λ e. omega (arith, e)) is
replays-apart replay.OutOfMemory is = apart 9 9 refl (λ e. omega (arith, e)) (λ e. omega (arith, e)) (λ e. omega (arith, e)) is
replays-apart other is = apart 15 15 refl (λ e. omega (arith, e)) (λ e. omega (arith, e)) (λ e. omega (arith, e)) is

refusals-apart : (r : Refusal) → IsRecorded (status_of r) → ⊥
refusals-apart (ReplayStopped e) is = replays-apart e is
refusals-apart r is = apart (status_of r) (status_of r) refl (λ e. omega (arith, e)) (λ e. omega (arith, e)) (λ e. omega (arith, e)) is

-- the status of a refusal that was told
pub told-apart : (names : FileNames) (r : Refusal) (status : ℕ) (err_old err_new : Option (List ℕ)) (before now : ℕ) → ToldRefusal names r status err_old err_new before now → IsRecorded status → ⊥
told-apart names r status err_old err_new before now (inl h) is = refusals-apart r (subst (λ (n : ℕ). IsRecorded n) h.0 is)
told-apart names r status err_old err_new before now (inr h) is = refusals-apart OutOfMemory (subst (λ (n : ℕ). IsRecorded n) h.0 is)

pub refused-apart : (names : FileNames) (r : Refusal) (what : Told) → what ≡ refused names r → IsRecorded what.status → ⊥
unfolding refused
refused-apart names r what e is = refusals-apart r (subst (λ (t : Told). IsRecorded t.status) e is)
