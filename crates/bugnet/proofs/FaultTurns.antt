-- A run that ended by a fault ended with the turn of that fault.
use Rattle.bugnet.proofs.Common.{◌≡◌, ℕ, zero, suc, ◌+◌, ◌-◌, ◌==◌, ◌&&◌, Bool, true, false, List, [], ◌∷◌, ◌++◌, nat_le, nat_lt, Option, Some, None, ◌∙◌, ap, subst, sym, refl, inl, inr, ◌⊎◌, if◌then◌else◌, fault_number, Program, IsSetting, RawSettings, absorbed, Ask, Want, Faulted, total, start, run_from, is_live, legal_from, Run, counted, after_call, after_access, next_of, mark, hart_after, stopped, other_after, harts_after, is_guarded, by_guard, guard_records, guarded_run, serve_orderly, served_if, is_orderly, serve, ask_at, turn, OwnAsksAreOrderly, marks, IsCrash, marks_of, is_fault, is_limit, end_by, ◌||◌}
use Rattle.std.specs.List.{list_any}
use Rattle.bn_base.specs.declared.fault.Fault.{Fault}
use Rattle.bn_base.specs.declared.state.HartState.{HartState}
use Rattle.rv_meaning.specs.declared.asks.Reply.{Reply}
use Rattle.rv_meaning.specs.declared.asks.Reply.TheVariants as replies
use Rattle.system_calls.specs.declared.effect.Plan.{Plan}
use Rattle.system_calls.specs.declared.effect.Plan.TheVariants as plans
use Rattle.run_model.specs.Machine.{answer, call_of}
use Rattle.run_model.specs.declared.hart.Hart.{Hart}
use Rattle.run_model.specs.declared.turn_end.TurnEnd.{TurnEnd}
use Rattle.run_laws.proofs.Converse.{legal_front}
use Rattle.run_model.specs.declared.turn_end.TurnEnd.TheVariants.{GoesOn, NewInterval, HartOver, RunOver}
use Rattle.log_commands.specs.declared.answer.RunEnd.TheVariants as ends

not_both : {P : Type 0} → true ≡ false → P
not_both e = absurd cc

-- ---- a turn without a fault leaves none

-- no hart ended by a fault
abbrev Calm : (ℕ → Hart) → Type 0
Calm harts = (j : ℕ) → is_fault (harts j).mark ≡ false

-- nor does what comes next
abbrev IsCalm : TurnEnd → Type 0
IsCalm GoesOn = Unit {0}
IsCalm (NewInterval reason value) = nat_lt 16 reason ≡ false
IsCalm (HartOver reason value) = nat_lt 16 reason ≡ false
IsCalm (RunOver reason value) = nat_lt 16 reason ≡ false

calm_counted : (c : RawSettings) (h : Hart) (ic : ℕ) → IsCalm (counted c h ic)
calm_counted c h ic = by (nat_le c.limit ic) (nat_le c.interval (ic - h.begun))
  where
    by : (a b : Bool) → IsCalm (elim a as (λ x. TurnEnd) [ true ↦ HartOver 7 0 | false ↦ elim b as (λ x. TurnEnd) [ true ↦ NewInterval 1 0 | false ↦ GoesOn ] ])
    by true b = refl
    by false true = refl
    by false false = tt

calm_access : (c : RawSettings) (h : Hart) (want : Want) (ic : ℕ) → ((kind : Fault) (value : ℕ) → want ≡ Faulted kind value → ⊥) → IsCalm (after_access c h want ic)
calm_access c h (Faulted kind value) ic none = absurd (none kind value refl)
calm_access c h want ic none = calm_counted c h ic

calm_call : (plan : Plan) (reply : Reply) → IsCalm (after_call plan reply)
calm_call (plans.EndHart code) reply = refl
calm_call (plans.EndRun code) reply = refl
calm_call plan (replies.Answer v) = refl
calm_call plan reply = tt

calm_next : (c : RawSettings) (call : Option Plan) (h : Hart) (want : Want) (reply : Reply) (ic : ℕ) → ((kind : Fault) (value : ℕ) → want ≡ Faulted kind value → ⊥) → IsCalm (next_of c call h want reply ic)
calm_next c None h want reply ic none = calm_access c h want ic none
calm_next c (Some plan) h want reply ic none = calm_call plan reply

calm_hart : (next : TurnEnd) (s : HartState) (skipped bytes : ℕ) (h : Hart) → IsCalm next → is_fault h.mark ≡ false → is_fault (hart_after next s skipped bytes h).mark ≡ false
calm_hart GoesOn s skipped bytes h calm e = e
calm_hart next s skipped bytes h calm e = calm

calm_other : (next : TurnEnd) (h : Hart) → is_fault h.mark ≡ false → is_fault (other_after next h).mark ≡ false
calm_other GoesOn h e = e
calm_other (NewInterval reason value) h e = e
calm_other (HartOver reason value) h e = e
calm_other (RunOver reason value) h e = by h.live
  where
    by : (b : Bool) → is_fault (elim b as (λ x. Hart) [ true ↦ record h { live = false; mark = Some (mark h.state.ic 5 0) } | false ↦ h ]).mark ≡ false
    by true = refl
    by false = e

calm_harts : (next : TurnEnd) (k : ℕ) (own : Hart) (harts : ℕ → Hart) → is_fault own.mark ≡ false → Calm harts → Calm (harts_after next k own harts)
calm_harts next k own harts e calm j = by (j == k)
  where
    by : (b : Bool) → is_fault (elim b as (λ x. Hart) [ true ↦ own | false ↦ other_after next (harts j) ]).mark ≡ false
    by true = e
    by false = calm_other next (harts j) (calm j)

calm_guarded : (guarded : Bool) (run : Run) (k : ℕ) (s : HartState) → Calm run.harts → Calm (guarded_run guarded run k s).harts
calm_guarded false run k s calm = calm
calm_guarded true run k s calm =
    let bytes = run.bytes + total (guard_records run k s) in
    calm_harts by_guard k (hart_after by_guard s 0 bytes (run.harts k)) run.harts refl calm

calm_served : (c : RawSettings) (i : Program) (run : Run) (k : ℕ) (ask : Ask) → ((kind : Fault) (value : ℕ) → ask.want ≡ Faulted kind value → ⊥) → Calm run.harts → Calm (serve_orderly c i run k ask).run.harts
calm_served c i run k ask none calm =
    let guarded = is_guarded c run k ask.want in
    let before = guarded_run guarded run k ask.state in
    let quiet = calm_guarded guarded run k ask.state calm in
    let call = call_of i run.machine ask.want in
    let reply = (answer c call run.machine k ask).reply in
    let s = absorbed ask reply in
    let next = next_of c call (before.harts k) ask.want reply s.ic in
    calm_harts next k _ before.harts (calm_hart next s _ _ (before.harts k) (calm_next c call (before.harts k) ask.want reply s.ic none) (quiet k)) quiet

orderly_run : (c : RawSettings) (i : Program) (run : Run) (k : ℕ) (P : Run → Type 0) (b : Bool) → b ≡ true → P (serve_orderly c i run k (ask_at c i (run.harts k))).run → P (served_if b c i run k (ask_at c i (run.harts k))).run
orderly_run c i run k P true e p = p
orderly_run c i run k P false e p = absurd cc

calm_turn : (c : RawSettings) (i : Program) (run : Run) (k : ℕ) → is_orderly c i (run.harts k) (ask_at c i (run.harts k)) ≡ true → ((kind : Fault) (value : ℕ) → (ask_at c i (run.harts k)).want ≡ Faulted kind value → ⊥)
    → Calm run.harts → Calm (turn c i run k).harts
unfolding serve
calm_turn c i run k orderly none calm = orderly_run c i run k (λ x. Calm x.harts) (is_orderly c i (run.harts k) (ask_at c i (run.harts k))) orderly (calm_served c i run k (ask_at c i (run.harts k)) none calm)

-- ---- a turn with a fault ends the run

abbrev AreDead : (ℕ → Hart) → Type 0
AreDead harts = (j : ℕ) → (harts j).live ≡ false

dead_harts : (next : TurnEnd) (reason value k : ℕ) (s : HartState) (skipped bytes : ℕ) (h : Hart) (harts : ℕ → Hart) → next ≡ RunOver reason value → AreDead (harts_after next k (hart_after next s skipped bytes h) harts)
dead_harts next reason value k s skipped bytes h harts e = subst (λ (n : TurnEnd). AreDead (harts_after n k (hart_after n s skipped bytes h) harts)) (sym e) (λ j. by (j == k) j)
  where
    over : (x : Hart) (b : Bool) → x.live ≡ b → (elim b as (λ y. Hart) [ true ↦ record x { live = false; mark = Some (mark x.state.ic 5 0) } | false ↦ x ]).live ≡ false
    over x true e = refl
    over x false e = e

    by : (b : Bool) (j : ℕ) → (elim b as (λ y. Hart) [ true ↦ hart_after (RunOver reason value) s skipped bytes h | false ↦ stopped (harts j) ]).live ≡ false
    by true j = refl
    by false j = over (harts j) (harts j).live refl

fault_next : (c : RawSettings) (i : Program) (run : Run) (h : Hart) (want : Want) (reply : Reply) (ic value : ℕ) (kind : Fault) → want ≡ Faulted kind value
    → next_of c (call_of i run.machine want) h want reply ic ≡ RunOver (16 + fault_number kind) value
fault_next c i run h want reply ic value kind e = ap (λ (w : Want). next_of c (call_of i run.machine w) h w reply ic) e

dead_served : (c : RawSettings) (i : Program) (run : Run) (k : ℕ) (ask : Ask) (kind : Fault) (value : ℕ) → ask.want ≡ Faulted kind value → AreDead (serve_orderly c i run k ask).run.harts
dead_served c i run k ask kind value e =
    let before = guarded_run (is_guarded c run k ask.want) run k ask.state in
    let call = call_of i run.machine ask.want in
    let reply = (answer c call run.machine k ask).reply in
    let s = absorbed ask reply in
    dead_harts (next_of c call (before.harts k) ask.want reply s.ic) (16 + fault_number kind) value k s _ _ (before.harts k) before.harts (fault_next c i run (before.harts k) ask.want reply s.ic value kind e)

dead_turn : (c : RawSettings) (i : Program) (run : Run) (k : ℕ) (kind : Fault) (value : ℕ) → is_orderly c i (run.harts k) (ask_at c i (run.harts k)) ≡ true → (ask_at c i (run.harts k)).want ≡ Faulted kind value → AreDead (turn c i run k).harts
unfolding serve
dead_turn c i run k kind value orderly e = orderly_run c i run k (λ x. AreDead x.harts) (is_orderly c i (run.harts k) (ask_at c i (run.harts k))) orderly (dead_served c i run k (ask_at c i (run.harts k)) kind value e)

-- ---- a list of turns

-- a list's last turn, and its only one, is a fault
record Crashed (c : RawSettings) (i : Program) (run : Run) (b : List ℕ) : Type 0 where
  pub before : List ℕ
  pub hart : ℕ
  pub kind : Fault
  pub value : ℕ
  pub turns_are : b ≡ before ++ hart ∷ []
  pub want : (ask_at c i ((run_from c i run before).harts hart)).want ≡ Faulted kind value

-- each turn's ask is orderly
abbrev AreOrderly : RawSettings → Program → Run → List ℕ → Type 0
AreOrderly c i run b = (before : List ℕ) (k : ℕ) (later : List ℕ) → b ≡ before ++ k ∷ later → let h = (run_from c i run before).harts k in is_orderly c i h (ask_at c i h) ≡ true

abbrev IsFaulted : Want → Type 0
IsFaulted want = (kind : Fault) × (value : ℕ) × (want ≡ Faulted kind value)

abbrev IsUnfaulted : Want → Type 0
IsUnfaulted want = (kind : Fault) (value : ℕ) → want ≡ Faulted kind value → ⊥

faulted_or : (want : Want) → IsFaulted want ⊎ IsUnfaulted want
faulted_or (Faulted kind value) = inl (kind, value, refl)
faulted_or want = inr (λ kind value e. absurd cc)

later_legal : (b legal : Bool) → elim b as (λ x. Bool) [ true ↦ legal | false ↦ false ] ≡ true → (b ≡ true) × (legal ≡ true)
later_legal true legal e = (refl, e)
later_legal false legal e = absurd cc

not_live : (there live : Bool) → live ≡ false → (there && live) ≡ true → ⊥
not_live true live dead e = not_both (sym e ∙ dead)
not_live false live dead e = absurd cc

-- nothing is legal once no hart is live
last_turn : (c : RawSettings) (i : Program) (run : Run) (ks : List ℕ) → AreDead run.harts → legal_from c i run ks ≡ true → ks ≡ []
last_turn c i run [] dead legal = refl
last_turn c i run (j ∷ ks) dead legal = absurd (not_live (nat_lt j c.harts) (run.harts j).live (dead j) (later_legal (is_live c run j) (legal_from c i (turn c i run j) ks) legal).0)

crashed_or : (c : RawSettings) (i : Program) (run : Run) (b : List ℕ) → AreOrderly c i run b → legal_from c i run b ≡ true → Calm run.harts → Calm (run_from c i run b).harts ⊎ Crashed c i run b
crashed_or c i run [] orderly legal calm = inl calm
crashed_or c i run (k ∷ ks) orderly legal calm = by (faulted_or (ask_at c i (run.harts k)).want) (λ none. crashed_or c i (turn c i run k) ks asks rest (calm_turn c i run k own none calm))
  where
    own : is_orderly c i (run.harts k) (ask_at c i (run.harts k)) ≡ true
    own = orderly [] k ks refl

    asks : AreOrderly c i (turn c i run k) ks
    asks before j later e = orderly (k ∷ before) j later (ap (λ (xs : List ℕ). k ∷ xs) e)

    rest : legal_from c i (turn c i run k) ks ≡ true
    rest = (later_legal (is_live c run k) (legal_from c i (turn c i run k) ks) legal).1

    add : Calm (run_from c i (turn c i run k) ks).harts ⊎ Crashed c i (turn c i run k) ks → Calm (run_from c i (turn c i run k) ks).harts ⊎ Crashed c i run (k ∷ ks)
    add (inl calm) = inl calm
    add (inr x) = inr (record { before = k ∷ x.before; hart = x.hart; kind = x.kind; value = x.value; turns_are = ap (λ (xs : List ℕ). k ∷ xs) x.turns_are; want = x.want })

    by : IsFaulted (ask_at c i (run.harts k)).want ⊎ IsUnfaulted (ask_at c i (run.harts k)).want
        → (IsUnfaulted (ask_at c i (run.harts k)).want → Calm (run_from c i (turn c i run k) ks).harts ⊎ Crashed c i (turn c i run k) ks) → Calm (run_from c i (turn c i run k) ks).harts ⊎ Crashed c i run (k ∷ ks)
    by (inl f) go =
        let none : ks ≡ [] = last_turn c i (turn c i run k) ks (dead_turn c i run k f.0 f.1 own f.2) rest in
        inr (record { before = []; hart = k; kind = f.0; value = f.1; turns_are = ap (λ (xs : List ℕ). k ∷ xs) none; want = f.2 })
    by (inr none) go = add (go none)

-- ---- the whole run

no_fault : (n k : ℕ) (harts : ℕ → Hart) → Calm harts → list_any is_fault (marks k n harts) ≡ false
no_fault zero k harts calm = refl
no_fault (suc n) k harts calm = either (is_fault (harts k).mark) (list_any is_fault (marks (k + 1) n harts)) (calm k) (no_fault n (k + 1) harts calm)
  where
    either : (a b : Bool) → a ≡ false → b ≡ false → (a || b) ≡ false
    either false b e f = f
    either true b e f = absurd cc

any_fault : (fault limit : Bool) → (if fault then ends.Fault else if limit then ends.Limit else ends.Done) ≡ ends.Fault → fault ≡ true
any_fault true limit e = refl
any_fault false true e = absurd cc
any_fault false false e = absurd cc

pub is-crash : OwnAsksAreOrderly → (c : RawSettings) (i : Program) (input b : List ℕ) → IsSetting c → legal_from c i (start c i input) b ≡ true → end_by (marks_of c (run_from c i (start c i input) b)) ≡ ends.Fault
    → IsCrash c i input b
is-crash asks c i input b setting legal e = by (crashed_or c i (start c i input) b orderly legal (λ j. refl))
  where
    orderly : AreOrderly c i (start c i input) b
    orderly before k later q = asks c i input before k setting (legal_front c i (start c i input) before (k ∷ later) (subst (λ (xs : List ℕ). legal_from c i (start c i input) xs ≡ true) q legal))

    by : Calm (run_from c i (start c i input) b).harts ⊎ Crashed c i (start c i input) b → IsCrash c i input b
    by (inl calm) =
        let run = run_from c i (start c i input) b in
        let some = any_fault (list_any is_fault (marks_of c run)) (list_any is_limit (marks_of c run)) e in
        not_both (sym some ∙ no_fault c.harts 0 run.harts calm)
    by (inr x) = record { before = x.before; hart = x.hart; kind = x.kind; value = x.value; turns_are = x.turns_are; want = x.want }
