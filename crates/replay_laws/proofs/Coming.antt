-- The first loads and the end that are still to come for a hart.
use Rattle.replay_laws.proofs.Common.{◌≡◌, ℕ, zero, suc, ◌+◌, ◌<◌, ◌≤◌, Bool, true, false, List, [], ◌∷◌, Option, Some, None, refl, sym, ◌∙◌, ap, arith, subst, inl, inr, ◌==◌, ◌≢◌, false≢true, eqb_tells, Program, EndMark, RawSettings, Reply, Warm, Logged, puts, Hart, TurnEnd, GoesOn, RunOver, Run, load_record, skipped_after, sc_record, hart_after, any_live, or_parts}
use Rattle.rv_meaning.specs.declared.asks.Reply.TheVariants as replies
use Rattle.first_load_bits.specs.declared.warm.Warm.TheVariants as answers
use Rattle.replay_laws.proofs.Counts.{Fit, Move, Moves, moved_run, next_by, state_by, skip_by, warmth_by, reply_by, word_at, log_from, own_turn_log, other_turn_log, own_bounds, own_harts, other_harts, own_fit}
use Rattle.replay_laws.proofs.Places.{Ahead}
use Rattle.replay_laws.proofs.Step.{put_load, with_sc}
use Rattle.replay_laws.proofs.Turns.{end_log}
use Rattle.replay_laws.proofs.Way.{Sound}

-- a list of moves that is legal and finished
abbrev pub IsServed : RawSettings → Program → Run → List Move → Type 0
IsServed c i run [] = any_live c.harts run.harts ≡ false
IsServed c i run (Moves guard k ∷ ks) = (k < c.harts) × ((run.harts k).live ≡ true) × IsServed c i (moved_run c i guard run k) ks

-- ---- what a move's own records leave

ahead_less : (s : ℕ) (ls : List (ℕ × ℕ)) → Ahead (s + 1) ls → Ahead s ls
ahead_less s [] a = tt
ahead_less s (r ∷ rs) a = omega (arith, a)

load_first : (o : Option Warm) (h s x : ℕ) (l : Logged) → Ahead (skipped_after o s) l.loads → Ahead s (puts h (load_record o h s x) l).loads
load_first None h s x l a = a
load_first (Some answers.Warm) h s x l a = ahead_less s l.loads a
load_first (Some answers.Cold) h s x l a = subst (λ (y : Logged). Ahead s y.loads) (sym (put_load h s x l)) (omega arith)

load_mark : (o : Option Warm) (h s x : ℕ) (l : Logged) → (puts h (load_record o h s x) l).mark ≡ l.mark
load_mark (Some answers.Cold) h s x l = ap (λ (y : Logged). y.mark) (put_load h s x l)
load_mark o h s x l = refl

abbrev sc_if : Bool → Bool → Logged → Logged
sc_if b x l = elim b [ true ↦ with_sc x l | false ↦ l ]

sc_put : (b x : Bool) (l : Logged) → ((sc_if b x l).loads ≡ l.loads) × ((sc_if b x l).mark ≡ l.mark)
sc_put true x l = (refl, refl)
sc_put false x l = (refl, refl)

sc_keeps : (r : Reply) (h : ℕ) (l : Logged) → ((puts h (sc_record r h) l).loads ≡ l.loads) × ((puts h (sc_record r h) l).mark ≡ l.mark)
sc_keeps replies.ScOk h l = sc_put (h == h) true l
sc_keeps replies.ScFailed h l = sc_put (h == h) false l
sc_keeps r h l = (refl, refl)

-- the End to come, where h's move is next
pub own_mark : (c : RawSettings) (i : Program) (guard : Bool) (run : Run) (ks : List Move) (h : ℕ)
    → (log_from c i run (Moves guard h ∷ ks) h).mark ≡ (end_log (next_by c i guard run h) (state_by c i guard run h) (log_from c i (moved_run c i guard run h) ks h)).mark
own_mark c i guard run ks h =
    let en : Logged = end_log (next_by c i guard run h) (state_by c i guard run h) (log_from c i (moved_run c i guard run h) ks h) in
    ap (λ (y : Logged). y.mark) (own_turn_log c i guard run ks h)
    ∙ (load_mark (warmth_by c i guard run h) h (run.harts h).skipped (word_at c i run h) (puts h (sc_record (reply_by c i guard run h) h) en)
    ∙ (sc_keeps (reply_by c i guard run h) h en).1)

-- ---- what is to come

-- the first FirstLoad to come has at least the present skip, and the End isn't before the present count
abbrev pub Coming : Hart → Logged → Type 0
Coming t l = Ahead t.skipped l.loads × (t.state.ic ≤ l.mark.ic)

own_coming : (c : RawSettings) (i : Program) (guard : Bool) (run : Run) (ks : List Move) (h : ℕ) (n : TurnEnd) → next_by c i guard run h ≡ n
    → Ahead (skip_by c i guard run h) (end_log n (state_by c i guard run h) (log_from c i (moved_run c i guard run h) ks h)).loads
    → (run.harts h).state.ic ≤ (end_log n (state_by c i guard run h) (log_from c i (moved_run c i guard run h) ks h)).mark.ic → Coming (run.harts h) (log_from c i run (Moves guard h ∷ ks) h)
own_coming c i guard run ks h n e a b =
    let t : Hart = run.harts h in
    let o : Option Warm = warmth_by c i guard run h in
    let x : ℕ = word_at c i run h in
    let r : Reply = reply_by c i guard run h in
    let en : Logged = end_log n (state_by c i guard run h) (log_from c i (moved_run c i guard run h) ks h) in
    let sc : Logged = puts h (sc_record r h) en in
    let k = sc_keeps r h en in
    let first : Ahead t.skipped (puts h (load_record o h t.skipped x) sc).loads = load_first o h t.skipped x sc (subst (Ahead (skip_by c i guard run h)) (sym k.0) a) in
    let mark : (puts h (load_record o h t.skipped x) sc).mark ≡ en.mark = load_mark o h t.skipped x sc ∙ k.1 in
    let last : t.state.ic ≤ (puts h (load_record o h t.skipped x) sc).mark.ic = subst (λ (y : EndMark). t.state.ic ≤ y.ic) (sym mark) b in
    let whole : log_from c i run (Moves guard h ∷ ks) h ≡ puts h (load_record o h t.skipped x) sc =
    own_turn_log c i guard run ks h
    ∙ ap (λ y. puts h (load_record o h t.skipped x) (puts h (sc_record r h) (end_log y (state_by c i guard run h) (log_from c i (moved_run c i guard run h) ks h)))) e in
    subst (λ (y : Logged). Coming t y) (sym whole) (first, last)

-- if no hart is live, h isn't
pub no_live : (n h : ℕ) (harts : ℕ → Hart) → h < n → (harts h).live ≡ true → any_live n harts ≡ false → false ≡ true
no_live zero h harts b e f = absurd (omega arith)
no_live (suc n) h harts b e f = elim (eqb_tells n h) [
  | inl p ↦ sym (or_parts (harts n).live (any_live n harts) f).0 ∙ (ap (λ x. (harts x).live) p.1 ∙ e)
  | inr p ↦ no_live n h harts (let q : n ≢ h = p.1 in omega (arith, q)) e (or_parts (harts n).live (any_live n harts) f).1
]

pub equal_flip : (k h : ℕ) → k ≢ h → (h == k) ≡ false
equal_flip k h p = elim (eqb_tells h k) [ inl q ↦ absurd (p (sym q.1)) | inr q ↦ q.0 ]

coming_own : (n : TurnEnd) (c : RawSettings) (i : Program) (guard : Bool) (h : ℕ) (ks : List Move) (run : Run) → Sound c i → Fit c (run.harts h) → next_by c i guard run h ≡ n
    → (Fit c ((moved_run c i guard run h).harts h) → Coming ((moved_run c i guard run h).harts h) (log_from c i (moved_run c i guard run h) ks h)) → Coming (run.harts h) (log_from c i run (Moves guard h ∷ ks) h)
coming_own GoesOn c i guard h ks run z f e rest =
    let r : Coming (hart_after GoesOn (state_by c i guard run h) (skip_by c i guard run h) (moved_run c i guard run h).bytes (run.harts h)) (log_from c i (moved_run c i guard run h) ks h) =
    subst (λ (x : Hart). Coming x (log_from c i (moved_run c i guard run h) ks h)) (own_harts c i guard run h GoesOn e) (rest (own_fit c i guard run h z e f)) in
    own_coming c i guard run ks h GoesOn e r.0 (omega (arith, r.1, (own_bounds c i guard run h z f).0))
coming_own n c i guard h ks run z f e rest = own_coming c i guard run ks h n e tt (own_bounds c i guard run h z f).0

-- another's move leaves the hart, and what is to come
coming_past : (c : RawSettings) (i : Program) (guard : Bool) (h k : ℕ) (ks : List Move) (run : Run) → Fit c (run.harts h) → (moved_run c i guard run k).harts h ≡ run.harts h
    → log_from c i run (Moves guard k ∷ ks) h ≡ log_from c i (moved_run c i guard run k) ks h
    → (Fit c ((moved_run c i guard run k).harts h) → Coming ((moved_run c i guard run k).harts h) (log_from c i (moved_run c i guard run k) ks h)) → Coming (run.harts h) (log_from c i run (Moves guard k ∷ ks) h)
coming_past c i guard h k ks run f is log rest =
    let r = rest (subst (λ (x : Hart). Fit c x) (sym is) f) in
    subst (λ (x : Logged). Coming (run.harts h) x) (sym log) (subst (λ (x : Hart). Coming x (log_from c i (moved_run c i guard run k) ks h)) is r)

coming_other : (n : TurnEnd) (c : RawSettings) (i : Program) (guard : Bool) (h k : ℕ) (ks : List Move) (run : Run) → (k == h) ≡ false → (h == k) ≡ false → h < c.harts → Fit c (run.harts h)
    → next_by c i guard run k ≡ n → (Fit c ((moved_run c i guard run k).harts h) → Coming ((moved_run c i guard run k).harts h) (log_from c i (moved_run c i guard run k) ks h))
    → Coming (run.harts h) (log_from c i run (Moves guard k ∷ ks) h)
coming_other (RunOver y x) c i guard h k ks run p q b f e rest =
    subst (λ (z : Logged). Coming (run.harts h) z) (sym (other_turn_log c i guard run ks h k (RunOver y x) e p q f.live b)) (tt, omega arith)
coming_other n c i guard h k ks run p q b f e rest =
    coming_past c i guard h k ks run f (other_harts c i guard run h k n e q) (other_turn_log c i guard run ks h k n e p q f.live b) rest

pub coming : (c : RawSettings) (i : Program) (h : ℕ) (ks : List Move) (run : Run) → Sound c i → h < c.harts → IsServed c i run ks → Fit c (run.harts h)
    → Coming (run.harts h) (log_from c i run ks h)
coming c i h [] run z g e f = absurd (false≢true (no_live c.harts h run.harts g f.live e))
coming c i h (Moves guard k ∷ ks) run z g e f = elim (eqb_tells k h) [
  | inl p ↦ subst (λ (j : ℕ). IsServed c i (moved_run c i guard run j) ks → Coming (run.harts h) (log_from c i run (Moves guard j ∷ ks) h)) (sym p.1)
      (λ d. coming_own (next_by c i guard run h) c i guard h ks run z f refl (λ y. coming c i h ks (moved_run c i guard run h) z g d y)) e.2
  | inr p ↦ coming_other (next_by c i guard run k) c i guard h k ks run p.0 (equal_flip k h p.1) g f refl (λ y. coming c i h ks (moved_run c i guard run k) z g e.2 y)
]
