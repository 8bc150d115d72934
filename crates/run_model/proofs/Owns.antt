-- The hart whose turn it was, put together from the steps of the code.
use Rattle.run_model.proofs.Common.{◌≡◌, ℕ, ◌<◌, List, length, refl, ◌∙◌, ap, Option, Some, None, get_or, slice_get-get_or, get_or_from_slice_get, RawSettings, HartState, Want, Load, Store, LoadReserved, StoreConditional, Amo, System, Cut, Faulted, Reply, Plan, Warm, Hart, TurnEnd, GoesOn, NewInterval, HartOver, RunOver, next_of, hart_after, skipped_after, AreHarts, hart_in}

-- a hart of the list
pub hart_at : (hs : List Hart) (k : ℕ) (x : Hart) → k < length hs → x ≡ get_or hs k x → x ≡ hart_in hs k
hart_at hs k x within e = e ∙ get_or_from_slice_get hs k (hart_in hs k) x (slice_get-get_or hs k _ within)

-- a hart of the run that the list represents
pub hart_of_run : (hs : List Hart) (k : ℕ) (f : ℕ → Hart) → AreHarts hs f → k < length hs → hart_in hs k ≡ f k
hart_of_run hs k f are within = get_or_from_slice_get hs k (f k) _ (are k within)

after_same : (next : TurnEnd) (s : HartState) (skipped bytes : ℕ) (h : Hart) → hart_after next s skipped bytes (record h { state = s }) ≡ hart_after next s skipped bytes h
after_same GoesOn s skipped bytes h = refl
after_same (NewInterval reason value) s skipped bytes h = refl
after_same (HartOver reason value) s skipped bytes h = refl
after_same (RunOver reason value) s skipped bytes h = refl

pub next_same : (c : RawSettings) (call : Option Plan) (want : Want) (reply : Reply) (h : Hart) (s : HartState) (ic : ℕ) → next_of c call (record h { state = s }) want reply ic ≡ next_of c call h want reply ic
next_same c (Some plan) want reply h s ic = refl
next_same c None (Load addr width signed rd) reply h s ic = refl
next_same c None (Store addr width value) reply h s ic = refl
next_same c None (LoadReserved addr rd) reply h s ic = refl
next_same c None (StoreConditional addr rd value) reply h s ic = refl
next_same c None (Amo addr op rd value) reply h s ic = refl
next_same c None (System number args) reply h s ic = refl
next_same c None Cut reply h s ic = refl
next_same c None (Faulted kind value) reply h s ic = refl

-- what comes next, by the hart in its new state
pub next_here : (c : RawSettings) (call : Option Plan) (want : Want) (reply : Reply) (x a : Hart) (s : HartState) (n : TurnEnd) → a ≡ record x { state = s } → n ≡ next_of c call a want reply a.state.ic → n ≡ next_of c call x want reply s.ic
next_here c call want reply x a s n ea en =
    en ∙ ap (λ (y : Hart). next_of c call y want reply y.state.ic) ea ∙ next_same c call want reply x s s.ic

-- the hart itself, put together in its place
pub own_here : (load : Option Warm) (x a own : Hart) (s : HartState) (n : TurnEnd) (k bytes : ℕ) → a ≡ record x { state = s } → k ≡ skipped_after load x.skipped
    → own ≡ hart_after n a.state k bytes a → own ≡ hart_after n s (skipped_after load x.skipped) bytes x
own_here load x a own s n k bytes ea ek eo =
    eo ∙ ap (λ (j : ℕ). hart_after n a.state j bytes a) ek
    ∙ ap (λ (y : Hart). hart_after n y.state (skipped_after load x.skipped) bytes y) ea
    ∙ after_same n s (skipped_after load x.skipped) bytes x

-- the hart after its turn, whatever the records took in since
pub own_after : (load : Option Warm) (x h own : Hart) (s : HartState) (n m : TurnEnd) (old new : ℕ) → x ≡ h → n ≡ m → own ≡ hart_after n s (skipped_after load x.skipped) old x
    → hart_after n s (skipped_after load x.skipped) old x ≡ hart_after n s (skipped_after load x.skipped) new x → own ≡ hart_after m s (skipped_after load h.skipped) new h
own_after load x h own s n m old new ex en eo headed =
    eo ∙ headed ∙ ap (λ (k : TurnEnd). hart_after k s (skipped_after load x.skipped) new x) en ∙ ap (λ (y : Hart). hart_after m s (skipped_after load y.skipped) new y) ex
