-- A hart that asks what it asks next.
use Rattle.bus_core.proofs.Common.{◌≡◌, ℕ, ◌<◌, List, length, subst, Bool, true, false, not, ◌||◌, refl, sym, ◌∙◌, ap, get_or_from_slice_get, Ask, Reply, Hart, AreHarts, hart_in, no_hart, PlainParts, IsRun, Run, ask_at, is_orderly, Began, IsState, Seen, TurnRow, row, seen, turn_row, served_reply, served_guarded}
use Rattle.run_model.specs.Represents.Turning.{is_live}
use Rattle.bus_core.proofs.Rows.{live_within}

-- a hart of the list is that of each run
hart_at : (hs : List Hart) (f : ℕ → Hart) (k : ℕ) → AreHarts hs f → k < length hs → hart_in hs k ≡ f k
hart_at hs f k are within = get_or_from_slice_get hs k (f k) no_hart (are k within)

pub hart_seen : (p : PlainParts) (s : Seen) (run : Run) (h d : Bool) (told : List TurnRow) (k : ℕ) → length p.trace.harts.items ≡ p.start.settings.harts → seen p h d told ≡ s → IsState s run → k < s.began.settings.harts
    → hart_in p.trace.harts.items k ≡ run.harts k
hart_seen p s run h d told k len e is within =
    let at : IsState (seen p h d told) run = subst (λ (x : Seen). IsState x run) (sym e) is in
    hart_at p.trace.harts.items run.harts k at.harts (subst (λ n. k < n) (sym len) (subst (λ (x : Seen). k < x.began.settings.harts) (sym e) within))

-- so is a live one
hart_is : (p : PlainParts) (run : Run) (k : ℕ) → IsRun p run → is_live p k ≡ true → hart_in p.trace.harts.items k ≡ run.harts k
hart_is p run k is live = hart_at p.trace.harts.items run.harts k is.trace.harts (live_within p.trace.harts.items k live)

-- what it asks next is that of each run, and orderly
pub ask_is : (p : PlainParts) (run : Run) (k : ℕ) (ask : Ask) → IsRun p run → is_live p k ≡ true → ask ≡ ask_at p.start.settings p.start.image (hart_in p.trace.harts.items k) → ask ≡ ask_at p.start.settings p.start.image (run.harts k)
ask_is p run k ask is live e = e ∙ ap (λ (h : Hart). ask_at p.start.settings p.start.image h) (hart_is p run k is live)

pub own_orderly : (p : PlainParts) (run : Run) (k : ℕ) (ask : Ask) → IsRun p run → is_live p k ≡ true → is_orderly p.start.settings p.start.image (hart_in p.trace.harts.items k) ask ≡ true → true ≡ is_orderly p.start.settings p.start.image (run.harts k) ask
own_orderly p run k ask is live o = sym o ∙ ap (λ (h : Hart). is_orderly p.start.settings p.start.image h ask) (hart_is p run k is live)

-- the row of a turn
pub row_is : (b : Began) (run : Run) (k : ℕ) (ask : Ask) (reply : Reply) (guarded : Bool) → ask ≡ ask_at b.settings b.image (run.harts k) → reply ≡ served_reply b run k ask → guarded ≡ served_guarded b run k ask → row k ask reply guarded ≡ turn_row b run k
row_is b run k ask reply guarded ea er eg =
    ap (λ (r : Reply). row k ask r guarded) er
    ∙ ap (λ (g : Bool). row k ask (served_reply b run k ask) g) eg
    ∙ ap (λ (a : Ask). row k a (served_reply b run k a) (served_guarded b run k a)) ea

-- an orderly ask leaves the flag
pub or_not_true : (d : Bool) → d ≡ (d || not true)
or_not_true true = refl
or_not_true false = refl
