-- The lists that numbers draw.
use Rattle.whole_runs.proofs.Common.{◌≡◌, ℕ, zero, suc, ◌-◌, ◌<◌, Bool, true, false, ◌&&◌, nat_lt, List, [], ◌∷◌, ◌++◌, length, length-append, refl, sym, ◌∙◌, ap, arith, Program, RawSettings, Run, turn, is_live, any_live, live_harts, most_turns, Began, first_run, list_run, drawn, current, taker, after, drawn_from, drawn_of, drawn_after, Drawing}
use Rattle.bn_outside.specs.declared.schedule.Manner.{Manner}
use Rattle.bus_core.proofs.Rows.{second_of}
use Rattle.whole_runs.proofs.Live.{any_one, live_of}
use Rattle.whole_runs.proofs.Rows.{run_snoc}

-- ---- whose burst it is, or who sleeps

pub goes_on_any : (c : RawSettings) (run : Run) (left k : ℕ) → k < c.harts → (nat_lt 0 left && is_live c run k) ≡ true → any_live c.harts run.harts ≡ true
goes_on_any c run left k within e = any_one c.harts run.harts k within (live_of c run k (second_of (nat_lt 0 left) (is_live c run k) e))

pub current_same : (m : Manner) (c : RawSettings) (run : Run) (d : Drawing) → (nat_lt 0 d.left && is_live c run d.hart) ≡ true → d ≡ current m c run d
current_same m c run d e = sym (ap (λ (b : Bool). elim b as (λ z. Drawing) [ true ↦ d | false ↦ drawn m (live_harts 0 c.harts run.harts) d ]) e)

pub current_other : (m : Manner) (c : RawSettings) (run : Run) (d : Drawing) → (nat_lt 0 d.left && is_live c run d.hart) ≡ false → drawn m (live_harts 0 c.harts run.harts) d ≡ current m c run d
current_other m c run d e = sym (ap (λ (b : Bool). elim b as (λ z. Drawing) [ true ↦ d | false ↦ drawn m (live_harts 0 c.harts run.harts) d ]) e)

-- ---- the turns

pub drawn_first : (m : Manner) (c : RawSettings) (i : Program) (run : Run) (d : Drawing) (n : ℕ) → any_live c.harts run.harts ≡ true
    → let now = current m c run d in let k = taker m c run now in drawn_from m c i run d (suc n) ≡ k ∷ drawn_from m c i (turn c i run k) (after m now) n
drawn_first m c i run d n e =
    let now = current m c run d in
    let k = taker m c run now in
    ap (λ (b : Bool). elim b as (λ z. List ℕ) [ true ↦ k ∷ drawn_from m c i (turn c i run k) (after m now) n | false ↦ [] ]) e

pub drawn_none : (m : Manner) (c : RawSettings) (i : Program) (run : Run) (d : Drawing) (n : ℕ) → any_live c.harts run.harts ≡ false → drawn_from m c i run d n ≡ []
drawn_none m c i run d zero e = refl
drawn_none m c i run d (suc n) e =
    let now = current m c run d in
    let k = taker m c run now in
    ap (λ (b : Bool). elim b as (λ z. List ℕ) [ true ↦ k ∷ drawn_from m c i (turn c i run k) (after m now) n | false ↦ [] ]) e

-- the next turn of those to come
drawn_more : (m : Manner) (b : Began) (list : List ℕ) (d : Drawing) → length list < most_turns b.settings → any_live b.settings.harts (list_run b list).harts ≡ true
    → let now = current m b.settings (list_run b list) d in let k = taker m b.settings (list_run b list) now in drawn_after m b list d ≡ k ∷ drawn_after m b (list ++ k ∷ []) (after m now)
drawn_more m b list d few any =
    let run = list_run b list in
    let now = current m b.settings run d in
    let k = taker m b.settings run now in
    let rest = most_turns b.settings - length (list ++ k ∷ []) in
    let less : most_turns b.settings - length list ≡ suc rest = omega (arith, few, length-append list (k ∷ [])) in
    ap (λ (n : ℕ). drawn_from m b.settings b.image run d n) less
    ∙ drawn_first m b.settings b.image run d rest any
    ∙ ap (λ (r : Run). k ∷ drawn_from m b.settings b.image r (after m now) rest) (sym (run_snoc b.settings b.image (first_run b) list k))

-- ... as a bus chose it
pub turn_drawn : (m : Manner) (b : Began) (list : List ℕ) (d e : Drawing) (k : ℕ) → length list < most_turns b.settings → any_live b.settings.harts (list_run b list).harts ≡ true → k ≡ taker m b.settings (list_run b list) (current m b.settings (list_run b list) d)
    → e ≡ after m (current m b.settings (list_run b list) d) → drawn_after m b list d ≡ k ∷ drawn_after m b (list ++ k ∷ []) e
turn_drawn m b list d e k few any is then_is =
    let now = current m b.settings (list_run b list) d in
    drawn_more m b list d few any ∙ ap (λ (j : ℕ). j ∷ drawn_after m b (list ++ j ∷ []) (after m now)) (sym is) ∙ ap (λ (x : Drawing). k ∷ drawn_after m b (list ++ k ∷ []) x) (sym then_is)

-- before the first turn
pub drawn_at_first : (m : Manner) (b : Began) (number : ℕ) → drawn_after m b [] (record { hart = 0; left = 0; number = number }) ≡ drawn_of m b number
drawn_at_first m b number =
    let same : most_turns b.settings - 0 ≡ most_turns b.settings = omega arith in
    ap (λ (n : ℕ). drawn_from m b.settings b.image (first_run b) (record { hart = 0; left = 0; number = number }) n) same
