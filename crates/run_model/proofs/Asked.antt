-- What is traced while a hart's orderly ask is answered, its next interval begun if the guard asks for it.
use Rattle.run_model.proofs.Common.{◌≡◌, ◌≢◌, ℕ, zero, suc, ◌+◌, ◌-◌, ◌*◌, ◌^◌, ◌<◌, ◌≤◌, ◌==◌, Bool, true, false, length, sym, ◌∙◌, ap, subst, arith, refl, inl, inr, IsTrue, if◌then◌else◌, Option, Some, None, [], eqb_tells, mul-le, Program, IsSetting, RawSettings, HARTS, is_cut, Ask, Shadow, harts_of, lasts, next_turn, next_count, Hart, Trace, is_orderly, start_machine, most_turns, IsFit, IsRested, EachTurnMovesOn, GuardedAsksFit, anew, turns_left, steps_in, touches, hart_in, all_left, taken, IsTraceFit, IsHartFit}
use Rattle.run_model.specs.Represents.Tracing.{IsAnew}
use Rattle.run_model.proofs.Fits.{counted_by}
use Rattle.run_model.proofs.MoveOn.{budget_limit}

-- the counts of the hart that asks, as between two turns but for the bound of its number
pub record IsOwnFit (c : RawSettings) (t : Trace) (k : ℕ) : Type 0 where
  pub fit : IsFit c (hart_in t.harts.items k)
  pub steps : steps_in t.caches k ≤ (hart_in t.harts.items k).state.ic + (hart_in t.harts.items k).number
  pub count : next_count t.shadow k ≤ (hart_in t.harts.items k).state.ic
  pub lasting : (hart_in t.harts.items k).live ≡ true → lasts t.shadow k ≡ true

-- what is traced fits the settings and the number of turns, and the ask is one that live hart k can make
pub record IsAsked (c : RawSettings) (i : Program) (t : Trace) (turns k : ℕ) (ask : Ask) : Type 0 where
  pub settings : IsSetting c
  pub few : c.harts ≤ HARTS
  pub harts : length t.harts.items ≡ c.harts
  pub caches : length t.caches ≡ c.harts
  pub shadow : harts_of t.shadow ≡ c.harts
  pub within : k < c.harts
  pub own : IsOwnFit c t k
  pub live : (hart_in t.harts.items k).live ≡ true
  pub orderly : IsTrue (is_orderly c i (hart_in t.harts.items k) ask)
  pub others : (j : ℕ) → j < c.harts → j ≢ k → IsHartFit c t j
  pub turn : next_turn t.shadow ≤ turns
  pub left : turns + all_left c c.harts (hart_in t.harts.items) ≤ most_turns c
  pub log : taken t.log.ring ≤ 18 + 40 * turns
  pub log_size : t.log.ring.size ≡ c.log_size

-- ---- the turns that are left

pub all_less : (c : RawSettings) (n : ℕ) (f g : ℕ → Hart) → ((k : ℕ) → k < n → turns_left c (g k) ≤ turns_left c (f k)) → all_left c n g ≤ all_left c n f
all_less c zero f g each = omega arith
all_less c (suc n) f g each = omega (arith, each n (omega arith), all_less c n f g (λ k below. each k (omega (arith, below))))

-- ---- with no guard

pub as_it_is : (c : RawSettings) (i : Program) (t : Trace) (turns k : ℕ) (ask : Ask) → IsTraceFit c t turns → k < c.harts → (hart_in t.harts.items k).live ≡ true → IsTrue (is_orderly c i (hart_in t.harts.items k) ask)
    → IsAsked c i t turns k ask
as_it_is c i t turns k ask fit within live ordered =
    let one = fit.each k within in
    record {
      settings = fit.settings;
      few = fit.few;
      harts = fit.harts;
      caches = fit.caches;
      shadow = fit.shadow;
      within = within;
      own = record { fit = one.fit.fit; steps = one.steps; count = one.count; lasting = one.lasting };
      live = live;
      orderly = ordered;
      others = λ j below differ. fit.each j below;
      turn = fit.turn;
      left = fit.left;
      log = omega (arith, fit.log);
      log_size = fit.log_size;
    }

-- ---- with the guard

pub if_true : (b : Bool) (x y : ℕ) → b ≡ true → (if b then x else y) ≡ x
if_true b x y e = ap (λ (t : Bool). if t then x else y) e

pub if_false : (b : Bool) (x y : ℕ) → b ≡ false → (if b then x else y) ≡ y
if_false b x y e = ap (λ (t : Bool). if t then x else y) e

pub eqb_same : (k : ℕ) → (k == k) ≡ true
eqb_same k = grind arith

pub other_stays : (c : RawSettings) (old new : Trace) (j k : ℕ) → hart_in new.harts.items j ≡ hart_in old.harts.items j → steps_in new.caches j ≡ steps_in old.caches j → new.shadow ≡ old.shadow → IsHartFit c old j → IsHartFit c new j
other_stays c old new j k at steps shadow one = record {
  fit = subst (λ (h : Hart). IsRested c h) (sym at) one.fit;
  steps = omega (arith, one.steps, steps, ap (λ (h : Hart). h.state.ic) at, ap (λ (h : Hart). h.number) at);
  count = omega (arith, one.count, ap (λ (x : Shadow). next_count x j) shadow, ap (λ (h : Hart). h.state.ic) at);
  lasting = λ e. subst (λ (x : Shadow). lasts x j ≡ true) (sym shadow) (one.lasting (sym (ap (λ (h : Hart). h.live) at) ∙ e));
}

-- the hart that began its next interval
own_begun : (c : RawSettings) (old new : Trace) (k : ℕ) (ask : Ask) → IsAnew k ask.state old new → IsHartFit c old k → (hart_in old.harts.items k).live ≡ true → (hart_in old.harts.items k).state.ic ≤ ask.state.ic
    → IsFit c (anew ask.state new.log.bytes (hart_in old.harts.items k)) → IsOwnFit c new k
own_begun c old new k ask a one live from fit =
    let ic : (hart_in new.harts.items k).state.ic ≡ ask.state.ic = ap (λ (h : Hart). h.state.ic) a.own in
    let number : (hart_in new.harts.items k).number ≡ (hart_in old.harts.items k).number + 1 = ap (λ (h : Hart). h.number) a.own in
    let stepped : steps_in new.caches k ≡ steps_in old.caches k + 1 = a.steps k ∙ if_true (k == k) _ _ (eqb_same k) in
    record {
      fit = subst (λ (h : Hart). IsFit c h) (sym a.own) fit;
      steps = omega (arith, stepped, one.steps, ic, number, from);
      count = omega (arith, ap (λ (x : Shadow). next_count x k) a.shadow, one.count, ic, from);
      lasting = λ e. subst (λ (x : Shadow). lasts x k ≡ true) (sym a.shadow) (one.lasting live);
    }

begun_fit : GuardedAsksFit → (c : RawSettings) (i : Program) (old new : Trace) (turns k : ℕ) (ask : Ask) → IsTraceFit c old turns → k < c.harts → (hart_in old.harts.items k).live ≡ true
    → IsTrue (is_orderly c i (hart_in old.harts.items k) ask) → is_cut ask.want ≡ false → IsAnew k ask.state old new → IsAsked c i new turns k ask
begun_fit fits c i old new turns k ask fit within live ordered cut a =
    let h = hart_in old.harts.items k in
    let f : ℕ → Hart = hart_in old.harts.items in
    let g : ℕ → Hart = hart_in new.harts.items in
    let one = fit.each k within in
    let begun = fits c i h new.log.bytes ask fit.settings.interval_low one.fit live ordered cut in
    let by = counted_by c i h ask.state ask.want cut ordered in
    let no_more : (j : ℕ) → j < c.harts → turns_left c (g j) ≤ turns_left c (f j) = λ j below. elim (eqb_tells j k) [
      | inl p ↦ subst (λ (n : ℕ). turns_left c (g n) ≤ turns_left c (f n)) (sym p.1) (subst (λ (x : Hart). turns_left c x ≤ turns_left c h) (sym a.own) begun.2)
      | inr p ↦ subst (λ (x : Hart). turns_left c x ≤ turns_left c (f j)) (sym (a.others j p.1)) (omega arith)
    ] in
    record {
      settings = fit.settings;
      few = fit.few;
      harts = a.len ∙ fit.harts;
      caches = a.caches ∙ fit.caches;
      shadow = ap harts_of a.shadow ∙ fit.shadow;
      within = within;
      own = own_begun c old new k ask a one live by.0.from begun.0;
      live = ap (λ (x : Hart). x.live) a.own ∙ live;
      orderly = subst (λ (x : Hart). IsTrue (is_orderly c i x ask)) (sym a.own) begun.1;
      others = λ j below differ. elim (eqb_tells j k) [
        | inl p ↦ absurd (differ p.1)
        | inr p ↦ other_stays c old new j k (a.others j differ) (a.steps j ∙ if_false (j == k) _ _ p.0) a.shadow (fit.each j below)
      ];
      turn = omega (arith, fit.turn, ap next_turn a.shadow);
      left = omega (arith, all_less c c.harts f g no_more, fit.left);
      log = omega (arith, fit.log, a.took);
      log_size = a.size ∙ fit.log_size;
    }

-- by whether the ask is guarded
pub asked_fit : GuardedAsksFit → (c : RawSettings) (i : Program) (old new : Trace) (turns k : ℕ) (ask : Ask) (g : Bool) → IsTraceFit c old turns → k < c.harts → (hart_in old.harts.items k).live ≡ true
    → IsTrue (is_orderly c i (hart_in old.harts.items k) ask) → (g ≡ true → is_cut ask.want ≡ false) → (g ≡ true → IsAnew k ask.state old new) → (g ≡ false → new ≡ old) → IsAsked c i new turns k ask
asked_fit fits c i old new turns k ask true fit within live ordered uncut begun same = begun_fit fits c i old new turns k ask fit within live ordered (uncut refl) (begun refl)
asked_fit fits c i old new turns k ask false fit within live ordered uncut begun same = subst (λ (t : Trace). IsAsked c i t turns k ask) (sym (same refl)) (as_it_is c i old turns k ask fit within live ordered)

-- ---- how large counts get

-- the ask's count is not below its hart's, and within the limit
pub record IsCounted (c : RawSettings) (h : Hart) (asked : ℕ) : Type 0 where
  pub from : h.state.ic ≤ asked
  pub limit : asked ≤ c.limit

pub asked_counts : EachTurnMovesOn → (c : RawSettings) (i : Program) (t : Trace) (turns k : ℕ) (ask : Ask) → IsAsked c i t turns k ask → IsCounted c (hart_in t.harts.items k) ask.state.ic
asked_counts each_moves c i t turns k ask q =
    let h = hart_in t.harts.items k in
    let on = each_moves c i (start_machine i []) h k ask (omega (arith, q.settings.limit_high)) q.own.fit q.live q.orderly in
    record { from = on.from; limit = omega (arith, on.low, on.high, budget_limit c h, q.own.fit.limit) }

pub few_turns : (c : RawSettings) (turns left : ℕ) → c.harts ≤ 16 → c.limit ≤ 2 ^ 40 → turns + left ≤ most_turns c → turns ≤ 2 ^ 45
few_turns c turns left few low most = omega (arith, mul-le c.harts (c.limit + 1) 16 (2 ^ 40 + 1) few (omega (arith, low)), most)

pub few_steps : (c : RawSettings) (h : Hart) (steps : ℕ) → IsFit c h → c.limit ≤ 2 ^ 40 → steps ≤ h.state.ic + h.number → steps < 2 ^ 42
few_steps c h steps fit low most = omega (arith, most, fit.number, fit.skipped, fit.limit, low)

touches_once : (word : Option ℕ) → touches word ≤ 1
touches_once None = omega arith
touches_once (Some a) = omega arith

-- and with the step of an access
pub few_steps_more : (c : RawSettings) (h : Hart) (steps after : ℕ) (word : Option ℕ) → IsFit c h → c.limit ≤ 2 ^ 40 → steps ≤ h.state.ic + h.number → after ≡ steps + touches word → after < 2 ^ 42
few_steps_more c h steps after word fit low most e = omega (arith, e, touches_once word, most, fit.number, fit.skipped, fit.limit, low)

pub low_number : (c : RawSettings) (h : Hart) → IsFit c h → c.limit ≤ 2 ^ 40 → h.number < 2 ^ 62
low_number c h fit low = omega (arith, fit.number, fit.skipped, fit.limit, low)

pub few_skipped : (c : RawSettings) (h : Hart) → IsFit c h → c.interval ≤ 10000000 → h.skipped < 2 ^ 32 - 1
few_skipped c h fit low = omega (arith, fit.skipped, fit.interval, low)

pub some_room : (c : RawSettings) (turns left count more : ℕ) → c.harts ≤ 16 → c.limit ≤ 2 ^ 40 → turns + left ≤ most_turns c → count ≤ 36 + 40 * turns → more ≤ 1000 → count + more < 2 ^ 56
some_room c turns left count more few low most has small = omega (arith, few_turns c turns left few low most, has, small)
