-- A turn of a plain machine keeps its counts within the settings.
use Rattle.run_model.proofs.Common.{◌≡◌, ℕ, zero, suc, ◌+◌, ◌<◌, ◌≤◌, ◌==◌, Bool, true, false, List, length, refl, sym, ◌∙◌, ap, subst, arith, inl, inr, Global, Contents, Log, Vec, Option, Some, None, is_some, ◌≢◌, if◌then◌else◌, eqb_tells, get_or_from_slice_get, Program, RawSettings, HartState, absorbed, Ask, Reply, Plan, Warm, has_bit, RepresentsAccesses, KnowsSame, lasting_of, next_count, Hart, TurnEnd, GoesOn, NewInterval, HartOver, RunOver, Span, Trace, Machine, answer, call_of, Run, span_of, next_of, loading, hart_after, harts_after, other_after, skipped_after, IsRested, MovesOn, AskMovesOn, EachTurnMovesOn, turns_left, is_there, is_loading, AreCaches, steps_in, touched_word, touches, AreHarts, hart_in, all_left, taken, IsLog, is_marked_next, IsTrace, IsTraceFit, IsHartFit, IsSwept, IsOnlySwept, PlainParts, everyone, count_after, clears, Point}
use Rattle.first_load_bits.specs.declared.warm.Warm.TheVariants as answers
use Rattle.run_model.proofs.Fits.{fit_by, fit_other}
use Rattle.run_model.proofs.Asked.{IsOwnFit, IsAsked, all_less}

-- ---- the hart whose turn it was

skip_any : (w : Option Warm) (h : Hart) (low after : ℕ) → h.begun + h.skipped ≤ h.state.ic → h.state.ic ≤ low → low ≤ after → (is_some w ≡ true → after ≡ low + 1) → h.begun + skipped_after w h.skipped ≤ after
skip_any None h low after fit a b on = omega (arith, fit, a, b)
skip_any (Some answers.Warm) h low after fit a b on = omega (arith, fit, a, on refl)
skip_any (Some answers.Cold) h low after fit a b on = omega (arith, fit, a, b)

ic_after : (next : TurnEnd) (s : HartState) (skipped bytes : ℕ) (h : Hart) → (hart_after next s skipped bytes h).state.ic ≡ s.ic
ic_after GoesOn s skipped bytes h = refl
ic_after (NewInterval reason value) s skipped bytes h = refl
ic_after (HartOver reason value) s skipped bytes h = refl
ic_after (RunOver reason value) s skipped bytes h = refl

number_after : (next : TurnEnd) (s : HartState) (skipped bytes : ℕ) (h : Hart) → h.number + clears next ≤ (hart_after next s skipped bytes h).number
number_after GoesOn s skipped bytes h = omega arith
number_after (NewInterval reason value) s skipped bytes h = omega arith
number_after (HartOver reason value) s skipped bytes h = omega arith
number_after (RunOver reason value) s skipped bytes h = omega arith

-- ---- the others

other_ic : (next : TurnEnd) (h : Hart) → (other_after next h).state.ic ≡ h.state.ic
other_ic GoesOn h = refl
other_ic (NewInterval reason value) h = refl
other_ic (HartOver reason value) h = refl
other_ic (RunOver reason value) h = by_live h.live h
  where
    by_live : (b : Bool) (x : Hart) → (elim b as (λ y. Hart) [ true ↦ record x { live = false; mark = Some (record { ic = x.state.ic; reason = 5; value = 0 }) } | false ↦ x ]).state.ic ≡ x.state.ic
    by_live true x = refl
    by_live false x = refl

other_number : (next : TurnEnd) (h : Hart) → (other_after next h).number ≡ h.number
other_number GoesOn h = refl
other_number (NewInterval reason value) h = refl
other_number (HartOver reason value) h = refl
other_number (RunOver reason value) h = by_live h.live h
  where
    by_live : (b : Bool) (x : Hart) → (elim b as (λ y. Hart) [ true ↦ record x { live = false; mark = Some (record { ic = x.state.ic; reason = 5; value = 0 }) } | false ↦ x ]).number ≡ x.number
    by_live true x = refl
    by_live false x = refl

other_live : (next : TurnEnd) (h : Hart) → (other_after next h).live ≡ true → h.live ≡ true
other_live GoesOn h e = e
other_live (NewInterval reason value) h e = e
other_live (HartOver reason value) h e = e
other_live (RunOver reason value) h e = by_live h.live h refl e
  where
    by_live : (b : Bool) (x : Hart) → x.live ≡ b → (elim b as (λ y. Hart) [ true ↦ record x { live = false; mark = Some (record { ic = x.state.ic; reason = 5; value = 0 }) } | false ↦ x ]).live ≡ true → b ≡ true
    by_live true x q e = refl
    by_live false x q e = sym q ∙ e

-- ---- the turns that are left

pub one_less : (c : RawSettings) (n own : ℕ) (f g : ℕ → Hart) → own < n → ((k : ℕ) → k < n → turns_left c (g k) ≤ turns_left c (f k)) → turns_left c (g own) < turns_left c (f own) → all_left c n g < all_left c n f
one_less c zero own f g within each less = omega (arith, within)
one_less c (suc n) own f g within each less = elim (eqb_tells own n) [
  | inl p ↦ omega (arith, all_less c n f g (λ k below. each k (omega (arith, below))), subst (λ (k : ℕ). turns_left c (g k) < turns_left c (f k)) p.1 less)
  | inr p ↦ omega (arith, each n (omega arith), one_less c n own f g (lower own n within p.1) (λ k below. each k (omega (arith, below))) less)
]
  where
    lower : (j n : ℕ) → j < suc n → j ≢ n → j < n
    lower j n h e = omega (arith, h, e)

-- ---- the counts after a turn

touched_less : (call : Option Plan) (span : Option Span) (low after : ℕ) → low ≤ after → (is_there span ≡ true → after ≡ low + 1) → low + touches (touched_word call span) ≤ after
touched_less None None low after a on = omega (arith, a)
touched_less None (Some x) low after a on = omega (arith, on refl)
touched_less (Some p) None low after a on = omega (arith, a)
touched_less (Some p) (Some x) low after a on = omega (arith, a)

counted_less : (span : Option Span) (low before after : ℕ) → before ≤ low → low ≤ after → (is_there span ≡ true → after ≡ low + 1) → count_after span low before ≤ after
counted_less None low before after a b on = omega (arith, a, b)
counted_less (Some x) low before after a b on = omega (arith, on refl)

pub in_new : (hs : List Hart) (j : ℕ) (f : ℕ → Hart) → AreHarts hs f → j < length hs → hart_in hs j ≡ f j
in_new hs j f are within = get_or_from_slice_get hs j (f j) _ (are j within)

pub own_at : (j k : ℕ) (next : TurnEnd) (own : Hart) (f : ℕ → Hart) → (j == k) ≡ true → harts_after next k own f j ≡ own
own_at j k next own f e = ap (λ (b : Bool). elim b as (λ x. Hart) [ true ↦ own | false ↦ other_after next (f j) ]) e

pub other_at : (j k : ℕ) (next : TurnEnd) (own : Hart) (f : ℕ → Hart) → (j == k) ≡ false → harts_after next k own f j ≡ other_after next (f j)
other_at j k next own f e = ap (λ (b : Bool). elim b as (λ x. Hart) [ true ↦ own | false ↦ other_after next (f j) ]) e

-- the turn moves on, if the call and the reply are these
pub moves_as : (c : RawSettings) (i : Program) (m : Machine) (h : Hart) (k : ℕ) (ask : Ask) (call : Option Plan) (reply : Reply) → call ≡ call_of i m ask.want → reply ≡ (answer c call m k ask).reply → AskMovesOn c i m h k ask
    → MovesOn c h ask.state.ic (absorbed ask reply).ic (next_of c call h ask.want reply (absorbed ask reply).ic) (span_of call ask.want reply) (loading ask.want)
moves_as c i m h k ask call reply ec er on =
    let Q : Option Plan → Reply → Type 0 = λ x r. MovesOn c h ask.state.ic (absorbed ask r).ic (next_of c x h ask.want r (absorbed ask r).ic) (span_of x ask.want r) (loading ask.want) in
    subst (λ (r : Reply). Q call r) (sym er) (subst (λ (x : Option Plan). Q x (answer c x m k ask).reply) (sym ec) on)

-- the hart whose turn it was
pub own_hart : (c : RawSettings) (old new : Trace) (k : ℕ) (ask : Ask) (call : Option Plan) (reply : Reply) (load : Option Warm) (next : TurnEnd)
    → let h = hart_in old.harts.items k in let s = absorbed ask reply in let span = span_of call ask.want reply in
    1 ≤ c.interval → (hart_in old.harts.items k).live ≡ true → IsOwnFit c old k → MovesOn c h ask.state.ic s.ic next span (loading ask.want) → hart_in new.harts.items k ≡ hart_after next s (skipped_after load h.skipped) new.log.bytes h
    → (is_some load ≡ true → is_loading (loading ask.want) ≡ true) → steps_in new.caches k ≡ steps_in old.caches k + touches (touched_word call span) + clears next → next_count new.shadow k ≤ count_after span ask.state.ic (next_count old.shadow k)
    → lasting_of new.shadow ≡ lasting_of old.shadow → IsHartFit c new k
own_hart c old new k ask call reply load next some live fit on is loads stepped counted lasts =
    let h = hart_in old.harts.items k in let s = absorbed ask reply in
    let span = span_of call ask.want reply in
    let fits = fit_by next c h ask.state.ic s span (loading ask.want) (skipped_after load h.skipped) new.log.bytes some fit.fit on (skip_any load h ask.state.ic s.ic fit.fit.skipped on.from on.low (λ e. on.loaded (loads e))) in
    let ic : (hart_in new.harts.items k).state.ic ≡ s.ic = ap (λ (x : Hart). x.state.ic) is ∙ ic_after next s _ _ h in
    let number : (hart_in new.harts.items k).number ≡ (hart_after next s (skipped_after load h.skipped) new.log.bytes h).number = ap (λ (x : Hart). x.number) is in
    record {
      fit = subst (λ (x : Hart). IsRested c x) (sym is) fits;
      steps = omega (arith, stepped, fit.steps, touched_less call span ask.state.ic s.ic on.low on.accessed, on.from, ic, number, number_after next s (skipped_after load h.skipped) new.log.bytes h);
      count = omega (arith, counted, ic, counted_less span ask.state.ic (next_count old.shadow k) s.ic (omega (arith, fit.count, on.from)) on.low on.accessed);
      lasting = λ e. subst (λ (set : ℕ). has_bit set k ≡ true) (sym lasts) (fit.lasting live);
    }

-- another hart
pub other_hart : (c : RawSettings) (old new : Trace) (j : ℕ) (next : TurnEnd) → IsHartFit c old j → hart_in new.harts.items j ≡ other_after next (hart_in old.harts.items j)
    → steps_in new.caches j ≡ steps_in old.caches j → next_count new.shadow j ≡ next_count old.shadow j → lasting_of new.shadow ≡ lasting_of old.shadow → IsHartFit c new j
other_hart c old new j next fit at stepped counted lasts =
    let h = hart_in old.harts.items j in
    let ic : (hart_in new.harts.items j).state.ic ≡ h.state.ic = ap (λ (x : Hart). x.state.ic) at ∙ other_ic next h in
    let number : (hart_in new.harts.items j).number ≡ h.number = ap (λ (x : Hart). x.number) at ∙ other_number next h in
    record {
      fit = subst (λ (x : Hart). IsRested c x) (sym at) (fit_other next c h fit.fit);
      steps = omega (arith, stepped, fit.steps, ic, number);
      count = omega (arith, counted, fit.count, ic);
      lasting = λ e. subst (λ (set : ℕ). has_bit set j ≡ true) (sym lasts) (fit.lasting (other_live next h (sym (ap (λ (x : Hart). x.live) at) ∙ e)));
    }

-- what ends with the turn of an orderly ask has a mark
pub next_marked : EachTurnMovesOn → (c : RawSettings) (i : Program) (m : Machine) (old : Trace) (turns k : ℕ) (ask : Ask) (call : Option Plan) (reply : Reply) → IsAsked c i old turns k ask
    → call ≡ call_of i m ask.want → reply ≡ (answer c call m k ask).reply → is_marked_next (next_of c call (hart_in old.harts.items k) ask.want reply (absorbed ask reply).ic) ≡ true
next_marked each_moves c i m old turns k ask call reply q ec er =
    (moves_as c i m (hart_in old.harts.items k) k ask call reply ec er (each_moves c i m (hart_in old.harts.items k) k ask (omega (arith, q.settings.limit_high)) q.own.fit q.live q.orderly)).marked

-- steps before and after, if one test decides on both
pub two_ifs : (b : Bool) (new middle old more clear : ℕ) → new ≡ (if b then middle + clear else middle) → middle ≡ (if b then old + more else old) → new ≡ (if b then old + more + clear else old)
two_ifs true new middle old more clear e f = e ∙ ap (λ (x : ℕ). x + clear) f
two_ifs false new middle old more clear e f = e ∙ f

-- ---- what the race log gives up

-- from one to the other the race log may have found memory, and given up what all live harts know of; all else is the same
pub record IsLike (old new : Trace) : Type 0 where
  pub harts : new.harts.items ≡ old.harts.items
  pub caches : new.caches ≡ old.caches
  pub shadow : IsSwept old.shadow new.shadow old.harts.items
  pub log : new.log ≡ old.log

-- what is like a trace that fits the settings fits them
pub like_fit : (c : RawSettings) (old new : Trace) (turns : ℕ) → IsTraceFit c old turns → IsLike old new → IsTraceFit c new turns
like_fit c old new turns fit like = record {
  settings = fit.settings;
  few = fit.few;
  harts = ap (λ (xs : List Hart). length xs) like.harts ∙ fit.harts;
  caches = ap (λ (cs : List Contents). length cs) like.caches ∙ fit.caches;
  shadow = like.shadow.harts ∙ fit.shadow;
  each = λ k below.
      let one = fit.each k below in
      let at : hart_in new.harts.items k ≡ hart_in old.harts.items k = ap (λ (xs : List Hart). hart_in xs k) like.harts in
      record {
        fit = subst (λ (h : Hart). IsRested c h) (sym at) one.fit;
        steps = omega (arith, one.steps, ap (λ (cs : List Contents). steps_in cs k) like.caches, ap (λ (h : Hart). h.state.ic) at, ap (λ (h : Hart). h.number) at);
        count = omega (arith, one.count, like.shadow.counts k, ap (λ (h : Hart). h.state.ic) at);
        lasting = λ e. let was : (hart_in old.harts.items k).live ≡ true = sym (ap (λ (h : Hart). h.live) at) ∙ e in like.shadow.lasting k (omega (arith, below, fit.harts)) was (one.lasting was);
      };
  turn = omega (arith, fit.turn, like.shadow.turn);
  left = omega (arith, fit.left, ap (λ (xs : List Hart). all_left c c.harts (hart_in xs)) like.harts);
  log = omega (arith, fit.log, ap (λ (l : Log). taken l.ring) like.log);
  log_size = ap (λ (l : Log). l.ring.size) like.log ∙ fit.log_size;
}

-- what is like a trace of a run is one of it
pub like_trace : (c : RawSettings) (old new : Trace) (run : Run) → IsTrace c old run → IsLike old new → IsTrace c new run
like_trace c old new run is like = record {
  harts = subst (λ (xs : List Hart). AreHarts xs run.harts) (sym like.harts) is.harts;
  caches = subst (λ (cs : List Contents). AreCaches c cs run.events) (sym like.caches) is.caches;
  shadow = like.shadow.stands run.points is.shadow;
  log = subst (λ (l : Log). IsLog l run.stream) (sym like.log) is.log;
  bytes = ap (λ (l : Log). l.bytes) like.log ∙ is.bytes;
}

-- a race log that finds memory gives up nothing
pub only_reserved : (p : PlainParts) (new : Trace) → ((points : List Point) → RepresentsAccesses points everyone p.trace.shadow → RepresentsAccesses points everyone new.shadow) → KnowsSame p.trace.shadow new.shadow
    → new.harts ≡ p.trace.harts → new.caches ≡ p.trace.caches → new.log ≡ p.trace.log → IsOnlySwept p (record p { trace = new })
only_reserved p new stands same harts caches log = record {
  shadow = record {
    stands = stands;
    harts = same.harts;
    turn = same.turn;
    counts = λ k. same.times k k;
    lasting = λ k below live was. ap (λ (set : ℕ). has_bit set k) same.lasting ∙ was;
  };
  harts = harts;
  caches = caches;
  log = log;
  machine = refl;
  turns = refl;
  start = refl;
}

-- what is traced is then like it was
pub swept_like : {p q : PlainParts} → IsOnlySwept p q → IsLike p.trace q.trace
swept_like swept = record { harts = ap (λ (v : Vec Hart Global). v.items) swept.harts; caches = swept.caches; shadow = swept.shadow; log = swept.log }
