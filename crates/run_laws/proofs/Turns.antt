-- The turns of a legal list, one by one.
use Rattle.run_laws.proofs.Common.{◌≡◌, ℕ, zero, suc, ◌+◌, ◌*◌, ◌<◌, ◌≤◌, ◌^◌, ◌==◌, Bool, true, false, not, ◌&&◌, nat_lt, List, [], ◌∷◌, length, refl, sym, ◌∙◌, ap, subst, arith, inl, inr, Option, Some, IsTrue, ◌≢◌, eqb_tells, Program, IsSetting, RawSettings, HartState, ask_of, absorbed, orderly, is_cut, Ask, Want, System, Faulted, Reply, Plan, TurnRow, Hart, TurnEnd, GoesOn, NewInterval, HartOver, RunOver, Machine, answer, call_of, planned, Run, Served, serve, serve_orderly, served_if, turn, ask_at, is_orderly, budget, next_of, loading, warmth, skipped_after, hart_after, other_after, harts_after, is_guarded, guarded_run, asked_run, guard_records, total, Warm, start_hart, start_state, run_from, legal_from, is_live, IsFit, IsRested, anew, GuardedAsksFit, EachTurnMovesOn, EachTurnFits, OthersStayFit, turns_left, TurnsMoveTheirHart, after_rows, IsLawful, IsOwn, Place, place_of, place_from, place_after, begun_at, row_at, rows_from, rows_by, and_parts, not-true, ltb-true, ne_eqb, eqb_same, budget_limit}
use Rattle.system_calls.specs.declared.effect.Plan.TheVariants as plans
use Rattle.run_model.specs.Represents.Harts.{all_left}

-- ---- lawful

pub live_by : (b : Bool) (x : Bool) → elim b as (λ z. Bool) [ true ↦ x | false ↦ false ] ≡ true → (b ≡ true) × (x ≡ true)
live_by true x e = (refl, e)
live_by false x e = cc

pub legal_first : (c : RawSettings) (i : Program) (run : Run) (k : ℕ) (ks : List ℕ) → legal_from c i run (k ∷ ks) ≡ true → (is_live c run k ≡ true) × (legal_from c i (turn c i run k) ks ≡ true)
legal_first c i run k ks e = live_by (is_live c run k) (legal_from c i (turn c i run k) ks) e

pub live_then : (b : Bool) (x : Bool) → b ≡ true → x ≡ true → elim b as (λ z. Bool) [ true ↦ x | false ↦ false ] ≡ true
live_then true x e h = h
live_then false x e h = e

pub legal_cons : (c : RawSettings) (i : Program) (run : Run) (k : ℕ) (ks : List ℕ) → is_live c run k ≡ true → legal_from c i (turn c i run k) ks ≡ true → legal_from c i run (k ∷ ks) ≡ true
legal_cons c i run k ks live e = live_then (is_live c run k) (legal_from c i (turn c i run k) ks) live e

pub lawful : (c : RawSettings) (i : Program) (run : Run) (b : List ℕ) → legal_from c i run b ≡ true → IsLawful c i run (rows_from c i run b) × (after_rows c i run (rows_from c i run b) ≡ run_from c i run b)
lawful c i run [] e = (tt, refl)
lawful c i run (k ∷ ks) e =
    let first = legal_first c i run k ks e in
    let rest = lawful c i (turn c i run k) ks first.1 in
    ((first.0, refl, refl, rest.0), rest.1)

-- ---- orderly

-- the ranges of settings that are used here
pub record IsRanged (c : RawSettings) : Type 0 where
  pub interval_low : 1 ≤ c.interval
  pub limit_high : c.limit ≤ 2 ^ 40

pub ranged : (c : RawSettings) → IsSetting c → IsRanged c
ranged c setting = record { interval_low = setting.interval_low; limit_high = setting.limit_high }

-- the law of orderly asks
abbrev pub AsksAreOrderly : Type 0
AsksAreOrderly = (i : Program) (b : ℕ) (s : HartState) → s.ic + b < 2 ^ 64 → IsTrue (orderly i s.ic b (ask_of i b s))

pub ordered : AsksAreOrderly → (c : RawSettings) (i : Program) (h : Hart) → c.limit < 2 ^ 63 → IsFit c h → is_orderly c i h (ask_at c i h) ≡ true
ordered asks c i h small fit = asks i (budget c h) h.state (omega (arith, small, fit.limit, budget_limit c h))

-- the turn of an orderly ask
pub served : (c : RawSettings) (i : Program) (run : Run) (k : ℕ) (ask : Ask) → is_orderly c i (run.harts k) ask ≡ true → serve c i run k ask ≡ serve_orderly c i run k ask
unfolding serve
served c i run k ask o = ap (λ (b : Bool). served_if b c i run k ask) o

-- the laws of turns that are used here
pub record Laws : Type 0 where
  pub asks : AsksAreOrderly
  pub moves : EachTurnMovesOn
  pub fits : EachTurnFits
  pub others : OthersStayFit
  pub guarded : GuardedAsksFit

-- ---- the hart that asks

-- whether the next ask of hart k is guarded, and the run in which it is answered
abbrev pub guarded_at : RawSettings → Program → Run → ℕ → Bool
guarded_at c i run k = is_guarded c run k (ask_at c i (run.harts k)).want

abbrev pub asked_at : RawSettings → Program → Run → ℕ → Run
asked_at c i run k = asked_run c run k (ask_at c i (run.harts k))

-- hart k there: it begins an interval at its ask, or is as it was
pub hart_if : Bool → HartState → ℕ → Hart → Hart
hart_if true s bytes h = anew s bytes h
hart_if false s bytes h = h

pub asking_own : (g : Bool) (run : Run) (k : ℕ) (s : HartState) → (guarded_run g run k s).harts k ≡ hart_if g s (run.bytes + total (guard_records run k s)) (run.harts k)
unfolding hart_if
asking_own true run k s = ap (λ (b : Bool). elim b as (λ x. Hart) [ true ↦ anew s (run.bytes + total (guard_records run k s)) (run.harts k) | false ↦ run.harts k ]) (eqb_same k)
asking_own false run k s = refl

pub asking_other : (g : Bool) (run : Run) (k j : ℕ) (s : HartState) → (j == k) ≡ false → (guarded_run g run k s).harts j ≡ run.harts j
asking_other true run k j s e = ap (λ (b : Bool). elim b as (λ x. Hart) [ true ↦ anew s (run.bytes + total (guard_records run k s)) (run.harts k) | false ↦ run.harts j ]) e
asking_other false run k j s e = refl

-- its interval begins at its ask if this is guarded, else at the count that it had
asking_begun : (g : Bool) (run : Run) (k : ℕ) (ask : Ask) → ((guarded_run g run k ask.state).harts k).begun ≡ begun_at g (place_of (run.harts k)) ask
asking_begun true run k ask = ap (λ (b : Bool). (elim b as (λ x. Hart) [ true ↦ anew ask.state (run.bytes + total (guard_records run k ask.state)) (run.harts k) | false ↦ run.harts k ]).begun) (eqb_same k)
asking_begun false run k ask = refl

-- a cut isn't guarded
pub uncut : (c : RawSettings) (run : Run) (k : ℕ) (want : Want) → is_guarded c run k want ≡ true → is_cut want ≡ false
uncut c run k want e = not-true (is_cut want) (and_parts (not (is_cut want)) _ (and_parts (c.format == 2) _ e).1).0

-- what is known of the hart that asks
pub record IsAsking (c : RawSettings) (i : Program) (old h : Hart) (ask : Ask) : Type 0 where
  pub fit : IsFit c h
  pub live : h.live ≡ true
  pub orderly : is_orderly c i h ask ≡ true
  pub left : turns_left c h ≤ turns_left c old

asking_if : (g : Bool) → Laws → (c : RawSettings) (i : Program) (h : Hart) (bytes : ℕ) (ask : Ask) → 1 ≤ c.interval → IsRested c h → h.live ≡ true → is_orderly c i h ask ≡ true → (g ≡ true → is_cut ask.want ≡ false)
    → IsAsking c i h (hart_if g ask.state bytes h) ask
unfolding hart_if
asking_if true laws c i h bytes ask some rested live o cut =
    let f = laws.guarded c i h bytes ask some rested live o (cut refl) in
    record { fit = f.0; live = live; orderly = f.1; left = f.2 }
asking_if false laws c i h bytes ask some rested live o cut = record { fit = rested.fit; live = live; orderly = o; left = omega arith }

-- ---- the harts after a turn

-- what comes after the turn of hart k, and its state
abbrev pub reply_of : RawSettings → Program → Run → ℕ → Reply
reply_of c i run k = let ask = ask_at c i (run.harts k) in (answer c (call_of i run.machine ask.want) run.machine k ask).reply

abbrev pub state_of : RawSettings → Program → Run → ℕ → HartState
state_of c i run k = absorbed (ask_at c i (run.harts k)) (reply_of c i run k)

abbrev pub next_at : RawSettings → Program → Run → ℕ → TurnEnd
next_at c i run k = let ask = ask_at c i (run.harts k) in next_of c (call_of i run.machine ask.want) ((asked_at c i run k).harts k) ask.want (reply_of c i run k) (state_of c i run k).ic

abbrev load_at : RawSettings → Program → Run → ℕ → Option Warm
load_at c i run k = warmth c (loading (ask_at c i (run.harts k)).want) ((asked_at c i run k).events k)

abbrev own_at : RawSettings → Program → Run → ℕ → Hart
own_at c i run k = hart_after (next_at c i run k) (state_of c i run k) (skipped_after (load_at c i run k) ((asked_at c i run k).harts k).skipped) (turn c i run k).bytes ((asked_at c i run k).harts k)

harts_of_turn : (c : RawSettings) (i : Program) (run : Run) (k j : ℕ) → is_orderly c i (run.harts k) (ask_at c i (run.harts k)) ≡ true → (turn c i run k).harts j ≡ harts_after (next_at c i run k) k (own_at c i run k) (asked_at c i run k).harts j
harts_of_turn c i run k j o =
    let e = served c i run k (ask_at c i (run.harts k)) o in
    ap (λ (s : Served). s.run.harts j) e
    ∙ ap (λ (n : ℕ). harts_after (next_at c i run k) k (hart_after (next_at c i run k) (state_of c i run k) (skipped_after (load_at c i run k) ((asked_at c i run k).harts k).skipped) n ((asked_at c i run k).harts k)) (asked_at c i run k).harts j) (sym (ap (λ (s : Served). s.run.bytes) e))

own_is : (c : RawSettings) (i : Program) (run : Run) (k j : ℕ) → is_orderly c i (run.harts k) (ask_at c i (run.harts k)) ≡ true → (j == k) ≡ true → (turn c i run k).harts j ≡ own_at c i run k
own_is c i run k j o e = harts_of_turn c i run k j o ∙ ap (λ (b : Bool). elim b as (λ x. Hart) [ true ↦ own_at c i run k | false ↦ other_after (next_at c i run k) ((asked_at c i run k).harts j) ]) e

pub other_is : (c : RawSettings) (i : Program) (run : Run) (k j : ℕ) → is_orderly c i (run.harts k) (ask_at c i (run.harts k)) ≡ true → (j == k) ≡ false → (turn c i run k).harts j ≡ other_after (next_at c i run k) (run.harts j)
other_is c i run k j o e = harts_of_turn c i run k j o ∙ ap (λ (b : Bool). elim b as (λ x. Hart) [ true ↦ own_at c i run k | false ↦ other_after (next_at c i run k) ((asked_at c i run k).harts j) ]) e
    ∙ ap (other_after (next_at c i run k)) (asking_other (guarded_at c i run k) run k j (ask_at c i (run.harts k)).state e)

-- ---- counts

-- how a turn changes what is left to each hart
pub record Left (c : RawSettings) (old new : Run) (k : ℕ) : Type 0 where
  pub fit : (j : ℕ) → IsRested c (new.harts j)
  pub less : turns_left c (new.harts k) < turns_left c (old.harts k)
  pub others : (j : ℕ) → turns_left c (new.harts j) ≤ turns_left c (old.harts j)

pub asking : Laws → (c : RawSettings) (i : Program) (run : Run) (k : ℕ) → IsRanged c → IsRested c (run.harts k) → (run.harts k).live ≡ true → IsAsking c i (run.harts k) ((asked_at c i run k).harts k) (ask_at c i (run.harts k))
asking laws c i run k setting fit live =
    let h = run.harts k in
    let ask = ask_at c i h in
    let o = ordered laws.asks c i h (omega (arith, setting.limit_high)) fit.fit in
    let g = guarded_at c i run k in
    subst (λ (x : Hart). IsAsking c i h x ask) (sym (asking_own g run k ask.state))
    (asking_if g laws c i h (run.bytes + total (guard_records run k ask.state)) ask setting.interval_low fit live o (uncut c run k ask.want))

pub turn_left : Laws → (c : RawSettings) (i : Program) (run : Run) (k : ℕ) → IsRanged c → ((j : ℕ) → IsRested c (run.harts j)) → (run.harts k).live ≡ true → Left c run (turn c i run k) k
turn_left laws c i run k setting fit live =
    let h = run.harts k in
    let at = (asked_at c i run k).harts k in
    let ask = ask_at c i h in
    let small : c.limit < 2 ^ 63 = omega (arith, setting.limit_high) in
    let o = ordered laws.asks c i h small (fit k).fit in
    let a = asking laws c i run k setting (fit k) live in
    let on = laws.moves c i run.machine at k ask small a.fit a.live a.orderly in
    let own = laws.fits c at ask.state.ic (turn c i run k).bytes (state_of c i run k) (next_at c i run k) _ (loading ask.want) ((asked_at c i run k).events k) setting.interval_low a.live a.fit on in
    let here = own_is c i run k k o (eqb_same k) in
    let less : turns_left c ((turn c i run k).harts k) < turns_left c h = subst (λ (x : Hart). turns_left c x < turns_left c h) (sym here) (omega (arith, own.1, a.left)) in
    record {
      fit = λ j. elim (eqb_tells j k) [
        | inl p ↦ subst (λ (x : Hart). IsRested c x) (sym (own_is c i run k j o p.0)) own.0
        | inr p ↦ subst (λ (x : Hart). IsRested c x) (sym (other_is c i run k j o p.0)) (laws.others c (run.harts j) (next_at c i run k) (fit j)).0
      ];
      less = less;
      others = λ j. elim (eqb_tells j k) [
        | inl p ↦ subst (λ (n : ℕ). turns_left c ((turn c i run k).harts n) ≤ turns_left c (run.harts n)) (sym p.1) (omega (arith, less))
        | inr p ↦ subst (λ (x : Hart). turns_left c x ≤ turns_left c (run.harts j)) (sym (other_is c i run k j o p.0)) (laws.others c (run.harts j) (next_at c i run k) (fit j)).1
      ];
    }

-- ---- runs end

pub all_less : (c : RawSettings) (n : ℕ) (f g : ℕ → Hart) → ((k : ℕ) → turns_left c (g k) ≤ turns_left c (f k)) → all_left c n g ≤ all_left c n f
all_less c zero f g each = omega arith
all_less c (suc n) f g each = omega (arith, each n, all_less c n f g each)

pub one_less : (c : RawSettings) (n own : ℕ) (f g : ℕ → Hart) → own < n → ((k : ℕ) → turns_left c (g k) ≤ turns_left c (f k)) → turns_left c (g own) < turns_left c (f own) → all_left c n g < all_left c n f
one_less c zero own f g within each less = omega (arith, within)
one_less c (suc n) own f g within each less = elim (eqb_tells own n) [
  | inl p ↦ omega (arith, all_less c n f g each, subst (λ (k : ℕ). turns_left c (g k) < turns_left c (f k)) p.1 less)
  | inr p ↦ omega (arith, each n, one_less c n own f g (lower own n within p.1) each less)
]
  where
    lower : (j n : ℕ) → j < suc n → j ≢ n → j < n
    lower j n h e = omega (arith, h, e)

pub few_turns : Laws → (c : RawSettings) (i : Program) (run : Run) (b : List ℕ) → IsSetting c → ((j : ℕ) → IsRested c (run.harts j)) → legal_from c i run b ≡ true → length b ≤ all_left c c.harts run.harts
few_turns laws c i run [] setting fit e = omega arith
few_turns laws c i run (k ∷ ks) setting fit e =
    let first = legal_first c i run k ks e in
    let live = and_parts (nat_lt k c.harts) (run.harts k).live first.0 in
    let left = turn_left laws c i run k (ranged c setting) fit live.1 in
    let rest = few_turns laws c i (turn c i run k) ks setting left.fit first.1 in
    omega (arith, rest, one_less c c.harts k run.harts (turn c i run k).harts (ltb-true k c.harts live.0) left.others left.less)

-- ---- at the start

pub fit_start : (c : RawSettings) (k : ℕ) (s : HartState) → s.ic ≡ 0 → 1 ≤ c.interval → IsRested c (start_hart k s)
fit_start c k s e some = record {
  fit = record { number = omega arith; skipped = omega (arith, e); interval = omega (arith, e); limit = omega (arith, e); unfilled = λ p. omega (arith, e, some) };
  number = λ p. omega arith;
}

pub all_first : (c : RawSettings) (i : Program) (n : ℕ) → all_left c n (λ k. start_hart k (start_state c i k)) ≡ n * (c.limit + 1)
all_first c i zero = omega arith
all_first c i (suc n) = omega (arith, all_first c i n)

-- ---- a hart's own rows

counted_place : (over full : Bool) (s : HartState) (skipped bytes : ℕ) (h : Hart)
    → place_of (hart_after (elim over as (λ x. TurnEnd) [ true ↦ HartOver 7 0 | false ↦ elim full as (λ x. TurnEnd) [ true ↦ NewInterval 1 0 | false ↦ GoesOn ] ]) s skipped bytes h)
    ≡ record { state = s; begun = elim (not over && full) as (λ x. ℕ) [ true ↦ s.ic | false ↦ h.begun ] }
counted_place true full s skipped bytes h = refl
counted_place false true s skipped bytes h = refl
counted_place false false s skipped bytes h = refl

-- the place of a hart after its turn is the same by the definition's rules and by the hart itself
PlaceIs : RawSettings → Program → Machine → ℕ → Hart → Ask → (skipped bytes : ℕ) → Type 0
PlaceIs c i m k h ask skipped bytes =
    let call = call_of i m ask.want in
    let reply = (answer c call m k ask).reply in
    let s = absorbed ask reply in
    place_of (hart_after (next_of c call h ask.want reply s.ic) s skipped bytes h) ≡ place_from c h.begun ask reply

plan_place : (p : Plan) (c : RawSettings) (m : Machine) (k : ℕ) (h : Hart) (s : HartState) (number : ℕ) (args : List ℕ) (skipped bytes : ℕ)
    → let ask : Ask = record { state = s; want = System number args } in
    let reply = (answer c (Some p) m k ask).reply in
    place_of (hart_after (next_of c (Some p) h ask.want reply (absorbed ask reply).ic) (absorbed ask reply) skipped bytes h) ≡ place_from c h.begun ask reply
plan_place (plans.Fill a n) c m k h s number args skipped bytes = refl
plan_place p c m k h s number args skipped bytes = refl

want_place : (want : Want) (c : RawSettings) (i : Program) (m : Machine) (k : ℕ) (h : Hart) (s : HartState) (skipped bytes : ℕ) → PlaceIs c i m k h (record { state = s; want = want }) skipped bytes
unfolding PlaceIs
want_place (System number args) c i m k h s skipped bytes = plan_place (planned i m number args) c m k h s number args skipped bytes
want_place (Faulted kind value) c i m k h s skipped bytes = refl
want_place want c i m k h s skipped bytes = counted_place _ _ _ skipped bytes h

stopped_place : (b : Bool) (h : Hart) → place_of (elim b as (λ x. Hart) [ true ↦ record h { live = false; mark = Some (record { ic = h.state.ic; reason = 5; value = 0 }) } | false ↦ h ]) ≡ place_of h
stopped_place true h = refl
stopped_place false h = refl

pub other_place : (next : TurnEnd) (h : Hart) → place_of (other_after next h) ≡ place_of h
other_place (RunOver reason value) h = stopped_place h.live h
other_place next h = refl

pub other_state : (next : TurnEnd) (h : Hart) → (other_after next h).state ≡ h.state
other_state next h = ap (λ (p : Place). p.state) (other_place next h)

pub own_place : (c : RawSettings) (i : Program) (run : Run) (k : ℕ) → is_orderly c i (run.harts k) (ask_at c i (run.harts k)) ≡ true
    → let row = row_at c i run k in place_after c (place_of (run.harts k)) row.ask row.guarded row.reply ≡ place_of ((turn c i run k).harts k)
unfolding PlaceIs
own_place c i run k o =
    let ask = ask_at c i (run.harts k) in
    let at = (asked_at c i run k).harts k in
    ap (λ (s : Served). place_after c (place_of (run.harts k)) ask s.guarded s.reply) (served c i run k ask o)
    ∙ ap (λ (n : ℕ). place_from c n ask (reply_of c i run k)) (sym (asking_begun (guarded_at c i run k) run k ask))
    ∙ sym (ap place_of (own_is c i run k k o (eqb_same k)) ∙ want_place ask.want c i run.machine k at ask.state _ _)

pub own : Laws → (c : RawSettings) (i : Program) (run : Run) (b : List ℕ) (h : ℕ) → IsSetting c → ((j : ℕ) → IsRested c (run.harts j)) → legal_from c i run b ≡ true → IsOwn c i h (place_of (run.harts h)) (rows_by h (rows_from c i run b))
own laws c i run [] h setting fit e = tt
own laws c i run (k ∷ ks) h setting fit e =
    let first = legal_first c i run k ks e in
    let live = and_parts (nat_lt k c.harts) (run.harts k).live first.0 in
    let left = turn_left laws c i run k (ranged c setting) fit live.1 in
    let o = ordered laws.asks c i (run.harts k) (omega (arith, setting.limit_high)) (fit k).fit in
    let rest = own laws c i (turn c i run k) ks h setting left.fit first.1 in
    let rows = rows_by h (rows_from c i (turn c i run k) ks) in
    let row = row_at c i run k in
    elim (eqb_tells k h) [
      | inl p ↦
          let place : place_after c (place_of (run.harts h)) row.ask row.guarded row.reply ≡ place_of ((turn c i run k).harts h) =
          subst (λ (n : ℕ). place_after c (place_of (run.harts n)) row.ask row.guarded row.reply ≡ place_of ((turn c i run k).harts n)) p.1 (own_place c i run k o) in
          subst (λ (b : Bool). IsOwn c i h (place_of (run.harts h)) (elim b as (λ x. List TurnRow) [ true ↦ row ∷ rows | false ↦ rows ])) (sym p.0)
          ((p.1, ap (λ (n : ℕ). ask_at c i (run.harts n)) p.1, subst (λ (x : Place). IsOwn c i h x rows) (sym place) rest))
      | inr p ↦
          let place : place_of ((turn c i run k).harts h) ≡ place_of (run.harts h) = ap place_of (other_is c i run k h o (ne_eqb h k (λ q. p.1 (sym q)))) ∙ other_place (next_at c i run k) (run.harts h) in
          subst (λ (b : Bool). IsOwn c i h (place_of (run.harts h)) (elim b as (λ x. List TurnRow) [ true ↦ row ∷ rows | false ↦ rows ])) (sym p.0)
          (subst (λ (x : Place). IsOwn c i h x rows) place rest)
    ]

-- ---- one turn, and all before it

fit_run : Laws → (c : RawSettings) (i : Program) (run : Run) (b : List ℕ) → IsSetting c → ((j : ℕ) → IsRested c (run.harts j)) → legal_from c i run b ≡ true → (j : ℕ) → IsRested c ((run_from c i run b).harts j)
fit_run laws c i run [] setting fit e j = fit j
fit_run laws c i run (k ∷ ks) setting fit e j =
    let first = legal_first c i run k ks e in
    let live = and_parts (nat_lt k c.harts) (run.harts k).live first.0 in
    fit_run laws c i (turn c i run k) ks setting (turn_left laws c i run k (ranged c setting) fit live.1).fit first.1 j

pub orderly_after : Laws → (c : RawSettings) (i : Program) (run : Run) (b : List ℕ) (k : ℕ) → IsSetting c → ((j : ℕ) → IsRested c (run.harts j)) → legal_from c i run b ≡ true
    → is_orderly c i ((run_from c i run b).harts k) (ask_at c i ((run_from c i run b).harts k)) ≡ true
orderly_after laws c i run b k setting fit e = ordered laws.asks c i ((run_from c i run b).harts k) (omega (arith, setting.limit_high)) (fit_run laws c i run b setting fit e k).fit

pub own_state : (next : TurnEnd) (s : HartState) (skipped bytes : ℕ) (h : Hart) → (hart_after next s skipped bytes h).state ≡ s
own_state GoesOn s skipped bytes h = refl
own_state next s skipped bytes h = refl

pub moved : (c : RawSettings) (i : Program) (run : Run) (k : ℕ) → is_orderly c i (run.harts k) (ask_at c i (run.harts k)) ≡ true → ((turn c i run k).harts k).state ≡ absorbed (ask_at c i (run.harts k)) (serve c i run k (ask_at c i (run.harts k))).reply
moved c i run k o =
    ap (λ (h : Hart). h.state) (own_is c i run k k o (eqb_same k)) ∙ own_state (next_at c i run k) (state_of c i run k) _ _ ((asked_at c i run k).harts k)
    ∙ sym (ap (λ (s : Served). absorbed (ask_at c i (run.harts k)) s.reply) (served c i run k (ask_at c i (run.harts k)) o))

pub stayed : (c : RawSettings) (i : Program) (run : Run) (k j : ℕ) → is_orderly c i (run.harts k) (ask_at c i (run.harts k)) ≡ true → (j == k) ≡ false → ((turn c i run k).harts j).state ≡ (run.harts j).state
stayed c i run k j o apart = ap (λ (h : Hart). h.state) (other_is c i run k j o apart) ∙ other_state (next_at c i run k) (run.harts j)

pub turns_move : TurnsMoveTheirHart
turns_move = record { own = moved; others = stayed }
