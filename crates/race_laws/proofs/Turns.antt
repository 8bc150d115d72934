-- What stands after each turn of a run.
use Rattle.race_laws.proofs.Common.{◌≡◌, ℕ, ◌<◌, ◌≤◌, ◌==◌, ◌+◌, ◌^◌, Bool, true, false, nat_lt, refl, inl, inr, arith, sym, ap, ◌∙◌, subst, List, [], ◌∷◌, None, eqb_tells, Program, IsSetting, RawSettings, HartState, TurnRow, absorbed, Ask, Reply, Hart, TurnEnd, answer, call_of, Run, serve, serve_orderly, serve_disorderly, served_if, is_orderly, is_guarded, guarded_run, asked_run, guard_records, by_guard, span_of, next_of, loading, warmth, word_before, skipped_after, point_of, hart_after, harts_after, dead, start, start_state, IsFit, IsRested, anew, GuardedAsksFit, MovesOn, EachTurnMovesOn, EachTurnFits, OthersStayFit, after_rows, IsLawful, eqb_same, false≢true, and_parts, slice_get, get_or, Option, Some, slice_get-get_or, Point, IsInOrder, is_there, points_after, in_after}
use Rattle.rv_meaning.specs.declared.asks.Reply.TheVariants as replies
use Rattle.rv_meaning.specs.Orderly.{is_cut}
use Rattle.log_record.specs.Spelling.{total}
use Rattle.race_laws.proofs.Heads.{EdgeLaws, Heads, heads_after, first_heads}
use Rattle.run_laws.proofs.Turns.{own_state, other_state, uncut, fit_start}
use Rattle.run_laws.proofs.LastEnds.{own_is, other_is}
use Rattle.std.proofs.lemmas.List.Quantifiers.{all_pairs_push}
use Rattle.run_model.specs.declared.span.Span.{Span}

-- The order of a run's points, point by point.
-- points are in order, of earlier turns than this one, and each of a lower count than its hart's
pub record Ordered (points : List Point) (turns : ℕ) (counts : ℕ → ℕ) : Type 0 where
  pub order : IsInOrder points
  pub past : (m : ℕ) (p : Point) → slice_get points m ≡ Some p → p.turn < turns
  pub counted : (m : ℕ) (p : Point) → slice_get points m ≡ Some p → p.count < counts p.hart

-- a point is of this turn, and stands between its hart's counts before and after it
abbrev pub IsFresh : Option Point → ℕ → (ℕ → ℕ) → (ℕ → ℕ) → Type 0
IsFresh None turns old new = Unit {0}
IsFresh (Some b) turns old new = (b.turn ≡ turns) × (old b.hart ≤ b.count) × (b.count < new b.hart)

pub fresh_of : (span : Option Span) (k asked turns : ℕ) (old new : ℕ → ℕ) → old k ≤ asked → (is_there span ≡ true → new k ≡ asked + 1) → IsFresh (point_of k asked turns span) turns old new
fresh_of None k asked turns old new low up = tt
fresh_of (Some s) k asked turns old new low up = (refl, low, (let e = up refl in omega (arith, e)))

pub order_none : Ordered [] 0 (λ k. 0)
order_none = record {
  order = record { turns = λ i j d up low. absurd (omega (arith, low)); counts = λ i j d up low. absurd (omega (arith, low)) };
  past = λ m p e. cc;
  counted = λ m p e. cc;
}

pub order_after : (o : Option Point) (points : List Point) (turns : ℕ) (old new : ℕ → ℕ) → ((j : ℕ) → old j ≤ new j) → IsFresh o turns old new
    → Ordered points turns old → Ordered (points_after o points) (turns + 1) new
order_after None points turns old new up fresh is = record {
  order = is.order;
  past = λ m p e. omega (arith, is.past m p e);
  counted = λ m p e. omega (arith, is.counted m p e, up p.hart);
}
order_after (Some b) points turns old new up fresh is = record {
  order = record {
    turns = all_pairs_push (λ p q. p.turn < q.turn) points b is.order.turns (λ k d low. before_turn (get_or points k d) (is.past k (get_or points k d) (slice_get-get_or points k d low)));
    counts = all_pairs_push (λ p q. p.hart ≡ q.hart → p.count < q.count) points b is.order.counts
        (λ k d low same. below_count (get_or points k d) same (is.counted k (get_or points k d) (slice_get-get_or points k d low)));
  };
  past = λ m p e. elim (in_after points b m p e) [
    | inl o ↦ omega (arith, is.past m p o.1)
    | inr n ↦ (let t = ap (λ (q : Point). q.turn) n.1 in omega (arith, t, fresh.0))
  ];
  counted = λ m p e. elim (in_after points b m p e) [
    | inl o ↦ omega (arith, is.counted m p o.1, up p.hart)
    | inr n ↦ subst (λ (q : Point). q.count < new q.hart) n.1 fresh.2
  ];
}
  where
    before_turn : (p : Point) → p.turn < turns → p.turn < b.turn
    before_turn p low = omega (arith, low, fresh.0)

    below_count : (p : Point) → p.hart ≡ b.hart → p.count < old p.hart → p.count < b.count
    below_count p same low = (let e = ap old same in omega (arith, low, e, fresh.1))

-- the laws that are used here
pub record Laws : Type 0 where
  pub moves : EachTurnMovesOn
  pub fits : EachTurnFits
  pub others : OthersStayFit
  pub guarded : GuardedAsksFit
  pub edges : EdgeLaws

abbrev pub counts_of : (ℕ → Hart) → ℕ → ℕ
counts_of harts j = (harts j).state.ic

-- the counts are within the settings, the points are in order, and the Edges into later points come after each Header
pub record Stands (c : RawSettings) (run : Run) : Type 0 where
  pub fit : (j : ℕ) → IsRested c (run.harts j)
  pub order : Ordered run.points run.turns (counts_of run.harts)
  pub heads : Heads run.points run.stream

-- ---- the harts

own_count : (next : TurnEnd) (k : ℕ) (s : HartState) (skipped bytes : ℕ) (h : Hart) (harts : ℕ → Hart) → counts_of (harts_after next k (hart_after next s skipped bytes h) harts) k ≡ s.ic
own_count next k s skipped bytes h harts = ap (λ (x : Hart). x.state.ic) (own_is next k k (hart_after next s skipped bytes h) harts (eqb_same k)) ∙ ap (λ (x : HartState). x.ic) (own_state next s skipped bytes h)

-- no count falls
counts_rise : (next : TurnEnd) (k : ℕ) (s : HartState) (skipped bytes : ℕ) (harts : ℕ → Hart) → (harts k).state.ic ≤ s.ic
    → (j : ℕ) → counts_of harts j ≤ counts_of (harts_after next k (hart_after next s skipped bytes (harts k)) harts) j
counts_rise next k s skipped bytes harts up j = elim (eqb_tells j k) [
  | inl p ↦ subst (λ (n : ℕ). counts_of harts n ≤ counts_of (harts_after next k (hart_after next s skipped bytes (harts k)) harts) n) (sym p.1)
      (omega (arith, up, own_count next k s skipped bytes (harts k) harts))
  | inr p ↦
      let same : counts_of (harts_after next k (hart_after next s skipped bytes (harts k)) harts) j ≡ counts_of harts j =
      ap (λ (x : Hart). x.state.ic) (other_is next k j (hart_after next s skipped bytes (harts k)) harts p.0) ∙ ap (λ (x : HartState). x.ic) (other_state next (harts j)) in
      omega (arith, same)
]

all_fit : (c : RawSettings) (next : TurnEnd) (k : ℕ) (own : Hart) (harts : ℕ → Hart) → OthersStayFit → IsRested c own → ((j : ℕ) → (j == k) ≡ false → IsRested c (harts j)) → (j : ℕ) → IsRested c (harts_after next k own harts j)
all_fit c next k own harts others fit each j = elim (eqb_tells j k) [
  | inl p ↦ subst (λ (x : Hart). IsRested c x) (sym (own_is next k j own harts p.0)) fit
  | inr p ↦ subst (λ (x : Hart). IsRested c x) (sym (other_is next k j own harts p.0)) (others c (harts j) next (each j p.0)).0
]

-- ---- the guard

-- the run in which the ask is answered: the hart that asks is at the ask's beginning, and the others are as they were
record Asking (c : RawSettings) (i : Program) (run at : Run) (k : ℕ) (ask : Ask) : Type 0 where
  fit : IsFit c (at.harts k)
  live : (at.harts k).live ≡ true
  orderly : is_orderly c i (at.harts k) ask ≡ true
  others : (j : ℕ) → (j == k) ≡ false → IsRested c (at.harts j)
  rise : (j : ℕ) → counts_of run.harts j ≤ counts_of at.harts j
  heads : Heads run.points at.stream

asking : (g : Bool) → Laws → (c : RawSettings) (i : Program) (run : Run) (k : ℕ) (ask : Ask) → IsSetting c → (run.harts k).live ≡ true → is_orderly c i (run.harts k) ask ≡ true → (run.harts k).state.ic ≤ ask.state.ic
    → (g ≡ true → is_cut ask.want ≡ false) → Stands c run → Asking c i run (guarded_run g run k ask.state) k ask
asking false laws c i run k ask setting live o from cut is =
    record { fit = (is.fit k).fit; live = live; orderly = o; others = λ j e. is.fit j; rise = λ j. omega arith; heads = is.heads }
asking true laws c i run k ask setting live o from cut is =
    let bytes = run.bytes + total (guard_records run k ask.state) in
    let own = anew ask.state bytes (run.harts k) in
    let here : harts_after by_guard k own run.harts k ≡ own = own_is by_guard k k own run.harts (eqb_same k) in
    let fits = laws.guarded c i (run.harts k) bytes ask setting.interval_low (is.fit k) live o (cut refl) in
    record {
      fit = subst (λ (x : Hart). IsFit c x) (sym here) fits.0;
      live = ap (λ (x : Hart). x.live) here ∙ live;
      orderly = subst (λ (x : Hart). is_orderly c i x ask ≡ true) (sym here) fits.1;
      others = λ j e. subst (λ (x : Hart). IsRested c x) (sym (other_is by_guard k j own run.harts e)) (is.fit j);
      rise = counts_rise by_guard k ask.state 0 bytes run.harts from;
      heads = heads_after laws.edges None run.points run.stream None k 0 0 replies.Over by_guard (run.harts k).number ask.state c.harts run.harts
          (λ m p e same. (let low = is.order.counted m p e in let one = ap (counts_of run.harts) same in omega (arith, low, one, from))) is.heads;
    }

-- ---- an orderly ask

orderly_stands : Laws → (c : RawSettings) (i : Program) (run : Run) (k : ℕ) (ask : Ask) → IsSetting c → (run.harts k).live ≡ true → is_orderly c i (run.harts k) ask ≡ true
    → Stands c run → Stands c (serve_orderly c i run k ask).run
orderly_stands laws c i run k ask setting live o is =
    let call = call_of i run.machine ask.want in
    let reply : Reply = (answer c call run.machine k ask).reply in
    let s : HartState = absorbed ask reply in
    let span = span_of call ask.want reply in
    let small : c.limit < 2 ^ 63 = omega (arith, setting.limit_high) in
    let before : MovesOn c (run.harts k) ask.state.ic s.ic _ span (loading ask.want) = laws.moves c i run.machine (run.harts k) k ask small (is.fit k).fit live o in
    let at : Run = asked_run c run k ask in
    let a = asking (is_guarded c run k ask.want) laws c i run k ask setting live o before.from (uncut c run k ask.want) is in
    let h : Hart = at.harts k in
    let next : TurnEnd = next_of c call h ask.want reply s.ic in
    let load = warmth c (loading ask.want) (at.events k) in
    let bytes = (serve_orderly c i run k ask).run.bytes in
    let own : Hart = hart_after next s (skipped_after load h.skipped) bytes h in
    let harts : ℕ → Hart = harts_after next k own at.harts in
    let on : MovesOn c h ask.state.ic s.ic next span (loading ask.want) = laws.moves c i run.machine h k ask small a.fit a.live a.orderly in
    let fit = laws.fits c h ask.state.ic bytes s next span (loading ask.want) (at.events k) setting.interval_low a.live a.fit on in
    let here : counts_of harts k ≡ s.ic = own_count next k s (skipped_after load h.skipped) bytes h at.harts in
    let rise = counts_rise next k s (skipped_after load h.skipped) bytes at.harts (omega (arith, on.from, on.low)) in
    let order = order_after (point_of k ask.state.ic run.turns span) run.points run.turns (counts_of run.harts) (counts_of harts)
    (λ j. omega (arith, a.rise j, rise j))
    (fresh_of span k ask.state.ic run.turns (counts_of run.harts) (counts_of harts) before.from (λ e. here ∙ on.accessed e)) is.order in
    record {
      fit = all_fit c next k own at.harts laws.others fit.0 a.others;
      order = order;
      heads = heads_after laws.edges (point_of k ask.state.ic run.turns span) run.points at.stream load k h.skipped (word_before run.machine.memory (loading ask.want)) reply next h.number s c.harts at.harts
          (λ m p e same. subst (λ (n : ℕ). p.count < n) (ap (counts_of harts) same ∙ here) (order.counted m p e)) a.heads;
    }

-- ---- any ask

dead_fit : (c : RawSettings) (h : Hart) → IsRested c h → IsRested c (dead h)
dead_fit c h r =
    let f = r.fit in
    record { fit = record { number = f.number; skipped = f.skipped; interval = f.interval; limit = f.limit; unfilled = λ e. absurd (false≢true e) }; number = λ e. absurd (false≢true e) }

disorderly_stands : (c : RawSettings) (run : Run) → Stands c run → Stands c (serve_disorderly run).run
disorderly_stands c run is = record {
  fit = λ j. dead_fit c (run.harts j) (is.fit j);
  order = order_after None run.points run.turns (counts_of run.harts) (counts_of run.harts) (λ j. omega arith) tt is.order;
  heads = is.heads;
}

served_stands : Laws → (b : Bool) (c : RawSettings) (i : Program) (run : Run) (k : ℕ) (ask : Ask) → IsSetting c → (run.harts k).live ≡ true → is_orderly c i (run.harts k) ask ≡ b
    → Stands c run → Stands c (served_if b c i run k ask).run
served_stands laws true c i run k ask setting live o is = orderly_stands laws c i run k ask setting live o is
served_stands laws false c i run k ask setting live o is = disorderly_stands c run is

ask_stands : Laws → (c : RawSettings) (i : Program) (run : Run) (k : ℕ) (ask : Ask) → IsSetting c → (run.harts k).live ≡ true → Stands c run → Stands c (serve c i run k ask).run
unfolding serve
ask_stands laws c i run k ask setting live is = served_stands laws (is_orderly c i (run.harts k) ask) c i run k ask setting live refl is

pub rows_stand : Laws → (c : RawSettings) (i : Program) (run : Run) (rows : List TurnRow) → IsSetting c → IsLawful c i run rows → Stands c run → Stands c (after_rows c i run rows)
rows_stand laws c i run [] setting lawful is = is
rows_stand laws c i run (r ∷ rows) setting lawful is =
    rows_stand laws c i (serve c i run r.hart r.ask).run rows setting lawful.3
    (ask_stands laws c i run r.hart r.ask setting (and_parts (nat_lt r.hart c.harts) (run.harts r.hart).live lawful.0).1 is)

-- ---- the start

pub start_stands : (c : RawSettings) (i : Program) (input : List ℕ) → IsSetting c → Stands c (start c i input)
start_stands c i input setting = record {
  fit = λ j. fit_start c j (start_state c i j) refl setting.interval_low;
  order = order_none;
  heads = first_heads c i 0 c.harts;
}
