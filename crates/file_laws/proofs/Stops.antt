-- The end of the run stops the harts that are still live.
use Rattle.file_laws.proofs.Common.{◌≡◌, ℕ, zero, suc, ◌+◌, ◌<◌, ◌≤◌, Bool, true, false, not, ◌&&◌, Option, Some, List, [], ◌∷◌, ◌++◌, length, refl, sym, ◌∙◌, ap, subst, arith, append_assoc, inl, inr, ◌==◌, slice_get, false≢true, append-nil, RawSettings, Record, End, HartView, order_limits_of, Keeps, Hart, IsFit, mark, stopped, stopped_records, ne_eqb, first_or_later}
use Rattle.file_laws.proofs.Views.{OrderLaws, Views, IsDone, IsView, Took}
use Rattle.file_laws.proofs.Nexts.{IsWithin, EndsSo, took_last, done_view}

-- after the Ends of the m harts from j on that are stopped, but for hart k
pub record Stops (c : RawSettings) (n : ℕ) (stream : List Record) (vs : Views) (k j m : ℕ) (harts : ℕ → Hart) : Type 0 where
  pub views : Views
  pub keeps : Keeps (order_limits_of c) n 0 (stream ++ stopped_records k j m harts) views
  pub size : length views ≡ length vs
  pub inside : (i : ℕ) → j ≤ i → i < j + m → (i == k) ≡ false → IsView (stopped (harts i)) (slice_get views i)
  pub before : (i : ℕ) → i < j → slice_get views i ≡ slice_get vs i
  pub own : slice_get views k ≡ slice_get vs k

-- the harts of m from j on are so before, but for hart k
abbrev pub AreViews : ℕ → ℕ → ℕ → (ℕ → Hart) → Views → Type 0
AreViews k j m harts vs = (i : ℕ) → j ≤ i → i < j + m → (i == k) ≡ false → IsView (harts i) (slice_get vs i)

-- whether hart j is stopped, and then it is another and live
stop_known : (same live : Bool) → (not same && live) ≡ true → (same ≡ false) × (live ≡ true)
stop_known false true e = (refl, refl)
stop_known false false e = absurd cc
stop_known true live e = absurd cc

stay_known : (same live : Bool) → (not same && live) ≡ false → same ≡ false → live ≡ false
stay_known false live e f = e
stay_known true live e f = absurd (false≢true (sym f))

stopped_live : (h : Hart) → h.live ≡ true → stopped h ≡ record h { live = false; mark = Some (mark h.state.ic 5 0) }
stopped_live h e = ap (λ (b : Bool). elim b as (λ x. Hart) [ true ↦ record h { live = false; mark = Some (mark h.state.ic 5 0) } | false ↦ h ]) e

stopped_dead : (h : Hart) → h.live ≡ false → stopped h ≡ h
stopped_dead h e = ap (λ (b : Bool). elim b as (λ x. Hart) [ true ↦ record h { live = false; mark = Some (mark h.state.ic 5 0) } | false ↦ h ]) e

other_end : (c : RawSettings) (h : Hart) → EndsSo c h h.state.ic 5 false
other_end c h = record { full = λ p. absurd cc; limit = λ p. absurd cc; kind = refl }

within_fit : (c : RawSettings) (h : Hart) → IsFit c h → IsWithin c h h.state.ic
within_fit c h fit = record { low = omega (arith, fit.skipped); high = fit.interval; limit = fit.limit }

chosen_records : (k j m : ℕ) (harts : ℕ → Hart) → (b : Bool) → (not (j == k) && (harts j).live) ≡ b
    → stopped_records k j (suc m) harts ≡ elim b as (λ x. List Record) [ true ↦ End j (mark (harts j).state.ic 5 0) ∷ stopped_records k (j + 1) m harts | false ↦ stopped_records k (j + 1) m harts ]
chosen_records k j m harts b e = ap (λ (x : Bool). elim x as (λ y. List Record) [ true ↦ End j (mark (harts j).state.ic 5 0) ∷ stopped_records k (j + 1) m harts | false ↦ stopped_records k (j + 1) m harts ]) e

stops_next : (c : RawSettings) (n : ℕ) (stream : List Record) (vs : Views) (k j m : ℕ) (harts : ℕ → Hart) → AreViews k j (suc m) harts vs → (not (j == k) && (harts j).live) ≡ false → Stops c n stream vs k (j + 1) m harts
    → Stops c n stream vs k j (suc m) harts
stops_next c n stream vs k j m harts views e rest = record {
  views = rest.views;
  keeps = subst (λ (x : List Record). Keeps (order_limits_of c) n 0 (stream ++ x) rest.views) (sym (chosen_records k j m harts false e)) rest.keeps;
  size = rest.size;
  inside = λ i low high apart. elim (first_or_later i j m low high) [
    | inl p ↦
        let same : i ≡ j = p in
        let off : (j == k) ≡ false = subst (λ (x : ℕ). (x == k) ≡ false) same apart in
        let dead : (harts j).live ≡ false = stay_known (j == k) (harts j).live e off in
        let here : IsView (stopped (harts j)) (slice_get vs j) = subst (λ (h : Hart). IsView h (slice_get vs j)) (sym (stopped_dead (harts j) dead)) (views j (omega arith) (omega arith) off) in
        let there : IsView (stopped (harts j)) (slice_get rest.views j) = subst (λ (o : Option HartView). IsView (stopped (harts j)) o) (sym (rest.before j (omega arith))) here in
        subst (λ (x : ℕ). IsView (stopped (harts x)) (slice_get rest.views x)) (sym same) there
    | inr p ↦ rest.inside i p.0 p.1 apart
  ];
  before = λ i low. rest.before i (omega (arith, low));
  own = rest.own;
}

stops_one : (c : RawSettings) (n : ℕ) (stream : List Record) (vs : Views) (k j m : ℕ) (harts : ℕ → Hart) → (j == k) ≡ false → (harts j).live ≡ true → (not (j == k) && (harts j).live) ≡ true
    → (one : Took (order_limits_of c) n stream vs j (End j (mark (harts j).state.ic 5 0) ∷ []) (IsDone (harts j).state.ic)) → Stops c n (stream ++ End j (mark (harts j).state.ic 5 0) ∷ []) one.views k (j + 1) m harts
    → Stops c n stream vs k j (suc m) harts
stops_one c n stream vs k j m harts off live e one rest =
    let end : Record = End j (mark (harts j).state.ic 5 0) in record {
      views = rest.views;
      keeps = subst (λ (x : List Record). Keeps (order_limits_of c) n 0 (stream ++ x) rest.views) (sym (chosen_records k j m harts true e))
          (subst (λ (x : List Record). Keeps (order_limits_of c) n 0 x rest.views) (append_assoc stream (end ∷ []) (stopped_records k (j + 1) m harts)) rest.keeps);
      size = rest.size ∙ one.size;
      inside = λ i low high apart. elim (first_or_later i j m low high) [
        | inl p ↦
            let same : i ≡ j = p in
            let done : IsDone (harts j).state.ic (slice_get rest.views j) = subst (IsDone (harts j).state.ic) (sym (rest.before j (omega arith))) one.own in
            let over : Hart = record (harts j) { live = false; mark = Some (mark (harts j).state.ic 5 0) } in
            let there : IsView (stopped (harts j)) (slice_get rest.views j) = subst (λ (h : Hart). IsView h (slice_get rest.views j)) (sym (stopped_live (harts j) live)) (done_view over (slice_get rest.views j) refl done) in
            subst (λ (x : ℕ). IsView (stopped (harts x)) (slice_get rest.views x)) (sym same) there
        | inr p ↦ rest.inside i p.0 p.1 apart
      ];
      before = λ i low. rest.before i (omega (arith, low)) ∙ one.others i (ne_eqb i j (omega (arith, low)));
      own = rest.own ∙ one.others k (turned j k off);
    }
  where
    turned : (j k : ℕ) → (j == k) ≡ false → (k == j) ≡ false
    turned j k e = grind arith

by_stop : (b : Bool) → OrderLaws → (c : RawSettings) (n : ℕ) (stream : List Record) (vs : Views) (k j m : ℕ) (harts : ℕ → Hart) → Keeps (order_limits_of c) n 0 stream vs → ((i : ℕ) → IsFit c (harts i)) → AreViews k j (suc m) harts vs
    → ((rs : List Record) (us : Views) → Keeps (order_limits_of c) n 0 rs us → AreViews k (j + 1) m harts us → Stops c n rs us k (j + 1) m harts)
    → (not (j == k) && (harts j).live) ≡ b → Stops c n stream vs k j (suc m) harts
by_stop false laws c n stream vs k j m harts kp fit views rest e =
    stops_next c n stream vs k j m harts views e (rest stream vs kp (λ i low high apart. views i (omega (arith, low)) (omega (arith, high)) apart))
by_stop true laws c n stream vs k j m harts kp fit views rest e =
    let known = stop_known (j == k) (harts j).live e in
    let open_now = (views j (omega arith) (omega arith) known.0).in_interval known.1 in
    let one = took_last laws c n stream vs j ((harts j).number + 1) (harts j) (harts j).state.ic 5 0 kp open_now (within_fit c (harts j) (fit j)) (other_end c (harts j)) in
    stops_one c n stream vs k j m harts known.0 known.1 e one
    (rest (stream ++ End j (mark (harts j).state.ic 5 0) ∷ []) one.views one.keeps
    (λ i low high apart. subst (λ (o : Option HartView). IsView (harts i) o) (sym (one.others i (ne_eqb i j (omega (arith, low))))) (views i (omega (arith, low)) (omega (arith, high)) apart)))

pub stops : OrderLaws → (c : RawSettings) (n : ℕ) (stream : List Record) (vs : Views) (k j m : ℕ) (harts : ℕ → Hart) → Keeps (order_limits_of c) n 0 stream vs → ((i : ℕ) → IsFit c (harts i)) → AreViews k j m harts vs
    → Stops c n stream vs k j m harts
stops laws c n stream vs k j zero harts kp fit views = record {
  views = vs;
  keeps = subst (λ (x : List Record). Keeps (order_limits_of c) n 0 x vs) (sym (append-nil stream)) kp;
  size = refl;
  inside = λ i low high apart. absurd (omega (arith, low, high));
  before = λ i low. refl;
  own = refl;
}
stops laws c n stream vs k j (suc m) harts kp fit views =
    by_stop (not (j == k) && (harts j).live) laws c n stream vs k j m harts kp fit views (λ rs us keeps are. stops laws c n rs us k (j + 1) m harts keeps fit are) refl
