-- A recording at its start: the Header of each hart's first interval.
use Rattle.file_laws.proofs.Common.{◌≡◌, ℕ, zero, suc, ◌+◌, ◌<◌, ◌≤◌, true, false, Some, None, List, [], ◌∷◌, ◌++◌, length, replicate, refl, sym, ◌∙◌, subst, arith, append_assoc, inl, inr, slice_get, AllByRecursion, append-nil, Program, IsSetting, RawSettings, Record, OrderLimits, HartView, Open, fresh, order_limits_of, Keeps, IsEarly, header, start, start_hart, start_state, first_headers, ne_eqb, first_or_later, fit_start}
use Rattle.file_laws.proofs.Views.{OrderLaws, Views, IsOpen, Took, took_one}
use Rattle.file_laws.proofs.Nexts.{open_view}
use Rattle.file_laws.proofs.Turns.{Recording}
use Rattle.std.proofs.lemmas.List.{length-replicate}

-- the law of a recorder that begins
abbrev pub NoneAreKept : Type 0
NoneAreKept = (t : OrderLimits) (count : ℕ) → Keeps t count 0 [] (replicate count (fresh true))

-- after the Headers of m harts from k on
record Begins (c : RawSettings) (i : Program) (n : ℕ) (stream : List Record) (vs : Views) (k m : ℕ) : Type 0 where
  views : Views
  keeps : Keeps (order_limits_of c) n 0 (stream ++ first_headers c i k m) views
  size : length views ≡ length vs
  inside : (j : ℕ) → k ≤ j → j < k + m → IsOpen 1 0 0 (slice_get views j)
  before : (j : ℕ) → j < k → slice_get views j ≡ slice_get vs j

AreFresh : ℕ → ℕ → Views → Type 0
AreFresh k m vs = (j : ℕ) → k ≤ j → j < k + m → slice_get vs j ≡ Some (fresh true)

begin_one : OrderLaws → (c : RawSettings) (i : Program) (n : ℕ) (stream : List Record) (vs : Views) (k : ℕ) → Keeps (order_limits_of c) n 0 stream vs → slice_get vs k ≡ Some (fresh true)
    → Took (order_limits_of c) n stream vs k (header k 0 (start_state c i k) ∷ []) (IsOpen 1 0 0)
begin_one laws c i n stream vs k kp e =
    let opened : HartView = record { phase = Open 1 0; seen = 0; met = true; last = None } in
    took_one laws.more (order_limits_of c) n stream vs k (header k 0 (start_state c i k)) (fresh true) opened (IsOpen 1 0 0) kp e
    (laws.header (order_limits_of c) vs k 0 0 (start_state c i k).pc (start_state c i k).x 0 false None e (omega arith) (omega arith) (omega arith))
    (record { seen = 0; met = true; last = None; is = refl; low = omega arith })

begins : OrderLaws → (c : RawSettings) (i : Program) (n : ℕ) (stream : List Record) (vs : Views) (k m : ℕ) → Keeps (order_limits_of c) n 0 stream vs → AreFresh k m vs → Begins c i n stream vs k m
unfolding AreFresh
begins laws c i n stream vs k zero kp are = record {
  views = vs;
  keeps = subst (λ (x : List Record). Keeps (order_limits_of c) n 0 x vs) (sym (append-nil stream)) kp;
  size = refl;
  inside = λ j low high. absurd (omega (arith, low, high));
  before = λ j low. refl;
}
begins laws c i n stream vs k (suc m) kp are =
    let first : Record = header k 0 (start_state c i k) in
    let one = begin_one laws c i n stream vs k kp (are k (omega arith) (omega arith)) in
    let rest = begins laws c i n (stream ++ first ∷ []) one.views (k + 1) m one.keeps (λ j low high. one.others j (ne_eqb j k (omega (arith, low))) ∙ are j (omega (arith, low)) (omega (arith, high))) in
    record {
      views = rest.views;
      keeps = subst (λ (x : List Record). Keeps (order_limits_of c) n 0 x rest.views) (append_assoc stream (first ∷ []) (first_headers c i (k + 1) m)) rest.keeps;
      size = rest.size ∙ one.size;
      inside = λ j low high. elim (first_or_later j k m low high) [
        | inl p ↦ (let here : IsOpen 1 0 0 (slice_get rest.views k) = subst (IsOpen 1 0 0) (sym (rest.before k (omega arith))) one.own in subst (λ (x : ℕ). IsOpen 1 0 0 (slice_get rest.views x)) (sym p) here)
        | inr p ↦ rest.inside j p.0 p.1
      ];
      before = λ j low. rest.before j (omega (arith, low)) ∙ one.others j (ne_eqb j k (omega (arith, low)));
    }

get_replicate : (n j : ℕ) (v : HartView) → j < n → slice_get (replicate n v) j ≡ Some v
get_replicate zero j v h = absurd (omega (arith, h))
get_replicate (suc n) zero v h = refl
get_replicate (suc n) (suc j) v h = get_replicate n j v (omega (arith, h))

headers_early : (c : RawSettings) (i : Program) (counts : ℕ → ℕ) (k m : ℕ) → AllByRecursion (IsEarly counts) (first_headers c i k m)
headers_early c i counts k zero = tt
headers_early c i counts k (suc m) = (tt, headers_early c i counts (k + 1) m)

pub started : OrderLaws → NoneAreKept → (c : RawSettings) (i : Program) (input : List ℕ) → IsSetting c → Recording c (start c i input)
unfolding AreFresh
started laws none c i input setting =
    let begin = begins laws c i c.harts [] (replicate c.harts (fresh true)) 0 c.harts (none (order_limits_of c) c.harts) (λ j low high. get_replicate c.harts j (fresh true) (omega (arith, high))) in
    record {
      views = begin.views;
      keeps = begin.keeps;
      size = begin.size ∙ length-replicate c.harts (fresh true);
      view = λ j within. open_view (start_hart j (start_state c i j)) (slice_get begin.views j) refl (begin.inside j (omega arith) (omega (arith, within)));
      fit = λ j. fit_start c j (start_state c i j) refl setting.interval_low;
      early = headers_early c i _ 0 c.harts;
      points = λ m q e. cc;
    }
