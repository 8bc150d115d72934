-- A break is the first.
use Rattle.log_order.proofs.Common.{if◌then◌else◌, ◌≡◌, ℕ, ◌+◌, List, [], ◌∷◌, length, Bool, true, false, Option, Some, Result, Ok, Err, refl, ap, ◌∙◌, arith, length-append, Record, bytes_of, OrderLimits, HartView, total, ◌>>=◌, step, at_place, after_all, is_late, late_edge, OrderBreak, order_break}
use Rattle.std.proofs.lemmas.List.Concat.{flat_map-cons}
use Rattle.log_order.specs.First.{BreaksFirst, IsLateFirst}

abbrev Harts : Type 0
Harts = List HartView

abbrev well : Harts → Result Harts OrderBreak
well x = Ok x

abbrev ill : ℕ → ℕ → Result Harts OrderBreak
ill place rule = Err (order_break place rule)

clash : {P : Type 0} (x : Harts) (place rule : ℕ) → well x ≡ ill place rule → P
clash x place rule e = absurd cc

abbrev ill_one : OrderBreak → Result Harts OrderBreak
ill_one p = Err p

same_break : (p q : OrderBreak) → ill_one p ≡ ill_one q → p ≡ q
same_break p q e = cc

same_place : (a b c d : ℕ) → ill a b ≡ ill c d → a ≡ c
same_place a b c d e = ap (λ (p : OrderBreak). p.at) (same_break (order_break a b) (order_break c d) e)

same_rule : (a b c d : ℕ) → ill a b ≡ ill c d → b ≡ d
same_rule a b c d e = ap (λ (p : OrderBreak). p.rule) (same_break (order_break a b) (order_break c d) e)

total-cons : (r : Record) (rs : List Record) → total (r ∷ rs) ≡ length (bytes_of r) + total rs
total-cons r rs = ap length (flat_map-cons bytes_of r rs) ∙ length-append (bytes_of r) _

by_step : (t : OrderLimits) (start : ℕ) (harts : Harts) (r : Record) (rs : List Record) (place rule : ℕ) (s : Result Harts ℕ) → step t harts r ≡ s
    → ((next : Harts) → after_all t (start + length (bytes_of r)) next rs ≡ ill place rule → BreaksFirst t (start + length (bytes_of r)) next rs place rule)
    → (at_place start s >>= λ next. after_all t (start + length (bytes_of r)) next rs) ≡ ill place rule → BreaksFirst t start harts (r ∷ rs) place rule
unfolding after_all
by_step t start harts r rs place rule (Err x) q later e = record {
  front = [];
  one = r;
  back = rs;
  before = harts;
  parts = refl;
  kept = refl;
  breaks = q ∙ ap (λ (y : ℕ). Err y) (same_rule start x place rule e);
  place_is = omega (arith, same_place start x place rule e);
}
by_step t start harts r rs place rule (Ok next) q later e =
    let b = later next e in
    record {
      front = r ∷ b.front;
      one = b.one;
      back = b.back;
      before = b.before;
      parts = ap (λ (xs : List Record). r ∷ xs) b.parts;
      kept = rw q b.kept;
      breaks = b.breaks;
      place_is = omega (arith, b.place_is, total-cons r b.front);
    }

pub breaks_first : (t : OrderLimits) (start : ℕ) (harts : Harts) (rs : List Record) (place rule : ℕ) → after_all t start harts rs ≡ ill place rule → BreaksFirst t start harts rs place rule
unfolding after_all
breaks_first t start harts [] place rule e = clash harts place rule e
breaks_first t start harts (r ∷ rs) place rule e =
    by_step t start harts r rs place rule (step t harts r) refl (λ next h. breaks_first t (start + length (bytes_of r)) next rs place rule h) e

abbrev found : ℕ → Option ℕ
found place = Some place

same_found : (a b : ℕ) → found a ≡ found b → a ≡ b
same_found a b e = cc

by_late : (harts : Harts) (start : ℕ) (r : Record) (rs : List Record) (place : ℕ) (late : Bool) → is_late harts r ≡ late
    → (late_edge harts (start + length (bytes_of r)) rs ≡ found place → IsLateFirst harts (start + length (bytes_of r)) rs place)
    → (if late then Some start else late_edge harts (start + length (bytes_of r)) rs) ≡ found place → IsLateFirst harts start (r ∷ rs) place
by_late harts start r rs place true q later e = record {
  front = [];
  one = r;
  back = rs;
  parts = refl;
  none_before = tt;
  late = q;
  place_is = omega (arith, same_found start place e);
}
by_late harts start r rs place false q later e =
    let b = later e in
    record {
      front = r ∷ b.front;
      one = b.one;
      back = b.back;
      parts = ap (λ (xs : List Record). r ∷ xs) b.parts;
      none_before = (q, b.none_before);
      late = b.late;
      place_is = omega (arith, b.place_is, total-cons r b.front);
    }

pub late_first : (harts : Harts) (start : ℕ) (rs : List Record) (place : ℕ) → late_edge harts start rs ≡ found place → IsLateFirst harts start rs place
unfolding late_edge
late_first harts start [] place e = absurd cc
late_first harts start (r ∷ rs) place e =
    by_late harts start r rs place (is_late harts r) refl (λ h. late_first harts (start + length (bytes_of r)) rs place h) e
