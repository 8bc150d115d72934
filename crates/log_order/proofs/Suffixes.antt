-- What a ring of records does to their order.
use Rattle.log_order.proofs.Common.{Header, FirstLoad, ScOk, ScFailed, Edge, End, ◌≡◌, ℕ, ◌+◌, ◌<◌, true, false, None, List, [], ◌∷◌, ◌++◌, length, replicate, Ok, refl, sym, subst, append_assoc, arith, ◌≤◌, Bool, Option, Some, ◌==◌, nat_le, slice_get, list_any, AllByRecursion, length-append, Record, bytes_of, OrderLimits, HartView, fresh, is_done, is_unfinished, step, after_all, is_late, late_edge, end_break, broken, is_past, is_from, order_limits_of, broken_by}
use Rattle.bn_base.specs.declared.settings.RawSettings.{RawSettings}
use Rattle.log_order.specs.Suffix.{Keeps, IsEarly, EndsLast}
use Rattle.log_order.proofs.Fronts.{appended, suffix_fresh, front_given_up, weak_any, weak_late_edge, Runs2, weak_all, all_same}

abbrev Harts : Type 0
Harts = List HartView

pub keeps_none : (t : OrderLimits) (n : ℕ) → Keeps t n 0 [] (replicate n (fresh true))
unfolding after_all
keeps_none t n = record { gone = []; dropped_is = refl; ran = refl }

pub keeps_more : (t : OrderLimits) (n d : ℕ) (kept : List Record) (vs us : Harts) (r : Record) → Keeps t n d kept vs → step t vs r ≡ Ok us → Keeps t n d (kept ++ r ∷ []) us
keeps_more t n d kept vs us r k e = record {
  gone = k.gone;
  dropped_is = k.dropped_is;
  ran = subst (λ (xs : List Record). after_all t 0 (replicate n (fresh true)) xs ≡ Ok us) (append_assoc k.gone kept (r ∷ [])) (appended t 0 (replicate n (fresh true)) vs us (k.gone ++ kept) r k.ran e);
}

not_zero : (a : ℕ) → 0 < a → (a == 0) ≡ false
not_zero a h = grind arith

by_gone : (t : OrderLimits) (n : ℕ) (gone kept : List Record) (vs : Harts) → after_all t 0 (replicate n (fresh true)) (gone ++ kept) ≡ Ok vs
    → list_any (is_unfinished true) vs ≡ false → late_edge vs 0 kept ≡ None → broken t n (length gone == 0) kept ≡ None
unfolding broken end_break
by_gone t n [] kept vs e h l = rw (e, h, l) refl
by_gone t n (g ∷ gone) kept vs e h l =
    let s = suffix_fresh t n true vs (g ∷ gone) kept e in
    let z : (length (g ∷ gone) == 0) ≡ false = not_zero (length (g ∷ gone)) (omega arith) in
    rw (z, s.1, weak_any true s.0 vs s.2 h, weak_late_edge s.0 vs 0 0 kept s.2 l) refl

-- in the end the kept records keep all rules
pub keeps_order : (t : OrderLimits) (n d : ℕ) (kept : List Record) (vs : Harts) → Keeps t n d kept vs → list_any (is_unfinished true) vs ≡ false → late_edge vs 0 kept ≡ None → broken t n (d == 0) kept ≡ None
keeps_order t n d kept vs k h l = subst (λ (i : ℕ). broken t n (i == 0) kept ≡ None) (sym k.dropped_is) (by_gone t n k.gone kept vs k.ran h l)

-- a log that loses its first records keeps its order, if it counts them
pub order_kept : (s : RawSettings) (d : ℕ) (front back : List Record) → broken_by s d (front ++ back) ≡ None → broken_by s (d + length front) back ≡ None
order_kept s d [] back e =
    let z : d ≡ d + 0 = omega arith in
    subst (λ (n : ℕ). broken_by s n back ≡ None) z e
order_kept s d (r ∷ front) back e =
    let z : (d + length (r ∷ front) == 0) ≡ false = not_zero (d + length (r ∷ front)) (omega arith) in
    rw z (front_given_up (order_limits_of s) s.harts (d == 0) (r ∷ front) back e)

-- it gives up several
pub keeps_back : (t : OrderLimits) (n d : ℕ) (front back : List Record) (vs : Harts) → Keeps t n d (front ++ back) vs → Keeps t n (d + length front) back vs
keeps_back t n d front back vs k = record {
  gone = k.gone ++ front;
  dropped_is = omega (arith, k.dropped_is, length-append k.gone front);
  ran = subst (λ (xs : List Record). after_all t 0 (replicate n (fresh true)) xs ≡ Ok vs) (sym (append_assoc k.gone front back)) k.ran;
}

by_gone_rules : (t : OrderLimits) (n : ℕ) (gone kept : List Record) (vs : Harts) → after_all t 0 (replicate n (fresh true)) (gone ++ kept) ≡ Ok vs → Runs2 (after_all t 0 (replicate n (fresh (length gone == 0))) kept) vs
by_gone_rules t n [] kept vs e = weak_all t 0 0 (replicate n (fresh true)) (replicate n (fresh true)) vs kept (all_same (replicate n (fresh true))) e
by_gone_rules t n (g ∷ gone) kept vs e =
    let z : (length (g ∷ gone) == 0) ≡ false = not_zero (length (g ∷ gone)) (omega arith) in
    subst (λ (b : Bool). Runs2 (after_all t 0 (replicate n (fresh b)) kept) vs) (sym z) (suffix_fresh t n true vs (g ∷ gone) kept e)

-- at all times the kept records keep the rules of single records
pub keeps_rules : (t : OrderLimits) (n d : ℕ) (kept : List Record) (vs : Harts) → Keeps t n d kept vs → Runs2 (after_all t 0 (replicate n (fresh (d == 0))) kept) vs
keeps_rules t n d kept vs k = subst (λ (i : ℕ). Runs2 (after_all t 0 (replicate n (fresh (i == 0))) kept) vs) (sym k.dropped_is) (by_gone_rules t n k.gone kept vs k.ran)

by_source : (counts : ℕ → ℕ) (vs : Harts) (s j : ℕ) (o : Option HartView) → slice_get vs s ≡ o → EndsLast counts vs → j < counts s → is_past o j ≡ false
by_source counts vs s j None q e lt = refl
by_source counts vs s j (Some v) q e lt = from_last v.last refl
  where
    from_last : (m : Option ℕ) → v.last ≡ m → is_from m j ≡ false
    from_last None y = refl
    from_last (Some l) y = let le : counts s ≤ l = e s v l q y in below_not l j (omega (arith, le, lt))
      where
        below_not : (a b : ℕ) → b < a → nat_le a b ≡ false
        below_not a b h = grind arith

early_one : (counts : ℕ → ℕ) (vs : Harts) (r : Record) → EndsLast counts vs → IsEarly counts r → is_late vs r ≡ false
early_one counts vs (Header h n ic pc x) e k = refl
early_one counts vs (FirstLoad h skip value) e k = refl
early_one counts vs (ScOk h) e k = refl
early_one counts vs (ScFailed h) e k = refl
early_one counts vs (Edge h ic s j) e k = by_source counts vs s j (slice_get vs s) refl e k
early_one counts vs (End h mark) e k = refl

pub early : (counts : ℕ → ℕ) (vs : Harts) (p : ℕ) (rs : List Record) → EndsLast counts vs → AllByRecursion (IsEarly counts) rs → late_edge vs p rs ≡ None
unfolding late_edge
early counts vs p [] e a = refl
early counts vs p (r ∷ rs) e a = rw (early_one counts vs r e a.0) (early counts vs (p + length (bytes_of r)) rs e a.1)

over_not_unfinished : (v : HartView) → is_done v.phase ≡ true → is_unfinished true v ≡ false
over_not_unfinished v h = rw h refl

none_unfinished : (vs : Harts) → AllByRecursion (λ v. is_done v.phase ≡ true) vs → list_any (is_unfinished true) vs ≡ false
none_unfinished [] a = refl
none_unfinished (v ∷ vs) a = rw (over_not_unfinished v a.0) (none_unfinished vs a.1)

pub keeps_order_over : (t : OrderLimits) (n d : ℕ) (kept : List Record) (vs : Harts) → Keeps t n d kept vs → AllByRecursion (λ v. is_done v.phase ≡ true) vs → late_edge vs 0 kept ≡ None → broken t n (d == 0) kept ≡ None
keeps_order_over t n d kept vs k over l = keeps_order t n d kept vs k (none_unfinished vs over) l
