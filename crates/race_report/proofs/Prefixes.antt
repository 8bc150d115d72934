-- Races of the first points are races of all.
use Rattle.race_report.proofs.Common.{◌≡◌, ℕ, zero, suc, ◌+◌, ◌<◌, ◌≤◌, ◌==◌, nat_lt, Bool, true, false, not, cond, ◌&&◌, ◌||◌, refl, sym, ap, ◌∙◌, arith, List, [], ◌∷◌, ◌++◌, length, slice_get, Option, Some, None, Point, before, leads, either, at_places, of_both, program_order, conflict, is_same_hart, is_conflict, Meeting, Accessing, accesses_of, shared, least_from, sync_point, syncs_from, race_at, race_word, meeting_at, meetings_below, meetings_of, le-ltb, ltb-true}
use Rattle.joint_replay.proofs.Merging.{get_back}

-- ---- items of a list that grows

pub length_more : {X : Type 0} (xs : List X) (x : X) → length (xs ++ x ∷ []) ≡ suc (length xs)
length_more [] x = refl
length_more (y ∷ ys) x = ap suc (length_more ys x)

-- ---- the sync points

up_zero : (a : ℕ) → a + zero ≡ a
up_zero a = omega arith

up_suc : (a b : ℕ) → a + suc b ≡ suc a + b
up_suc a b = omega arith

pub syncs_at : (a : ℕ) (run : List Accessing) (m : ℕ) (p : Accessing) → slice_get run m ≡ Some p → slice_get (syncs_from a run) m ≡ Some (sync_point (a + m) p)
syncs_at a [] m p e = absurd cc
syncs_at a (q ∷ qs) zero p e = let same : q ≡ p = cc in ap (λ (r : Accessing). Some (sync_point a r)) same ∙ ap (λ (k : ℕ). Some (sync_point k p)) (sym (up_zero a))
syncs_at a (q ∷ qs) (suc m) p e = syncs_at (suc a) qs m p e ∙ ap (λ (k : ℕ). Some (sync_point k p)) (sym (up_suc a m))

pub syncs_length : (a : ℕ) (run : List Accessing) → length (syncs_from a run) ≡ length run
syncs_length a [] = refl
syncs_length a (p ∷ ps) = ap suc (syncs_length (suc a) ps)

pub syncs_more : (a : ℕ) (run : List Accessing) (p : Accessing) → syncs_from a (run ++ p ∷ []) ≡ syncs_from a run ++ sync_point (a + length run) p ∷ []
syncs_more a [] p = ap (λ (k : ℕ). sync_point k p ∷ []) (sym (up_zero a))
syncs_more a (q ∷ qs) p = ap (λ (ps : List Point). sync_point a q ∷ ps) (syncs_more (suc a) qs p ∙ ap (λ (k : ℕ). syncs_from (suc a) qs ++ sync_point k p ∷ []) (sym (up_suc a (length qs))))

-- ---- chains

leads_same : (step other : ℕ → ℕ → Bool) (top : ℕ) → ((k n : ℕ) → k < top → n < top → step k n ≡ other k n) → (m k n : ℕ) → k ≤ n → n < top → leads step m k n ≡ leads other m k n
unfolding leads
leads_same step other top same m zero n low high = refl
leads_same step other top same m (suc k) n low high =
    ap (λ (b : Bool). (b && ((m == k) || leads step m k k)) || leads step m k n) (same k n (omega (arith, low, high)) high)
    ∙ ap (λ (b : Bool). (other k n && ((m == k) || b)) || leads step m k n) (leads_same step other top same m k k (omega arith) (omega (arith, low, high)))
    ∙ ap (λ (b : Bool). (other k n && ((m == k) || leads other m k k)) || b) (leads_same step other top same m k n (omega (arith, low)) high)

at_places_same : (test : Point → Point → Bool) (xs ys : List Point) (k n : ℕ) → k < length xs → n < length xs → at_places test (xs ++ ys) k n ≡ at_places test xs k n
unfolding at_places
at_places_same test xs ys k n low high = ap (λ (o : Option Point). nat_lt k n && of_both test o (slice_get (xs ++ ys) n)) (get_back xs ys k low) ∙ ap (λ (o : Option Point). nat_lt k n && of_both test (slice_get xs k) o) (get_back xs ys n high)

pub before_same : (xs ys : List Point) (m n : ℕ) → n < length xs → before (xs ++ ys) m n ≡ before xs m n
unfolding before
before_same xs ys m n high =
    leads_same (either (program_order (xs ++ ys)) (conflict (xs ++ ys))) (either (program_order xs) (conflict xs)) (length xs)
    (λ k j low top. ap (λ (b : Bool). b || conflict (xs ++ ys) k j) (at_places_same is_same_hart xs ys k j low top) ∙ ap (λ (b : Bool). program_order xs k j || b) (at_places_same is_conflict xs ys k j low top))
    m n n (omega arith) high

-- ---- races

-- places that aren't one after the other are no race
pub no_race : (run : List Accessing) (m n : ℕ) → nat_lt m n ≡ false → race_at run m n ≡ None
unfolding race_at
no_race run m n e = by (slice_get run m) (slice_get run n)
  where
    word : (p q : Accessing) → race_word run m n p q ≡ None
    word p q = ap (λ (b : Bool). cond (b && (not (p.hart == q.hart) && not (before (syncs_from 0 run) m n))) (least_from None (shared (accesses_of p.touch) (accesses_of q.touch))) None) e

    by : (o u : Option Accessing) → elim o as (λ y. Option ℕ) [ None ↦ None | Some p ↦ elim u as (λ y. Option ℕ) [ None ↦ None | Some q ↦ race_word run m n p q ] ] ≡ None
    by None u = refl
    by (Some p) None = refl
    by (Some p) (Some q) = word p q

pub race_same : (run : List Accessing) (p : Accessing) (m n : ℕ) → n < length run → race_at (run ++ p ∷ []) m n ≡ race_at run m n
unfolding race_at
race_same run p m n high = by (nat_lt m n) refl
  where
    chains : before (syncs_from 0 (run ++ p ∷ [])) m n ≡ before (syncs_from 0 run) m n
    chains = ap (λ (ps : List Point). before ps m n) (syncs_more 0 run p) ∙ before_same (syncs_from 0 run) (sync_point (0 + length run) p ∷ []) m n (let long = syncs_length 0 run in omega (arith, long, high))

    word : (a b : Accessing) → race_word (run ++ p ∷ []) m n a b ≡ race_word run m n a b
    word a b = ap (λ (c : Bool). cond (nat_lt m n && (not (a.hart == b.hart) && not c)) (least_from None (shared (accesses_of a.touch) (accesses_of b.touch))) None) chains

    words : (o u : Option Accessing) → elim o as (λ y. Option ℕ) [ None ↦ None | Some a ↦ elim u as (λ y. Option ℕ) [ None ↦ None | Some b ↦ race_word (run ++ p ∷ []) m n a b ] ]
        ≡ elim o as (λ y. Option ℕ) [ None ↦ None | Some a ↦ elim u as (λ y. Option ℕ) [ None ↦ None | Some b ↦ race_word run m n a b ] ]
    words None u = refl
    words (Some a) None = refl
    words (Some a) (Some b) = word a b

    here : m < length run → race_at (run ++ p ∷ []) m n ≡ race_at run m n
    here low =
        ap (λ (o : Option Accessing). elim o as (λ y. Option ℕ) [ None ↦ None | Some a ↦ elim (slice_get (run ++ p ∷ []) n) as (λ y. Option ℕ) [ None ↦ None | Some b ↦ race_word (run ++ p ∷ []) m n a b ] ]) (get_back run (p ∷ []) m low)
        ∙ ap (λ (o : Option Accessing). elim (slice_get run m) as (λ y. Option ℕ) [ None ↦ None | Some a ↦ elim o as (λ y. Option ℕ) [ None ↦ None | Some b ↦ race_word (run ++ p ∷ []) m n a b ] ]) (get_back run (p ∷ []) n high)
        ∙ words (slice_get run m) (slice_get run n)

    by : (b : Bool) → nat_lt m n ≡ b → race_at (run ++ p ∷ []) m n ≡ race_at run m n
    by true e = here (let low = ltb-true m n e in omega (arith, low, high))
    by false e = no_race (run ++ p ∷ []) m n e ∙ sym (no_race run m n e)

pub meetings_same : (run : List Accessing) (p : Accessing) (m n : ℕ) → n ≤ length run → meetings_below (run ++ p ∷ []) m n ≡ meetings_below run m n
unfolding meetings_below
meetings_same run p m zero high = refl
meetings_same run p m (suc n) high =
    ap (λ (xs : List Meeting). xs ++ meeting_at n (race_at (run ++ p ∷ []) m n)) (meetings_same run p m n (omega (arith, high)))
    ∙ ap (λ (o : Option ℕ). meetings_below run m n ++ meeting_at n o) (race_same run p m n (omega (arith, high)))

-- the races of a place once there is one point more
pub meetings_more : (run : List Accessing) (p : Accessing) (m : ℕ) → meetings_of (run ++ p ∷ []) m ≡ meetings_of run m ++ meeting_at (length run) (race_at (run ++ p ∷ []) m (length run))
unfolding meetings_below
meetings_more run p m = ap (meetings_below (run ++ p ∷ []) m) (length_more run p) ∙ opened
  where
    opened : meetings_below (run ++ p ∷ []) m (suc (length run)) ≡ meetings_of run m ++ meeting_at (length run) (race_at (run ++ p ∷ []) m (length run))
    opened = ap (λ (xs : List Meeting). xs ++ meeting_at (length run) (race_at (run ++ p ∷ []) m (length run))) (meetings_same run p m (length run) (omega arith))

-- a place has no races with earlier ones
pub meetings_none : (run : List Accessing) (m n : ℕ) → n ≤ suc m → meetings_below run m n ≡ []
unfolding meetings_below
meetings_none run m zero low = refl
meetings_none run m (suc n) low = ap (λ (xs : List Meeting). xs ++ meeting_at n (race_at run m n)) (meetings_none run m n (omega (arith, low))) ∙ ap (meeting_at n) (no_race run m n (le-ltb m n (omega (arith, low))))
