-- The races, with those of one point more.
use Rattle.race_report.proofs.Common.{◌≡◌, ℕ, zero, suc, ◌+◌, ◌<◌, ◌≤◌, ◌%◌, ◌==◌, nat_lt, Bool, true, false, not, cond, ◌&&◌, refl, sym, ap, ◌∙◌, arith, List, [], ◌∷◌, ◌++◌, length, filter, slice_get, Option, Some, None, append-nil, list_any, Row, clashes, before, IsInOrder, IsTimesOf, Meeting, Touch, Track, Accessing, accesses_of, words_from, sync_point, syncs_from, shared, least_from, race_at, race_word, meeting_at, meetings_below, meetings_of, last_meets, met_words, sync_of, point_by, meets, passes, Follows, eq-eqb, eqb-false, eqb-true, lt-ltb, ltb-false, ltb-true}
use Rattle.race_report.proofs.Lists.{is_in}
use Rattle.race_report.proofs.Rounds.{found_at}
use Rattle.race_report.proofs.Ordered.{TestsDecide, PlacesStandForCounts, ordered_is, shared_is}
use Rattle.race_report.proofs.Prefixes.{syncs_at, meetings_more, meetings_none, length_more}
use Rattle.race_report.proofs.Following.{all_aligned}
use Rattle.joint_replay.proofs.Merging.{get_back, get_next}

-- ---- the last of a place's races so far

last_one : (n : ℕ) (xs : List Meeting) (x : Meeting) → last_meets n (xs ++ x ∷ []) ≡ elim (x.second == n) as (λ y. Option ℕ) [ true ↦ Some x.word | false ↦ None ]
last_one n [] x = refl
last_one n (y ∷ []) x = refl
last_one n (y ∷ z ∷ zs) x = last_one n (z ∷ zs) x

no_last : (run : List Accessing) (m n k : ℕ) → k ≤ n → last_meets n (meetings_below run m k) ≡ None
unfolding meetings_below
no_last run m n zero low = refl
no_last run m n (suc k) low = by (race_at run m k) (no_last run m n k (omega (arith, low)))
  where
    no_number : (a b : ℕ) → a < b → (a == b) ≡ false
    no_number a b h = grind arith

    by : (o : Option ℕ) → last_meets n (meetings_below run m k) ≡ None → last_meets n (meetings_below run m k ++ meeting_at k o) ≡ None
    by None rest = ap (last_meets n) (append-nil (meetings_below run m k)) ∙ rest
    by (Some w) rest = last_one n (meetings_below run m k) (record { second = k; word = w }) ∙ ap (λ (b : Bool). elim b as (λ y. Option ℕ) [ true ↦ Some w | false ↦ None ]) (no_number k n (omega (arith, low)))

-- ---- a race with the new point

module _ (hart : ℕ) (row : Row) (touch : Touch) (run : List Accessing) (counts : ℕ → ℕ) (tests : TestsDecide) (places : PlacesStandForCounts)
    (order : IsInOrder (syncs_from 0 (run ++ point_by hart row touch ∷ []))) (times : IsTimesOf (syncs_from 0 (run ++ point_by hart row touch ∷ [])) (sync_of hart (length run) touch) counts) where
  abbrev p : Accessing
  p = point_by hart row touch

  abbrev all : List Accessing
  all = run ++ p ∷ []

  abbrev n : ℕ
  n = length run

  abbrev clash : Accessing → ℕ → Bool
  clash q w = list_any (λ y. clashes y (record { word = w; writes = touch.writes })) (accesses_of q.touch)

  abbrev word_with : Accessing → ℕ → Option ℕ
  word_with q m = cond (not (q.hart == hart) && not (nat_lt m (counts q.hart))) (least_from None (filter (clash q) (words_from touch.first touch.count))) None

  no_more : (k : ℕ) → 0 + k ≡ k
  no_more k = omega arith

  at_place : (m : ℕ) (q : Accessing) → slice_get all m ≡ Some q → slice_get (syncs_from 0 all) m ≡ Some (sync_point m q)
  at_place m q e = syncs_at 0 all m q e ∙ ap (λ (k : ℕ). Some (sync_point k q)) (no_more m)

  race_known : (m : ℕ) (q : Accessing) → m < n → slice_get run m ≡ Some q → race_at all m n ≡ word_with q m
  unfolding race_at
  race_known m q low e =
      ap (λ (o : Option Accessing). elim o as (λ y. Option ℕ) [ None ↦ None | Some a ↦ elim (slice_get all n) as (λ y. Option ℕ) [ None ↦ None | Some b ↦ race_word all m n a b ] ]) at_m
      ∙ ap (λ (o : Option Accessing). elim o as (λ y. Option ℕ) [ None ↦ None | Some b ↦ race_word all m n q b ]) at_n
      ∙ ap (λ (b : Bool). cond (b && (not (q.hart == hart) && not (before (syncs_from 0 all) m n))) (least_from None (shared (accesses_of q.touch) (accesses_of touch))) None) (lt-ltb m n low)
      ∙ ap (λ (ws : List ℕ). cond (not (q.hart == hart) && not (before (syncs_from 0 all) m n)) (least_from None ws) None) (shared_is (accesses_of q.touch) touch.writes (words_from touch.first touch.count))
      ∙ by (q.hart == hart) refl
    where
      at_m : slice_get all m ≡ Some q
      at_m = get_back run (p ∷ []) m low ∙ e

      at_n : slice_get all n ≡ Some p
      at_n = get_next run p []

      by : (b : Bool) → (q.hart == hart) ≡ b
          → cond (not b && not (before (syncs_from 0 all) m n)) (least_from None (filter (clash q) (words_from touch.first touch.count))) None
          ≡ cond (not b && not (nat_lt m (counts q.hart))) (least_from None (filter (clash q) (words_from touch.first touch.count))) None
      by true f = refl
      by false f = ap (λ (b : Bool). cond (not b) (least_from None (filter (clash q) (words_from touch.first touch.count))) None)
          (ordered_is tests places (syncs_from 0 all) m n (sync_point m q) (sync_of hart n touch) counts order (at_place m q at_m) (at_place n p at_n) times (eqb-false q.hart hart f))

  pub meetings_known : (m : ℕ) (q : Accessing) → m < n → slice_get run m ≡ Some q → meetings_of run m ++ meeting_at n (word_with q m) ≡ meetings_of all m
  meetings_known m q low e = ap (λ (o : Option ℕ). meetings_of run m ++ meeting_at n o) (sym (race_known m q low e)) ∙ sym (meetings_more run p m)

  -- what is found of it
  pub found_known : (harts : ℕ) (writes : Bool) (t : Track) (ls new : List (List Meeting)) → touch.first % 4 ≡ 0 → writes ≡ touch.writes → ((m : ℕ) (q : Accessing) → slice_get run m ≡ Some q → q.hart < harts)
      → (f : Follows harts run writes t) → length ls ≡ n → ((m : ℕ) → m < n → slice_get ls m ≡ Some (meetings_of run m))
      → new ≡ met_words n hart counts f.places harts (words_from touch.first touch.count) ls
      → (m : ℕ) → m < n → slice_get new m ≡ Some (meetings_of all m)
  found_known harts writes t ls new first same low f size old is m below = by (slice_get run m) refl
    where
      no_item : (xs : List Accessing) (k : ℕ) → k < length xs → slice_get xs k ≡ None → ⊥
      no_item [] k l e = omega (arith, l)
      no_item (x ∷ xs) zero l e = cc
      no_item (x ∷ xs) (suc k) l e = no_item xs k (omega (arith, l)) e

      own : (q : Accessing) → slice_get run m ≡ Some q → (g w : ℕ) → w % 4 ≡ 0 → is_in m (f.places g w) ≡ true → g ≡ q.hart
      own q e g w a h = here (q.hart == g) refl (sym ((f.are g w a).members m ∙ ap (passes (meets g w writes)) e) ∙ h)
        where
          here : (b : Bool) → (q.hart == g) ≡ b → (b && list_any (λ y. clashes y (record { word = w; writes = writes })) (accesses_of q.touch)) ≡ true → g ≡ q.hart
          here true i j = sym (eqb-true q.hart g i)
          here false i j = absurd cc

      members : (q : Accessing) → slice_get run m ≡ Some q → (w : ℕ) → w % 4 ≡ 0 → is_in m (f.places q.hart w) ≡ clash q w
      members q e w a =
          (f.are q.hart w a).members m ∙ ap (passes (meets q.hart w writes)) e
          ∙ ap (λ (b : Bool). b && list_any (λ y. clashes y (record { word = w; writes = writes })) (accesses_of q.touch)) (eq-eqb q.hart q.hart refl)
          ∙ ap (λ (b : Bool). list_any (λ y. clashes y (record { word = w; writes = b })) (accesses_of q.touch)) same

      by : (o : Option Accessing) → slice_get run m ≡ o → slice_get new m ≡ Some (meetings_of all m)
      by None e = absurd (no_item run m below e)
      by (Some q) e =
          ap (λ (x : List (List Meeting)). slice_get x m) is
          ∙ found_at n hart m q.hart harts counts f.places (clash q) (λ g w a. (f.are g w a).falling) (own q e) (members q e) (words_from touch.first touch.count) ls (meetings_of run m)
          (all_aligned touch.first touch.count first) (low m q e) (no_last run m n n (omega arith)) (old m below)
          ∙ ap (λ (x : List Meeting). Some x) (meetings_known m q below e)

-- with a list more for the new point
pub lists_more : (run : List Accessing) (p : Accessing) (ls new : List (List Meeting)) → length ls ≡ length run → ((m : ℕ) → m < length run → slice_get ls m ≡ Some (meetings_of (run ++ p ∷ []) m))
    → new ≡ ls ++ [] ∷ [] → (m : ℕ) → m < length (run ++ p ∷ []) → slice_get new m ≡ Some (meetings_of (run ++ p ∷ []) m)
lists_more run p ls new size old is m below = ap (λ (x : List (List Meeting)). slice_get x m) is ∙ by (nat_lt m (length run)) refl
  where
    last : m ≡ length run → slice_get (ls ++ [] ∷ []) m ≡ Some (meetings_of (run ++ p ∷ []) m)
    last e =
        ap (slice_get (ls ++ [] ∷ [])) (e ∙ sym size) ∙ get_next ls [] []
        ∙ ap (λ (x : List Meeting). Some x) (sym (meetings_none (run ++ p ∷ []) m (length (run ++ p ∷ [])) (let long = length_more run p in omega (arith, long, e))))

    by : (b : Bool) → nat_lt m (length run) ≡ b → slice_get (ls ++ [] ∷ []) m ≡ Some (meetings_of (run ++ p ∷ []) m)
    by true e = let low = ltb-true m (length run) e in get_back ls ([] ∷ []) m (omega (arith, low, size)) ∙ old m low
    by false e = last (let high = ltb-false m (length run) e in let long = length_more run p in omega (arith, high, long, below))
