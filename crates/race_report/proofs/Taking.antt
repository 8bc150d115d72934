-- One point more is taken in.
use Rattle.race_report.proofs.Common.{◌≡◌, ℕ, zero, suc, ◌+◌, ◌<◌, ◌≤◌, ◌%◌, ◌==◌, Bool, true, false, IsTrue, ◌||◌, if◌then◌else◌, refl, sym, ap, ◌∙◌, subst, arith, All, List, [], ◌∷◌, ◌++◌, length, map, slice_get, Some, Row, Point, IsTimesOf, after, RepresentsAccesses, harts_of, next_turn, next_count, lasting_of, Meeting, Touch, Gathered, Accessing, IsTouch, words_from, sync_point, syncs_from, meetings_of, AreBelow, noted, met_words, IsTracked, lists_of, everyone, sync_of, point_by, Follows, IsGathered, or-true}
use Rattle.std.proofs.lemmas.List.Elements.{All-head, All-tail}
use Rattle.race_log.specs.Sweep.{has_bit}
use Rattle.race_report.proofs.Rounds.{met_words_length}
use Rattle.race_report.proofs.Ordered.{TestsDecide, PlacesStandForCounts}
use Rattle.race_report.proofs.Prefixes.{syncs_at, syncs_more, length_more}
use Rattle.race_report.proofs.Following.{follows_more, follows_same, below_weaker}
use Rattle.race_report.proofs.Growing.{found_known, lists_more}

pub map_more : {X Y : Type 0} (f : X → Y) (xs : List X) (x : X) → map f (xs ++ x ∷ []) ≡ map f xs ++ f x ∷ []
map_more f [] x = refl
map_more f (y ∷ ys) x = ap (λ zs. f y ∷ zs) (map_more f ys x)

pub map_long : {X Y : Type 0} (f : X → Y) (xs : List X) → length (map f xs) ≡ length xs
map_long f [] = refl
map_long f (x ∷ xs) = ap suc (map_long f xs)

-- what the steps of taking in a point say
pub record IsTaken (hart : ℕ) (row : Row) (touch : Touch) (n : ℕ) (old new : Gathered) (mid : List (List Meeting)) (counts : ℕ → ℕ) : Type 0 where
  pub harts : new.harts ≡ old.harts
  pub rows : new.rows.items ≡ old.rows.items ++ row ∷ []
  pub owners : new.owners.items ≡ old.owners.items ++ hart ∷ []
  pub stands : (run : List Point) → RepresentsAccesses run everyone old.shadow → RepresentsAccesses (after run (sync_of hart n touch)) everyone new.shadow
  pub known : (run : List Point) → RepresentsAccesses run everyone old.shadow → IsTimesOf (after run (sync_of hart n touch)) (sync_of hart n touch) counts
  pub shadow_harts : harts_of new.shadow ≡ harts_of old.shadow
  pub lasting : lasting_of new.shadow ≡ lasting_of old.shadow
  pub turn : next_turn new.shadow ≡ n + 1
  pub counts_are : (h : ℕ) → next_count new.shadow h ≡ (if h == hart then n + 1 else next_count old.shadow h)
  pub wrote : touch.writes ≡ true → (places : ℕ → ℕ → List ℕ) → ((g w : ℕ) → w % 4 ≡ 0 → IsTracked old.all g w (places g w))
      → mid ≡ met_words n hart counts places old.harts (words_from touch.first touch.count) (lists_of old.found)
  pub read : touch.writes ≡ false → (places : ℕ → ℕ → List ℕ) → ((g w : ℕ) → w % 4 ≡ 0 → IsTracked old.written g w (places g w))
      → mid ≡ met_words n hart counts places old.harts (words_from touch.first touch.count) (lists_of old.found)
  pub all_harts : length new.all.heads.items ≡ length old.all.heads.items
  pub written_harts : length new.written.heads.items ≡ length old.written.heads.items
  pub all_below : (count : ℕ) → n < count → AreBelow count old.all.entries.items → AreBelow count new.all.entries.items
  pub written_below : (count : ℕ) → n < count → AreBelow count old.written.entries.items → AreBelow count new.written.entries.items
  pub all_noted : (h w : ℕ) (ps : List ℕ) → w % 4 ≡ 0 → IsTracked old.all h w ps → IsTracked new.all h w (noted h w hart n (words_from touch.first touch.count) ps)
  pub written_noted : touch.writes ≡ true → (h w : ℕ) (ps : List ℕ) → w % 4 ≡ 0 → IsTracked old.written h w ps → IsTracked new.written h w (noted h w hart n (words_from touch.first touch.count) ps)
  pub written_same : touch.writes ≡ false → new.written ≡ old.written
  pub lists : lists_of new.found ≡ mid ++ [] ∷ []

module _ (tests : TestsDecide) (places : PlacesStandForCounts) (harts hart : ℕ) (row : Row) (touch : Touch) (run : List Accessing) (old new : Gathered) (mid : List (List Meeting)) (counts : ℕ → ℕ)
    (whole : IsTouch touch) (below : hart < harts) (g : IsGathered harts run old) (t : IsTaken hart row touch (length run) old new mid counts) where
  abbrev p : Accessing
  p = point_by hart row touch

  no_more : (k : ℕ) → 0 + k ≡ k
  no_more k = omega arith

  longer : length (run ++ p ∷ []) ≡ suc (length run)
  longer = length_more run p

  syncs_are : after (syncs_from 0 run) (sync_of hart (length run) touch) ≡ syncs_from 0 (run ++ p ∷ [])
  syncs_are = sym (syncs_more 0 run p ∙ ap (λ (k : ℕ). syncs_from 0 run ++ sync_point k p ∷ []) (no_more (length run)))

  stands_now : RepresentsAccesses (syncs_from 0 (run ++ p ∷ [])) everyone new.shadow
  stands_now = subst (λ (ps : List Point). RepresentsAccesses ps everyone new.shadow) syncs_are (t.stands (syncs_from 0 run) g.stands)

  times_now : IsTimesOf (syncs_from 0 (run ++ p ∷ [])) (sync_of hart (length run) touch) counts
  times_now = subst (λ (ps : List Point). IsTimesOf ps (sync_of hart (length run) touch) counts) syncs_are (t.known (syncs_from 0 run) g.stands)

  all_at : {X : Type 0} (P : X → Type 0) (xs : List X) (k : ℕ) (x : X) → All P xs → slice_get xs k ≡ Some x → P x
  all_at P [] k x a e = absurd cc
  all_at P (y ∷ ys) zero x a e = let same : y ≡ x = cc in subst P same (All-head P y ys a)
  all_at P (y ∷ ys) (suc k) x a e = all_at P ys k x (All-tail P y ys a) e

  low : (m : ℕ) (q : Accessing) → slice_get run m ≡ Some q → q.hart < harts
  low m q e =
      let at : slice_get (syncs_from 0 run) m ≡ Some (sync_point (0 + m) q) = syncs_at 0 run m q e in
      subst (λ (k : ℕ). q.hart < k) g.shadow_harts (all_at (λ (x : Point). x.hart < harts_of old.shadow) (syncs_from 0 run) m (sync_point (0 + m) q) g.stands.harts at)

  mid_known : (m : ℕ) → m < length run → slice_get mid m ≡ Some (meetings_of (run ++ p ∷ []) m)
  mid_known = by touch.writes refl
    where
      by : (b : Bool) → touch.writes ≡ b → (m : ℕ) → m < length run → slice_get mid m ≡ Some (meetings_of (run ++ p ∷ []) m)
      by true e = found_known hart row touch run counts tests places stands_now.in_order times_now harts true old.all (lists_of old.found) mid whole.aligned (sym e) low g.all g.size g.lists
          (t.wrote e g.all.places g.all.tracked ∙ ap (λ (k : ℕ). met_words (length run) hart counts g.all.places k (words_from touch.first touch.count) (lists_of old.found)) g.harts_are)
      by false e = found_known hart row touch run counts tests places stands_now.in_order times_now harts false old.written (lists_of old.found) mid whole.aligned (sym e) low g.written g.size g.lists
          (t.read e g.written.places g.written.tracked ∙ ap (λ (k : ℕ). met_words (length run) hart counts g.written.places k (words_from touch.first touch.count) (lists_of old.found)) g.harts_are)

  mid_long : length mid ≡ length run
  mid_long = by touch.writes refl
    where
      by : (b : Bool) → touch.writes ≡ b → length mid ≡ length run
      by true e = ap length (t.wrote e g.all.places g.all.tracked) ∙ met_words_length (length run) hart counts g.all.places old.harts (words_from touch.first touch.count) (lists_of old.found) ∙ g.size
      by false e = ap length (t.read e g.written.places g.written.tracked) ∙ met_words_length (length run) hart counts g.written.places old.harts (words_from touch.first touch.count) (lists_of old.found) ∙ g.size

  all_now : Follows harts (run ++ p ∷ []) true new.all
  all_now = follows_more harts hart row touch true run old.all new.all whole.aligned (or-true touch.writes) t.all_harts
      (t.all_below (suc (length run)) (omega arith) (below_weaker old.all (length run) (suc (length run)) (omega arith) g.all.below)) t.all_noted g.all

  written_now : Follows harts (run ++ p ∷ []) false new.written
  written_now = by touch.writes refl
    where
      by : (b : Bool) → touch.writes ≡ b → Follows harts (run ++ p ∷ []) false new.written
      by true e = follows_more harts hart row touch false run old.written new.written whole.aligned (ap (λ (b : Bool). b || false) e) t.written_harts
          (t.written_below (suc (length run)) (omega arith) (below_weaker old.written (length run) (suc (length run)) (omega arith) g.written.below)) (t.written_noted e) g.written
      by false e = follows_same harts hart row touch run old.written new.written e (t.written_same e) g.written

  count_low : (h : ℕ) → next_count new.shadow h ≤ length (run ++ p ∷ [])
  count_low h = by (h == hart) (t.counts_are h)
    where
      by : (b : Bool) → next_count new.shadow h ≡ (if b then length run + 1 else next_count old.shadow h) → next_count new.shadow h ≤ length (run ++ p ∷ [])
      by true e = omega (arith, e, longer)
      by false e = let old_low = g.counts h in omega (arith, e, longer, old_low)

  pub gathered_more : IsGathered harts (run ++ p ∷ []) new
  gathered_more = record {
    harts_are = t.harts ∙ g.harts_are;
    few = g.few;
    rows = t.rows ∙ ap (λ (rs : List Row). rs ++ row ∷ []) g.rows ∙ sym (map_more (λ (q : Accessing). q.row) run p);
    owners = t.owners ∙ ap (λ (hs : List ℕ). hs ++ hart ∷ []) g.owners ∙ sym (map_more (λ (q : Accessing). q.hart) run p);
    all = all_now;
    written = written_now;
    stands = stands_now;
    shadow_harts = t.shadow_harts ∙ g.shadow_harts;
    turn = (let e = t.turn in omega (arith, e, longer));
    counts = count_low;
    lasting = λ h l. subst (λ (k : ℕ). IsTrue (has_bit k h)) (sym t.lasting) (g.lasting h l);
    size = (let e = ap length t.lists in let f = length_more mid [] in omega (arith, e, f, mid_long, longer));
    lists = lists_more run p mid (lists_of new.found) mid_long mid_known t.lists;
  }
