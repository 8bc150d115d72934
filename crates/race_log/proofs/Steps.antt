-- One access of a shadow.
use Rattle.race_log.proofs.Common.{◌≡◌, ◌≢◌, ℕ, zero, suc, ◌+◌, ◌*◌, ◌-◌, ◌<◌, ◌≤◌, Bool, true, false, ◌⊎◌, ◌==◌, refl, inl, inr, arith, sym, ap, ap₂, ◌∙◌, List, [], ◌∷◌, ◌++◌, length, slice_get, slice_set, slice_index_or, Some, map, subst, All, if◌then◌else◌, ◌&&◌, nat_lt, lt-ltb, ltb-true, get_or_from_slice_get, slice_get-get_or, cases_lt, All-push, Times, count_of, Mode, Shadow, Point, touches, edge, edges_into, sources_into, name_of, IsInOrder, IsTimesOf, OwnUpTo, CountsOf, TimesOf, Kept, is_write, access_point, after, In, Suffices, Replaces, gathered, sources, counts_after, has_bit, KeepsAccess, counts_at, RepresentsAccesses, KnowsSame, harts_of, lasting_of, lasts, is_live, next_turn, next_count, times_of, kept_of}
use Rattle.std.proofs.lemmas.List.Quantifiers.{all_pairs_push}
use Rattle.race_log.proofs.BoolFacts.{and_left, both, known}
use Rattle.race_log.proofs.EdgeLaws.{edge_is, is_edge}
use Rattle.race_log.proofs.MergeLaws.{is_in, of_hart_at}
use Rattle.race_log.proofs.CountLaws.{times_of as times_are}
use Rattle.race_log.proofs.Listed.{Falling, falling_is}
use Rattle.race_log.proofs.Rounds.{same_counts}
use Rattle.race_log.proofs.RangeLemmas.{IsOfOneKind, one_kind, range_words, in_range}
use Rattle.race_log.proofs.Next.{get_old, get_new, in_after}
use Rattle.race_log.proofs.AfterLemmas.{own_old, times_new, own_new}
use Rattle.race_log.proofs.Sources.{Ready, start_told}
use Rattle.race_log.proofs.Picks.{Picked, picks, first_few}
use Rattle.race_log.proofs.KeptLemmas.{other_word, same_word, alone_suffices}

-- a fact of all elements, at one of them
pub all_at : {X : Type 0} (P : X → Type 0) (xs : List X) (k : ℕ) (x : X) → All P xs → slice_get xs k ≡ Some x → k < length xs → P x
all_at P xs k x all e low = subst P (get_or_from_slice_get xs k x x e) (all k x low)

gathered_in : (kept : ℕ → List Kept) (first n : ℕ) (k : Kept) → In (gathered kept first n) k → (i : ℕ) × (i < n) × In (kept (first + 4 * i)) k
gathered_in kept first zero k h = absurd h
gathered_in kept first (suc n) k h = elim (split (kept first) (gathered kept (first + 4) n) h) [
  | inl here ↦ (let e : first ≡ first + 4 * 0 = omega arith in (0, omega arith, subst (λ w. In (kept w) k) e here))
  | inr there ↦
      let r = gathered_in kept (first + 4) n k there in
      let low = r.1 in
      let e : first + 4 + 4 * r.0 ≡ first + 4 * suc r.0 = omega arith in
      (suc r.0, omega arith, subst (λ w. In (kept w) k) e r.2)
]
  where
    split : (xs ys : List Kept) → In (xs ++ ys) k → In xs k ⊎ In ys k
    split [] ys i = inr i
    split (x ∷ xs) ys (inl e) = inl (inl e)
    split (x ∷ xs) ys (inr i) = elim (split xs ys i) [ inl j ↦ inl (inr j) | inr j ↦ inr j ]

in_gathered : (kept : ℕ → List Kept) (first n i : ℕ) (k : Kept) → i < n → In (kept (first + 4 * i)) k → In (gathered kept first n) k
in_gathered kept first zero i k low h = absurd (omega arith)
in_gathered kept first (suc n) zero k low h =
    let e : first + 4 * 0 ≡ first = omega arith in
    front (kept first) (gathered kept (first + 4) n) (subst (λ w. In (kept w) k) e h)
  where
    front : (xs ys : List Kept) → In xs k → In (xs ++ ys) k
    front [] ys j = absurd j
    front (x ∷ xs) ys (inl e) = inl e
    front (x ∷ xs) ys (inr j) = inr (front xs ys j)
in_gathered kept first (suc n) (suc i) k low h =
    let e : first + 4 * suc i ≡ first + 4 + 4 * i = omega arith in
    back (kept first) (gathered kept (first + 4) n) (in_gathered kept (first + 4) n i k (omega arith) (subst (λ w. In (kept w) k) e h))
  where
    back : (xs ys : List Kept) → In ys k → In (xs ++ ys) k
    back [] ys j = j
    back (x ∷ xs) ys j = inr (back xs ys j)

map_same : (f g : ℕ → ℕ × ℕ) (bound : ℕ) (js : List ℕ) → Falling bound js → ((j : ℕ) → j < bound → f j ≡ g j) → map f js ≡ map g js
map_same f g bound [] falls e = refl
map_same f g bound (j ∷ js) falls e =
    let low = falls.0 in
    ap₂ (λ x xs. x ∷ xs) (e j low) (map_same f g j js falls.1 (λ i i_low. e i (omega arith)))

-- the times of one hart, put in
pub counts_here : (ts : List Times) (h : ℕ) (t : Times) → h < length ts → (g : ℕ) → counts_at (slice_get (slice_set ts h t) h) g ≡ count_of t g
counts_here [] h t low g = absurd (omega arith)
counts_here (x ∷ ts) zero t low g = refl
counts_here (x ∷ ts) (suc h) t low g = counts_here ts h t (omega arith) g

pub counts_there : (ts : List Times) (h other : ℕ) (t : Times) → other ≢ h → (g : ℕ) → counts_at (slice_get (slice_set ts h t) other) g ≡ counts_at (slice_get ts other) g
counts_there [] h other t apart g = refl
counts_there (x ∷ ts) zero zero t apart g = absurd (apart refl)
counts_there (x ∷ ts) zero (suc other) t apart g = refl
counts_there (x ∷ ts) (suc h) zero t apart g = refl
counts_there (x ∷ ts) (suc h) (suc other) t apart g = counts_there ts h other t (λ e. apart (ap suc e)) g

-- a shadow that knows and keeps the same represents the same runs
pub stands_same : (old new : Shadow) → KnowsSame old new → (run : List Point) (live : ℕ → Bool) → RepresentsAccesses run live old → RepresentsAccesses run live new
stands_same old new same run live s = record {
  in_order = s.in_order;
  harts = subst (λ n. All (λ p. p.hart < n) run) (sym same.harts) s.harts;
  past = subst (λ n. All (λ p. p.turn < n) run) (sym same.turn) s.past;
  own = λ hart low. subst (CountsOf run (OwnUpTo run hart)) (sym (same_counts (same.times hart))) (s.own hart (omega (arith, low, same.harts)));
  kept = λ w. subst (λ n. Suffices run (λ g. nat_lt g n && has_bit (lasting_of new) g && live g) w (kept_of new w)) (sym same.harts)
      (subst (λ set. Suffices run (λ g. nat_lt g (harts_of old) && has_bit set g && live g) w (kept_of new w)) (sym same.lasting)
      (subst (Suffices run (is_live old live) w) (sym (same.kept w)) (s.kept w)));
}

module _ (run : List Point) (hart count turn first n : ℕ) (mode : Mode) (live : ℕ → Bool) (old : Shadow) (stands : RepresentsAccesses run live old)
    (in_harts : hart < harts_of old) (later : next_count old hart ≤ count) (turn_later : next_turn old ≤ turn) (lasting : lasts old hart ≡ true) (lives : live hart ≡ true) where
  abbrev b : Point
  b = access_point hart count turn first n mode

  abbrev ks : List Kept
  ks = gathered (kept_of old) first n

  -- the shadow's live harts
  abbrev live_before : ℕ → Bool
  live_before = is_live old live

  hart_is_live : live_before hart ≡ true
  hart_is_live = both (nat_lt hart (harts_of old) && lasts old hart) (live hart)
      (both (nat_lt hart (harts_of old)) (lasts old hart) (lt-ltb hart (harts_of old) in_harts) lasting) lives

  kind : IsOfOneKind b (is_write mode)
  kind = one_kind hart count turn first n mode

  old_point : (k : ℕ) (d : Point) → k < length run → slice_get run k ≡ Some (slice_index_or run k d)
  old_point k d low = slice_get-get_or run k d low

  count_later : (k : ℕ) (p : Point) → slice_get run k ≡ Some p → p.hart ≡ hart → p.count < count
  count_later k p e same =
      let own : OwnUpTo run hart k = (k, of_hart_at run hart k p e same, inl refl) in
      let below = (stands.own hart in_harts).covered k p e own in
      let below_own : p.count < next_count old hart = rw same at below in
      omega arith

  pub now_in_order : IsInOrder (after run (access_point hart count turn first n mode))
  now_in_order = record {
    turns = all_pairs_push (λ p q. p.turn < q.turn) run b stands.in_order.turns (λ k d low. let past = stands.past k d low in omega arith);
    counts = all_pairs_push (λ p q. p.hart ≡ q.hart → p.count < q.count) run b stands.in_order.counts
        (λ k d low same. count_later k (slice_index_or run k d) (old_point k d low) same);
  }

  few : (m : ℕ) (p : Point) → slice_get run m ≡ Some p → p.hart < harts_of old
  few m p e = all_at (λ p. p.hart < harts_of old) run m p stands.harts e (is_in run m p e)

  ready : Ready run live_before (harts_of old) b ks
  ready = record {
    each = λ k i.
        let a = gathered_in (kept_of old) first n k i in
        let e = (stands.kept (first + 4 * a.0)).each k a.2 in
        (e.0, first + 4 * a.0, e.1, in_range first n a.0 (is_write mode) a.1);
    cover = λ w in_b.
        let r = range_words first n w (is_write mode) in_b in
        (kept_of old w, stands.kept w, λ k i. in_gathered (kept_of old) first n r.0 k r.1 (subst (λ v. In (kept_of old v) k) r.2 i));
    in_order = stands.in_order;
    few = few;
    lives = hart_is_live;
  }

  picked : Picked run b (is_write mode) kind ks live_before (harts_of old) ready (length run) (harts_of old - 1) (times_of old hart)
  picked = picks run b (is_write mode) kind ks live_before (harts_of old) ready (harts_of old - 1) (OwnUpTo run hart) (length run) (times_of old hart)
      (first_few run b (is_write mode) kind ks live_before (harts_of old) ready (times_of old hart) in_harts) (stands.own hart in_harts)
      (start_told run b (is_write mode) kind ks live_before (harts_of old) ready)

  -- the sources found are those of the edges
  pub found_edges : sources hart (is_write mode) (harts_of old - 1) (times_of old hart) (gathered (kept_of old) first n)
      ≡ sources_into (after run (access_point hart count turn first n mode)) (length run)
  unfolding edges_into
  found_edges =
      let is = falling_is (λ m. edge (after run b) m (length run)) (length run) picked.places picked.falling
      (λ e h. is_edge (after run b) e (length run) (picked.edges e h))
      (λ e low t. picked.whole e low (edge_is (after run b) e (length run) t)) in
      let same = map_same (λ e. name_of (slice_get run e)) (λ m. name_of (slice_get (after run b) m))
      (length run) picked.places picked.falling (λ j low. ap name_of (sym (get_old run b j low))) in
      picked.found ∙ (same ∙ ap (map (λ m. name_of (slice_get (after run b) m))) is)

  module _ (next : ℕ → ℕ)
      (set : (h : ℕ) → next h ≡ (if h == hart then count + 1 else counts_after hart (is_write mode) (harts_of old - 1) (times_of old hart) (gathered (kept_of old) first n) h)) where
    next_times : TimesOf (after run b) (length run) next
    next_times = times_new run b now_in_order
        (counts_after hart (is_write mode) (harts_of old - 1) (times_of old hart) ks) next set picked.known_after

    -- the new times are those of the new point
    pub new_times : IsTimesOf (after run (access_point hart count turn first n mode)) (access_point hart count turn first n mode) next
    new_times = times_are (after run b) now_in_order (length run) b next (get_new run b) next_times

    pub stands_after : (new : Shadow) (k : Kept) → harts_of new ≡ harts_of old → lasting_of new ≡ lasting_of old → next_turn new ≡ turn + 1
        → ((h : ℕ) → times_of new hart h ≡ next h) → ((other : ℕ) → other ≢ hart → (h : ℕ) → times_of new other h ≡ times_of old other h)
        → k.turn ≡ turn → k.hart ≡ hart → k.ic ≡ count → k.mode ≡ mode → ((h : ℕ) → k.times h ≡ next h)
        → (1 < harts_of old → KeepsAccess k first n (kept_of old) (kept_of new)) → (harts_of old ≤ 1 → (w : ℕ) → kept_of new w ≡ kept_of old w)
        → RepresentsAccesses (after run (access_point hart count turn first n mode)) live new
    stands_after new k same_harts same_lasting new_turn new_own new_others is_turn is_hart is_count is_mode is_times many alone = record {
      in_order = now_in_order;
      harts = All-push (λ p. p.hart < harts_of new) run b (subst (λ n. All (λ p. p.hart < n) run) (sym same_harts) stands.harts)
          (omega (arith, in_harts, same_harts));
      past = All-push (λ p. p.turn < next_turn new) run b
          (λ k d low. let past = stands.past k d low in omega (arith, past, new_turn, turn_later)) (omega (arith, new_turn));
      own = λ g low. elim (known (hart == g)) [
        | inl same ↦
            let is : hart ≡ g = grind arith in
            let own = own_new run b now_in_order next next_times in
            let here = subst (CountsOf (after run b) (OwnUpTo (after run b) hart)) (sym (same_counts new_own)) own in
            subst (λ h. CountsOf (after run b) (OwnUpTo (after run b) h) (times_of new h)) is here
        | inr apart ↦
            let other : hart ≢ g = not_same hart g apart in
            let own = own_old run b g (times_of old g) now_in_order other (stands.own g (omega (arith, low, same_harts))) in
            subst (CountsOf (after run b) (OwnUpTo (after run b) g)) (sym (same_counts (new_others g (λ e. other (sym e))))) own
      ];
      kept = λ w. subst (λ n. Suffices (after run b) (λ g. nat_lt g n && has_bit (lasting_of new) g && live g) w (kept_of new w)) (sym same_harts)
          (subst (λ set. Suffices (after run b) (λ g. nat_lt g (harts_of old) && has_bit set g && live g) w (kept_of new w)) (sym same_lasting) (elim (cases_lt 1 (harts_of old)) [
            | inl more ↦ among w (many more)
            | inr one ↦
                subst (Suffices (after run b) live_before w) (sym (alone one w))
                (alone_suffices run live_before b now_in_order (λ m p e. single one m p e) (λ g up. single_live one g up) w (kept_of old w) (stands.kept w))
          ]));
    }
      where
        clear : (x : Bool) → x ≡ true → x ≡ false → ⊥
        clear x h k = cc

        among : (w : ℕ) → KeepsAccess k first n (kept_of old) (kept_of new) → Suffices (after run b) live_before w (kept_of new w)
        among w keeps = elim (known (touches w b)) [
          | inl in_b ↦
              let r = range_words first n w (is_write mode) in_b in
              let times_k = subst (TimesOf (after run b) (length run)) (sym (same_counts is_times)) next_times in
              let kept = subst (λ v. Replaces k (kept_of old v) (kept_of new v)) (sym r.2) (keeps.inside r.0 r.1) in
              same_word run live_before b (is_write mode) kind now_in_order w k (kept_of old w) (kept_of new w) in_b is_turn is_hart is_count (ap is_write is_mode) times_k kept (stands.kept w)
          | inr out ↦
              let same = keeps.outside w (λ i low e. clear (touches w b) (subst (λ v. touches v b ≡ true) (sym e) (in_range first n i (is_write mode) low)) out) in
              subst (Suffices (after run b) live_before w) (sym same) (other_word run live_before b (is_write mode) kind now_in_order w (kept_of old w) out (stands.kept w))
        ]

        -- with one hart all points are its own, and it alone is live
        single : harts_of old ≤ 1 → (m : ℕ) (p : Point) → slice_get (after run b) m ≡ Some p → p.hart ≡ 0
        single one m p e = elim (in_after run b m p e) [
          | inl old_p ↦ let low = few m p old_p.1 in omega (arith, low, one)
          | inr new_p ↦ sym (ap (λ (x : Point). x.hart) new_p.1) ∙ omega (arith, in_harts, one)
        ]

        single_live : harts_of old ≤ 1 → (g : ℕ) → live_before g ≡ true → g ≡ 0
        single_live one g up =
            let low = ltb-true g (harts_of old) (and_left (nat_lt g (harts_of old)) (lasts old g) (and_left (nat_lt g (harts_of old) && lasts old g) (live g) up)) in omega (arith, low, one)

        not_same : (x y : ℕ) → (x == y) ≡ false → x ≢ y
        not_same x y h e = let t : (x == y) ≡ true = grind arith in cc
