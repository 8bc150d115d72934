-- What is found of a point's races with all other harts, at one earlier place.
use Rattle.race_report.proofs.Common.{◌≡◌, ℕ, zero, suc, ◌<◌, ◌≤◌, ◌%◌, ◌==◌, nat_lt, Bool, true, false, not, cond, ◌&&◌, ◌||◌, refl, sym, ap, ◌∙◌, arith, List, [], ◌∷◌, ◌++◌, length, filter, slice_get, Option, Some, None, append-nil, Meeting, lesser, least_from, meeting_at, last_meets, met, met_all, uncovered, met_harts, met_words, AreFalling, and-false, and-true, eqb-true, le-ltb, lt-ltb, ltb-false, ltb-true}
use Rattle.race_report.proofs.Lists.{is_in, met_all_at, met_all_length, met_after}

-- ---- falling places

falling_tail : (m : ℕ) (ms : List ℕ) → AreFalling (m ∷ ms) → AreFalling ms
falling_tail m [] f = tt
falling_tail m (k ∷ ks) f = f.1

falling_most : (k m : ℕ) (ms : List ℕ) → AreFalling (m ∷ ms) → is_in k (m ∷ ms) ≡ true → k ≤ m
falling_most k m [] f e = here (m == k) refl e
  where
    here : (b : Bool) → (m == k) ≡ b → (b || false) ≡ true → k ≤ m
    here true g h = let same = eqb-true m k g in omega (arith, same)
    here false g h = absurd cc
falling_most k m (n ∷ ns) f e = by (m == k) refl e (λ h. falling_most k n ns f.1 h)
  where
    by : (b : Bool) → (m == k) ≡ b → (b || is_in k (n ∷ ns)) ≡ true → (is_in k (n ∷ ns) ≡ true → k ≤ n) → k ≤ m
    by true g h rest = let same = eqb-true m k g in omega (arith, same)
    by false g h rest = let low = rest h in let top = f.0 in omega (arith, low, top)

pub uncovered_in : (count k : ℕ) (ps : List ℕ) → AreFalling ps → is_in k (uncovered count ps) ≡ (is_in k ps && not (nat_lt k count))
uncovered_in count k [] f = refl
uncovered_in count k (m ∷ ms) f = by (nat_lt m count) refl (uncovered_in count k ms (falling_tail m ms f))
  where
    none : nat_lt m count ≡ true → (b : Bool) → is_in k (m ∷ ms) ≡ b → false ≡ (b && not (nat_lt k count))
    none e true g = let low = falling_most k m ms f g in let top = ltb-true m count e in ap not (sym (lt-ltb k count (omega (arith, low, top))))
    none e false g = refl

    here : (b : Bool) → (m == k) ≡ b → nat_lt m count ≡ false → is_in k (uncovered count ms) ≡ (is_in k ms && not (nat_lt k count)) → (b || is_in k (uncovered count ms)) ≡ ((b || is_in k ms) && not (nat_lt k count))
    here true g e rest = ap not (sym (le-ltb k count (let same = eqb-true m k g in let low = ltb-false m count e in omega (arith, same, low))))
    here false g e rest = rest

    by : (b : Bool) → nat_lt m count ≡ b → is_in k (uncovered count ms) ≡ (is_in k ms && not (nat_lt k count)) → is_in k (cond b [] (m ∷ uncovered count ms)) ≡ (is_in k (m ∷ ms) && not (nat_lt k count))
    by true e rest = none e (is_in k (m ∷ ms)) refl
    by false e rest = here (m == k) refl e rest

-- ---- one word, hart by hart

module _ (n w h k g0 : ℕ) (counts : ℕ → ℕ) (places : ℕ → List ℕ) (falling : (g : ℕ) → AreFalling (places g)) (own : (g : ℕ) → is_in k (places g) ≡ true → g ≡ g0) where
  -- it is uncovered, and of another hart
  abbrev admits : Bool
  admits = not (g0 == h) && (is_in k (places g0) && not (nat_lt k (counts g0)))

  other_out : (g : ℕ) → (g == g0) ≡ false → is_in k (uncovered (counts g) (places g)) ≡ false
  other_out g e = uncovered_in (counts g) k (places g) (falling g) ∙ by (is_in k (places g)) refl
    where
      by : (b : Bool) → is_in k (places g) ≡ b → (b && not (nat_lt k (counts g))) ≡ false
      by true f = absurd (apart g (own g f) e)
        where
          apart : (g : ℕ) → g ≡ g0 → (g == g0) ≡ false → ⊥
          apart g same f = grind arith
      by false f = refl

  abbrev after : ℕ → List Meeting → List Meeting
  after harts l = cond (nat_lt g0 harts && admits) (met n w l) l

  lt_next : (g : ℕ) → (g == g0) ≡ false → nat_lt g0 (suc g) ≡ nat_lt g0 g
  lt_next g e = grind arith

  lt_here : (g : ℕ) → g ≡ g0 → nat_lt g0 (suc g) ≡ true
  lt_here g e = grind arith

  lt_own : (g : ℕ) → g ≡ g0 → nat_lt g0 g ≡ false
  lt_own g e = grind arith

  pub met_harts_at : (harts : ℕ) (ls : List (List Meeting)) (l : List Meeting) → slice_get ls k ≡ Some l → slice_get (met_harts n w h counts places harts ls) k ≡ Some (after harts l)
  met_harts_at zero ls l e = e ∙ ap (λ (b : Bool). Some (cond (b && admits) (met n w l) l)) (sym (le-ltb g0 0 (omega arith)))
  met_harts_at (suc g) ls l e = by (met_harts_at g ls l e) (g == g0) refl (g == h) refl
    where
      skipped : g ≡ g0 → (g == h) ≡ true → admits ≡ false
      skipped same f = ap (λ (b : Bool). not b && (is_in k (places g0) && not (nat_lt k (counts g0)))) (ap (λ (x : ℕ). x == h) (sym same) ∙ f)

      opened : g ≡ g0 → (g == h) ≡ false → admits ≡ is_in k (uncovered (counts g) (places g))
      opened same f = ap (λ (b : Bool). not b && (is_in k (places g0) && not (nat_lt k (counts g0)))) (ap (λ (x : ℕ). x == h) (sym same) ∙ f)
          ∙ ap (λ (x : ℕ). is_in k (places x) && not (nat_lt k (counts x))) (sym same) ∙ sym (uncovered_in (counts g) k (places g) (falling g))

      by : slice_get (met_harts n w h counts places g ls) k ≡ Some (after g l) → (b : Bool) → (g == g0) ≡ b → (c : Bool) → (g == h) ≡ c
          → slice_get (cond c (met_harts n w h counts places g ls) (met_all n w (uncovered (counts g) (places g)) (met_harts n w h counts places g ls))) k ≡ Some (cond (nat_lt g0 (suc g) && admits) (met n w l) l)
      by before true f true i =
          let same = eqb-true g g0 f in
          before ∙ ap (λ (b : Bool). Some (cond b (met n w l) l)) (ap (λ (b : Bool). b && admits) (lt_own g same) ∙ sym (skipped same i) ∙ ap (λ (b : Bool). b && admits) (sym (lt_here g same)))
      by before true f false i =
          let same = eqb-true g g0 f in
          met_all_at n w k (uncovered (counts g) (places g)) (met_harts n w h counts places g ls) (after g l) before
          ∙ ap (λ (b : Bool). Some (cond (is_in k (uncovered (counts g) (places g))) (met n w (cond (b && admits) (met n w l) l)) (cond (b && admits) (met n w l) l))) (lt_own g same)
          ∙ ap (λ (b : Bool). Some (cond b (met n w l) l)) (sym (opened same i) ∙ ap (λ (b : Bool). b && admits) (sym (lt_here g same)))
      by before false f true i = before ∙ ap (λ (b : Bool). Some (cond (b && admits) (met n w l) l)) (sym (lt_next g f))
      by before false f false i =
          met_all_at n w k (uncovered (counts g) (places g)) (met_harts n w h counts places g ls) (after g l) before
          ∙ ap (λ (b : Bool). Some (cond b (met n w (after g l)) (after g l))) (other_out g f)
          ∙ ap (λ (b : Bool). Some (cond (b && admits) (met n w l) l)) (sym (lt_next g f))

pub met_harts_length : (n w h : ℕ) (counts : ℕ → ℕ) (places : ℕ → List ℕ) (harts : ℕ) (ls : List (List Meeting)) → length (met_harts n w h counts places harts ls) ≡ length ls
met_harts_length n w h counts places zero ls = refl
met_harts_length n w h counts places (suc g) ls = by (g == h) (met_harts_length n w h counts places g ls)
  where
    by : (c : Bool) → length (met_harts n w h counts places g ls) ≡ length ls → length (cond c (met_harts n w h counts places g ls) (met_all n w (uncovered (counts g) (places g)) (met_harts n w h counts places g ls))) ≡ length ls
    by true rest = rest
    by false rest = met_all_length n w (uncovered (counts g) (places g)) (met_harts n w h counts places g ls) ∙ rest

pub met_words_length : (n h : ℕ) (counts : ℕ → ℕ) (places : ℕ → ℕ → List ℕ) (harts : ℕ) (ws : List ℕ) (ls : List (List Meeting)) → length (met_words n h counts places harts ws ls) ≡ length ls
met_words_length n h counts places harts [] ls = refl
met_words_length n h counts places harts (w ∷ ws) ls = met_words_length n h counts places harts ws (met_harts n w h counts (λ g. places g w) harts ls) ∙ met_harts_length n w h counts (λ g. places g w) harts ls

-- ---- all words

-- a list once the words that pass are met
abbrev pub folded : ℕ → (ℕ → Bool) → List ℕ → List Meeting → List Meeting
folded n test [] l = l
folded n test (w ∷ ws) l = folded n test ws (cond (test w) (met n w l) l)

pub folded_is : (n : ℕ) (test : ℕ → Bool) (ws : List ℕ) (l : List Meeting) (o : Option ℕ) → last_meets n l ≡ None → folded n test ws (l ++ meeting_at n o) ≡ l ++ meeting_at n (least_from o (filter test ws))
folded_is n test [] l o e = refl
folded_is n test (w ∷ ws) l o e = by (test w) (λ u. folded_is n test ws l u e)
  where
    by : (b : Bool) → ((u : Option ℕ) → folded n test ws (l ++ meeting_at n u) ≡ l ++ meeting_at n (least_from u (filter test ws)))
        → folded n test ws (cond b (met n w (l ++ meeting_at n o)) (l ++ meeting_at n o)) ≡ l ++ meeting_at n (least_from o (cond b (w ∷ filter test ws) (filter test ws)))
    by true rest = ap (λ (x : List Meeting). folded n test ws x) (met_after n w l o e) ∙ rest (lesser o w)
    by false rest = rest o

pub filter_none : (test : ℕ → Bool) (ws : List ℕ) → ((w : ℕ) → test w ≡ false) → filter test ws ≡ []
filter_none test [] e = refl
filter_none test (w ∷ ws) e = ap (λ (b : Bool). cond b (w ∷ filter test ws) (filter test ws)) (e w) ∙ filter_none test ws e

pub filter_same : (test other : ℕ → Bool) (ws : List ℕ) → ((w : ℕ) → test w ≡ other w) → filter test ws ≡ filter other ws
filter_same test other [] e = refl
filter_same test other (w ∷ ws) e = ap (λ (b : Bool). cond b (w ∷ filter test ws) (filter test ws)) (e w) ∙ ap (λ (us : List ℕ). cond (other w) (w ∷ us) us) (filter_same test other ws e)

-- the least of the words that pass, if all of them wait for the same
pub least_if : (here there covered : Bool) (test : ℕ → Bool) (ws : List ℕ) → here ≡ true
    → least_from None (filter (λ w. here && (not there && (test w && not covered))) ws) ≡ cond (not there && not covered) (least_from None (filter test ws)) None
least_if true true covered test ws e = ap (least_from None) (filter_none (λ w. false) ws (λ w. refl))
least_if true false true test ws e = ap (least_from None) (filter_none (λ w. test w && false) ws (λ w. and-false (test w)))
least_if true false false test ws e = ap (least_from None) (filter_same (λ w. test w && true) test ws (λ w. and-true (test w)))
least_if false there covered test ws e = absurd cc

abbrev pub AllAligned : List ℕ → Type 0
AllAligned [] = Unit {0}
AllAligned (w ∷ ws) = (w % 4 ≡ 0) × AllAligned ws

module _ (n h k g0 harts : ℕ) (counts : ℕ → ℕ) (places : ℕ → ℕ → List ℕ) (passes : ℕ → Bool)
    (falling : (g w : ℕ) → w % 4 ≡ 0 → AreFalling (places g w)) (own : (g w : ℕ) → w % 4 ≡ 0 → is_in k (places g w) ≡ true → g ≡ g0)
    (members : (w : ℕ) → w % 4 ≡ 0 → is_in k (places g0 w) ≡ passes w) where
  abbrev meets_in : ℕ → Bool
  meets_in w = nat_lt g0 harts && (not (g0 == h) && (passes w && not (nat_lt k (counts g0))))

  met_words_at : (ws : List ℕ) (ls : List (List Meeting)) (l : List Meeting) → AllAligned ws → slice_get ls k ≡ Some l → slice_get (met_words n h counts places harts ws ls) k ≡ Some (folded n meets_in ws l)
  met_words_at [] ls l a e = e
  met_words_at (w ∷ ws) ls l a e =
      met_words_at ws (met_harts n w h counts (λ g. places g w) harts ls) (cond (meets_in w) (met n w l) l) a.1
      (met_harts_at n w h k g0 counts (λ g. places g w) (λ g. falling g w a.0) (λ g. own g w a.0) harts ls l e
      ∙ ap (λ (b : Bool). Some (cond (nat_lt g0 harts && (not (g0 == h) && (b && not (nat_lt k (counts g0))))) (met n w l) l)) (members w a.0))

  pub found_at : (ws : List ℕ) (ls : List (List Meeting)) (l : List Meeting) → AllAligned ws → g0 < harts → last_meets n l ≡ None → slice_get ls k ≡ Some l
      → slice_get (met_words n h counts places harts ws ls) k ≡ Some (l ++ meeting_at n (cond (not (g0 == h) && not (nat_lt k (counts g0))) (least_from None (filter passes ws)) None))
  found_at ws ls l a low none e =
      met_words_at ws ls l a e
      ∙ ap (λ (x : List Meeting). Some x) (ap (folded n meets_in ws) (sym (append-nil l)) ∙ folded_is n meets_in ws l None none
      ∙ ap (λ (o : Option ℕ). l ++ meeting_at n o) (least_if (nat_lt g0 harts) (g0 == h) (nat_lt k (counts g0)) passes ws (lt-ltb g0 harts low)))
