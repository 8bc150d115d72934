-- The accesses of each word, with those of one point more.
use Rattle.race_report.proofs.Common.{◌≡◌, ◌≢◌, ℕ, zero, suc, ◌+◌, ◌≤◌, ◌/◌, ◌%◌, ◌^◌, ◌==◌, Bool, true, false, cond, ◌&&◌, ◌||◌, refl, sym, ap, ◌∙◌, subst, arith, List, [], ◌∷◌, ◌++◌, length, map, slice_get, Option, Some, None, list_any, Row, clashes, Touch, Track, Accessing, words_from, AreBelow, noted_one, noted, IsTracked, meets, passes, AreFalling, ArePlaces, Follows, point_by, and-false, both_ways, eq-eqb, eqb-true, or-false, true≢false, slice_get_past, slice_get_within, and-true}
use Rattle.race_report.proofs.Lists.{is_in}
use Rattle.race_report.proofs.Rounds.{AllAligned}
use Rattle.race_report.proofs.Prefixes.{length_more}
use Rattle.joint_replay.proofs.Merging.{get_next}
use Rattle.race_report.proofs.Walking.{next_aligned}

-- ---- words

pub all_aligned : (w n : ℕ) → w % 4 ≡ 0 → AllAligned (words_from w n)
all_aligned w zero e = tt
all_aligned w (suc n) e = (e, all_aligned ((w + 4) % 2 ^ 32) n (next_aligned w e))

same_word : (v w : ℕ) → v % 4 ≡ 0 → w % 4 ≡ 0 → (v / 4 == w / 4) ≡ (v == w)
same_word v w e f = both_ways (v / 4 == w / 4) (v == w) (λ h. eq-eqb v w (let same = eqb-true (v / 4) (w / 4) h in omega (arith, same, e, f))) (λ h. eq-eqb (v / 4) (w / 4) (let same = eqb-true v w h in omega (arith, same)))

-- ---- which places are noted

in_other : (m n : ℕ) (b : Bool) (ps : List ℕ) → (n == m) ≡ false → is_in m (cond b (n ∷ ps) ps) ≡ is_in m ps
in_other m n true ps e = ap (λ (b : Bool). b || is_in m ps) e
in_other m n false ps e = refl

noted_other : (h w g n m : ℕ) (words ps : List ℕ) → (n == m) ≡ false → is_in m (noted h w g n words ps) ≡ is_in m ps
noted_other h w g n m [] ps e = refl
noted_other h w g n m (v ∷ vs) ps e = noted_other h w g n m vs (noted_one h w g n v ps) e ∙ in_other m n (g == h && (v / 4 == w / 4)) ps e

in_here : (n : ℕ) (b : Bool) (ps : List ℕ) → is_in n (cond b (n ∷ ps) ps) ≡ (b || is_in n ps)
in_here n true ps = ap (λ (b : Bool). b || is_in n ps) (eq-eqb n n refl)
in_here n false ps = refl

swap : (b i r : Bool) → ((b || i) || r) ≡ (i || (b || r))
swap true true r = refl
swap true false r = refl
swap false true r = refl
swap false false r = refl

noted_here : (h w g n : ℕ) (words ps : List ℕ) → is_in n (noted h w g n words ps) ≡ (is_in n ps || list_any (λ v. g == h && (v / 4 == w / 4)) words)
noted_here h w g n [] ps = sym (or-false (is_in n ps))
noted_here h w g n (v ∷ vs) ps =
    noted_here h w g n vs (noted_one h w g n v ps)
    ∙ ap (λ (b : Bool). b || list_any (λ u. g == h && (u / 4 == w / 4)) vs) (in_here n (g == h && (v / 4 == w / 4)) ps)
    ∙ swap (g == h && (v / 4 == w / 4)) (is_in n ps) (list_any (λ u. g == h && (u / 4 == w / 4)) vs)

-- the words of an access that clashes with one of this word
clash_any : (g h w : ℕ) (writes other : Bool) (words : List ℕ) → w % 4 ≡ 0 → AllAligned words → (writes || other) ≡ true
    → list_any (λ v. g == h && (v / 4 == w / 4)) words ≡ (g == h && list_any (λ y. clashes y (record { word = w; writes = other })) (map (λ v. record { word = v; writes = writes }) words))
clash_any g h w writes other words low a e = by (g == h)
  where
    one : (v : ℕ) → v % 4 ≡ 0 → (v / 4 == w / 4) ≡ ((v == w) && (writes || other))
    one v f = same_word v w f low ∙ sym (and-true (v == w)) ∙ ap (λ (b : Bool). (v == w) && b) (sym e)

    all : (us : List ℕ) → AllAligned us → list_any (λ v. v / 4 == w / 4) us ≡ list_any (λ y. clashes y (record { word = w; writes = other })) (map (λ v. record { word = v; writes = writes }) us)
    all [] b = refl
    all (u ∷ us) b = ap (λ (c : Bool). c || list_any (λ v. v / 4 == w / 4) us) (one u b.0) ∙ ap (λ (c : Bool). ((u == w) && (writes || other)) || c) (all us b.1)

    none : (us : List ℕ) → list_any (λ v. false) us ≡ false
    none [] = refl
    none (u ∷ us) = none us

    by : (b : Bool) → list_any (λ v. b && (v / 4 == w / 4)) words ≡ (b && list_any (λ y. clashes y (record { word = w; writes = other })) (map (λ v. record { word = v; writes = writes }) words))
    by true = all words a
    by false = none words

no_clash : (w : ℕ) (words : List ℕ) → list_any (λ y. clashes y (record { word = w; writes = false })) (map (λ v. record { word = v; writes = false }) words) ≡ false
no_clash w [] = refl
no_clash w (v ∷ vs) = ap (λ (b : Bool). b || list_any (λ y. clashes y (record { word = w; writes = false })) (map (λ u. record { word = u; writes = false }) vs)) (and-false (v == w)) ∙ no_clash w vs

-- ---- falling places

abbrev Top : ℕ → List ℕ → Type 0
Top n [] = Unit {0}
Top n (m ∷ ms) = m ≤ n

falling_more : (n : ℕ) (b : Bool) (ps : List ℕ) → AreFalling ps → Top n ps → AreFalling (cond b (n ∷ ps) ps) × Top n (cond b (n ∷ ps) ps)
falling_more n true [] f t = (tt, omega arith)
falling_more n true (p ∷ ps) f t = ((t, f), omega arith)
falling_more n false ps f t = (f, t)

falling_noted : (h w g n : ℕ) (words ps : List ℕ) → AreFalling ps → Top n ps → AreFalling (noted h w g n words ps)
falling_noted h w g n [] ps f t = f
falling_noted h w g n (v ∷ vs) ps f t = let more = falling_more n (g == h && (v / 4 == w / 4)) ps f t in falling_noted h w g n vs (noted_one h w g n v ps) more.0 more.1

top_is : (run : List Accessing) (test : Accessing → Bool) (ps : List ℕ) → ArePlaces run test ps → Top (length run) ps
top_is run test [] a = tt
top_is run test (p ∷ ps) a = by (slice_get run p) refl (a.members p)
  where
    here : is_in p (p ∷ ps) ≡ true
    here = ap (λ (b : Bool). b || is_in p ps) (eq-eqb p p refl)

    by : (o : Option Accessing) → slice_get run p ≡ o → is_in p (p ∷ ps) ≡ passes test o → p ≤ length run
    by None e f = absurd (true≢false (sym here ∙ f))
    by (Some x) e f = let low = slice_get_within run p x e in omega (arith, low)

-- ---- one point more

other_place : (run : List Accessing) (p : Accessing) (m : ℕ) → (length run == m) ≡ false → slice_get (run ++ p ∷ []) m ≡ slice_get run m
other_place [] p zero e = absurd cc
other_place [] p (suc m) e = refl
other_place (q ∷ qs) p zero e = refl
other_place (q ∷ qs) p (suc m) e = other_place qs p m (less (length qs) m e)
  where
    less : (k m : ℕ) → (suc k == suc m) ≡ false → (k == m) ≡ false
    less k m f = grind arith

members_more : (run : List Accessing) (p : Accessing) (test : Accessing → Bool) (ps qs : List ℕ) → ((m : ℕ) → is_in m ps ≡ passes test (slice_get run m))
    → ((m : ℕ) → (length run == m) ≡ false → is_in m qs ≡ is_in m ps) → is_in (length run) qs ≡ test p → (m : ℕ) → is_in m qs ≡ passes test (slice_get (run ++ p ∷ []) m)
members_more run p test ps qs old others here m = by (length run == m) refl
  where
    by : (b : Bool) → (length run == m) ≡ b → is_in m qs ≡ passes test (slice_get (run ++ p ∷ []) m)
    by true e = subst (λ (k : ℕ). is_in k qs ≡ passes test (slice_get (run ++ p ∷ []) k)) (eqb-true (length run) m e) (here ∙ ap (passes test) (sym (get_next run p [])))
    by false e = others m e ∙ old m ∙ ap (passes test) (sym (other_place run p m e))

out_before : (run : List Accessing) (test : Accessing → Bool) (ps : List ℕ) → ArePlaces run test ps → is_in (length run) ps ≡ false
out_before run test ps a = a.members (length run) ∙ ap (passes test) (slice_get_past run (length run) (omega arith))

pub places_more : (h w hart : ℕ) (row : Row) (touch : Touch) (writes : Bool) (run : List Accessing) (ps : List ℕ) → w % 4 ≡ 0 → touch.first % 4 ≡ 0 → (touch.writes || writes) ≡ true
    → ArePlaces run (meets h w writes) ps → ArePlaces (run ++ point_by hart row touch ∷ []) (meets h w writes) (noted h w hart (length run) (words_from touch.first touch.count) ps)
places_more h w hart row touch writes run ps low first e a = record {
  falling = falling_noted h w hart (length run) (words_from touch.first touch.count) ps a.falling (top_is run (meets h w writes) ps a);
  members = members_more run (point_by hart row touch) (meets h w writes) ps (noted h w hart (length run) (words_from touch.first touch.count) ps) a.members
      (λ m f. noted_other h w hart (length run) m (words_from touch.first touch.count) ps f)
      (noted_here h w hart (length run) (words_from touch.first touch.count) ps
      ∙ ap (λ (b : Bool). b || list_any (λ v. hart == h && (v / 4 == w / 4)) (words_from touch.first touch.count)) (out_before run (meets h w writes) ps a)
      ∙ clash_any hart h w touch.writes writes (words_from touch.first touch.count) low (all_aligned touch.first touch.count first) e);
}

pub places_same : (h w hart : ℕ) (row : Row) (touch : Touch) (run : List Accessing) (ps : List ℕ) → touch.writes ≡ false
    → ArePlaces run (meets h w false) ps → ArePlaces (run ++ point_by hart row touch ∷ []) (meets h w false) ps
places_same h w hart row touch run ps e a = record {
  falling = a.falling;
  members = members_more run (point_by hart row touch) (meets h w false) ps ps a.members (λ m f. refl) (out_before run (meets h w false) ps a ∙ sym none);
}
  where
    none : meets h w false (point_by hart row touch) ≡ false
    none = ap (λ (b : Bool). hart == h && list_any (λ y. clashes y (record { word = w; writes = false })) (map (λ v. record { word = v; writes = b }) (words_from touch.first touch.count))) e
        ∙ ap (λ (b : Bool). hart == h && b) (no_clash w (words_from touch.first touch.count)) ∙ and-false (hart == h)

below_more : (run : List Accessing) (p : Accessing) (t : Track) → AreBelow (suc (length run)) t.entries.items → AreBelow (length (run ++ p ∷ [])) t.entries.items
below_more run p t b = subst (λ (k : ℕ). AreBelow k t.entries.items) (sym (length_more run p)) b

pub below_weaker : (t : Track) (a b : ℕ) → a ≤ b → AreBelow a t.entries.items → AreBelow b t.entries.items
below_weaker t a b low f = λ k e g. let under = f k e g in omega (arith, low, under)

pub follows_more : (harts hart : ℕ) (row : Row) (touch : Touch) (writes : Bool) (run : List Accessing) (t u : Track) → touch.first % 4 ≡ 0 → (touch.writes || writes) ≡ true
    → length u.heads.items ≡ length t.heads.items → AreBelow (suc (length run)) u.entries.items
    → ((h w : ℕ) (ps : List ℕ) → w % 4 ≡ 0 → IsTracked t h w ps → IsTracked u h w (noted h w hart (length run) (words_from touch.first touch.count) ps))
    → Follows harts run writes t → Follows harts (run ++ point_by hart row touch ∷ []) writes u
follows_more harts hart row touch writes run t u first e long below noting f = record {
  count = long ∙ f.count;
  below = below_more run (point_by hart row touch) u below;
  places = λ h w. noted h w hart (length run) (words_from touch.first touch.count) (f.places h w);
  tracked = λ h w low. noting h w (f.places h w) low (f.tracked h w low);
  are = λ h w low. places_more h w hart row touch writes run (f.places h w) low first e (f.are h w low);
}

pub follows_same : (harts hart : ℕ) (row : Row) (touch : Touch) (run : List Accessing) (t u : Track) → touch.writes ≡ false → u ≡ t → Follows harts run false t → Follows harts (run ++ point_by hart row touch ∷ []) false u
follows_same harts hart row touch run t u e same f = subst (λ (x : Track). Follows harts (run ++ point_by hart row touch ∷ []) false x) (sym same) (record {
  count = f.count;
  below = below_more run (point_by hart row touch) t (below_weaker t (length run) (suc (length run)) (omega arith) f.below);
  places = f.places;
  tracked = f.tracked;
  are = λ h w low. places_same h w hart row touch run (f.places h w) e (f.are h w low);
})

pub follows_none : (harts : ℕ) (writes : Bool) (t : Track) → length t.heads.items ≡ harts → ((h w : ℕ) → IsTracked t h w []) → AreBelow 0 t.entries.items → Follows harts [] writes t
follows_none harts writes t long none below = record {
  count = long;
  below = below;
  places = λ h w. [];
  tracked = λ h w low. none h w;
  are = λ h w low. record { falling = tt; members = λ m. refl };
}
