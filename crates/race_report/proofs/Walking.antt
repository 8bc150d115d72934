-- A walk back over a hart's accesses of a word, and over words one after another.
use Rattle.race_report.proofs.Common.{◌≡◌, ℕ, suc, ◌+◌, ◌-◌, ◌<◌, ◌≤◌, ◌%◌, ◌^◌, Bool, cond, sym, ap, ◌∙◌, subst, arith, List, [], ◌∷◌, slice_get, Option, Some, None, Meeting, TrackEntry, words_from, IsChain, met_at, met_all, uncovered, le-ltb, lt-ltb, same_Some}

-- what is left of a walk: the places from an entry on, and what their races make of what is found
pub record IsLeft (entries : List TrackEntry) (number : Option ℕ) (count n w : ℕ) (end now : List (List Meeting)) : Type 0 where
  pub places : List ℕ
  pub chain : IsChain entries number places
  pub rest : end ≡ met_all n w (uncovered count places) now

pub left_none : (entries : List TrackEntry) (count n w : ℕ) (end now : List (List Meeting)) → IsLeft entries None count n w end now → now ≡ end
left_none entries count n w end now l = by l.places l.chain l.rest
  where
    by : (ps : List ℕ) → IsChain entries None ps → end ≡ met_all n w (uncovered count ps) now → now ≡ end
    by [] c r = sym r
    by (p ∷ ps) c r = absurd (no c.0 c.2)
      where
        no : (k : ℕ) → ◌≡◌ {A = Option ℕ} None (Some k) → ⊥
        no k e = cc

-- the first place that is left is the entry's
pub record IsFirstPlace (entries : List TrackEntry) (e : TrackEntry) (count n w : ℕ) (end now : List (List Meeting)) : Type 0 where
  pub places : List ℕ
  pub chain : IsChain entries e.previous places
  pub rest : end ≡ met_all n w (uncovered count (e.place ∷ places)) now

first_left : (entries : List TrackEntry) (k : ℕ) (e : TrackEntry) (count n w : ℕ) (end now : List (List Meeting)) → slice_get entries k ≡ Some e → IsLeft entries (Some k) count n w end now → IsFirstPlace entries e count n w end now
first_left entries k e count n w end now at l = by l.places l.chain l.rest
  where
    by : (ps : List ℕ) → IsChain entries (Some k) ps → end ≡ met_all n w (uncovered count ps) now → IsFirstPlace entries e count n w end now
    by [] c r = absurd (no c)
      where
        no : ◌≡◌ {A = Option ℕ} (Some k) None → ⊥
        no f = cc
    by (p ∷ ps) c r =
        let number : k ≡ c.0 = same_Some k c.0 c.2 in
        let entry : e ≡ c.1 = same_Some e c.1 (sym at ∙ ap (slice_get entries) number ∙ c.3) in
        record {
          places = ps;
          chain = subst (λ (x : TrackEntry). IsChain entries x.previous ps) (sym entry) c.5;
          rest = r ∙ ap (λ (x : ℕ). met_all n w (uncovered count (x ∷ ps)) now) (sym c.4 ∙ ap (λ (x : TrackEntry). x.place) (sym entry));
        }

pub left_covered : (entries : List TrackEntry) (k : ℕ) (e : TrackEntry) (count n w : ℕ) (end now : List (List Meeting)) → slice_get entries k ≡ Some e → e.place < count → IsLeft entries (Some k) count n w end now → now ≡ end
left_covered entries k e count n w end now at low l =
    let f = first_left entries k e count n w end now at l in
    sym (f.rest ∙ ap (λ (b : Bool). met_all n w (cond b [] (e.place ∷ uncovered count f.places)) now) (lt-ltb e.place count low))

pub left_next : (entries : List TrackEntry) (k : ℕ) (e : TrackEntry) (count n w : ℕ) (end now new : List (List Meeting)) → slice_get entries k ≡ Some e → count ≤ e.place → new ≡ met_at n w e.place now
    → IsLeft entries (Some k) count n w end now → IsLeft entries e.previous count n w end new
left_next entries k e count n w end now new at high is l =
    let f = first_left entries k e count n w end now at l in
    record {
      places = f.places;
      chain = f.chain;
      rest = f.rest ∙ ap (λ (b : Bool). met_all n w (cond b [] (e.place ∷ uncovered count f.places)) now) (le-ltb e.place count high) ∙ ap (λ (x : List (List Meeting)). met_all n w (uncovered count f.places) x) (sym is);
    }

-- the same of a number that is known by an equation
pub none_left : (entries : List TrackEntry) (o : Option ℕ) (count n w : ℕ) (end now : List (List Meeting)) → o ≡ None → IsLeft entries o count n w end now → now ≡ end
none_left entries o count n w end now e l = left_none entries count n w end now (subst (λ (u : Option ℕ). IsLeft entries u count n w end now) e l)

pub covered_left : (entries : List TrackEntry) (o : Option ℕ) (k : ℕ) (e : TrackEntry) (count n w : ℕ) (end now : List (List Meeting)) → o ≡ Some k → slice_get entries k ≡ Some e → e.place < count → IsLeft entries o count n w end now → now ≡ end
covered_left entries o k e count n w end now is at low l = left_covered entries k e count n w end now at low (subst (λ (u : Option ℕ). IsLeft entries u count n w end now) is l)

pub next_left : (entries : List TrackEntry) (o : Option ℕ) (k : ℕ) (e : TrackEntry) (count n w : ℕ) (end now new : List (List Meeting)) → o ≡ Some k → slice_get entries k ≡ Some e → count ≤ e.place → new ≡ met_at n w e.place now
    → IsLeft entries o count n w end now → IsLeft entries e.previous count n w end new
next_left entries o k e count n w end now new is at high met l = left_next entries k e count n w end now new at high met (subst (λ (u : Option ℕ). IsLeft entries u count n w end now) is l)

-- ---- words one after another

pub words_next : (w count k : ℕ) → k < count → words_from w (count - k) ≡ w ∷ words_from ((w + 4) % 2 ^ 32) (count - (k + 1))
words_next w count k low = let one : count - k ≡ suc (count - (k + 1)) = omega (arith, low) in ap (words_from w) one

pub next_aligned : (w : ℕ) → w % 4 ≡ 0 → (w + 4) % 2 ^ 32 % 4 ≡ 0
next_aligned w e = omega (arith, e)
