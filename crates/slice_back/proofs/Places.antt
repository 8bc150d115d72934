-- The first loads that are still to be met, by their places.
use Rattle.slice_back.proofs.Common.{◌≡◌, ◌≢◌, ℕ, ◌+◌, ◌≤◌, Bool, true, false, List, [], ◌∷◌, Option, Some, None, refl, sym, ◌∙◌, ap, subst, inl, inr, arith, eqb_tells, Row, AreMetByPlace, Interval, logged, Pending, due, met, IsWaiting, used_word, passed}

met_by : ℕ → (ℕ × ℕ) → List (ℕ × ℕ) → Bool → Pending
met_by skipped r rs x = elim x as (λ y. Pending) [ true ↦ record { loads = rs; skipped = 0 } | false ↦ record { loads = r ∷ rs; skipped = skipped + 1 } ]

first_waits : (rs : List (ℕ × ℕ)) → IsWaiting 0 rs
first_waits [] = tt
first_waits (r ∷ rs) = omega arith

met_waits : (skipped : ℕ) (rs : List (ℕ × ℕ)) → IsWaiting skipped rs → IsWaiting (met skipped rs).skipped (met skipped rs).loads
unfolding met_by
met_waits skipped [] w = tt
met_waits skipped (r ∷ rs) w = elim (eqb_tells skipped r.0) [
  | inl p ↦ subst (λ (x : Bool). IsWaiting (met_by skipped r rs x).skipped (met_by skipped r rs x).loads) (sym p.0) (first_waits rs)
  | inr p ↦ subst (λ (x : Bool). IsWaiting (met_by skipped r rs x).skipped (met_by skipped r rs x).loads) (sym p.0) (more p.1)
]
  where
    more : skipped ≢ r.0 → skipped + 1 ≤ r.0
    more h = elim (eqb_tells (skipped + 1) (r.0 + 1)) [ inl p ↦ absurd (h (omega (arith, p.1))) | inr p ↦ (let u = p.1 in grind (arith, w, u, h)) ]

-- what is to be met after k loading accesses is what the interval has from that place on
pub record Linked (v : Interval) (p : Pending) (k : ℕ) : Type 0 where
  pub by_place : AreMetByPlace
  pub waiting : IsWaiting p.skipped p.loads
  pub loads : (j : ℕ) → logged v.loads (k + j) ≡ logged p.loads (p.skipped + j)

pub linked_first : AreMetByPlace → (v : Interval) → Linked v (record { loads = v.loads; skipped = 0 }) 0
linked_first law v = record { by_place = law; waiting = first_waits v.loads; loads = λ j. refl }

-- the first load that a loading access takes
pub linked_due : (v : Interval) (p : Pending) (k : ℕ) → Linked v p k → logged v.loads k ≡ due p.skipped p.loads
linked_due v p k h =
    let here : k ≡ k + 0 = omega arith in
    let there : p.skipped + 0 ≡ p.skipped = omega arith in
    ap (λ n. logged v.loads n) here ∙ h.loads 0 ∙ ap (λ n. logged p.loads n) there ∙ h.by_place.here p.skipped p.loads h.waiting

linked_met : (v : Interval) (p : Pending) (k : ℕ) → Linked v p k → Linked v (met p.skipped p.loads) (k + 1)
linked_met v p k h = record {
  by_place = h.by_place;
  waiting = met_waits p.skipped p.loads h.waiting;
  loads = λ j. (
      let here : k + 1 + j ≡ k + (1 + j) = omega arith in
      let there : p.skipped + (1 + j) ≡ p.skipped + 1 + j = omega arith in
      ap (λ n. logged v.loads n) here ∙ h.loads (1 + j) ∙ ap (λ n. logged p.loads n) there ∙ h.by_place.behind p.skipped p.loads j);
}

-- by the word that a row uses
pub linked_next : (v : Interval) (p : Pending) (k : ℕ) (r : Row) (o : Option ℕ) (n : ℕ) → Linked v p k → used_word r ≡ o → n ≡ k + elim o as (λ x. ℕ) [ None ↦ 0 | Some a ↦ 1 ] → Linked v (passed p r) n
linked_next v p k r None n h u e =
    let same : k ≡ n = omega (arith, e) in
    subst (λ (x : ℕ). Linked v (passed p r) x) same
    (subst (λ (o : Option ℕ). Linked v (elim o as (λ x. Pending) [ None ↦ p | Some a ↦ met p.skipped p.loads ]) k) (sym u) h)
linked_next v p k r (Some a) n h u e =
    subst (λ (x : ℕ). Linked v (passed p r) x) (sym e)
    (subst (λ (o : Option ℕ). Linked v (elim o as (λ x. Pending) [ None ↦ p | Some a ↦ met p.skipped p.loads ]) (k + 1)) (sym u) (linked_met v p k h))
