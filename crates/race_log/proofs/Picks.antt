-- The rounds find the sources of all edges into a new point.
use Rattle.race_log.proofs.Common.{◌≡◌, ℕ, zero, suc, ◌-◌, ◌<◌, ◌≤◌, Bool, true, not, ◌&&◌, ◌||◌, ◌⊎◌, ◌==◌, refl, inl, inr, arith, sym, ap, ap₂, ◌∙◌, List, [], ◌∷◌, slice_get, Option, Some, None, nat_lt, lt-ltb, map, Point, touches, name_of, UpTo, CountsOf, Kept, is_write, In, KeptAt, is_source, latest, merged, sources, counts_after}
use Rattle.race_log.proofs.BoolFacts.{and_left, and_right, both, known, not_true, same_number}
use Rattle.race_log.proofs.Agree.{same_test}
use Rattle.race_log.proofs.EdgeLaws.{one_point}
use Rattle.race_log.proofs.Listed.{Falling}
use Rattle.race_log.proofs.CountLaws.{pair_at, less_or}
use Rattle.race_log.proofs.RangeLemmas.{IsOfOneKind}
use Rattle.race_log.proofs.AfterLemmas.{holds_map, holds_merge}
use Rattle.race_log.proofs.Latest.{IsLatest, latest_is, none_is, passing, passing_less, passing_but, has_source, source_found, found_source}
use Rattle.race_log.proofs.Rounds.{sources_more, counts_more, sources_done, counts_done}
use Rattle.race_log.proofs.Sources.{up_join, Candidate, Ready, self_covered, same_source, Clashes, NewEdge, NewBefore, Told, edge_from, not_edge, set_before, before_set, taken, source_or, turn_order, edge_kept}

up_test : (a c d : ℕ) → c ≤ d → not (nat_lt a d) ≡ true → not (nat_lt a c) ≡ true
up_test a c d low h = grind arith

module _ (run : List Point) (b : Point) (writes : Bool) (kind : IsOfOneKind b writes) (ks : List Kept) (live : ℕ → Bool) (harts : ℕ)
    (ready : Ready run live harts b ks) where
  -- what the rounds find below the bound
  pub record Picked (bound rounds : ℕ) (counts : ℕ → ℕ) : Type 0 where
    pub places : List ℕ
    pub falling : Falling bound places
    pub edges : (e : ℕ) → In places e → NewEdge run b writes kind ks live harts ready e
    pub whole : (e : ℕ) → e < bound → NewEdge run b writes kind ks live harts ready e → In places e
    pub found : sources b.hart writes rounds counts ks ≡ map (λ e. name_of (slice_get run e)) places
    pub known_after : CountsOf run (NewBefore run b writes kind ks live harts ready) (counts_after b.hart writes rounds counts ks)

  -- with no source left
  finished : (S : ℕ → Type 0) (bound rounds : ℕ) (counts : ℕ → ℕ) → CountsOf run S counts → Told run b writes kind ks live harts ready S bound
      → latest b.hart writes counts None ks ≡ None → Picked bound rounds counts
  finished S bound rounds counts holds told none =
      let all_in : (k : ℕ) → Candidate run b writes ks k → Clashes run b writes kind ks live harts ready k → S k =
      λ k c clash. elim (source_or run b writes kind ks live harts ready S counts k c holds clash) [
        | inl t ↦ absurd (let f = (none_is b.hart writes counts None ks none).1 c.access c.among in cc)
        | inr s ↦ s
      ] in
      record {
        places = [];
        falling = tt;
        edges = λ e h. absurd h;
        whole = λ e low d. elim (edge_kept run b writes kind ks live harts ready e d) [
          | inl c ↦ absurd (not_edge run b writes kind ks live harts ready S bound e told low (all_in e c d.conflicts) d)
          | inr o ↦ absurd (not_edge run b writes kind ks live harts ready S bound e told low (told.own e o) d)
        ];
        found = sources_done b.hart writes counts ks rounds none;
        known_after = rw (counts_done b.hart writes counts ks rounds none)
            (holds_map run S (NewBefore run b writes kind ks live harts ready) counts
            (set_before run b writes kind ks live harts ready S bound told) (before_set run b writes kind ks live harts ready S bound told all_in) holds);
      }

  -- after the latest source is taken in, its hart has none
  fewer : (counts : ℕ → ℕ) (k : Kept) → IsLatest b.hart writes counts None ks k → (is_source b.hart writes counts k ≡ true) → In ks k
      → passing (has_source b.hart writes (merged counts k.times) ks) harts < passing (has_source b.hart writes counts ks) harts
  fewer counts k latest source among =
      let r = ready.each k among in
      passing_less (has_source b.hart writes (merged counts k.times) ks) (has_source b.hart writes counts ks) harts k.hart
      (rw r.2.hart (ready.few r.0 r.2.point r.2.at))
      (λ s h.
      let o = source_found b.hart writes (merged counts k.times) ks s h in
      found_source b.hart writes counts ks s o.0 o.1 (still o.0 o.2) o.3)
      (elim (known (has_source b.hart writes (merged counts k.times) ks k.hart)) [
        | inl t ↦
            let o = source_found b.hart writes (merged counts k.times) ks k.hart t in
            absurd (gone o.0 o.1 o.2 (same_number o.0.hart k.hart o.3))
        | inr f ↦ f
      ])
      (found_source b.hart writes counts ks k.hart k among source (same_test k.hart k.hart refl))
    where
      uncovered : (cs : ℕ → ℕ) (o : Kept) → is_source b.hart writes cs o ≡ true → not (nat_lt o.ic (cs o.hart)) ≡ true
      uncovered cs o t = and_right (not (o.hart == b.hart) && (is_write o.mode || writes)) (not (nat_lt o.ic (cs o.hart))) t

      still : (o : Kept) → is_source b.hart writes (merged counts k.times) o ≡ true → is_source b.hart writes counts o ≡ true
      still o t =
          let low : counts o.hart ≤ merged counts k.times o.hart = omega arith in
          both (not (o.hart == b.hart) && (is_write o.mode || writes)) (not (nat_lt o.ic (counts o.hart)))
          (and_left (not (o.hart == b.hart) && (is_write o.mode || writes)) (not (nat_lt o.ic (merged counts k.times o.hart))) t)
          (up_test o.ic (counts o.hart) (merged counts k.times o.hart) low (uncovered (merged counts k.times) o t))

      gone : (o : Kept) → In ks o → is_source b.hart writes (merged counts k.times) o ≡ true → o.hart ≡ k.hart → ⊥
      gone o in_ks t same =
          let earlier = latest.most o in_ks (still o t) in
          let at_k = ready.each k among in
          let at_o = ready.each o in_ks in
          let order = turn_order run b writes kind ks live harts ready at_k.1 at_o.1 at_k.0 at_o.0 k o at_k.2 at_o.2 earlier in
          let counts_k = self_covered run at_k.1 at_k.0 k at_k.2 in
          let low : o.ic ≤ k.ic = no_later at_k.0 at_o.0 at_k.1 at_o.1 at_k.2 at_o.2 order in
          let under : o.ic < merged counts k.times k.hart = omega (arith, counts_k, low) in
          not_true (nat_lt o.ic (merged counts k.times o.hart)) (uncovered (merged counts k.times) o t)
          (rw same (lt-ltb o.ic (merged counts k.times k.hart) under))
        where
          no_later : (j i w v : ℕ) → KeptAt run w j k → KeptAt run v i o → i ≤ j → o.ic ≤ k.ic
          no_later j i w v at_k at_o order = elim (less_or i j) [
            | inl t ↦
                let less = pair_at (λ p q. p.hart ≡ q.hart → p.count < q.count) run i j at_o.point at_k.point ready.in_order.counts t at_o.at at_k.at
                (sym at_o.hart ∙ (same ∙ at_k.hart)) in
                let e = at_k.count in let f = at_o.count in omega arith
            | inr g ↦
                let is : i ≡ j = omega arith in
                let p = one_point run j at_o.point at_k.point (rw is at at_o.at) at_k.at in
                let e = at_k.count in let f = at_o.count in let q = ap (λ (x : Point). x.count) p in omega arith
          ]

  -- as many rounds as harts have a source find all
  pub picks : (rounds : ℕ) (S : ℕ → Type 0) (bound : ℕ) (counts : ℕ → ℕ)
      → passing (has_source b.hart writes counts ks) harts ≤ rounds → CountsOf run S counts → Told run b writes kind ks live harts ready S bound
      → Picked bound rounds counts
  picks zero S bound counts few holds told = go (latest b.hart writes counts None ks) refl
    where
      go : (o : Option Kept) → latest b.hart writes counts None ks ≡ o → Picked bound 0 counts
      go None e = finished S bound 0 counts holds told e
      go (Some k) e =
          let l = latest_is b.hart writes counts None ks k e in
          absurd (elim l.from [
            | inl f ↦ cc
            | inr f ↦ let less = fewer counts k l f.1 f.0 in omega arith
          ])
  picks (suc rounds) S bound counts few holds told =
      go (latest b.hart writes counts None ks) refl
      (λ k f. picks rounds (λ m. S m ⊎ UpTo run m (ready.each k f).0) (ready.each k f).0 (merged counts k.times))
    where
      go : (o : Option Kept) → latest b.hart writes counts None ks ≡ o
          → ((k : Kept) (f : In ks k)
          → passing (has_source b.hart writes (merged counts k.times) ks) harts ≤ rounds
          → CountsOf run (λ m. S m ⊎ UpTo run m (ready.each k f).0) (merged counts k.times)
          → Told run b writes kind ks live harts ready (λ m. S m ⊎ UpTo run m (ready.each k f).0) (ready.each k f).0
          → Picked (ready.each k f).0 rounds (merged counts k.times))
          → Picked bound (suc rounds) counts
      go None e rest = finished S bound (suc rounds) counts holds told e
      go (Some k) e rest =
          let l = latest_is b.hart writes counts None ks k e in
          elim l.from [
            | inl f ↦ absurd (cc)
            | inr f ↦ one_more k f.0 f.1 e l (ready.each k f.0) (rest k f.0)
          ]
        where
          one_more : (k : Kept) (f : In ks k) → is_source b.hart writes counts k ≡ true → latest b.hart writes counts None ks ≡ Some k
              → IsLatest b.hart writes counts None ks k
              → (at : (j : ℕ) × (w : ℕ) × KeptAt run w j k × (touches w b ≡ true))
              → (passing (has_source b.hart writes (merged counts k.times) ks) harts ≤ rounds
              → CountsOf run (λ m. S m ⊎ UpTo run m at.0) (merged counts k.times)
              → Told run b writes kind ks live harts ready (λ m. S m ⊎ UpTo run m at.0) at.0
              → Picked at.0 rounds (merged counts k.times))
              → Picked bound (suc rounds) counts
          one_more k f source e l at rest =
              let t = taken run b writes kind ks live harts ready S counts at.1 at.0 k holds at.2 at.3 source in
              let no_later : (q : ℕ) → Candidate run b writes ks q → Clashes run b writes kind ks live harts ready q → S q ⊎ (q ≤ at.0) =
              λ q c clash. elim (source_or run b writes kind ks live harts ready S counts q c holds clash) [
                | inl is ↦ inr (turn_order run b writes kind ks live harts ready at.1 c.word at.0 q k c.access at.2 c.kept (l.most c.access c.among is))
                | inr s ↦ inl s
              ] in
              let edge_j = edge_from run b writes kind ks live harts ready S bound at.0 told no_later t.0 t.1 in
              let j_low : at.0 < bound = below k f at source t in
              let next_told : Told run b writes kind ks live harts ready (λ m. S m ⊎ UpTo run m at.0) at.0 = record {
                down = λ m q s c. elim s [ inl a ↦ inl (told.down m q a c) | inr u ↦ inr (up_join run (inr c) u) ];
                own = λ m o. inl (told.own m o);
                sound = λ m s. elim s [
                  | inl a ↦ elim (told.sound m a) [
                    | inl o ↦ inl o
                    | inr q ↦ let high = q.1 in inr (q.0, omega arith, q.2, q.3)
                  ]
                  | inr u ↦ inr (at.0, omega arith, t.0, u)
                ];
                passed = λ q c clash. elim (no_later q c clash) [
                  | inl s ↦ inl (inl s)
                  | inr low ↦ elim (less_or q at.0) [
                    | inl less ↦ inr less
                    | inr no_less ↦ inl (inr (inl (omega arith)))
                  ]
                ];
              } in
              let less = fewer counts k l source f in
              let next_holds = holds_merge run S (λ m. UpTo run m at.0) counts k.times holds at.2.times in
              let r = rest (omega arith) next_holds next_told in
              record {
                places = at.0 ∷ r.places;
                falling = (j_low, r.falling);
                edges = λ i h. elim h [ inl is ↦ (rw is at edge_j) | inr has ↦ r.edges i has ];
                whole = λ i low d. elim (less_or i at.0) [
                  | inl early ↦ inr (r.whole i early d)
                  | inr late ↦ elim (less_or at.0 i) [
                    | inl later ↦ absurd (elim (edge_kept run b writes kind ks live harts ready i d) [
                      | inl c ↦ elim (no_later i c d.conflicts) [
                        | inl s ↦ not_edge run b writes kind ks live harts ready S bound i told low s d
                        | inr early ↦ absurd (omega arith)
                      ]
                      | inr o ↦ not_edge run b writes kind ks live harts ready S bound i told low (told.own i o) d
                    ])
                    | inr early ↦ inl (omega arith)
                  ]
                ];
                found = sources_more b.hart writes counts ks rounds k e ∙ ap₂ (λ x xs. x ∷ xs) (same_source run at.1 at.0 k at.2) r.found;
                known_after = rw (counts_more b.hart writes counts ks rounds k e) r.known_after;
              }
            where
              below : (k : Kept) (f : In ks k) (at : (j : ℕ) × (w : ℕ) × KeptAt run w j k × (touches w b ≡ true)) → is_source b.hart writes counts k ≡ true
                  → Clashes run b writes kind ks live harts ready at.0 × (S at.0 → ⊥) → at.0 < bound
              below k f at source t =
                  let meets = and_right (not (k.hart == b.hart)) (is_write k.mode || writes)
                  (and_left (not (k.hart == b.hart) && (is_write k.mode || writes)) (not (nat_lt k.ic (counts k.hart))) source) in
                  elim (told.passed at.0 (record { access = k; among = f; word = at.1; kept = at.2; touched = at.3; meets = meets }) t.0) [
                    | inl s ↦ absurd (t.1 s)
                    | inr low ↦ low
                  ]

  -- the point's hart has no source
  pub first_few : (counts : ℕ → ℕ) → b.hart < harts → passing (has_source b.hart writes counts ks) harts ≤ harts - 1
  first_few counts low =
      let r = passing_but (has_source b.hart writes counts ks) harts b.hart low (elim (known (has_source b.hart writes counts ks b.hart)) [
        | inl t ↦
            let o = source_found b.hart writes counts ks b.hart t in
            absurd (not_true (o.0.hart == b.hart)
            (and_left (not (o.0.hart == b.hart)) (is_write o.0.mode || writes)
            (and_left (not (o.0.hart == b.hart) && (is_write o.0.mode || writes)) (not (nat_lt o.0.ic (counts o.0.hart))) o.2)) o.3)
        | inr f ↦ f
      ]) in
      omega arith
