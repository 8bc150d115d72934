-- Lists of the same points, in which conflicting points stand alike, have the same races.
use Rattle.race_report.proofs.Common.{◌≡◌, ◌⊎◌, inl, inr, ℕ, zero, suc, ◌+◌, ◌<◌, Bool, true, false, refl, sym, ap, ◌∙◌, subst, arith, List, [], ◌∷◌, slice_get, Some, Any, Row, In, Point, Access, MeetAt, IsConflict, ProgramOrder, Conflict, Either, Race, Touch, Accessing, accesses_of, whole_point, sync_point, syncs_from, IsOrdered, races_of, AreCounted, IsRaceOf, IsRowBefore, IsRaceBefore, Ascend, AreAlike, RacesAreListed, RacesAscend, RacesGoByConflicts}
use Rattle.race_log.specs.Netzer.Chain.{one, more}
use Rattle.race_report.proofs.Prefixes.{syncs_at}
use Rattle.joint_replay.proofs.Soundness.{some_is}

order_of : (m n : ℕ) → (m < n) ⊎ ((m ≡ n) ⊎ (n < m))
order_of m n = grind arith

-- ---- conflicts by places

wider : (P : Access → Type 0) (t : Touch) (b : Bool) → Any P (elim b as (λ y. List Access) [ true ↦ accesses_of t | false ↦ [] ]) → Any P (accesses_of t)
wider P t true a = a
wider P t false a = let low = a.2 in absurd (omega (arith, low))

wide : (m k j l : ℕ) (p q : Accessing) → IsConflict (sync_point m p) (sync_point k q) → IsConflict (whole_point j p) (whole_point l q)
wide m k j l p q c = record {
  apart = c.apart;
  word = c.word;
  meet = record {
    first = wider (λ (x : Access). x.word ≡ c.word) p.touch p.touch.syncs c.meet.first;
    second = wider (λ (x : Access). x.word ≡ c.word) q.touch q.touch.syncs c.meet.second;
    written = elim c.meet.written [
      | inl w ↦ inl (wider (λ (x : Access). (x.word ≡ c.word) × (x.writes ≡ true)) p.touch p.touch.syncs w)
      | inr w ↦ inr (wider (λ (x : Access). (x.word ≡ c.word) × (x.writes ≡ true)) q.touch q.touch.syncs w)
    ];
  };
}

sync_again : (m k j l : ℕ) (p q : Accessing) → IsConflict (sync_point m p) (sync_point k q) → IsConflict (sync_point j p) (sync_point l q)
sync_again m k j l p q c = record { apart = c.apart; word = c.word; meet = record { first = c.meet.first; second = c.meet.second; written = c.meet.written } }

meet_again : (word m k j l : ℕ) (p q : Accessing) → MeetAt word (whole_point m p) (whole_point k q) → MeetAt word (whole_point j p) (whole_point l q)
meet_again word m k j l p q c = record { first = c.first; second = c.second; written = c.written }

again : (m k j l : ℕ) (p q : Accessing) → IsConflict (whole_point m p) (whole_point k q) → IsConflict (whole_point j p) (whole_point l q)
again m k j l p q c = record { apart = c.apart; word = c.word; meet = meet_again c.word m k j l p q c.meet }

flip : (m k : ℕ) (p q : Accessing) → IsConflict (whole_point m p) (whole_point k q) → IsConflict (whole_point k q) (whole_point m p)
flip m k p q c = record {
  apart = λ e. c.apart (sym e);
  word = c.word;
  meet = record { first = c.meet.second; second = c.meet.first; written = elim c.meet.written [ inl w ↦ inr w | inr w ↦ inl w ] };
}

-- the point that a sync point is made of
record IsMadeOf (a m : ℕ) (run : List Accessing) (s : Point) : Type 0 where
  pub point : Accessing
  pub at : slice_get run m ≡ Some point
  pub is : s ≡ sync_point (a + m) point

made_of : (a : ℕ) (run : List Accessing) (m : ℕ) (s : Point) → slice_get (syncs_from a run) m ≡ Some s → IsMadeOf a m run s
made_of a [] m s e = absurd cc
made_of a (q ∷ qs) zero s e =
    let same : a ≡ a + 0 = omega arith in
    record { point = q; at = refl; is = sym (some_is (sync_point a q) s (Some (sync_point a q)) refl e) ∙ ap (λ (k : ℕ). sync_point k q) same }
made_of a (q ∷ qs) (suc m) s e =
    let same : suc a + m ≡ a + suc m = omega arith in
    let r = made_of (suc a) qs m s e in
    record { point = r.point; at = r.at; is = r.is ∙ ap (λ (k : ℕ). sync_point k r.point) same }

-- ---- lists with the points of another

module _ (harts : ℕ) (run other : List Accessing) (counted : AreCounted harts run) (others : AreCounted harts other) (alike : AreAlike run other) where
  -- points of a hart stand in the other list by their counts too
  by_count : (j l : ℕ) (p q : Accessing) → slice_get other j ≡ Some p → slice_get other l ≡ Some q → p.hart ≡ q.hart → p.row.ic < q.row.ic → j < l
  by_count j l p q at to same low = elim (order_of j l) [
    | inl up ↦ up
    | inr (inl is) ↦ (let one_point : p ≡ q = some_is p q (slice_get other l) (subst (λ (k : ℕ). slice_get other k ≡ Some p) is at) to in
        let ics : p.row.ic ≡ q.row.ic = ap (λ (z : Accessing). z.row.ic) one_point in absurd (omega (arith, ics, low)))
    | inr (inr down) ↦ (let up = others.rise l j q p to at (sym same) down in absurd (omega (arith, up, low)))
  ]

  -- a step and its points, in the other list
  record IsOver (j n : ℕ) : Type 0 where
    pub place : ℕ
    pub point : Accessing
    pub here : slice_get run n ≡ Some point
    pub there : slice_get other place ≡ Some point
    pub step : Either (ProgramOrder (syncs_from 0 other)) (Conflict (syncs_from 0 other)) j place

  module _ (m k j : ℕ) (p : Accessing) (here : slice_get run m ≡ Some p) (there : slice_get other j ≡ Some p) where
    own_over : ProgramOrder (syncs_from 0 run) m k → IsOver j k
    own_over a =
        let x = made_of 0 run m a.first a.first_at in
        let y = made_of 0 run k a.second a.second_at in
        let same : p ≡ x.point = some_is p x.point (slice_get run m) here x.at in
        let harts_same : p.hart ≡ y.point.hart = ap (λ (z : Accessing). z.hart) same ∙ (sym (ap (λ (s : Point). s.hart) x.is) ∙ (a.related ∙ ap (λ (s : Point). s.hart) y.is)) in
        let t = alike.there k y.point y.at in
        let up = by_count j t.0 p y.point there t.1 harts_same (counted.rise m k p y.point here y.at harts_same a.earlier) in
        record {
          place = t.0;
          point = y.point;
          here = y.at;
          there = t.1;
          step = inl (record { earlier = up; first = sync_point (0 + j) p; second = sync_point (0 + t.0) y.point; first_at = syncs_at 0 other j p there; second_at = syncs_at 0 other t.0 y.point t.1; related = harts_same });
        }

    across : Conflict (syncs_from 0 run) m k → IsOver j k
    across a =
        let x = made_of 0 run m a.first a.first_at in
        let y = made_of 0 run k a.second a.second_at in
        let same : x.point ≡ p = some_is x.point p (slice_get run m) x.at here in
        let first_is : a.first ≡ sync_point (0 + m) p = x.is ∙ ap (sync_point (0 + m)) same in
        let c : IsConflict (sync_point (0 + m) p) (sync_point (0 + k) y.point) =
        subst (λ (s : Point). IsConflict s (sync_point (0 + k) y.point)) first_is (subst (λ (s : Point). IsConflict a.first s) y.is a.related) in
        let t = alike.there k y.point y.at in
        let up = alike.order m k j t.0 p y.point here y.at there t.1 (wide (0 + m) (0 + k) m k p y.point c) a.earlier in
        record {
          place = t.0;
          point = y.point;
          here = y.at;
          there = t.1;
          step = inr (record {
            earlier = up;
            first = sync_point (0 + j) p;
            second = sync_point (0 + t.0) y.point;
            first_at = syncs_at 0 other j p there;
            second_at = syncs_at 0 other t.0 y.point t.1;
            related = sync_again (0 + m) (0 + k) (0 + j) (0 + t.0) p y.point c;
          });
        }

    step_over : Either (ProgramOrder (syncs_from 0 run)) (Conflict (syncs_from 0 run)) m k → IsOver j k
    step_over (inl a) = own_over a
    step_over (inr a) = across a

  -- a chain and its points
  record IsLed (j n : ℕ) : Type 0 where
    pub place : ℕ
    pub point : Accessing
    pub here : slice_get run n ≡ Some point
    pub there : slice_get other place ≡ Some point
    pub chain : IsOrdered other j place

  chain_over : {m n : ℕ} (j : ℕ) (p : Accessing) → slice_get run m ≡ Some p → slice_get other j ≡ Some p → IsOrdered run m n → IsLed j n
  chain_over {m = m} {n = n} j p here there (one s) = let x = step_over m n j p here there s in record { place = x.place; point = x.point; here = x.here; there = x.there; chain = one x.step }
  chain_over {m = m} {n = n} j p here there (more {k = k} c s) =
      let x = chain_over j p here there c in
      let y = step_over k n x.place x.point x.here x.there s in
      record { place = y.place; point = y.point; here = y.here; there = y.there; chain = more x.chain y.step }

  -- a point stands in the other list once
  once : (j l : ℕ) (p : Accessing) → slice_get other j ≡ Some p → slice_get other l ≡ Some p → j ≡ l
  once j l p at to = elim (order_of j l) [
    | inl up ↦ (let low = others.rise j l p p at to refl up in absurd (omega (arith, low)))
    | inr (inl is) ↦ is
    | inr (inr down) ↦ (let low = others.rise l j p p to at refl down in absurd (omega (arith, low)))
  ]

  ordered_over : (m n j k : ℕ) (p q : Accessing) → slice_get run m ≡ Some p → slice_get run n ≡ Some q → slice_get other j ≡ Some p → slice_get other k ≡ Some q → IsOrdered run m n → IsOrdered other j k
  ordered_over m n j k p q at to there then_at c =
      let x = chain_over j p at there c in
      let same : x.point ≡ q = some_is x.point q (slice_get run n) x.here to in
      subst (λ (l : ℕ). IsOrdered other j l) (once x.place k q (subst (λ (z : Accessing). slice_get other x.place ≡ Some z) same x.there) then_at) x.chain

alike_back : (harts : ℕ) (run other : List Accessing) → AreCounted harts run → AreAlike run other → AreAlike other run
alike_back harts run other counted alike = record {
  there = alike.back;
  back = alike.there;
  order = λ j k m n p q at to here then_at c low. elim (order_of m n) [
    | inl up ↦ up
    | inr (inl is) ↦ absurd (c.apart (ap (λ (z : Accessing). z.hart) (some_is p q (slice_get run n) (subst (λ (l : ℕ). slice_get run l ≡ Some p) is here) then_at)))
    | inr (inr down) ↦ (let back = alike.order n m k j q p then_at here to at (again k j n m q p (flip j k p q c)) down in absurd (omega (arith, back, low)))
  ];
}

race_over : (harts : ℕ) (run other : List Accessing) → AreCounted harts run → AreCounted harts other → AreAlike run other → (r : Race) → IsRaceOf run r → IsRaceOf other r
race_over harts run other counted others alike r i =
    let a = i.race in
    let s = alike.there i.m a.first a.first_at in
    let t = alike.there i.n a.second a.second_at in
    let first_same : i.first ≡ a.first = some_is i.first a.first (slice_get run i.m) i.first_at a.first_at in
    let second_same : i.second ≡ a.second = some_is i.second a.second (slice_get run i.n) i.second_at a.second_at in
    let back = alike_back harts run other counted alike in
    record {
      m = s.0;
      n = t.0;
      word = i.word;
      race = record {
        earlier = alike.order i.m i.n s.0 t.0 a.first a.second a.first_at a.second_at s.1 t.1 a.conflict a.earlier;
        first = a.first;
        second = a.second;
        first_at = s.1;
        second_at = t.1;
        conflict = again i.m i.n s.0 t.0 a.first a.second a.conflict;
        unordered = λ c. a.unordered (ordered_over harts other run others counted back s.0 t.0 i.m i.n a.first a.second s.1 t.1 a.first_at a.second_at c);
        word_is = record {
          meet = meet_again i.word i.m i.n s.0 t.0 a.first a.second a.word_is.meet;
          lowest = λ w meet. a.word_is.lowest w (meet_again w s.0 t.0 i.m i.n a.first a.second meet);
        };
      };
      first = a.first;
      second = a.second;
      first_at = s.1;
      second_at = t.1;
      is = i.is ∙ (ap (λ (p : Accessing). record { first = p.row; second = i.second.row; word = i.word }) first_same ∙ ap (λ (q : Accessing). record { first = a.first.row; second = q.row; word = i.word }) second_same);
    }

-- ---- ascending lists with the same races

row_not : (r s : Row) → IsRowBefore r s → IsRowBefore s r → ⊥
row_not r s (inl a) (inl b) = omega (arith, a, b)
row_not r s (inl a) (inr b) = let e = b.0 in omega (arith, a, e)
row_not r s (inr a) (inl b) = let e = a.0 in omega (arith, b, e)
row_not r s (inr a) (inr b) = let e = a.1 in let f = b.1 in omega (arith, e, f)

row_same : (r s : Row) → r.hart ≡ s.hart → r.ic ≡ s.ic → IsRowBefore r s → ⊥
row_same r s e f (inl a) = omega (arith, a, e)
row_same r s e f (inr a) = let low = a.1 in omega (arith, low, f)

race_not : (x y : Race) → IsRaceBefore x y → IsRaceBefore y x → ⊥
race_not x y (inl a) (inl b) = row_not x.first y.first a b
race_not x y (inl a) (inr b) = row_same x.first y.first (sym b.0) (sym b.1) a
race_not x y (inr a) (inl b) = row_same y.first x.first (sym a.0) (sym a.1) b
race_not x y (inr a) (inr b) = row_not x.second y.second a.2 b.2

same_lists : (xs ys : List Race) → Ascend xs → Ascend ys → ((r : Race) → In xs r → In ys r) → ((r : Race) → In ys r → In xs r) → xs ≡ ys
same_lists [] [] a b f g = refl
same_lists [] (y ∷ ys) a b f g = absurd (g y (inl refl))
same_lists (x ∷ xs) [] a b f g = absurd (f x (inl refl))
same_lists (x ∷ xs) (y ∷ ys) a b f g =
    let same : x ≡ y = heads (f x (inl refl)) (g y (inl refl)) in
    ap (λ (z : Race). z ∷ xs) same ∙ ap (λ (zs : List Race). y ∷ zs) (same_lists xs ys a.1 b.1 (λ r i. rest_of y ys r (λ e. race_not x x (self x r (same ∙ e) (a.0 r i)) (self x r (same ∙ e) (a.0 r i))) (f r (inr i)))
    (λ r i. rest_of x xs r (λ e. race_not y y (self y r (sym same ∙ e) (b.0 r i)) (self y r (sym same ∙ e) (b.0 r i))) (g r (inr i))))
  where
    heads : In (y ∷ ys) x → In (x ∷ xs) y → x ≡ y
    heads (inl e) i = sym e
    heads (inr i) (inl e) = e
    heads (inr i) (inr j) = absurd (race_not x y (a.0 y j) (b.0 x i))

    self : (z r : Race) → z ≡ r → IsRaceBefore z r → IsRaceBefore z z
    self z r e l = subst (λ (u : Race). IsRaceBefore z u) (sym e) l

    rest_of : (z : Race) (zs : List Race) (r : Race) → (z ≡ r → ⊥) → In (z ∷ zs) r → In zs r
    rest_of z zs r not (inl e) = absurd (not e)
    rest_of z zs r not (inr i) = i

pub races_go_by_conflicts : RacesAreListed → RacesAscend → RacesGoByConflicts
races_go_by_conflicts listed ascend harts run other counted others own alike =
    same_lists (races_of harts run) (races_of harts other) (ascend harts run counted own) (ascend harts other others (λ j p at. (let m = alike.back j p at in own m.0 p m.1)))
    (λ r i. (listed harts other others r).1 (race_over harts run other counted others alike r ((listed harts run counted r).0 i)))
    (λ r i. (listed harts run counted r).1 (race_over harts other run others counted (alike_back harts run other counted alike) r ((listed harts other others r).0 i)))
