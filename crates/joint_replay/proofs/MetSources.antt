-- Edges whose sources are passed, the first ones into each hart.
use Rattle.joint_replay.proofs.Common.{◌≡◌, ℕ, zero, suc, ◌+◌, ◌<◌, ◌≤◌, Bool, true, false, ◌==◌, inl, inr, refl, sym, ap, ◌∙◌, subst, arith, List, [], ◌∷◌, length, map, take, drop, replicate, slice_get, slice_set, slice_index_or, Option, Some, None, eqb_tells, Program, Record, Content, IsContent, ReplayError, IncomingEdge, sources_into, Cursor, Lane, Joining, fresh, is_passed, first_waited, HartLane, bare, StartsAreSound, IsSound, edges_into, AscendFrom, lanes_of, joining, ArePassed, AreMet, IsTogether}
use Rattle.joint_replay.proofs.Ascents.{sources_at, same_sources, drop_ascends}
use Rattle.joint_replay.proofs.Choosing.{lanes_length}
use Rattle.joint_replay.proofs.JointMoves.{own_at}
use Rattle.joint_replay.proofs.LaneSteps.{steps_pass}
use Rattle.joint_replay.proofs.Soundness.{get_same, get_other, got_at, some_is}
use Rattle.joint_replay.proofs.Waiting.{IsLeft}
use Rattle.joint_replay.proofs.Walks.{walks_are_sound}

-- ---- a list of Edges

-- what is passed is waited for no more
skipped : (lanes : List Lane) (ic n : ℕ) (ss : List IncomingEdge) → ArePassed lanes (take n ss) → first_waited lanes (sources_at ic (drop n ss)) ≡ first_waited lanes (sources_at ic ss)
skipped lanes ic zero ss p = refl
skipped lanes ic (suc n) [] p = refl
skipped lanes ic (suc n) (s ∷ ss) p = skipped lanes ic n ss p.1 ∙ sym (by (s.target == ic))
  where
    by : (b : Bool) → first_waited lanes (elim b as (λ y. List (ℕ × ℕ)) [ true ↦ (s.hart, s.ic) ∷ sources_at ic ss | false ↦ sources_at ic ss ]) ≡ first_waited lanes (sources_at ic ss)
    by true = ap (λ x. elim x as (λ y. Option (ℕ × ℕ)) [ true ↦ first_waited lanes (sources_at ic ss) | false ↦ Some (s.hart, s.ic) ]) p.0
    by false = refl

one_passed : (lanes : List Lane) (n : ℕ) (ss : List IncomingEdge) (d : IncomingEdge) → n < length ss → ArePassed lanes (take n ss) → is_passed (slice_get lanes (slice_index_or ss n d).hart) (slice_index_or ss n d).ic ≡ true
    → ArePassed lanes (take (suc n) ss)
one_passed lanes n [] d low p e = absurd (omega (arith, low))
one_passed lanes zero (s ∷ ss) d low p e = (e, tt)
one_passed lanes (suc n) (s ∷ ss) d low p e = (p.0, one_passed lanes n ss d (omega (arith, low)) p.1 e)

-- one more is passed
pub more_passed : (lanes : List Lane) (n : ℕ) (ss : List IncomingEdge) (d : IncomingEdge) → n < length ss → ArePassed lanes (take n ss) → is_passed (slice_get lanes (slice_index_or ss n d).hart) (slice_index_or ss n d).ic ≡ true
    → ArePassed lanes (take (n + 1) ss)
more_passed lanes n ss d low p e = let up : suc n ≡ n + 1 = omega arith in subst (λ k. ArePassed lanes (take k ss)) up (one_passed lanes n ss d low p e)

-- if all are passed, so are as many as one likes
pub all_passed : (lanes : List Lane) (n m : ℕ) (ss : List IncomingEdge) → length ss ≤ n → ArePassed lanes (take n ss) → ArePassed lanes (take m ss)
all_passed lanes n zero ss low p = tt
all_passed lanes n (suc m) [] low p = tt
all_passed lanes zero (suc m) (s ∷ ss) low p = absurd (omega (arith, low))
all_passed lanes (suc n) (suc m) (s ∷ ss) low p = (p.0, all_passed lanes n m ss (omega (arith, low)) p.1)

still_passed : (old new : List Lane) (ss : List IncomingEdge) → ((s j : ℕ) → is_passed (slice_get old s) j ≡ true → is_passed (slice_get new s) j ≡ true) → ArePassed old ss → ArePassed new ss
still_passed old new [] stays p = tt
still_passed old new (s ∷ ss) stays p = (stays s.hart s.ic p.0, still_passed old new ss stays p.1)

-- ---- all harts

-- what was met stays so if what is passed stays so
pub still_met : (records : List Record) (old new : List HartLane) (met : List ℕ) → length new ≡ length old
    → ((s j : ℕ) → is_passed (slice_get (lanes_of old) s) j ≡ true → is_passed (slice_get (lanes_of new) s) j ≡ true) → AreMet records old met → AreMet records new met
still_met records old new met same stays m = record {
  count = m.count ∙ sym same;
  passed = λ h n e. still_passed (lanes_of old) (lanes_of new) (take n (edges_into h records)) stays (m.passed h n e);
}

zeros : (count h n : ℕ) → slice_get (replicate count 0) h ≡ Some n → n ≡ 0
zeros zero h n e = absurd cc
zeros (suc count) zero n e = let same : ◌≡◌ {A = Option ℕ} (Some 0) (Some n) = e in cc
zeros (suc count) (suc h) n e = zeros count h n e

zeros_length : (count : ℕ) → length {A = ℕ} (replicate count 0) ≡ count
zeros_length zero = refl
zeros_length (suc count) = ap suc (zeros_length count)

-- none is, to begin with
pub none_met : (records : List Record) (harts : List HartLane) (met : List ℕ) → met ≡ replicate (length harts) 0 → AreMet records harts met
none_met records harts met e = subst (AreMet records harts) (sym e) (record {
  count = zeros_length (length harts);
  passed = λ h n at. subst (λ k. ArePassed (lanes_of harts) (take k (edges_into h records))) (sym (zeros (length harts) h n at)) tt;
})

numbers_length : (ns : List ℕ) (h n : ℕ) → length (slice_set ns h n) ≡ length ns
numbers_length [] h n = refl
numbers_length (m ∷ ns) zero n = refl
numbers_length (m ∷ ns) (suc h) n = ap suc (numbers_length ns h n)

-- ---- the joint replay

module _ (i : Program) (log : Content) (count : ℕ) (hs : List HartLane) (memory : List (ℕ × ℕ)) (refused : Option ReplayError) (met : List ℕ) (now : Joining) (view : joining i log.records hs memory refused ≡ now)
    (t : IsTogether i log count hs memory refused) (m : AreMet log.records hs met) (h : ℕ) (low : h < length now.lanes) where
  size : length now.lanes ≡ length hs
  size = ap (λ (j : Joining). length j.lanes) (sym view) ∙ lanes_length hs

  pub there : h < length met
  there = let count = m.count in omega (arith, low, size, count)

  pub met_passed : (n : ℕ) → n ≡ slice_index_or met h n → ArePassed now.lanes (take n (edges_into h now.records))
  met_passed n e = subst (λ (j : Joining). ArePassed j.lanes (take n (edges_into h j.records))) view (m.passed h n (got_at met h n there e))

  -- the Edges that are looked up are those into the hart
  pub edges_are : (l : HartLane) (ss : List IncomingEdge) → l ≡ slice_index_or hs h l → ss ≡ edges_into l.hart l.records → ss ≡ edges_into h now.records
  edges_are l ss value e =
      let own = own_at i log.records 0 h hs l t.own (got_at hs h l (omega (arith, low, size)) value) in
      let number : l.hart ≡ h = omega (arith, own.2) in
      e ∙ ap (λ (rs : List Record). edges_into l.hart rs) (own.1 ∙ ap (λ (j : Joining). j.records) view) ∙ ap (λ k. edges_into k now.records) number

  -- a hart waits for none of those that it met
  pub waits_from : (ic : ℕ) (l : HartLane) (ss : List IncomingEdge) (n : ℕ) → l ≡ slice_index_or hs h l → ss ≡ edges_into l.hart l.records → AscendFrom 0 ss → n ≡ slice_index_or met h n
      → IsLeft now.lanes ic (sources_into now.records h ic) (drop n ss)
  waits_from ic l ss n value e ascend at =
      let same = edges_are l ss value e in record {
        waited = skipped now.lanes ic n ss (subst (λ (xs : List IncomingEdge). ArePassed now.lanes (take n xs)) (sym same) (met_passed n at))
            ∙ ap (λ (xs : List IncomingEdge). first_waited now.lanes (sources_at ic xs)) same ∙ sym (ap (first_waited now.lanes) (same_sources h ic now.records));
        order = (0, drop_ascends 0 n ss ascend);
      }

  -- more of them are met
  pub met_more : (old n : ℕ) → old ≡ slice_index_or met h old → ArePassed now.lanes (take n (edges_into h now.records)) → AreMet log.records hs (slice_set met h n)
  met_more old n at p = record {
    count = numbers_length met h n ∙ m.count;
    passed = λ k x e. elim (eqb_tells h k) [
      | inl same ↦
          let is : n ≡ x = some_is n x (slice_get (slice_set met h n) h) (get_same met h old n (got_at met h old there at)) (subst (λ y. slice_get (slice_set met h n) y ≡ Some x) (sym same.1) e) in
          subst (λ y. ArePassed (lanes_of hs) (take y (edges_into k log.records))) is
          (subst (λ y. ArePassed (lanes_of hs) (take n (edges_into y log.records))) same.1 (subst (λ (j : Joining). ArePassed j.lanes (take n (edges_into h j.records))) (sym view) p))
      | inr apart ↦ m.passed k x (sym (get_other met h k n apart.1) ∙ e)
    ];
  }

-- if no step was refused, the sources of passed targets are passed
pub is_sound : StartsAreSound → (i : Program) (log : Content) (count : ℕ) (hs : List HartLane) (memory : List (ℕ × ℕ)) (refused : Option ReplayError) (now : Joining) → joining i log.records hs memory refused ≡ now → now.refused ≡ None
    → IsContent log → IsTogether i log count hs memory refused → IsSound now
is_sound law i log count hs memory refused now view none c t =
    let harts : log.head.settings.harts ≡ length hs = t.number ∙ t.count_is in
    let limit = c.settings.limit_high in
    let start : IsSound (fresh i (length hs) log.records) = subst (λ n. IsSound (fresh i n log.records)) harts (law i log.head.settings log.dropped log.records (omega (arith, limit)) c.order) in
    subst IsSound (t.reached.whole (ap (λ (j : Joining). j.refused) view ∙ none) ∙ view) (walks_are_sound steps_pass i (length hs) log.records t.reached.order t.reached.walk start t.reached.begun)

-- ---- a step that is out of memory passes nothing

bare_passed : (lane : Lane) (j : ℕ) → is_passed (Some (bare lane)) j ≡ is_passed (Some lane) j
bare_passed lane j = by lane.points lane.cursors
  where
    by : (ps : List ℕ) (cs : List Cursor) → is_passed (Some (bare (record { points = ps; cursors = cs }))) j ≡ is_passed (Some (record { points = ps; cursors = cs })) j
    by (p ∷ ps) cs = refl
    by [] [] = refl
    by [] (c ∷ cs) = refl

all_bare : (ls : List Lane) (s j : ℕ) → is_passed (slice_get (map bare ls) s) j ≡ is_passed (slice_get ls s) j
all_bare [] s j = refl
all_bare (l ∷ ls) zero j = bare_passed l j
all_bare (l ∷ ls) (suc s) j = all_bare ls s j

pub bare_stays : (old new : List Lane) → map bare new ≡ map bare old → (s j : ℕ) → is_passed (slice_get old s) j ≡ true → is_passed (slice_get new s) j ≡ true
bare_stays old new e s j p = sym (all_bare new s j) ∙ ap (λ (ls : List Lane). is_passed (slice_get ls s) j) e ∙ all_bare old s j ∙ p
