-- Ready harts step, and a run with the lowest ready hart first goes to the end.
use Rattle.joint_laws.proofs.Common.{◌≡◌, ℕ, zero, suc, ◌+◌, ◌<◌, refl, sym, ap, ◌∙◌, subst, arith, List, [], ◌∷◌, ◌++◌, length, slice_get, slice_set, Option, Some, None, Result, Ok, Err, Program, Row, Record, ReplayError, Outcome, Done, Refused, Coming, Readiness, Next, Hart, AllDone, NoneReady, sources_into, Cursor, Lane, Item, Passing, Doing, Ending, row_given, coming_of, point_of, lane_step, cursors_steps, lane_steps, memory_after, Joining, Walk, Ran, begun, longer, readiness, readiness_of, waits_for, first_waited, choice, next_step, move, error_of, ran, run_for, steps_left, positions_from, ready_step, walk_on, IsBegun, Recording, IsLogOf, Allowed, OfBeginnings, begin, GoesOn, RanToTheEnd, RunsToTheEnd, EndsSuffice, IntervalRowsAreOfTurns}
use Rattle.joint_replay.specs.declared.error.JointError.TheVariants.{Stuck}
use Rattle.joint_replay.specs.declared.kinds.Readiness.TheVariants as is
use Rattle.joint_laws.proofs.Moves.{IsMove, StepOf, by_kind, is_move, some_is}
use Rattle.joint_laws.proofs.Follows.{AreOf, IsFollowed, follows}
use Rattle.joint_replay.proofs.Telling.{chosen_ready}

-- ---- a hart with something to come has a step

abbrev HasStep : Program → Lane → Type 0
HasStep i lane = (x : Item × Lane) × (lane_step i lane ≡ Some (Ok x))

module _ (i : Program) where
  outcome_steps : (c : Cursor) (cs : List Cursor) (o : Outcome) → o ≡ Done
      → (x : Item × Lane) × (elim o as (λ y. Result (Item × Lane) ReplayError) [ Done ↦ Ok (Ending c.number c.mark, record { points = []; cursors = cs }) | Refused g ↦ Err g ] ≡ Ok x)
  outcome_steps c cs Done e = ((Ending c.number c.mark, record { points = []; cursors = cs }), refl)
  outcome_steps c cs (Refused g) e = absurd cc

  rows_step : (c : Cursor) (cs : List Cursor) (rows : List Row) → c.left.outcome ≡ Done
      → (x : Item × Lane) × (elim rows as (λ y. Result (Item × Lane) ReplayError) [
        | r ∷ rs ↦ Ok (Doing c.state r, record { points = []; cursors = row_given i c r rs ∷ cs })
        | [] ↦ elim c.left.outcome as (λ y. Result (Item × Lane) ReplayError) [ Done ↦ Ok (Ending c.number c.mark, record { points = []; cursors = cs }) | Refused g ↦ Err g ]
      ] ≡ Ok x)
  rows_step c cs [] e = outcome_steps c cs c.left.outcome e
  rows_step c cs (r ∷ rs) e = ((Doing c.state r, record { points = []; cursors = row_given i c r rs ∷ cs }), refl)

  abbrev AreDone : List Cursor → Type 0
  AreDone [] = Unit {0}
  AreDone (c ∷ cs) = (c.left.outcome ≡ Done) × AreDone cs

  has_step : (points : List ℕ) (cursors : List Cursor) → AreDone cursors → (c : Coming) → coming_of (record { points = points; cursors = cursors }) ≡ Some c → HasStep i (record { points = points; cursors = cursors })
  has_step (p ∷ ps) cursors d c e = ((Passing p, record { points = ps; cursors = cursors }), refl)
  has_step [] [] d c e = absurd cc
  has_step [] (x ∷ cs) d c e = let s = rows_step x cs x.left.rows d.0 in (s.0, ap (λ (y : Result (Item × Lane) ReplayError). Some y) s.1)

  -- a step lowers what is left
  abbrev Lower : Lane → Item → Lane → Type 0
  Lower lane item next = lane_steps next + 1 ≡ lane_steps lane

  lowers : (lane : Lane) → StepOf i (Lower lane) lane
  lowers lane = record {
    passing = λ p ps e. (let n : length lane.points ≡ suc (length ps) = ap length e in omega (arith, n));
    doing = λ c cs r rs e f g. (let n : length lane.points ≡ 0 = ap length e in
        let m : cursors_steps lane.cursors ≡ length c.left.rows + 1 + cursors_steps cs = ap cursors_steps f in
        let k : length c.left.rows ≡ suc (length rs) = ap length g in
        omega (arith, n, m, k));
    ending = λ c cs e f g d. (let n : length lane.points ≡ 0 = ap length e in
        let m : cursors_steps lane.cursors ≡ length c.left.rows + 1 + cursors_steps cs = ap cursors_steps f in
        let k : length c.left.rows ≡ 0 = ap length g in
        omega (arith, n, m, k));
  }

are_done : (r : Recording) (records : List Record) (i : Program) (h : ℕ) (cs : List Cursor) → AreOf r records h cs → AreDone i cs
are_done r records i h [] a = tt
are_done r records i h (c ∷ cs) a = (a.0.done, are_done r records i h cs a.1)

not_ready : is.Done ≡ is.Ready → ⊥
not_ready e = cc

-- a ready hart has something to come
module _ (records : List Record) (lanes : List Lane) (h : ℕ) (lane : Lane) where
  comes : (o : Option Coming) → coming_of lane ≡ o
      → elim o as (λ y. Readiness) [ None ↦ is.Done | Some c ↦ elim (point_of lane) as (λ y. Readiness) [ None ↦ is.Ready | Some ic ↦ waits_for (first_waited lanes (sources_into records h ic)) ] ] ≡ is.Ready
      → (c : Coming) × (coming_of lane ≡ Some c)
  comes None e f = absurd (not_ready f)
  comes (Some c) e f = (c, e)

  pub ready_comes : readiness_of records lanes h lane ≡ is.Ready → (c : Coming) × (coming_of lane ≡ Some c)
  ready_comes e = comes (coming_of lane) refl e

module _ (r : Recording) (records : List Record) (w : Walk) (f : IsFollowed r records w) (h : ℕ) where
  abbrev Stepped : Type 0
  Stepped = (x : Item × Joining) × (next_step w.now h ≡ Some (Ok x))

  abbrev stepped_of : Option ReplayError → Option Lane → Option (Result (Item × Joining) ReplayError)
  stepped_of refused o = elim refused [ Some e ↦ Some (Err e) | None ↦ elim o [ None ↦ None | Some lane ↦ move w.now h (lane_step w.now.program lane) ] ]

  of_lane : (o : Option Lane) → slice_get w.now.lanes h ≡ o
      → elim o as (λ y. Readiness) [ None ↦ is.Done | Some lane ↦ readiness_of w.now.records w.now.lanes h lane ] ≡ is.Ready → Stepped
  of_lane None e k = absurd (not_ready k)
  of_lane (Some lane) e k =
      let c = ready_comes w.now.records w.now.lanes h lane k in
      let s : HasStep w.now.program lane = has_step w.now.program lane.points lane.cursors (are_done r records w.now.program h lane.cursors (f.cursors h lane e)) c.0 c.1 in
      let made : Item × Joining = (s.0.0, record w.now { lanes = slice_set w.now.lanes h s.0.1; memory = memory_after s.0.0 w.now.memory }) in
      (made, ap (λ o. stepped_of o (slice_get w.now.lanes h)) f.refused ∙ (ap (stepped_of None) e ∙ ap (move w.now h) s.1))

  pub steps : readiness w.now h ≡ is.Ready → Stepped
  steps e = of_lane (slice_get w.now.lanes h) refl e

-- ---- a run

less : (lanes : List Lane) (h : ℕ) (lane next : Lane) → slice_get lanes h ≡ Some lane → lane_steps next + 1 ≡ lane_steps lane → steps_left (slice_set lanes h next) + 1 ≡ steps_left lanes
less [] h lane next e low = absurd cc
less (l ∷ ls) zero lane next e low = let same : lane_steps l ≡ lane_steps lane = ap lane_steps (some_is l lane (Some l) refl e) in omega (arith, same, low)
less (l ∷ ls) (suc h) lane next e low = let rest = less ls h lane next e low in omega (arith, rest)

walk_added : (w v : Walk) (order : List ℕ) (h : ℕ) (x : Item × Joining) → walk_on w order ≡ Some v → ready_step v.now h ≡ Some x → walk_on w (order ++ h ∷ []) ≡ Some (longer v h x)
walk_added w v [] h x e f =
    ap (λ (a : Walk). walk_on a (h ∷ [])) (some_is w v (Some w) refl e) ∙ ap (λ (o : Option (Item × Joining)). elim o as (λ y. Option Walk) [ None ↦ None | Some y ↦ Some (longer v h y) ]) f
walk_added w v (k ∷ order) h x e f = by (ready_step w.now k) (λ y g. walk_added (longer w k y) v order h x g f) e
  where
    by : (o : Option (Item × Joining)) → ((y : Item × Joining) → walk_on (longer w k y) order ≡ Some v → walk_on (longer w k y) (order ++ h ∷ []) ≡ Some (longer v h x))
        → (elim o as (λ y. Option Walk) [ None ↦ None | Some y ↦ walk_on (longer w k y) order ]) ≡ Some v
        → (elim o as (λ y. Option Walk) [ None ↦ None | Some y ↦ walk_on (longer w k y) (order ++ h ∷ []) ]) ≡ Some (longer v h x)
    by None rest g = absurd cc
    by (Some y) rest g = rest y g

module _ (r : Recording) (records : List Record) (log : IsLogOf r records) (go : OfBeginnings GoesOn) (follow : OfBeginnings IsFollowed) where
  abbrev Ends : Ran → Type 0
  Ends x = (order : List ℕ) × Allowed r records order x.walk × (x.stopped ≡ None)

  abbrev after_choice : ℕ → Walk → Next → Ran
  after_choice n w o = elim o [
    | AllDone ↦ ran w None
    | NoneReady ↦ ran w (Some (Stuck (positions_from 0 w.now.lanes)))
    | Hart h ↦ elim (next_step w.now h) [
      | None ↦ ran w None
      | Some s ↦ elim s [ Err e ↦ ran (record w { now = record w.now { refused = Some e } }) (Some (error_of e)) | Ok x ↦ run_for n (longer w h x) ]
    ]
  ]

  -- a joint replay that was refused repeats that
  abbrev after_refusal : ℕ → Walk → Option ReplayError → Ran
  after_refusal n w o = elim o [ Some e ↦ ran w (Some (error_of e)) | None ↦ after_choice n w (choice w.now) ]

  runs : (n : ℕ) (w : Walk) (order : List ℕ) → IsBegun r.program r.settings.harts records order w → steps_left w.now.lanes < n → Ends (run_for n w)
  runs zero w order b low = absurd (omega (arith, low))
  runs (suc n) w order b low =
      let none : w.now.refused ≡ None = (follow r records order w log b).refused in
      subst (λ (o : Option ReplayError). Ends (after_refusal n w o)) (sym none) (by (choice w.now) refl (λ v os c up. runs n v os c up))
    where
      hart : (h : ℕ) → choice w.now ≡ Hart h → ((v : Walk) (os : List ℕ) → IsBegun r.program r.settings.harts records os v → steps_left v.now.lanes < n → Ends (run_for n v)) → Ends (after_choice n w (Hart h))
      hart h e rest =
          let ready : readiness w.now h ≡ is.Ready = chosen_ready w.now h e in
          let s = steps r records w (follow r records order w log b) h ready in
          let taken : ready_step w.now h ≡ Some s.0 =
          ap (λ (o : Readiness). elim o as (λ y. Option (Item × Joining)) [ is.Ready ↦ elim (next_step w.now h) as (λ y. Option (Item × Joining)) [ None ↦ None | Some x ↦ elim x as (λ y. Option (Item × Joining)) [ Err g ↦ None | Ok y ↦ Some y ] ] | is.Waits s ic ↦ None | is.Done ↦ None ]) ready
          ∙ ap (λ (o : Option (Result (Item × Joining) ReplayError)). elim o as (λ y. Option (Item × Joining)) [ None ↦ None | Some x ↦ elim x as (λ y. Option (Item × Joining)) [ Err g ↦ None | Ok y ↦ Some y ] ]) s.1 in
          let m : IsMove w.now h s.0 = is_move w.now h s.0 taken in
          let lower : lane_steps m.next + 1 ≡ lane_steps m.lane = by_kind w.now.program (Lower w.now.program m.lane) m.lane (lowers w.now.program m.lane) s.0.0 m.next m.step in
          let fewer : steps_left (slice_set w.now.lanes h m.next) + 1 ≡ steps_left w.now.lanes = less w.now.lanes h m.lane m.next m.at lower in
          let same : steps_left s.0.1.lanes ≡ steps_left (slice_set w.now.lanes h m.next) = ap (λ (j : Joining). steps_left j.lanes) m.is in
          let next : Ends (run_for n (longer w h s.0)) =
          rest (longer w h s.0) (order ++ h ∷ []) (record { allowed = walk_added (begun (begin r records)) w order h s.0 b.allowed taken }) (omega (arith, low, fewer, same)) in
          subst (λ (o : Option (Result (Item × Joining) ReplayError)). Ends (elim o as (λ y. Ran) [
            | None ↦ ran w None
            | Some s ↦ elim s as (λ y. Ran) [ Err e ↦ ran (record w { now = record w.now { refused = Some e } }) (Some (error_of e)) | Ok x ↦ run_for n (longer w h x) ]
          ])) (sym s.1) next

      by : (o : Next) → choice w.now ≡ o → ((v : Walk) (os : List ℕ) → IsBegun r.program r.settings.harts records os v → steps_left v.now.lanes < n → Ends (run_for n v)) → Ends (after_choice n w o)
      by AllDone e rest = (order, record { begun = b; whole = e }, refl)
      by NoneReady e rest = absurd (go r records order w log b e)
      by (Hart h) e rest = hart h e rest

  to_the_end : RanToTheEnd r records
  to_the_end =
      let low : steps_left (begin r records).lanes < steps_left (begin r records).lanes + 1 = omega arith in
      let x = runs (steps_left (begin r records).lanes + 1) (begun (begin r records)) [] (record { allowed = refl }) low in
      record { order = x.0; allowed = x.1; stopped = x.2 }

pub run_to_the_end : OfBeginnings GoesOn → EndsSuffice → IntervalRowsAreOfTurns → RunsToTheEnd
run_to_the_end go suffice rows_are r records log = to_the_end r records log go (follows suffice rows_are)
