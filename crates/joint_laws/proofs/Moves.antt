-- What a step of a ready hart does, and what each beginning of an allowed order keeps.
use Rattle.joint_laws.proofs.Common.{◌≡◌, ℕ, refl, subst, List, [], ◌∷◌, slice_get, slice_set, Option, Some, None, Result, Ok, Err, Program, Row, ReplayError, Outcome, Done, Refused, Readiness, Cursor, Lane, Item, Passing, Doing, Ending, row_given, cursor_step, lane_step, memory_after, Joining, Walk, longer, readiness_of, move, ready_step, walk_on, none-some, same_Some, sym, ◌∙◌}
use Rattle.joint_replay.specs.declared.kinds.Readiness.TheVariants as is

pub some_is : {X : Type 0} (x y : X) (o : Option X) → o ≡ Some x → o ≡ Some y → x ≡ y
some_is x y o e f = same_Some x y (sym e ∙ f)

-- a hart of those that there are takes its next step, and isn't refused
pub record IsMove (now : Joining) (h : ℕ) (x : Item × Joining) : Type 0 where
  pub lane : Lane
  pub at : slice_get now.lanes h ≡ Some lane
  pub taken : ready_step now h ≡ Some x
  pub ready : readiness_of now.records now.lanes h lane ≡ is.Ready
  pub next : Lane
  pub step : lane_step now.program lane ≡ Some (Ok (x.0, next))
  pub is : x.1 ≡ record now { lanes = slice_set now.lanes h next; memory = memory_after x.0 now.memory }

module _ (now : Joining) (h : ℕ) (x : Item × Joining) (goes : ready_step now h ≡ Some x) where
  abbrev only_ok : Option (Result (Item × Joining) ReplayError) → Option (Item × Joining)
  only_ok o = elim o [ None ↦ None | Some r ↦ elim r [ Err e ↦ None | Ok y ↦ Some y ] ]

  abbrev if_ready : Readiness → Option (Item × Joining) → Option (Item × Joining)
  if_ready r o = elim r [ is.Ready ↦ o | is.Waits s ic ↦ None | is.Done ↦ None ]

  abbrev unrefused : Option ReplayError → Option (Result (Item × Joining) ReplayError) → Option (Result (Item × Joining) ReplayError)
  unrefused refused o = elim refused [ Some e ↦ Some (Err e) | None ↦ o ]

  by_step : (lane : Lane) → slice_get now.lanes h ≡ Some lane → readiness_of now.records now.lanes h lane ≡ is.Ready
      → (o : Option (Result (Item × Lane) ReplayError)) → lane_step now.program lane ≡ o → only_ok (move now h o) ≡ Some x → IsMove now h x
  by_step lane at ready (Some (Ok y)) e f =
      let made : Item × Joining = (y.0, record now { lanes = slice_set now.lanes h y.1; memory = memory_after y.0 now.memory }) in
      let same : made ≡ x = some_is made x (Some made) refl f in
      record {
        lane = lane;
        at = at;
        taken = goes;
        ready = ready;
        next = y.1;
        step = subst (λ (z : Item × Joining). lane_step now.program lane ≡ Some (Ok (z.0, y.1))) same e;
        is = subst (λ (z : Item × Joining). z.1 ≡ record now { lanes = slice_set now.lanes h y.1; memory = memory_after z.0 now.memory }) same refl;
      }
  by_step lane at ready o e f = absurd (none-some x f)

  by_refusal : (lane : Lane) → slice_get now.lanes h ≡ Some lane → readiness_of now.records now.lanes h lane ≡ is.Ready
      → (refused : Option ReplayError) → only_ok (unrefused refused (move now h (lane_step now.program lane))) ≡ Some x → IsMove now h x
  by_refusal lane at ready (Some g) f = absurd (none-some x f)
  by_refusal lane at ready None f = by_step lane at ready (lane_step now.program lane) refl f

  by_ready : (lane : Lane) → slice_get now.lanes h ≡ Some lane → (r : Readiness) → readiness_of now.records now.lanes h lane ≡ r
      → if_ready r (only_ok (unrefused now.refused (move now h (lane_step now.program lane)))) ≡ Some x → IsMove now h x
  by_ready lane at is.Ready e f = by_refusal lane at e now.refused f
  by_ready lane at r e f = absurd (none-some x f)

  by_lane : (o : Option Lane) → slice_get now.lanes h ≡ o
      → if_ready (elim o as (λ y. Readiness) [ None ↦ is.Done | Some lane ↦ readiness_of now.records now.lanes h lane ])
      (only_ok (unrefused now.refused (elim o as (λ y. Option (Result (Item × Joining) ReplayError)) [ None ↦ None | Some lane ↦ move now h (lane_step now.program lane) ]))) ≡ Some x
      → IsMove now h x
  by_lane None e f = absurd (none-some x f)
  by_lane (Some lane) e f = by_ready lane e (readiness_of now.records now.lanes h lane) refl f

  pub is_move : IsMove now h x
  is_move = by_lane (slice_get now.lanes h) refl goes

-- what holds at first and is kept by each step holds of each beginning
pub along : (P : Walk → Type 0) → ((w : Walk) (h : ℕ) (x : Item × Joining) → P w → IsMove w.now h x → P (longer w h x))
    → (w : Walk) (order : List ℕ) → P w → (v : Walk) → walk_on w order ≡ Some v → P v
along P keeps w [] p v e = subst P (some_is w v (Some w) refl e) p
along P keeps w (h ∷ hs) p v e = by (ready_step w.now h) refl (λ x q f. along P keeps (longer w h x) hs q v f) e
  where
    by : (o : Option (Item × Joining)) → ready_step w.now h ≡ o → ((x : Item × Joining) → P (longer w h x) → walk_on (longer w h x) hs ≡ Some v → P v)
        → elim o as (λ y. Option Walk) [ None ↦ None | Some x ↦ walk_on (longer w h x) hs ] ≡ Some v → P v
    by None f rest g = absurd (none-some v g)
    by (Some x) f rest g = rest x (keeps w h x p (is_move w.now h x f)) g

-- ---- the three steps of a hart

pub record StepOf (i : Program) (P : Item → Lane → Type 0) (lane : Lane) : Type 0 where
  pub passing : (p : ℕ) (ps : List ℕ) → lane.points ≡ p ∷ ps → P (Passing p) (record { points = ps; cursors = lane.cursors })
  pub doing : (c : Cursor) (cs : List Cursor) (r : Row) (rs : List Row) → lane.points ≡ [] → lane.cursors ≡ c ∷ cs → c.left.rows ≡ r ∷ rs
      → P (Doing c.state r) (record { points = []; cursors = row_given i c r rs ∷ cs })
  pub ending : (c : Cursor) (cs : List Cursor) → lane.points ≡ [] → lane.cursors ≡ c ∷ cs → c.left.rows ≡ [] → c.left.outcome ≡ Done
      → P (Ending c.number c.mark) (record { points = []; cursors = cs })

module _ (i : Program) (P : Item → Lane → Type 0) (lane : Lane) (does : StepOf i P lane) (item : Item) (next : Lane) where
  done : (x : Item × Lane) → P x.0 x.1 → ◌≡◌ {A = Option (Result (Item × Lane) ReplayError)} (Some (Ok x)) (Some (Ok (item, next))) → P item next
  done x p e = subst (λ (y : Item × Lane). P y.0 y.1) (same x (item, next) e) p
    where
      same : (x y : Item × Lane) → ◌≡◌ {A = Option (Result (Item × Lane) ReplayError)} (Some (Ok x)) (Some (Ok y)) → x ≡ y
      same x y e = cc

  refuses : (g : ReplayError) → ◌≡◌ {A = Option (Result (Item × Lane) ReplayError)} (Some (Err g)) (Some (Ok (item, next))) → ⊥
  refuses g e = cc

  by_outcome : (c : Cursor) (cs : List Cursor) → lane.points ≡ [] → lane.cursors ≡ c ∷ cs → c.left.rows ≡ [] → (o : Outcome) → c.left.outcome ≡ o
      → Some (elim o as (λ y. Result (Item × Lane) ReplayError) [ Done ↦ Ok (Ending c.number c.mark, record { points = []; cursors = cs }) | Refused g ↦ Err g ]) ≡ Some (Ok (item, next)) → P item next
  by_outcome c cs e f g Done o k = done (Ending c.number c.mark, record { points = []; cursors = cs }) (does.ending c cs e f g o) k
  by_outcome c cs e f g (Refused z) o k = absurd (refuses z k)

  by_rows : (c : Cursor) (cs : List Cursor) → lane.points ≡ [] → lane.cursors ≡ c ∷ cs → (rows : List Row) → c.left.rows ≡ rows
      → Some (elim rows as (λ y. Result (Item × Lane) ReplayError) [
        | r ∷ rs ↦ Ok (Doing c.state r, record { points = []; cursors = row_given i c r rs ∷ cs })
        | [] ↦ elim c.left.outcome as (λ y. Result (Item × Lane) ReplayError) [ Done ↦ Ok (Ending c.number c.mark, record { points = []; cursors = cs }) | Refused g ↦ Err g ]
      ]) ≡ Some (Ok (item, next)) → P item next
  by_rows c cs e f [] g k = by_outcome c cs e f g c.left.outcome refl k
  by_rows c cs e f (r ∷ rs) g k = done (Doing c.state r, record { points = []; cursors = row_given i c r rs ∷ cs }) (does.doing c cs r rs e f g) k

  by_cursors : lane.points ≡ [] → (cursors : List Cursor) → lane.cursors ≡ cursors
      → elim cursors as (λ y. Option (Result (Item × Lane) ReplayError)) [ [] ↦ None | c ∷ cs ↦ Some (cursor_step i c cs) ] ≡ Some (Ok (item, next)) → P item next
  by_cursors e [] f k = absurd (none-some (Ok (item, next)) k)
  by_cursors e (c ∷ cs) f k = by_rows c cs e f c.left.rows refl k

  by_points : (points : List ℕ) → lane.points ≡ points
      → elim points as (λ y. Option (Result (Item × Lane) ReplayError)) [
        | p ∷ ps ↦ Some (Ok (Passing p, record { points = ps; cursors = lane.cursors }))
        | [] ↦ elim lane.cursors as (λ y. Option (Result (Item × Lane) ReplayError)) [ [] ↦ None | c ∷ cs ↦ Some (cursor_step i c cs) ]
      ] ≡ Some (Ok (item, next)) → P item next
  by_points [] e k = by_cursors e lane.cursors refl k
  by_points (p ∷ ps) e k = done (Passing p, record { points = ps; cursors = lane.cursors }) (does.passing p ps e) k

  -- what each of the three does, the hart's step does
  pub by_kind : lane_step i lane ≡ Some (Ok (item, next)) → P item next
  by_kind e = by_points lane.points refl e
