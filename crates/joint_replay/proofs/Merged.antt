-- Each walk is a merge of the harts' lists, and each merge that the kept Edges allow is a walk.
use Rattle.joint_replay.proofs.Common.{◌≡◌, ℕ, zero, suc, ◌+◌, ◌<◌, ◌≤◌, ◌^◌, Bool, true, false, ◌==◌, ◌⊎◌, inl, inr, nat_lt, refl, sym, ap, ◌∙◌, subst, arith, List, [], ◌∷◌, ◌++◌, append_assoc, map, reverse, length, slice_get, Option, Some, None, Result, Ok, Err, ◌↔◌, eqb_tells, append-nil, reverse-append, Program, Record, Content, IsContent, ReplayError, Coming, Readiness, intervals_in, first_count, is_below, ordering_points, Lane, Item, Passing, lane_of, coming_of, point_of, lane_step, Joining, Taken, Walk, begun, longer, fresh, lanes_from, is_passed, readiness_of, readiness, coming, HartLane, joining, IsTogether, IsReached, IsBegun, IsAllowed, ready_step, walk_on, Has, InCursors, IsOn, Passes, PassesIf, HasEdge, IsSound, StepsPass, StartsAreSound, own, harts_of, steps_of, one_more, items_of, AreUnrefused, IsFront, IsAt, Stands, IsMerge, IsWhole, IsPassed, IsRefusedAt, point_at, AreMerges, IsReadyThere, IsChosenThere, Admits, IsAtMerge, AreSources, SourcesAreThere, WalksAreMerges, ReadyIsAdmitted, PassedIsStanding, cases_lt, le-ltb, lt-ltb, none-some, true≢false}
use Rattle.joint_replay.specs.declared.kinds.Readiness.TheVariants as is
use Rattle.joint_replay.proofs.Soundness.{get_same, get_other, some_is, sources_passed, stays, after_sound}
use Rattle.joint_replay.proofs.Walks.{undone, passed_lower}
use Rattle.joint_replay.proofs.PointLists.{sources as source_points}
use Rattle.joint_replay.proofs.Begins.{unpassed}
use Rattle.joint_replay.proofs.Descent.{is_ready as is_ready_now, is_none, all_wait}
use Rattle.joint_replay.proofs.Telling.{chosen_ready}
use Rattle.joint_replay.proofs.Choosing.{lanes_length}
use Rattle.joint_replay.proofs.Items.{lane_items, first_items, AreDone, first_done, Tells, TellsIf, tells, step_comes, comes_step, nothing_left, nothing_comes, point_comes}
use Rattle.joint_replay.proofs.Merging.{get_next, get_last, stands_low, stands_more, stands_back, own_append, own_first, own_other, cancel, heads, no_items, ready_if, ready_comes, stepped, Steps, steps_by, steps_so, readied, next_is, chosen_none, none_chosen, lower_waits}

-- ---- what holds at each time

abbrev left_of : Program → Option Lane → List Item
left_of i None = []
left_of i (Some lane) = lane_items i lane

abbrev pub done_of : Option Lane → Type 0
done_of None = Unit {0}
done_of (Some lane) = AreDone lane.cursors

-- what is so of all harts from the start on: their lists, whether no replay is refused, and the instructions on their ways
pub record Start : Type 1 where
  pub records : List Record
  pub all : ℕ → List Item
  pub unrefused : ℕ → Type 0
  pub on : ℕ → ℕ → Type 0

-- each source of an Edge is on its way
abbrev pub HasSources : Start → Type 0
HasSources start = (h ic s j : ℕ) → HasEdge start.records h ic s j → start.on s j

-- a joint replay after these steps, first step first: what each hart did and has left is its list, and the instructions
-- that are passed are those that stand in the steps
pub record Follows (start : Start) (now : Joining) (steps : List Taken) : Type 0 where
  pub sound : IsSound now
  pub records_are : now.records ≡ start.records
  pub unrefused : now.refused ≡ None
  pub merge : (h : ℕ) → own h steps ++ left_of now.program (slice_get now.lanes h) ≡ start.all h
  pub ends : (h : ℕ) → done_of (slice_get now.lanes h) ↔ start.unrefused h
  pub ways : (s j : ℕ) → start.on s j → (lane : Lane) × (slice_get now.lanes s ≡ Some lane) × IsOn lane j
  pub told : (s j : ℕ) → start.on s j → is_passed (slice_get now.lanes s) j ≡ true → (x : ℕ) × Stands steps x s j
  pub done : (x s j : ℕ) → Stands steps x s j → is_passed (slice_get now.lanes s) j ≡ true
  pub after : (y h ic s j : ℕ) → Stands steps y h ic → HasEdge start.records h ic s j → (x : ℕ) × Stands steps x s j × (x < y)

-- ---- a step

module _ (start : Start) (from : HasSources start) (now : Joining) (steps : List Taken) (f : Follows start now steps) (h : ℕ) (s : Steps now h)
    (passes : Passes now.program s.lane s.item s.next) (told : Tells now.program s.lane s.item s.next) where
  abbrev new : Joining
  new = stepped now h s.item s.next

  abbrev t : Taken
  t = record { hart = h; item = s.item }

  abbrev more : List Taken
  more = one_more steps h s.item

  there : slice_get new.lanes h ≡ Some s.next
  there = get_same now.lanes h s.lane s.next s.at

  new_merge : (k : ℕ) → own k more ++ left_of now.program (slice_get new.lanes k) ≡ start.all k
  new_merge k = elim (eqb_tells h k) [
    | inl same ↦
        let own_is : own k more ≡ own k steps ++ s.item ∷ [] = own_append k steps (t ∷ []) ∙ ap (λ (xs : List Item). own k steps ++ xs) (own_first k t [] same.0) in
        let left_is : left_of now.program (slice_get new.lanes k) ≡ lane_items now.program s.next = ap (λ (n : ℕ). left_of now.program (slice_get new.lanes n)) (sym same.1) ∙ ap (left_of now.program) there in
        let was : left_of now.program (slice_get now.lanes k) ≡ s.item ∷ lane_items now.program s.next = ap (λ (n : ℕ). left_of now.program (slice_get now.lanes n)) (sym same.1) ∙ ap (left_of now.program) s.at ∙ told.items in
        ap (λ (xs : List Item). xs ++ left_of now.program (slice_get new.lanes k)) own_is ∙ ap (λ (xs : List Item). (own k steps ++ s.item ∷ []) ++ xs) left_is
        ∙ append_assoc (own k steps) (s.item ∷ []) (lane_items now.program s.next) ∙ ap (λ (xs : List Item). own k steps ++ xs) (sym was) ∙ f.merge k
    | inr apart ↦
        let own_is : own k more ≡ own k steps = own_append k steps (t ∷ []) ∙ ap (λ (xs : List Item). own k steps ++ xs) (own_other k t [] apart.0) ∙ append-nil (own k steps) in
        ap (λ (xs : List Item). xs ++ left_of now.program (slice_get new.lanes k)) own_is
        ∙ ap (λ (o : Option Lane). own k steps ++ left_of now.program o) (get_other now.lanes h k s.next apart.1) ∙ f.merge k
  ]

  new_ends : (k : ℕ) → done_of (slice_get new.lanes k) ↔ start.unrefused k
  new_ends k = elim (eqb_tells h k) [
    | inl same ↦
        let was : slice_get now.lanes k ≡ Some s.lane = subst (λ (n : ℕ). slice_get now.lanes n ≡ Some s.lane) same.1 s.at in
        let is : slice_get new.lanes k ≡ Some s.next = subst (λ (n : ℕ). slice_get new.lanes n ≡ Some s.next) same.1 there in (
          λ d. (f.ends k).0 (subst done_of (sym was) (told.done.1 (subst done_of is d))),
          λ u. subst done_of (sym is) (told.done.0 (subst done_of was ((f.ends k).1 u))),
        )
    | inr apart ↦
        let is = get_other now.lanes h k s.next apart.1 in
        (λ d. (f.ends k).0 (subst done_of is d), λ u. subst done_of (sym is) ((f.ends k).1 u))
  ]

  was_on : (a j : ℕ) → start.on a j → h ≡ a → IsOn s.lane j
  was_on a j on same =
      let was = f.ways a j on in
      subst (λ (l : Lane). IsOn l j) (some_is was.0 s.lane (slice_get now.lanes a) was.1 (subst (λ (n : ℕ). slice_get now.lanes n ≡ Some s.lane) same s.at)) was.2

  new_ways : (a j : ℕ) → start.on a j → (lane : Lane) × (slice_get new.lanes a ≡ Some lane) × IsOn lane j
  new_ways a j on = elim (eqb_tells h a) [
    | inl same ↦ (s.next, subst (λ (n : ℕ). slice_get new.lanes n ≡ Some s.next) same.1 there, passes.on j (was_on a j on same.1))
    | inr apart ↦ (let was = f.ways a j on in (was.0, get_other now.lanes h a s.next apart.1 ∙ was.1, was.2))
  ]

  stands_new : (k : ℕ) → IsAt k s.item → Stands more (length steps) h k
  stands_new k at = record { step = t; at = get_next steps t []; hart_is = refl; item = at }

  keep : (a j : ℕ) → (x : ℕ) × Stands steps x a j → (x : ℕ) × Stands more x a j
  keep a j d = (d.0, stands_more steps (t ∷ []) d.0 a j d.1)

  new_told : (a j : ℕ) → start.on a j → is_passed (slice_get new.lanes a) j ≡ true → (x : ℕ) × Stands more x a j
  new_told a j on e = elim (eqb_tells h a) [
    | inl same ↦
        let passed : is_passed (Some s.next) j ≡ true = ap (λ (o : Option Lane). is_passed o j) (sym there) ∙ ap (λ (n : ℕ). is_passed (slice_get new.lanes n) j) same.1 ∙ e in
        elim (passes.one j (was_on a j on same.1) passed) [
          | inl before ↦ keep a j (f.told a j on (ap (λ (n : ℕ). is_passed (slice_get now.lanes n) j) (sym same.1) ∙ ap (λ (o : Option Lane). is_passed o j) s.at ∙ before))
          | inr point ↦ (length steps, subst (λ (n : ℕ). Stands more (length steps) n j) same.1 (stands_new j (told.point j point)))
        ]
    | inr apart ↦ keep a j (f.told a j on (ap (λ (o : Option Lane). is_passed o j) (sym (get_other now.lanes h a s.next apart.1)) ∙ e))
  ]

  -- what stands in the longer order stands in the old one, or is the step
  split : (x a j : ℕ) → Stands more x a j → Stands steps x a j ⊎ ((x ≡ length steps) × (h ≡ a) × IsAt j s.item)
  split x a j d = elim (get_last steps t x d.step d.at) [
    | inl at ↦ inl (record { step = d.step; at = at; hart_is = d.hart_is; item = d.item })
    | inr last ↦ inr (last.0, ap (λ (u : Taken). u.hart) last.1 ∙ d.hart_is, subst (λ (u : Taken). IsAt j u.item) (sym last.1) d.item)
  ]

  new_done : (x a j : ℕ) → Stands more x a j → is_passed (slice_get new.lanes a) j ≡ true
  new_done x a j d = elim (split x a j d) [
    | inl before ↦ stays now h f.sound s.lane s.at s.ready s.next s.item passes a j (f.done x a j before)
    | inr last ↦ ap (λ (n : ℕ). is_passed (slice_get new.lanes n) j) (sym last.1) ∙ ap (λ (o : Option Lane). is_passed o j) there ∙ told.passed j last.2
  ]

  new_after : (y k ic a j : ℕ) → Stands more y k ic → HasEdge start.records k ic a j → (x : ℕ) × Stands more x a j × (x < y)
  new_after y k ic a j d edge = elim (split y k ic d) [
    | inl before ↦ (let x = f.after y k ic a j before edge in (x.0, stands_more steps (t ∷ []) x.0 a j x.1, x.2))
    | inr last ↦
        let own_edge : HasEdge now.records h ic a j = subst (λ (n : ℕ). HasEdge now.records n ic a j) (sym last.1) (subst (λ (rs : List Record). HasEdge rs k ic a j) (sym f.records_are) edge) in
        let x = f.told a j (from k ic a j edge) (sources_passed now.records now.lanes h s.lane s.ready ic a j (told.at ic last.2) own_edge) in
        let low = stands_low steps x.0 a j x.1 in
        let is = last.0 in
        (x.0, stands_more steps (t ∷ []) x.0 a j x.1, omega (arith, low, is))
  ]

  pub follows_on : Follows start (stepped now h s.item s.next) (one_more steps h s.item)
  follows_on = record {
    sound = after_sound now h f.sound s.lane s.at s.ready s.next s.item passes;
    records_are = f.records_are;
    unrefused = f.unrefused;
    merge = new_merge;
    ends = new_ends;
    ways = new_ways;
    told = new_told;
    done = new_done;
    after = new_after;
  }

-- the step of a ready hart, by its parts
module _ (pass : StepsPass) (start : Start) (from : HasSources start) (now : Joining) (steps : List Taken) (f : Follows start now steps) (h : ℕ) where
  passes_of : (s : Steps now h) → Passes now.program s.lane s.item s.next
  passes_of s = subst (PassesIf now.program s.lane) s.step (pass now.program s.lane (f.sound.lanes h s.lane s.at))

  pub tells_of : (s : Steps now h) → Tells now.program s.lane s.item s.next
  tells_of s = subst (TellsIf now.program s.lane) s.step (tells now.program s.lane (f.sound.lanes h s.lane s.at))

  pub goes_on : (s : Steps now h) → Follows start (stepped now h s.item s.next) (one_more steps h s.item)
  goes_on s = follows_on start from now steps f h s (passes_of s) (tells_of s)

-- ---- walks are merges

module _ (start : Start) where
  -- a merge of the harts' lists, by these
  pub record Merges (steps : List Taken) : Type 0 where
    pub own : (h : ℕ) → IsFront (own h steps) (start.all h)
    pub after : (y h ic s j : ℕ) → Stands steps y h ic → HasEdge start.records h ic s j → (x : ℕ) × Stands steps x s j × (x < y)

  pub merges : (now : Joining) (steps : List Taken) → Follows start now steps → Merges steps
  merges now steps f = record {
    own = λ h. record { rest = left_of now.program (slice_get now.lanes h); parts = f.merge h };
    after = f.after;
  }

harts_append : (ts us : List Taken) → harts_of (ts ++ us) ≡ harts_of ts ++ harts_of us
harts_append [] us = refl
harts_append (t ∷ ts) us = ap (λ (hs : List ℕ). t.hart ∷ hs) (harts_append ts us)

module _ (pass : StepsPass) (start : Start) (from : HasSources start) where
  pub record Walked (v : Walk) (order : List ℕ) : Type 0 where
    pub follows : Follows start v.now (reverse v.taken)
    pub harts : harts_of (reverse v.taken) ≡ order

  walked : (order before : List ℕ) (w v : Walk) → Walked w before → walk_on w order ≡ Some v → Walked v (before ++ order)
  walked [] before w v k e =
      subst (λ (u : Walk). Walked u (before ++ [])) (some_is w v (Some w) refl e) (record { follows = k.follows; harts = k.harts ∙ sym (append-nil before) })
  walked (h ∷ hs) before w v k e = by (ready_step w.now h) refl e (λ x u g. walked hs (before ++ h ∷ []) (longer w h x) v u g)
    where
      longer_is : (s : Steps w.now h) → Walked (longer w h (s.item, stepped w.now h s.item s.next)) (before ++ h ∷ [])
      longer_is s =
          let back : reverse (record { hart = h; item = s.item } ∷ w.taken) ≡ one_more (reverse w.taken) h s.item = reverse-append (record { hart = h; item = s.item } ∷ []) w.taken in
          record {
            follows = subst (λ (ts : List Taken). Follows start (stepped w.now h s.item s.next) ts) (sym back) (goes_on pass start from w.now (reverse w.taken) k.follows h s);
            harts = ap harts_of back ∙ harts_append (reverse w.taken) (record { hart = h; item = s.item } ∷ []) ∙ ap (λ (xs : List ℕ). xs ++ h ∷ []) k.harts;
          }

      by : (o : Option (Item × Joining)) → ready_step w.now h ≡ o → elim o as (λ x. Option Walk) [ None ↦ None | Some x ↦ walk_on (longer w h x) hs ] ≡ Some v
          → ((x : Item × Joining) → Walked (longer w h x) (before ++ h ∷ []) → walk_on (longer w h x) hs ≡ Some v → Walked v ((before ++ h ∷ []) ++ hs)) → Walked v (before ++ h ∷ hs)
      by None i g rest = absurd (none-some v g)
      by (Some x) i g rest =
          let s = steps_by w.now h x i in
          subst (Walked v) (append_assoc before (h ∷ []) hs) (rest x (subst (λ (y : Item × Joining). Walked (longer w h y) (before ++ h ∷ [])) (sym s.1) (longer_is s.0)) g)

  -- ---- merges are walks

  -- the next step of a merge is the step of a ready hart
  admitted : (now : Joining) (done : List Taken) (t : Taken) (ts : List Taken) → Follows start now done → Merges start (done ++ t ∷ ts)
      → (s : Steps now t.hart) × (s.item ≡ t.item)
  admitted now done t ts f m =
      let h : ℕ = t.hart in
      let front = m.own h in
      let first : own h (t ∷ ts) ≡ t.item ∷ own h ts = own_first h t ts (same h) in
      let parts : own h done ++ (own h (t ∷ ts) ++ front.rest) ≡ own h done ++ left_of now.program (slice_get now.lanes h) =
      sym (append_assoc (own h done) (own h (t ∷ ts)) front.rest) ∙ ap (λ (xs : List Item). xs ++ front.rest) (sym (own_append h done (t ∷ ts))) ∙ front.parts ∙ sym (f.merge h) in
      let left : left_of now.program (slice_get now.lanes h) ≡ t.item ∷ (own h ts ++ front.rest) =
      sym (cancel (own h done) (own h (t ∷ ts) ++ front.rest) (left_of now.program (slice_get now.lanes h)) parts) ∙ ap (λ (xs : List Item). xs ++ front.rest) first in
      by_hart (own h ts ++ front.rest) (slice_get now.lanes h) refl left
    where
      same : (n : ℕ) → (n == n) ≡ true
      same n = grind arith

      sources : (lane : Lane) (next : Lane) → slice_get now.lanes t.hart ≡ Some lane → Tells now.program lane t.item next
          → (ic : ℕ) → point_of lane ≡ Some ic → (s j : ℕ) → HasEdge now.records t.hart ic s j → is_passed (slice_get now.lanes s) j ≡ true
      sources lane next at told ic point s j edge =
          let x = m.after (length done) t.hart ic s j (record { step = t; at = get_next done t ts; hart_is = refl; item = told.point ic point }) (subst (λ (rs : List Record). HasEdge rs t.hart ic s j) f.records_are edge) in
          f.done x.0 s j (stands_back done (t ∷ ts) x.0 s j x.2 x.1)

      stepping : (lane : Lane) (item : Item) (next : Lane) → slice_get now.lanes t.hart ≡ Some lane → lane_step now.program lane ≡ Some (Ok (item, next)) → Tells now.program lane item next → item ≡ t.item
          → (s : Steps now t.hart) × (s.item ≡ t.item)
      stepping lane item next at step told is =
          let c = step_comes now.program lane (Ok (item, next)) step in (
            record {
              lane = lane;
              at = at;
              ready = ready_if now.records now.lanes t.hart lane c.0 c.1 (sources lane next at (subst (λ (y : Item). Tells now.program lane y next) is told));
              item = item;
              next = next;
              step = step;
            },
            is,
          )

      by_step : (rest : List Item) (lane : Lane) → slice_get now.lanes t.hart ≡ Some lane → (o : Option (Result (Item × Lane) ReplayError)) → lane_step now.program lane ≡ o → TellsIf now.program lane o
          → lane_items now.program lane ≡ t.item ∷ rest → (s : Steps now t.hart) × (s.item ≡ t.item)
      by_step rest lane at None e told left = absurd (no_items t.item rest (lane_items now.program lane) told left)
      by_step rest lane at (Some (Err g)) e told left = absurd (no_items t.item rest (lane_items now.program lane) told left)
      by_step rest lane at (Some (Ok y)) e told left =
          stepping lane y.0 y.1 at e told (heads y.0 t.item (lane_items now.program y.1) rest (sym told.items ∙ left))

      by_hart : (rest : List Item) (o : Option Lane) → slice_get now.lanes t.hart ≡ o → left_of now.program o ≡ t.item ∷ rest → (s : Steps now t.hart) × (s.item ≡ t.item)
      by_hart rest None at left = absurd (no_items t.item rest [] refl left)
      by_hart rest (Some lane) at left = by_step rest lane at (lane_step now.program lane) refl (tells now.program lane (f.sound.lanes t.hart lane at)) left

  pub record IsWalk (w : Walk) (done rest : List Taken) : Type 0 where
    pub walk : Walk
    pub is : walk_on w (harts_of rest) ≡ Some walk
    pub steps : reverse walk.taken ≡ done ++ rest

  merged : (rest done : List Taken) (w : Walk) → Follows start w.now done → reverse w.taken ≡ done → Merges start (done ++ rest) → IsWalk w done rest
  merged [] done w f back m = record { walk = w; is = refl; steps = back ∙ sym (append-nil done) }
  merged (t ∷ ts) done w f back m =
      let a = admitted w.now done t ts f m in
      let s : Steps w.now t.hart = a.0 in
      let x : Item × Joining = (s.item, stepped w.now t.hart s.item s.next) in
      let more : List Taken = one_more done t.hart s.item in
      let is : more ≡ done ++ t ∷ [] = ap (λ (item : Item). one_more done t.hart item) a.1 in
      let regroup : more ++ ts ≡ done ++ t ∷ ts = ap (λ (us : List Taken). us ++ ts) is ∙ append_assoc done (t ∷ []) ts in
      let again = merged ts more (longer w t.hart x) (goes_on pass start from w.now done f t.hart s)
      (reverse-append (record { hart = t.hart; item = s.item } ∷ []) w.taken ∙ ap (λ (us : List Taken). one_more us t.hart s.item) back)
      (subst (Merges start) (sym regroup) m) in
      record {
        walk = again.walk;
        is = ap (λ (o : Option (Item × Joining)). elim o as (λ x. Option Walk) [ None ↦ None | Some x ↦ walk_on (longer w t.hart x) (harts_of ts) ]) (steps_so w.now t.hart s f.unrefused) ∙ again.is;
        steps = again.steps ∙ regroup;
      }

  -- ---- ready harts

  extends : (now : Joining) (done : List Taken) (h : ℕ) → Follows start now done → readiness now h ≡ is.Ready → ((item : Item) × Merges start (one_more done h item)) ⊎ IsRefusedAt now h
  extends now done h f ready = by_hart (slice_get now.lanes h) refl ready
    where
      no_ready : ◌≡◌ {A = Readiness} is.Done is.Ready → ⊥
      no_ready e = cc

      by_step : (lane : Lane) → slice_get now.lanes h ≡ Some lane → readiness_of now.records now.lanes h lane ≡ is.Ready → (r : Result (Item × Lane) ReplayError) → lane_step now.program lane ≡ Some r
          → ((item : Item) × Merges start (one_more done h item)) ⊎ IsRefusedAt now h
      by_step lane at e (Err g) step = inr (g, next_is now h lane (Some (Err g)) f.unrefused at step)
      by_step lane at e (Ok x) step =
          let s : Steps now h = record { lane = lane; at = at; ready = e; item = x.0; next = x.1; step = step } in
          inl (x.0, merges start (stepped now h x.0 x.1) (one_more done h x.0) (goes_on pass start from now done f h s))

      by_hart : (o : Option Lane) → slice_get now.lanes h ≡ o → elim o as (λ x. Readiness) [ None ↦ is.Done | Some lane ↦ readiness_of now.records now.lanes h lane ] ≡ is.Ready
          → ((item : Item) × Merges start (one_more done h item)) ⊎ IsRefusedAt now h
      by_hart None at e = absurd (no_ready e)
      by_hart (Some lane) at e =
          let c = ready_comes now.records now.lanes h lane e in
          let r = comes_step now.program lane c.0 c.1 in
          by_step lane at e r.0 r.1

  is_ready : (now : Joining) (done : List Taken) (h : ℕ) (item : Item) → Follows start now done → Merges start (one_more done h item) → readiness now h ≡ is.Ready
  is_ready now done h item f m = let a = admitted now done (record { hart = h; item = item }) [] f m in readied now h a.0.lane a.0.at a.0.ready

-- ---- from the start on

below_none : (h : ℕ) → nat_lt h 0 ≡ false
below_none h = grind arith

zero_below : (n : ℕ) → nat_lt 0 (suc n) ≡ true
zero_below n = grind arith

both_up : (h n : ℕ) → nat_lt (suc h) (suc n) ≡ nat_lt h n
both_up h n = elim (cases_lt h n) [
  | inl less ↦ lt-ltb (suc h) (suc n) (omega (arith, less)) ∙ sym (lt-ltb h n less)
  | inr past ↦ le-ltb (suc h) (suc n) (omega (arith, past)) ∙ sym (le-ltb h n past)
]

-- the lanes by their harts
lane_is : (i : Program) (records : List Record) (n k h : ℕ) → left_of i (slice_get (lanes_from i records k n) h) ≡ elim (nat_lt h n) as (λ x. List Item) [ true ↦ lane_items i (lane_of i records (k + h)) | false ↦ [] ]
lane_is i records zero k h = sym (ap (λ (b : Bool). elim b as (λ x. List Item) [ true ↦ lane_items i (lane_of i records (k + h)) | false ↦ [] ]) (below_none h))
lane_is i records (suc n) k zero =
    let same : k ≡ k + 0 = omega arith in
    ap (λ (m : ℕ). lane_items i (lane_of i records m)) same ∙ sym (ap (λ (b : Bool). elim b as (λ x. List Item) [ true ↦ lane_items i (lane_of i records (k + 0)) | false ↦ [] ]) (zero_below n))
lane_is i records (suc n) k (suc h) =
    let same : k + 1 + h ≡ k + suc h = omega arith in
    lane_is i records n (k + 1) h ∙ ap (λ (m : ℕ). elim (nat_lt h n) as (λ x. List Item) [ true ↦ lane_items i (lane_of i records m) | false ↦ [] ]) same
    ∙ sym (ap (λ (b : Bool). elim b as (λ x. List Item) [ true ↦ lane_items i (lane_of i records (k + suc h)) | false ↦ [] ]) (both_up h n))

-- hart h is there if it is one of so many, and else it isn't
lane_there : (i : Program) (records : List Record) (n k h : ℕ) → h < n → slice_get (lanes_from i records k n) h ≡ Some (lane_of i records (k + h))
lane_there i records zero k h low = absurd (omega (arith, low))
lane_there i records (suc n) k zero low = let same : k ≡ k + 0 = omega arith in ap (λ (m : ℕ). Some (lane_of i records m)) same
lane_there i records (suc n) k (suc h) low =
    let same : k + 1 + h ≡ k + suc h = omega arith in
    lane_there i records n (k + 1) h (omega (arith, low)) ∙ ap (λ (m : ℕ). Some (lane_of i records m)) same

lane_none : (i : Program) (records : List Record) (n k h : ℕ) → n ≤ h → slice_get (lanes_from i records k n) h ≡ None
lane_none i records zero k h low = refl
lane_none i records (suc n) k zero low = absurd (omega (arith, low))
lane_none i records (suc n) k (suc h) low = lane_none i records n (k + 1) h (omega (arith, low))

no_place : (x : ℕ) (u : Taken) → ◌≡◌ {A = Option Taken} (slice_get [] x) (Some u) → ⊥
no_place x u e = cc

module _ (pass : StepsPass) (i : Program) (harts : ℕ) (records : List Record) (sound : IsSound (fresh i harts records)) (sources : AreSources (fresh i harts records)) where
  abbrev first : Joining
  first = fresh i harts records

  abbrev IsOnWay : ℕ → ℕ → Type 0
  IsOnWay s j = (lane : Lane) × (slice_get first.lanes s ≡ Some lane) × (Has lane.points j ⊎ InCursors lane.cursors j)

  abbrev start : Start
  start = record { records = records; all = items_of i harts records; unrefused = λ h. done_of (slice_get first.lanes h); on = IsOnWay }

  items_are : (h : ℕ) → left_of i (slice_get (lanes_from i records 0 harts) h) ≡ items_of i harts records h
  items_are h =
      let same : 0 + h ≡ h = omega arith in
      lane_is i records harts 0 h
      ∙ ap (λ (m : ℕ). elim (nat_lt h harts) as (λ x. List Item) [ true ↦ lane_items i (lane_of i records m) | false ↦ [] ]) same
      ∙ ap (λ (xs : List Item). elim (nat_lt h harts) as (λ x. List Item) [ true ↦ map (λ (p : ℕ). Passing p) (ordering_points h records) ++ xs | false ↦ [] ]) (first_items i records h (intervals_in h records))

  starts : Follows start first []
  starts = record {
    sound = sound;
    records_are = refl;
    unrefused = refl;
    merge = items_are;
    ends = λ h. (λ d. d, λ d. d);
    ways = λ s j l. (l.0, l.1, inr l.2);
    told = λ s j l passed. (let here : is_passed (Some l.0) j ≡ true = ap (λ (o : Option Lane). is_passed o j) (sym l.1) ∙ passed in
        let is = sound.lanes s l.0 l.1 in
        elim l.2 [
          | inl has ↦ absurd (unpassed i l.0.points l.0.cursors j is.points is.cursors here has)
          | inr to_do ↦ absurd (undone i l.0.points l.0.cursors j is.points is.cursors here to_do)
        ]);
    done = λ x s j d. absurd (no_place x d.step d.at);
    after = λ y h ic s j d edge. absurd (no_place y d.step d.at);
  }

  is_merge : (steps : List Taken) → Merges start steps → IsMerge i harts records steps
  is_merge steps m = record { own = m.own; after = m.after }

  of_merge : (steps : List Taken) → IsMerge i harts records steps → Merges start steps
  of_merge steps m = record { own = m.own; after = m.after }

  begun_so : (order : List ℕ) (w : Walk) → IsBegun i harts records order w → Walked pass start sources w order
  begun_so order w b = walked pass start sources order [] (begun first) w (record { follows = starts; harts = refl }) b.allowed

  complete_so : (steps : List Taken) → IsMerge i harts records steps → (w : Walk) × IsBegun i harts records (harts_of steps) w × (steps_of w ≡ steps)
  complete_so steps m =
      let w = merged pass start sources steps [] (begun first) starts refl (of_merge steps m) in
      (w.walk, record { allowed = w.is }, w.steps)

  -- ---- whole orders

  unrefused_is : (h : ℕ) → h < harts → done_of (slice_get first.lanes h) ↔ AreUnrefused i records h (intervals_in h records)
  unrefused_is h low =
      let same : 0 + h ≡ h = omega arith in
      let at : slice_get first.lanes h ≡ Some (lane_of i records h) = lane_there i records harts 0 h low ∙ ap (λ (m : ℕ). Some (lane_of i records m)) same in
      let d = first_done i records h (intervals_in h records) in
      (λ u. d.0 (subst done_of at u), λ u. subst done_of (sym at) (d.1 u))

  all_done : (now : Joining) (steps : List Taken) → Follows start now steps → ((k : ℕ) (lane : Lane) → slice_get now.lanes k ≡ Some lane → coming_of lane ≡ None) → IsWhole i harts records steps
  all_done now steps f none = record {
    merge = is_merge steps (merges start now steps f);
    all = λ h. sym (append-nil (own h steps)) ∙ ap (λ (xs : List Item). own h steps ++ xs) (sym (nothing h (slice_get now.lanes h) refl).0) ∙ f.merge h;
    unrefused = λ h low. (unrefused_is h low).0 ((f.ends h).0 (nothing h (slice_get now.lanes h) refl).1);
  }
    where
      nothing : (h : ℕ) (o : Option Lane) → slice_get now.lanes h ≡ o → (left_of now.program o ≡ []) × done_of o
      nothing h None at = (refl, tt)
      nothing h (Some lane) at = nothing_left now.program lane (none h lane at)

  none_come : (now : Joining) (steps : List Taken) → Follows start now steps → IsWhole i harts records steps → (k : ℕ) (lane : Lane) → slice_get now.lanes k ≡ Some lane → coming_of lane ≡ None
  none_come now steps f whole k lane at =
      let left : left_of now.program (slice_get now.lanes k) ≡ [] = cancel (own k steps) (left_of now.program (slice_get now.lanes k)) [] (f.merge k ∙ sym (whole.all k) ∙ sym (append-nil (own k steps))) in
      nothing_comes now.program lane (ap (left_of now.program) (sym at) ∙ left) (subst done_of at ((f.ends k).1 (done (cases_lt k harts))))
    where
      done : (k < harts) ⊎ (harts ≤ k) → done_of (slice_get first.lanes k)
      done (inl low) = (unrefused_is k low).1 (whole.unrefused k low)
      done (inr high) = subst done_of (sym (lane_none i records harts 0 k high)) tt

  whole_so : (steps : List Taken) → IsWhole i harts records steps → (w : Walk) × IsAllowed i harts records (harts_of steps) w × (steps_of w ≡ steps)
  whole_so steps whole =
      let w = complete_so steps whole.merge in
      let f : Follows start w.0.now steps = subst (λ (ts : List Taken). Follows start w.0.now ts) w.2 (begun_so (harts_of steps) w.0 w.1).follows in
      (w.0, record { begun = w.1; whole = none_chosen w.0.now.records w.0.now.lanes 0 w.0.now.lanes (none_come w.0.now steps f whole) }, w.2)

  pub are_merges : AreMerges i harts records
  are_merges = record {
    sound = λ order w b. (let k = begun_so order w b in (is_merge (steps_of w) (merges start w.now (steps_of w) k.follows), k.harts));
    complete = complete_so;
    allowed = λ order w a. (let k = begun_so order w a.begun in (all_done w.now (steps_of w) k.follows (chosen_none w.now.records w.now.lanes 0 w.now.lanes a.whole), k.harts));
    whole = whole_so;
  }

  -- ---- ready harts

  point_waits : (now : Joining) (steps : List Taken) (h ic : ℕ) → Follows start now steps → point_at now h ≡ Some ic
      → (readiness now h ≡ is.Ready) ↔ ((s j : ℕ) → HasEdge records h ic s j → (x : ℕ) × Stands steps x s j)
  point_waits now steps h ic f point = by_hart (slice_get now.lanes h) refl point
    where
      no_point : ◌≡◌ {A = Option ℕ} None (Some ic) → ⊥
      no_point e = cc

      by_hart : (o : Option Lane) → slice_get now.lanes h ≡ o → elim o as (λ x. Option ℕ) [ None ↦ None | Some lane ↦ point_of lane ] ≡ Some ic
          → (elim o as (λ x. Readiness) [ None ↦ is.Done | Some lane ↦ readiness_of now.records now.lanes h lane ] ≡ is.Ready) ↔ ((s j : ℕ) → HasEdge records h ic s j → (x : ℕ) × Stands steps x s j)
      by_hart None at e = absurd (no_point e)
      by_hart (Some lane) at e = (
        λ ready s j edge. f.told s j (sources h ic s j edge) (sources_passed now.records now.lanes h lane ready ic s j e (subst (λ (rs : List Record). HasEdge rs h ic s j) (sym f.records_are) edge)),
        λ stand. (let c = point_comes lane ic e in
            ready_if now.records now.lanes h lane c.0 c.1 (λ k at_k s j edge.
            let x = stand s j (subst (λ (n : ℕ). HasEdge records h n s j) (some_is k ic (point_of lane) at_k e) (subst (λ (rs : List Record). HasEdge rs h k s j) f.records_are edge)) in
            f.done x.0 s j x.1)),
      )

  -- a step at no point is ready
  free_ready : (now : Joining) (h : ℕ) (c : Coming) → coming now h ≡ Some c → point_at now h ≡ None → readiness now h ≡ is.Ready
  free_ready now h c comes free = by_hart (slice_get now.lanes h) refl comes free
    where
      no_coming : ◌≡◌ {A = Option Coming} None (Some c) → ⊥
      no_coming e = cc

      no_point : (o : Option ℕ) (k : ℕ) → o ≡ None → o ≡ Some k → ⊥
      no_point o k e f = let g : ◌≡◌ {A = Option ℕ} None (Some k) = sym e ∙ f in cc

      by_hart : (o : Option Lane) → slice_get now.lanes h ≡ o → elim o as (λ x. Option Coming) [ None ↦ None | Some lane ↦ coming_of lane ] ≡ Some c
          → elim o as (λ x. Option ℕ) [ None ↦ None | Some lane ↦ point_of lane ] ≡ None
          → elim o as (λ x. Readiness) [ None ↦ is.Done | Some lane ↦ readiness_of now.records now.lanes h lane ] ≡ is.Ready
      by_hart None at e none = absurd (no_coming e)
      by_hart (Some lane) at e none = ready_if now.records now.lanes h lane c e (λ k at_k s j edge. absurd (no_point (point_of lane) k none at_k))

  ready_there : (now : Joining) (steps : List Taken) (h : ℕ) → Follows start now steps → IsReadyThere i harts records steps now h
  ready_there now steps h f = record {
    admitted = λ ready. elim (extends pass start sources now steps h f ready) [
      | inl x ↦ inl (x.0, is_merge (one_more steps h x.0) x.1)
      | inr r ↦ inr r
    ];
    ready = λ item m. is_ready pass start sources now steps h item f (of_merge (one_more steps h item) m);
    waits = λ ic point. point_waits now steps h ic f point;
    free = free_ready now h;
  }

  -- an item is admitted of a hart that is there, and ready
  ready_lane : (now : Joining) (steps : List Taken) (h : ℕ) (item : Item) → Follows start now steps → IsMerge i harts records (one_more steps h item)
      → (lane : Lane) × (slice_get now.lanes h ≡ Some lane) × (readiness_of now.records now.lanes h lane ≡ is.Ready)
  ready_lane now steps h item f m =
      let a = admitted pass start sources now steps (record { hart = h; item = item }) [] f (of_merge (one_more steps h item) m) in
      (a.0.lane, a.0.at, a.0.ready)

  chosen_there : (now : Joining) (steps : List Taken) → Follows start now steps → IsChosenThere i harts records steps now
  chosen_there now steps f = record {
    chosen = λ h e. (ready_there now steps h f).admitted (chosen_ready now h e);
    lowest = λ h k item e m. (let l = ready_lane now steps k item f m in elim (cases_lt k h) [
      | inl low ↦ absurd (lower_waits now.records now.lanes 0 now.lanes false h e k k l.0 (omega arith) low l.1 l.2)
      | inr high ↦ high
    ]);
    none = λ h item e m. (let l = ready_lane now steps h item f m in
        let not : is_ready_now (readiness_of now.records now.lanes h l.0) ≡ false = (all_wait now.records now.lanes 0 now.lanes false (ap is_none e)).0 h h l.0 (omega arith) l.1 in
        true≢false (sym (ap is_ready_now l.2) ∙ not));
    done = (
      λ e. all_done now steps f (chosen_none now.records now.lanes 0 now.lanes e),
      λ whole. none_chosen now.records now.lanes 0 now.lanes (none_come now steps f whole),
    );
  }

  pub admits : (order : List ℕ) (w : Walk) → IsBegun i harts records order w → Admits i harts records (steps_of w) w.now
  admits order w b =
      let f = (begun_so order w b).follows in
      record { ready = λ h. ready_there w.now (steps_of w) h f; next = chosen_there w.now (steps_of w) f }

  -- ---- passed sources

  lane_same : (n k h : ℕ) (lane : Lane) → slice_get (lanes_from i records k n) h ≡ Some lane → lane_of i records (k + h) ≡ lane
  lane_same n k h lane e = elim (cases_lt h n) [
    | inl low ↦ some_is (lane_of i records (k + h)) lane (slice_get (lanes_from i records k n) h) (lane_there i records n k h low) e
    | inr high ↦ absurd (no_lane (sym (lane_none i records n k h high) ∙ e))
  ]
    where
      no_lane : ◌≡◌ {A = Option Lane} None (Some lane) → ⊥
      no_lane e = cc

  pub passed_stands : (steps : List Taken) → IsMerge i harts records steps → (h ic s j : ℕ) → HasEdge records h ic s j → ((x : ℕ) × Stands steps x s j) ↔ IsPassed records steps s j
  passed_stands steps m h ic s j edge =
      let w = complete_so steps m in
      let f : Follows start w.0.now steps = subst (λ (ts : List Taken). Follows start w.0.now ts) w.2 (begun_so (harts_of steps) w.0 w.1).follows in
      let l = sources h ic s j edge in
      let same : 0 + s ≡ s = omega arith in
      let lane : lane_of i records s ≡ l.0 = ap (lane_of i records) (sym same) ∙ lane_same harts 0 s l.0 l.1 in (
        λ d. record {
          points = λ p has low. f.told s p (l.0, l.1, inl (subst (λ (x : Lane). Has x.points p) lane has)) (passed_lower (slice_get w.0.now.lanes s) j p low (f.done d.0 s j d.1));
          row = λ e. d;
        },
        λ d. by d (is_below (first_count s records) j) refl,
      )
    where
      by : IsPassed records steps s j → (b : Bool) → is_below (first_count s records) j ≡ b → (x : ℕ) × Stands steps x s j
      by d true e = d.points j (source_points (first_count s records) h ic s j records edge e) (omega arith)
      by d false e = d.row e

pub walks_are_merges : StepsPass → StartsAreSound → SourcesAreThere → WalksAreMerges
walks_are_merges pass starts_sound sources i s dropped records low order =
    are_merges pass i s.harts records (starts_sound i s dropped records low order) (sources i s dropped records low order)

pub ready_is_admitted : StepsPass → StartsAreSound → SourcesAreThere → ReadyIsAdmitted
ready_is_admitted pass starts_sound sources i s dropped records low order =
    admits pass i s.harts records (starts_sound i s dropped records low order) (sources i s dropped records low order)

pub passed_is_standing : StepsPass → StartsAreSound → SourcesAreThere → PassedIsStanding
passed_is_standing pass starts_sound sources i s dropped records low order =
    passed_stands pass i s.harts records (starts_sound i s dropped records low order) (sources i s dropped records low order)

-- wherever a walk led, and whatever was refused there
pub at_merge : WalksAreMerges → ReadyIsAdmitted → (i : Program) (log : Content) (count : ℕ) (hs : List HartLane) (memory : List (ℕ × ℕ)) (refused : Option ReplayError) (now : Joining)
    → joining i log.records hs memory refused ≡ now → IsContent log → IsTogether i log count hs memory refused → IsAtMerge (length now.lanes) now
at_merge merges admitted i log count hs memory refused now view c t =
    let harts : log.head.settings.harts ≡ length hs = t.number ∙ t.count_is in
    let limit = c.settings.limit_high in
    subst (λ (j : Joining). IsAtMerge (length j.lanes) j) view
    (subst (λ (n : ℕ). IsAtMerge n (joining i log.records hs memory refused)) (harts ∙ sym (lanes_length hs))
    (at (subst (λ (n : ℕ). IsReached n (joining i log.records hs memory refused)) (sym harts) t.reached) (omega (arith, limit))))
  where
    at : IsReached log.head.settings.harts (joining i log.records hs memory refused) → log.head.settings.limit < 2 ^ 64 → IsAtMerge log.head.settings.harts (joining i log.records hs memory refused)
    at r low = record {
      reached = r;
      merge = ((merges i log.head.settings log.dropped log.records low c.order).sound r.order r.walk r.begun).0;
      admits = λ none. subst (λ (k : Joining). Admits i log.head.settings.harts log.records (steps_of r.walk) k) (r.whole none) (admitted i log.head.settings log.dropped log.records low c.order r.order r.walk r.begun);
    }
