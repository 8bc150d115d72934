-- In each beginning of an allowed order the harts' rows follow the run's.
use Rattle.joint_laws.proofs.Common.{◌≡◌, ℕ, zero, suc, ◌+◌, ◌<◌, Bool, true, false, ◌&&◌, ◌==◌, inl, inr, refl, sym, ap, ◌∙◌, subst, arith, List, [], ◌∷◌, ◌++◌, slice_get, slice_set, is_some, Option, Some, None, AllByRecursion, flat_map, eq-eqb, ne_eqb, eqb_tells, append_assoc, Program, Row, HartState, Record, Header, FirstLoad, ScOk, ScFailed, Edge, End, Interval, Replayed, Done, interval_of, replayed, after_row, intervals_in, Cursor, Lane, Item, Doing, with_cursor, cursors_of, lane_of, row_given, lane_step, Joining, Taken, Walk, begun, longer, lanes_from, IsBegun, EndsSuffice, IsWhole, IntervalRowsAreOfTurns, state_after, IsRowOfTurn, Recording, IsLogOf, begin, interval_rows, row_in, rows_done, get_same, get_other, after_append, OfBeginnings}
use Rattle.joint_laws.proofs.Moves.{IsMove, StepOf, along, by_kind, some_is}

-- ---- the retained intervals are there

there_more : (r : Record) (rs : List Record) (h n : ℕ) → is_some (interval_of h n rs) ≡ true → is_some (interval_of h n (r ∷ rs)) ≡ true
there_more (FirstLoad k skip value) rs h n e = e
there_more (ScOk k) rs h n e = e
there_more (ScFailed k) rs h n e = e
there_more (Edge k ic s j) rs h n e = e
there_more (End k m) rs h n e = e
there_more (Header k c ic pc x) rs h n e = by _ (k == h && (c == n)) e
  where
    by : (v : Interval) (b : Bool) → is_some (interval_of h n rs) ≡ true → is_some (elim b as (λ y. Option Interval) [ true ↦ Some v | false ↦ interval_of h n rs ]) ≡ true
    by v true e = refl
    by v false e = e

all_more : (r : Record) (rs : List Record) (h : ℕ) (ns : List ℕ) → AllByRecursion (λ n. is_some (interval_of h n rs) ≡ true) ns → AllByRecursion (λ n. is_some (interval_of h n (r ∷ rs)) ≡ true) ns
all_more r rs h [] a = tt
all_more r rs h (n ∷ ns) a = (there_more r rs h n a.0, all_more r rs h ns a.1)

all_there : (rs : List Record) (h : ℕ) → AllByRecursion (λ n. is_some (interval_of h n rs) ≡ true) (intervals_in h rs)
all_there [] h = tt
all_there (FirstLoad k skip value ∷ rs) h = all_more (FirstLoad k skip value) rs h (intervals_in h rs) (all_there rs h)
all_there (ScOk k ∷ rs) h = all_more (ScOk k) rs h (intervals_in h rs) (all_there rs h)
all_there (ScFailed k ∷ rs) h = all_more (ScFailed k) rs h (intervals_in h rs) (all_there rs h)
all_there (Edge k ic s j ∷ rs) h = all_more (Edge k ic s j) rs h (intervals_in h rs) (all_there rs h)
all_there (End k m ∷ rs) h = all_more (End k m) rs h (intervals_in h rs) (all_there rs h)
all_there (Header k c ic pc x ∷ rs) h = by (k == h) refl (all_more (Header k c ic pc x) rs h (intervals_in h rs) (all_there rs h))
  where
    here : (v : Interval) → (k == h) ≡ true → is_some (elim (k == h && (c == c)) as (λ y. Option Interval) [ true ↦ Some v | false ↦ interval_of h c rs ]) ≡ true
    here v e = ap (λ b. is_some (elim b as (λ y. Option Interval) [ true ↦ Some v | false ↦ interval_of h c rs ])) (ap (λ b. b && (c == c)) e ∙ eq-eqb c c refl)

    by : (b : Bool) → (k == h) ≡ b → AllByRecursion (λ n. is_some (interval_of h n (Header k c ic pc x ∷ rs)) ≡ true) (intervals_in h rs)
        → AllByRecursion (λ n. is_some (interval_of h n (Header k c ic pc x ∷ rs)) ≡ true) (elim b as (λ y. List ℕ) [ true ↦ c ∷ intervals_in h rs | false ↦ intervals_in h rs ])
    by true e rest = (here _ e, rest)
    by false e rest = rest

-- ---- a hart of the start

pub first_lane : (i : Program) (records : List Record) (n k h : ℕ) (lane : Lane) → slice_get (lanes_from i records k n) h ≡ Some lane → lane ≡ lane_of i records (k + h)
first_lane i records zero k h lane e = absurd cc
first_lane i records (suc n) k zero lane e =
    let same : k ≡ k + 0 = omega arith in
    sym (some_is (lane_of i records k) lane (Some (lane_of i records k)) refl e) ∙ ap (lane_of i records) same
first_lane i records (suc n) k (suc h) lane e =
    let same : k + 1 + h ≡ k + suc h = omega arith in
    first_lane i records n (k + 1) h lane e ∙ ap (lane_of i records) same

has_lane : (i : Program) (records : List Record) (n k h : ℕ) → h < n → (lane : Lane) × (slice_get (lanes_from i records k n) h ≡ Some lane)
has_lane i records zero k h low = absurd (omega (arith, low))
has_lane i records (suc n) k zero low = (lane_of i records k, refl)
has_lane i records (suc n) k (suc h) low = has_lane i records n (k + 1) h (omega (arith, low))

-- ---- what is left of a hart's rows

abbrev pub rows_left : List Cursor → List Row
rows_left [] = []
rows_left (c ∷ cs) = c.left.rows ++ rows_left cs

module _ (r : Recording) (records : List Record) where
  -- a retained interval under way: past its rows so far those are left that the run has in it
  pub record IsOf (h : ℕ) (c : Cursor) : Type 0 where
    pub interval : Interval
    pub found : interval_of h c.number records ≡ Some interval
    pub done : c.left.outcome ≡ Done
    pub past : List Row
    pub rows : interval_rows r h c.number ≡ past ++ c.left.rows
    pub state : c.state ≡ state_after r.program interval.start past

  abbrev pub AreOf : ℕ → List Cursor → Type 0
  AreOf h [] = Unit {0}
  AreOf h (c ∷ cs) = IsOf h c × AreOf h cs

  -- the row of a step is one of the run, with the same state before it
  abbrev pub IsItemOf : ℕ → Item → Type 0
  IsItemOf h (Doing before row) = IsRowOfTurn r.settings r.program r.input r.turns h before row
  IsItemOf h item = Unit {0}

  abbrev pub AreTaken : List Taken → Type 0
  AreTaken [] = Unit {0}
  AreTaken (t ∷ ts) = IsItemOf t.hart t.item × AreTaken ts

  pub record IsFollowed (w : Walk) : Type 0 where
    pub program : w.now.program ≡ r.program
    pub records_are : w.now.records ≡ records
    pub refused : w.now.refused ≡ None
    pub there : (h : ℕ) → h < r.settings.harts → (lane : Lane) × (slice_get w.now.lanes h ≡ Some lane)
    pub cursors : (h : ℕ) (lane : Lane) → slice_get w.now.lanes h ≡ Some lane → AreOf h lane.cursors
    pub rows : (h : ℕ) (lane : Lane) → slice_get w.now.lanes h ≡ Some lane → rows_done h w.taken ++ rows_left lane.cursors ≡ flat_map (interval_rows r h) (intervals_in h records)
    pub taken : AreTaken w.taken

  module _ (suffice : EndsSuffice) (rows_are : IntervalRowsAreOfTurns) (log : IsLogOf r records) where
    whole : IsWhole r.settings r.program r.input r.turns
    whole = record { legal = log.recording.legal; over = log.recording.over }

    is_replayed : (h n : ℕ) (v : Interval) → interval_of h n records ≡ Some v → replayed r.program records h n ≡ record { rows = interval_rows r h n; outcome = Done }
    is_replayed h n v e =
        let setting = log.recording.setting in
        let limit = setting.limit_high in
        suffice r.settings r.program r.input r.turns h n (omega (arith, limit)) whole records log.end v e

    first_cursors : (h : ℕ) (ns : List ℕ) → AllByRecursion (λ n. is_some (interval_of h n records) ≡ true) ns
        → AreOf h (cursors_of r.program records h ns) × (rows_left (cursors_of r.program records h ns) ≡ flat_map (interval_rows r h) ns)
    first_cursors h [] a = (tt, refl)
    first_cursors h (n ∷ ns) a = by (interval_of h n records) refl a.0 (first_cursors h ns a.1)
      where
        by : (o : Option Interval) → interval_of h n records ≡ o → is_some o ≡ true
            → AreOf h (cursors_of r.program records h ns) × (rows_left (cursors_of r.program records h ns) ≡ flat_map (interval_rows r h) ns)
            → AreOf h (with_cursor o n (replayed r.program records h n) (cursors_of r.program records h ns))
            × (rows_left (with_cursor o n (replayed r.program records h n) (cursors_of r.program records h ns)) ≡ interval_rows r h n ++ flat_map (interval_rows r h) ns)
        by None e s rest = absurd cc
        by (Some v) e s rest =
            let same = is_replayed h n v e in (
              (record { interval = v; found = e; done = ap (λ (x : Replayed). x.outcome) same; past = []; rows = sym (ap (λ (x : Replayed). x.rows) same); state = refl }, rest.0),
              ap (λ (x : Replayed). x.rows ++ rows_left (cursors_of r.program records h ns)) same ∙ ap (λ (rows : List Row). interval_rows r h n ++ rows) rest.1,
            )

    at_first : IsFollowed (begun (begin r records))
    at_first = record {
      program = refl;
      records_are = refl;
      refused = refl;
      there = λ h low. has_lane r.program records r.settings.harts 0 h low;
      cursors = λ h lane e. subst (λ (l : Lane). AreOf h l.cursors) (sym (own h lane e)) (first_cursors h (intervals_in h records) (all_there records h)).0;
      rows = λ h lane e. ap (λ (l : Lane). rows_left l.cursors) (own h lane e) ∙ (first_cursors h (intervals_in h records) (all_there records h)).1;
      taken = tt;
    }
      where
        own : (h : ℕ) (lane : Lane) → slice_get (lanes_from r.program records 0 r.settings.harts) h ≡ Some lane → lane ≡ lane_of r.program records h
        own h lane e = let same : 0 + h ≡ h = omega arith in first_lane r.program records r.settings.harts 0 h lane e ∙ ap (lane_of r.program records) same

    -- ---- a step of one hart

    -- the cursors move on, its row is one of the run, and it is the first of those that were left
    record Goes (h : ℕ) (lane : Lane) (item : Item) (next : Lane) : Type 0 where
      cursors : AreOf h next.cursors
      item_of : IsItemOf h item
      rows : rows_left lane.cursors ≡ row_in item ++ rows_left next.cursors

    one_more : (h : ℕ) (c : Cursor) (row : Row) (rs : List Row) → c.left.rows ≡ row ∷ rs → IsOf h c → IsOf h (row_given r.program c row rs)
    one_more h c row rs e o = record {
      interval = o.interval;
      found = o.found;
      done = o.done;
      past = o.past ++ row ∷ [];
      rows = o.rows ∙ (ap (λ x. o.past ++ x) e ∙ sym (append_assoc o.past (row ∷ []) rs));
      state = ap (λ (s : HartState). after_row r.program s row) o.state ∙ sym (after_append r.program o.interval.start o.past (row ∷ []));
    }

    row_of_run : (h : ℕ) (c : Cursor) (row : Row) (rs : List Row) → c.left.rows ≡ row ∷ rs → IsOf h c → IsRowOfTurn r.settings r.program r.input r.turns h c.state row
    row_of_run h c row rs e o =
        rows_are r.settings r.program r.input r.turns h c.number log.recording.setting whole records log.end o.interval o.found c.state row
        (record { front = o.past; back = rs; rows_are = o.rows ∙ ap (λ x. o.past ++ x) e; state = o.state })

    goes : (h : ℕ) (lane : Lane) → AreOf h lane.cursors → StepOf r.program (Goes h lane) lane
    goes h lane all = record {
      passing = λ p ps e. record { cursors = all; item_of = tt; rows = refl };
      doing = λ c cs row rs e f g. (let here : AreOf h (c ∷ cs) = subst (AreOf h) f all in record {
        cursors = (one_more h c row rs g here.0, here.1);
        item_of = row_of_run h c row rs g here.0;
        rows = ap rows_left f ∙ ap (λ x. x ++ rows_left cs) g;
      });
      ending = λ c cs e f g d. (let here : AreOf h (c ∷ cs) = subst (AreOf h) f all in record {
        cursors = here.1;
        item_of = tt;
        rows = ap rows_left f ∙ ap (λ x. x ++ rows_left cs) g;
      });
    }

    module _ (w : Walk) (h : ℕ) (x : Item × Joining) (f : IsFollowed w) (m : IsMove w.now h x) where
      step_goes : Goes h m.lane x.0 m.next
      step_goes = by_kind r.program (Goes h m.lane) m.lane (goes h m.lane (f.cursors h m.lane m.at)) x.0 m.next (ap (λ (i : Program). lane_step i m.lane) (sym f.program) ∙ m.step)

      lanes_are : x.1.lanes ≡ slice_set w.now.lanes h m.next
      lanes_are = ap (λ (j : Joining). j.lanes) m.is

      same_lane : slice_get x.1.lanes h ≡ Some m.next
      same_lane = ap (λ ls. slice_get ls h) lanes_are ∙ get_same w.now.lanes h m.lane m.next m.at

      other_lane : (k : ℕ) → (h ≡ k → ⊥) → slice_get x.1.lanes k ≡ slice_get w.now.lanes k
      other_lane k apart = ap (λ ls. slice_get ls k) lanes_are ∙ get_other w.now.lanes h k m.next apart

      -- one lane after the step
      after_lane : (P : ℕ → Lane → Type 0) → P h m.next → ((k : ℕ) (lane : Lane) → (h ≡ k → ⊥) → slice_get w.now.lanes k ≡ Some lane → P k lane)
          → (k : ℕ) (lane : Lane) → slice_get x.1.lanes k ≡ Some lane → P k lane
      after_lane P own other k lane e = elim (eqb_tells h k) [
        | inl same ↦ subst (λ (n : ℕ). P n lane) same.1 (subst (P h) (some_is m.next lane (slice_get x.1.lanes h) same_lane (subst (λ (n : ℕ). slice_get x.1.lanes n ≡ Some lane) (sym same.1) e)) own)
        | inr apart ↦ other k lane apart.1 (sym (other_lane k apart.1) ∙ e)
      ]

      own_rows : rows_done h (record { hart = h; item = x.0 } ∷ w.taken) ≡ rows_done h w.taken ++ row_in x.0
      own_rows = ap (λ b. elim b as (λ y. List Row) [ true ↦ rows_done h w.taken ++ row_in x.0 | false ↦ rows_done h w.taken ]) (eq-eqb h h refl)

      other_rows : (k : ℕ) → (h ≡ k → ⊥) → rows_done k (record { hart = h; item = x.0 } ∷ w.taken) ≡ rows_done k w.taken
      other_rows k apart = ap (λ b. elim b as (λ y. List Row) [ true ↦ rows_done k w.taken ++ row_in x.0 | false ↦ rows_done k w.taken ]) (ne_eqb h k apart)

      step_followed : IsFollowed (longer w h x)
      step_followed = record {
        program = ap (λ (j : Joining). j.program) m.is ∙ f.program;
        records_are = ap (λ (j : Joining). j.records) m.is ∙ f.records_are;
        refused = ap (λ (j : Joining). j.refused) m.is ∙ f.refused;
        there = λ k low. elim (eqb_tells h k) [
          | inl same ↦ (m.next, subst (λ (n : ℕ). slice_get x.1.lanes n ≡ Some m.next) same.1 same_lane)
          | inr apart ↦ (let was = f.there k low in (was.0, other_lane k apart.1 ∙ was.1))
        ];
        cursors = after_lane (λ k lane. AreOf k lane.cursors) step_goes.cursors (λ k lane apart e. f.cursors k lane e);
        rows = after_lane (λ k lane. rows_done k (record { hart = h; item = x.0 } ∷ w.taken) ++ rows_left lane.cursors ≡ flat_map (interval_rows r k) (intervals_in k records))
            (ap (λ y. y ++ rows_left m.next.cursors) own_rows
            ∙ (append_assoc (rows_done h w.taken) (row_in x.0) (rows_left m.next.cursors)
            ∙ (ap (λ y. rows_done h w.taken ++ y) (sym step_goes.rows) ∙ f.rows h m.lane m.at)))
            (λ k lane apart e. ap (λ y. y ++ rows_left lane.cursors) (other_rows k apart) ∙ f.rows k lane e);
        taken = (step_goes.item_of, f.taken);
      }

    pub followed : (order : List ℕ) (w : Walk) → IsBegun r.program r.settings.harts records order w → IsFollowed w
    followed order w b = along IsFollowed (λ v h x f m. step_followed v h x f m) (begun (begin r records)) order at_first w b.allowed

pub follows : EndsSuffice → IntervalRowsAreOfTurns → OfBeginnings IsFollowed
follows suffice rows_are r records order w log b = followed r records suffice rows_are log order w b
