-- The rows and points of whole runs.
use Rattle.row_laws.proofs.Common.{◌≡◌, ℕ, suc, ◌+◌, Bool, true, false, List, [], ◌∷◌, ◌++◌, take, length, Option, Some, None, refl, sym, ◌∙◌, ap, subst, inl, inr, arith, ◌==◌, slice_get, slice_index, eq-eqb, append_assoc, Program, IsSetting, Row, RawSettings, HartState, access_point, Point, Read, Write, aligned, word_count, rows_of, turn_rows, start, run_of, run_from, legal_from, Run, turn, points_after, AddsCall, IsFill, TurnRowsAreRows, RunRowsTellWords, RunWritersHaveRows, RunFillRowsFill, RunCallsAccess, state_after, word_point, Adds, memory_after, want_at, point_at, run_append, old_at, get_new}
use Rattle.system_calls.specs.declared.effect.Plan.TheVariants as plans
use Rattle.row_laws.proofs.Along.{after_append}
use Rattle.row_laws.proofs.Filling.{fill_rows_fill}
use Rattle.row_laws.proofs.Sending.{send_rows_send, call_inside}
use Rattle.row_laws.proofs.Lists.{Known, AreMoves, all_move, both_move, rows_by, along}
use Rattle.row_laws.proofs.Places.{points_are_of_turns}
use Rattle.row_laws.proofs.Telling.{rows_tell_words}
use Rattle.row_laws.proofs.Writers.{writers_have_rows}
use Rattle.row_laws.proofs.Asked.{turn_served, DecidesWrites}

-- ---- rows

pub rows_append : (c : RawSettings) (i : Program) (h : ℕ) (a b : List ℕ) (run : Run) → rows_of c i run (a ++ b) h ≡ rows_of c i run a h ++ rows_of c i (run_from c i run a) b h
rows_append c i h [] b run = refl
rows_append c i h (k ∷ ks) b run = by (k == h) (rows_append c i h ks b (turn c i run k))
  where
    by : (x : Bool) → rows_of c i (turn c i run k) (ks ++ b) h ≡ rows_of c i (turn c i run k) ks h ++ rows_of c i (run_from c i (turn c i run k) ks) b h
        → rows_by x (turn_rows c i run h) (rows_of c i (turn c i run k) (ks ++ b) h) ≡ rows_by x (turn_rows c i run h) (rows_of c i (turn c i run k) ks h) ++ rows_of c i (run_from c i (turn c i run k) ks) b h
    by true e = ap (λ x. turn_rows c i run h ++ x) e ∙ sym (append_assoc (turn_rows c i run h) (rows_of c i (turn c i run k) ks h) (rows_of c i (run_from c i (turn c i run k) ks) b h))
    by false e = e

own_rows : (c : RawSettings) (i : Program) (h : ℕ) (ks : List ℕ) (run : Run) → rows_of c i run (h ∷ ks) h ≡ turn_rows c i run h ++ rows_of c i (turn c i run h) ks h
own_rows c i h ks run = ap (λ x. rows_by x (turn_rows c i run h) (rows_of c i (turn c i run h) ks h)) (eq-eqb h h refl)

-- the turns before a turn, and those from it on, move their harts
moves_at : Known → (c : RawSettings) (i : Program) (input b front : List ℕ) (h : ℕ) (back : List ℕ) → IsSetting c → legal_from c i (start c i input) b ≡ true → b ≡ front ++ h ∷ back
    → AreMoves c i (start c i input) front × AreMoves c i (run_of c i input front) (h ∷ back)
moves_at known c i input b front h back setting legal e =
    both_move c i front (h ∷ back) (start c i input) (subst (AreMoves c i (start c i input)) e (all_move known c i input [] b setting legal))

pub turn_rows_are_rows : Known → TurnRowsAreRows
turn_rows_are_rows known c i input b h before r setting legal is =
    let o = moves_at known c i input b is.front h is.back setting legal is.turns in
    let s : HartState = ((start c i input).harts h).state in
    let run : Run = run_of c i input is.front in
    let first : List Row = rows_of c i (start c i input) is.front h in
    let last : List Row = rows_of c i (turn c i run h) is.back h in
    let to : state_after i s first ≡ (run.harts h).state = (along c i h is.front (start c i input) o.0).1 in
    record {
      front = first ++ is.has.front;
      back = is.has.back ++ last;
      rows_are = ap (λ x. rows_of c i (start c i input) x h) is.turns
          ∙ (rows_append c i h is.front (h ∷ is.back) (start c i input)
          ∙ (ap (λ x. first ++ x) (own_rows c i h is.back run ∙ (ap (λ x. x ++ last) is.has.rows_are ∙ append_assoc is.has.front (r ∷ is.has.back) last))
          ∙ sym (append_assoc first is.has.front (r ∷ (is.has.back ++ last)))));
      state = is.has.state ∙ (ap (λ (u : HartState). state_after i u is.has.front) (sym to) ∙ sym (after_append i s first is.has.front));
    }

-- ---- points stay

stays_by : (o : Option Point) (ps : List Point) (m : ℕ) (p : Point) → slice_get ps m ≡ Some p → slice_get (points_after o ps) m ≡ Some p
stays_by None ps m p e = e
stays_by (Some q) ps m p e = old_at ps q m p e

points_stay : (c : RawSettings) (i : Program) (m : ℕ) (p : Point) (ks : List ℕ) (run : Run) → AreMoves c i run ks → slice_get run.points m ≡ Some p → slice_get (run_from c i run ks).points m ≡ Some p
points_stay c i m p [] run o e = e
points_stay c i m p (k ∷ ks) run o e =
    points_stay c i m p ks (turn c i run k) o.1
    (ap (λ (x : Run). slice_get x.points m) (turn_served c i run k o.0.asks) ∙ stays_by (point_at c i run k) run.points m p e)

-- the point that a turn of a list adds is one of the run's
added_at : Known → (c : RawSettings) (i : Program) (input b front : List ℕ) (h : ℕ) (back : List ℕ) (p : Point) → IsSetting c → legal_from c i (start c i input) b ≡ true
    → b ≡ front ++ h ∷ back → Adds c i (run_of c i input front) h p → slice_get (run_of c i input b).points (length (run_of c i input front).points) ≡ Some p
added_at known c i input b front h back p setting legal e adds =
    let o = moves_at known c i input b front h back setting legal e in
    let run : Run = run_of c i input front in
    let now : slice_get (turn c i run h).points (length run.points) ≡ Some p = ap (λ x. slice_get x (length run.points)) adds ∙ get_new run.points p in
    ap (λ (x : Run). slice_get x.points (length run.points)) (ap (run_of c i input) e ∙ run_append c i (start c i input) front (h ∷ back))
    ∙ points_stay c i (length run.points) p back (turn c i run h) o.1.1 now

-- ---- turns are counted

turns_are : (c : RawSettings) (i : Program) (ks : List ℕ) (run : Run) → AreMoves c i run ks → (run_from c i run ks).turns ≡ run.turns + length ks
turns_are c i [] run o = omega arith
turns_are c i (k ∷ ks) run o =
    let rest = turns_are c i ks (turn c i run k) o.1 in
    let up : (turn c i run k).turns ≡ run.turns + 1 = ap (λ (y : Run). y.turns) (turn_served c i run k o.0.asks) in
    omega (arith, rest, up)

take_turn : (front : List ℕ) (h : ℕ) (back : List ℕ) → take (suc (length front)) (front ++ h ∷ back) ≡ front ++ h ∷ []
take_turn [] h back = refl
take_turn (k ∷ ks) h back = ap (λ x. k ∷ x) (take_turn ks h back)

-- memory right after the turn
memory_then : Known → (c : RawSettings) (i : Program) (input b front : List ℕ) (h : ℕ) (back : List ℕ) (n a : ℕ) → b ≡ front ++ h ∷ back → n ≡ length front
    → memory_after c i input b n a ≡ (turn c i (run_of c i input front) h).machine.memory a
memory_then known c i input b front h back n a e f =
    let size : n + 1 ≡ suc (length front) = omega (arith, f) in
    let upto : take (n + 1) b ≡ front ++ h ∷ [] = ap (λ k. take k b) size ∙ (ap (take (suc (length front))) e ∙ take_turn front h back) in
    ap (λ (x : Run). x.machine.memory a) (ap (run_of c i input) upto ∙ run_append c i (start c i input) front (h ∷ []))

turn_number : Known → (c : RawSettings) (i : Program) (input b front : List ℕ) (h : ℕ) (back : List ℕ) → IsSetting c → legal_from c i (start c i input) b ≡ true → b ≡ front ++ h ∷ back
    → (run_of c i input front).turns ≡ length front
turn_number known c i input b front h back setting legal e = let t = turns_are c i front (start c i input) (moves_at known c i input b front h back setting legal e).0 in omega (arith, t)

-- ---- the laws

pub run_rows_tell_words : Known → RunRowsTellWords
run_rows_tell_words known c i input b h before r a word setting legal is e =
    let run : Run = run_of c i input is.front in
    let o = moves_at known c i input b is.front h is.back setting legal is.turns in
    let tells = rows_tell_words c i run h before r a word o.1.0.asks is.has e in
    record {
      place = length run.points;
      point = word_point h run.turns r a;
      at = added_at known c i input b is.front h is.back (word_point h run.turns r a) setting legal is.turns tells.1;
      is = refl;
      value = memory_then known c i input b is.front h is.back run.turns a is.turns (turn_number known c i input b is.front h is.back setting legal is.turns) ∙ tells.0;
    }

pub run_writers_have_rows : DecidesWrites → Known → RunWritersHaveRows
run_writers_have_rows decides known c i input b m p a setting codes legal e w =
    let x = points_are_of_turns known c i input b m p setting legal e in
    let run : Run = run_of c i input x.front in
    let o = moves_at known c i input b x.front p.hart x.back setting legal x.turns in
    let y = writers_have_rows decides c i run p.hart p a codes o.1.0.asks x.adds w in
    let then_is = memory_then known c i input b x.front p.hart x.back p.turn a x.turns x.turn_is in
    record {
      before = y.before;
      row = y.row;
      has = turn_rows_are_rows known c i input b p.hart y.before y.row setting legal (record { front = x.front; back = x.back; turns = x.turns; has = y.has });
      count = y.count;
      writes = elim y.writes [ inl z ↦ inl (z ∙ ap Some (sym then_is)) | inr z ↦ inr z ];
    }

pub run_fill_rows_fill : DecidesWrites → Known → RunFillRowsFill
run_fill_rows_fill decides known c i input b h before r n setting legal is f =
    let run : Run = run_of c i input is.front in
    let o = moves_at known c i input b is.front h is.back setting legal is.turns in
    let address : ℕ = slice_index before.x 11 in
    let x : IsFill c i run h address n r.ic = fill_rows_fill decides c i run h before r n o.1.0.asks is.has f in
    record {
      place = length run.points;
      point = access_point h r.ic run.turns (aligned address) (word_count address n) Write;
      at = added_at known c i input b is.front h is.back (access_point h r.ic run.turns (aligned address) (word_count address n) Write) setting legal is.turns x.adds;
      is = refl;
      writes = x.writes;
    }

pub run_calls_access : DecidesWrites → Known → RunCallsAccess
run_calls_access decides known = record {
  fills = λ c i input b h before r n setting legal is f.
      (let run : Run = run_of c i input is.front in
      let o = moves_at known c i input b is.front h is.back setting legal is.turns in
      let address : ℕ = slice_index before.x 11 in
      let x : IsFill c i run h address n r.ic = fill_rows_fill decides c i run h before r n o.1.0.asks is.has f in
      record {
        place = length run.points;
        point = access_point h r.ic run.turns (aligned address) (word_count address n) Write;
        at = added_at known c i input b is.front h is.back (access_point h r.ic run.turns (aligned address) (word_count address n) Write) setting legal is.turns x.adds;
        is = refl;
        within = call_inside i run.machine (want_at c i run h) (plans.Fill address n) x.planned f.low;
      });
  sends = λ c i input b h before r n setting legal is f.
      (let run : Run = run_of c i input is.front in
      let o = moves_at known c i input b is.front h is.back setting legal is.turns in
      let address : ℕ = slice_index before.x 11 in
      let x : AddsCall c i run h address n r.ic Read = send_rows_send c i run h before r n o.1.0.asks is.has f in
      record {
        place = length run.points;
        point = access_point h r.ic run.turns (aligned address) (word_count address n) Read;
        at = added_at known c i input b is.front h is.back (access_point h r.ic run.turns (aligned address) (word_count address n) Read) setting legal is.turns x.adds;
        is = refl;
        within = x.within;
      });
}
