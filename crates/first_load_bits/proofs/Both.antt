-- Which history a cache of two levels represents after an event.
use Rattle.first_load_bits.proofs.Common.{◌≡◌, ◌≢◌, ℕ, ◌%◌, ◌+◌, ◌*◌, ◌^◌, ◌<◌, ◌≤◌, Bool, true, false, List, [], ◌∷◌, length, length-take, All, ◌-◌, get_or, set, take, drop, map, bit_or, is_some, ◌==◌, ◌↔◌, if◌then◌else◌, refl, sym, ◌∙◌, ap, ap₂, arith, subst, inl, inr, eqb_tells, mod_below, one_shl, bit_at, Way, Geometry, Event, line_of, set_of, second_of, Touch, Drop, Clear, warm, Line, put, lost, put_in, put_lost, taken_out, all_but, cleared, bits_of, bits_known, touched_line, levels, lines_below, in_front, place_of, line_in, known_bits, given_up, has_line, latest_first, HasLine, IsPlaceFor, Level, Contents, RepresentsEvents, lines_of, first_level, second_level, AreKept, IsListed, IsTouch, IsBitsBelow, IsTakenBelow, IsTakenListed, IsFallen, with_ways, with_ways_below}
use Rattle.std.proofs.lemmas.Bool.{lt-ltb}
use Rattle.first_load_bits.specs.declared.warm.Warm.{Warm}
use Rattle.first_load_bits.proofs.Warmth.{warm_is}
use Rattle.first_load_bits.proofs.Order.{length-lines_below, but_here, but_there}
use Rattle.first_load_bits.proofs.Latest.{latest_nil}
use Rattle.first_load_bits.proofs.Bits.{bits_law, nothing}
use Rattle.first_load_bits.proofs.Standing.{IsRead, changed, lines_later, put_keeps, bits_absent, put_goes, put_loses, put_knows, known_read, clear_goes}

-- ---- a set's list after a step depends on its list before

put_at : (g : Geometry) (x : Line) (k : ℕ) (ls ms : ℕ → List Line) → ls k ≡ ms k → put_in g x ls k ≡ put_in g x ms k
put_at g x k ls ms e = ap (λ xs. elim (set_of g x.number == k) as (λ b. List Line) [ true ↦ put g.ways x xs | false ↦ xs ]) e

out_at : (g : Geometry) (l k : ℕ) (ls ms : ℕ → List Line) → ls k ≡ ms k → taken_out g l ls k ≡ taken_out g l ms k
out_at g l k ls ms e = ap (λ xs. elim (set_of g l == k) as (λ b. List Line) [ true ↦ all_but l xs | false ↦ xs ]) e

lost_at : (g : Geometry) (gone : List Line) (k : ℕ) (ls ms : ℕ → List Line) → ls k ≡ ms k → put_lost g gone ls k ≡ put_lost g gone ms k
lost_at g [] k ls ms e = e
lost_at g (x ∷ xs) k ls ms e = put_at g x k ls ms e

-- ---- the bits that are known

-- there are sets of the second level, if they have ways
abbrev pub HasSets : Contents → Type 0
HasSets c = 0 < c.geometry.ways2 → 0 < c.geometry.sets2

bits_below : (c : Contents) (l : ℕ) (es : List Event) → HasSets c → RepresentsEvents c es
    → bits_of l (lines_of (second_level c) (set_of (second_of c.geometry) l)) ≡ bits_of l (lines_below c.geometry (set_of (second_of c.geometry) l) es)
bits_below c l es w h = let s = set_of (second_of c.geometry) l in elim (eqb_tells c.geometry.ways2 0) [
  | inl e ↦
      let none : lines_of (second_level c) s ≡ [] =
      ap (λ n. latest_first c.generation c.steps (take n (drop (s * c.geometry.ways2) c.ways_below))) e.1 ∙ latest_nil c.generation c.steps in
      ap (bits_of l) none ∙ sym (ap (bits_of l) (nothing (lines_below c.geometry s es) (omega (arith, e.1, length-lines_below c.geometry s es))))
  | inr e ↦ let some : 0 < c.geometry.ways2 = let d : c.geometry.ways2 ≢ 0 = e.1 in omega (arith, d) in ap (bits_of l) (h.sets_below s (mod_below l c.geometry.sets2 (w some)))
]

-- what the code reads and finds at an access of line l, with these bits from below
pub record IsFound (c : Contents) (a l first i place below : ℕ) (ws : List Way) (w : Way) : Type 0 where
  pub sets : HasSets c
  pub kept : AreKept (first_level c)
  pub read : IsRead (first_level c) l first ws
  pub at : IsPlaceFor l i ws
  pub way : w ≡ get_or c.ways (first + i) w
  pub line_is : l ≡ line_of c.geometry a
  pub place_is : place ≡ place_of c.geometry a
  pub below_is : IsBitsBelow c l below

known_now : (c : Contents) (a l first i place below : ℕ) (ws : List Way) (w : Way) (es : List Event) → IsFound c a l first i place below ws w → RepresentsEvents c es
    → known_bits c.generation l below w ≡ bits_known c.geometry (line_of c.geometry a) (levels c.geometry es)
known_now c a l first i place below ws w es f h =
    let g : Geometry = c.geometry in
    put_knows (first_level c) l first i below ws w f.kept f.read f.at f.way
    ∙ (ap₂ (λ xs m. elim (is_some (in_front l xs)) as (λ b. ℕ) [ true ↦ bits_of l xs | false ↦ m ]) (h.sets (set_of g l) f.read.below) (f.below_is ∙ bits_below c l es f.sets h)
    ∙ ap (λ k. bits_known g k (levels g es)) f.line_is)

touch_answers : (c : Contents) (a l first i place below : ℕ) (ws : List Way) (w : Way) (es : List Event) → 0 < c.geometry.ways → IsFound c a l first i place below ws w → RepresentsEvents c es
    → (bit_at (known_bits c.generation l below w) place == 1) ≡ warm c.geometry a es
touch_answers c a l first i place below ws w es some f h =
    ap₂ (λ m p. bit_at m p == 1) (known_now c a l first i place below ws w es f h) f.place_is ∙ bits_law c.geometry a es some

-- an answer by a test says Warm if and only if the test holds
answer_says : (b : Bool) (r : Warm) → r ≡ (if b then Warm.Warm else Warm.Cold) → ((r ≡ Warm.Warm) ↔ (b ≡ true))
answer_says true r e = (λ h. refl, λ h. e)
answer_says false r e = (λ h. cc, λ h. cc)

-- ---- an access

-- the way that an access writes
abbrev pub touched_way : Contents → (l place below : ℕ) → Way → Way
touched_way c l place below w = record { line = l; mask = bit_or (known_bits c.generation l below w) (2 ^ place); age = c.steps + 1 }

-- the cache when it is written, with these ways below
abbrev pub touched_cache : Contents → (at : ℕ) → Way → List Way → Contents
touched_cache c at v below = record { geometry = c.geometry; steps = c.steps + 1; generation = c.generation; ways = set c.ways at v; ways_below = below }

touched_is : (c : Contents) (a l first i place below : ℕ) (ws : List Way) (w : Way) (es : List Event) → IsFound c a l first i place below ws w → RepresentsEvents c es
    → line_in c.generation (touched_way c l place below w) ≡ touched_line c.geometry a (levels c.geometry es)
touched_is c a l first i place below ws w es f h =
    counted c.generation (touched_way c l place below w) (omega (arith, f.kept.cleared))
    ∙ ap₂ (λ k m. record { number = k; bits = m }) f.line_is (ap₂ (λ m p. bit_or m (2 ^ p)) (known_now c a l first i place below ws w es f h) f.place_is)
  where
    counted : (g : ℕ) (v : Way) → g < v.age → line_in g v ≡ record { number = v.line; bits = v.mask }
    counted g v e = rw (lt-ltb g v.age e, line_in) refl

pub touch_stands : (c : Contents) (a l first i place below : ℕ) (ws : List Way) (w : Way) (out fallen : List Way) (es : List Event) → IsFound c a l first i place below ws w
    → AreKept (second_level (with_ways_below c out))
    → ((k : ℕ) → k < c.geometry.sets2 → lines_of (second_level (with_ways_below c out)) k ≡ taken_out (second_of c.geometry) l (lines_of (second_level c)) k)
    → (let now : Contents = touched_cache c (first + i) (touched_way c l place below w) out in
    (k : ℕ) → k < c.geometry.sets2 → lines_of (second_level (with_ways_below now fallen)) k ≡ put_lost (second_of c.geometry) (given_up c.generation l w) (lines_of (second_level now)) k)
    → RepresentsEvents c es → RepresentsEvents (touched_cache c (first + i) (touched_way c l place below w) fallen) (Touch a ∷ es)
touch_stands c a l first i place below ws w out fallen es f kept gone fell h = record {
  steps = ap (λ n. n + 1) h.steps;
  sets = λ k m.
      put_goes (first_level c) l first i k ws v f.kept f.read f.at refl refl
      ∙ (put_at g (line_in c.generation v) k (lines_of (first_level c)) (levels g es).first (h.sets k m) ∙ ap (λ (y : Line). put_in g y (levels g es).first k) x_is);
  sets_below = λ k m.
      fell k m
      ∙ (lost_at g2 (given_up c.generation l w) k (lines_of (second_level now)) (taken_out g2 (line_of g a) (levels g es).second) (before k m)
      ∙ ap (λ ys. put_lost g2 ys (taken_out g2 (line_of g a) (levels g es).second) k) lost_is);
}
  where
    g : Geometry
    g = c.geometry

    g2 : Geometry
    g2 = second_of g

    v : Way
    v = touched_way c l place below w

    now : Contents
    now = touched_cache c (first + i) v out

    x : Line
    x = touched_line g a (levels g es)

    x_is : line_in c.generation v ≡ x
    x_is = touched_is c a l first i place below ws w es f h

    lost_is : given_up c.generation l w ≡ lost g.ways x ((levels g es).first (set_of g (line_of g a)))
    lost_is = sym (put_loses (first_level c) l first i ws w x f.kept f.read f.at f.way (sym f.line_is))
        ∙ (ap (lost g.ways x) (h.sets (set_of g l) f.read.below) ∙ ap (λ k. lost g.ways x ((levels g es).first (set_of g k))) f.line_is)

    before : (k : ℕ) → k < g.sets2 → lines_of (second_level now) k ≡ taken_out g2 (line_of g a) (levels g es).second k
    before k m = lines_later (second_level (with_ways_below c out)) k kept
        ∙ (gone k m ∙ (out_at g2 l k (lines_of (second_level c)) (levels g es).second (h.sets_below k m) ∙ ap (λ j. taken_out g2 j (levels g es).second k) f.line_is))

-- the touch by its steps: the line is taken out of the second level, which leaves x; its way is written; and what had to go falls, which leaves r
pub record IsTouched (now x r : Contents) (a l first i place below : ℕ) (ws : List Way) (w : Way) : Type 0 where
  pub taken : IsTakenBelow now l x
  pub sets : HasSets x
  pub kept : AreKept (first_level x)
  pub kept_below : AreKept (second_level x)
  pub read : IsRead (first_level x) l first ws
  pub at : IsPlaceFor l i ws
  pub way : w ≡ get_or x.ways (first + i) w
  pub line_is : l ≡ line_of now.geometry a
  pub place_is : place ≡ place_of now.geometry a
  pub below_is : IsBitsBelow now l below
  pub fallen : IsFallen (touched_cache x (first + i) (touched_way x l place below w) x.ways_below) l w r

found_by : (now x r : Contents) (a l first i place below : ℕ) (ws : List Way) (w : Way) → IsTouched now x r a l first i place below ws w → IsFound now a l first i place below ws w
found_by now x r a l first i place below ws w t = record {
  sets = subst (λ (y : Contents). HasSets y) t.taken.same t.sets;
  kept = subst (λ (y : Contents). AreKept (first_level y)) t.taken.same t.kept;
  read = subst (λ (y : Contents). IsRead (first_level y) l first ws) t.taken.same t.read;
  at = t.at;
  way = subst (λ (y : Contents). w ≡ get_or y.ways (first + i) w) t.taken.same t.way;
  line_is = t.line_is;
  place_is = t.place_is;
  below_is = t.below_is;
}

touch_goes : (now x r : Contents) (a l first i place below : ℕ) (ws : List Way) (w : Way) (es : List Event) → IsTouched now x r a l first i place below ws w → RepresentsEvents now es → RepresentsEvents r (Touch a ∷ es)
touch_goes now x r a l first i place below ws w es t h =
    subst (λ (y : Contents). RepresentsEvents y (Touch a ∷ es)) (sym after)
    (touch_stands now a l first i place below ws w x.ways_below r.ways_below es (found_by now x r a l first i place below ws w t)
    (subst (λ (y : Contents). AreKept (second_level y)) t.taken.same t.kept_below)
    (λ k m. sym (ap (λ (y : Contents). lines_of (second_level y) k) t.taken.same) ∙ t.taken.lines k m)
    (λ k m. sym (ap (λ (y : Contents). lines_of (second_level y) k) after) ∙ fell.lines k m) h)
  where
    fell : IsFallen (touched_cache now (first + i) (touched_way now l place below w) x.ways_below) l w r
    fell = subst (λ (y : Contents). IsFallen (touched_cache y (first + i) (touched_way y l place below w) x.ways_below) l w r) t.taken.same t.fallen

    after : r ≡ touched_cache now (first + i) (touched_way now l place below w) r.ways_below
    after = fell.same

-- so the touch does all that is said of one, if its answer is the bit that was known of the word
pub touch_is : (now x r : Contents) (a l first i place below : ℕ) (ws : List Way) (w : Way) (told : Warm) → 0 < now.geometry.ways
    → IsTouched now x r a l first i place below ws w → told ≡ (if bit_at (known_bits now.generation l below w) place == 1 then Warm.Warm else Warm.Cold) → IsTouch now a told r
touch_is now x r a l first i place below ws w told some t e = record {
  answer = answered;
  history = λ es h.
      let says = answer_says (warm now.geometry a es) told (answered es h) in
      let is = warm_is now.geometry a es some in
      (λ k. is.0 (says.0 k), λ k. says.1 (is.1 k));
  stands = λ es h. touch_goes now x r a l first i place below ws w es t h;
  geometry = ap (λ (y : Contents). y.geometry) t.fallen.same ∙ ap (λ (y : Contents). y.geometry) t.taken.same;
  steps = ap (λ (y : Contents). y.steps) t.fallen.same ∙ ap (λ (y : Contents). y.steps + 1) t.taken.same;
}
  where
    answered : (es : List Event) → RepresentsEvents now es → told ≡ (if warm now.geometry a es then Warm.Warm else Warm.Cold)
    answered es h = e ∙ ap (λ b. if b then Warm.Warm else Warm.Cold) (touch_answers now a l first i place below ws w es some (found_by now x r a l first i place below ws w t) h)

-- ---- what the code reads of a level; now is the cache as its callers see it

pub read_first : (c now : Contents) (l first : ℕ) (ways : List Way) → c ≡ now → 0 < c.geometry.sets → first ≡ set_of now.geometry l * now.geometry.ways → first + now.geometry.ways ≤ length now.ways → ways ≡ c.ways
    → IsRead (first_level c) l first (take (first + c.geometry.ways - first) (drop first ways))
read_first c now l first ways seen some f n w = record {
  first_is = f ∙ ap (λ (x : Contents). set_of x.geometry l * x.geometry.ways) (sym seen);
  within = subst (λ (x : Contents). first + x.geometry.ways ≤ length x.ways) (sym seen) n;
  below = mod_below l c.geometry.sets some;
  ways_are = ap (λ (ws : List Way). take (first + c.geometry.ways - first) (drop first ws)) w;
}

pub read_second : (c now : Contents) (l first : ℕ) (ways : List Way) → c ≡ now → 0 < c.geometry.sets2 → first ≡ set_of (second_of now.geometry) l * now.geometry.ways2 → first + now.geometry.ways2 ≤ length now.ways_below → ways ≡ c.ways_below
    → IsRead (second_level c) l first (take (first + c.geometry.ways2 - first) (drop first ways))
read_second c now l first ways seen some f n w = record {
  first_is = f ∙ ap (λ (x : Contents). set_of (second_of x.geometry) l * x.geometry.ways2) (sym seen);
  within = subst (λ (x : Contents). first + x.geometry.ways2 ≤ length x.ways_below) (sym seen) n;
  below = mod_below l c.geometry.sets2 some;
  ways_are = ap (λ (ws : List Way). take (first + c.geometry.ways2 - first) (drop first ws)) w;
}

-- the mask that is written
pub mask_is : (known given place : ℕ) → place < 16 → known ≡ given → bit_or known (1 * 2 ^ place % 2 ^ 16) ≡ bit_or given (2 ^ place)
mask_is known given place h e = ap₂ bit_or e (one_shl place 16 h)

-- an access of a line that a way has, without a second level
pub listed_is : (x : Contents) (a l first i place : ℕ) (w : Way) (told : Warm) → 0 < x.geometry.ways → 0 < x.geometry.sets → x.geometry.sets2 ≡ 0 → AreKept (first_level x) → AreKept (second_level x)
    → IsListed x a first i → l ≡ line_of x.geometry a → place ≡ place_of x.geometry a → w ≡ get_or x.ways (first + i) w
    → told ≡ (if bit_at (line_in x.generation w).bits place == 1 then Warm.Warm else Warm.Cold)
    → IsTouch x a told (touched_cache x (first + i) (touched_way x l place 0 w) x.ways_below)
listed_is x a l first i place w told some sets none kept kept_below listed line_is place_is way e =
    touch_is x x (touched_cache x (first + i) (touched_way x l place 0 w) x.ways_below) a l first i place 0 ws w told some (record {
      taken = record { same = refl; lines = λ k m. absurd (nowhere k m) };
      sets = has;
      kept = kept;
      kept_below = kept_below;
      read = read;
      at = inl at;
      way = way;
      line_is = line_is;
      place_is = place_is;
      below_is = sym (ap (λ n. bits_of l (latest_first x.generation x.steps (take n (drop (set_of (second_of x.geometry) l * x.geometry.ways2) x.ways_below)))) listed.alone ∙ ap (bits_of l) (latest_nil x.generation x.steps));
      fallen = record { same = refl; lines = λ k m. absurd (nowhere k m) };
    }) (e ∙ ap (λ m. if bit_at m place == 1 then Warm.Warm else Warm.Cold) (known_read (first_level x) l first i 0 ws w read at way))
  where
    ws : List Way
    ws = take (first + x.geometry.ways - first) (drop first x.ways)

    nowhere : (k : ℕ) → k < x.geometry.sets2 → ⊥
    nowhere k m = omega (arith, m, none)

    has : HasSets x
    has m = let alone = listed.alone in absurd (omega (arith, m, alone))

    read : IsRead (first_level x) l first ws
    read = read_first x x l first x.ways refl sets (listed.first_is ∙ ap (λ k. set_of x.geometry k * x.geometry.ways) (sym line_is)) listed.within refl

    at : HasLine l i ws
    at = subst (λ k. HasLine k i ws) (sym line_is) listed.has

-- a place within what is read of the second level shows that it has ways
pub some_ways : (first n at : ℕ) (ways : List Way) → at < length (take (first + n - first) (drop first ways)) → 0 < n
some_ways first n at ways h = let few = length-take (first + n - first) (drop first ways) in omega (arith, h, few)

-- a line that the second level hasn't
pub bits_absent_below : (c : Contents) (l first : ℕ) (ws : List Way) → HasSets c → (0 < c.geometry.sets2 → IsRead (second_level c) l first ws) → All (λ w. has_line l w ≡ false) ws → IsBitsBelow c l 0
bits_absent_below c l first ws sets r none = elim (eqb_tells c.geometry.ways2 0) [
  | inl e ↦ sym (ap (λ n. bits_of l (latest_first c.generation c.steps (take n (drop (set_of (second_of c.geometry) l * c.geometry.ways2) c.ways_below)))) e.1 ∙ ap (bits_of l) (latest_nil c.generation c.steps))
  | inr e ↦ let d : c.geometry.ways2 ≢ 0 = e.1 in bits_absent (second_level c) l first ws (r (sets (omega (arith, d)))) none
]

-- a line that falls to the second level at the touch number n + 1
pub put_below_keeps : (c : Contents) (n l first i : ℕ) (ws : List Way) (v : Way) → c.steps ≡ n + 1 → AreKept (record { geometry = second_of c.geometry; steps = n; generation = c.generation; ways = c.ways_below })
    → IsRead (second_level c) l first ws → IsPlaceFor l i ws → v.line ≡ l → v.age ≡ c.steps → AreKept (changed (second_level c) c.steps (first + i) v)
put_below_keeps c n l first i ws v e k r at line age =
    subst (λ m. AreKept (changed (second_level c) m (first + i) v)) (sym e)
    (put_keeps (record { geometry = second_of c.geometry; steps = n; generation = c.generation; ways = c.ways_below }) l first i ws v k
    (record { first_is = r.first_is; within = r.within; below = r.below; ways_are = r.ways_are }) at line (age ∙ e))

pub put_below_goes : (c : Contents) (n l first i k : ℕ) (ws : List Way) (v : Way) → c.steps ≡ n + 1 → AreKept (record { geometry = second_of c.geometry; steps = n; generation = c.generation; ways = c.ways_below })
    → IsRead (second_level c) l first ws → IsPlaceFor l i ws → v.line ≡ l → v.age ≡ c.steps
    → lines_of (changed (second_level c) c.steps (first + i) v) k ≡ put_in (second_of c.geometry) (line_in c.generation v) (lines_of (second_level c)) k
put_below_goes c n l first i k ws v e h r at line age =
    let before : Level = record { geometry = second_of c.geometry; steps = n; generation = c.generation; ways = c.ways_below } in
    let same : lines_of before k ≡ lines_of (second_level c) k =
    sym (lines_later before k h) ∙ ap (λ m. lines_of (record { geometry = second_of c.geometry; steps = m; generation = c.generation; ways = c.ways_below }) k) (sym e) in
    ap (λ m. lines_of (changed (second_level c) m (first + i) v) k) e
    ∙ (put_goes before l first i k ws v h (record { first_is = r.first_is; within = r.within; below = r.below; ways_are = r.ways_are }) at line (age ∙ e)
    ∙ put_at (second_of c.geometry) (line_in c.generation v) k (lines_of before) (lines_of (second_level c)) same)

-- ---- a drop, a clear, and a new cache

pub drop_stands : (c : Contents) (a l : ℕ) (out kept : List Way) (es : List Event) → l ≡ line_of c.geometry a
    → ((k : ℕ) → k < c.geometry.sets2 → lines_of (second_level (with_ways_below c out)) k ≡ taken_out (second_of c.geometry) l (lines_of (second_level c)) k)
    → ((k : ℕ) → k < c.geometry.sets → lines_of (first_level (with_ways (with_ways_below c out) kept)) k ≡ taken_out c.geometry l (lines_of (first_level c)) k)
    → RepresentsEvents c es → RepresentsEvents (with_ways (with_ways_below c out) kept) (Drop a ∷ es)
drop_stands c a l out kept es e below listed h = record {
  steps = h.steps;
  sets = λ k m. listed k m ∙ (out_at c.geometry l k (lines_of (first_level c)) (levels c.geometry es).first (h.sets k m) ∙ ap (λ j. taken_out c.geometry j (levels c.geometry es).first k) e);
  sets_below = λ k m.
      below k m ∙ (out_at (second_of c.geometry) l k (lines_of (second_level c)) (levels c.geometry es).second (h.sets_below k m) ∙ ap (λ j. taken_out (second_of c.geometry) j (levels c.geometry es).second k) e);
}

pub drop_goes : (now m r : Contents) (a l : ℕ) (es : List Event) → IsTakenBelow now l m → IsTakenListed m l r → l ≡ line_of now.geometry a → RepresentsEvents now es → RepresentsEvents r (Drop a ∷ es)
drop_goes now m r a l es t u e h =
    subst (λ (y : Contents). RepresentsEvents y (Drop a ∷ es)) (sym after)
    (drop_stands now a l m.ways_below r.ways es e
    (λ k n. sym (ap (λ (y : Contents). lines_of (second_level y) k) t.same) ∙ t.lines k n)
    (λ k n. sym (ap (λ (y : Contents). lines_of (first_level y) k) after) ∙ listed k n) h)
  where
    after : r ≡ with_ways (with_ways_below now m.ways_below) r.ways
    after = u.same ∙ ap (λ (y : Contents). with_ways y r.ways) t.same

    listed : (k : ℕ) → k < now.geometry.sets → lines_of (first_level r) k ≡ taken_out now.geometry l (lines_of (first_level now)) k
    listed = subst (λ (y : Contents). (k : ℕ) → k < y.geometry.sets → lines_of (first_level r) k ≡ taken_out y.geometry l (lines_of (first_level y)) k) t.same u.lines

abbrev pub cleared_cache : Contents → Contents
cleared_cache c = record { geometry = c.geometry; steps = c.steps + 1; generation = c.steps + 1; ways = c.ways; ways_below = c.ways_below }

pub clear_stands : (c : Contents) (es : List Event) → AreKept (first_level c) → AreKept (second_level c) → RepresentsEvents c es → RepresentsEvents (cleared_cache c) (Clear ∷ es)
clear_stands c es w v h = record {
  steps = ap (λ x. x + 1) h.steps;
  sets = λ k m. clear_goes (first_level c) k w ∙ ap (map cleared) (h.sets k m);
  sets_below = λ k m. clear_goes (second_level c) k v ∙ ap (map cleared) (h.sets_below k m);
}

-- ---- a second drop of a line right after the first changes nothing

all_but_twice : (l : ℕ) (xs : List Line) → all_but l (all_but l xs) ≡ all_but l xs
all_but_twice l [] = refl
all_but_twice l (x ∷ xs) = elim (eqb_tells x.number l) [
  | inl p ↦ ap (all_but l) (but_here l x xs p.0) ∙ (all_but_twice l xs ∙ sym (but_here l x xs p.0))
  | inr p ↦ ap (all_but l) (but_there l x xs p.0) ∙ (but_there l x (all_but l xs) p.0 ∙ (ap (λ (ys : List Line). x ∷ ys) (all_but_twice l xs) ∙ sym (but_there l x xs p.0)))
]

where_taken : (here : Bool) (l : ℕ) (xs : List Line)
    → elim here as (λ b. List Line) [ true ↦ all_but l (elim here as (λ b. List Line) [ true ↦ all_but l xs | false ↦ xs ]) | false ↦ elim here as (λ b. List Line) [ true ↦ all_but l xs | false ↦ xs ] ]
    ≡ elim here as (λ b. List Line) [ true ↦ all_but l xs | false ↦ xs ]
where_taken true l xs = all_but_twice l xs
where_taken false l xs = refl

taken_twice : (g : Geometry) (l : ℕ) (ls : ℕ → List Line) (k : ℕ) → taken_out g l (taken_out g l ls) k ≡ taken_out g l ls k
taken_twice g l ls k = where_taken (set_of g l == k) l (ls k)

pub second_drop : (c : Contents) (a b : ℕ) (es : List Event) → line_of c.geometry a ≡ line_of c.geometry b → RepresentsEvents c (Drop b ∷ es) → RepresentsEvents c (Drop a ∷ Drop b ∷ es)
second_drop c a b es same s =
    let g = c.geometry in
    let h = second_of c.geometry in
    let xs = (levels g es).first in
    let ys = (levels g es).second in
    record {
      steps = s.steps;
      sets = λ k lt. s.sets k lt ∙ sym (ap (λ (l : ℕ). taken_out g l (taken_out g (line_of g b) xs) k) same ∙ taken_twice g (line_of g b) xs k);
      sets_below = λ k lt. s.sets_below k lt ∙ sym (ap (λ (l : ℕ). taken_out h l (taken_out h (line_of g b) ys) k) same ∙ taken_twice h (line_of g b) ys k);
    }
