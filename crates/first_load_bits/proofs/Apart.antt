-- The ways of a set when one of them changes: they stay apart, and list the lines that the rules of a cache give.
use Rattle.first_load_bits.proofs.Common.{◌≡◌, ◌≢◌, ℕ, zero, suc, ◌+◌, ◌<◌, ◌≤◌, true, false, List, [], ◌∷◌, ◌++◌, length, get_or, set, take, take_all, take_at, drop_at, drop, drop_of_length-le, is_some, add-one, All, AllPairs, sym, ◌∙◌, ap, arith, inl, inr, cases_Bool, cases_lt, true≢false, nat_tests, set-get_or, All-nil, All-cons, All-head, All-tail, All-set, All-weaker, All-get_or, AllPairs-cons, Way, Line, bits_of, all_but, put, lost, in_front, has_line, has_other, given_up, known_bits, line_in, latest_first, AreApart, HasLine, IsPlaceFor}
use Rattle.first_load_bits.proofs.Latest.{others_of, length-others, All-others, latest_other, latest_newest, latest_oldest, length-latest, length-latest_full, but_none, but_only, bits_only, front_only}
use Rattle.first_load_bits.proofs.Order.{in_front_gone}

-- ---- ways that are apart

turned : (v w : Way) → AreApart v w → AreApart w v
turned v w h p q = let d = h q p in ((λ e. d.0 (sym e)), λ e. d.1 (sym e))

first_apart : (w : Way) (ws : List Way) → AllPairs AreApart (w ∷ ws) → All (AreApart w) ws
first_apart w ws h = λ k d l. h 0 (suc k) d (omega arith) (omega arith)

rest_apart : (w : Way) (ws : List Way) → AllPairs AreApart (w ∷ ws) → AllPairs AreApart ws
rest_apart w ws h = λ i j d l m. h (suc i) (suc j) d (omega arith) (omega arith)

pub others_apart : (d : Way) (ws : List Way) (i : ℕ) → i < length ws → AllPairs AreApart ws → All (AreApart (get_or ws i d)) (others_of ws i)
others_apart d [] i l h = absurd (omega arith)
others_apart d (w ∷ ws) zero l h = first_apart w ws h
others_apart d (w ∷ ws) (suc i) l h =
    All-cons (AreApart (get_or ws i d)) w (others_of ws i) (turned w (get_or ws i d) (All-get_or (AreApart w) ws i d (omega arith) (first_apart w ws h))) (others_apart d ws i (omega arith) (rest_apart w ws h))

pub set_apart : (v : Way) (ws : List Way) (i : ℕ) → i < length ws → AllPairs AreApart ws → All (AreApart v) (others_of ws i) → AllPairs AreApart (set ws i v)
set_apart v [] i l h o = absurd (omega arith)
set_apart v (w ∷ ws) zero l h o = AllPairs-cons AreApart v ws o (rest_apart w ws h)
set_apart v (w ∷ ws) (suc i) l h o =
    AllPairs-cons AreApart w (set ws i v) (All-set (AreApart w) ws i v (turned v w (All-head (AreApart v) w (others_of ws i) o)) (first_apart w ws h))
    (set_apart v ws i (omega arith) (rest_apart w ws h) (All-tail (AreApart v) w (others_of ws i) o))

-- ---- what it is to have a line

has_parts : (l : ℕ) (w : Way) → has_line l w ≡ true → (0 < w.age) × (w.line ≡ l)
has_parts l w h = (grind (arith, nat_tests), grind (arith, nat_tests))

has_from : (l : ℕ) (w : Way) → 0 < w.age → w.line ≡ l → has_line l w ≡ true
has_from l w p e = grind (arith, nat_tests)

has_not : (l : ℕ) (v w : Way) → 0 < v.age → v.line ≡ l → AreApart v w → has_line l w ≡ false
has_not l v w p e a = elim (cases_Bool (has_line l w)) [
  | inl t ↦ let q = has_parts l w t in absurd ((a p q.0).1 (e ∙ sym q.1))
  | inr f ↦ f
]

-- no other way has the line
pub none_other : (d : Way) (ws : List Way) (i l : ℕ) → i < length ws → AllPairs AreApart ws → has_line l (get_or ws i d) ≡ true → All (λ w. has_line l w ≡ false) (others_of ws i)
none_other d ws i l k h t = let p = has_parts l (get_or ws i d) t in
    All-weaker (AreApart (get_or ws i d)) (λ w. has_line l w ≡ false) (λ w a. has_not l (get_or ws i d) w p.0 p.1 a) (others_of ws i) (others_apart d ws i k h)

-- a place for a line lies within, and no other way has the line
pub place_within : (ws : List Way) (i l : ℕ) → IsPlaceFor l i ws → i < length ws
place_within ws i l (inl h) = h.0
place_within ws i l (inr h) = h.1.0

pub none_beside : (d : Way) (ws : List Way) (i l : ℕ) → AllPairs AreApart ws → IsPlaceFor l i ws → All (λ w. has_line l w ≡ false) (others_of ws i)
none_beside d ws i l h (inl p) = none_other d ws i l p.0 h (p.1 d)
none_beside d ws i l h (inr p) = All-others (λ w. has_line l w ≡ false) ws i p.0

-- a way that is younger than the others and has a line that none of them has
pub newest_apart : (n l : ℕ) (v : Way) (ws : List Way) → v.age ≡ suc n → v.line ≡ l → All (λ w. w.age ≤ n) ws → All (λ w. has_line l w ≡ false) ws → All (AreApart v) ws
newest_apart n l v [] a e o h = All-nil (AreApart v)
newest_apart n l v (w ∷ ws) a e o h =
    All-cons (AreApart v) w ws (λ p q. ((λ r. let older : w.age ≤ n = All-head (λ w. w.age ≤ n) w ws o in omega (arith, older, r, a)), λ r. other q (sym e ∙ r)))
    (newest_apart n l v ws a e (All-tail (λ w. w.age ≤ n) w ws o) (All-tail (λ w. has_line l w ≡ false) w ws h))
  where
    other : 0 < w.age → l ≡ w.line → ⊥
    other q r = let f : has_line l w ≡ false = All-head (λ w. has_line l w ≡ false) w ws h in
        true≢false (sym (has_from l w q (sym r)) ∙ f)

-- ---- the bits of the line at its place

-- of a line that a way has
pub bits_there_are : (g n l : ℕ) (d : Way) (ws : List Way) (i : ℕ) → AllPairs AreApart ws → All (λ w. w.age ≤ n) ws → HasLine l i ws
    → (line_in g (get_or ws i d)).bits ≡ bits_of l (latest_first g n ws)
bits_there_are g n l d ws i h o p =
    let w = get_or ws i d in
    let t = has_parts l w (p.1 d) in
    sym (bits_only g n l w ws i p.0 t.1 t.0 (All-get_or (λ w. w.age ≤ n) ws i d p.0 o) (none_other d ws i l p.0 h (p.1 d)))
    ∙ ap (λ xs. bits_of l (latest_first g n xs)) (set-get_or ws i d)

-- the line is listed if and only if its place has it
pub listed_there : (g n l : ℕ) (d : Way) (ws : List Way) (i : ℕ) → AllPairs AreApart ws → All (λ w. w.age ≤ n) ws → IsPlaceFor l i ws
    → is_some (in_front l (latest_first g n ws)) ≡ has_line l (get_or ws i d)
listed_there g n l d ws i h o (inl p) =
    let w = get_or ws i d in
    let t = has_parts l w (p.1 d) in
    sym (ap (λ xs. is_some (in_front l (latest_first g n xs))) (set-get_or ws i d))
    ∙ (front_only g n l w ws i p.0 t.1 t.0 (All-get_or (λ w. w.age ≤ n) ws i d p.0 o) ∙ sym (p.1 d))
listed_there g n l d ws i h o (inr p) =
    ap (λ xs. is_some (in_front l xs)) (sym (but_none g n l ws p.0)) ∙ (ap is_some (in_front_gone l (latest_first g n ws)) ∙ sym (All-get_or (λ w. has_line l w ≡ false) ws i d p.1.0 p.0))

pub known_there : (g n l others : ℕ) (d : Way) (ws : List Way) (i : ℕ) → AllPairs AreApart ws → All (λ w. w.age ≤ n) ws → IsPlaceFor l i ws
    → known_bits g l others (get_or ws i d) ≡ elim (is_some (in_front l (latest_first g n ws))) as (λ b. ℕ) [ true ↦ bits_of l (latest_first g n ws) | false ↦ others ]
known_there g n l others d ws i h o at =
    told_by at
  where
    told_by : IsPlaceFor l i ws → known_bits g l others (get_or ws i d) ≡ elim (is_some (in_front l (latest_first g n ws))) as (λ b. ℕ) [ true ↦ bits_of l (latest_first g n ws) | false ↦ others ]
    told_by (inl p) =
        ap (λ b. elim b as (λ x. ℕ) [ true ↦ (line_in g (get_or ws i d)).bits | false ↦ others ]) (p.1 d)
        ∙ (bits_there_are g n l d ws i h o p ∙ sym (ap (λ b. elim b as (λ x. ℕ) [ true ↦ bits_of l (latest_first g n ws) | false ↦ others ]) (listed_there g n l d ws i h o (inl p) ∙ p.1 d)))
    told_by (inr p) = let f : has_line l (get_or ws i d) ≡ false = All-get_or (λ w. has_line l w ≡ false) ws i d p.1.0 p.0 in
        ap (λ b. elim b as (λ x. ℕ) [ true ↦ (line_in g (get_or ws i d)).bits | false ↦ others ]) f
        ∙ sym (ap (λ b. elim b as (λ x. ℕ) [ true ↦ bits_of l (latest_first g n ws) | false ↦ others ]) (listed_there g n l d ws i h o (inr p) ∙ f))

-- ---- the lines after an access and after a drop

-- the others fill all places but one
full_room : (g n : ℕ) (ws : List Way) (i : ℕ) (x : Line) → i < length ws → take (length ws) (x ∷ latest_first g n (others_of ws i)) ≡ x ∷ latest_first g n (others_of ws i)
full_room g n ws i x l = ap (λ k. take k (x ∷ latest_first g n (others_of ws i))) (length-others ws i l)
    ∙ ap (λ xs. x ∷ xs) (take_all (length (others_of ws i)) (latest_first g n (others_of ws i)) (length-latest g n (others_of ws i)))

-- the others are older than those that aren't, and none is empty
younger : (v : Way) (ws : List Way) → 0 < v.age → All (λ w. v.age ≤ w.age) ws → All (AreApart v) ws → All (λ w. v.age < w.age) ws
younger v [] p h a = All-nil (λ w. v.age < w.age)
younger v (w ∷ ws) p h a =
    let low : v.age ≤ w.age = All-head (λ w. v.age ≤ w.age) w ws h in
    let differ : v.age ≢ w.age = (All-head (AreApart v) w ws a p (omega arith)).0 in
    All-cons (λ w. v.age < w.age) w ws (omega (arith, low, differ)) (younger v ws p (All-tail (λ w. v.age ≤ w.age) w ws h) (All-tail (AreApart v) w ws a))

all_in : (v : Way) (n : ℕ) (ws : List Way) → 0 < v.age → All (λ w. v.age < w.age) ws → All (λ w. w.age ≤ n) ws → All (λ w. (0 < w.age) × (w.age ≤ n)) ws
all_in v n [] p h o = All-nil (λ w. (0 < w.age) × (w.age ≤ n))
all_in v n (w ∷ ws) p h o =
    let low : v.age < w.age = All-head (λ w. v.age < w.age) w ws h in
    All-cons (λ w. (0 < w.age) × (w.age ≤ n)) w ws (omega (arith, low), All-head (λ w. w.age ≤ n) w ws o) (all_in v n ws p (All-tail (λ w. v.age < w.age) w ws h) (All-tail (λ w. w.age ≤ n) w ws o))

-- what the others list is what all list without the line, as far as there is room
pub room_made : (g n l : ℕ) (d : Way) (ws : List Way) (i : ℕ) (x : Line) → AllPairs AreApart ws → All (λ w. w.age ≤ n) ws → IsPlaceFor l i ws
    → x ∷ latest_first g n (others_of ws i) ≡ take (length ws) (x ∷ all_but l (latest_first g n ws))
room_made g n l d ws i x h o (inl p) =
    let w = get_or ws i d in
    let gone : latest_first g n (others_of ws i) ≡ all_but l (latest_first g n ws) =
    sym (but_only g n l w ws i p.0 (has_parts l w (p.1 d)).1 (none_other d ws i l p.0 h (p.1 d))) ∙ ap (λ xs. all_but l (latest_first g n xs)) (set-get_or ws i d) in
    sym (full_room g n ws i x p.0) ∙ ap (λ xs. take (length ws) (x ∷ xs)) gone
room_made g n l d ws i x h o (inr p) = elim (cases_lt 0 (get_or ws i d).age) [
  | inl q ↦
      let w = get_or ws i d in
      let later : All (λ v. w.age < v.age) (others_of ws i) = younger w (others_of ws i) q (All-others (λ v. w.age ≤ v.age) ws i (p.1.1 d)) (others_apart d ws i p.1.0 h) in
      let last : latest_first g n ws ≡ latest_first g n (others_of ws i) ++ line_in g w ∷ [] =
      sym (ap (latest_first g n) (set-get_or ws i d)) ∙ latest_oldest g n w ws i p.1.0 q (All-get_or (λ w. w.age ≤ n) ws i d p.1.0 o) later in
      let count = length-latest_full g n (others_of ws i) (all_in w n (others_of ws i) q later (All-others (λ w. w.age ≤ n) ws i o)) in
      sym (ap (λ xs. take (length ws) (x ∷ xs)) (but_none g n l ws p.0 ∙ last) ∙ (ap (λ k. take k (x ∷ latest_first g n (others_of ws i) ++ line_in g w ∷ [])) (length-others ws i p.1.0)
      ∙ ap (λ xs. x ∷ xs) (take_at (latest_first g n (others_of ws i)) (line_in g w ∷ []) (length (others_of ws i)) count)))
  | inr q ↦
      let w = get_or ws i d in
      let same : latest_first g n (others_of ws i) ≡ latest_first g n ws =
      sym (latest_other g n w ws i p.1.0 (λ m k e. omega arith)) ∙ ap (latest_first g n) (set-get_or ws i d) in
      sym (full_room g n ws i x p.1.0) ∙ ap (λ xs. take (length ws) (x ∷ xs)) (same ∙ sym (but_none g n l ws p.0))
]

pub put_lines : (g n l : ℕ) (v : Way) (ws : List Way) (i : ℕ) → AllPairs AreApart ws → All (λ w. w.age ≤ n) ws → IsPlaceFor l i ws → v.line ≡ l → v.age ≡ n + 1
    → latest_first g (n + 1) (set ws i v) ≡ put (length ws) (line_in g v) (latest_first g n ws)
put_lines g n l v ws i h o at e a =
    ap (λ k. latest_first g k (set ws i v)) (add-one n)
    ∙ (latest_newest g n v ws i (place_within ws i l at) (a ∙ add-one n) (All-others (λ w. w.age ≤ n) ws i o)
    ∙ (room_made g n l v ws i (line_in g v) h o at ∙ ap (λ k. take (length ws) (line_in g v ∷ all_but k (latest_first g n ws))) (sym e)))

-- ---- the line that has to go

other_from : (l : ℕ) (w : Way) → 0 < w.age → has_line l w ≡ false → has_other l w ≡ true
other_from l w p h = grind (arith, nat_tests)

other_not : (l : ℕ) (w : Way) → has_line l w ≡ true → has_other l w ≡ false
other_not l w h = grind (arith, nat_tests)

other_empty : (l : ℕ) (w : Way) → w.age ≡ 0 → has_other l w ≡ false
other_empty l w h = grind (arith, nat_tests)

-- there is room for the others and one more
none_over : (g n : ℕ) (ws : List Way) (i : ℕ) (x : Line) → i < length ws → drop (length ws) (x ∷ latest_first g n (others_of ws i)) ≡ []
none_over g n ws i x l =
    ap (λ k. drop k (x ∷ latest_first g n (others_of ws i))) (length-others ws i l) ∙ drop_of_length-le (latest_first g n (others_of ws i)) (length-latest g n (others_of ws i))

pub lost_lines : (g n l : ℕ) (d : Way) (ws : List Way) (i : ℕ) (x : Line) → AllPairs AreApart ws → All (λ w. w.age ≤ n) ws → IsPlaceFor l i ws → x.number ≡ l
    → lost (length ws) x (latest_first g n ws) ≡ given_up g l (get_or ws i d)
lost_lines g n l d ws i x h o (inl p) e =
    let w = get_or ws i d in
    let gone : all_but x.number (latest_first g n ws) ≡ latest_first g n (others_of ws i) =
    ap (λ k. all_but k (latest_first g n ws)) e ∙ (sym (ap (λ xs. all_but l (latest_first g n xs)) (set-get_or ws i d)) ∙ but_only g n l w ws i p.0 (has_parts l w (p.1 d)).1 (none_other d ws i l p.0 h (p.1 d))) in
    let not_other : given_up g l w ≡ [] = ap (λ b. elim b as (λ y. List Line) [ true ↦ line_in g w ∷ [] | false ↦ [] ]) (other_not l w (p.1 d)) in
    ap (λ xs. drop (length ws) (x ∷ xs)) gone ∙ (none_over g n ws i x p.0 ∙ sym not_other)
lost_lines g n l d ws i x h o (inr p) e = elim (cases_lt 0 (get_or ws i d).age) [
  | inl q ↦
      let w = get_or ws i d in
      let later : All (λ v. w.age < v.age) (others_of ws i) = younger w (others_of ws i) q (All-others (λ v. w.age ≤ v.age) ws i (p.1.1 d)) (others_apart d ws i p.1.0 h) in
      let last : latest_first g n ws ≡ latest_first g n (others_of ws i) ++ line_in g w ∷ [] =
      sym (ap (latest_first g n) (set-get_or ws i d)) ∙ latest_oldest g n w ws i p.1.0 q (All-get_or (λ w. w.age ≤ n) ws i d p.1.0 o) later in
      let count = length-latest_full g n (others_of ws i) (all_in w n (others_of ws i) q later (All-others (λ w. w.age ≤ n) ws i o)) in
      let other : given_up g l w ≡ line_in g w ∷ [] =
      ap (λ b. elim b as (λ y. List Line) [ true ↦ line_in g w ∷ [] | false ↦ [] ]) (other_from l w q (All-get_or (λ w. has_line l w ≡ false) ws i d p.1.0 p.0)) in
      ap (λ k. drop (length ws) (x ∷ all_but k (latest_first g n ws))) e
      ∙ (ap (λ xs. drop (length ws) (x ∷ xs)) (but_none g n l ws p.0 ∙ last) ∙ (ap (λ k. drop k (x ∷ latest_first g n (others_of ws i) ++ line_in g w ∷ [])) (length-others ws i p.1.0)
      ∙ (drop_at (latest_first g n (others_of ws i)) (line_in g w ∷ []) (length (others_of ws i)) count ∙ sym other)))
  | inr q ↦
      let w = get_or ws i d in
      let same : latest_first g n ws ≡ latest_first g n (others_of ws i) =
      sym (ap (latest_first g n) (set-get_or ws i d)) ∙ latest_other g n w ws i p.1.0 (λ m k r. omega arith) in
      let not_other : given_up g l w ≡ [] = ap (λ b. elim b as (λ y. List Line) [ true ↦ line_in g w ∷ [] | false ↦ [] ]) (other_empty l w (omega arith)) in
      ap (λ k. drop (length ws) (x ∷ all_but k (latest_first g n ws))) e
      ∙ (ap (λ xs. drop (length ws) (x ∷ xs)) (but_none g n l ws p.0 ∙ same) ∙ (none_over g n ws i x p.1.0 ∙ sym not_other))
]

-- ---- a line taken out

pub dropped_lines : (g n l : ℕ) (v : Way) (ws : List Way) (i : ℕ) → AllPairs AreApart ws → HasLine l i ws → v.age ≡ 0
    → latest_first g n (set ws i v) ≡ all_but l (latest_first g n ws)
dropped_lines g n l v ws i h p e =
    let w = get_or ws i v in
    latest_other g n v ws i p.0 (λ m k q. omega (arith, e, q))
    ∙ (sym (but_only g n l w ws i p.0 (has_parts l w (p.1 v)).1 (none_other v ws i l p.0 h (p.1 v))) ∙ ap (λ xs. all_but l (latest_first g n xs)) (set-get_or ws i v))
