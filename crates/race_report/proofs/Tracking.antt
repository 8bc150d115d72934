-- The accesses of each word, as linked entries.
use Rattle.race_report.proofs.Common.{rules, ◌≡◌, ℕ, zero, suc, ◌<◌, ◌≤◌, ◌/◌, ◌==◌, nat_lt, Bool, true, false, cond, ◌&&◌, if◌then◌else◌, refl, sym, ap, ◌∙◌, subst, arith, List, [], ◌∷◌, ◌++◌, length, slice_get, slice_set, slice_index_or, Option, Some, None, IfSome, Result, Ok, Err, OnOk, IsOk, slice_get-get_or, Known, word_at, TrackEntry, known_at, head_at, room_in, room_at, IsChain, IsTrackedIn, AreLinked, noted_one, both_ways, eq-eqb, eqb-true, false≢true, slice_get_within, eqb-false}
use Rattle.race_log.proofs.PageLemmas.{get_here}
use Rattle.joint_replay.proofs.Soundness.{get_other}
use Rattle.joint_replay.proofs.Merging.{get_back, get_next}

pub if_some : {X : Type 0} (P : X → Type 0) (o : Option X) → ((x : X) → o ≡ Some x → P x) → IfSome o P
if_some P None f = search rules
if_some P (Some x) f = f x refl

pub known_is : (heads : List Known) (h : ℕ) (p : Known) → h < length heads → p ≡ slice_index_or heads h p → slice_get heads h ≡ Some p
known_is heads h p low e = slice_get-get_or heads h p low ∙ ap (λ (k : Known). Some k) (sym e)

pub head_is : (heads : List Known) (h w : ℕ) (p : Known) → h < length heads → p ≡ slice_index_or heads h p → word_at p.pages (w / 4) ≡ head_at heads h w
head_is heads h w p low e = ap (λ (o : Option Known). known_at o w) (sym (known_is heads h p low e))

-- ---- room

pub heads_same : (heads : List Known) (hart : ℕ) (old new : Known) → hart < length heads → slice_get heads hart ≡ Some old → ((k : ℕ) → word_at new.pages k ≡ word_at old.pages k)
    → (h w : ℕ) → head_at (slice_set heads hart new) h w ≡ head_at heads h w
heads_same heads hart old new low there same h w = by (hart == h) refl
  where
    by : (b : Bool) → (hart == h) ≡ b → head_at (slice_set heads hart new) h w ≡ head_at heads h w
    by true e = subst (λ (k : ℕ). head_at (slice_set heads hart new) k w ≡ head_at heads k w) (eqb-true hart h e) (ap (λ (o : Option Known). known_at o w) (get_here heads hart new low) ∙ same (w / 4) ∙ ap (λ (o : Option Known). known_at o w) (sym there))
    by false e = ap (λ (o : Option Known). known_at o w) (get_other heads hart h new (eqb-false hart h e))

pub linked_same : (heads other : List Known) (entries : List TrackEntry) → ((h w : ℕ) → head_at other h w ≡ head_at heads h w) → AreLinked heads entries → AreLinked other entries
linked_same heads other entries same l = record { heads_there = λ h w k e. l.heads_there h w k (sym (same h w) ∙ e); links_back = l.links_back }

pub room_here : (heads : List Known) (hart : ℕ) (new : Known) → hart < length heads → 1 ≤ new.room → 0 < room_at (slice_set heads hart new) hart
room_here heads hart new low room = subst (λ (o : Option Known). 0 < room_in o) (sym (get_here heads hart new low)) (omega (arith, room))

-- ---- one entry more

pub if_some_is : (o : Option ℕ) (P : ℕ → Type 0) (j : ℕ) → o ≡ Some j → IfSome o P → P j
if_some_is None P j e i = absurd cc
if_some_is (Some x) P j e i = let same : x ≡ j = cc in subst P same i

-- ---- another head

pub heads_set : (heads : List Known) (hart word number : ℕ) (old new : Known) → hart < length heads → slice_get heads hart ≡ Some old
    → ((k : ℕ) → word_at new.pages k ≡ (if k == word / 4 then Some number else word_at old.pages k))
    → (h w : ℕ) → head_at (slice_set heads hart new) h w ≡ cond (hart == h && (word / 4 == w / 4)) (Some number) (head_at heads h w)
heads_set heads hart word number old new low there put h w = by (hart == h) refl
  where
    turned : (a b : ℕ) → (a == b) ≡ (b == a)
    turned a b = both_ways (a == b) (b == a) (λ e. eq-eqb b a (sym (eqb-true a b e))) (λ e. eq-eqb a b (sym (eqb-true b a e)))

    as_cond : (b : Bool) (x y : Option ℕ) → (if b then x else y) ≡ cond b x y
    as_cond true x y = refl
    as_cond false x y = refl

    by : (b : Bool) → (hart == h) ≡ b → head_at (slice_set heads hart new) h w ≡ cond (b && (word / 4 == w / 4)) (Some number) (head_at heads h w)
    by true e =
        subst (λ (k : ℕ). head_at (slice_set heads hart new) k w ≡ cond (word / 4 == w / 4) (Some number) (head_at heads k w)) (eqb-true hart h e)
        (ap (λ (o : Option Known). known_at o w) (get_here heads hart new low) ∙ put (w / 4) ∙ as_cond (w / 4 == word / 4) (Some number) (word_at old.pages (w / 4))
        ∙ ap (λ (b : Bool). cond b (Some number) (word_at old.pages (w / 4))) (turned (w / 4) (word / 4))
        ∙ ap (λ (o : Option Known). cond (word / 4 == w / 4) (Some number) (known_at o w)) (sym there))
    by false e = ap (λ (o : Option Known). known_at o w) (get_other heads hart h new (eqb-false hart h e))

pub linked_set : (heads other : List Known) (entries : List TrackEntry) (hart word number : ℕ) → number < length entries
    → ((h w : ℕ) → head_at other h w ≡ cond (hart == h && (word / 4 == w / 4)) (Some number) (head_at heads h w)) → AreLinked heads entries → AreLinked other entries
linked_set heads other entries hart word number low set l = record { heads_there = λ h w k e. by (hart == h && (word / 4 == w / 4)) h w k (sym (set h w) ∙ e); links_back = l.links_back }
  where
    by : (b : Bool) (h w k : ℕ) → cond b (Some number) (head_at heads h w) ≡ Some k → k < length entries
    by true h w k e = let same : number ≡ k = cc in subst (λ (j : ℕ). j < length entries) same low
    by false h w k e = l.heads_there h w k e

-- ---- an access more

chain_more : (entries more : List TrackEntry) (o : Option ℕ) (ps : List ℕ) → IsChain entries o ps → IsChain (entries ++ more) o ps
chain_more entries more o [] c = c
chain_more entries more o (p ∷ ps) c = (c.0, c.1, c.2, get_back entries more c.0 (slice_get_within entries c.0 c.1 c.3) ∙ c.3, c.4, chain_more entries more c.1.previous ps c.5)

pub tracked_more : (heads other : List Known) (entries new : List TrackEntry) (e : TrackEntry) (hart word : ℕ) → new ≡ entries ++ e ∷ [] → e.previous ≡ head_at heads hart word
    → ((h w : ℕ) → head_at other h w ≡ cond (hart == h && (word / 4 == w / 4)) (Some (length entries)) (head_at heads h w))
    → (h w : ℕ) (ps : List ℕ) → IsTrackedIn heads entries h w ps → IsTrackedIn other new h w (noted_one h w hart e.place word ps)
tracked_more heads other entries new e hart word is previous set h w ps t = subst (λ (es : List TrackEntry). IsTrackedIn other es h w (noted_one h w hart e.place word ps)) (sym is) (by (hart == h) refl (word / 4 == w / 4) refl (set h w))
  where
    near : (o : Option Known) → word / 4 ≡ w / 4 → known_at o word ≡ known_at o w
    near None n = refl
    near (Some k) n = ap (word_at k.pages) n

    here : hart ≡ h → word / 4 ≡ w / 4 → e.previous ≡ head_at heads h w
    here same n = previous ∙ ap (λ (k : ℕ). head_at heads k word) same ∙ near (slice_get heads h) n

    by : (b : Bool) → (hart == h) ≡ b → (d : Bool) → (word / 4 == w / 4) ≡ d → head_at other h w ≡ cond (b && d) (Some (length entries)) (head_at heads h w)
        → IsChain (entries ++ e ∷ []) (head_at other h w) (cond (b && d) (e.place ∷ ps) ps)
    by true f true g i = (length entries, e, i, get_next entries e [], refl, subst (λ (o : Option ℕ). IsChain (entries ++ e ∷ []) o ps) (sym (here (eqb-true hart h f) (eqb-true (word / 4) (w / 4) g))) (chain_more entries (e ∷ []) (head_at heads h w) ps t))
    by true f false g i = subst (λ (o : Option ℕ). IsChain (entries ++ e ∷ []) o ps) (sym i) (chain_more entries (e ∷ []) (head_at heads h w) ps t)
    by false f d g i = subst (λ (o : Option ℕ). IsChain (entries ++ e ∷ []) o ps) (sym i) (chain_more entries (e ∷ []) (head_at heads h w) ps t)

pub on_ok : {X Y : Type 0} (r : Result X Y) (P : Type 0) → IsOk r → OnOk r P → P
on_ok (Ok x) P i o = o
on_ok (Err y) P i o = absurd cc

pub then_ok : {X Y : Type 0} (r : Result X Y) (P Q : Type 0) → (P → Q) → OnOk r P → OnOk r Q
then_ok (Ok x) P Q f o = f o
then_ok (Err y) P Q f o = tt

pub head_more : (heads : List Known) (new : Known) → ((h w : ℕ) → head_at heads h w ≡ None) → ((k : ℕ) → word_at new.pages k ≡ None) → (h w : ℕ) → head_at (heads ++ new ∷ []) h w ≡ None
head_more [] new none fresh zero w = fresh (w / 4)
head_more [] new none fresh (suc h) w = refl
head_more (k ∷ ks) new none fresh zero w = none zero w
head_more (k ∷ ks) new none fresh (suc h) w = head_more ks new (λ j v. none (suc j) v) fresh h w

pub room_is : (heads : List Known) (h : ℕ) (p : Known) → slice_get heads h ≡ Some p → 0 < room_at heads h → 0 < p.room
room_is heads h p e r = subst (λ (o : Option Known). 0 < room_in o) e r

-- ---- the walk back

abbrev pub left_of : Option ℕ → ℕ
left_of None = 0
left_of (Some k) = suc k

pub smaller : (o p : Option ℕ) (k : ℕ) → o ≡ Some k → IfSome p (λ j. j < k) → left_of p < left_of o
smaller o p k e s = subst (λ (q : Option ℕ). left_of p < left_of q) (sym e) (by p s)
  where
    by : (p : Option ℕ) → IfSome p (λ j. j < k) → left_of p < suc k
    by None s = omega arith
    by (Some j) s = let low : j < k = s in omega (arith, low)

pub lower_some : (p : Option ℕ) (k top : ℕ) → IfSome p (λ j. j < k) → k < top → IfSome p (λ j. j < top)
lower_some None k top s low = search rules
lower_some (Some j) k top s low = let under : j < k = s in omega (arith, under, low)

pub not_covered : (b : Bool) (x y : ℕ) → (x < y → b ≡ true) → b ≡ false → y ≤ x
not_covered true x y f e = absurd cc
not_covered false x y f e = by (nat_lt x y) refl
  where
    by : (c : Bool) → nat_lt x y ≡ c → y ≤ x
    by true g = absurd (false≢true (f (let low : x < y = grind (arith, g) in low)))
    by false g = grind (arith, g)
