-- What pages hold, word by word.
use Rattle.bus_memory.proofs.Common.{arith, ◌≡◌, ◌≤◌, ◌<◌, ◌*◌, ◌/◌, ◌%◌, ℕ, Bool, true, false, List, length, get_or, set, refl, sym, ap, ◌∙◌, ◌⊎◌, inl, inr, nat_lt, cond, ext_get_or, get_or_default, get_or_past, get_or-set_same, get_or-set_other, length-set, length-map, cases_eq, cases_lt, false≢true, eq-eqb, ne_eqb, Contents, HoldsMap, updated, has_page, Frame, no_frame, word_of, contents_of}
use Rattle.std.proofs.Math.ListN.{get_or-map}
use Rattle.std.proofs.lemmas.List.FromFn.{length-map-range_with_len, get_or-map-range_with_len}

pub length_words : (fs : List Frame) → length (contents_of fs).words ≡ 1024 * length fs
unfolding contents_of
length_words fs = length-map-range_with_len (word_of fs) 0 (1024 * length fs)

pub length_made : (fs : List Frame) → length (contents_of fs).made ≡ length fs
unfolding contents_of
length_made fs = length-map fs (λ (f : Frame). f.made)

pub word_at : (fs : List Frame) (k : ℕ) → k < 1024 * length fs → get_or (contents_of fs).words k 0 ≡ word_of fs k
unfolding contents_of
word_at fs k h = get_or-map-range_with_len (word_of fs) 0 (1024 * length fs) k k 0 h (omega arith)

pub made_at : (fs : List Frame) (n : ℕ) → get_or (contents_of fs).made n false ≡ (get_or fs n no_frame).made
unfolding contents_of
made_at fs n = get_or-map (λ (f : Frame). f.made) fs n no_frame

-- pages that say the same word by word hold the same words
pub same_words : (fs gs : List Frame) → length gs ≡ length fs → ((n k : ℕ) → get_or (get_or gs n no_frame).words k 0 ≡ get_or (get_or fs n no_frame).words k 0) → (contents_of gs).words ≡ (contents_of fs).words
same_words fs gs len same =
    ext_get_or 0 (contents_of gs).words (contents_of fs).words (length_words gs ∙ ap (λ n. 1024 * n) len ∙ sym (length_words fs)) each
  where
    each : (k : ℕ) → k < length (contents_of gs).words → get_or (contents_of gs).words k 0 ≡ get_or (contents_of fs).words k 0
    each k h =
        let below : k < 1024 * length gs = omega (arith, h, length_words gs) in
        word_at gs k below ∙ same (k / 1024) (k % 1024) ∙ sym (word_at fs k (omega (arith, below, len)))

pub same_made : (fs gs : List Frame) → length gs ≡ length fs → ((n : ℕ) → (get_or gs n no_frame).made ≡ (get_or fs n no_frame).made) → (contents_of gs).made ≡ (contents_of fs).made
same_made fs gs len same =
    ext_get_or false (contents_of gs).made (contents_of fs).made (length_made gs ∙ len ∙ sym (length_made fs)) (λ n h. made_at gs n ∙ same n ∙ sym (made_at fs n))

-- the page that is found is that of the contents
pub has_page_at : (fs : List Frame) (n a : ℕ) (f : Frame) → n ≡ a / 4096 → n < length fs → f ≡ get_or fs n f → f.made ≡ has_page (contents_of fs) a
has_page_at fs n a f is below at =
    ap (λ (g : Frame). g.made) (at ∙ get_or_default fs n f no_frame below) ∙ sym (made_at fs n) ∙ ap (λ k. get_or (contents_of fs).made k false) is

-- past the last page there is none
pub no_page_at : (fs : List Frame) (n a : ℕ) → n ≡ a / 4096 → length fs ≤ n → false ≡ has_page (contents_of fs) a
no_page_at fs n a is past =
    sym (get_or_past (contents_of fs).made (a / 4096) false (omega (arith, length_made fs, is, past)))

pub mapped_at : (fs : List Frame) (a : ℕ) → a / 4096 < length fs → a < 4 * length (contents_of fs).words
mapped_at fs a below = omega (arith, length_words fs, below)

-- a page that is made is among the pages
pub made_below : (fs : List Frame) (a : ℕ) → has_page (contents_of fs) a ≡ true → a / 4096 < length fs
made_below fs a made = below (cases_lt (a / 4096) (length fs))
  where
    below : (a / 4096 < length fs) ⊎ (length fs ≤ a / 4096) → a / 4096 < length fs
    below (inl less) = less
    below (inr past) = absurd (false≢true (no_page_at fs (a / 4096) a refl past ∙ made))

not_below : (a b : ℕ) → b ≤ a → nat_lt a b ≡ false
not_below a b h = grind arith

pub no_page_test : (fs : List Frame) (n l a : ℕ) → n ≡ a / 4096 → length fs ≤ l → l ≤ n → nat_lt n l ≡ has_page (contents_of fs) a
no_page_test fs n l a is len past = not_below n l past ∙ no_page_at fs n a is (omega (arith, len, past))

pub same_contents : (c d : Contents) → c.words ≡ d.words → c.made ≡ d.made → c ≡ d
same_contents c d words made =
    ap (λ (w : List ℕ). let e : Contents = record { words = w; made = c.made } in e) words ∙ ap (λ (m : List Bool). let e : Contents = record { words = d.words; made = m } in e) made

-- the word that is found is that of the contents
pub word_in : (fs : List Frame) (n j a : ℕ) (f : Frame) → n ≡ a / 4096 → j ≡ a / 4 % 1024 → n < length fs → f ≡ get_or fs n f → get_or f.words j 0 ≡ get_or (contents_of fs).words (a / 4) 0
word_in fs n j a f page place below at =
    let here : n ≡ a / 4 / 1024 = omega (arith, page) in
    let found : f ≡ get_or fs (a / 4 / 1024) no_frame = at ∙ get_or_default fs n f no_frame below ∙ ap (λ k. get_or fs k no_frame) here in
    ap (λ (g : Frame). get_or g.words j 0) found ∙ ap (λ k. get_or (get_or fs (a / 4 / 1024) no_frame).words k 0) place ∙ sym (word_at fs (a / 4) (omega (arith, page, below)))

-- a word that is written to its page is written to the contents
put_words : (fs : List Frame) (n j b v : ℕ) (f g : Frame) → n ≡ b / 1024 → j ≡ b % 1024 → n < length fs → f ≡ get_or fs n no_frame → length f.words ≡ 1024 → g.words ≡ set f.words j v
    → (k : ℕ) → k < 1024 * length fs → word_of (set fs n g) k ≡ get_or (set (contents_of fs).words b v) k 0
put_words fs n j b v f g page place below at len is k within =
    by_page (cases_eq (k / 1024) n)
  where
    same : k ≡ b → k / 1024 ≡ n → k % 1024 ≡ j → get_or (set f.words j v) (k % 1024) 0 ≡ get_or (set (contents_of fs).words b v) k 0
    same e p q =
        ap (λ m. get_or (set f.words j v) m 0) q ∙ get_or-set_same f.words j v 0 (omega (arith, len, place)) ∙ sym (ap (λ m. get_or (set (contents_of fs).words b v) m 0) e ∙ get_or-set_same (contents_of fs).words b v 0 (omega (arith, length_words fs, e, within)))

    other : k / 1024 ≡ n → (k % 1024 ≡ j → ⊥) → get_or (set f.words j v) (k % 1024) 0 ≡ get_or (set (contents_of fs).words b v) k 0
    other p q =
        get_or-set_other f.words j (k % 1024) v 0 q ∙ ap (λ (h : Frame). get_or h.words (k % 1024) 0) (at ∙ ap (λ m. get_or fs m no_frame) (sym p)) ∙ sym (word_at fs k within) ∙ sym (get_or-set_other (contents_of fs).words b k v 0 (λ e. q (ap (λ m. m % 1024) e ∙ sym place)))

    by_place : k / 1024 ≡ n → (k % 1024 ≡ j) ⊎ (k % 1024 ≡ j → ⊥) → get_or (set f.words j v) (k % 1024) 0 ≡ get_or (set (contents_of fs).words b v) k 0
    by_place p (inl q) = same (omega (arith, p, q, page, place)) p q
    by_place p (inr q) = other p q

    by_page : (k / 1024 ≡ n) ⊎ (k / 1024 ≡ n → ⊥) → word_of (set fs n g) k ≡ get_or (set (contents_of fs).words b v) k 0
    by_page (inl p) =
        ap (λ m. get_or (get_or (set fs n g) m no_frame).words (k % 1024) 0) p ∙ ap (λ (h : Frame). get_or h.words (k % 1024) 0) (get_or-set_same fs n g no_frame below) ∙ ap (λ ws. get_or ws (k % 1024) 0) is ∙ by_place p (cases_eq (k % 1024) j)
    by_page (inr p) =
        ap (λ (h : Frame). get_or h.words (k % 1024) 0) (get_or-set_other fs n (k / 1024) g no_frame p) ∙ sym (word_at fs k within) ∙ sym (get_or-set_other (contents_of fs).words b k v 0 (λ e. p (ap (λ m. m / 1024) e ∙ sym page)))

pub put_in : (fs : List Frame) (n j a v : ℕ) (f g : Frame) → n ≡ a / 4096 → j ≡ a / 4 % 1024 → n < length fs → f ≡ get_or fs n f → length f.words ≡ 1024
    → (let h : Frame = record f { words = set f.words j v } in g ≡ h)
    → (let d : Contents = record { words = set (contents_of fs).words (a / 4) v; made = (contents_of fs).made } in contents_of (set fs n g) ≡ d)
put_in fs n j a v f g page place below at len is =
    let here : f ≡ get_or fs n no_frame = at ∙ get_or_default fs n f no_frame below in
    let size : length (set fs n g) ≡ length fs = length-set fs n g in
    let words : (contents_of (set fs n g)).words ≡ set (contents_of fs).words (a / 4) v =
    ext_get_or 0 (contents_of (set fs n g)).words (set (contents_of fs).words (a / 4) v) (omega (arith, length_words (set fs n g), length_words fs, size, length-set (contents_of fs).words (a / 4) v)) (λ k h.
    let within : k < 1024 * length fs = omega (arith, h, length_words (set fs n g), size) in
    word_at (set fs n g) k (omega (arith, within, size)) ∙ put_words fs n j (a / 4) v f g (omega (arith, page)) place below here len (ap (λ (x : Frame). x.words) is) k within) in
    let made : (contents_of (set fs n g)).made ≡ (contents_of fs).made =
    same_made fs (set fs n g) size (λ m. by_page m here (cases_eq m n)) in
    same_contents _ _ words made
  where
    by_page : (m : ℕ) → f ≡ get_or fs n no_frame → (m ≡ n) ⊎ (m ≡ n → ⊥) → (get_or (set fs n g) m no_frame).made ≡ (get_or fs m no_frame).made
    by_page m here (inl e) =
        ap (λ k. (get_or (set fs n g) k no_frame).made) e ∙ ap (λ (h : Frame). h.made) (get_or-set_same fs n g no_frame below) ∙ ap (λ (h : Frame). h.made) (is ∙ ap (λ (h : Frame). let x : Frame = record h { words = set f.words j v } in x) here) ∙ ap (λ k. (get_or fs k no_frame).made) (sym e)
    by_page m here (inr e) = ap (λ (h : Frame). h.made) (get_or-set_other fs n m g no_frame e)

-- a list in which an address's word is written represents the map that is updated there
pub holds_put : (ws : List ℕ) (a v : ℕ) (m : ℕ → ℕ) → a % 4 ≡ 0 → a < 4 * length ws → HoldsMap ws m → HoldsMap (set ws (a / 4) v) (updated a v m)
holds_put ws a v m aligned mapped h = record { at = at }
  where
    by_place : (b : ℕ) → b % 4 ≡ 0 → b < 4 * length ws → (b ≡ a) ⊎ (b ≡ a → ⊥) → get_or (set ws (a / 4) v) (b / 4) 0 ≡ updated a v m b
    by_place b even below (inl e) =
        ap (λ k. get_or (set ws (a / 4) v) (k / 4) 0) e ∙ get_or-set_same ws (a / 4) v 0 (omega (arith, mapped)) ∙ sym (ap (λ t. cond t v (m b)) (eq-eqb b a e))
    by_place b even below (inr e) =
        get_or-set_other ws (a / 4) (b / 4) v 0 (λ q. e (omega (arith, q, even, aligned))) ∙ h.at b even below ∙ sym (ap (λ t. cond t v (m b)) (ne_eqb b a e))

    at : (b : ℕ) → b % 4 ≡ 0 → b < 4 * length (set ws (a / 4) v) → get_or (set ws (a / 4) v) (b / 4) 0 ≡ updated a v m b
    at b even below = by_place b even (omega (arith, below, length-set ws (a / 4) v)) (cases_eq b a)

-- a page in the place of one with the same words
pub set_words : (fs : List Frame) (n : ℕ) (d g : Frame) → n < length fs → ((k : ℕ) → get_or g.words k 0 ≡ get_or (get_or fs n d).words k 0) → (contents_of (set fs n g)).words ≡ (contents_of fs).words
set_words fs n d g below words =
    let here : get_or fs n d ≡ get_or fs n no_frame = get_or_default fs n d no_frame below in
    same_words fs (set fs n g) (length-set fs n g) (λ m k. by_page m k here (cases_eq m n))
  where
    by_page : (m k : ℕ) → get_or fs n d ≡ get_or fs n no_frame → (m ≡ n) ⊎ (m ≡ n → ⊥) → get_or (get_or (set fs n g) m no_frame).words k 0 ≡ get_or (get_or fs m no_frame).words k 0
    by_page m k here (inl e) =
        ap (λ j. get_or (get_or (set fs n g) j no_frame).words k 0) e ∙ ap (λ (h : Frame). get_or h.words k 0) (get_or-set_same fs n g no_frame below) ∙ words k ∙ ap (λ (h : Frame). get_or h.words k 0) here ∙ ap (λ j. get_or (get_or fs j no_frame).words k 0) (sym e)
    by_page m k here (inr e) = ap (λ (h : Frame). get_or h.words k 0) (get_or-set_other fs n m g no_frame e)

-- a page in the place of one that says the same
pub set_same : (fs : List Frame) (n : ℕ) (d g : Frame) → n < length fs → ((k : ℕ) → get_or g.words k 0 ≡ get_or (get_or fs n d).words k 0) → g.made ≡ (get_or fs n d).made → contents_of (set fs n g) ≡ contents_of fs
set_same fs n d g below words made =
    let here : get_or fs n d ≡ get_or fs n no_frame = get_or_default fs n d no_frame below in
    let size : length (set fs n g) ≡ length fs = length-set fs n g in
    same_contents _ _ (set_words fs n d g below words) (same_made fs (set fs n g) size (λ m. by_page m here (cases_eq m n)))
  where
    by_page : (m : ℕ) → get_or fs n d ≡ get_or fs n no_frame → (m ≡ n) ⊎ (m ≡ n → ⊥) → (get_or (set fs n g) m no_frame).made ≡ (get_or fs m no_frame).made
    by_page m here (inl e) =
        ap (λ k. (get_or (set fs n g) k no_frame).made) e ∙ ap (λ (h : Frame). h.made) (get_or-set_same fs n g no_frame below) ∙ made ∙ ap (λ (h : Frame). h.made) here ∙ ap (λ k. (get_or fs k no_frame).made) (sym e)
    by_page m here (inr e) = ap (λ (h : Frame). h.made) (get_or-set_other fs n m g no_frame e)
