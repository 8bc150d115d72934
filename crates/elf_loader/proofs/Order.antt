-- Segments by ascending address.
use Rattle.elf_loader.proofs.Common.{◌≡◌, ◌≤◌, ◌<◌, ℕ, zero, suc, ◌+◌, Bool, true, false, cond, ◌&&◌, List, [], ◌∷◌, length, get_or, None, find, refl, sym, ap, ap₂, ◌∙◌, inl, inr, ◌⊎◌, leb, ltb, leb-true, leb-false, arith, IsPermutation, count_by, All, Contains, nat_le, nat_lt, cases_lt, All-nil, All-cons, All-head, All-tail, All-weaker, All-contains, All-permutation, IsPermutation-refl, IsPermutation-sym, IsPermutation-cons, IsPermutation-middle, IsPermutation-trans, Contains-permutation, sum_by-IsPermutation, ProgramHeader, is_segment, first_word, word_after, share, before_higher, by_address, touching}
use Rattle.std.specs.List.Sorted.{IsNonDecreasingBy}
use Rattle.std.proofs.lemmas.List.Sums.{sum_by-cons, get_or-le-sum_by}
use Rattle.elf_loader.proofs.Refused.{cond_none, or_none}
use Rattle.elf_loader.proofs.Words.{words_touched-some}

-- the sort only moves segments
IsPermutation-before_higher : (h : ProgramHeader) (hs : List ProgramHeader) → IsPermutation (h ∷ hs) (before_higher h hs)
IsPermutation-before_higher h [] = IsPermutation-refl (h ∷ [])
IsPermutation-before_higher h (g ∷ gs) =
    elim (leb h.vaddr g.vaddr) as (λ b. IsPermutation (h ∷ g ∷ gs) (cond b (h ∷ g ∷ gs) (g ∷ before_higher h gs))) [
      | true ↦ IsPermutation-refl (h ∷ g ∷ gs)
      | false ↦ IsPermutation-trans _ _ _ (IsPermutation-middle (h ∷ []) g gs) (IsPermutation-cons g _ _ (IsPermutation-before_higher h gs))
    ]

pub IsPermutation-by_address : (hs : List ProgramHeader) → IsPermutation hs (by_address hs)
IsPermutation-by_address [] = IsPermutation-refl []
IsPermutation-by_address (h ∷ hs) = IsPermutation-trans _ _ _ (IsPermutation-cons h _ _ (IsPermutation-by_address hs)) (IsPermutation-before_higher h (by_address hs))

-- no segment of the list begins below an address
abbrev Above : ℕ → List ProgramHeader → Type 0
Above low hs = All (λ h. low ≤ h.vaddr) hs

-- none begins below one before it
abbrev Ascending : List ProgramHeader → Type 0
Ascending [] = Unit {0}
Ascending (h ∷ hs) = Above h.vaddr hs × Ascending hs

pub ascending_from_sort : (hs : List ProgramHeader) → IsNonDecreasingBy (λ h. h.vaddr) hs → Ascending hs
ascending_from_sort [] up = tt
ascending_from_sort (h ∷ hs) up =
    (λ k d lt. up 0 (suc k) d (omega arith) (omega (arith, lt)), ascending_from_sort hs (λ i j d le lt. up (suc i) (suc j) d (omega (arith, le)) (omega (arith, lt))))

Above-before_higher : (low : ℕ) (h : ProgramHeader) (hs : List ProgramHeader) → low ≤ h.vaddr → Above low hs → Above low (before_higher h hs)
Above-before_higher low h hs le above = All-permutation (λ g. low ≤ g.vaddr) _ _ (IsPermutation-before_higher h hs) (All-cons (λ g. low ≤ g.vaddr) h hs le above)

Ascending-before_higher : (h : ProgramHeader) (hs : List ProgramHeader) → Ascending hs → Ascending (before_higher h hs)
Ascending-before_higher h [] up = (All-nil (λ g. h.vaddr ≤ g.vaddr), tt)
Ascending-before_higher h (g ∷ gs) up = choice (Ascending-before_higher h gs up.1) (leb h.vaddr g.vaddr) refl
  where
    choice : Ascending (before_higher h gs) → (b : Bool) → leb h.vaddr g.vaddr ≡ b → Ascending (cond b (h ∷ g ∷ gs) (g ∷ before_higher h gs))
    choice later true e =
        let le : h.vaddr ≤ g.vaddr = leb-true _ _ e in
        (All-cons (λ x. h.vaddr ≤ x.vaddr) g gs le (All-weaker (λ x. g.vaddr ≤ x.vaddr) (λ x. h.vaddr ≤ x.vaddr) (λ x more. omega (arith, le, more)) gs up.0), up)
    choice later false e = (Above-before_higher g.vaddr h gs (omega (arith, leb-false _ _ e)) up.0, later)

pub Ascending-by_address : (hs : List ProgramHeader) → Ascending (by_address hs)
Ascending-by_address [] = tt
Ascending-by_address (h ∷ hs) = Ascending-before_higher h (by_address hs) (Ascending-by_address hs)

-- whether a segment touches an aligned word, by the word's number
abbrev covers : ℕ → ProgramHeader → Bool
covers w h = nat_le (first_word h) w && nat_lt w (word_after h)

in_one : (a b c d w : ℕ) → (leb a w && ltb w b) ≡ true → (ltb a d && ltb c b) ≡ false → (leb c w && ltb w d) ≡ false
in_one a b c d w e f = grind arith

-- if a segment touches a word and shares none with those of a list, none of these touches it
count_none : (h : ProgramHeader) (w : ℕ) (hs : List ProgramHeader) → covers w h ≡ true → find (share h) hs ≡ None → count_by (covers w) hs ≡ 0
count_none h w [] t e = refl
count_none h w (g ∷ gs) t e =
    let apart = cond_none (share h g) g (find (share h) gs) e in
    let out = in_one (first_word h) (word_after h) (first_word g) (word_after g) w t apart.0 in
    sum_by-cons (λ x. cond (covers w x) 1 0) g gs ∙ ap (λ b. cond b 1 0 + count_by (covers w) gs) out ∙ ap (λ n. 0 + n) (count_none h w gs t apart.1)

-- no word is touched twice
abbrev pub OnceTouched : List ProgramHeader → Type 0
OnceTouched hs = (w : ℕ) → count_by (covers w) hs ≤ 1

pub once_from_touching : (hs : List ProgramHeader) → touching hs ≡ None → OnceTouched hs
once_from_touching [] e w = omega arith
once_from_touching (h ∷ hs) e w =
    let apart = or_none (find (share h) hs) (λ g. (h, g)) (touching hs) e in choice apart.0 (once_from_touching hs apart.1 w) (covers w h) refl
  where
    choice : find (share h) hs ≡ None → count_by (covers w) hs ≤ 1 → (b : Bool) → covers w h ≡ b → count_by (covers w) (h ∷ hs) ≤ 1
    choice none later true t =
        let e = sum_by-cons (λ x. cond (covers w x) 1 0) h hs ∙ ap (λ b. cond b 1 0 + count_by (covers w) hs) t in
        omega (arith, e, count_none h w hs t none)
    choice none later false t =
        let e = sum_by-cons (λ x. cond (covers w x) 1 0) h hs ∙ ap (λ b. cond b 1 0 + count_by (covers w) hs) t in omega (arith, e, later)

pub once_from_permutation : (hs gs : List ProgramHeader) → IsPermutation hs gs → OnceTouched hs → OnceTouched gs
once_from_permutation hs gs moved once w = omega (arith, sum_by-IsPermutation (λ x. cond (covers w x) 1 0) hs gs moved, once w)

-- each header of a list is a segment
abbrev pub AreSegments : List ProgramHeader → Type 0
AreSegments hs = All (λ h. is_segment h ≡ true) hs

-- a segment touches a word
has_word : (h : ProgramHeader) → is_segment h ≡ true → first_word h < word_after h
has_word h is =
    let some : 0 < h.memsz = grind arith in omega (arith, words_touched-some h.vaddr h.memsz some)

-- each segment of a list ends before the words of those after it
abbrev pub AreInOrder : List ProgramHeader → Type 0
AreInOrder [] = Unit {0}
AreInOrder (h ∷ hs) = All (λ g. word_after h ≤ first_word g) hs × AreInOrder hs

between : (a b w : ℕ) → a ≤ w → w < b → (leb a w && ltb w b) ≡ true
between a b w low high = grind arith

twice : (h : ProgramHeader) (hs : List ProgramHeader) (k : ℕ) (d : ProgramHeader) (w : ℕ) → k < length hs → covers w h ≡ true → covers w (get_or hs k d) ≡ true → 2 ≤ count_by (covers w) (h ∷ hs)
twice h hs k d w lt t u =
    let e = sum_by-cons (λ x. cond (covers w x) 1 0) h hs ∙ ap (λ b. cond b 1 0 + count_by (covers w) hs) t in
    let f = get_or-le-sum_by (λ x. cond (covers w x) 1 0) hs k d lt in
    let g : cond (covers w (get_or hs k d)) 1 0 ≡ 1 = ap {B = ℕ} (λ b. cond b 1 0) u in omega (arith, e, f, g)

ends_before : (h : ProgramHeader) (hs : List ProgramHeader) → AreSegments (h ∷ hs) → Above h.vaddr hs → OnceTouched (h ∷ hs) → All (λ g. word_after h ≤ first_word g) hs
ends_before h hs are above once k d lt = choice (cases_lt (first_word (get_or hs k d)) (word_after h))
  where
    choice : (first_word (get_or hs k d) < word_after h) ⊎ (word_after h ≤ first_word (get_or hs k d)) → word_after h ≤ first_word (get_or hs k d)
    choice (inr le) = le
    choice (inl less) =
        let w = first_word (get_or hs k d) in
        let low : h.vaddr ≤ (get_or hs k d).vaddr = above k d lt in
        let begun : first_word h ≤ first_word (get_or hs k d) = omega (arith, low) in
        let own = has_word (get_or hs k d) (All-tail (λ g. is_segment g ≡ true) h hs are k d lt) in
        let two = twice h hs k d w lt (between _ _ w begun less) (between _ _ w (omega arith) own) in
        absurd (omega (arith, two, once w))

pub in_order : (hs : List ProgramHeader) → AreSegments hs → Ascending hs → OnceTouched hs → AreInOrder hs
in_order [] are up once = tt
in_order (h ∷ hs) are up once =
    let later : OnceTouched hs = λ w. omega (arith, sum_by-cons (λ x. cond (covers w x) 1 0) h hs, once w) in
    (ends_before h hs are up.0 once, in_order hs (All-tail (λ g. is_segment g ≡ true) h hs are) up.1 later)

-- members of a list by cases
pub Contains-cons_cases : {X : Type 0} (h : X) (hs : List X) (x : X) → Contains (h ∷ hs) x → (h ≡ x) ⊎ Contains hs x
Contains-cons_cases h hs x (zero, lt, e) = inl e
Contains-cons_cases h hs x (suc k, lt, e) = inr (k, omega (arith, lt), e)

Contains-first : (h : ProgramHeader) (hs : List ProgramHeader) → Contains (h ∷ hs) h
Contains-first h hs = (0, omega arith, refl)

pub Contains-later : (h : ProgramHeader) (hs : List ProgramHeader) (x : ProgramHeader) → Contains hs x → Contains (h ∷ hs) x
Contains-later h hs x (k, lt, e) = (suc k, omega (arith, lt), e)

-- those after a segment begin in later words
later_words : (h : ProgramHeader) (hs : List ProgramHeader) (x : ProgramHeader) → AreSegments (h ∷ hs) → AreInOrder (h ∷ hs) → Contains hs x → first_word h < first_word x
later_words h hs x are order has =
    let own = has_word h (All-head (λ g. is_segment g ≡ true) h hs are) in
    omega (arith, own, All-contains (λ g. word_after h ≤ first_word g) hs x order.0 has)

same_first : (g : ProgramHeader) (gs : List ProgramHeader) (h : ProgramHeader) (hs : List ProgramHeader) → AreSegments (g ∷ gs) → AreSegments (h ∷ hs) → AreInOrder (g ∷ gs) → AreInOrder (h ∷ hs)
    → (g ≡ h) ⊎ Contains gs h → (h ≡ g) ⊎ Contains hs g → g ≡ h
same_first g gs h hs are_g are_h order_g order_h (inl e) q = e
same_first g gs h hs are_g are_h order_g order_h (inr p) (inl e) = sym e
same_first g gs h hs are_g are_h order_g order_h (inr p) (inr q) =
    absurd (omega (arith, later_words g gs h are_g order_g p, later_words h hs g are_h order_h q))

-- what is after the first of both lists
after_first : (g h : ProgramHeader) (gs hs : List ProgramHeader) → AreSegments (g ∷ gs) → AreInOrder (g ∷ gs) → g ≡ h → ((x : ProgramHeader) → Contains (g ∷ gs) x → Contains (h ∷ hs) x) → (x : ProgramHeader) → Contains gs x → Contains hs x
after_first g h gs hs are order same to x has = choice (Contains-cons_cases h hs x (to x (Contains-later g gs x has)))
  where
    choice : (h ≡ x) ⊎ Contains hs x → Contains hs x
    choice (inr there) = there
    choice (inl e) = let f : first_word g ≡ first_word x = ap first_word (same ∙ e) in absurd (omega (arith, f, later_words g gs x are order has))

-- lists in order with the same segments are equal
pub same_order : (gs hs : List ProgramHeader) → AreSegments gs → AreSegments hs → AreInOrder gs → AreInOrder hs → ((x : ProgramHeader) → Contains gs x → Contains hs x) → ((x : ProgramHeader) → Contains hs x → Contains gs x) → gs ≡ hs
same_order [] [] are_g are_h order_g order_h to from = refl
same_order [] (h ∷ hs) are_g are_h order_g order_h to from = let none = from h (Contains-first h hs) in absurd (omega (arith, none.1))
same_order (g ∷ gs) [] are_g are_h order_g order_h to from = let none = to g (Contains-first g gs) in absurd (omega (arith, none.1))
same_order (g ∷ gs) (h ∷ hs) are_g are_h order_g order_h to from =
    let e : g ≡ h = same_first g gs h hs are_g are_h order_g order_h (Contains-cons_cases g gs h (from h (Contains-first h hs))) (Contains-cons_cases h hs g (to g (Contains-first g gs))) in
    let es : gs ≡ hs = same_order gs hs (All-tail (λ x. is_segment x ≡ true) g gs are_g) (All-tail (λ x. is_segment x ≡ true) h hs are_h) order_g.1 order_h.1
    (after_first g h gs hs are_g order_g e to) (after_first h g hs gs are_h order_h (sym e) from) in
    ap₂ (λ (x : ProgramHeader) (xs : List ProgramHeader). x ∷ xs) e es

-- segments of which no two share a word, by ascending address
pub by_address-in_order : (hs : List ProgramHeader) → AreSegments hs → touching hs ≡ None → AreInOrder (by_address hs)
by_address-in_order hs are apart =
    in_order (by_address hs) (All-permutation (λ h. is_segment h ≡ true) _ _ (IsPermutation-by_address hs) are) (Ascending-by_address hs)
    (once_from_permutation hs (by_address hs) (IsPermutation-by_address hs) (once_from_touching hs apart))

-- any sort of them gives one list
pub sorted-by_address : (hs gs : List ProgramHeader) → AreSegments hs → touching hs ≡ None → IsPermutation hs gs → IsNonDecreasingBy (λ h. h.vaddr) gs → gs ≡ by_address hs
sorted-by_address hs gs are apart moved up =
    let are_g : AreSegments gs = All-permutation (λ h. is_segment h ≡ true) _ _ moved are in
    let are_h : AreSegments (by_address hs) = All-permutation (λ h. is_segment h ≡ true) _ _ (IsPermutation-by_address hs) are in
    same_order gs (by_address hs) are_g are_h (in_order gs are_g (ascending_from_sort gs up) (once_from_permutation hs gs moved (once_from_touching hs apart))) (by_address-in_order hs are apart)
    (λ x has. Contains-permutation _ _ x (IsPermutation-by_address hs) (Contains-permutation _ _ x (IsPermutation-sym _ _ moved) has))
    (λ x has. Contains-permutation _ _ x moved (Contains-permutation _ _ x (IsPermutation-sym _ _ (IsPermutation-by_address hs)) has))
