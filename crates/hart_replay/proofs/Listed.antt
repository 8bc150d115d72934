-- Pages that are found by places, as a list by their numbers.
use Rattle.hart_replay.proofs.Common.{◌≡◌, ◌≢◌, ℕ, zero, suc, ◌/◌, ◌%◌, ◌^◌, ◌<◌, ◌≤◌, ◌==◌, ◌⊎◌, cond, if◌then◌else◌, Bool, true, false, List, [], ◌∷◌, ◌++◌, length, Option, Some, None, slice_get, slice_set, refl, sym, ap, ◌∙◌, inl, inr, arith, nat_eq, cases_eq, cases_lt, eq-eqb, eqb_tells, Frame, word_of, word_in, word_at, and_page, listed, page_count, pages_of, page_in, page_at, is_of, stands_at, TaggedPage, false≢true, ne_eqb}
use Rattle.std.specs.Map.{lookup}

-- ---- the list

other_page : (o : Option Frame) (n m : ℕ) (rest : List (ℕ × Frame)) → n ≢ m → lookup (nat_eq n) (and_page o m rest) ≡ lookup (nat_eq n) rest
other_page None n m rest apart = refl
other_page (Some f) n m rest apart = ap (λ (x : Bool). cond x (Some f) (lookup (nat_eq n) rest)) (ne_eqb n m apart)

own_page : (o : Option Frame) (n : ℕ) (rest : List (ℕ × Frame)) → lookup (nat_eq n) rest ≡ None → lookup (nat_eq n) (and_page o n rest) ≡ o
own_page None n rest none = none
own_page (Some f) n rest none = ap (λ (x : Bool). cond x (Some f) (lookup (nat_eq n) rest)) (eq-eqb n n refl)

listed_past : (f : ℕ → Option Frame) (n count : ℕ) → count ≤ n → lookup (nat_eq n) (listed f count) ≡ None
listed_past f n zero past = refl
listed_past f n (suc count) past = other_page (f count) n count (listed f count) (λ e. absurd (omega (arith, past, e))) ∙ listed_past f n count (omega (arith, past))

listed_at : (f : ℕ → Option Frame) (n count : ℕ) → n < count → lookup (nat_eq n) (listed f count) ≡ f n
listed_at f n zero within = absurd (omega (arith, within))
listed_at f n (suc count) within = elim (cases_eq n count) [
  | inl e ↦ ap (λ k. lookup (nat_eq n) (and_page (f k) k (listed f k))) (sym e) ∙ own_page (f n) n (listed f n) (listed_past f n n (omega arith))
  | inr apart ↦ other_page (f count) n count (listed f count) apart ∙ listed_at f n count (omega (arith, within, apart))
]

count_is : page_count ≡ 2 ^ 24
count_is = unfold page_count in refl

pub word_listed : (f : ℕ → Option Frame) (k : ℕ) → k / 64 < 2 ^ 24 → word_at (pages_of f) k ≡ word_of (f (k / 64)) (k % 64)
word_listed f k within = unfold pages_of in ap (λ (o : Option Frame). word_of o (k % 64)) (listed_at f (k / 64) page_count (omega (arith, within, count_is)))

pub none_past : (f : ℕ → Option Frame) (k : ℕ) → 2 ^ 24 ≤ k / 64 → word_at (pages_of f) k ≡ None
none_past f k past = unfold pages_of in ap (λ (o : Option Frame). word_of o (k % 64)) (listed_past f (k / 64) page_count (omega (arith, past, count_is)))

-- ---- a word of a page is told or forgotten

same_place : (a k : ℕ) → k / 64 ≡ a / 64 → (k % 64 == a % 64) ≡ (k == a)
same_place a k e = elim (eqb_tells k a) [
  | inl p ↦ eq-eqb (k % 64) (a % 64) (ap (λ n. n % 64) p.1) ∙ sym p.0
  | inr p ↦ ne_eqb (k % 64) (a % 64) (λ q. p.1 (omega (arith, e, q))) ∙ sym p.0
]

pub word_changed : (f g : ℕ → Option Frame) (a : ℕ) (o : Option ℕ) → a / 64 < 2 ^ 24
    → ((m : ℕ) → m < 2 ^ 24 → m ≢ a / 64 → g m ≡ f m)
    → ((j : ℕ) → j < 64 → word_of (g (a / 64)) j ≡ (if j == a % 64 then o else word_of (f (a / 64)) j))
    → (k : ℕ) → word_at (pages_of g) k ≡ (if k == a then o else word_at (pages_of f) k)
word_changed f g a o low others own k = by_count (cases_lt (k / 64) (2 ^ 24))
  where
    apart : k / 64 ≢ a / 64 → (k == a) ≡ false
    apart h = ne_eqb k a (λ e. h (ap (λ n. n / 64) e))

    by_page : k / 64 < 2 ^ 24 → (k / 64 ≡ a / 64) ⊎ (k / 64 ≢ a / 64) → word_at (pages_of g) k ≡ (if k == a then o else word_at (pages_of f) k)
    by_page within (inl e) =
        word_listed g k within ∙ ap (λ n. word_of (g n) (k % 64)) e ∙ own (k % 64) (omega arith)
        ∙ ap (λ n. if k % 64 == a % 64 then o else word_of (f n) (k % 64)) (sym e)
        ∙ ap (λ (x : Bool). if x then o else word_of (f (k / 64)) (k % 64)) (same_place a k e)
        ∙ ap (λ (w : Option ℕ). if k == a then o else w) (sym (word_listed f k within))
    by_page within (inr h) =
        word_listed g k within ∙ ap (λ (p : Option Frame). word_of p (k % 64)) (others (k / 64) within h) ∙ sym (word_listed f k within)
        ∙ sym (ap (λ (x : Bool). if x then o else word_at (pages_of f) k) (apart h))

    by_count : (k / 64 < 2 ^ 24) ⊎ (2 ^ 24 ≤ k / 64) → word_at (pages_of g) k ≡ (if k == a then o else word_at (pages_of f) k)
    by_count (inl within) = by_page within (cases_eq (k / 64) (a / 64))
    by_count (inr past) =
        none_past g k past ∙ sym (none_past f k past) ∙ sym (ap (λ (x : Bool). if x then o else word_at (pages_of f) k) (apart (λ e. absurd (omega (arith, past, e, low)))))

-- ---- the page that a place names

get_here : {X : Type 0} (xs : List X) (i : ℕ) (s x : X) → slice_get xs i ≡ Some x → slice_get (slice_set xs i s) i ≡ Some s
get_here [] i s x e = grind arith
get_here (y ∷ xs) zero s x e = refl
get_here (y ∷ xs) (suc i) s x e = get_here xs i s x e

get_there : {X : Type 0} (xs : List X) (i j : ℕ) (s : X) → j ≢ i → slice_get (slice_set xs i s) j ≡ slice_get xs j
get_there [] i j s apart = refl
get_there (x ∷ xs) zero zero s apart = absurd (apart refl)
get_there (x ∷ xs) zero (suc j) s apart = refl
get_there (x ∷ xs) (suc i) zero s apart = refl
get_there (x ∷ xs) (suc i) (suc j) s apart = get_there xs i j s (λ e. apart (ap suc e))

get_last : {X : Type 0} (xs : List X) (s : X) → slice_get (xs ++ s ∷ []) (length xs) ≡ Some s
get_last [] s = refl
get_last (x ∷ xs) s = get_last xs s

get_before : {X : Type 0} (xs : List X) (s : X) (j : ℕ) → j ≢ length xs → slice_get (xs ++ s ∷ []) j ≡ slice_get xs j
get_before [] s zero apart = absurd (apart refl)
get_before [] s (suc j) apart = refl
get_before (x ∷ xs) s zero apart = refl
get_before (x ∷ xs) s (suc j) apart = get_before xs s j (λ e. apart (ap suc e))

get_end : {X : Type 0} (xs : List X) → slice_get xs (length xs) ≡ None
get_end [] = refl
get_end (x ∷ xs) = get_end xs

-- a page of that number
pub own_number : (p : TaggedPage) (n : ℕ) → p.number ≡ n → page_in (Some p) n ≡ Some p.page
own_number p n e = ap (λ (x : Bool). elim x as (λ y. Option Frame) [ true ↦ Some p.page | false ↦ None ]) (eq-eqb p.number n e)

pub other_number : (p : TaggedPage) (n : ℕ) → p.number ≢ n → page_in (Some p) n ≡ None
other_number p n h = ap (λ (x : Bool). elim x as (λ y. Option Frame) [ true ↦ Some p.page | false ↦ None ]) (ne_eqb p.number n h)

-- if there is no page of a number, none is found
pub not_standing : (o : Option TaggedPage) (n : ℕ) → is_of o n ≡ false → page_in o n ≡ None
not_standing None n h = refl
not_standing (Some p) n h = ap (λ (x : Bool). elim x as (λ y. Option Frame) [ true ↦ Some p.page | false ↦ None ]) h

pub standing : (o : Option TaggedPage) (n : ℕ) → is_of o n ≡ true → (p : TaggedPage) × (o ≡ Some p) × (p.number ≡ n)
standing None n h = absurd (false≢true h)
standing (Some p) n h = (p, refl, elim (eqb_tells p.number n) [ inl t ↦ t.1 | inr t ↦ absurd (false≢true (sym t.0 ∙ h)) ])

-- ---- a page in the place of one

module _ (place : ℕ → ℕ) (pages : List TaggedPage) (p q : TaggedPage) (at n : ℕ) (is : place n ≡ at) (stands : slice_get pages at ≡ Some p) (old : p.number ≡ n) (new : q.number ≡ n) where
  set_others : (m : ℕ) → m ≢ n → page_at place (slice_set pages at q) m ≡ page_at place pages m
  set_others m apart = by_place (cases_eq (place m) at)
    where
      by_place : (place m ≡ at) ⊎ (place m ≢ at) → page_at place (slice_set pages at q) m ≡ page_at place pages m
      by_place (inl e) =
          ap (λ i. page_in (slice_get (slice_set pages at q) i) m) e ∙ ap (λ (o : Option TaggedPage). page_in o m) (get_here pages at q p stands)
          ∙ other_number q m (λ h. apart (sym h ∙ new)) ∙ sym (other_number p m (λ h. apart (sym h ∙ old)))
          ∙ ap (λ (o : Option TaggedPage). page_in o m) (sym stands) ∙ ap (λ i. page_in (slice_get pages i) m) (sym e)
      by_place (inr h) = ap (λ (o : Option TaggedPage). page_in o m) (get_there pages at (place m) q h)

  set_own : page_at place (slice_set pages at q) n ≡ Some q.page
  set_own = ap (λ i. page_in (slice_get (slice_set pages at q) i) n) is ∙ ap (λ (o : Option TaggedPage). page_in o n) (get_here pages at q p stands) ∙ own_number q n new

  was_own : page_at place pages n ≡ Some p.page
  was_own = ap (λ i. page_in (slice_get pages i) n) is ∙ ap (λ (o : Option TaggedPage). page_in o n) stands ∙ own_number p n old

-- a word of a page that stands is told or forgotten
pub word_set : (place : ℕ → ℕ) (pages : List TaggedPage) (p : TaggedPage) (g : Frame) (at a : ℕ) (o : Option ℕ) → a < 2 ^ 30 → at ≡ place (a / 64) → stands_at pages at (a / 64) ≡ true
    → ((r : TaggedPage) → slice_get pages at ≡ Some r → r ≡ p)
    → ((j : ℕ) → j < 64 → word_in g j ≡ (if j == a % 64 then o else word_in p.page j))
    → (k : ℕ) → word_at (pages_of (page_at place (slice_set pages at (record { number = p.number; page = g })))) k ≡ (if k == a then o else word_at (pages_of (page_at place pages)) k)
word_set place pages p g at a o low is stands same own =
    let found = standing (slice_get pages at) (a / 64) stands in
    let here : slice_get pages at ≡ Some p = found.1 ∙ ap (λ (r : TaggedPage). Some r) (same found.0 found.1) in
    let number : p.number ≡ a / 64 = ap (λ (r : TaggedPage). r.number) (sym (same found.0 found.1)) ∙ found.2 in
    word_changed (page_at place pages) (page_at place (slice_set pages at (record { number = p.number; page = g }))) a o (omega (arith, low))
    (λ m below apart. set_others place pages p (record { number = p.number; page = g }) at (a / 64) (sym is) here number number m apart)
    (λ j below. ap (λ (x : Option Frame). word_of x j) (set_own place pages p (record { number = p.number; page = g }) at (a / 64) (sym is) here number number)
    ∙ own j below
    ∙ ap (λ (x : Option Frame). if j == a % 64 then o else word_of x j) (sym (was_own place pages p (record { number = p.number; page = g }) at (a / 64) (sym is) here number number)))

-- a word of a page that doesn't stand is forgotten
pub word_stays : (place : ℕ → ℕ) (pages : List TaggedPage) (at a : ℕ) → a < 2 ^ 30 → at ≡ place (a / 64) → stands_at pages at (a / 64) ≡ false
    → (k : ℕ) → word_at (pages_of (page_at place pages)) k ≡ (if k == a then None else word_at (pages_of (page_at place pages)) k)
word_stays place pages at a low is stands =
    word_changed (page_at place pages) (page_at place pages) a None (omega (arith, low)) (λ m below apart. refl)
    (λ j below. by_place j (j == a % 64))
  where
    none : page_at place pages (a / 64) ≡ None
    none = ap (λ i. page_in (slice_get pages i) (a / 64)) (sym is) ∙ not_standing (slice_get pages at) (a / 64) stands

    by_place : (j : ℕ) (x : Bool) → word_of (page_at place pages (a / 64)) j ≡ (if x then None else word_of (page_at place pages (a / 64)) j)
    by_place j true = ap (λ (o : Option Frame). word_of o j) none
    by_place j false = refl

-- ---- a page more

pub word_more : (place later : ℕ → ℕ) (pages : List TaggedPage) (q : TaggedPage) (at a end w : ℕ) → a < 2 ^ 30 → at ≡ place (a / 64) → stands_at pages at (a / 64) ≡ false
    → end ≡ length pages → q.number ≡ a / 64
    → ((n : ℕ) → n < 2 ^ 24 → later n ≡ (if n == a / 64 then end else place n))
    → ((j : ℕ) → word_in q.page j ≡ (if j == a % 64 then Some w else None))
    → (k : ℕ) → word_at (pages_of (page_at later (pages ++ q ∷ []))) k ≡ (if k == a then Some w else word_at (pages_of (page_at place pages)) k)
word_more place later pages q at a end w low is stands last number places own =
    word_changed (page_at place pages) (page_at later (pages ++ q ∷ [])) a (Some w) (omega (arith, low)) others
    (λ j below. ap (λ (o : Option Frame). word_of o j) here ∙ own j ∙ ap (λ (o : Option Frame). if j == a % 64 then Some w else word_of o j) (sym none))
  where
    none : page_at place pages (a / 64) ≡ None
    none = ap (λ i. page_in (slice_get pages i) (a / 64)) (sym is) ∙ not_standing (slice_get pages at) (a / 64) stands

    placed : later (a / 64) ≡ length pages
    placed = places (a / 64) (omega (arith, low)) ∙ ap (λ (x : Bool). if x then end else place (a / 64)) (eq-eqb (a / 64) (a / 64) refl) ∙ last

    here : page_at later (pages ++ q ∷ []) (a / 64) ≡ Some q.page
    here = ap (λ i. page_in (slice_get (pages ++ q ∷ []) i) (a / 64)) placed ∙ ap (λ (o : Option TaggedPage). page_in o (a / 64)) (get_last pages q) ∙ own_number q (a / 64) number

    others : (m : ℕ) → m < 2 ^ 24 → m ≢ a / 64 → page_at later (pages ++ q ∷ []) m ≡ page_at place pages m
    others m below apart = ap (λ i. page_in (slice_get (pages ++ q ∷ []) i) m) (places m below ∙ ap (λ (x : Bool). if x then end else place m) (ne_eqb m (a / 64) apart)) ∙ by_place (cases_eq (place m) (length pages))
      where
        by_place : (place m ≡ length pages) ⊎ (place m ≢ length pages) → page_in (slice_get (pages ++ q ∷ []) (place m)) m ≡ page_at place pages m
        by_place (inl e) =
            ap (λ i. page_in (slice_get (pages ++ q ∷ []) i) m) e ∙ ap (λ (o : Option TaggedPage). page_in o m) (get_last pages q) ∙ other_number q m (λ h. apart (sym h ∙ number))
            ∙ sym (ap (λ i. page_in (slice_get pages i) m) e ∙ ap (λ (o : Option TaggedPage). page_in o m) (get_end pages))
        by_place (inr h) = ap (λ (o : Option TaggedPage). page_in o m) (get_before pages q (place m) h)

-- the word that is found at a place
pub word_found : (place : ℕ → ℕ) (pages : List TaggedPage) (at a : ℕ) → a < 2 ^ 30 → at ≡ place (a / 64) → word_at (pages_of (page_at place pages)) a ≡ word_of (page_in (slice_get pages at) (a / 64)) (a % 64)
word_found place pages at a low is = word_listed (page_at place pages) a (omega (arith, low)) ∙ ap (λ i. word_of (page_in (slice_get pages i) (a / 64)) (a % 64)) (sym is)
