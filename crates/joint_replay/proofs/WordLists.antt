-- Lists of known words.
use Rattle.joint_replay.proofs.Common.{◌≡◌, ℕ, zero, suc, ◌+◌, ◌-◌, ◌*◌, ◌/◌, ◌%◌, ◌^◌, ◌<◌, ◌≤◌, Bool, true, false, cond, not, ◌&&◌, ◌||◌, nat_le, ◌==◌, nat_lt, ◌⊎◌, inl, inr, if◌then◌else◌, refl, sym, ap, ◌∙◌, arith, List, [], ◌∷◌, filter, Option, Some, None, eq-eqb, ne_eqb, eqb_tells, aligned, Frame, Known, word_at, Bytes, has_byte, forget, put_word, word_in, known_from, in_front, words_from, words_of, AreBelow, le-ltb, lt-ltb}
use Rattle.hart_replay.specs.Sides.{word_count}

pub count_is : word_count ≡ 2 ^ 30
unfolding word_count
count_is = refl

-- ---- one word

passed : (k a : ℕ) (o : Option ℕ) (ms : List (ℕ × ℕ)) → (4 * k ≡ a → ⊥) → word_in (in_front k o ms) a ≡ word_in ms a
passed k a None ms n = refl
passed k a (Some w) ms n = ap (λ b. elim b as (λ y. Option ℕ) [ true ↦ Some w | false ↦ word_in ms a ]) (ne_eqb a (4 * k) (λ e. n (sym e)))

none_there : (f : ℕ → Option ℕ) (k n a : ℕ) → ((j : ℕ) → k ≤ j → 4 * j ≡ a → ⊥) → word_in (words_from f k n) a ≡ None
none_there f k zero a h = refl
none_there f k (suc n) a h = passed k a (f k) (words_from f (suc k) n) (h k (omega arith)) ∙ none_there f (suc k) n a (λ j le. h j (omega (arith, le)))

at_front : (f : ℕ → Option ℕ) (k n : ℕ) (o : Option ℕ) → word_in (in_front k o (words_from f (suc k) n)) (4 * k) ≡ o
at_front f k n None = none_there f (suc k) n (4 * k) (λ j le e. absurd (omega (arith, le, e)))
at_front f k n (Some w) = ap (λ b. elim b as (λ y. Option ℕ) [ true ↦ Some w | false ↦ word_in (words_from f (suc k) n) (4 * k) ]) (eq-eqb (4 * k) (4 * k) refl)

found : (f : ℕ → Option ℕ) (k n j : ℕ) → k ≤ j → j < k + n → word_in (words_from f k n) (4 * j) ≡ f j
found f k zero j low high = absurd (omega (arith, low, high))
found f k (suc n) j low high = elim (eqb_tells j k) [
  | inl e ↦ ap (λ x. word_in (words_from f k (suc n)) (4 * x)) e.1 ∙ at_front f k n (f k) ∙ ap f (sym e.1)
  | inr e ↦ passed k (4 * j) (f k) (words_from f (suc k) n) (λ x. e.1 (omega (arith, x))) ∙ found f (suc k) n j (omega (arith, low, e.1)) (omega (arith, high))
]

-- the known word at an address that is a multiple of 4
pub word_found : (pages : List (ℕ × Frame)) (a : ℕ) → a < 2 ^ 32 → a % 4 ≡ 0 → word_in (words_of pages) a ≡ word_at pages (a / 4)
word_found pages a low whole =
    let same : a ≡ 4 * (a / 4) = omega (arith, whole) in
    ap (word_in (words_of pages)) same ∙ found (word_at pages) 0 word_count (a / 4) (omega arith) (omega (arith, low, count_is))

-- no word is at another address
pub no_word : (pages : List (ℕ × Frame)) (a : ℕ) → (a % 4 ≡ 0 → ⊥) → word_in (words_of pages) a ≡ None
no_word pages a odd = none_there (word_at pages) 0 word_count a (λ j le e. odd (omega (arith, e)))

none_known : (f : ℕ → Option ℕ) (k n : ℕ) → ((j : ℕ) → f j ≡ None) → words_from f k n ≡ []
none_known f k zero e = refl
none_known f k (suc n) e = ap (λ (o : Option ℕ). in_front k o (words_from f (suc k) n)) (e k) ∙ none_known f (suc k) n e

-- no word is known
pub no_words : (pages : List (ℕ × Frame)) → ((k : ℕ) → word_at pages k ≡ None) → words_of pages ≡ []
no_words pages e = none_known (word_at pages) 0 word_count e

-- ---- one word more

put_front : (f : ℕ → Option ℕ) (k n j w : ℕ) → k < j → put_word (4 * k) w (words_from f j n) ≡ (4 * k, w) ∷ words_from f j n
put_front f k zero j w low = refl
put_front f k (suc n) j w low = by (f j) (put_front f k n (suc j) w (omega (arith, low)))
  where
    by : (o : Option ℕ) → put_word (4 * k) w (words_from f (suc j) n) ≡ (4 * k, w) ∷ words_from f (suc j) n → put_word (4 * k) w (in_front j o (words_from f (suc j) n)) ≡ (4 * k, w) ∷ in_front j o (words_from f (suc j) n)
    by None rest = rest
    by (Some x) rest =
        ap (λ b. elim b as (λ y. List (ℕ × ℕ)) [ true ↦ (4 * k, w) ∷ words_from f (suc j) n | false ↦ elim (nat_lt (4 * k) (4 * j)) as (λ y. List (ℕ × ℕ)) [ true ↦ (4 * k, w) ∷ (4 * j, x) ∷ words_from f (suc j) n | false ↦ (4 * j, x) ∷ put_word (4 * k) w (words_from f (suc j) n) ] ])
        (ne_eqb (4 * k) (4 * j) (λ e. absurd (omega (arith, low, e))))
        ∙ ap (λ b. elim b as (λ y. List (ℕ × ℕ)) [ true ↦ (4 * k, w) ∷ (4 * j, x) ∷ words_from f (suc j) n | false ↦ (4 * j, x) ∷ put_word (4 * k) w (words_from f (suc j) n) ]) (lt-ltb (4 * k) (4 * j) (omega (arith, low)))

same_from : (f g : ℕ → Option ℕ) (k n : ℕ) → ((j : ℕ) → k ≤ j → f j ≡ g j) → words_from f k n ≡ words_from g k n
same_from f g k zero e = refl
same_from f g k (suc n) e = ap (λ (o : Option ℕ). in_front k o (words_from f (suc k) n)) (e k (omega arith)) ∙ ap (in_front k (g k)) (same_from f g (suc k) n (λ j le. e j (omega (arith, le))))

chosen : (x j w : ℕ) (o : Option ℕ) → x ≡ j → (if x == j then Some w else o) ≡ Some w
chosen x j w o e = ap (λ (b : Bool). if b then Some w else o) (eq-eqb x j e)

kept : (x j w : ℕ) (o : Option ℕ) → (x ≡ j → ⊥) → (if x == j then Some w else o) ≡ o
kept x j w o e = ap (λ (b : Bool). if b then Some w else o) (ne_eqb x j e)

replaced : (f : ℕ → Option ℕ) (k n w : ℕ) (o : Option ℕ) → (4 * k, w) ∷ words_from f (suc k) n ≡ put_word (4 * k) w (in_front k o (words_from f (suc k) n))
replaced f k n w None = sym (put_front f k n (suc k) w (omega arith))
replaced f k n w (Some x) = sym (ap (λ b. elim b as (λ y. List (ℕ × ℕ)) [ true ↦ (4 * k, w) ∷ words_from f (suc k) n | false ↦ elim (nat_lt (4 * k) (4 * k)) as (λ y. List (ℕ × ℕ)) [ true ↦ (4 * k, w) ∷ (4 * k, x) ∷ words_from f (suc k) n | false ↦ (4 * k, x) ∷ put_word (4 * k) w (words_from f (suc k) n) ] ]) (eq-eqb (4 * k) (4 * k) refl))

behind : (k j w : ℕ) (o : Option ℕ) (ms : List (ℕ × ℕ)) → k < j → in_front k o (put_word (4 * j) w ms) ≡ put_word (4 * j) w (in_front k o ms)
behind k j w None ms low = refl
behind k j w (Some x) ms low =
    sym (ap (λ b. elim b as (λ y. List (ℕ × ℕ)) [ true ↦ (4 * j, w) ∷ ms | false ↦ elim (nat_lt (4 * j) (4 * k)) as (λ y. List (ℕ × ℕ)) [ true ↦ (4 * j, w) ∷ (4 * k, x) ∷ ms | false ↦ (4 * k, x) ∷ put_word (4 * j) w ms ] ])
    (ne_eqb (4 * j) (4 * k) (λ e. absurd (omega (arith, low, e))))
    ∙ ap (λ b. elim b as (λ y. List (ℕ × ℕ)) [ true ↦ (4 * j, w) ∷ (4 * k, x) ∷ ms | false ↦ (4 * k, x) ∷ put_word (4 * j) w ms ]) (le-ltb (4 * j) (4 * k) (omega (arith, low))))

put_there : (f g : ℕ → Option ℕ) (k n j w : ℕ) → k ≤ j → j < k + n → ((x : ℕ) → g x ≡ (if x == j then Some w else f x)) → words_from g k n ≡ put_word (4 * j) w (words_from f k n)
put_there f g k zero j w low high e = absurd (omega (arith, low, high))
put_there f g k (suc n) j w low high e = elim (eqb_tells j k) [
  | inl q ↦
      ap (λ (o : Option ℕ). in_front k o (words_from g (suc k) n)) (e k ∙ chosen k j w (f k) (sym q.1))
      ∙ ap (λ (ms : List (ℕ × ℕ)). (4 * k, w) ∷ ms) (same_from g f (suc k) n (λ x le. e x ∙ kept x j w (f x) (λ s. absurd (omega (arith, le, q.1, s)))))
      ∙ replaced f k n w (f k)
      ∙ ap (λ a. put_word (4 * a) w (words_from f k (suc n))) (sym q.1)
  | inr q ↦
      ap (λ (o : Option ℕ). in_front k o (words_from g (suc k) n)) (e k ∙ kept k j w (f k) (λ s. q.1 (sym s)))
      ∙ ap (in_front k (f k)) (put_there f g (suc k) n j w (omega (arith, low, q.1)) (omega (arith, high)) e)
      ∙ behind k j w (f k) (words_from f (suc k) n) (omega (arith, low, q.1))
]

-- pages with one word more
pub word_put : (old new : List (ℕ × Frame)) (a w : ℕ) → a < 2 ^ 32 → ((k : ℕ) → word_at new k ≡ (if k == a / 4 then Some w else word_at old k))
    → words_of new ≡ put_word (aligned a) w (words_of old)
word_put old new a w low e =
    let same : 4 * (a / 4) ≡ aligned a = omega arith in
    put_there (word_at old) (word_at new) 0 word_count (a / 4) w (omega arith) (omega (arith, low, count_is)) e ∙ ap (λ x. put_word x w (words_of old)) same

-- ---- words that are forgotten

gone : (b : Bytes) (k : ℕ) (o : Option ℕ) (ms : List (ℕ × ℕ)) → in_front k (if has_byte (Some b) (4 * k) then None else o) (filter (λ (m : ℕ × ℕ). not (has_byte (Some b) m.0)) ms) ≡ filter (λ (m : ℕ × ℕ). not (has_byte (Some b) m.0)) (in_front k o ms)
gone b k None ms = by (has_byte (Some b) (4 * k))
  where
    by : (c : Bool) → in_front k (if c then None else None) (filter (λ (m : ℕ × ℕ). not (has_byte (Some b) m.0)) ms) ≡ filter (λ (m : ℕ × ℕ). not (has_byte (Some b) m.0)) ms
    by true = refl
    by false = refl
gone b k (Some x) ms = by (has_byte (Some b) (4 * k)) refl
  where
    by : (c : Bool) → has_byte (Some b) (4 * k) ≡ c → in_front k (if c then None else Some x) (filter (λ (m : ℕ × ℕ). not (has_byte (Some b) m.0)) ms) ≡ filter (λ (m : ℕ × ℕ). not (has_byte (Some b) m.0)) ((4 * k, x) ∷ ms)
    by true e = sym (ap (λ (t : Bool). cond (not t) ((4 * k, x) ∷ filter (λ (m : ℕ × ℕ). not (has_byte (Some b) m.0)) ms) (filter (λ (m : ℕ × ℕ). not (has_byte (Some b) m.0)) ms)) e)
    by false e = sym (ap (λ (t : Bool). cond (not t) ((4 * k, x) ∷ filter (λ (m : ℕ × ℕ). not (has_byte (Some b) m.0)) ms) (filter (λ (m : ℕ × ℕ). not (has_byte (Some b) m.0)) ms)) e)

pub words_gone : (b : Bytes) (f g : ℕ → Option ℕ) (k n : ℕ) → ((x : ℕ) → x < k + n → g x ≡ (if has_byte (Some b) (4 * x) then None else f x)) → words_from g k n ≡ filter (λ (m : ℕ × ℕ). not (has_byte (Some b) m.0)) (words_from f k n)
words_gone b f g k zero e = refl
words_gone b f g k (suc n) e =
    ap (λ (o : Option ℕ). in_front k o (words_from g (suc k) n)) (e k (omega arith))
    ∙ ap (in_front k (if has_byte (Some b) (4 * k) then None else f k)) (words_gone b f g (suc k) n (λ x h. e x (omega (arith, h))))
    ∙ gone b k (f k) (words_from f (suc k) n)

-- the numbers of the words that have one of the bytes: from the first byte's on, up to the last byte's
in_bytes : (first count x : ℕ) → (nat_le (aligned first) (4 * x) && nat_lt (4 * x) (first + count)) ≡ (nat_le (first / 4) x && nat_lt x ((first + count + 3) / 4))
in_bytes first count x = both (nat_le (aligned first) (4 * x)) (nat_le (first / 4) x) (le_same first x) (nat_lt (4 * x) (first + count)) (nat_lt x ((first + count + 3) / 4)) (lt_same (first + count) x)
  where
    both : (a b : Bool) → a ≡ b → (c d : Bool) → c ≡ d → (a && c) ≡ (b && d)
    both a b e c d f = ap (λ x. x && c) e ∙ ap (λ x. b && x) f

    le_same : (m n : ℕ) → nat_le (aligned m) (4 * n) ≡ nat_le (m / 4) n
    le_same m n = grind arith

    lt_same : (m n : ℕ) → nat_lt (4 * n) m ≡ nat_lt n ((m + 3) / 4)
    lt_same m n = grind arith

-- pages without the words of some bytes
pub bytes_gone : (old new : List (ℕ × Frame)) (first count last : ℕ) → (last ≡ (first + count + 3) / 4) ⊎ ((word_count ≤ last) × (last ≤ (first + count + 3) / 4))
    → ((k : ℕ) → word_at new k ≡ (if nat_le (first / 4) k && nat_lt k last then None else word_at old k))
    → words_of new ≡ forget (Some (record { first = first; count = count })) (words_of old)
bytes_gone old new first count last end e = words_gone (record { first = first; count = count }) (word_at old) (word_at new) 0 word_count
    (λ x h. e x ∙ ap (λ (c : Bool). if nat_le (first / 4) x && c then None else word_at old x) (by_end x h end) ∙ ap (λ (c : Bool). if c then None else word_at old x) (sym (in_bytes first count x)))
  where
    lt_same : (x a b : ℕ) → a ≡ b → nat_lt x a ≡ nat_lt x b
    lt_same x a b q = ap (nat_lt x) q

    by_end : (x : ℕ) → x < 0 + word_count → (last ≡ (first + count + 3) / 4) ⊎ ((word_count ≤ last) × (last ≤ (first + count + 3) / 4)) → nat_lt x last ≡ nat_lt x ((first + count + 3) / 4)
    by_end x h (inl q) = lt_same x last ((first + count + 3) / 4) q
    by_end x h (inr q) = lt-ltb x last (omega (arith, h, q.0)) ∙ sym (lt-ltb x ((first + count + 3) / 4) (omega (arith, h, q.0, q.1)))

-- the words from the one that has the first byte on, up to a number, are unknown, and the others as they were
pub record Without (first number : ℕ) (old new : Known) : Type 0 where
  pub words : (k : ℕ) → word_at new.pages k ≡ (if nat_le (first / 4) k && nat_lt k number then None else word_at old.pages k)
  pub room : new.room ≡ old.room

apart : (m k : ℕ) → nat_le m k ≡ true → nat_lt k m ≡ true → ⊥
apart m k e f = grind arith

pub none_yet : (first : ℕ) (now : Known) → Without first (first / 4) now now
none_yet first now = record { words = λ k. by k (nat_le (first / 4) k) refl (nat_lt k (first / 4)) refl; room = refl }
  where
    by : (k : ℕ) (a : Bool) → nat_le (first / 4) k ≡ a → (b : Bool) → nat_lt k (first / 4) ≡ b → word_at now.pages k ≡ (if a && b then None else word_at now.pages k)
    by k true e true f = absurd (apart (first / 4) k e f)
    by k true e false f = refl
    by k false e true f = refl
    by k false e false f = refl

pub one_more : (first number : ℕ) (old now new : Known) → first / 4 ≤ number → Without first number old now
    → ((k : ℕ) → word_at new.pages k ≡ (if k == 4 * number / 4 then None else word_at now.pages k)) → new.room ≡ now.room → Without first (number + 1) old new
one_more first number old now new low w e r = record {
  words = λ k. e k ∙ ap (λ (o : Option ℕ). if k == 4 * number / 4 then None else o) (w.words k) ∙ by (word_at old.pages k) (k == 4 * number / 4) (nat_le (first / 4) k) (nat_lt k number) (nat_lt k (number + 1)) (same (first / 4) k number low);
  room = r ∙ w.room;
}
  where
    by : (o : Option ℕ) (a b c d : Bool) → (a || (b && c)) ≡ (b && d) → (if a then None else (if b && c then None else o)) ≡ (if b && d then None else o)
    by o true b c d q = ap (λ (x : Bool). if x then None else o) q
    by o false b c d q = ap (λ (x : Bool). if x then None else o) q

    same : (m k n : ℕ) → m ≤ n → ((k == 4 * n / 4) || (nat_le m k && nat_lt k n)) ≡ (nat_le m k && nat_lt k (n + 1))
    same m k n h = grind arith

-- once all words that have one of the bytes are passed
pub all_gone : (old new : Known) (first count last number : ℕ) → first < 2 ^ 32 → (last ≡ (first + count + 3) / 4) ⊎ ((last ≡ 2 ^ 30) × (2 ^ 30 ≤ (first + count + 3) / 4)) → last ≤ number → (first / 4 ≤ last → number ≤ last)
    → Without first number old new → words_of new.pages ≡ forget (Some (record { first = first; count = count })) (words_of old.pages)
all_gone old new first count last number low end after before w = bytes_gone old.pages new.pages first count number (by end) w.words
  where
    by : (last ≡ (first + count + 3) / 4) ⊎ ((last ≡ 2 ^ 30) × (2 ^ 30 ≤ (first + count + 3) / 4)) → (number ≡ (first + count + 3) / 4) ⊎ ((word_count ≤ number) × (number ≤ (first + count + 3) / 4))
    by (inl e) = inl (omega (arith, e, after, before (omega (arith, e))))
    by (inr e) = inr (omega (arith, e.0, after, count_is), omega (arith, e.0, e.1, before (omega (arith, e.0, low))))

-- the words that were below a number still are
pub still_below : (first number old_end new_end : ℕ) (old new : Known) → new_end ≡ old_end → Without first number old new → AreBelow old_end old.pages × (old_end ≤ 2 ^ 30) → AreBelow new_end new.pages × (new_end ≤ 2 ^ 30)
still_below first number old_end new_end old new e w b = (
  λ k up. w.words k ∙ by (nat_le (first / 4) k && nat_lt k number) (word_at old.pages k) (b.0 k (omega (arith, up, e))),
  (let low = b.1 in omega (arith, low, e)),
)
  where
    by : (c : Bool) (o : Option ℕ) → o ≡ None → (if c then None else o) ≡ None
    by true o f = refl
    by false o f = f

-- ---- the known words from an address on

-- words below the address are passed
passed_by : (a k : ℕ) (o : Option ℕ) (ms : List (ℕ × ℕ)) → 4 * k < a → known_from a (in_front k o ms) ≡ known_from a ms
passed_by a k None ms low = refl
passed_by a k (Some w) ms low = ap (λ (b : Bool). elim b as (λ y. List (ℕ × ℕ)) [ true ↦ known_from a ms | false ↦ (4 * k, w) ∷ ms ]) (lt-ltb (4 * k) a low)

-- those from it on stay
all_above : (f : ℕ → Option ℕ) (a k n : ℕ) → a ≤ 4 * k → known_from a (words_from f k n) ≡ words_from f k n
all_above f a k zero low = refl
all_above f a k (suc n) low = by (f k) (all_above f a (suc k) n (omega (arith, low)))
  where
    by : (o : Option ℕ) → known_from a (words_from f (suc k) n) ≡ words_from f (suc k) n → known_from a (in_front k o (words_from f (suc k) n)) ≡ in_front k o (words_from f (suc k) n)
    by None rest = rest
    by (Some w) rest = ap (λ (b : Bool). elim b as (λ y. List (ℕ × ℕ)) [ true ↦ known_from a (words_from f (suc k) n) | false ↦ (4 * k, w) ∷ words_from f (suc k) n ]) (le-ltb (4 * k) a low)

from_number : (f : ℕ → Option ℕ) (a k d n j : ℕ) → j ≡ k + d → a ≤ 4 * j → 4 * j < a + 4 → known_from a (words_from f k (d + n)) ≡ words_from f j n
from_number f a k zero n j e low high =
    let same : k ≡ j = omega (arith, e) in let none : zero + n ≡ n = omega arith in
    ap (λ x. known_from a (words_from f k x)) none ∙ all_above f a k n (omega (arith, low, e)) ∙ ap (λ x. words_from f x n) same
from_number f a k (suc d) n j e low high =
    let more : suc d + n ≡ suc (d + n) = omega arith in
    ap (λ x. known_from a (words_from f k x)) more ∙ passed_by a k (f k) (words_from f (suc k) (d + n)) (omega (arith, e, high)) ∙ from_number f a (suc k) d n j (omega (arith, e)) low high

none_above : (f : ℕ → Option ℕ) (a k n : ℕ) → 4 * (k + n) ≤ a + 3 → known_from a (words_from f k n) ≡ []
none_above f a k zero low = refl
none_above f a k (suc n) low = passed_by a k (f k) (words_from f (suc k) n) (omega (arith, low)) ∙ none_above f a (suc k) n (omega (arith, low))

-- the words from an address on are those from a number on
pub from_address : (pages : List (ℕ × Frame)) (a first : ℕ) → ((a ≤ 4 * first) × (4 * first < a + 4)) ⊎ ((first ≡ 2 ^ 30) × (2 ^ 32 ≤ a)) → first ≤ 2 ^ 30
    → known_from a (words_of pages) ≡ words_from (word_at pages) first (2 ^ 30 - first)
from_address pages a first (inl b) high =
    let all : word_count ≡ first + (2 ^ 30 - first) = omega (arith, count_is, high) in
    ap (λ n. known_from a (words_from (word_at pages) 0 n)) all ∙ from_number (word_at pages) a 0 first (2 ^ 30 - first) first (omega arith) b.0 b.1
from_address pages a first (inr b) high =
    let none : 0 ≡ 2 ^ 30 - first = omega (arith, b.0) in
    none_above (word_at pages) a 0 word_count (omega (arith, count_is, b.1)) ∙ ap (λ n. words_from (word_at pages) first n) none

-- one word after another
pub one_unknown : (f : ℕ → Option ℕ) (words : List (ℕ × ℕ)) (k : ℕ) → k < 2 ^ 30 → f k ≡ None → words ≡ words_from f k (2 ^ 30 - k) → words ≡ words_from f (k + 1) (2 ^ 30 - (k + 1))
one_unknown f words k low e so =
    let more : 2 ^ 30 - k ≡ suc (2 ^ 30 - (k + 1)) = omega (arith, low) in let up : suc k ≡ k + 1 = omega arith in
    so ∙ ap (λ n. words_from f k n) more ∙ ap (λ (o : Option ℕ). in_front k o (words_from f (suc k) (2 ^ 30 - (k + 1)))) e ∙ ap (λ x. words_from f x (2 ^ 30 - (k + 1))) up

pub one_known : (pages : List (ℕ × Frame)) (words : List (ℕ × ℕ)) (k w : ℕ) → k < 2 ^ 30 → word_at pages k ≡ Some w → words ≡ words_from (word_at pages) k (2 ^ 30 - k) → words ≡ (4 * k, w) ∷ known_from (4 * k + 4) (words_of pages)
one_known pages words k w low e so =
    let more : 2 ^ 30 - k ≡ suc (2 ^ 30 - (k + 1)) = omega (arith, low) in let up : suc k ≡ k + 1 = omega arith in
    so ∙ ap (λ n. words_from (word_at pages) k n) more ∙ ap (λ (o : Option ℕ). in_front k o (words_from (word_at pages) (suc k) (2 ^ 30 - (k + 1)))) e
    ∙ ap (λ (ms : List (ℕ × ℕ)). (4 * k, w) ∷ ms) (ap (λ x. words_from (word_at pages) x (2 ^ 30 - (k + 1))) up ∙ sym (from_address pages (4 * k + 4) (k + 1) (inl (omega arith, omega arith)) (omega (arith, low))))

pub none_after : (pages : List (ℕ × Frame)) (end k n : ℕ) → AreBelow end pages → end ≤ k → words_from (word_at pages) k n ≡ []
none_after pages end k zero b low = refl
none_after pages end k (suc n) b low = ap (λ (o : Option ℕ). in_front k o (words_from (word_at pages) (suc k) n)) (b k low) ∙ none_after pages end (suc k) n b (omega (arith, low))
