-- What is live before rows, and which rows are in the slice, by the definition of the least set.
use Rattle.slice_back.proofs.Common.{◌≡◌, ℕ, ◌+◌, ◌<◌, ◌≤◌, Bool, true, false, ◌⊎◌, List, [], ◌∷◌, length, slice_get, Option, Some, None, refl, sym, ◌∙◌, ap, subst, inl, inr, arith, Noted, uses_register, writes_register, uses_word, stores_word, takes_word, is_of, is_word, word_of, passes, at, Needs, InSlice, Live, live, writes_live, stores_live, gives, is_last, in_slice, eq-eqb, eqb-true, or_cases, or_left, or_right}
use Rattle.slice_back.specs.Needs.InSlice.{itself, needed}

-- ---- the least set

earlier : {es : List Noted} {n m : ℕ} → Needs es n m → m < n
earlier (inl h) = h.1.earlier
earlier (inr h) = h.1.earlier

pub inside : {es : List Noted} {n m : ℕ} → InSlice es n m → m ≤ n
inside itself = omega arith
inside (needed s d) = let low = inside s in let less = earlier d in omega (arith, low, less)

-- a row of the slice is the given one, or a row of the slice needs it
pub split : {es : List Noted} {n m : ℕ} → InSlice es n m → (m ≡ n) ⊎ ((j : ℕ) × InSlice es n j × Needs es j m)
split itself = inl refl
split (needed {m = j} s d) = inr (j, s, d)

-- ---- what is live before the row at m, by the definition

pub record LiveRegister (es : List Noted) (n m q : ℕ) : Type 0 where
  pub place : ℕ
  pub after : m ≤ place
  pub chosen : InSlice es n place
  pub used : at es place (λ e. uses_register q e.row) ≡ true
  pub unwritten : (k : ℕ) → m ≤ k → k < place → at es k (λ e. writes_register q e.row) ≡ false

pub record LiveWord (es : List Noted) (n m a : ℕ) : Type 0 where
  pub place : ℕ
  pub after : m ≤ place
  pub chosen : InSlice es n place
  pub used : at es place (λ e. uses_word a e.row) ≡ true
  pub unstored : (k : ℕ) → m ≤ k → k < place → at es k (λ e. stores_word a e.row) ≡ false
  pub untaken : (k : ℕ) → m ≤ k → k ≤ place → at es k (takes_word a) ≡ false

-- the tests say so
pub record Known (es : List Noted) (n m : ℕ) (l : Live) : Type 0 where
  pub registers_is : (q : ℕ) → l.registers q ≡ true → LiveRegister es n m q
  pub is_registers : (q : ℕ) → LiveRegister es n m q → l.registers q ≡ true
  pub words_is : (a : ℕ) → l.words a ≡ true → LiveWord es n m a
  pub is_words : (a : ℕ) → LiveWord es n m a → l.words a ≡ true

-- ---- registers and words that a row gives

written : (l : Live) (o : Option (ℕ × ℕ)) → writes_live l o ≡ true → (q : ℕ) × (l.registers q ≡ true) × (is_of q o ≡ true)
written l None h = cc
written l (Some x) h = (x.0, h, eq-eqb x.0 x.0 refl)

writes : (l : Live) (o : Option (ℕ × ℕ)) (q : ℕ) → l.registers q ≡ true → is_of q o ≡ true → writes_live l o ≡ true
writes l None q h t = cc
writes l (Some x) q h t = ap l.registers (eqb-true x.0 q t) ∙ h

stored : (l : Live) (o : Option ℕ) → stores_live l o ≡ true → (a : ℕ) × (l.words a ≡ true) × (is_word a o ≡ true)
stored l None h = cc
stored l (Some a) h = (a, h, eq-eqb a a refl)

stores : (l : Live) (o : Option ℕ) (a : ℕ) → l.words a ≡ true → is_word a o ≡ true → stores_live l o ≡ true
stores l None a h t = cc
stores l (Some b) a h t = sym (ap l.words (eqb-true a b t)) ∙ h

last_is : (later : List Noted) → is_last later ≡ true → length later ≡ 0
last_is [] h = refl
last_is (e ∷ later) h = cc

is_none : (later : List Noted) → length later ≡ 0 → is_last later ≡ true
is_none [] h = refl
is_none (e ∷ later) h = absurd (omega (arith, h))

-- ---- one row, at m, before the others

pub record Row_at (es : List Noted) (n m : ℕ) (e : Noted) (later : List Noted) : Type 0 where
  pub here : slice_get es m ≡ Some e
  pub count : m + length later ≡ n
  pub known : Known es n (m + 1) (live later)

pub test_here : (es : List Noted) (m : ℕ) (e : Noted) (test : Noted → Bool) (b : Bool) → slice_get es m ≡ Some e → test e ≡ b → at es m test ≡ b
test_here es m e test b here t = ap (λ o. passes test o) here ∙ t

pub here_test : (es : List Noted) (m : ℕ) (e : Noted) (test : Noted → Bool) (b : Bool) → slice_get es m ≡ Some e → at es m test ≡ b → test e ≡ b
here_test es m e test b here t = sym (ap (λ o. passes test o) here) ∙ t

pub chosen_is : (es : List Noted) (n m : ℕ) (e : Noted) (later : List Noted) → Row_at es n m e later → in_slice e later ≡ true → InSlice es n m
chosen_is es n m e later r t = elim (or_cases (is_last later) (gives (live later) e.row) t) [
  | inl last ↦ (let none = last_is later last in let same : n ≡ m = omega (arith, none, r.count) in subst (λ x. InSlice es n x) same itself)
  | inr gave ↦ elim (or_cases (writes_live (live later) e.row.reg) (stores_live (live later) (word_of e.row.store)) gave) [
    | inl w ↦ by_register (written (live later) e.row.reg w)
    | inr s ↦ by_word (stored (live later) (word_of e.row.store) s)
  ]
]
  where
    by_register : (q : ℕ) × ((live later).registers q ≡ true) × (is_of q e.row.reg ≡ true) → InSlice es n m
    by_register x = let u = r.known.registers_is x.0 x.1 in needed u.chosen (inl (
      x.0,
      record {
        earlier = omega (arith, u.after);
        used = u.used;
        written = test_here es m e (λ f. writes_register x.0 f.row) true r.here x.2;
        latest = λ k low high. u.unwritten k (omega (arith, low)) high;
      },
    ))

    by_word : (a : ℕ) × ((live later).words a ≡ true) × (is_word a (word_of e.row.store) ≡ true) → InSlice es n m
    by_word x = let u = r.known.words_is x.0 x.1 in needed u.chosen (inr (
      x.0,
      record {
        earlier = omega (arith, u.after);
        used = u.used;
        stored = test_here es m e (λ f. stores_word x.0 f.row) true r.here x.2;
        latest = λ k low high. u.unstored k (omega (arith, low)) high;
        untaken = λ k low high. u.untaken k (omega (arith, low)) high;
      },
    ))

pub is_chosen : (es : List Noted) (n m : ℕ) (e : Noted) (later : List Noted) → Row_at es n m e later → InSlice es n m → in_slice e later ≡ true
is_chosen es n m e later r s = elim (split s) [
  | inl same ↦ or_left (is_last later) (gives (live later) e.row) (is_none later (omega (arith, same, r.count)))
  | inr x ↦ or_right (is_last later) (gives (live later) e.row) (by x.0 x.1 x.2)
]
  where
    by : (j : ℕ) → InSlice es n j → Needs es j m → gives (live later) e.row ≡ true
    by j chosen (inl h) =
        let l : LiveRegister es n (m + 1) h.0 = record {
          place = j;
          after = omega (arith, h.1.earlier);
          chosen = chosen;
          used = h.1.used;
          unwritten = λ k low high. h.1.latest k (omega (arith, low)) high;
        } in
        or_left (writes_live (live later) e.row.reg) (stores_live (live later) (word_of e.row.store))
        (writes (live later) e.row.reg h.0 (r.known.is_registers h.0 l) (here_test es m e (λ f. writes_register h.0 f.row) true r.here h.1.written))
    by j chosen (inr h) =
        let l : LiveWord es n (m + 1) h.0 = record {
          place = j;
          after = omega (arith, h.1.earlier);
          chosen = chosen;
          used = h.1.used;
          unstored = λ k low high. h.1.latest k (omega (arith, low)) high;
          untaken = λ k low high. h.1.untaken k (omega (arith, low)) high;
        } in
        or_right (writes_live (live later) e.row.reg) (stores_live (live later) (word_of e.row.store))
        (stores (live later) (word_of e.row.store) h.0 (r.known.is_words h.0 l) (here_test es m e (λ f. stores_word h.0 f.row) true r.here h.1.stored))
