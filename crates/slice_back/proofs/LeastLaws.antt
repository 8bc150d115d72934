-- The tests of a slice are those of the least set.
use Rattle.slice_back.proofs.Common.{◌≡◌, ℕ, suc, ◌+◌, ◌≤◌, ◌==◌, ◌↔◌, Bool, true, false, not, ◌&&◌, ◌||◌, List, [], ◌∷◌, length, drop, Option, Some, None, refl, sym, ◌∙◌, ap, subst, inl, inr, arith, length-drop, Noted, uses_word, stores_word, takes_word, used_word, took, is_word, at, InSlice, TakenBy, Live, live, in_slice, taken, wanted, and_from, and_parts, eq-eqb, eqb-true, not-true, or_cases, or_left, or_right, not_from_false}
use Rattle.slice_back.specs.Laws.{chosen, taken_first, Took, RowsAreLeast, RegistersAreFromBefore, WordsAreTaken}
use Rattle.slice_back.proofs.Least.{Known, Row_at, test_here, here_test, chosen_is, is_chosen, inside}
use Rattle.slice_back.proofs.LeastSteps.{known_from, row_in, next_rest, first_or}

-- a row that is there, with what is known after it
pub row_at : (es : List Noted) (n m : ℕ) (e : Noted) (later : List Noted) → length es ≡ n + 1 → drop m es ≡ e ∷ later → Row_at es n m e later
row_at es n m e later count d =
    let left : suc (length later) ≡ length (drop m es) = sym (ap length d) in
    let all : m + length later ≡ n = omega (arith, count, left, length-drop m es) in
    record {
      here = row_in es m e later d;
      count = all;
      known = known_from es n (m + 1) later (next_rest es m e later d) (omega (arith, all));
    }

-- no row is past the last one
past : (es : List Noted) (n m : ℕ) → length es ≡ n + 1 → drop m es ≡ [] → m ≤ n → ⊥
past es n m count d low = let none : length (drop m es) ≡ 0 = ap length d in absurd (omega (arith, count, none, low, length-drop m es))

rows_at : (es : List Noted) (n m : ℕ) (rows : List Noted) → length es ≡ n + 1 → drop m es ≡ rows → ((chosen rows ≡ true) ↔ InSlice es n m)
rows_at es n m [] count d = (λ t. absurd cc, λ s. absurd (past es n m count d (inside s)))
rows_at es n m (e ∷ later) count d = let r = row_at es n m e later count d in (chosen_is es n m e later r, is_chosen es n m e later r)

pub rows_least : RowsAreLeast
rows_least es n m count = rows_at es n m (drop m es) count refl

pub registers_before : RegistersAreFromBefore
registers_before es n q count =
    let k : Known es n 0 (live es) = known_from es n 0 es refl (omega (arith, count)) in (
      λ t. (let l = k.registers_is q t in (l.place, l.chosen, record { used = l.used; unwritten = λ i high. l.unwritten i (omega arith) high })),
      λ x. k.is_registers q (record { place = x.0; after = omega arith; chosen = x.1; used = x.2.used; unwritten = λ i low high. x.2.unwritten i high }),
    )

-- ---- words

-- what a taken word says
pub record Says (l : Live) (c : Bool) (e : Noted) (a v : ℕ) : Type 0 where
  pub used : uses_word a e.row ≡ true
  pub first : e.first_load ≡ Some v
  pub wants : (c || (not (stores_word a e.row) && l.words a)) ≡ true

wanted_is : (b : Bool) (c d a v : ℕ) → wanted b c d ≡ Some (a, v) → (b ≡ true) × (c ≡ a) × (d ≡ v)
wanted_is true c d a v h = let p : ◌≡◌ {A = ℕ × ℕ} (c, d) (a, v) = cc in (refl, ap (λ (x : ℕ × ℕ). x.0) p, ap (λ (x : ℕ × ℕ). x.1) p)
wanted_is false c d a v h = absurd cc

taken_says : (c : Bool) (l : Live) (e : Noted) (a v : ℕ) → taken c l e ≡ Some (a, v) → Says l c e a v
taken_says c l e a v h = by (used_word e.row) (e.first_load) refl refl h
  where
    by : (o p : Option ℕ) → used_word e.row ≡ o → e.first_load ≡ p → (elim o as (λ x. Option (ℕ × ℕ)) [ None ↦ None | Some b ↦ elim p as (λ x. Option (ℕ × ℕ)) [ None ↦ None | Some w ↦ wanted (c || (not (stores_word b e.row) && l.words b)) b w ] ]) ≡ Some (a, v) → Says l c e a v
    by None p f g h = absurd cc
    by (Some b) None f g h = absurd cc
    by (Some b) (Some w) f g h =
        let is = wanted_is (c || (not (stores_word b e.row) && l.words b)) b w a v h in
        record {
          used = ap (λ o. is_word a o) f ∙ ap (λ k. a == k) is.1 ∙ eq-eqb a a refl;
          first = g ∙ ap (λ k. Some k) is.2;
          wants = subst (λ (k : ℕ). (c || (not (stores_word k e.row) && l.words k)) ≡ true) is.1 is.0;
        }

pub says_taken : (c : Bool) (l : Live) (e : Noted) (a v : ℕ) → Says l c e a v → taken c l e ≡ Some (a, v)
says_taken c l e a v s = by (used_word e.row) (e.first_load) refl refl
  where
    by : (o p : Option ℕ) → used_word e.row ≡ o → e.first_load ≡ p → (elim o as (λ x. Option (ℕ × ℕ)) [ None ↦ None | Some b ↦ elim p as (λ x. Option (ℕ × ℕ)) [ None ↦ None | Some w ↦ wanted (c || (not (stores_word b e.row) && l.words b)) b w ] ]) ≡ Some (a, v)
    by None p f g = let t : false ≡ true = sym (ap (λ o. is_word a o) f) ∙ s.used in absurd cc
    by (Some b) None f g = let t : ◌≡◌ {A = Option ℕ} None (Some v) = sym g ∙ s.first in absurd cc
    by (Some b) (Some w) f g =
        let value : w ≡ v = (let t : ◌≡◌ {A = Option ℕ} (Some w) (Some v) = sym g ∙ s.first in cc) in
        let same : a ≡ b = eqb-true a b (sym (ap (λ o. is_word a o) f) ∙ s.used) in
        subst (λ (k : ℕ). wanted (c || (not (stores_word k e.row) && l.words k)) k w ≡ Some (a, v)) same
        (ap (λ t. wanted t a w) s.wants ∙ ap (λ k. Some (a, k)) value)

words_at : (es : List Noted) (n m a v : ℕ) (rows : List Noted) → length es ≡ n + 1 → drop m es ≡ rows → ((taken_first rows ≡ Some (a, v)) ↔ (Took es m v × ((j : ℕ) × InSlice es n j × TakenBy es j m a)))
words_at es n m a v [] count d = (λ t. absurd cc, λ x. (let low = x.1.2.earlier in let high = inside x.1.1 in absurd (past es n m count d (omega (arith, low, high)))))
words_at es n m a v (e ∷ later) count d = (to, from)
  where
    r : Row_at es n m e later
    r = row_at es n m e later count d

    c : Bool
    c = in_slice e later

    takes : e.first_load ≡ Some v → uses_word a e.row ≡ true → takes_word a e ≡ true
    takes f u = and_from (took e.first_load) (uses_word a e.row) (ap (λ o. took o) f) u

    to : taken c (live later) e ≡ Some (a, v) → Took es m v × ((j : ℕ) × InSlice es n j × TakenBy es j m a)
    to h = by (taken_says c (live later) e a v h)
      where
        by : Says (live later) c e a v → Took es m v × ((j : ℕ) × InSlice es n j × TakenBy es j m a)
        by s = (
          (e, r.here, s.first),
          elim (or_cases c (not (stores_word a e.row) && (live later).words a) s.wants) [
            | inl own ↦ (
              m,
              chosen_is es n m e later r own,
              record {
                earlier = omega arith;
                used = test_here es m e (λ f. uses_word a f.row) true r.here s.used;
                taken = test_here es m e (takes_word a) true r.here (takes s.first s.used);
                latest = λ k low high. absurd (omega (arith, low, high));
                unstored = λ k low high. absurd (omega (arith, low, high));
              },
            )
            | inr other ↦ (let l = r.known.words_is a (and_parts (not (stores_word a e.row)) ((live later).words a) other).1 in (
              l.place,
              l.chosen,
              record {
                earlier = omega (arith, l.after);
                used = l.used;
                taken = test_here es m e (takes_word a) true r.here (takes s.first s.used);
                latest = λ k low high. l.untaken k (omega (arith, low)) high;
                unstored = λ k low high. elim (first_or m k low) [
                  | inl same ↦ subst (λ (x : ℕ). at es x (λ f. stores_word a f.row) ≡ false) same (test_here es m e (λ f. stores_word a f.row) false r.here (not-true (stores_word a e.row) (and_parts (not (stores_word a e.row)) ((live later).words a) other).0))
                  | inr more ↦ l.unstored k more high
                ];
              },
            ))
          ],
        )

    from : Took es m v × ((j : ℕ) × InSlice es n j × TakenBy es j m a) → taken c (live later) e ≡ Some (a, v)
    from x = says_taken c (live later) e a v (record {
      used = (and_parts (took e.first_load) (uses_word a e.row) (here_test es m e (takes_word a) true r.here x.1.2.taken)).1;
      first = ap (λ (f : Noted). f.first_load) same_row ∙ x.0.2;
      wants = elim (first_or m x.1.0 x.1.2.earlier) [
        | inl same ↦ or_left c (not (stores_word a e.row) && (live later).words a) (is_chosen es n m e later r (subst (λ (k : ℕ). InSlice es n k) (sym same) x.1.1))
        | inr more ↦ or_right c (not (stores_word a e.row) && (live later).words a) (and_from (not (stores_word a e.row)) ((live later).words a)
            (not_from_false (stores_word a e.row) (here_test es m e (λ f. stores_word a f.row) false r.here (x.1.2.unstored m (omega arith) (omega (arith, more)))))
            (r.known.is_words a (record { place = x.1.0; after = more; chosen = x.1.1; used = x.1.2.used; unstored = λ k low high. x.1.2.unstored k (omega (arith, low)) high; untaken = λ k low high. x.1.2.latest k (omega (arith, low)) high })))
      ];
    })
      where
        same_row : e ≡ x.0.0
        same_row = let t : ◌≡◌ {A = Option Noted} (Some e) (Some x.0.0) = sym r.here ∙ x.0.1 in cc

pub words_taken : WordsAreTaken
words_taken es n m a v count = words_at es n m a v (drop m es) count refl
