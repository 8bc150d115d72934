-- The same row of two replays that agree on what is live: what it tells, and what is live after it.
use Rattle.slice_back.proofs.Common.{◌≡◌, ℕ, ◌==◌, ◌&&◌, Bool, true, false, ◌∷◌, length, Option, Some, None, refl, sym, ◌∙◌, ap, subst, inl, inr, slice_index, Program, Row, aligned, Want, Load, Store, LoadReserved, StoreConditional, Amo, System, Cut, Faulted, instruction_in, known, at_address, Interval, Position, word_for, Pending, Noted, is_word, word_of, used_word, uses_word, stores_word, takes_word, took, stores_part, Live, note, address_of, took_word, AreAlike, and_from, and_parts, eq-eqb, eqb-true}
use Rattle.slice_back.proofs.Turns.{IsAsk, asked_row, WordOf, Turn}
use Rattle.slice_back.proofs.Turns.Turn.{quiet, asked}
use Rattle.slice_back.proofs.Places.{Linked}
use Rattle.slice_back.proofs.Afters.{Source, source_of}

-- one side: a row that was done, with what it took
pub record Side (i : Program) (h : ℕ) (v : Interval) (p q : Position) (pend : Pending) (row : Row) : Type 0 where
  pub turn : Turn i h v p q row
  pub rows : q.rows ≡ row ∷ p.rows
  pub linked : Linked v pend p.loads
  pub count : length p.state.x ≡ 32

-- two positions agree on what is live
pub record Agreeing (l : Live) (p q : Position) : Type 0 where
  pub registers : (r : ℕ) → l.registers r ≡ true → slice_index p.state.x r ≡ slice_index q.state.x r
  pub zero_same : slice_index p.state.x 0 ≡ slice_index q.state.x 0
  pub words : (a : ℕ) → l.words a ≡ true → known a p.rows ≡ known a q.rows

-- ---- one side

-- the word that a row loads
pub loaded : (i : Program) (h : ℕ) (v : Interval) (p q : Position) (pend : Pending) (row : Row) (b x : ℕ) → Side i h v p q pend row → row.load ≡ Some (b, x) → Source (note pend row).first_load p.rows (aligned b) x
loaded i h v p q pend row b x s e = by s.turn
  where
    uses : used_word row ≡ Some (aligned b)
    uses = ap (λ (o : Option (ℕ × ℕ)). elim o as (λ y. Option ℕ) [ Some z ↦ Some (aligned z.0) | None ↦ elim (stores_part (instruction_in row.word)) as (λ y. Option ℕ) [ true ↦ word_of row.store | false ↦ None ] ]) e

    given : (a y : ℕ) → row.load ≡ Some (a, y) → word_for v p a ≡ Some y → Source (note pend row).first_load p.rows (aligned b) x
    given a y f w =
        let same : ◌≡◌ {A = ℕ × ℕ} (a, y) (b, x) = (let t : ◌≡◌ {A = Option (ℕ × ℕ)} (Some (a, y)) (Some (b, x)) = sym f ∙ e in cc) in
        source_of v pend p row b x s.linked uses (subst (λ (z : ℕ × ℕ). word_for v p z.0 ≡ Some z.1) same w)

    none : row.load ≡ None → Source (note pend row).first_load p.rows (aligned b) x
    none f = absurd (let t : ◌≡◌ {A = Option (ℕ × ℕ)} None (Some (b, x)) = sym f ∙ e in cc)

    by_ask : (k : Want) (c : Bool) (y : ℕ) → IsAsk k → row ≡ asked_row h i p.state q.state v.mark k c y → WordOf v p k y → Source (note pend row).first_load p.rows (aligned b) x
    by_ask (Load a w g rd) c y t r o = given a y (ap (λ (z : Row). z.load) r) o
    by_ask (LoadReserved a rd) c y t r o = given a y (ap (λ (z : Row). z.load) r) o
    by_ask (Amo a z rd u) c y t r o = given a y (ap (λ (z : Row). z.load) r) o
    by_ask (Store a w z) c y t r o = none (ap (λ (z : Row). z.load) r)
    by_ask (StoreConditional a rd z) c y t r o = none (ap (λ (z : Row). z.load) r)
    by_ask (System m args) c y t r o = none (ap (λ (z : Row). z.load) r)
    by_ask Cut c y t r o = absurd t
    by_ask (Faulted g z) c y t r o = absurd t

    by : Turn i h v p q row → Source (note pend row).first_load p.rows (aligned b) x
    by (quiet f r n) = none (ap (λ (z : Row). z.load) r)
    by (asked k c y f a u r w n) = by_ask k c y a r w

-- a row that takes no first load of a word leaves what the rows know of it, unless it stores it
pub kept : (i : Program) (h : ℕ) (v : Interval) (p q : Position) (pend : Pending) (row : Row) (a : ℕ) → Side i h v p q pend row → takes_word a (note pend row) ≡ false → at_address a row.load (known a p.rows) ≡ known a p.rows
kept i h v p q pend row a s n = by row.load refl
  where
    by : (o : Option (ℕ × ℕ)) → row.load ≡ o → at_address a o (known a p.rows) ≡ known a p.rows
    by None e = refl
    by (Some z) e = at (aligned z.0 == a) refl
      where
        at : (b : Bool) → (aligned z.0 == a) ≡ b → (elim b as (λ y. Option ℕ) [ true ↦ Some z.1 | false ↦ known a p.rows ]) ≡ known a p.rows
        at false f = refl
        at true f = elim (loaded i h v p q pend row z.0 z.1 s e) [
          | inl first ↦ absurd (
              let same : aligned z.0 ≡ a = eqb-true (aligned z.0) a f in
              let uses : used_word row ≡ Some a = ap (λ (o : Option (ℕ × ℕ)). elim o as (λ y. Option ℕ) [ Some z ↦ Some (aligned z.0) | None ↦ elim (stores_part (instruction_in row.word)) as (λ y. Option ℕ) [ true ↦ word_of row.store | false ↦ None ] ]) e ∙ ap (λ k. Some k) same in
              let yes : takes_word a (note pend row) ≡ true = and_from (took (note pend row).first_load) (uses_word a row) (ap took first) (ap (λ o. is_word a o) uses ∙ eq-eqb a a refl) in
              let t : true ≡ false = sym yes ∙ n in cc)
          | inr known_is ↦ sym known_is.1 ∙ ap (λ k. known k p.rows) (eqb-true (aligned z.0) a f)
        ]

-- a row that takes one and doesn't store the word has its value
pub taken_now : (i : Program) (h : ℕ) (v : Interval) (p q : Position) (pend : Pending) (row : Row) (a x : ℕ) → Side i h v p q pend row → takes_word a (note pend row) ≡ true → stores_word a row ≡ false → (note pend row).first_load ≡ Some x
    → at_address a row.load (known a p.rows) ≡ Some x
taken_now i h v p q pend row a x s t n f = by row.load refl (and_parts (took (note pend row).first_load) (uses_word a row) t).1
  where
    stored : (b : Bool) → is_word a (elim b as (λ y. Option ℕ) [ true ↦ word_of row.store | false ↦ None ]) ≡ true → ⊥
    stored true u = let t : true ≡ false = sym u ∙ n in cc
    stored false u = cc

    by : (o : Option (ℕ × ℕ)) → row.load ≡ o → is_word a (elim o as (λ y. Option ℕ) [ Some z ↦ Some (aligned z.0) | None ↦ elim (stores_part (instruction_in row.word)) as (λ y. Option ℕ) [ true ↦ word_of row.store | false ↦ None ] ]) ≡ true → at_address a o (known a p.rows) ≡ Some x
    by None e u = absurd (stored (stores_part (instruction_in row.word)) u)
    by (Some z) e u =
        let same : a ≡ aligned z.0 = eqb-true a (aligned z.0) u in
        let here : (aligned z.0 == a) ≡ true = ap (λ k. k == a) (sym same) ∙ eq-eqb a a refl in
        ap (λ b. elim b as (λ y. Option ℕ) [ true ↦ Some z.1 | false ↦ known a p.rows ]) here
        ∙ elim (loaded i h v p q pend row z.0 z.1 s e) [
          | inl first ↦ sym first ∙ f
          | inr none ↦ absurd (let t : ◌≡◌ {A = Option ℕ} None (Some x) = sym none.0 ∙ f in cc)
        ]

-- ---- a store

word_by_address : (o : Option (ℕ × ℕ)) → word_of o ≡ elim (address_of o) as (λ y. Option ℕ) [ None ↦ None | Some b ↦ Some (aligned b) ]
word_by_address None = refl
word_by_address (Some z) = refl

pub stores_alike : (e f : Noted) (a : ℕ) → AreAlike e f → stores_word a e.row ≡ stores_word a f.row
stores_alike e f a h = ap (λ o. is_word a o) (word_by_address e.row.store ∙ ap (λ (o : Option ℕ). elim o as (λ y. Option ℕ) [ None ↦ None | Some b ↦ Some (aligned b) ]) h.store ∙ sym (word_by_address f.row.store))

takes_by_word : (a : ℕ) (e : Noted) → takes_word a e ≡ is_word a (took_word e)
takes_by_word a e = by e.first_load
  where
    by : (o : Option ℕ) → (took o && uses_word a e.row) ≡ is_word a (elim o as (λ y. Option ℕ) [ None ↦ None | Some v ↦ used_word e.row ])
    by None = refl
    by (Some v) = refl

pub takes_alike : (e f : Noted) (a : ℕ) → AreAlike e f → takes_word a e ≡ takes_word a f
takes_alike e f a h = takes_by_word a e ∙ ap (λ o. is_word a o) h.took ∙ sym (takes_by_word a f)

pub over_store : (a : ℕ) (o : Option (ℕ × ℕ)) (r s : Option ℕ) → is_word a (word_of o) ≡ true → at_address a o r ≡ at_address a o s
over_store a None r s t = absurd cc
over_store a (Some z) r s t =
    let same : a ≡ aligned z.0 = eqb-true a (aligned z.0) t in
    let here : (aligned z.0 == a) ≡ true = ap (λ k. k == a) (sym same) ∙ eq-eqb a a refl in
    ap (λ b. elim b as (λ y. Option ℕ) [ true ↦ Some z.1 | false ↦ r ]) here ∙ sym (ap (λ b. elim b as (λ y. Option ℕ) [ true ↦ Some z.1 | false ↦ s ]) here)

flip : (a b : ℕ) → (a == b) ≡ false → (b == a) ≡ false
flip a b h = by (b == a) refl
  where
    by : (c : Bool) → (b == a) ≡ c → c ≡ false
    by false e = refl
    by true e = sym (eq-eqb a a refl) ∙ ap (λ k. a == k) (sym (eqb-true b a e)) ∙ h

pub past_store : (a : ℕ) (o : Option (ℕ × ℕ)) (r : Option ℕ) → is_word a (word_of o) ≡ false → at_address a o r ≡ r
past_store a None r t = refl
past_store a (Some z) r t = ap (λ b. elim b as (λ y. Option ℕ) [ true ↦ Some z.1 | false ↦ r ]) (flip a (aligned z.0) t)
