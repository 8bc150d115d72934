-- The tests on points, and what they decide.
use Rattle.race_log.proofs.Common.{◌≡◌, ◌≢◌, ℕ, Bool, true, not, ◌&&◌, ◌||◌, ◌==◌, refl, inl, inr, arith, sym, ◌∙◌, List, slice_get, Option, Some, None, nat_lt, lt-ltb, ltb-true, list_any, Any, Any-from_list_any, list_any-from_Any, Point, Access, IsConflict, IsSameHart, Touches, Writes, AtPlaces, ProgramOrder, Conflict, touches, writes_word, clashes, is_conflict, is_same_hart, of_both, at_places, program_order, conflict}
use Rattle.race_log.proofs.BoolFacts.{and_left, and_right, both, or_split, or_first, or_second, not_true, true_not, same_number}

pub same_test : (a c : ℕ) → a ≡ c → (a == c) ≡ true
same_test a c e = grind arith

-- another fact of the element
pub any_map : {X : Type 0} {P Q : X → Type 0} (xs : List X) → ((x : X) → P x → Q x) → Any P xs → Any Q xs
any_map xs f a = (a.0, a.1, a.2, a.3, f a.1 a.4)

pub touches_is : (word : ℕ) (p : Point) → touches word p ≡ true → Touches word p
touches_is word p h = any_map p.accesses (λ x t. same_number x.word word t) (Any-from_list_any (λ (x : Access). x.word == word) p.accesses h)

pub is_touches : (word : ℕ) (p : Point) → Touches word p → touches word p ≡ true
is_touches word p a = list_any-from_Any (λ (x : Access). x.word == word) p.accesses (any_map p.accesses (λ x e. same_test x.word word e) a)

pub writes_is : (word : ℕ) (p : Point) → writes_word word p ≡ true → Writes word p
writes_is word p h = any_map p.accesses
    (λ x t. (same_number x.word word (and_left (x.word == word) x.writes t), and_right (x.word == word) x.writes t))
    (Any-from_list_any (λ (x : Access). (x.word == word) && x.writes) p.accesses h)

pub is_writes : (word : ℕ) (p : Point) → Writes word p → writes_word word p ≡ true
is_writes word p a = list_any-from_Any (λ (x : Access). (x.word == word) && x.writes) p.accesses
    (any_map p.accesses (λ x e. both (x.word == word) x.writes (same_test x.word word e.0) e.1) a)

hart_apart : (p q : Point) → not (p.hart == q.hart) ≡ true → p.hart ≢ q.hart
hart_apart p q h e = not_true (p.hart == q.hart) h (same_test p.hart q.hart e)

pub conflict_is : (p q : Point) → is_conflict p q ≡ true → IsConflict p q
conflict_is p q h =
    let apart = and_left (not (p.hart == q.hart)) (list_any (λ x. list_any (clashes x) q.accesses) p.accesses) h in
    let x = Any-from_list_any (λ (x : Access). list_any (clashes x) q.accesses) p.accesses
    (and_right (not (p.hart == q.hart)) (list_any (λ x. list_any (clashes x) q.accesses) p.accesses) h) in
    let y = Any-from_list_any (clashes x.1) q.accesses x.4 in
    let same = same_number x.1.word y.1.word (and_left (x.1.word == y.1.word) (x.1.writes || y.1.writes) y.4) in
    record {
      apart = hart_apart p q apart;
      word = y.1.word;
      meet = record {
        first = (x.0, x.1, x.2, x.3, same);
        second = (y.0, y.1, y.2, y.3, refl);
        written = elim (or_split x.1.writes y.1.writes (and_right (x.1.word == y.1.word) (x.1.writes || y.1.writes) y.4)) [
          | inl t ↦ inl (x.0, x.1, x.2, x.3, (same, t))
          | inr t ↦ inr (y.0, y.1, y.2, y.3, (refl, t))
        ];
      };
    }

pub is_conflict_at : (p q : Point) → IsConflict p q → is_conflict p q ≡ true
is_conflict_at p q c = both (not (p.hart == q.hart)) (list_any (λ x. list_any (clashes x) q.accesses) p.accesses)
    (true_not (p.hart == q.hart) (λ t. c.apart (same_number p.hart q.hart t)))
    (elim c.meet.written [
      | inl w ↦ let x = w.1 in let y = c.meet.second.1 in
          meet (w.0, x, w.2, w.3, tt) (c.meet.second.0, y, c.meet.second.2, c.meet.second.3, tt) (w.4.0 ∙ sym c.meet.second.4) (or_first x.writes y.writes w.4.1)
      | inr w ↦ let x = c.meet.first.1 in let y = w.1 in
          meet (c.meet.first.0, x, c.meet.first.2, c.meet.first.3, tt) (w.0, y, w.2, w.3, tt) (c.meet.first.4 ∙ sym w.4.0) (or_second x.writes y.writes w.4.1)
    ])
  where
    meet : (a : Any (λ (x : Access). Unit {0}) p.accesses) (d : Any (λ (x : Access). Unit {0}) q.accesses) → a.1.word ≡ d.1.word
        → (a.1.writes || d.1.writes) ≡ true → list_any (λ x. list_any (clashes x) q.accesses) p.accesses ≡ true
    meet a d e t = list_any-from_Any (λ (x : Access). list_any (clashes x) q.accesses) p.accesses (
      a.0,
      a.1,
      a.2,
      a.3,
      list_any-from_Any (clashes a.1) q.accesses (
        d.0,
        d.1,
        d.2,
        d.3,
        both (a.1.word == d.1.word) (a.1.writes || d.1.writes) (same_test a.1.word d.1.word e) t,
      ),
    )

-- a test that decides a relation of points decides it of the points at two places
pub record Decides (test : Point → Point → Bool) (Related : Point → Point → Type 0) : Type 0 where
  pub sound : (p q : Point) → test p q ≡ true → Related p q
  pub complete : (p q : Point) → Related p q → test p q ≡ true

pub decides_conflict : Decides is_conflict IsConflict
decides_conflict = record { sound = conflict_is; complete = is_conflict_at }

pub decides_same_hart : Decides is_same_hart IsSameHart
decides_same_hart = record { sound = λ p q t. same_number p.hart q.hart t; complete = λ p q e. same_test p.hart q.hart e }

module _ (test : Point → Point → Bool) (Related : Point → Point → Type 0) (decides : Decides test Related) (run : List Point) (m n : ℕ) where
  pub places_are : at_places test run m n ≡ true → AtPlaces Related run m n
  unfolding at_places
  places_are h = go (slice_get run m) (slice_get run n) refl refl
      (and_right (nat_lt m n) (of_both test (slice_get run m) (slice_get run n)) h)
    where
      go : (o u : Option Point) → slice_get run m ≡ o → slice_get run n ≡ u → of_both test o u ≡ true → AtPlaces Related run m n
      go None u e f t = cc
      go (Some p) None e f t = cc
      go (Some p) (Some q) e f t = record {
        earlier = ltb-true m n (and_left (nat_lt m n) (of_both test (slice_get run m) (slice_get run n)) h);
        first = p;
        second = q;
        first_at = e;
        second_at = f;
        related = decides.sound p q t;
      }

  pub are_places : AtPlaces Related run m n → at_places test run m n ≡ true
  unfolding at_places
  are_places a = both (nat_lt m n) (of_both test (slice_get run m) (slice_get run n)) (lt-ltb m n a.earlier)
      (rw (a.first_at, a.second_at) (decides.complete a.first a.second a.related))

pub order_is : (run : List Point) (m n : ℕ) → program_order run m n ≡ true → ProgramOrder run m n
order_is run m n h = places_are is_same_hart IsSameHart decides_same_hart run m n h

pub is_order : (run : List Point) (m n : ℕ) → ProgramOrder run m n → program_order run m n ≡ true
is_order run m n a = are_places is_same_hart IsSameHart decides_same_hart run m n a

pub clash_is : (run : List Point) (m n : ℕ) → conflict run m n ≡ true → Conflict run m n
clash_is run m n h = places_are is_conflict IsConflict decides_conflict run m n h

pub is_clash : (run : List Point) (m n : ℕ) → Conflict run m n → conflict run m n ≡ true
is_clash run m n a = are_places is_conflict IsConflict decides_conflict run m n a
