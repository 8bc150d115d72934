-- A point that reads or writes all words of a range.
use Rattle.race_log.proofs.Common.{◌≡◌, ◌≢◌, ℕ, zero, suc, ◌+◌, ◌*◌, ◌<◌, Bool, true, false, ◌||◌, ◌==◌, inl, inr, arith, sym, ap, ◌∙◌, length, slice_index_or, list_any, Mode, Point, Access, IsConflict, Touches, Writes, touches, writes_word, is_write, accesses_from, access_point}
use Rattle.race_log.proofs.BoolFacts.{or_split, or_first, or_second, known, same_number}
use Rattle.race_log.proofs.Agree.{touches_is, is_touches, writes_is, is_writes, same_test}

-- all accesses of a range are of its kind
range_kind : (first n : ℕ) (writes : Bool) (k : ℕ) (x : Access) → k < length (accesses_from first n writes)
    → slice_index_or (accesses_from first n writes) k x ≡ x → x.writes ≡ writes
range_kind first zero writes k x low e = absurd (omega arith)
range_kind first (suc n) writes zero x low e = sym (ap (λ (y : Access). y.writes) e)
range_kind first (suc n) writes (suc k) x low e = range_kind (first + 4) n writes k x (omega arith) e

-- a point whose accesses are all reads or all writes
pub record IsOfOneKind (b : Point) (writes : Bool) : Type 0 where
  pub word : (p : Point) → IsConflict p b → (w : ℕ) × (touches w b ≡ true) × (touches w p ≡ true) × ((writes_word w p || writes) ≡ true)
  pub conflict : (p : Point) (w : ℕ) → p.hart ≢ b.hart → touches w b ≡ true → touches w p ≡ true → (writes_word w p || writes) ≡ true → IsConflict p b
  pub written : (w : ℕ) → touches w b ≡ true → writes_word w b ≡ writes

true_false : {x : Bool} → x ≡ true → x ≡ false → ⊥
true_false h k = cc

-- an access point is of one kind
module _ (hart count turn first n : ℕ) (mode : Mode) where
  touched_written : (w : ℕ) → Touches w (access_point hart count turn first n mode) → is_write mode ≡ true → Writes w (access_point hart count turn first n mode)
  touched_written w a t = (a.0, a.1, a.2, a.3, (a.4, range_kind first n (is_write mode) a.0 a.1 a.2 a.3 ∙ t))

  written_kind : (w : ℕ) → Writes w (access_point hart count turn first n mode) → is_write mode ≡ true
  written_kind w a = sym (range_kind first n (is_write mode) a.0 a.1 a.2 a.3) ∙ a.4.1

  pub one_kind : IsOfOneKind (access_point hart count turn first n mode) (is_write mode)
  one_kind = record {
    word = λ p c. (
      c.word,
      is_touches c.word (access_point hart count turn first n mode) c.meet.second,
      is_touches c.word p c.meet.first,
      elim c.meet.written [
        | inl w ↦ or_first (writes_word c.word p) (is_write mode) (is_writes c.word p w)
        | inr w ↦ or_second (writes_word c.word p) (is_write mode) (written_kind c.word w)
      ],
    );
    conflict = λ p w apart in_b in_p wrote. record {
      apart = apart;
      word = w;
      meet = record {
        first = touches_is w p in_p;
        second = touches_is w (access_point hart count turn first n mode) in_b;
        written = elim (or_split (writes_word w p) (is_write mode) wrote) [
          | inl t ↦ inl (writes_is w p t)
          | inr t ↦ inr (touched_written w (touches_is w (access_point hart count turn first n mode) in_b) t)
        ];
      };
    };
    written = λ w in_b. elim (known (writes_word w (access_point hart count turn first n mode))) [
      | inl t ↦ t ∙ sym (written_kind w (writes_is w (access_point hart count turn first n mode) t))
      | inr f ↦ elim (known (is_write mode)) [
        | inl t ↦ absurd (true_false (is_writes w (access_point hart count turn first n mode)
            (touched_written w (touches_is w (access_point hart count turn first n mode) in_b) t)) f)
        | inr g ↦ f ∙ sym g
      ]
    ];
  }

-- the words of a range
pub range_words : (first n w : ℕ) (writes : Bool) → list_any (λ (x : Access). x.word == w) (accesses_from first n writes) ≡ true
    → (i : ℕ) × (i < n) × (w ≡ first + 4 * i)
range_words first zero w writes h = cc
range_words first (suc n) w writes h = elim (or_split (first == w) (list_any (λ (x : Access). x.word == w) (accesses_from (first + 4) n writes)) h) [
  | inl e ↦ (let is = same_number first w e in (0, omega arith, omega arith))
  | inr r ↦ (let i = range_words (first + 4) n w writes r in let a = i.1 in let c = i.2 in (suc i.0, omega arith, omega arith))
]

pub in_range : (first n i : ℕ) (writes : Bool) → i < n → list_any (λ (x : Access). x.word == (first + 4 * i)) (accesses_from first n writes) ≡ true
in_range first zero i writes low = absurd (omega arith)
in_range first (suc n) zero writes low =
    or_first (first == (first + 4 * 0)) (list_any (λ (x : Access). x.word == (first + 4 * 0)) (accesses_from (first + 4) n writes))
    (same_test first (first + 4 * 0) (omega arith))
in_range first (suc n) (suc i) writes low =
    let e : first + 4 + 4 * i ≡ first + 4 * suc i = omega arith in
    or_second (first == (first + 4 * suc i)) (list_any (λ (x : Access). x.word == (first + 4 * suc i)) (accesses_from (first + 4) n writes))
    (rw e at (in_range (first + 4) n i writes (omega arith)))
