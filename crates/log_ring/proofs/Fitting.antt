-- The longest suffix that fits.
use Rattle.log_ring.proofs.Common.{append_assoc, ◌≡◌, ◌∙◌, ◌+◌, ◌<◌, ◌≤◌, ℕ, List, [], ◌∷◌, ◌++◌, length, refl, sym, ap, arith, inl, inr, length-append, flat_map, le-leb, append-nil, Record, bytes_of, total, kept}
use Rattle.std.proofs.lemmas.Bool.{lt-leb}
use Rattle.std.proofs.lemmas.Bool.Decides.{leb_tells}

pub total-cons : (r : Record) (rs : List Record) → total (r ∷ rs) ≡ length (bytes_of r) + total rs
total-cons r rs = length-append (bytes_of r) (flat_map bytes_of rs)

pub total-append : (xs ys : List Record) → total (xs ++ ys) ≡ total xs + total ys
total-append [] ys = omega arith
total-append (x ∷ xs) ys = omega (arith, total-cons x xs, total-cons x (xs ++ ys), total-append xs ys)

pub total-one : (r : Record) → total (r ∷ []) ≡ length (bytes_of r)
total-one r = ap length (append-nil (bytes_of r))

-- a first record goes if the records are too large together
pub kept-over : (size : ℕ) (r : Record) (rs : List Record) → size < total (r ∷ rs) → kept size (r ∷ rs) ≡ kept size rs
unfolding kept
kept-over size r rs over = rw (lt-leb (total (r ∷ rs)) size over) refl

-- records that fit stay
pub kept-all : (size : ℕ) (rs : List Record) → total rs ≤ size → kept size rs ≡ rs
unfolding kept
kept-all size [] under = refl
kept-all size (r ∷ rs) under = rw (le-leb (total (r ∷ rs)) size under) refl

pub kept-small : (size : ℕ) (rs : List Record) → total (kept size rs) ≤ size
unfolding kept
kept-small size [] = omega arith
kept-small size (r ∷ rs) =
    elim (leb_tells (total (r ∷ rs)) size) [
      | inl h ↦ rw h.0 h.1
      | inr h ↦ rw h.0 (kept-small size rs)
    ]

pub kept-suffix : (size : ℕ) (rs : List Record) → (front : List Record) × (rs ≡ front ++ kept size rs)
kept-suffix size [] = ([], sym (kept-all size [] (omega arith)))
kept-suffix size (r ∷ rs) =
    elim (leb_tells (total (r ∷ rs)) size) [
      | inl h ↦ ([], sym (kept-all size (r ∷ rs) h.1))
      | inr h ↦
          let f = kept-suffix size rs in
          (r ∷ f.0, ap (λ (xs : List Record). r ∷ xs) f.1 ∙ ap (λ (xs : List Record). r ∷ f.0 ++ xs) (sym (kept-over size r rs h.1)))
    ]

pub kept-longest : (size : ℕ) (front back : List Record) → total back ≤ size → length back ≤ length (kept size (front ++ back))
kept-longest size [] back under = omega (arith, ap length (kept-all size back under))
kept-longest size (x ∷ front) back under =
    elim (leb_tells (total (x ∷ (front ++ back))) size) [
      | inl h ↦ omega (arith, ap length (kept-all size (x ∷ (front ++ back)) h.1), length-append front back)
      | inr h ↦ omega (arith, ap length (kept-over size x (front ++ back) h.1), kept-longest size front back under)
    ]

-- what is kept after one more record is determined by what was kept before it
pub kept-kept : (size : ℕ) (rs : List Record) (r : Record) → kept size (kept size rs ++ r ∷ []) ≡ kept size (rs ++ r ∷ [])
kept-kept size [] r = ap (λ (xs : List Record). kept size (xs ++ r ∷ [])) (kept-all size [] (omega arith))
kept-kept size (x ∷ rs) r =
    elim (leb_tells (total (x ∷ rs)) size) [
      | inl h ↦ ap (λ (xs : List Record). kept size (xs ++ r ∷ [])) (kept-all size (x ∷ rs) h.1)
      | inr h ↦
          let over : size < total (x ∷ (rs ++ r ∷ [])) = omega (arith, h.1, total-append (x ∷ rs) (r ∷ [])) in
          ap (λ (xs : List Record). kept size (xs ++ r ∷ [])) (kept-over size x rs h.1) ∙ kept-kept size rs r ∙ sym (kept-over size x (rs ++ r ∷ []) over)
    ]

-- room is made for one more
pub kept-append : (room size : ℕ) (rs : List Record) (r : Record) → room + length (bytes_of r) ≡ size → kept size (rs ++ r ∷ []) ≡ kept room rs ++ r ∷ []
kept-append room size [] r e =
    kept-all size (r ∷ []) (omega (arith, total-one r)) ∙ ap (λ (xs : List Record). xs ++ r ∷ []) (sym (kept-all room [] (omega arith)))
kept-append room size (x ∷ rs) r e =
    let len : total (x ∷ (rs ++ r ∷ [])) ≡ total (x ∷ rs) + length (bytes_of r) = omega (arith, total-append (x ∷ rs) (r ∷ []), total-one r) in
    elim (leb_tells (total (x ∷ rs)) room) [
      | inl h ↦ kept-all size (x ∷ (rs ++ r ∷ [])) (omega (arith, h.1)) ∙ ap (λ (xs : List Record). xs ++ r ∷ []) (sym (kept-all room (x ∷ rs) h.1))
      | inr h ↦ kept-over size x (rs ++ r ∷ []) (omega (arith, h.1)) ∙ kept-append room size rs r e ∙ ap (λ (xs : List Record). xs ++ r ∷ []) (sym (kept-over room x rs h.1))
    ]

-- ---- and for several more

pub kept-kepts : (size : ℕ) (rs more : List Record) → kept size (kept size rs ++ more) ≡ kept size (rs ++ more)
kept-kepts size rs [] = kept-all size (kept size rs ++ []) (omega (arith, total-append (kept size rs) [], kept-small size rs)) ∙ append-nil (kept size rs) ∙ ap (kept size) (sym (append-nil rs))
kept-kepts size rs (r ∷ more) =
    ap (kept size) (sym (append_assoc (kept size rs) (r ∷ []) more)) ∙ sym (kept-kepts size (kept size rs ++ r ∷ []) more)
    ∙ ap (λ (xs : List Record). kept size (xs ++ more)) (kept-kept size rs r) ∙ kept-kepts size (rs ++ r ∷ []) more ∙ ap (kept size) (append_assoc rs (r ∷ []) more)

pub kept-appends : (room size : ℕ) (rs more : List Record) → room + total more ≡ size → kept size (rs ++ more) ≡ kept room rs ++ more
kept-appends room size rs [] e =
    let same : size ≡ room = omega (arith, e) in
    ap (kept size) (append-nil rs) ∙ ap (λ (n : ℕ). kept n rs) same ∙ sym (append-nil (kept room rs))
kept-appends room size rs (r ∷ more) e =
    let n : ℕ = room + length (bytes_of r) in
    ap (kept size) (sym (append_assoc rs (r ∷ []) more)) ∙ kept-appends n size (rs ++ r ∷ []) more (omega (arith, e, total-cons r more))
    ∙ ap (λ (xs : List Record). xs ++ more) (kept-append room n rs r refl) ∙ append_assoc (kept room rs) (r ∷ []) more
