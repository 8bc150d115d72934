-- A word fits a row if and only if its fields do.
use Rattle.rv_decode.proofs.Common.{◌≡◌, ℕ, ◌+◌, ◌-◌, ◌*◌, ◌/◌, ◌%◌, ◌^◌, ◌<◌, Bool, true, false, ◌&&◌, eqb, List, [], ◌∷◌, Option, Some, None, refl, sym, ◌∙◌, ap, arith, bit_and, ◌==◌, eqb-true, eq-eqb, Decides-eqb, Decides-and, and_block, shr_split, mod_below, and_le_l, same_from_place, shr-shr, and_mask, pow_pos, and_comm, shr_below, mod-eq_of_lt, false≢true, Name, Format, Row, fits, field, table, row_in, spelled, spelled_by, decoded, passes, fits_fields, row_by, kind_by}
use Rattle.std.specs.Bool.{Decides, one_answer}

-- two numbers of two places are equal if and only if both places are
eqb_places : (k x y u v : ℕ) → y < 2 ^ k → v < 2 ^ k → eqb (x * 2 ^ k + y) (u * 2 ^ k + v) ≡ (eqb y v && eqb x u)
eqb_places k x y u v h g =
    let to : x * 2 ^ k + y ≡ u * 2 ^ k + v → (y ≡ v) × (x ≡ u) = λ e. (let p : (x ≡ u) × (y ≡ v) = same_from_place x y u v (2 ^ k) h g e in (p.1, p.0)) in
    let back : (y ≡ v) × (x ≡ u) → x * 2 ^ k + y ≡ u * 2 ^ k + v = λ p. ap (λ n. n * 2 ^ k + y) p.1 ∙ ap (λ n. u * 2 ^ k + n) p.0 in
    let both : Decides (eqb y v && eqb x u) ((y ≡ v) × (x ≡ u)) = Decides-and (eqb y v) (eqb x u) (Decides-eqb y v) (Decides-eqb x u) in
    let one : Decides (eqb (x * 2 ^ k + y) (u * 2 ^ k + v)) ((y ≡ v) × (x ≡ u)) = ((λ e. to (eqb-true _ _ e)), (λ p. eq-eqb _ _ (back p))) in
    one_answer _ _ one both

split_test : (k w m v : ℕ) → eqb (bit_and w m) v ≡ (eqb (bit_and (w % 2 ^ k) (m % 2 ^ k)) (v % 2 ^ k) && eqb (bit_and (w / 2 ^ k) (m / 2 ^ k)) (v / 2 ^ k))
split_test k w m v =
    let below : (n : ℕ) → n % 2 ^ k < 2 ^ k = λ n. mod_below n (2 ^ k) (pow_pos k) in
    let small : bit_and (w % 2 ^ k) (m % 2 ^ k) < 2 ^ k = omega (arith, and_le_l (w % 2 ^ k) (m % 2 ^ k), below w) in
    let whole : bit_and w m ≡ bit_and (w / 2 ^ k) (m / 2 ^ k) * 2 ^ k + bit_and (w % 2 ^ k) (m % 2 ^ k) =
    ap (λ n. bit_and n m) (sym (shr_split w k)) ∙ (ap (λ n. bit_and (w / 2 ^ k * 2 ^ k + w % 2 ^ k) n) (sym (shr_split m k)) ∙ and_block k (w / 2 ^ k) (m / 2 ^ k) (w % 2 ^ k) (m % 2 ^ k) (below w) (below m)) in
    ap (λ n. eqb n v) whole ∙ (ap (λ n. eqb (bit_and (w / 2 ^ k) (m / 2 ^ k) * 2 ^ k + bit_and (w % 2 ^ k) (m % 2 ^ k)) n) (sym (shr_split v k)) ∙ eqb_places k _ _ _ _ small (below v))

-- a mask of a field is 0, which fixes no bit of it, or all ones
abbrev pub plain : ℕ → ℕ → ℕ → Bool
plain j m v = elim (m == 0) [ true ↦ v == 0 | false ↦ m == 2 ^ j - 1 ]

plain_at : (b : Bool) (j f m v : ℕ) → eqb m 0 ≡ b → f < 2 ^ j → elim b as (λ c. Bool) [ true ↦ v == 0 | false ↦ m == 2 ^ j - 1 ] ≡ true → eqb (bit_and f m) v ≡ elim b as (λ c. Bool) [ true ↦ v == 0 | false ↦ f == v ]
plain_at true j f m v e h p =
    let zero_mask : m ≡ 0 = eqb-true m 0 e in
    let zero_fixed : v ≡ 0 = eqb-true v 0 p in
    let nothing : bit_and f m ≡ 0 = ap (λ n. bit_and f n) zero_mask ∙ and_comm f 0 in
    eq-eqb _ _ (nothing ∙ sym zero_fixed) ∙ sym p
plain_at false j f m v e h p =
    ap (λ n. eqb n v) (ap (λ n. bit_and f n) (eqb-true m (2 ^ j - 1) p) ∙ (and_mask f j ∙ mod-eq_of_lt h))

plain_test : (j f m v : ℕ) → f < 2 ^ j → plain j m v ≡ true → eqb (bit_and f m) v ≡ passes m v f
plain_test j f m v h p = plain_at (eqb m 0) j f m v refl h p

abbrev pub plain_row : Row → Bool
plain_row r = plain 7 (r.mask % 2 ^ 7) (r.fixed % 2 ^ 7) && (plain 5 (field 7 5 r.mask) (field 7 5 r.fixed) && (plain 3 (field 12 3 r.mask) (field 12 3 r.fixed) && (plain 5 (field 15 5 r.mask) (field 15 5 r.fixed) && (plain 5 (field 20 5 r.mask) (field 20 5 r.fixed) && (plain 2 (field 25 2 r.mask) (field 25 2 r.fixed) && plain 5 (r.mask / 2 ^ 27) (r.fixed / 2 ^ 27))))))

pub both : (a b : Bool) → (a && b) ≡ true → (a ≡ true) × (b ≡ true)
both true b h = (refl, h)
both false b h = (h, absurd (false≢true h))

and_same : {a b c d : Bool} → a ≡ c → b ≡ d → (a && b) ≡ (c && d)
and_same {b = b} {c = c} p q = ap (λ x. x && b) p ∙ ap (λ y. c && y) q

-- one field more
next_field : (lo k w m v : ℕ) (rest : Bool) → plain k (field lo k m) (field lo k v) ≡ true → eqb (bit_and (w / 2 ^ (lo + k)) (m / 2 ^ (lo + k))) (v / 2 ^ (lo + k)) ≡ rest → eqb (bit_and (w / 2 ^ lo) (m / 2 ^ lo)) (v / 2 ^ lo) ≡ (passes (field lo k m) (field lo k v) (field lo k w) && rest)
next_field lo k w m v rest p q =
    let deeper : (n : ℕ) → n / 2 ^ lo / 2 ^ k ≡ n / 2 ^ (lo + k) = λ n. shr-shr n lo k in
    split_test k (w / 2 ^ lo) (m / 2 ^ lo) (v / 2 ^ lo) ∙ and_same (plain_test k _ _ _ (mod_below (w / 2 ^ lo) (2 ^ k) (pow_pos k)) p) (ap (λ n. eqb (bit_and n (m / 2 ^ lo / 2 ^ k)) (v / 2 ^ lo / 2 ^ k)) (deeper w) ∙ (ap (λ n. eqb (bit_and (w / 2 ^ (lo + k)) n) (v / 2 ^ lo / 2 ^ k)) (deeper m) ∙ (ap (λ n. eqb (bit_and (w / 2 ^ (lo + k)) (m / 2 ^ (lo + k))) n) (deeper v) ∙ q)))

pub fits_by : (w : ℕ) → w < 2 ^ 32 → (r : Row) → plain_row r ≡ true → fits r w ≡ fits_fields r (w % 2 ^ 7) (field 7 5 w) (field 12 3 w) (field 15 5 w) (field 20 5 w) (field 25 2 w) (w / 2 ^ 27)
fits_by w h r p =
    let m = r.mask in let v = r.fixed in
    let a = both (plain 7 (m % 2 ^ 7) (v % 2 ^ 7)) _ p in
    let b = both (plain 5 (field 7 5 m) (field 7 5 v)) _ a.1 in
    let c = both (plain 3 (field 12 3 m) (field 12 3 v)) _ b.1 in
    let d = both (plain 5 (field 15 5 m) (field 15 5 v)) _ c.1 in
    let e = both (plain 5 (field 20 5 m) (field 20 5 v)) _ d.1 in
    let f = both (plain 2 (field 25 2 m) (field 25 2 v)) _ e.1 in
    split_test 7 w m v ∙ and_same (plain_test 7 _ _ _ (mod_below w (2 ^ 7) (pow_pos 7)) a.0)
    (next_field 7 5 w m v _ b.0 (next_field 12 3 w m v _ c.0 (next_field 15 5 w m v _ d.0 (next_field 20 5 w m v _ e.0 (next_field 25 2 w m v _ f.0 (plain_test 5 (w / 2 ^ 27) (m / 2 ^ 27) (v / 2 ^ 27) (shr_below w 5 27 h) f.1))))))

abbrev pub all_plain : List Row → Bool
all_plain [] = true
all_plain (r ∷ rs) = plain_row r && all_plain rs

rows_by : (w : ℕ) → w < 2 ^ 32 → (rs : List Row) → all_plain rs ≡ true → row_in rs w ≡ row_by rs (w % 2 ^ 7) (field 7 5 w) (field 12 3 w) (field 15 5 w) (field 20 5 w) (field 25 2 w) (w / 2 ^ 27)
rows_by w h [] p = refl
rows_by w h (r ∷ rs) p =
    let q = both (plain_row r) (all_plain rs) p in
    ap (λ b. elim b as (λ c. Option Row) [ true ↦ Some r | false ↦ row_in rs w ]) (fits_by w h r q.0)
    ∙ ap (λ x. elim (fits_fields r (w % 2 ^ 7) (field 7 5 w) (field 12 3 w) (field 15 5 w) (field 20 5 w) (field 25 2 w) (w / 2 ^ 27)) as (λ c. Option Row) [ true ↦ Some r | false ↦ x ]) (rows_by w h rs q.1)

-- the table, by the fields of a word
pub table_by : (w : ℕ) → w < 2 ^ 32 → row_in table w ≡ row_by table (w % 2 ^ 7) (field 7 5 w) (field 12 3 w) (field 15 5 w) (field 20 5 w) (field 25 2 w) (w / 2 ^ 27)
table_by w h = rows_by w h table refl

kind_some : (o : Option Row) (w : ℕ) (n : Name) (f : Format) → kind_by o ≡ Some (n, f) → spelled_by o w ≡ Some (spelled n f w)
kind_some None w n f e = cc
kind_some (Some r) w n f e =
    let p : ◌≡◌ {A = Name × Format} (n, f) (r.name, r.format) = cc in
    ap (λ (q : Name × Format). Some (spelled q.0 q.1 w)) (sym p)

pub decoded_some : (w : ℕ) (n : Name) (f : Format) → kind_by (row_in table w) ≡ Some (n, f) → decoded w ≡ Some (spelled n f w)
decoded_some w n f e = kind_some (row_in table w) w n f e
