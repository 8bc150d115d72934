-- The bytes that the joint memory takes for filled are those of read calls.
use Rattle.joint_laws.proofs.Common.{◌≡◌, ℕ, ◌+◌, ◌<◌, ◌≤◌, Bool, true, false, ◌&&◌, Option, Some, None, refl, ◌∙◌, ap, arith, ◌==◌, nat_lt, nat_le, slice_index, false≢true, eq-eqb, eqb-true, aligned, Bytes, call_result, filled, has_byte, HasByte, Fills, result_of, FillsAreFilled, and_from, and_parts, le-leb, lt-ltb, leb-true, ltb-true, none-some}

-- the result of a call, by its word and a7
abbrev result_by : Option ℕ → ℕ → Option (ℕ × ℕ) → Option ℕ
result_by o x reg = elim o [ None ↦ None | Some w ↦ elim (w == 0x73 && (x == 63)) [ true ↦ result_of reg | false ↦ None ] ]

result_is : (o : Option ℕ) (x n : ℕ) (reg : Option (ℕ × ℕ)) → o ≡ Some 0x73 → x ≡ 63 → result_of reg ≡ Some n → result_by o x reg ≡ Some n
result_is o x n reg e f g =
    ap (λ y. result_by y x reg) e
    ∙ (ap (λ b. elim b as (λ y. Option ℕ) [ true ↦ result_of reg | false ↦ None ]) (and_from (0x73 == 0x73) (x == 63) refl (eq-eqb x 63 f)) ∙ g)

is_result : (o : Option ℕ) (x n : ℕ) (reg : Option (ℕ × ℕ)) → result_by o x reg ≡ Some n → (o ≡ Some 0x73) × (x ≡ 63) × (result_of reg ≡ Some n)
is_result None x n reg e = absurd (none-some n e)
is_result (Some w) x n reg e = by (w == 0x73 && (x == 63)) refl e
  where
    by : (b : Bool) → (w == 0x73 && (x == 63)) ≡ b → elim b as (λ y. Option ℕ) [ true ↦ result_of reg | false ↦ None ] ≡ Some n → (Some w ≡ Some 0x73) × (x ≡ 63) × (result_of reg ≡ Some n)
    by true f g = (ap Some (eqb-true w 0x73 (and_parts (w == 0x73) (x == 63) f).0), eqb-true x 63 (and_parts (w == 0x73) (x == 63) f).1, g)
    by false f g = absurd (none-some n g)

-- the bytes, by the result, a0 and a1
abbrev bytes_by : Option ℕ → ℕ → ℕ → Option Bytes
bytes_by o x first = elim o [ None ↦ None | Some n ↦ elim (x == 0 && (nat_lt 0 n && nat_le n 4096)) [ true ↦ Some (record { first = first; count = n }) | false ↦ None ] ]

abbrev has_by : Option ℕ → ℕ → ℕ → ℕ → Bool
has_by o x first a = has_byte (bytes_by o x first) a

has_is : (o : Option ℕ) (x first n a : ℕ) → o ≡ Some n → x ≡ 0 → 1 ≤ n → n ≤ 4096 → HasByte first n a → has_by o x first a ≡ true
has_is o x first n a e f low high b =
    ap (λ y. has_by y x first a) e
    ∙ (ap (λ t. has_byte (elim t as (λ y. Option Bytes) [ true ↦ Some (record { first = first; count = n }) | false ↦ None ]) a)
    (and_from (x == 0) (nat_lt 0 n && nat_le n 4096) (eq-eqb x 0 f) (and_from (nat_lt 0 n) (nat_le n 4096) (lt-ltb 0 n (omega (arith, low))) (le-leb n 4096 high)))
    ∙ and_from (nat_le (aligned first) a) (nat_lt a (first + n)) (le-leb (aligned first) a b.from) (lt-ltb a (first + n) b.to))

-- and back
record HasResult (o : Option ℕ) (x first a : ℕ) : Type 0 where
  n : ℕ
  result : o ≡ Some n
  file : x ≡ 0
  low : 1 ≤ n
  high : n ≤ 4096
  byte : HasByte first n a

is_has : (o : Option ℕ) (x first a : ℕ) → aligned a ≡ a → has_by o x first a ≡ true → HasResult o x first a
is_has None x first a own e = absurd (false≢true e)
is_has (Some n) x first a own e = by (x == 0 && (nat_lt 0 n && nat_le n 4096)) refl e
  where
    by : (b : Bool) → (x == 0 && (nat_lt 0 n && nat_le n 4096)) ≡ b → has_byte (elim b as (λ y. Option Bytes) [ true ↦ Some (record { first = first; count = n }) | false ↦ None ]) a ≡ true → HasResult (Some n) x first a
    by true f g =
        let p = and_parts (x == 0) (nat_lt 0 n && nat_le n 4096) f in
        let q = and_parts (nat_lt 0 n) (nat_le n 4096) p.1 in
        let z = and_parts (nat_le (aligned first) a) (nat_lt a (first + n)) g in
        let some : 0 < n = ltb-true 0 n q.0 in
        record { n = n; result = refl; file = eqb-true x 0 p.0; low = omega (arith, some); high = leb-true n 4096 q.1; byte = record { own = own; from = leb-true (aligned first) a z.0; to = ltb-true a (first + n) z.1 } }
    by false f g = absurd (false≢true g)

pub fills_are_filled : FillsAreFilled
fills_are_filled before r a own = (there, back)
  where
    there : Fills before r a → has_byte (filled before r) a ≡ true
    there f =
        has_is (call_result 63 before r) (slice_index before.x 10) (slice_index before.x 11) f.count a
        (result_is r.word (slice_index before.x 17) f.count r.reg f.row.ecall f.row.number f.row.answered) f.row.file f.row.low f.row.high f.byte

    back : has_byte (filled before r) a ≡ true → Fills before r a
    back e =
        let h = is_has (call_result 63 before r) (slice_index before.x 10) (slice_index before.x 11) a own e in
        let g = is_result r.word (slice_index before.x 17) h.n r.reg h.result in
        record { count = h.n; row = record { ecall = g.0; number = g.1; file = h.file; answered = g.2; low = h.low; high = h.high }; byte = h.byte }
