-- A word is the fixed bits of its row and the bits of its fields.
use Rattle.rv_decode.proofs.Common.{◌≡◌, ℕ, ◌+◌, ◌-◌, ◌*◌, ◌/◌, ◌%◌, ◌^◌, ◌<◌, Bool, true, false, cond, List, [], ◌∷◌, Option, Some, None, refl, sym, ◌∙◌, ap, arith, subst, inl, inr, lit<, pos, negsuc, ◌==◌, ◌≢◌, nat_lt, ◌⊎◌, eqb-true, shr_split, mod_below, shr-shr, pow_pos, mod-pow-add, shr_below, mod-eq_of_lt, nat_tests, Name, Format, Row, fits, field, table, row_in, row, spelled, spelled_by, decoded, signed, Instruction, imm_i, imm_s, imm_b, imm_j, imm_u, is_one, passes, encoded, laid, laid_s, laid_b, laid_j, fixed_of, format_of}
use Rattle.std.specs.Int.{cast_unsigned, w32}
use Rattle.std.proofs.lemmas.Int.{of_z-to_z}
use Rattle.rv_decode.specs.declared.name.Name.TheVariants.{Lui, Auipc, Jal, Jalr, Beq, Bne, Blt, Bge, Bltu, Bgeu, Lb, Lh, Lw, Lbu, Lhu, Sb, Sh, Sw, Addi, Slti, Sltiu, Xori, Ori, Andi, Slli, Srli, Srai, Add, Sll, Slt, Sltu, Xor, Srl, Or, And, Sub, Sra, Mul, Mulh, Mulhsu, Mulhu, Div, Divu, Rem, Remu, Fence, Ecall, Ebreak, LrW, ScW, AmoswapW, AmoaddW, AmoxorW, AmoandW, AmoorW, AmominW, AmomaxW, AmominuW, AmomaxuW}
use Rattle.rv_decode.specs.declared.format.Format.TheVariants.{U, J, I, B, S, Shift, R, Bare, Atomic}
use Rattle.rv_decode.proofs.Fields.{fits_by, plain_row, all_plain, both}

-- one step of the division of a word into fields
part : (lo k w : ℕ) → w / 2 ^ lo ≡ w / 2 ^ (lo + k) * 2 ^ k + field lo k w
part lo k w = sym (shr_split (w / 2 ^ lo) k) ∙ ap (λ n. n * 2 ^ k + field lo k w) (shr-shr w lo k)

whole : (w : ℕ) → w ≡ w % 2 ^ 7 + field 7 5 w * 2 ^ 7 + field 12 3 w * 2 ^ 12 + field 15 5 w * 2 ^ 15 + field 20 5 w * 2 ^ 20 + field 25 2 w * 2 ^ 25 + w / 2 ^ 27 * 2 ^ 27
whole w = sum_up w (w % 2 ^ 7) (w / 2 ^ 7) (field 7 5 w) (w / 2 ^ 12) (field 12 3 w) (w / 2 ^ 15) (field 15 5 w) (w / 2 ^ 20) (field 20 5 w) (w / 2 ^ 25) (field 25 2 w) (w / 2 ^ 27) (sym (shr_split w 7)) (part 7 5 w) (part 12 3 w) (part 15 5 w) (part 20 5 w) (part 25 2 w)
  where
    sum_up : (w op a rd b f3 c rs1 d rs2 e low f5 : ℕ) → w ≡ a * 2 ^ 7 + op → a ≡ b * 2 ^ 5 + rd → b ≡ c * 2 ^ 3 + f3 → c ≡ d * 2 ^ 5 + rs1 → d ≡ e * 2 ^ 5 + rs2 → e ≡ f5 * 2 ^ 2 + low → w ≡ op + rd * 2 ^ 7 + f3 * 2 ^ 12 + rs1 * 2 ^ 15 + rs2 * 2 ^ 20 + low * 2 ^ 25 + f5 * 2 ^ 27
    sum_up w op a rd b f3 c rs1 d rs2 e low f5 p q r s t u = omega arith

-- what a row leaves open of a field
abbrev pub open_part : ℕ → ℕ → ℕ
open_part m f = elim (m == 0) [ true ↦ f | false ↦ 0 ]

-- ... and of a word
abbrev pub free : ℕ → ℕ → ℕ
free m w = open_part (m % 2 ^ 7) (w % 2 ^ 7) + open_part (field 7 5 m) (field 7 5 w) * 2 ^ 7 + open_part (field 12 3 m) (field 12 3 w) * 2 ^ 12 + open_part (field 15 5 m) (field 15 5 w) * 2 ^ 15 + open_part (field 20 5 m) (field 20 5 w) * 2 ^ 20 + open_part (field 25 2 m) (field 25 2 w) * 2 ^ 25 + open_part (m / 2 ^ 27) (w / 2 ^ 27) * 2 ^ 27

fixed_or_open_at : (b : Bool) (m v f : ℕ) → elim b as (λ c. Bool) [ true ↦ v == 0 | false ↦ f == v ] ≡ true → f ≡ v + elim b as (λ c. ℕ) [ true ↦ f | false ↦ 0 ]
fixed_or_open_at true m v f p = let z : v ≡ 0 = eqb-true v 0 p in omega arith
fixed_or_open_at false m v f p = let z : f ≡ v = eqb-true f v p in omega arith

fixed_or_open : (m v f : ℕ) → passes m v f ≡ true → f ≡ v + open_part m f
fixed_or_open m v f p = fixed_or_open_at (m == 0) m v f p

pub split_row : (w : ℕ) → w < 2 ^ 32 → (r : Row) → plain_row r ≡ true → fits r w ≡ true → w ≡ r.fixed + free r.mask w
split_row w h r p q =
    let m = r.mask in let v = r.fixed in
    let a = both (passes (m % 2 ^ 7) (v % 2 ^ 7) (w % 2 ^ 7)) _ (sym (fits_by w h r p) ∙ q) in
    let b = both (passes (field 7 5 m) (field 7 5 v) (field 7 5 w)) _ a.1 in
    let c = both (passes (field 12 3 m) (field 12 3 v) (field 12 3 w)) _ b.1 in
    let d = both (passes (field 15 5 m) (field 15 5 v) (field 15 5 w)) _ c.1 in
    let e = both (passes (field 20 5 m) (field 20 5 v) (field 20 5 w)) _ d.1 in
    let f = both (passes (field 25 2 m) (field 25 2 v) (field 25 2 w)) _ e.1 in
    sum_up w v (w % 2 ^ 7) (v % 2 ^ 7) _ (field 7 5 w) (field 7 5 v) _ (field 12 3 w) (field 12 3 v) _ (field 15 5 w) (field 15 5 v) _ (field 20 5 w) (field 20 5 v) _ (field 25 2 w) (field 25 2 v) _ (w / 2 ^ 27) (v / 2 ^ 27) _
    (whole w) (whole v) (fixed_or_open _ _ _ a.0) (fixed_or_open _ _ _ b.0) (fixed_or_open _ _ _ c.0) (fixed_or_open _ _ _ d.0) (fixed_or_open _ _ _ e.0) (fixed_or_open _ _ _ f.0) (fixed_or_open _ _ _ f.1)
  where
    sum_up : (w v w1 v1 o1 w2 v2 o2 w3 v3 o3 w4 v4 o4 w5 v5 o5 w6 v6 o6 w7 v7 o7 : ℕ) → w ≡ w1 + w2 * 2 ^ 7 + w3 * 2 ^ 12 + w4 * 2 ^ 15 + w5 * 2 ^ 20 + w6 * 2 ^ 25 + w7 * 2 ^ 27 → v ≡ v1 + v2 * 2 ^ 7 + v3 * 2 ^ 12 + v4 * 2 ^ 15 + v5 * 2 ^ 20 + v6 * 2 ^ 25 + v7 * 2 ^ 27 → w1 ≡ v1 + o1 → w2 ≡ v2 + o2 → w3 ≡ v3 + o3 → w4 ≡ v4 + o4 → w5 ≡ v5 + o5 → w6 ≡ v6 + o6 → w7 ≡ v7 + o7 → w ≡ v + (o1 + o2 * 2 ^ 7 + o3 * 2 ^ 12 + o4 * 2 ^ 15 + o5 * 2 ^ 20 + o6 * 2 ^ 25 + o7 * 2 ^ 27)
    sum_up w v w1 v1 o1 w2 v2 o2 w3 v3 o3 w4 v4 o4 w5 v5 o5 w6 v6 o6 w7 v7 o7 p q a b c d e f g = omega arith

-- two neighbouring fields as one
join : (lo j k w : ℕ) → field lo (k + j) w ≡ field (lo + j) k w * 2 ^ j + field lo j w
join lo j k w = mod-pow-add (w / 2 ^ lo) k j ∙ ap (λ n. n % 2 ^ k * 2 ^ j + field lo j w) (shr-shr w lo j)

field_below : (lo k w : ℕ) → field lo k w < 2 ^ k
field_below lo k w = mod_below (w / 2 ^ lo) (2 ^ k) (pow_pos k)

-- the low bits of a signed number
low_12_at : (b : Bool) (n : ℕ) → n < 2 ^ 12 → cast_unsigned w32 (cond b (pos n) (negsuc (2 ^ 12 - 1 - n))) % 2 ^ 12 ≡ n
low_12_at true n g = mod-eq_of_lt g
low_12_at false n g = omega arith

low_12 : (n : ℕ) → n < 2 ^ 12 → cast_unsigned w32 (signed 12 n) % 2 ^ 12 ≡ n
low_12 n g = low_12_at (nat_lt n (2 ^ (12 - 1))) n g

low_13_at : (b : Bool) (n : ℕ) → n < 2 ^ 13 → cast_unsigned w32 (cond b (pos n) (negsuc (2 ^ 13 - 1 - n))) % 2 ^ 13 ≡ n
low_13_at true n g = mod-eq_of_lt g
low_13_at false n g = omega arith

low_13 : (n : ℕ) → n < 2 ^ 13 → cast_unsigned w32 (signed 13 n) % 2 ^ 13 ≡ n
low_13 n g = low_13_at (nat_lt n (2 ^ (13 - 1))) n g

low_21_at : (b : Bool) (n : ℕ) → n < 2 ^ 21 → cast_unsigned w32 (cond b (pos n) (negsuc (2 ^ 21 - 1 - n))) % 2 ^ 21 ≡ n
low_21_at true n g = mod-eq_of_lt g
low_21_at false n g = omega arith

low_21 : (n : ℕ) → n < 2 ^ 21 → cast_unsigned w32 (signed 21 n) % 2 ^ 21 ≡ n
low_21 n g = low_21_at (nat_lt n (2 ^ (21 - 1))) n g

module _ (n : Name) (w : ℕ) (h : w < 2 ^ 32) where
  top : field 27 5 w ≡ w / 2 ^ 27
  top = mod-eq_of_lt (shr_below w 5 27 h)

  above : field 25 7 w ≡ w / 2 ^ 27 * 2 ^ 2 + field 25 2 w
  above = join 25 2 5 w ∙ ap (λ x. x * 2 ^ 2 + field 25 2 w) top

  upper : field 20 12 w ≡ field 25 7 w * 2 ^ 5 + field 20 5 w
  upper = join 20 5 7 w

  free_r : laid R (spelled n R w) ≡ free 0xfe00707f w
  free_r = omega arith

  free_shift : laid Shift (spelled n Shift w) ≡ free 0xfe00707f w
  free_shift = let e : field 20 5 w % 2 ^ 5 ≡ field 20 5 w = mod-eq_of_lt (field_below 20 5 w) in omega arith

  free_whole : laid Bare (spelled n Bare w) ≡ free 0xffffffff w
  free_whole = refl

  imm_12 : cast_unsigned w32 (imm_i w) % 2 ^ 12 ≡ field 20 12 w
  imm_12 = low_12 (field 20 12 w) (field_below 20 12 w)

  free_i : laid I (spelled n I w) ≡ free 0x707f w
  free_i = let a = imm_12 in let b = upper in let c = above in omega arith

  imm_s_bits : cast_unsigned w32 (imm_s w) % 2 ^ 12 ≡ field 25 7 w * 2 ^ 5 + field 7 5 w
  imm_s_bits = let a = field_below 25 7 w in let b = field_below 7 5 w in low_12 (field 25 7 w * 2 ^ 5 + field 7 5 w) (omega arith)

  free_s : laid S (spelled n S w) ≡ free 0x707f w
  free_s = rw imm_s_bits (let a = field_below 25 7 w in let b = field_below 7 5 w in let c = above in parts_s _ _ _ _ _ _ a b c)
    where
      parts_s : (a b low f5 r1 r2 : ℕ) → a < 2 ^ 7 → b < 2 ^ 5 → a ≡ f5 * 2 ^ 2 + low → r1 + r2 + laid_s (a * 2 ^ 5 + b) ≡ 0 + b * 2 ^ 7 + 0 + r1 + r2 + low * 2 ^ 25 + f5 * 2 ^ 27
      parts_s a b low f5 r1 r2 h g e = omega arith

  last : field 25 7 w ≡ field 31 1 w * 2 ^ 6 + field 25 6 w
  last = join 25 6 1 w

  first : field 7 5 w ≡ field 8 4 w * 2 + field 7 1 w
  first = join 7 1 4 w

  imm_b_bits : cast_unsigned w32 (imm_b w) % 2 ^ 13 ≡ field 31 1 w * 2 ^ 12 + field 7 1 w * 2 ^ 11 + field 25 6 w * 2 ^ 5 + field 8 4 w * 2
  imm_b_bits = let a = field_below 31 1 w in let b = field_below 7 1 w in let c = field_below 25 6 w in let d = field_below 8 4 w in low_13 (field 31 1 w * 2 ^ 12 + field 7 1 w * 2 ^ 11 + field 25 6 w * 2 ^ 5 + field 8 4 w * 2) (omega arith)

  free_b : laid B (spelled n B w) ≡ free 0x707f w
  free_b = rw imm_b_bits (parts_b _ _ _ _ _ _ _ _ _ _ (field_below 31 1 w) (field_below 7 1 w) (field_below 25 6 w) (field_below 8 4 w) last first above)
    where
      parts_b : (a b c d top rd low f5 r1 r2 : ℕ) → a < 2 → b < 2 → c < 2 ^ 6 → d < 2 ^ 4 → top ≡ a * 2 ^ 6 + c → rd ≡ d * 2 + b → top ≡ f5 * 2 ^ 2 + low → r1 + r2 + laid_b (a * 2 ^ 12 + b * 2 ^ 11 + c * 2 ^ 5 + d * 2) ≡ 0 + rd * 2 ^ 7 + 0 + r1 + r2 + low * 2 ^ 25 + f5 * 2 ^ 27
      parts_b a b c d top rd low f5 r1 r2 p q r s t u v =
          let n : ℕ = a * 2 ^ 12 + b * 2 ^ 11 + c * 2 ^ 5 + d * 2 in
          let e1 : n / 2 ^ 12 ≡ a = omega arith in
          let e2 : n / 2 ^ 11 % 2 ≡ b = omega arith in
          let e3 : n / 2 ^ 5 % 2 ^ 6 ≡ c = omega arith in
          let e4 : n / 2 % 2 ^ 4 ≡ d = omega arith in
          rw (e1, e2, e3, e4) (omega arith)

  imm_j_bits : cast_unsigned w32 (imm_j w) % 2 ^ 21 ≡ field 31 1 w * 2 ^ 20 + field 12 8 w * 2 ^ 12 + field 20 1 w * 2 ^ 11 + field 21 10 w * 2
  imm_j_bits = let a = field_below 31 1 w in let b = field_below 12 8 w in let c = field_below 20 1 w in let d = field_below 21 10 w in low_21 (field 31 1 w * 2 ^ 20 + field 12 8 w * 2 ^ 12 + field 20 1 w * 2 ^ 11 + field 21 10 w * 2) (omega arith)

  free_j : laid J (spelled n J w) ≡ free 0x7f w
  free_j = rw imm_j_bits (parts_j _ _ _ _ _ (field_below 31 1 w) (field_below 12 8 w) (field_below 20 1 w) (field_below 21 10 w) ∙ (let a = join 12 3 5 w in let b = join 20 1 4 w in let c = join 21 4 6 w in let d = last in let e = above in omega arith))
    where
      parts_j : (rd a b c d : ℕ) → a < 2 → b < 2 ^ 8 → c < 2 → d < 2 ^ 10 → rd * 2 ^ 7 + laid_j (a * 2 ^ 20 + b * 2 ^ 12 + c * 2 ^ 11 + d * 2) ≡ rd * 2 ^ 7 + (a * 2 ^ 31 + b * 2 ^ 12 + c * 2 ^ 20 + d * 2 ^ 21)
      parts_j rd a b c d p q r s =
          let n : ℕ = a * 2 ^ 20 + b * 2 ^ 12 + c * 2 ^ 11 + d * 2 in
          let e1 : n / 2 ^ 20 ≡ a = omega arith in
          let e2 : n / 2 ^ 12 % 2 ^ 8 ≡ b = omega arith in
          let e3 : n / 2 ^ 11 % 2 ≡ c = omega arith in
          let e4 : n / 2 % 2 ^ 10 ≡ d = omega arith in
          rw (e1, e2, e3, e4) refl

  imm_u_bits : cast_unsigned w32 (imm_u w) ≡ field 12 20 w * 2 ^ 12
  imm_u_bits = let a = field_below 12 20 w in of_z-to_z w32 (field 12 20 w * 2 ^ 12) (omega arith)

  free_u : laid U (spelled n U w) ≡ free 0x7f w
  free_u = rw imm_u_bits (let a = join 12 3 17 w in let b = join 15 5 12 w in let c = upper in let d = above in omega arith)

  one_at : (x : ℕ) → x < 2 → cond (is_one x) 1 0 ≡ x
  one_at x g = grind (arith, nat_tests)

  free_a : laid Atomic (spelled n Atomic w) ≡ free 0xf800707f w
  free_a = rw (one_at (field 26 1 w) (field_below 26 1 w), one_at (field 25 1 w) (field_below 25 1 w)) (let a = join 25 1 1 w in omega arith)

  free_lr : field 20 5 w ≡ 0 → laid Atomic (spelled n Atomic w) ≡ free 0xf9f0707f w
  free_lr z = rw (one_at (field 26 1 w) (field_below 26 1 w), one_at (field 25 1 w) (field_below 25 1 w)) (let a = join 25 1 1 w in omega arith)

-- what the rows of the table share: the fixed bits and the format are those of the name, and the bits of the fields are the open ones
abbrev pub Placed : Row → Type 0
Placed r = (format_of r.name ≡ r.format) × (((fixed_of r.name ≡ r.fixed) × ((w : ℕ) → w < 2 ^ 32 → fits r w ≡ true → laid r.format (spelled r.name r.format w) ≡ free r.mask w)) ⊎ (r.name ≡ Fence))

abbrev pub EachPlaced : List Row → Type 0
EachPlaced [] = Unit {0}
EachPlaced (r ∷ rs) = Placed r × EachPlaced rs

no_rs2 : (w : ℕ) → w < 2 ^ 32 → fits (row 0xf9f0707f 0x1000202f LrW Atomic) w ≡ true → field 20 5 w ≡ 0
no_rs2 w h q =
    let a = both (passes (0xf9f0707f % 2 ^ 7) (0x1000202f % 2 ^ 7) (w % 2 ^ 7)) _ (sym (fits_by w h (row 0xf9f0707f 0x1000202f LrW Atomic) refl) ∙ q) in
    let c = both (passes 7 2 (field 12 3 w)) _ a.1 in
    let e = both (passes 31 0 (field 20 5 w)) _ c.1 in
    eqb-true (field 20 5 w) 0 e.0

each_placed : EachPlaced table
each_placed = ((refl, inl (refl, λ w h q. free_u Lui w h)), ((refl, inl (refl, λ w h q. free_u Auipc w h)), ((refl, inl (refl, λ w h q. free_j Jal w h)), ((refl, inl (refl, λ w h q. free_i Jalr w h)), ((refl, inl (refl, λ w h q. free_b Beq w h)), ((refl, inl (refl, λ w h q. free_b Bne w h)), ((refl, inl (refl, λ w h q. free_b Blt w h)), ((refl, inl (refl, λ w h q. free_b Bge w h)), ((refl, inl (refl, λ w h q. free_b Bltu w h)), ((refl, inl (refl, λ w h q. free_b Bgeu w h)), ((refl, inl (refl, λ w h q. free_i Lb w h)), ((refl, inl (refl, λ w h q. free_i Lh w h)), ((refl, inl (refl, λ w h q. free_i Lw w h)), ((refl, inl (refl, λ w h q. free_i Lbu w h)), ((refl, inl (refl, λ w h q. free_i Lhu w h)), ((refl, inl (refl, λ w h q. free_s Sb w h)), ((refl, inl (refl, λ w h q. free_s Sh w h)), ((refl, inl (refl, λ w h q. free_s Sw w h)), ((refl, inl (refl, λ w h q. free_i Addi w h)), ((refl, inl (refl, λ w h q. free_i Slti w h)), ((refl, inl (refl, λ w h q. free_i Sltiu w h)), ((refl, inl (refl, λ w h q. free_i Xori w h)), ((refl, inl (refl, λ w h q. free_i Ori w h)), ((refl, inl (refl, λ w h q. free_i Andi w h)), ((refl, inl (refl, λ w h q. free_shift Slli w h)), ((refl, inl (refl, λ w h q. free_shift Srli w h)), ((refl, inl (refl, λ w h q. free_shift Srai w h)), ((refl, inl (refl, λ w h q. free_r Add w h)), ((refl, inl (refl, λ w h q. free_r Sll w h)), ((refl, inl (refl, λ w h q. free_r Slt w h)), ((refl, inl (refl, λ w h q. free_r Sltu w h)), ((refl, inl (refl, λ w h q. free_r Xor w h)), ((refl, inl (refl, λ w h q. free_r Srl w h)), ((refl, inl (refl, λ w h q. free_r Or w h)), ((refl, inl (refl, λ w h q. free_r And w h)), ((refl, inl (refl, λ w h q. free_r Sub w h)), ((refl, inl (refl, λ w h q. free_r Sra w h)), ((refl, inl (refl, λ w h q. free_r Mul w h)), ((refl, inl (refl, λ w h q. free_r Mulh w h)), ((refl, inl (refl, λ w h q. free_r Mulhsu w h)), ((refl, inl (refl, λ w h q. free_r Mulhu w h)), ((refl, inl (refl, λ w h q. free_r Div w h)), ((refl, inl (refl, λ w h q. free_r Divu w h)), ((refl, inl (refl, λ w h q. free_r Rem w h)), ((refl, inl (refl, λ w h q. free_r Remu w h)), ((refl, inr refl), ((refl, inl (refl, λ w h q. free_whole Ecall w h)), ((refl, inl (refl, λ w h q. free_whole Ebreak w h)), ((refl, inl (refl, λ w h q. free_lr LrW w h (no_rs2 w h q))), ((refl, inl (refl, λ w h q. free_a ScW w h)), ((refl, inl (refl, λ w h q. free_a AmoswapW w h)), ((refl, inl (refl, λ w h q. free_a AmoaddW w h)), ((refl, inl (refl, λ w h q. free_a AmoxorW w h)), ((refl, inl (refl, λ w h q. free_a AmoandW w h)), ((refl, inl (refl, λ w h q. free_a AmoorW w h)), ((refl, inl (refl, λ w h q. free_a AmominW w h)), ((refl, inl (refl, λ w h q. free_a AmomaxW w h)), ((refl, inl (refl, λ w h q. free_a AmominuW w h)), ((refl, inl (refl, λ w h q. free_a AmomaxuW w h)), tt)))))))))))))))))))))))))))))))))))))))))))))))))))))))))))

-- a row that a word was found to fit
abbrev pub Fitted : Row → ℕ → Type 0
Fitted x w = Placed x × (plain_row x ≡ true) × (fits x w ≡ true)

found_at : (b : Bool) (r : Row) (rs : List Row) (w : ℕ) (x : Row) → Placed r → plain_row r ≡ true → fits r w ≡ b → (row_in rs w ≡ Some x → Fitted x w) → elim b as (λ c. Option Row) [ true ↦ Some r | false ↦ row_in rs w ] ≡ Some x → Fitted x w
found_at true r rs w x p q f rest e =
    let same : r ≡ x = cc in
    (subst Placed same p, subst (λ (y : Row). plain_row y ≡ true) same q, subst (λ (y : Row). fits y w ≡ true) same f)
found_at false r rs w x p q f rest e = rest e

found : (rs : List Row) (w : ℕ) (x : Row) → EachPlaced rs → all_plain rs ≡ true → row_in rs w ≡ Some x → Fitted x w
found [] w x ps qs e = cc
found (r ∷ rs) w x ps qs e =
    let q = both (plain_row r) (all_plain rs) qs in
    found_at (fits r w) r rs w x ps.0 q.0 refl (found rs w x ps.1 q.1) e

name_is : (n : Name) (f : Format) (w : ℕ) → (spelled n f w).name ≡ n
name_is n U w = refl
name_is n J w = refl
name_is n I w = refl
name_is n B w = refl
name_is n S w = refl
name_is n Shift w = refl
name_is n R w = refl
name_is n Bare w = refl
name_is n Atomic w = refl

abbrev pub fence : Instruction
fence = spelled Fence Bare 0

row_word : (r : Row) (w : ℕ) → w < 2 ^ 32 → Fitted r w → (encoded (spelled r.name r.format w) ≡ w) ⊎ (spelled r.name r.format w ≡ fence)
row_word r w h f =
    let d : Instruction = spelled r.name r.format w in
    let named : encoded d ≡ fixed_of r.name + laid r.format d = ap (λ m. fixed_of m + laid (format_of m) d) (name_is r.name r.format w) ∙ ap (λ x. fixed_of r.name + laid x d) f.0.0 in
    elim f.0.1 [
      | inl p ↦ inl (named ∙ (ap (λ x. x + laid r.format d) p.0 ∙ (ap (λ x. r.fixed + x) (p.1 w h f.2) ∙ sym (split_row w h r f.1 f.2))))
      | inr e ↦ inr (ap (λ x. spelled r.name x w) (sym f.0.0) ∙ ap (λ x. spelled x (format_of x) w) e)
    ]

spelled_word : (o : Option Row) (w : ℕ) (d : Instruction) → ((x : Row) → o ≡ Some x → Fitted x w) → w < 2 ^ 32 → spelled_by o w ≡ Some d → (encoded d ≡ w) ⊎ (d ≡ fence)
spelled_word None w d f h e = cc
spelled_word (Some r) w d f h e =
    let same : spelled r.name r.format w ≡ d = cc in
    subst (λ (x : Instruction). (encoded x ≡ w) ⊎ (x ≡ fence)) same (row_word r w h (f r refl))

word_or_fence : (w : ℕ) (d : Instruction) → w < 2 ^ 32 → decoded w ≡ Some d → (encoded d ≡ w) ⊎ (d ≡ fence)
word_or_fence w d h e = spelled_word (row_in table w) w d (λ x p. found table w x each_placed refl p) h e

-- a word is the only one that decodes to what it decodes to, unless that is a fence
pub encoded_word : (w : ℕ) (d : Instruction) → w < 2 ^ 32 → decoded w ≡ Some d → d.name ≢ Fence → encoded d ≡ w
encoded_word w d h e k = elim (word_or_fence w d h e) [ inl p ↦ p | inr p ↦ absurd (k (ap (λ (x : Instruction). x.name) p)) ]

pub encoded_fits : (w : ℕ) (d : Instruction) → w < 2 ^ 32 → decoded w ≡ Some d → encoded d < 2 ^ 32
encoded_fits w d h e = elim (word_or_fence w d h e) [ inl p ↦ subst (λ (x : ℕ). x < 2 ^ 32) (sym p) h | inr p ↦ subst (λ (x : Instruction). encoded x < 2 ^ 32) (sym p) (lit< tt) ]

-- decoding gives back what was encoded
pub encoded_again : (w : ℕ) (d : Instruction) → w < 2 ^ 32 → decoded w ≡ Some d → decoded (encoded d) ≡ Some d
encoded_again w d h e = elim (word_or_fence w d h e) [ inl p ↦ subst (λ (x : ℕ). decoded x ≡ Some d) (sym p) e | inr p ↦ subst (λ (x : Instruction). decoded (encoded x) ≡ Some x) (sym p) refl ]
