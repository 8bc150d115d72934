-- The rows of the table, tested field by field.
use Rattle.std.specs.Prelude.{ℕ, ◌/◌, ◌%◌, ◌^◌, ◌==◌, Bool, true, false, ◌&&◌, List, [], ◌∷◌, Option, Some, None}
use Rattle.rv_decode.specs.declared.name.Name.{Name}
use Rattle.rv_decode.specs.declared.format.Format.{Format}
use Rattle.rv_decode.specs.Table.{Row, field}

-- a field with mask 0 isn't tested
abbrev pub passes : ℕ → ℕ → ℕ → Bool
passes m v f = elim (m == 0) [ true ↦ v == 0 | false ↦ f == v ]

-- whether fields fit a row, as `fits` says of a word: opcode, rd, funct3, rs1, rs2, bits 26:25, and funct5
abbrev pub fits_fields : Row → (op rd f3 rs1 rs2 low f5 : ℕ) → Bool
fits_fields r op rd f3 rs1 rs2 low f5 = passes (r.mask % 2 ^ 7) (r.fixed % 2 ^ 7) op && (passes (field 7 5 r.mask) (field 7 5 r.fixed) rd && (passes (field 12 3 r.mask) (field 12 3 r.fixed) f3 && (passes (field 15 5 r.mask) (field 15 5 r.fixed) rs1 && (passes (field 20 5 r.mask) (field 20 5 r.fixed) rs2 && (passes (field 25 2 r.mask) (field 25 2 r.fixed) low && passes (r.mask / 2 ^ 27) (r.fixed / 2 ^ 27) f5)))))

-- as row_in, by the fields
abbrev pub row_by : List Row → (op rd f3 rs1 rs2 low f5 : ℕ) → Option Row
row_by [] op rd f3 rs1 rs2 low f5 = None
row_by (r ∷ rs) op rd f3 rs1 rs2 low f5 = elim (fits_fields r op rd f3 rs1 rs2 low f5) [ true ↦ Some r | false ↦ row_by rs op rd f3 rs1 rs2 low f5 ]

-- the name and the format of a row, if there is one
abbrev pub kind_by : Option Row → Option (Name × Format)
kind_by None = None
kind_by (Some r) = Some (r.name, r.format)
