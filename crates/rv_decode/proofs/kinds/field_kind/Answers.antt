-- The three rows of the table that need more than the operation and one field: by rewriting the operation.
use Rattle.rv_decode.proofs.Common.{◌≡◌, ℕ, subst, sym, table, row_by, kind_by}
use Rattle.rv_decode.proofs.kinds.field_kind.Goals as goal

pub returns-in-19 : goal.returns-in-19
returns-in-19 c = subst (λ (n : ℕ). kind_by (row_by table n c.args.rd c.args.f3 c.args.rs1 c.args.rs2 c.args.low c.args.f5) ≡ c.immediate_name.result) (sym c.in-19.is) c.immediate_name.ensures

pub returns-in-51 : goal.returns-in-51
returns-in-51 c = subst (λ (n : ℕ). kind_by (row_by table n c.args.rd c.args.f3 c.args.rs1 c.args.rs2 c.args.low c.args.f5) ≡ c.register_name.result) (sym c.in-51.is) c.register_name.ensures

pub returns-in-47 : goal.returns-in-47
returns-in-47 c = rw c.in-47.is c.atomic_name.ensures
