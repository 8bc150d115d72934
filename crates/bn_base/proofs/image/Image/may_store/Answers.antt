use Rattle.std.proofs.Common.{arith, ◌≤◌, ◌∙◌, sym, ap}
use Rattle.bn_base.specs.Programs.{Program, read_only_end}
use Rattle.bn_base.proofs.Lookup.{is_leb, stored_past}
use Rattle.bn_base.proofs.image.Image.may_store.Goals as goal

pub returns-then-self-addr : goal.returns-then-self-addr
returns-then-self-addr c =
    let parts = ap (λ (i : Program). read_only_end i.parts) c.self.view_is in
    let past : read_only_end c.args.self.now.parts ≤ c.args.addr = omega (arith, c.if-self-addr.true, c.self.invariant.1, parts) in
    is_leb _ _ c.if-self-addr.true ∙ sym (stored_past c.args.self.now c.args.addr (sym c.may_load.ensures ∙ c.if-may_load.true) past)
