use Rattle.log_ring.proofs.Common.{◌≤◌, ℕ, List, ap, ◌∙◌, sym, subst, Buffer, Record, IsWhole, records_in, held}
use Rattle.log_ring.proofs.Cuts.{whole_nil, records_in-nil}
use Rattle.log_ring.proofs.ring.Ring.new.Goals as goal

pub invariant_of-result : goal.invariant_of-result
invariant_of-result c = subst (λ (b : Buffer ℕ). IsWhole b.items × (146 ≤ b.capacity)) (sym c.in_ok-with_capacity.ensures) (whole_nil, c.requires)

pub returns : goal.returns
returns c = ap (λ (b : Buffer ℕ). held (records_in b.items) 0 b.capacity) c.in_ok-with_capacity.ensures ∙ ap (λ (rs : List Record). held rs 0 c.args.size) records_in-nil
