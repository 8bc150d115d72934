use Rattle.std.proofs.Common.{rules, arith, ◌≡◌, ◌-◌, ◌∙◌, sym, subst, ap, leb, true, slice_index_or}
use Rattle.std.specs.Prelude.{Some}
use Rattle.std.proofs.lemmas.List.Sorted.{IsPartitionPoint-from_clause, IsPartitionedBy-leb}
use Rattle.bn_base.specs.Programs.{Part, is_in}
use Rattle.bn_base.proofs.Lookup.{firsts_rise, part_at-found, part_at-none_at, below_last, at_any}
use Rattle.bn_base.proofs.image.Image.segment_at.Goals as goal

pub returns-then-place-eq0-clause-found : goal.returns-then-place-eq0-clause-found
returns-then-place-eq0-clause-found c =
    let parted = IsPartitionedBy-leb (λ (p : Part). p.first) _ c.args.addr (firsts_rise 4096 c.self.inside.memory _ c.self.invariant.0.apart) in
    let point = IsPartitionPoint-from_clause (λ (p : Part). leb p.first c.args.addr) _ _ (rw c.deref.ensures.value at c.partition_point-place.ensures.partitioned) parted (λ a r q k. search rules) in
    rw (← c.self.view_is) (part_at-none_at 4096 c.self.inside.memory c.self.inside.segments.items c.args.addr _ c.self.invariant.0.apart (omega (arith, c.if-place-eq0.true)) point (λ d some. absurd (omega (arith, some, c.if-place-eq0.true))))

pub returns-then-has-clause-found : goal.returns-then-has-clause-found
returns-then-has-clause-found c =
    let e = c.index-segment.ensures in
    let below = c.partition_point-place.ensures.bound in
    let has : is_in (slice_index_or c.self.inside.segments.items (c.partition_point-place.result - 1) c.index-segment.result.now) c.args.addr ≡ true =
    subst (λ (p : Part). is_in p c.args.addr ≡ true) e (sym c.has.ensures ∙ c.if-has.true) in
    rw (← c.self.view_is) (part_at-found 4096 c.self.inside.memory c.self.inside.segments.items (c.partition_point-place.result - 1) c.args.addr c.index-segment.result.now c.self.invariant.0.apart (below_last _ _ c.if-place-eq0.false (rw c.deref.ensures.value at below)) has ∙ ap (λ (p : Part). Some p) (sym e))

pub returns-else-has-clause-found : goal.returns-else-has-clause-found
returns-else-has-clause-found c =
    let parted = IsPartitionedBy-leb (λ (p : Part). p.first) _ c.args.addr (firsts_rise 4096 c.self.inside.memory _ c.self.invariant.0.apart) in
    let point = IsPartitionPoint-from_clause (λ (p : Part). leb p.first c.args.addr) _ _ (rw c.deref.ensures.value at c.partition_point-place.ensures.partitioned) parted (λ a r q k. search rules) in
    rw (← c.self.view_is) (part_at-none_at 4096 c.self.inside.memory c.self.inside.segments.items c.args.addr c.partition_point-place.result c.self.invariant.0.apart (rw c.deref.ensures.value at c.partition_point-place.ensures.bound) point (λ d some. at_any _ _ _ _ _ d c.index-segment.ensures (below_last _ _ c.if-place-eq0.false (rw c.deref.ensures.value at c.partition_point-place.ensures.bound)) (sym c.has.ensures ∙ c.if-has.false)))
