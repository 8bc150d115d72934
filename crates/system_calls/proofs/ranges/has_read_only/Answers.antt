use Rattle.std.proofs.Common.{rules, arith, ◌+◌, ◌<◌, ◌≤◌, ◌∙◌, refl, sym, length, leb}
use Rattle.std.proofs.lemmas.List.Sorted.{IsPartitionPoint-from_clause, IsPartitionedBy-leb}
use Rattle.bn_base.specs.Programs.{Part, AreApart, end_of}
use Rattle.system_calls.proofs.Parts.{ends_rise, none_before, none_after, range_writable, range_read_only}
use Rattle.system_calls.proofs.ranges.has_read_only.Goals as goal

pub loop-place-init : goal.loop-place-init
loop-place-init c =
    let apart : AreApart 4096 c.args.image.now.memory c.segments-segments.result.now = rw c.segments-segments.ensures.value c.segments-segments.ensures.apart in
    let parted = IsPartitionedBy-leb end_of c.segments-segments.result.now c.args.addr (ends_rise 4096 c.args.image.now.memory _ apart) in
    let point = IsPartitionPoint-from_clause (λ (p : Part). leb (end_of p) c.args.addr) _ _ c.partition_point-start.ensures.partitioned parted (λ a r q k. search rules) in
    none_before c.segments-segments.result.now _ c.args.addr _ c.partition_point-start.ensures.bound point

pub returns-then-to-first : goal.returns-then-to-first
returns-then-to-first c =
    let apart : AreApart 4096 c.args.image.now.memory c.segments-segments.result.now = rw c.segments-segments.ensures.value c.segments-segments.ensures.apart in
    let past : c.args.addr + c.args.len ≤ c.index-segments-place.result.first = omega (arith, c.if-to-first.true, c.first-first.ensures) in
    let all = none_after 4096 c.args.image.now.memory c.segments-segments.result.now c.loop-place.place c.args.addr _ c.index-segments-place.result apart c.loop-place-test.true c.index-segments-place.is past c.loop-place.invariant in
    rw (← c.segments-segments.ensures.value) (sym (range_writable c.segments-segments.result.now c.args.addr c.args.len _ refl all))

pub returns-then-first-end : goal.returns-then-first-end
returns-then-first-end c =
    let apart : AreApart 4096 c.args.image.now.memory c.segments-segments.result.now = rw c.segments-segments.ensures.value c.segments-segments.ensures.apart in
    let parted = IsPartitionedBy-leb end_of c.segments-segments.result.now c.args.addr (ends_rise 4096 c.args.image.now.memory _ apart) in
    let point = IsPartitionPoint-from_clause (λ (p : Part). leb (end_of p) c.args.addr) _ _ c.partition_point-start.ensures.partitioned parted (λ a r q k. search rules) in
    let begins : c.index-segments-place.result.first < c.args.addr + c.args.len = omega (arith, c.if-to-first.false, c.first-first.ensures) in
    let some : c.index-segments-place.result.first < end_of c.index-segments-place.result = omega (arith, c.if-first-end.true, c.first-first.ensures, c.end.ensures.value) in
    rw (← c.segments-segments.ensures.value) (sym (range_read_only 4096 c.args.image.now.memory c.segments-segments.result.now _ c.loop-place.place c.args.addr c.args.len _ c.index-segments-place.result apart refl point c.loop-place.auto.place c.loop-place-test.true c.index-segments-place.is begins some (omega (arith, c.requires)) (sym c.is_writable.ensures ∙ c.if-not-is_writable.true)))

pub returns : goal.returns
returns c =
    let all = c.loop-place.invariant in
    let done : length c.segments-segments.result.now ≤ c.loop-place.place = c.loop-place-test.false in
    rw (← c.segments-segments.ensures.value) (sym (range_writable c.segments-segments.result.now c.args.addr c.args.len (c.args.addr + c.args.len) refl (λ k d b below. all k d b (omega (arith, below, done)))))
