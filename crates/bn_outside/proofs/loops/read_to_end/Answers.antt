use Rattle.std.proofs.Common.{rules, arith, ◌<◌, length, length-append, take, vec_len}
use Rattle.std.proofs.lemmas.List.{length-take-le}
use Rattle.bn_outside.proofs.Pieces.{consumes_all, consumes_both, more_left, rose_last}
use Rattle.bn_outside.proofs.loops.read_to_end.Goals as goal

pub returns-in_err-count-clause-cause : goal.returns-in_err-count-clause-cause
returns-in_err-count-clause-cause g c = λ e. rose_last _ _ _ (omega (arith, c.pieces.invariant.same)) c.in_err-count.ensures.cause

pub returns-in_err-gather_within-clause-long : goal.returns-in_err-gather_within-clause-long
returns-in_err-gather_within-clause-long g c = λ e. more_left _ _ _ _ _ (vec_len c.pieces.bytes) _ c.pieces.invariant.gone c.in_ok-count.ensures.moved
    (omega (arith, c.pieces.bytes.ok)) (c.in_err-gather_within.ensures.long (search rules))

pub returns-in_err-gather_within-clause-memory : goal.returns-in_err-gather_within-clause-memory
returns-in_err-gather_within-clause-memory g c = λ e.
    let some : 0 < length (take c.in_ok-count.count c.read.new.buffer) =
    omega (arith, length-take-le c.in_ok-count.count c.read.new.buffer c.in_ok-count.ensures.bound, c.if-count-eq0.false) in (
      omega (arith, some, c.in_err-gather_within.ensures.memory (search rules)),
      more_left _ _ _ _ _ (vec_len c.pieces.bytes) _ c.pieces.invariant.gone c.in_ok-count.ensures.moved (omega (arith, c.pieces.bytes.ok)) (omega (arith, some)),
    )

pub returns-in_err-gather_within-clause-part : goal.returns-in_err-gather_within-clause-part
returns-in_err-gather_within-clause-part g c = (
  _,
  omega (
    arith,
    length-append c.pieces.bytes.items (take c.in_ok-count.count c.read.new.buffer),
    length-take-le c.in_ok-count.count c.read.new.buffer c.in_ok-count.ensures.bound,
    c.in_ok-count.ensures.bound,
    c.read.auto.buffer,
    c.pieces.invariant.room,
    c.pieces.invariant.within,
    c.pieces.bytes.ok,
  ),
  consumes_both _ _ _ _ _ c.pieces.invariant.gone c.in_ok-count.ensures.moved,
)

pub returns-then-count-eq0-clause-all : goal.returns-then-count-eq0-clause-all
returns-then-count-eq0-clause-all g c = consumes_all _ _ _ _ _ _ c.pieces.invariant.gone c.in_ok-count.ensures.moved c.in_ok-count.ensures.end (search rules) (omega (arith, c.read.auto.buffer))
