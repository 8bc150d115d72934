use Rattle.std.proofs.Common.{arith, ◌≡◌, ◌/◌}
use Rattle.bus_memory.proofs.Laws.{length_words}
use Rattle.bus_memory.proofs.Touched.{first_words_held, first_pages_made}
use Rattle.bus_memory.proofs.memory.Memory.new.Goals as goal

pub returns-clause-map : goal.returns-clause-map
returns-clause-map c =
    first_words_held c.args.image.now c.loop-number.pages.items c.loop-number.number (omega (arith, c.loop-number.invariant.len, c.loop-number.pages.ok)) c.loop-number.invariant.first

pub returns-clause-size : goal.returns-clause-size
returns-clause-size c =
    let all : c.loop-number.number ≡ c.args.image.now.memory / 4096 = omega (arith, c.loop-number-test.false, c.loop-number.auto.number-end, c.memory-count.ensures.value) in
    omega (arith, length_words c.loop-number.pages.items, c.loop-number.invariant.len, c.loop-number.pages.ok, all, c.memory-count.ensures.value, c.memory-count.ensures.pages)

pub returns-clause-pages : goal.returns-clause-pages
returns-clause-pages c a =
    let all : c.loop-number.number ≡ c.args.image.now.memory / 4096 = omega (arith, c.loop-number-test.false, c.loop-number.auto.number-end, c.memory-count.ensures.value) in
    first_pages_made c.args.image.now c.loop-number.pages.items c.loop-number.number a (omega (arith, c.loop-number.invariant.len, c.loop-number.pages.ok)) (omega (arith, all, c.memory-count.ensures.value, c.memory-count.ensures.pages)) c.segments-segments.ensures.apart c.loop-number.invariant.first
