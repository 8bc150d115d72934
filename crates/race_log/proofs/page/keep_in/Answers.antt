use Rattle.std.proofs.Common.{◌+◌, arith}
use Rattle.race_log.proofs.PageLemmas.{get_here, get_there, word_same, replaces_write, replaces_read, settled_set}
use Rattle.race_log.proofs.page.keep_in.Goals as goal

pub returns-in-Read-clause-kept : goal.returns-in-Read-clause-kept
returns-in-Read-clause-kept c = λ counts.
    rw c.in-Read.is (replaces_read counts c.args.harts c.args.page.now.items _ c.args.at c.args.slot.now c.requires.after c.requires.hart
    (get_here c.args.page.now.items (c.args.at + 1 + c.args.slot.now.hart) c.args.slot.now (omega (arith, c.requires.within, c.requires.hart, c.args.page.now.ok)))
    (λ j apart. get_there c.args.page.now.items (c.args.at + 1 + c.args.slot.now.hart) j c.args.slot.now apart))

pub returns-in-Read-clause-below : goal.returns-in-Read-clause-below
returns-in-Read-clause-below c = λ counts place low.
    word_same counts c.args.harts c.args.page.now.items _ place
    (λ j from to. get_there c.args.page.now.items (c.args.at + 1 + c.args.slot.now.hart) j c.args.slot.now (λ e. omega (arith, e, low, to)))

pub returns-in-Read-clause-above : goal.returns-in-Read-clause-above
returns-in-Read-clause-above c = λ counts place high.
    word_same counts c.args.harts c.args.page.now.items _ place
    (λ j from to. get_there c.args.page.now.items (c.args.at + 1 + c.args.slot.now.hart) j c.args.slot.now (λ e. omega (arith, e, high, from, c.requires.hart)))

pub returns-in-Read-clause-settled : goal.returns-in-Read-clause-settled
returns-in-Read-clause-settled c = λ table next zero own all.
    settled_set table next c.args.page.now.items (c.args.at + 1 + c.args.slot.now.hart) c.args.slot.now own all

pub returns-in-Write-clause-kept : goal.returns-in-Write-clause-kept
returns-in-Write-clause-kept c = λ counts.
    rw c.in-Write.is (replaces_write counts c.args.harts c.args.page.now.items c.write_in.new.page.items c.args.at c.args.slot.now c.requires.after
    c.write_in.ensures.own (λ j s low high e. (c.write_in.ensures.none j s low high e).0))

pub returns-in-Write-clause-below : goal.returns-in-Write-clause-below
returns-in-Write-clause-below c = λ counts place low.
    word_same counts c.args.harts c.args.page.now.items c.write_in.new.page.items place (λ j from to. c.write_in.ensures.below j (omega (arith, low, to)))

pub returns-in-Write-clause-above : goal.returns-in-Write-clause-above
returns-in-Write-clause-above c = λ counts place high.
    word_same counts c.args.harts c.args.page.now.items c.write_in.new.page.items place (λ j from to. c.write_in.ensures.above j (omega (arith, high, from)))
