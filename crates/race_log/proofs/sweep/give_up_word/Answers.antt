use Rattle.std.proofs.Common.{◌∙◌, arith}
use Rattle.race_log.proofs.PageLemmas.{word_same}
use Rattle.race_log.proofs.SweepLemmas.{gives_word}
use Rattle.race_log.proofs.sweep.give_up_word.Goals as goal

pub returns-clause-kept : goal.returns-clause-kept
returns-clause-kept c = λ counts.
    gives_word c.args.known.now counts c.args.harts c.args.page.now.items c.give_up_write-write.new.page.items c.give_up_reads-reads.new.page.items c.args.at
    c.give_up_write-write.result c.give_up_reads-reads.result (c.give_up_write-write.ensures.kept counts) c.give_up_write-write.ensures.others
    (c.give_up_reads-reads.ensures.kept counts) c.give_up_reads-reads.ensures.below

pub returns-clause-below : goal.returns-clause-below
returns-clause-below c = λ counts place low.
    word_same counts c.args.harts c.args.page.now.items c.give_up_reads-reads.new.page.items place
    (λ j from to. c.give_up_reads-reads.ensures.below j (omega (arith, low, to)) ∙ c.give_up_write-write.ensures.others j (λ e. omega (arith, e, low, to)))

pub returns-clause-above : goal.returns-clause-above
returns-clause-above c = λ counts place high.
    word_same counts c.args.harts c.args.page.now.items c.give_up_reads-reads.new.page.items place
    (λ j from to. c.give_up_reads-reads.ensures.above j (omega (arith, high, from)) ∙ c.give_up_write-write.ensures.others j (λ e. omega (arith, e, high, from)))
