use Rattle.bus_memory.proofs.Common.{arith, ◌<◌, ◌*◌, ◌∙◌, length, contents_of}
use Rattle.bus_memory.proofs.Laws.{length_words, word_in}
use Rattle.bus_memory.proofs.memory.Memory.word.Goals as goal

pub index-requires : goal.index-requires
index-requires c =
    let mapped : c.args.addr < 4 * length (contents_of c.self.inside.pages.items).words = rw c.self.view_is c.requires.mapped in
    omega (arith, mapped, length_words c.self.inside.pages.items, c.self.inside.pages.ok)

pub returns-clause-value : goal.returns-clause-value
returns-clause-value c =
    let mapped : c.args.addr < 4 * length (contents_of c.self.inside.pages.items).words = rw c.self.view_is c.requires.mapped in
    rw (← c.self.view_is) (c.word.ensures ∙ word_in c.self.inside.pages.items c.page_of.result c.place_of.result c.args.addr c.index.result.now c.page_of.ensures c.place_of.ensures (omega (arith, mapped, length_words c.self.inside.pages.items)) c.index.ensures)

pub returns-clause-map : goal.returns-clause-map
returns-clause-map c m holds = returns-clause-value c ∙ holds.at c.args.addr c.requires.aligned c.requires.mapped
