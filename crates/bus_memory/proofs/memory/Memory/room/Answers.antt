use Rattle.bus_memory.proofs.Common.{arith, ◌≤◌, ◌+◌, ◌*◌, sym, subst, length, false≢true, Contents, HasPages, contents_of}
use Rattle.bus_memory.proofs.Laws.{length_words}
use Rattle.bus_memory.proofs.Ranges.{made_from_words}
use Rattle.bus_memory.proofs.memory.Memory.room.Goals as goal

pub find_memory-requires : goal.find_memory-requires
find_memory-requires c =
    let mapped : c.args.addr + 4 * c.args.count ≤ 4 * length (contents_of c.self.inside.pages.items).words = rw c.self.view_is c.requires.mapped in
    omega (arith, mapped, length_words c.self.inside.pages.items, c.self.inside.pages.ok, c.as_mut_slice.ensures.len)

pub returns-in_err-find_memory-clause-ready : goal.returns-in_err-find_memory-clause-ready
returns-in_err-find_memory-clause-ready c all =
    let pages : HasPages (contents_of c.self.inside.pages.items) c.args.addr c.args.count = subst (λ (d : Contents). HasPages d c.args.addr c.args.count) (sym c.self.view_is) all in
    let made = made_from_words c.self.inside.pages.items c.args.addr c.args.count c.requires.aligned (omega arith) pages in
    let ready = c.find_memory.ensures.ready (λ n low high. rw c.as_mut_slice.ensures.value (made n (omega (arith, low, c.page_of-first.ensures)) high)) in
    absurd (false≢true (rw c.in_err-find_memory.was at ready))
