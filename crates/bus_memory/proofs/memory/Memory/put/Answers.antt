use Rattle.bus_memory.proofs.Common.{arith, ◌≡◌, ◌<◌, ◌*◌, ◌/◌, ◌∙◌, sym, ap, subst, true, length, length-set, Contents, has_page, HoldsMap, updated, contents_of}
use Rattle.bus_memory.proofs.Laws.{has_page_at, made_below, mapped_at, put_in, holds_put}
use Rattle.bus_memory.proofs.memory.Memory.put.Goals as goal

pub index_mut-requires : goal.index_mut-requires
index_mut-requires c =
    let made : has_page (contents_of c.self.inside.pages.items) c.args.addr ≡ true = rw c.self.view_is c.requires.made in
    let below = made_below c.self.inside.pages.items c.args.addr made in
    omega (arith, below, c.self.inside.pages.ok)

pub put-requires-clause-made : goal.put-requires-clause-made
put-requires-clause-made c =
    let made : has_page (contents_of c.self.inside.pages.items) c.args.addr ≡ true = rw c.self.view_is c.requires.made in
    has_page_at c.self.inside.pages.items c.page_of.result c.args.addr c.index_mut.result.now c.page_of.ensures (omega (arith, made_below c.self.inside.pages.items c.args.addr made)) c.index_mut.ensures.value ∙ made

pub returns-clause-value : goal.returns-clause-value
returns-clause-value c =
    let made : has_page (contents_of c.self.inside.pages.items) c.args.addr ≡ true = rw c.self.view_is c.requires.made in
    rw (← c.self.view_is) (put_in c.self.inside.pages.items c.page_of.result c.place_of.result c.args.addr c.args.value c.index_mut.result.now c.put.new.self c.page_of.ensures c.place_of.ensures (omega (arith, made_below c.self.inside.pages.items c.args.addr made)) c.index_mut.ensures.value c.put.ensures.len c.put.ensures.value)

pub returns-clause-size : goal.returns-clause-size
returns-clause-size c =
    ap (λ (d : Contents). length d.words) (returns-clause-value c) ∙ length-set c.args.self.now.words (c.args.addr / 4) c.args.value

pub returns-clause-map : goal.returns-clause-map
returns-clause-map c m holds =
    let made : has_page (contents_of c.self.inside.pages.items) c.args.addr ≡ true = rw c.self.view_is c.requires.made in
    let mapped : c.args.addr < 4 * length c.args.self.now.words = rw (← c.self.view_is) (mapped_at c.self.inside.pages.items c.args.addr (made_below c.self.inside.pages.items c.args.addr made)) in
    subst (λ (d : Contents). HoldsMap d.words (updated c.args.addr c.args.value m)) (sym (returns-clause-value c)) (holds_put c.args.self.now.words c.args.addr c.args.value m c.requires.aligned mapped holds)
