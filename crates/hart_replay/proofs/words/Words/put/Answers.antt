use Rattle.hart_replay.proofs.Common.{◌≡◌, ◌/◌, ◌==◌, sym, ◌∙◌, ap, arith, List, Some, true, false, if◌then◌else◌, get_or_from_slice_get, page_at, pages_of, place_for, stands_at, Known, word_at, TaggedPage}
use Rattle.std.proofs.lemmas.Result.{on_ok_weaker}
use Rattle.hart_replay.proofs.Listed.{word_set, word_more}
use Rattle.hart_replay.proofs.words.Words.put.Goals as goal

pub returns-then-stands_at-clause-word : goal.returns-then-stands_at-clause-word
returns-then-stands_at-clause-word c k =
    let a = c.args.addr / 4 in
    let items = c.self.inside.pages.items in
    let at = c.place-place.result in
    let stands : stands_at items at (a / 64) ≡ true = ap (λ (xs : List TaggedPage). stands_at xs at (a / 64)) (sym c.deref.ensures.value) ∙ sym c.stands_at.ensures ∙ c.if-stands_at.true in
    word_set (place_for c.self.inside.directory) items c.index_mut.result.now c.put.new.self at a (Some c.args.word) (omega (arith, c.ranges.addr.fits)) c.place-place.ensures stands
    (λ r e. sym (c.index_mut.ensures.value ∙ get_or_from_slice_get items at r c.index_mut.result.now e)) (λ j below. c.put.ensures j) k
    ∙ ap (λ (w : Known). if k == a then Some c.args.word else word_at w.pages k) c.self.view_is

pub returns-clause-word : goal.returns-clause-word
returns-clause-word c =
    let a = c.args.addr / 4 in
    let d = c.self.inside.directory in
    let items = c.self.inside.pages.items in
    let at = c.place-place.result in
    let stands : stands_at items at (a / 64) ≡ false = ap (λ (xs : List TaggedPage). stands_at xs at (a / 64)) (sym c.deref.ensures.value) ∙ sym c.stands_at.ensures ∙ c.if-stands_at.false in
    on_ok_weaker c.put-2.result
    (λ places k. ap (λ (xs : List TaggedPage). word_at (pages_of (page_at (place_for c.put-2.new.self) xs)) k) c.in_ok-push.ensures.items
    ∙ word_more (place_for d) (place_for c.put-2.new.self) items c.of_word.result at a c.len-end.result c.args.word (omega (arith, c.ranges.addr.fits)) c.place-place.ensures stands
    (omega (arith, c.len-end.ensures, c.self.inside.pages.ok)) c.of_word.ensures.number places c.of_word.ensures.word k
    ∙ ap (λ (w : Known). if k == a then Some c.args.word else word_at w.pages k) c.self.view_is)
    c.put-2.ensures.place
