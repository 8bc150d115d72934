use Rattle.hart_replay.proofs.Common.{◌≡◌, ◌/◌, ◌==◌, sym, ◌∙◌, ap, arith, List, None, true, false, if◌then◌else◌, get_or_from_slice_get, place_for, stands_at, Known, word_at, TaggedPage}
use Rattle.hart_replay.proofs.Listed.{word_set, word_stays}
use Rattle.hart_replay.proofs.words.Words.forget.Goals as goal

pub returns-then-stands_at-clause-word : goal.returns-then-stands_at-clause-word
returns-then-stands_at-clause-word c k =
    let a = c.args.addr / 4 in
    let items = c.self.inside.pages.items in
    let at = c.place-place.result in
    let stands : stands_at items at (a / 64) ≡ true = ap (λ (xs : List TaggedPage). stands_at xs at (a / 64)) (sym c.deref.ensures.value) ∙ sym c.stands_at.ensures ∙ c.if-stands_at.true in
    word_set (place_for c.self.inside.directory) items c.index_mut.result.now c.forget.new.self at a None (omega (arith, c.ranges.addr.fits)) c.place-place.ensures stands
    (λ r e. sym (c.index_mut.ensures.value ∙ get_or_from_slice_get items at r c.index_mut.result.now e)) c.forget.ensures k
    ∙ ap (λ (w : Known). if k == a then None else word_at w.pages k) c.self.view_is

pub returns-else-stands_at-clause-word : goal.returns-else-stands_at-clause-word
returns-else-stands_at-clause-word c k =
    let a = c.args.addr / 4 in
    let items = c.self.inside.pages.items in
    let at = c.place-place.result in
    let stands : stands_at items at (a / 64) ≡ false = ap (λ (xs : List TaggedPage). stands_at xs at (a / 64)) (sym c.deref.ensures.value) ∙ sym c.stands_at.ensures ∙ c.if-stands_at.false in
    ap (λ (w : Known). word_at w.pages k) (sym c.self.view_is)
    ∙ word_stays (place_for c.self.inside.directory) items at a (omega (arith, c.ranges.addr.fits)) c.place-place.ensures stands k
    ∙ ap (λ (w : Known). if k == a then None else word_at w.pages k) c.self.view_is
