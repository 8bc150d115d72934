use Rattle.hart_replay.proofs.Common.{◌≡◌, ◌≤◌, ◌/◌, ◌%◌, sym, ◌∙◌, ap, arith, length, slice_get, List, Option, None, Some, refl, nat_tests, slice_get_read, slice_get_past, page_in, place_for, Frame, Known, word_of, word_at, TaggedPage}
use Rattle.hart_replay.proofs.Listed.{word_found, own_number, other_number}
use Rattle.hart_replay.proofs.words.Words.get.Goals as goal

pub returns-in-None : goal.returns-in-None
returns-in-None c =
    let a = c.args.addr / 4 in
    let items = c.self.inside.pages.items in
    let seen = ap (λ (w : Known). word_at w.pages a) (sym c.self.view_is) ∙ word_found (place_for c.self.inside.directory) items c.place.result a (omega (arith, c.ranges.addr.fits)) c.place.ensures in
    let past : length c.deref.result.now ≤ c.place.result = (let l = c.in-None.ensures.lookup in grind (arith, nat_tests)) in
    let none : slice_get items c.place.result ≡ None = ap (λ (xs : List TaggedPage). slice_get xs c.place.result) (sym c.deref.ensures.value) ∙ slice_get_past c.deref.result.now c.place.result past in
    sym (seen ∙ ap (λ (o : Option TaggedPage). word_of (page_in o (a / 64)) (a % 64)) none)

pub returns-then-found-page : goal.returns-then-found-page
returns-then-found-page c =
    let a = c.args.addr / 4 in
    let items = c.self.inside.pages.items in
    let p = c.in-Some.found.now in
    let seen = ap (λ (w : Known). word_at w.pages a) (sym c.self.view_is) ∙ word_found (place_for c.self.inside.directory) items c.place.result a (omega (arith, c.ranges.addr.fits)) c.place.ensures in
    let got : slice_get items c.place.result ≡ Some p = ap (λ (xs : List TaggedPage). slice_get xs c.place.result) (sym c.deref.ensures.value) ∙ slice_get_read c.deref.result.now _ c.place.result p refl c.in-Some.ensures.lookup.3.0 c.in-Some.ensures.lookup.1 in
    c.word.ensures ∙ sym (seen ∙ ap (λ (o : Option TaggedPage). word_of (page_in o (a / 64)) (a % 64)) got ∙ ap (λ (f : Option Frame). word_of f (a % 64)) (own_number p (a / 64) c.if-found-page.true))

pub returns-else-found-page : goal.returns-else-found-page
returns-else-found-page c =
    let a = c.args.addr / 4 in
    let items = c.self.inside.pages.items in
    let p = c.in-Some.found.now in
    let seen = ap (λ (w : Known). word_at w.pages a) (sym c.self.view_is) ∙ word_found (place_for c.self.inside.directory) items c.place.result a (omega (arith, c.ranges.addr.fits)) c.place.ensures in
    let got : slice_get items c.place.result ≡ Some p = ap (λ (xs : List TaggedPage). slice_get xs c.place.result) (sym c.deref.ensures.value) ∙ slice_get_read c.deref.result.now _ c.place.result p refl c.in-Some.ensures.lookup.3.0 c.in-Some.ensures.lookup.1 in
    sym (seen ∙ ap (λ (o : Option TaggedPage). word_of (page_in o (a / 64)) (a % 64)) got ∙ ap (λ (f : Option Frame). word_of f (a % 64)) (other_number p (a / 64) c.if-found-page.false))
