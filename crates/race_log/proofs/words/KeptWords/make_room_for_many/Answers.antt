use Rattle.race_log.proofs.Common.{◌<◌, ◌+◌, ◌*◌, ◌∙◌, ◌/◌, ◌%◌, slice_get, ◌==◌, cond, [], ap, sym, subst, length, IsTrue, ℕ, word_in, slots_of, epoch_counts, page_of, place_of}
use Rattle.std.proofs.lemmas.Result.{on_ok_weaker}
use Rattle.race_log.proofs.words.KeptWords.make_room_for_many.Goals as goal

pub returns-clause-same : goal.returns-clause-same
returns-clause-same c = λ w.
    let k = c.make_pages.new.self in
    let n = c.look_through.new.self in
    ap (λ counts. cond (w % 4 == 0) (word_in counts n.harts (page_of n w) (place_of n.harts w)) []) (λ i epoch h. c.make_room.ensures.counts epoch h i)
    ∙ (ap (λ counts. cond (w % 4 == 0) (word_in counts n.harts (page_of n w) (place_of n.harts w)) []) (λ i epoch h. c.look_through.ensures.counts epoch h i)
    ∙ (ap (λ p. cond (w % 4 == 0) (word_in (epoch_counts k.epochs) n.harts (slots_of (slice_get p.items (w / 256))) (place_of n.harts w)) []) c.look_through.ensures.pages
    ∙ (ap (λ harts. cond (w % 4 == 0) (word_in (epoch_counts k.epochs) harts (page_of k w) (place_of harts w)) []) c.look_through.ensures.harts
    ∙ c.make_pages.ensures.same w)))

pub returns-clause-room : goal.returns-clause-room
returns-clause-room c =
    let k = c.make_pages.new.self in
    let n = c.look_through.new.self in
    let pages = λ (i : ℕ) (low : i < c.args.count).
    subst (λ p. IsTrue (length (slots_of (slice_get p.items ((c.args.first + 4 * i) / 256))) == 64 * (n.harts + 1))) (sym c.look_through.ensures.pages)
    (subst (λ h. IsTrue (length (slots_of (slice_get k.pages.items ((c.args.first + 4 * i) / 256))) == 64 * (h + 1))) (sym c.look_through.ensures.harts)
    (c.in_ok-make_pages.ensures.room i low)) in
    on_ok_weaker c.make_room.result (λ free. record { pages = λ more. pages; epoch = λ more. free }) c.make_room.ensures.room
