use Rattle.race_log.proofs.Common.{◌≡◌, ◌∙◌, refl, ◌+◌, ◌*◌, ◌/◌, ◌%◌, ◌==◌, arith, sym, ap, subst, slice_get, slice_set, length, inl, inr, cases_eq, length-set, Replaces, word_in, slots_of, IsSettledPage, place_of, epoch_counts, kept_of_slot}
use Rattle.race_log.proofs.PageLemmas.{places_apart}
use Rattle.race_log.proofs.SizeLemmas.{sizes_set, slots_same}
use Rattle.race_log.proofs.PagesLemmas.{page_at, page_here, page_there, full_set, settled_page_set, other_word, room_is, some_page, at_aligned}
use Rattle.race_log.proofs.words.KeptWords.keep_at.Goals as goal

pub keep_in-requires-clause-within : goal.keep_in-requires-clause-within
keep_in-requires-clause-within c =
    let old = c.args.self.now in
    let size = room_is (slots_of (slice_get old.pages.items (c.args.word / 256))) old.harts c.requires.room in
    let low = some_page old.pages.items (c.args.word / 256) old.harts size in
    let was = page_at old.pages.items (c.args.word / 256) c.index_mut.result.now low c.index_mut.ensures.value in
    let within = places_apart (c.args.word / 4 % 64) 64 old.harts (omega arith) in
    omega (arith, within, size, ap length was, c.place-at.ensures, c.index_mut.result.now.ok)

pub invariant_of-self : goal.invariant_of-self
invariant_of-self c =
    let old = c.args.self.now in
    let size = room_is (slots_of (slice_get old.pages.items (c.args.word / 256))) old.harts c.requires.room in
    let low = some_page old.pages.items (c.args.word / 256) old.harts size in
    let was = page_at old.pages.items (c.args.word / 256) c.index_mut.result.now low c.index_mut.ensures.value in
    let v = c.keep_in.new.page in
    let count = length-set old.pages.items (c.args.word / 256) v in
    let slots = slots_same old.pages.items (slice_set old.pages.items (c.args.word / 256) v) count (sizes_set old.pages.items (c.args.word / 256) v low (c.keep_in.ensures.len ∙ sym (ap length was))) in
    record {
      few = old.few;
      few_pages = old.few_pages;
      full = full_set old.harts old.pages.items (c.args.word / 256) v low (λ more. c.keep_in.ensures.len ∙ (sym (ap length was) ∙ size)) old.full;
      settled = settled_page_set old.epochs.table.items old.epochs.next old.pages.items (c.args.word / 256) v low
          (c.keep_in.ensures.settled old.epochs.table.items old.epochs.next old.epochs.first c.requires.settled
          (subst (IsSettledPage old.epochs.table.items old.epochs.next) was (old.settled (c.args.word / 256)))) old.settled;
      few_epochs = omega (arith, count, slots, old.few_epochs);
      low_limit = omega (arith, count, slots, old.low_limit);
    }

pub returns-clause-kept : goal.returns-clause-kept
returns-clause-kept c =
    let old = c.args.self.now in
    let counts = epoch_counts old.epochs in
    let k = kept_of_slot old.epochs c.args.mode c.args.slot.now in
    let size = room_is (slots_of (slice_get old.pages.items (c.args.word / 256))) old.harts c.requires.room in
    let low = some_page old.pages.items (c.args.word / 256) old.harts size in
    let was = page_at old.pages.items (c.args.word / 256) c.index_mut.result.now low c.index_mut.ensures.value in
    let v = c.keep_in.new.page in
    let now = page_here old.pages.items (c.args.word / 256) v low in
    let here = subst (λ at. Replaces k (word_in counts old.harts c.index_mut.result.now.items at) (word_in counts old.harts v.items at)) c.place-at.ensures (c.keep_in.ensures.kept counts) in
    let before = subst (λ xs. Replaces k (word_in counts old.harts xs (place_of old.harts c.args.word)) (word_in counts old.harts v.items (place_of old.harts c.args.word))) (sym was) here in
    let after = subst (λ xs. Replaces k (word_in counts old.harts (slots_of (slice_get old.pages.items (c.args.word / 256))) (place_of old.harts c.args.word)) (word_in counts old.harts xs (place_of old.harts c.args.word))) (sym now) before in
    at_aligned k c.args.word _ _ c.requires.aligned after

pub returns-clause-others : goal.returns-clause-others
returns-clause-others c = λ w apart.
    let old = c.args.self.now in
    let counts = epoch_counts old.epochs in
    let size = room_is (slots_of (slice_get old.pages.items (c.args.word / 256))) old.harts c.requires.room in
    let low = some_page old.pages.items (c.args.word / 256) old.harts size in
    let was = page_at old.pages.items (c.args.word / 256) c.index_mut.result.now low c.index_mut.ensures.value in
    let v = c.keep_in.new.page in
    let now = page_here old.pages.items (c.args.word / 256) v low in
    let moved : (w / 256 ≡ c.args.word / 256) → word_in counts old.harts v.items (place_of old.harts w) ≡ word_in counts old.harts c.index_mut.result.now.items (place_of old.harts w)
    → word_in counts old.harts (slots_of (slice_get (slice_set old.pages.items (c.args.word / 256) v) (w / 256))) (place_of old.harts w)
    ≡ word_in counts old.harts (slots_of (slice_get old.pages.items (w / 256))) (place_of old.harts w) =
    λ e same.
    ap (λ n. word_in counts old.harts (slots_of (slice_get (slice_set old.pages.items (c.args.word / 256) v) n)) (place_of old.harts w)) e
    ∙ (ap (λ xs. word_in counts old.harts xs (place_of old.harts w)) now ∙ (same
    ∙ (sym (ap (λ xs. word_in counts old.harts xs (place_of old.harts w)) was)
    ∙ sym (ap (λ n. word_in counts old.harts (slots_of (slice_get old.pages.items n)) (place_of old.harts w)) e)))) in
    other_word counts old.harts old.pages.items (slice_set old.pages.items (c.args.word / 256) v) c.args.word w c.requires.aligned apart
    (λ far. page_there old.pages.items (c.args.word / 256) (w / 256) v far)
    (λ e below. moved e (c.keep_in.ensures.below counts (place_of old.harts w) (omega (arith, below, c.place-at.ensures))))
    (λ e above. moved e (c.keep_in.ensures.above counts (place_of old.harts w) (omega (arith, above, c.place-at.ensures))))

pub returns-clause-room : goal.returns-clause-room
returns-clause-room c = λ w.
    let old = c.args.self.now in
    let size = room_is (slots_of (slice_get old.pages.items (c.args.word / 256))) old.harts c.requires.room in
    let low = some_page old.pages.items (c.args.word / 256) old.harts size in
    let was = page_at old.pages.items (c.args.word / 256) c.index_mut.result.now low c.index_mut.ensures.value in
    let v = c.keep_in.new.page in
    let now = page_here old.pages.items (c.args.word / 256) v low in
    ap (λ n. n == 64 * (old.harts + 1)) (elim (cases_eq (w / 256) (c.args.word / 256)) [
      | inl e ↦
          ap (λ n. length (slots_of (slice_get (slice_set old.pages.items (c.args.word / 256) v) n))) e
          ∙ (ap length now ∙ (c.keep_in.ensures.len ∙ (sym (ap length was) ∙ sym (ap (λ n. length (slots_of (slice_get old.pages.items n))) e))))
      | inr far ↦ ap length (page_there old.pages.items (c.args.word / 256) (w / 256) v far)
    ])

pub returns-clause-size : goal.returns-clause-size
returns-clause-size c =
    let old = c.args.self.now in
    let size = room_is (slots_of (slice_get old.pages.items (c.args.word / 256))) old.harts c.requires.room in
    let low = some_page old.pages.items (c.args.word / 256) old.harts size in
    let was = page_at old.pages.items (c.args.word / 256) c.index_mut.result.now low c.index_mut.ensures.value in
    let v = c.keep_in.new.page in
    record {
      pages = length-set old.pages.items (c.args.word / 256) v;
      slots = sizes_set old.pages.items (c.args.word / 256) v low (c.keep_in.ensures.len ∙ sym (ap length was));
      epochs = refl;
      limit = refl;
    }
