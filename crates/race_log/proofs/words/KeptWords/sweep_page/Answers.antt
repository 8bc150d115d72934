use Rattle.race_log.proofs.Common.{◌≡◌, ◌∙◌, refl, ◌+◌, ◌*◌, ◌/◌, ◌%◌, ◌==◌, ◌<◌, ℕ, cond, [], List, arith, sym, ap, subst, slice_get, slice_set, length, inl, inr, cases_eq, length-set, Slot, word_in, slots_of, IsSettledPage, uncovered, epoch_counts, place_of}
use Rattle.race_log.proofs.PagesLemmas.{page_at, page_here, page_there, page_sum, full_set, settled_page_set}
use Rattle.race_log.proofs.SizeLemmas.{sizes_set, slots_same}
use Rattle.race_log.proofs.SweepLemmas.{uncovered_where}
use Rattle.race_log.proofs.words.KeptWords.sweep_page.Goals as goal

pub invariant_of-self : goal.invariant_of-self
invariant_of-self c =
    let old = c.args.self.now in
    let table = old.epochs.table.items in
    let low : c.args.number < length old.pages.items = omega (arith, c.requires, old.pages.ok) in
    let was = page_at old.pages.items c.args.number c.index_mut.result.now low c.index_mut.ensures.value in
    let v = c.give_up_page.new.page in
    let len = c.give_up_page.ensures.len in
    let count = length-set old.pages.items c.args.number v in
    let slots = slots_same old.pages.items (slice_set old.pages.items c.args.number v) count (sizes_set old.pages.items c.args.number v low (c.give_up_page.ensures.len ∙ sym (ap length was))) in
    record {
      few = old.few;
      few_pages = old.few_pages;
      full = full_set old.harts old.pages.items c.args.number v low
          (λ more. len ∙ subst (λ (xs : List Slot). 0 < length xs → length xs ≡ 64 * (old.harts + 1)) was (old.full c.args.number) (omega (arith, more, len))) old.full;
      settled = settled_page_set table old.epochs.next old.pages.items c.args.number v low
          (c.give_up_page.ensures.settled table old.epochs.next old.epochs.first old.epochs.first (subst (IsSettledPage table old.epochs.next) was (old.settled c.args.number))) old.settled;
      few_epochs = omega (arith, count, slots, old.few_epochs);
      low_limit = omega (arith, count, slots, old.low_limit);
    }

pub returns-clause-kept : goal.returns-clause-kept
returns-clause-kept c = λ w e.
    let old = c.args.self.now in
    let counts = epoch_counts old.epochs in
    let low : c.args.number < length old.pages.items = omega (arith, c.requires, old.pages.ok) in
    let was = page_at old.pages.items c.args.number c.index_mut.result.now low c.index_mut.ensures.value in
    let v = c.give_up_page.new.page in
    let place = place_of old.harts w in
    let there = ap (λ n. slots_of (slice_get old.pages.items n)) e ∙ was in
    let here = ap (λ n. slots_of (slice_get (slice_set old.pages.items c.args.number v) n)) e ∙ page_here old.pages.items c.args.number v low in
    uncovered_where c.args.known.now (w % 4 == 0) (word_in counts old.harts (slots_of (slice_get (slice_set old.pages.items c.args.number v) (w / 256))) place)
    (word_in counts old.harts (slots_of (slice_get old.pages.items (w / 256))) place)
    (ap (λ xs. word_in counts old.harts xs place) here
    ∙ (c.give_up_page.ensures.kept counts (w / 4 % 64) (omega arith) ∙ sym (ap (λ xs. uncovered c.args.known.now (word_in counts old.harts xs place)) there)))

pub returns-clause-others : goal.returns-clause-others
returns-clause-others c = λ w far.
    let old = c.args.self.now in
    ap (λ xs. cond (w % 4 == 0) (word_in (epoch_counts old.epochs) old.harts xs (place_of old.harts w)) []) (page_there old.pages.items c.args.number (w / 256) c.give_up_page.new.page far)

pub returns-clause-gone : goal.returns-clause-gone
returns-clause-gone c =
    let old = c.args.self.now in
    let counts = epoch_counts old.epochs in
    let low : c.args.number < length old.pages.items = omega (arith, c.requires, old.pages.ok) in
    let was = page_at old.pages.items c.args.number c.index_mut.result.now low c.index_mut.ensures.value in
    let v = c.give_up_page.new.page in
    let now = page_here old.pages.items c.args.number v low in
    ap (λ (n : ℕ). c.give_up_page.result + n) (page_sum counts old.harts (slice_set old.pages.items c.args.number v) c.args.number v.items now)
    ∙ (c.give_up_page.ensures.gone counts ∙ sym (page_sum counts old.harts old.pages.items c.args.number c.index_mut.result.now.items was))

pub returns-clause-room : goal.returns-clause-room
returns-clause-room c = λ w.
    let old = c.args.self.now in
    let low : c.args.number < length old.pages.items = omega (arith, c.requires, old.pages.ok) in
    let was = page_at old.pages.items c.args.number c.index_mut.result.now low c.index_mut.ensures.value in
    let v = c.give_up_page.new.page in
    let now = page_here old.pages.items c.args.number v low in
    ap (λ n. n == 64 * (old.harts + 1)) (elim (cases_eq (w / 256) c.args.number) [
      | inl e ↦
          ap (λ n. length (slots_of (slice_get (slice_set old.pages.items c.args.number v) n))) e
          ∙ (ap length now ∙ (c.give_up_page.ensures.len ∙ (sym (ap length was) ∙ sym (ap (λ n. length (slots_of (slice_get old.pages.items n))) e))))
      | inr far ↦ ap length (page_there old.pages.items c.args.number (w / 256) v far)
    ])

pub returns-clause-size : goal.returns-clause-size
returns-clause-size c =
    let old = c.args.self.now in
    let low : c.args.number < length old.pages.items = omega (arith, c.requires, old.pages.ok) in
    let was = page_at old.pages.items c.args.number c.index_mut.result.now low c.index_mut.ensures.value in
    let v = c.give_up_page.new.page in
    record {
      pages = length-set old.pages.items c.args.number v;
      slots = sizes_set old.pages.items c.args.number v low (c.give_up_page.ensures.len ∙ sym (ap length was));
      epochs = refl;
      limit = refl;
    }
