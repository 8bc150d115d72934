use Rattle.race_log.proofs.Common.{◌≡◌, ◌∙◌, ◌<◌, ◌≤◌, ◌+◌, ◌*◌, ◌/◌, ◌%◌, ◌==◌, cond, [], arith, sym, ap, subst, slice_get, slice_set, length, IsTrue, inl, inr, cases_eq, cases_lt, word_in, slots_of, is_settled, IsSettledPage, place_of, epoch_counts, length-set}
use Rattle.race_log.proofs.SizeLemmas.{slots_more}
use Rattle.race_log.proofs.PagesLemmas.{page_at, page_here, page_there, full_set, settled_page_set, remade, room_is, is_room}
use Rattle.race_log.proofs.words.KeptWords.make_page.Goals as goal

pub invariant_of-self : goal.invariant_of-self
invariant_of-self c =
    let pages = c.args.self.now.pages.items in
    let low : c.args.number < length pages = omega (arith, c.requires, c.args.self.now.pages.ok) in
    let was = page_at pages c.args.number c.index_mut.result.now low c.index_mut.ensures.value in
    let p = c.index_mut.result.now in
    let v = c.make_slots.new.page in
    let size = length-set pages c.args.number v in
    let here : length p.items ≤ length v.items = elim (cases_lt 0 (length p.items)) [
      | inl some ↦ (let same = ap length (c.make_slots.ensures.stays (omega (arith, some, p.ok))) in omega (arith, same))
      | inr none ↦ omega (arith, none)
    ] in
    let slots = slots_more pages (slice_set pages c.args.number v) (omega (arith, size)) (λ page. elim (cases_eq page c.args.number) [
      | inl e ↦
          let old = ap (λ n. length (slots_of (slice_get pages n))) e ∙ ap length was in
          let new = ap (λ n. length (slots_of (slice_get (slice_set pages c.args.number v) n))) e ∙ ap length (page_here pages c.args.number v low) in
          omega (arith, old, new, here)
      | inr far ↦ (let same = ap length (page_there pages c.args.number page v far) in omega (arith, same))
    ]) in
    record {
      few = c.args.self.now.few;
      few_pages = c.args.self.now.few_pages;
      full = full_set c.args.self.now.harts pages c.args.number v low
          (λ more. elim (cases_lt 0 (length p.items)) [
            | inl some ↦
                let same = c.make_slots.ensures.stays (omega (arith, some, p.ok)) in
                ap length same ∙ subst (λ xs. 0 < length xs → length xs ≡ 64 * (c.args.self.now.harts + 1)) was (c.args.self.now.full c.args.number) some
            | inr none ↦ c.make_slots.ensures.full (omega (arith, none, p.ok)) more
          ]) c.args.self.now.full;
      settled = settled_page_set c.args.self.now.epochs.table.items c.args.self.now.epochs.next pages c.args.number v low
          (elim (cases_lt 0 (length p.items)) [
            | inl some ↦
                let same = c.make_slots.ensures.stays (omega (arith, some, p.ok)) in
                subst (IsSettledPage c.args.self.now.epochs.table.items c.args.self.now.epochs.next) (was ∙ sym same) (c.args.self.now.settled c.args.number)
            | inr none ↦ λ at s e.
                subst (λ i. IsTrue (is_settled c.args.self.now.epochs.table.items c.args.self.now.epochs.next i)) (sym (c.make_slots.ensures.none (omega (arith, none, p.ok)) at s e).1) c.args.self.now.epochs.first
          ]) c.args.self.now.settled;
      few_epochs = omega (arith, size, slots, c.args.self.now.few_epochs);
      low_limit = omega (arith, size, slots, c.args.self.now.low_limit);
    }

pub returns-clause-same : goal.returns-clause-same
returns-clause-same c = λ w.
    let pages = c.args.self.now.pages.items in
    let low : c.args.number < length pages = omega (arith, c.requires, c.args.self.now.pages.ok) in
    let was = page_at pages c.args.number c.index_mut.result.now low c.index_mut.ensures.value in
    let p = c.index_mut.result.now in
    let v = c.make_slots.new.page in
    let counts = epoch_counts c.args.self.now.epochs in
    let harts = c.args.self.now.harts in
    ap (λ ks. cond (w % 4 == 0) ks []) (elim (cases_eq (w / 256) c.args.number) [
      | inl e ↦
          let here = ap (λ n. slots_of (slice_get (slice_set pages c.args.number v) n)) e ∙ page_here pages c.args.number v low in
          let there = ap (λ n. slots_of (slice_get pages n)) e ∙ was in
          ap (λ xs. word_in counts harts xs (place_of harts w)) here
          ∙ (remade counts harts p.items v.items (place_of harts w) (λ some. c.make_slots.ensures.stays (omega (arith, some, p.ok)))
          (λ none j s at. (c.make_slots.ensures.none (omega (arith, none, p.ok)) j s at).0)
          ∙ sym (ap (λ xs. word_in counts harts xs (place_of harts w)) there))
      | inr apart ↦ ap (λ xs. word_in counts harts xs (place_of harts w)) (page_there pages c.args.number (w / 256) v apart)
    ])

pub returns-clause-stays : goal.returns-clause-stays
returns-clause-stays c = λ w room.
    let pages = c.args.self.now.pages.items in
    let low : c.args.number < length pages = omega (arith, c.requires, c.args.self.now.pages.ok) in
    let was = page_at pages c.args.number c.index_mut.result.now low c.index_mut.ensures.value in
    let p = c.index_mut.result.now in
    let v = c.make_slots.new.page in
    elim (cases_eq (w / 256) c.args.number) [
      | inl e ↦
          let here = ap (λ n. slots_of (slice_get (slice_set pages c.args.number v) n)) e ∙ page_here pages c.args.number v low in
          let there = ap (λ n. slots_of (slice_get pages n)) e ∙ was in
          let size = sym (ap length there) ∙ room_is (slots_of (slice_get pages (w / 256))) c.args.self.now.harts room in
          let same = c.make_slots.ensures.stays (omega (arith, size, p.ok)) in
          is_room (slots_of (slice_get (slice_set pages c.args.number v) (w / 256))) c.args.self.now.harts (ap length here ∙ (ap length same ∙ size))
      | inr apart ↦ is_room (slots_of (slice_get (slice_set pages c.args.number v) (w / 256))) c.args.self.now.harts (ap length (page_there pages c.args.number (w / 256) v apart) ∙ room_is (slots_of (slice_get pages (w / 256))) c.args.self.now.harts room)
    ]

pub returns-clause-ready : goal.returns-clause-ready
returns-clause-ready c = λ all.
    let pages = c.args.self.now.pages.items in
    let low : c.args.number < length pages = omega (arith, c.requires, c.args.self.now.pages.ok) in
    let was = page_at pages c.args.number c.index_mut.result.now low c.index_mut.ensures.value in
    let p = c.index_mut.result.now in
    let is : 256 * c.args.number / 256 ≡ c.args.number = omega arith in
    let size = room_is (slots_of (slice_get pages (256 * c.args.number / 256))) c.args.self.now.harts (all (256 * c.args.number) is) in
    let here = sym (ap length was) ∙ (sym (ap (λ n. length (slots_of (slice_get pages n))) is) ∙ size) in
    c.make_slots.ensures.ready (omega (arith, here, p.ok))

pub returns-clause-others : goal.returns-clause-others
returns-clause-others c = λ page far. ap length (page_there c.args.self.now.pages.items c.args.number page c.make_slots.new.page far)
