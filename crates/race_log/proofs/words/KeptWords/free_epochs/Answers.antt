use Rattle.race_log.proofs.Common.{◌≡◌, ◌∙◌, arith, sym, ap, subst, length, IsTrue, Some, slice_get, slice_index, inl, inr, cases_eq, is_marked, slots_of, slots_in, epoch_of, size_of, sum_below}
use Rattle.race_log.proofs.PagesLemmas.{page_at, slot_low}
use Rattle.race_log.proofs.EpochLemmas.{settled_low, settled_grown}
use Rattle.race_log.proofs.BoundLemmas.{all_marks}
use Rattle.race_log.proofs.SizeLemmas.{slots_same}
use Rattle.race_log.proofs.SweepLemmas.{sum_next}
use Rattle.race_log.proofs.words.KeptWords.free_epochs.Goals as goal

pub invariant_of-self : goal.invariant_of-self
invariant_of-self c =
    let old = c.args.self.now in
    record {
      few = old.few;
      few_pages = old.few_pages;
      full = old.full;
      settled = λ n at s e. settled_grown old.epochs.table.items c.begin_marks.new.self.table.items old.epochs.next c.begin_marks.new.self.next s.epoch
          c.requires c.begin_marks.ensures.full.0 (old.settled n at s e);
      few_epochs = omega (arith, c.begin_marks.ensures.full.1, old.few_epochs);
      low_limit = old.low_limit;
    }

pub loop-number-preserved : goal.loop-number-preserved
loop-number-preserved c =
    let mid = c.loop-number.self in
    let i = c.loop-number.invariant in
    let m = c.mark_page.ensures in
    record {
      harts = i.harts;
      pages = i.pages;
      counts = λ epoch h. m.counts epoch h ∙ i.counts epoch h;
      present = m.present ∙ i.present;
      next = m.full.0 ∙ i.next;
      size = m.full.1 ∙ i.size;
      few =
          let page = page_at mid.pages.items c.loop-number.number c.index.result.now (omega (arith, c.loop-number-test.true, ap (λ p. length p.items) i.pages, mid.pages.ok, c.args.self.now.pages.ok)) c.index.ensures in
          let size : length c.deref.result.now ≡ size_of c.args.self.now c.loop-number.number =
          ap length c.deref.ensures.value ∙ (sym (ap length page) ∙ ap (λ p. length (slots_of (slice_get p.items c.loop-number.number))) i.pages) in
          let next = sum_next (size_of c.args.self.now) c.loop-number.number in
          omega (arith, next, size, m.few, i.few);
      first = m.marks 0 i.first;
      own = λ hart. subst (λ p. IsTrue (is_marked (slice_get c.mark_page.new.epochs.table.items (slice_index p hart)))) (sym m.present) (m.marks (epoch_of mid.epochs hart) (i.own hart));
      marked = λ n at s low e. elim (cases_eq n c.loop-number.number) [
        | inr apart ↦ m.marks s.epoch (i.marked n at s (omega (arith, low, apart)) e)
        | inl is ↦
            let slots = subst (λ k. slice_get (slots_of (slice_get c.args.self.now.pages.items k)) at ≡ Some s) is e in
            let here = subst (λ p. slice_get (slots_of (slice_get p.items c.loop-number.number)) at ≡ Some s) (sym i.pages) slots in
            let page = page_at mid.pages.items c.loop-number.number c.index.result.now (omega (arith, c.loop-number-test.true, ap (λ p. length p.items) i.pages, mid.pages.ok, c.args.self.now.pages.ok)) c.index.ensures in
            let own = mid.settled c.loop-number.number at s here in
            let found = subst (λ xs. slice_get xs at ≡ Some s) (page ∙ sym c.deref.ensures.value) here in
            m.marked at s found (settled_low mid.epochs.table.items mid.epochs.next s.epoch mid.epochs.within own)
      ];
    }

pub invariant_of-self-3 : goal.invariant_of-self-3
invariant_of-self-3 c =
    let mid = c.loop-number.self in
    let i = c.loop-number.invariant in
    let all : c.loop-number.number ≡ length mid.pages.items =
    omega (arith, c.loop-number-test.false, c.loop-number.auto.number-end, c.len-number-end.ensures, ap (λ p. length p.items) i.pages, mid.pages.ok, c.args.self.now.pages.ok) in
    record {
      few = mid.few;
      few_pages = mid.few_pages;
      full = mid.full;
      settled = λ n at s e.
          let was = subst (λ p. slice_get (slots_of (slice_get p.items n)) at ≡ Some s) i.pages e in
          c.restart.ensures.settled s.epoch (i.marked n at s (let low = slot_low c.args.self.now.pages.items n at s was in omega (arith, low, c.loop-number-test.false, c.loop-number.auto.number-end, c.args.self.now.pages.ok)) was);
      few_epochs = let size = ap (λ t. length t.items) c.restart.ensures.table in omega (arith, size, mid.few_epochs);
      low_limit =
          let slots : slots_in mid.pages.items ≡ sum_below (size_of c.args.self.now) c.loop-number.number =
          slots_same c.args.self.now.pages.items mid.pages.items (ap (λ p. length p.items) i.pages) (λ page. ap (λ p. length (slots_of (slice_get p.items page))) i.pages)
          ∙ ap (sum_below (size_of c.args.self.now)) (omega (arith, all, ap (λ p. length p.items) i.pages)) in
          omega (arith, slots, i.few, c.used-used.ensures.value, c.saturating_add-self.ensures, c.saturating_mul.ensures, c.saturating_add.ensures, c.len.ensures, mid.pages.ok);
    }

pub returns-clause-growth : goal.returns-clause-growth
returns-clause-growth c = λ all.
    let mid = c.loop-number.self in
    let size = ap (λ t. length t.items) c.restart.ensures.table in
    let used = all_marks mid.epochs.table.items (λ i low.
    subst (λ t. IsTrue (is_marked (slice_get t.items i))) c.restart.ensures.table
    (all i (omega (arith, c.restart.ensures.start)) (omega (arith, low, size)))) in
    let some = settled_low mid.epochs.table.items mid.epochs.next 0 mid.epochs.within mid.epochs.first in
    omega (arith, used, some, c.saturating_add-self.ensures, c.saturating_mul.ensures, c.saturating_add.ensures, c.used-used.ensures.value, size, mid.epochs.few)
