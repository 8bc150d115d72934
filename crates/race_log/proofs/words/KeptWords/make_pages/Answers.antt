use Rattle.race_log.proofs.Common.{◌≢◌, ◌⊎◌, ◌<◌, ◌≤◌, ℕ, ◌∙◌, ◌+◌, ◌-◌, ◌*◌, ◌/◌, ◌%◌, ◌==◌, cond, [], arith, ap, length, inl, inr, false≢true, cases_eq, word_in, epoch_counts, page_of, place_of}
use Rattle.race_log.proofs.PagesLemmas.{room_at, room_is, some_page}
use Rattle.race_log.proofs.SizeLemmas.{makes_none}
use Rattle.race_log.proofs.words.KeptWords.make_pages.Goals as goal

pub returns-in_err-reach-clause-ready : goal.returns-in_err-reach-clause-ready
returns-in_err-reach-clause-ready c all =
    let old = c.args.self.now in
    let last = c.args.first + 4 * (c.args.count - 1) in
    let room = room_is (page_of old last) old.harts (all (c.args.count - 1) (omega arith)) in
    let low = some_page old.pages.items (last / 256) old.harts room in
    absurd (false≢true (c.in_err-reach.ensures.ready (omega (arith, low, old.pages.ok))))

pub loop-number-init : goal.loop-number-init
loop-number-init c =
    let old = c.args.self.now in
    let new = c.reach.new.self in
    record {
      harts = c.reach.ensures.harts;
      epochs = c.reach.ensures.epochs;
      same = λ w.
          ap (λ s. cond (w % 4 == 0) (word_in (epoch_counts s) new.harts (page_of new w) (place_of new.harts w)) []) c.reach.ensures.epochs
          ∙ (ap (λ harts. cond (w % 4 == 0) (word_in (epoch_counts old.epochs) harts (page_of new w) (place_of harts w)) []) c.reach.ensures.harts
          ∙ ap (λ page. cond (w % 4 == 0) (word_in (epoch_counts old.epochs) old.harts page (place_of old.harts w)) []) (c.reach.ensures.same (w / 256)));
      stays = λ w room.
          ap (λ page. length page == 64 * (new.harts + 1)) (c.reach.ensures.same (w / 256))
          ∙ (ap (λ harts. length (page_of old w) == 64 * (harts + 1)) c.reach.ensures.harts ∙ room);
      pages = c.reach.ensures.most;
      others = λ page out. ap length (c.reach.ensures.same page);
      count = c.in_ok-reach.ensures.count;
      limit = c.reach.ensures.limit;
      made = λ w low high. absurd (omega (arith, low, high));
    }

pub returns-in_err-make_page-clause-ready : goal.returns-in_err-make_page-clause-ready
returns-in_err-make_page-clause-ready c all =
    absurd (false≢true (c.in_err-make_page.ensures.ready (λ w e. c.loop-number.invariant.stays w
    (room_at c.args.self.now c.args.first c.args.count c.loop-number.number w c.requires.aligned (omega arith) all (omega arith) (omega arith) e))))

pub loop-number-preserved : goal.loop-number-preserved
loop-number-preserved c =
    let before = c.loop-number.invariant in
    let e = c.make_page.ensures in
    record {
      harts = e.harts ∙ before.harts;
      epochs = e.epochs ∙ before.epochs;
      same = λ w. e.same w ∙ before.same w;
      stays = λ w room. e.stays w (before.stays w room);
      pages = omega (arith, e.count, before.pages, c.make_page.new.self.pages.ok, c.loop-number.self.pages.ok);
      others = λ page out. e.others page (apart page out) ∙ before.others page (wider page out);
      count = omega (arith, e.count, before.count);
      limit = e.limit ∙ before.limit;
      made = λ w low high. elim (cases_eq (w / 256) c.loop-number.number) [
        | inl is ↦ c.in_ok-make_page.ensures.room w is
        | inr apart ↦ e.stays w (before.made w low (omega (arith, high, apart)))
      ];
    }
  where
    apart : (page : ℕ) → (page < c.args.first / 256) ⊎ (c.loop-number.number + 1 ≤ page) → page ≢ c.loop-number.number
    apart page (inl low) e = omega (arith, e, low)
    apart page (inr high) e = omega (arith, e, high)

    wider : (page : ℕ) → (page < c.args.first / 256) ⊎ (c.loop-number.number + 1 ≤ page) → (page < c.args.first / 256) ⊎ (c.loop-number.number ≤ page)
    wider page (inl low) = inl low
    wider page (inr high) = inr (omega (arith, high))

pub returns-then-count-eq0-clause-pages : goal.returns-then-count-eq0-clause-pages
returns-then-count-eq0-clause-pages c = makes_none c.args.first c.args.count c.args.self.now
