use Rattle.race_log.proofs.Common.{◌≡◌, ◌<◌, ◌+◌, ◌-◌, ◌*◌, ◌/◌, ◌==◌, ℕ, length, IsTrue, ltb-true, ◌∙◌, arith, refl, sym, ap, inl, inr, Option, Some, None, slice_get, slice_set, subst, cases_eq, count_of, is_write, gathered, sources, slots_of, kept_in, kept_now, present_counts, KeepsAccess, counts_at}
use Rattle.race_log.proofs.AccessLemmas.{read_times, set_times, times_kept, set_apart, not_less}
use Rattle.race_log.proofs.SizeLemmas.{more_size}
use Rattle.race_log.proofs.Steps.{counts_here, counts_there}
use Rattle.race_log.proofs.shadow.Shadow.take_in_among.Goals as goal

pub returns : goal.returns
returns c =
    let old = c.args.self.now in
    let known = read_times old c.args.hart c.index_mut-times.result.now c.requires.hart c.index_mut-times.ensures.value in
    let set = set_times old c.args.hart c.args.ic c.args.first c.args.count c.args.mode c.index_mut-times.result.now c.set.new.self known
    c.find_sources.new.times c.is_write.result c.is_write.ensures c.find_sources.ensures.counts c.set.ensures in
    let place : c.args.hart < length old.times.items = omega (arith, c.requires.hart, old.each_hart, old.times.ok) in
    let kept = gathered (kept_in old.words) c.args.first c.args.count in
    let same : kept_in c.go_on.new.self ≡ kept_in old.words = λ i w. c.go_on.ensures.kept w i in
    let k = kept_now c.go_on.new.self.epochs c.args.mode c.args.hart c.args.turn (c.args.ic + 1) in
    record {
      edges = c.find_sources.ensures.sources
          ∙ (ap (λ w. sources c.args.hart w (old.harts - 1) (count_of c.index_mut-times.result.now) kept) c.is_write.ensures
          ∙ ap (λ counts. sources c.args.hart (is_write c.args.mode) (old.harts - 1) counts kept) (sym known));
      few = omega (arith, c.find_sources.ensures.few, old.some_hart);
      own = λ h. counts_here old.times.items c.args.hart c.set.new.self place h ∙ set h;
      others = λ other apart h. counts_there old.times.items c.args.hart other c.set.new.self apart h;
      one = k;
      at_turn = refl;
      by_hart = refl;
      at_count = omega arith;
      with_mode = refl;
      with_times = λ h.
          times_kept c.args.hart (c.args.ic + 1) (present_counts c.go_on.new.self.epochs c.args.hart) (count_of c.find_sources.new.times) (count_of c.set.new.self) c.set.ensures c.go_on.ensures.own h
          ∙ sym (counts_here old.times.items c.args.hart c.set.new.self place h);
      many = λ more. subst (λ f. KeepsAccess k c.args.first c.args.count f (kept_in c.keep.new.self)) same
          (c.keep.ensures.many (omega (arith, more, old.same_harts, c.go_on.ensures.harts)));
      alone = λ one w. c.keep.ensures.alone (omega (arith, one, old.same_harts, c.go_on.ensures.harts)) w ∙ c.go_on.ensures.kept w;
      harts = refl;
      lasting = refl;
      turns = refl;
      reserved = refl;
      unswept = c.saturating_add-self.ensures;
      size = more_size old.words c.go_on.new.self c.keep.new.self c.go_on.ensures.size c.keep.ensures.size;
    }

pub invariant_of-self : goal.invariant_of-self
invariant_of-self c =
    let old = c.args.self.now in
    record {
      same_harts = c.keep.ensures.harts ∙ (c.go_on.ensures.harts ∙ old.same_harts);
      some_hart = old.some_hart;
      few_harts = old.few_harts;
      each_hart = old.each_hart;
      present = λ g h low apart. subst (λ s. present_counts s g h ≡ counts_at (slice_get (slice_set old.times.items c.args.hart c.set.new.self) g) h) (sym c.keep.ensures.epochs)
          (elim (cases_eq g c.args.hart) [
            | inl same ↦
                subst (λ k. present_counts c.go_on.new.self.epochs k h ≡ counts_at (slice_get (slice_set old.times.items c.args.hart c.set.new.self) k) h) (sym same)
                (c.go_on.ensures.own h (λ e. apart (e ∙ sym same))
                ∙ sym (counts_here old.times.items c.args.hart c.set.new.self (omega (arith, c.requires.hart, old.each_hart, old.times.ok)) h))
            | inr other ↦
                c.go_on.ensures.others g other h ∙ (old.present g h low apart ∙ sym (counts_there old.times.items c.args.hart g c.set.new.self other h))
          ]);
      room = λ r is. absurd (none is);
    }
  where
    none : {r : ℕ × ℕ} → ◌≡◌ {A = Option (ℕ × ℕ)} None (Some r) → ⊥
    none e = cc

pub go_on-requires-clause-room : goal.go_on-requires-clause-room
go_on-requires-clause-room c = λ learns.
    let some = ltb-true 0 c.count.result learns in
    (c.args.self.now.room (c.args.first, c.args.count) c.requires.reserved).epoch
    (omega (arith, some, c.count.ensures, c.find_sources.ensures.few, c.args.self.now.same_harts))

pub go_on-requires-clause-same : goal.go_on-requires-clause-same
go_on-requires-clause-same c = λ none h apart.
    let known = read_times c.args.self.now c.args.hart c.index_mut-times.result.now c.requires.hart c.index_mut-times.ensures.value in
    let empty = sym c.count.ensures ∙ not_less c.count.result none in
    c.args.self.now.present c.args.hart h c.requires.hart apart
    ∙ (ap (λ (f : ℕ → ℕ). f h) known ∙ (sym (c.find_sources.ensures.none empty h)
    ∙ sym (set_apart c.args.hart (c.args.ic + 1) (count_of c.find_sources.new.times) (count_of c.set.new.self) c.set.ensures h apart)))

pub keep-requires-clause-pages : goal.keep-requires-clause-pages
keep-requires-clause-pages c = λ more i low.
    let was = (c.args.self.now.room (c.args.first, c.args.count) c.requires.reserved).pages (omega (arith, more, c.go_on.ensures.harts)) in
    subst (λ p. IsTrue (length (slots_of (slice_get p.items ((c.args.first + 4 * i) / 256))) == 64 * (c.go_on.new.self.harts + 1))) (sym c.go_on.ensures.pages)
    (subst (λ n. IsTrue (length (slots_of (slice_get c.args.self.now.words.pages.items ((c.args.first + 4 * i) / 256))) == 64 * (n + 1))) (sym c.go_on.ensures.harts) (was i low))
