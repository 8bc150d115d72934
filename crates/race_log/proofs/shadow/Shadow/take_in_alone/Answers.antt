use Rattle.race_log.proofs.Common.{◌≡◌, ◌<◌, ◌+◌, ◌-◌, ◌==◌, if◌then◌else◌, ℕ, length, ◌∙◌, arith, refl, sym, ap, inl, inr, subst, Option, Some, None, slice_get, slice_set, cases_eq, count_of, is_write, gathered, sources, counts_after, times_of, kept_of, present_counts, counts_at}
use Rattle.race_log.proofs.AccessLemmas.{read_times, set_apart}
use Rattle.race_log.proofs.SizeLemmas.{same_size}
use Rattle.race_log.proofs.Steps.{counts_here, counts_there}
use Rattle.race_log.proofs.shadow.Shadow.take_in_alone.Goals as goal

pub returns : goal.returns
unfolding sources counts_after
returns c = λ first n mode.
    let old = c.args.self.now in
    let known = read_times old c.args.hart c.index_mut.result.now c.requires.hart c.index_mut.ensures.value in
    let place : c.args.hart < length old.times.items = omega (arith, c.requires.hart, old.each_hart, old.times.ok) in
    let kept = gathered (kept_of old) first n in
    let none = ap length c.clear.ensures in
    record {
      edges = c.clear.ensures ∙ ap (λ m. sources c.args.hart (is_write mode) (m - 1) (times_of old c.args.hart) kept) (sym c.requires.alone);
      few = omega (arith, none, old.some_hart);
      own = λ h. counts_here old.times.items c.args.hart c.set.new.self place h
          ∙ (c.set.ensures h
          ∙ ap (λ x. if h == c.args.hart then c.args.ic + 1 else x)
          (ap (λ (f : ℕ → ℕ). f h) (sym known) ∙ ap (λ m. counts_after c.args.hart (is_write mode) (m - 1) (times_of old c.args.hart) kept h) (sym c.requires.alone)));
      others = λ other apart h. counts_there old.times.items c.args.hart other c.set.new.self apart h;
      one = record { hart = c.args.hart; ic = c.args.ic; turn = c.args.turn; mode = mode; times = count_of c.set.new.self };
      at_turn = refl;
      by_hart = refl;
      at_count = refl;
      with_mode = refl;
      with_times = λ h. sym (counts_here old.times.items c.args.hart c.set.new.self place h);
      many = λ more. absurd (omega (arith, more, c.requires.alone));
      alone = λ one w. refl;
      harts = refl;
      lasting = refl;
      turns = refl;
      reserved = refl;
      unswept = c.saturating_add-self.ensures;
      size = same_size old.words;
    }

pub invariant_of-self : goal.invariant_of-self
invariant_of-self c =
    let old = c.args.self.now in
    record {
      same_harts = old.same_harts;
      some_hart = old.some_hart;
      few_harts = old.few_harts;
      each_hart = old.each_hart;
      present = λ g h low apart. elim (cases_eq g c.args.hart) [
        | inl same ↦
            let place : c.args.hart < length old.times.items = omega (arith, c.requires.hart, old.each_hart, old.times.ok) in
            let known = read_times old c.args.hart c.index_mut.result.now c.requires.hart c.index_mut.ensures.value in
            subst (λ k. present_counts old.words.epochs k h ≡ counts_at (slice_get (slice_set old.times.items c.args.hart c.set.new.self) k) h) (sym same)
            (old.present c.args.hart h c.requires.hart (λ e. apart (e ∙ sym same))
            ∙ (ap (λ (f : ℕ → ℕ). f h) known
            ∙ (sym (set_apart c.args.hart (c.args.ic + 1) (count_of c.index_mut.result.now) (count_of c.set.new.self) c.set.ensures h (λ e. apart (e ∙ sym same)))
            ∙ sym (counts_here old.times.items c.args.hart c.set.new.self place h))))
        | inr other ↦ old.present g h low apart ∙ sym (counts_there old.times.items c.args.hart g c.set.new.self other h)
      ];
      room = λ r is. absurd (none is);
    }
  where
    none : {r : ℕ × ℕ} → ◌≡◌ {A = Option (ℕ × ℕ)} None (Some r) → ⊥
    none e = cc
