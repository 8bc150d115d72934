use Rattle.race_log.proofs.Common.{◌≡◌, ◌<◌, ◌+◌, ◌==◌, if◌then◌else◌, ℕ, length, ◌∙◌, arith, refl, sym, ap, inl, inr, subst, slice_get, slice_set, cases_eq, count_of, present_counts, counts_at}
use Rattle.race_log.proofs.AccessLemmas.{read_times, set_apart}
use Rattle.race_log.proofs.Steps.{counts_here, counts_there}
use Rattle.race_log.proofs.shadow.Shadow.note_alone.Goals as goal

pub returns : goal.returns
returns c =
    let old = c.args.self.now in
    let some : 0 < old.harts = omega (arith, c.requires.alone) in
    let known = read_times old 0 c.index_mut.result.now some c.index_mut.ensures.value in
    let place : 0 < length old.times.items = omega (arith, some, old.each_hart, old.times.ok) in
    record {
      own = λ h. counts_here old.times.items 0 c.set.new.self place h
          ∙ (c.set.ensures h ∙ ap (λ x. if h == 0 then c.args.ic + 1 else x) (ap (λ (f : ℕ → ℕ). f h) (sym known)));
      others = λ other apart h. counts_there old.times.items 0 other c.set.new.self apart h;
      kept = λ w. refl;
      harts = refl;
      lasting = refl;
      turns = refl;
    }

pub invariant_of-self : goal.invariant_of-self
invariant_of-self c =
    let old = c.args.self.now in
    let some : 0 < old.harts = omega (arith, c.requires.alone) in
    let place : 0 < length old.times.items = omega (arith, some, old.each_hart, old.times.ok) in
    record {
      same_harts = old.same_harts;
      some_hart = old.some_hart;
      few_harts = old.few_harts;
      each_hart = old.each_hart;
      present = λ g h low apart. elim (cases_eq g 0) [
        | inl same ↦
            let known = read_times old 0 c.index_mut.result.now some c.index_mut.ensures.value in
            subst (λ k. present_counts old.words.epochs k h ≡ counts_at (slice_get (slice_set old.times.items 0 c.set.new.self) k) h) (sym same)
            (old.present 0 h some (λ e. apart (e ∙ sym same))
            ∙ (ap (λ (f : ℕ → ℕ). f h) known
            ∙ (sym (set_apart 0 (c.args.ic + 1) (count_of c.index_mut.result.now) (count_of c.set.new.self) c.set.ensures h (λ e. apart (e ∙ sym same)))
            ∙ sym (counts_here old.times.items 0 c.set.new.self place h))))
        | inr other ↦ old.present g h low apart ∙ sym (counts_there old.times.items 0 g c.set.new.self other h)
      ];
      room = old.room;
    }
