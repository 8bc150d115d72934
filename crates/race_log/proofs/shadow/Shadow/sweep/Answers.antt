use Rattle.race_log.proofs.Common.{◌≡◌, ◌∙◌, ℕ, Bool, ap, sym, subst, refl, not, filter, slice_get, kept_of, present_counts, counts_at}
use Rattle.race_log.proofs.Swept.{room_swept, stands_swept, both_have}
use Rattle.race_log.proofs.shadow.Shadow.sweep.Goals as goal

pub invariant_of-self : goal.invariant_of-self
invariant_of-self c =
    let old = c.args.self.now in
    record {
      same_harts = c.sweep.ensures.harts ∙ old.same_harts;
      some_hart = old.some_hart;
      few_harts = old.few_harts;
      each_hart = old.each_hart;
      present = λ g h low apart. subst (λ s. present_counts s g h ≡ counts_at (slice_get old.times.items g) h) (sym c.sweep.ensures.epochs) (old.present g h low apart);
      room = λ r is. room_swept old.words c.sweep.new.self c.sweep.ensures.harts c.sweep.ensures.epochs c.sweep.ensures.room r.0 r.1 (old.room r is);
    }

pub returns-clause-stands : goal.returns-clause-stands
returns-clause-stands c = λ run live_one.
    let old = c.args.self.now in
    stands_swept old _ c.args.live refl refl (λ hart other. refl) (both_have old.lasting c.args.live)
    (λ w. c.sweep.ensures.kept w ∙ ap (λ (f : ℕ → ℕ → Bool). filter (λ k. not (f k.hart k.ic)) (kept_of old w)) (λ i hart count. c.known_to_all-known.ensures hart count i)) run live_one

pub returns-clause-lasting : goal.returns-clause-lasting
returns-clause-lasting c = both_have c.args.self.now.lasting c.args.live
