use Rattle.race_log.proofs.Common.{◌≡◌, ◌+◌, ◌*◌, ◌∙◌, arith, subst, kept_in, kept_of_slot, KeepsAccess, Replaces, ◌≢◌, ℕ, inl, inr, sym, List, cases_eq, Kept}
use Rattle.race_log.proofs.SizeLemmas.{more_size}
use Rattle.race_log.proofs.words.KeptWords.keep_each.Goals as goal

-- Accesses kept of the words of a range.

keeps_more : (k : Kept) (first n : ℕ) (old mid new : ℕ → List Kept) → KeepsAccess k first n old mid
    → Replaces k (mid (first + 4 * n)) (new (first + 4 * n)) → ((w : ℕ) → w ≢ first + 4 * n → new w ≡ mid w) → KeepsAccess k first (n + 1) old new
keeps_more k first n old mid new h here others = record {
  inside = λ i low. elim (cases_eq i n) [
    | inl is ↦
        let same = h.outside (first + 4 * n) (λ j below e. omega (arith, e, below)) in
        subst (λ j. Replaces k (old (first + 4 * j)) (new (first + 4 * j))) (sym is) (subst (λ ks. Replaces k ks (new (first + 4 * n))) same here)
    | inr apart ↦
        subst (Replaces k (old (first + 4 * i))) (sym (others (first + 4 * i) (λ e. apart (omega (arith, e))))) (h.inside i (omega (arith, low, apart)))
  ];
  outside = λ w far. others w (far n (omega arith)) ∙ h.outside w (λ i low. far i (omega (arith, low)));
}

pub loop-i-preserved : goal.loop-i-preserved
loop-i-preserved c =
    let old = c.args.self.now in
    let mid = c.loop-i.self in
    let word = c.args.first + 4 * c.loop-i.i in
    record {
      harts = c.keep_at.ensures.harts ∙ c.loop-i.invariant.harts;
      epochs = c.keep_at.ensures.epochs ∙ c.loop-i.invariant.epochs;
      kept = keeps_more (kept_of_slot old.epochs c.args.mode c.args.slot.now) c.args.first c.loop-i.i (kept_in old) (kept_in mid) (kept_in c.keep_at.new.self)
          c.loop-i.invariant.kept
          (subst (λ s. Replaces (kept_of_slot s c.args.mode c.args.slot.now) (kept_in mid word) (kept_in c.keep_at.new.self word)) c.loop-i.invariant.epochs c.keep_at.ensures.kept)
          c.keep_at.ensures.others;
      size = more_size old mid c.keep_at.new.self c.loop-i.invariant.size c.keep_at.ensures.size;
      room = λ w. c.keep_at.ensures.room w ∙ c.loop-i.invariant.room w;
    }

pub returns-clause-kept : goal.returns-clause-kept
returns-clause-kept c =
    let all : c.loop-i.i ≡ c.args.count = omega (arith, c.loop-i-test.false, c.loop-i.auto.i-end) in
    subst (λ n. KeepsAccess (kept_of_slot c.args.self.now.epochs c.args.mode c.args.slot.now) c.args.first n (kept_in c.args.self.now) (kept_in c.loop-i.self)) all c.loop-i.invariant.kept
