use Rattle.race_log.proofs.Common.{◌<◌, ◌≡◌, ◌∙◌, true, arith, sym, ap, inl, inr, length, slice_get, false≢true, cases_lt, is_marked}
use Rattle.race_log.proofs.EpochLemmas.{marked_at, settled_on, can_begin, is_free}
use Rattle.race_log.proofs.epochs.Epochs.pass_used.Goals as goal

pub loop-place-preserved : goal.loop-place-preserved
loop-place-preserved c =
    let s = c.loop-place.self in
    let low : c.loop-place.place < length s.table.items = omega (arith, c.loop-place-test.true, c.loop-place.invariant.place, s.table.ok) in
    let used = marked_at s.table.items c.loop-place.place c.index.result.now low c.index.ensures in
    record {
      place = omega (arith, c.loop-place.invariant.place);
      table = c.loop-place.invariant.table;
      present = c.loop-place.invariant.present;
      settled = λ i t. settled_on s.table.items s.next i (c.loop-place.invariant.settled i t);
      ready = λ t.
          let same = c.loop-place.invariant.ready t in
          let free = is_free c.args.self.now.table.items c.args.self.now.next t in
          let at = ap (λ v. is_marked (slice_get v.items c.loop-place.place)) c.loop-place.invariant.table in
          let on = ap (λ n. is_marked (slice_get c.args.self.now.table.items n)) (sym c.loop-place.invariant.place ∙ same) in
          absurd (false≢true (sym (sym used ∙ (at ∙ (on ∙ free))) ∙ c.if-not-index.false));
      passed = λ i low high. elim (cases_lt i s.next) [
        | inl below ↦ c.loop-place.invariant.passed i low below
        | inr above ↦
            let here : is_marked (slice_get s.table.items c.loop-place.place) ≡ true = used ∙ c.if-not-index.false in
            let at = ap (λ v. is_marked (slice_get v.items c.loop-place.place)) c.loop-place.invariant.table in
            ap (λ k. is_marked (slice_get c.args.self.now.table.items k)) (omega (arith, above, high, c.loop-place.invariant.place)) ∙ (sym at ∙ here)
      ];
    }

pub returns-then-not-index-clause-room : goal.returns-then-not-index-clause-room
returns-then-not-index-clause-room c = λ low.
    let s = c.loop-place.self in
    let at = marked_at s.table.items c.loop-place.place c.index.result.now (omega (arith, low, c.loop-place.invariant.place)) c.index.ensures in
    can_begin s.table.items s.next low (ap (λ n. is_marked (slice_get s.table.items n)) c.loop-place.invariant.place ∙ (at ∙ c.if-not-index.true))
