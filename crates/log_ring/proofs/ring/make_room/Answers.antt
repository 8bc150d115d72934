use Rattle.log_ring.proofs.Common.{◌≡◌, ◌<◌, ◌≤◌, ◌∷◌, ap, ◌∙◌, sym, arith, length, records_in, total, kept}
use Rattle.log_ring.proofs.Cuts.{total-records_in}
use Rattle.log_ring.proofs.Fitting.{kept-over, kept-all}
use Rattle.log_ring.proofs.ring.make_room.Goals as goal

pub oldest-preserved : goal.oldest-preserved
oldest-preserved c =
    let now = c.oldest.bytes.items in
    let next = c.drop_oldest.new.bytes.items in
    let gone = c.drop_oldest.ensures.records in
    let over : c.args.room < length now = omega (arith, c.len.ensures.len, c.oldest-test.true) in
    let whole : total (gone.0 ∷ records_in next) ≡ length now = ap total (sym gone.1) ∙ total-records_in now c.oldest.invariant.whole in
    record {
      whole = c.drop_oldest.ensures.whole;
      capacity = c.drop_oldest.ensures.capacity ∙ c.oldest.invariant.capacity;
      records = sym (kept-over c.args.room gone.0 (records_in next) (omega arith)) ∙ ap (kept c.args.room) (sym gone.1) ∙ c.oldest.invariant.records;
      count = omega (arith, ap length gone.1, c.oldest.invariant.count);
      spent = omega (arith, c.oldest.invariant.spent, c.drop_oldest.ensures.shorter);
      few = λ close. omega (arith, c.oldest.invariant.spent, close, over);
    }

pub returns-clause-records : goal.returns-clause-records
returns-clause-records c =
    let now = c.oldest.bytes.items in
    let under : total (records_in now) ≤ c.args.room = omega (arith, total-records_in now c.oldest.invariant.whole, c.len.ensures.len, c.oldest-test.false) in
    sym (kept-all c.args.room (records_in now) under) ∙ c.oldest.invariant.records
