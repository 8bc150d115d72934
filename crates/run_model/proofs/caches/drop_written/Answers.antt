use Rattle.run_model.proofs.Common.{length, subst, sym, dropped, IsDropped}
use Rattle.race_log.specs.declared.mode.Mode.{Mode}
use Rattle.run_model.proofs.caches.drop_written.Goals as goal

pub returns-in-Write : goal.returns-in-Write
returns-in-Write c =
    subst (λ (m : Mode). IsDropped c.args.spared (dropped (record { first = c.args.span.first; count = c.args.span.count; mode = m })) (length c.args.caches.now) c.args.caches.now c.drop_from_each.new.caches) (sym c.in-Write.is) c.drop_from_each.ensures
