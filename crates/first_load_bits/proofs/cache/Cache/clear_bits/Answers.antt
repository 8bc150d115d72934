use Rattle.first_load_bits.proofs.Common.{sym, subst, Contents, RepresentsEvents, contents}
use Rattle.first_load_bits.proofs.Both.{clear_stands}
use Rattle.first_load_bits.proofs.cache.Cache.clear_bits.Goals as goal

pub returns-clause-stands : goal.returns-clause-stands
returns-clause-stands c = λ es h.
    clear_stands (contents c.self.inside) es c.self.invariant.kept c.self.invariant.kept_below (subst (λ (x : Contents). RepresentsEvents x es) (sym c.self.view_is) h)
