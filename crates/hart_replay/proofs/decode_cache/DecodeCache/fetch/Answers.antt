use Rattle.hart_replay.proofs.Common.{◌≡◌, sym, ◌∙◌, ap, slice_get, List, Some, refl, slice_get_read, fetched, CacheOf, Lookup}
use Rattle.hart_replay.proofs.Lookups.{kept_fetched}
use Rattle.hart_replay.proofs.decode_cache.DecodeCache.fetch.Goals as goal

pub returns-in-Some-clause-value : goal.returns-in-Some-clause-value
returns-in-Some-clause-value c =
    let kept = c.in-Some.kept.now in
    let s = c.args.state.now in
    let got : slice_get c.self.inside.kept.items c.slot_of.result ≡ Some kept = ap (λ (xs : List Lookup). slice_get xs c.slot_of.result) (sym c.deref.ensures.value) ∙ slice_get_read c.deref.result.now _ c.slot_of.result kept refl c.in-Some.ensures.lookup.3.0 c.in-Some.ensures.lookup.1 in
    kept_fetched c.self.inside.image.now c.args.hart s kept (c.self.invariant _ kept got) c.if-kept-state.true
    ∙ ap (λ (p : CacheOf). fetched c.args.hart p.now s) c.self.view_is
