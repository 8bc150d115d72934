use Rattle.hart_replay.proofs.Common.{◌≡◌, sym, ◌∙◌, ap, slice_get, List, Some, refl, subst, slice_get_read, Ask, Want, ask_of, CacheOf, Lookup}
use Rattle.hart_replay.specs.DecodeCaches.{IsQuietStep}
use Rattle.hart_replay.proofs.Lookups.{kept_fetched}
use Rattle.hart_replay.proofs.decode_cache.DecodeCache.do_quiet.Goals as goal

pub returns-in-Cut-clause-done : goal.returns-in-Cut-clause-done
returns-in-Cut-clause-done c =
    let kept = c.in-Some.kept.now in
    let s = c.args.state.now in
    let t = c.step_in_place.new.state in
    let i = c.self.inside.image.now in
    let got : slice_get c.self.inside.kept.items c.slot_of.result ≡ Some kept = ap (λ (xs : List Lookup). slice_get xs c.slot_of.result) (sym c.deref.ensures.value) ∙ slice_get_read c.deref.result.now _ c.slot_of.result kept refl c.in-Some.ensures.lookup.3.0 c.in-Some.ensures.lookup.1 in
    subst (λ (p : CacheOf). IsQuietStep p.now kept s t) c.self.view_is
    (record {
      does = subst (λ (k : Want). ◌≡◌ {A = Ask} (record { state = t; want = k }) (ask_of i 1 s)) c.in-Cut.is c.step_in_place.ensures;
      looked_up = λ h. kept_fetched i h s kept (c.self.invariant _ kept got) c.if-kept-state.true;
    })
