use Rattle.run_model.proofs.Common.{◌≡◌, List, Event, RepresentsEvents, drops}
use Rattle.run_model.proofs.caches.drop_words.Given as goal

abbrev pub invariant-loop-place : goal.invariant-loop-place
invariant-loop-place l = record {
  stands : (es : List Event) → RepresentsEvents l.fn.cache es → RepresentsEvents l.cache (drops l.first l.place es);
  geometry : l.cache.geometry ≡ l.fn.cache.geometry;
  steps : l.cache.steps ≡ l.fn.cache.steps;
}
